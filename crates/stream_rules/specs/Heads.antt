-- What stands at the head of a list of bytes: an undecided start, a bad one, or a good frame.
use Rattle.std.specs.Prelude.{ℕ, ◌+◌, ◌-◌, Bool, true, ◌&&◌, ◌||◌, cond, List, [], ◌∷◌, eqb, leb, ltb, length, take, drop, get_or, Ok, Err}
use Prim.Native.Char.{code}
use Rattle.rules.specs.Bytes.{every, text_byte}
use Rattle.rules.specs.Codes.{packet_length}
use Rattle.rules.specs.Status.{longest_report, report_length_in}
use Rattle.rules.specs.Sentences.{longest_payload, shortest_sentence}
use Rattle.rules.specs.Messages.{longest_body, shortest_message}
use Rattle.rules.specs.Answers.{replies, commands, messages, Read, read_one}
use Rattle.rules.specs.declared.Frame.{Frame}
use Rattle.stream_rules.specs.declared.Brackets.{Brackets}

-- Families 1 and 3 are SPE packets: they go by marks and a count. Families 2 and 4 are sentences and messages: they stand
-- between an opening and a closing byte, and only text bytes that are neither of the two stand between these. (What follows says
-- something of every number. One that is no family goes with family 2 here, and whoever reads refuses it before that can
-- matter.)
abbrev pub is_spe : ℕ → Bool
is_spe family = eqb family replies || eqb family commands

-- A sentence is `$`, a payload, `*` and four digits; a message is a caret, a body and a semicolon.
abbrev pub sentence_brackets : Brackets
sentence_brackets = record { opening = code "$"; closing = code "*"; most = longest_payload; tail = 4 }

abbrev pub message_brackets : Brackets
message_brackets = record { opening = code "^"; closing = code ";"; most = longest_body; tail = 0 }

abbrev pub brackets_of : ℕ → Brackets
brackets_of family = cond (eqb family messages) message_brackets sentence_brackets

-- so many bytes has a frame of the brackets around n others
abbrev pub around : Brackets → ℕ → ℕ
around k n = n + (k.tail + 2)

-- The longest frame: 76 bytes of an SPE reply, 6 of a command, 134 of a sentence, 40 of a message.
abbrev pub longest : ℕ → ℕ
longest family =
    cond (eqb family replies) longest_report
    (cond (eqb family commands) packet_length
    (around (brackets_of family) (brackets_of family).most))

-- The shortest frame: 6 bytes of an SPE packet with a code, 3 of a message with a single letter, 11 of a sentence with the
-- shortest payload; and the shortest of all families.
abbrev pub shortest : ℕ → ℕ
shortest family = cond (is_spe family) packet_length (cond (eqb family messages) shortest_message shortest_sentence)

abbrev pub shortest_frame : ℕ
shortest_frame = shortest_message

-- An SPE start is undecided while there are fewer than four bytes that match the three marks as far as they go, or three
-- marks and an allowed count with fewer bytes than that count needs: of a report 76 where a comma stands behind its checksum,
-- else 75. A count that is not allowed needs none.
abbrev pub mark_of : ℕ → ℕ
mark_of family = cond (eqb family commands) 0x55 0xAA

abbrev pub count_of : List ℕ → ℕ
count_of bs = get_or bs 3 0

abbrev pub needs : ℕ → List ℕ → ℕ
needs family bs = cond (eqb (count_of bs) 0x01) packet_length (cond (eqb family replies && eqb (count_of bs) 0x43) (report_length_in bs) 0)

unfoldable pub spe_undecided : ℕ → List ℕ → Bool
spe_undecided family bs =
    (ltb (length bs) 4 && every (eqb (mark_of family)) bs)
    || (leb 4 (length bs) && every (eqb (mark_of family)) (take 3 bs) && ltb (length bs) (needs family bs))

-- A start of a sentence is undecided while it is `$` and 0 to 128 payload bytes, perhaps with `*` and fewer than four
-- bytes after it; one of a message until its semicolon, a byte that may not stand in a body, or 39 bytes behind the caret.
-- Where there is no byte, nothing is decided.
abbrev pub is_inner : Brackets → ℕ → Bool
is_inner k b = text_byte k.opening k.closing b

unfoldable pub inner_run : Brackets → List ℕ → List ℕ
inner_run k [] = []
inner_run k (b ∷ bs) = cond (is_inner k b) (b ∷ inner_run k bs) []

abbrev pub open_end : Brackets → List ℕ → Bool
open_end k [] = true
open_end k (b ∷ bs) = eqb b k.closing && ltb (length bs) k.tail

abbrev pub bracket_undecided : Brackets → List ℕ → Bool
bracket_undecided k [] = true
bracket_undecided k (b ∷ bs) =
    eqb b k.opening && leb (length (inner_run k bs)) k.most && open_end k (drop (length (inner_run k bs)) bs)

unfoldable pub undecided : ℕ → List ℕ → Bool
undecided family bs = cond (is_spe family) (spe_undecided family bs) (bracket_undecided (brackets_of family) bs)

-- How long a frame at the head would be: as long as its start needs, or what stands between the brackets with these and what
-- is behind them. A count that is not allowed makes it 0, and no bytes are no frame.
abbrev pub length_at : ℕ → List ℕ → ℕ
length_at family bs = cond (is_spe family) (needs family bs) (around (brackets_of family) (length (inner_run (brackets_of family) (drop 1 bs))))

-- the head of a list: undecided, bad, or a good frame with its length
pub data Head : Type 0 where
  wait : Head
  bad : Head
  good : ℕ → Frame → Head

abbrev pub head_of : ℕ → Read → Head
head_of n (Ok f) = good n f
head_of n (Err e) = bad

unfoldable pub head : ℕ → List ℕ → Head
head family bs = cond (undecided family bs) wait (head_of (length_at family bs) (read_one family (take (length_at family bs) bs)))

-- at close, an undecided start is no frame
abbrev pub closed_head : Head → Head
closed_head wait = bad
closed_head bad = bad
closed_head (good n f) = good n f

abbrev pub at_close : (List ℕ → Head) → List ℕ → Head
at_close h bs = closed_head (h bs)
