-- The lister, its second entry, and the order of two stamps.
use Rattle.std.specs.Prelude.{ℕ, ◌+◌, ◌-◌, ◌/◌, ◌%◌, ◌^◌, ◌≡◌, Bool, ◌&&◌, cond, not, List, [], ◌∷◌, ◌++◌, map, eqb, leb, ltb, length, drop, pos, Result, Ok, Err}
use Rattle.rules.specs.Answers.{starts_listed, Says, no, yes, is_family}
use Rattle.rules.specs.Refusals.{no_family, no_room, too_long, number_for}
use Rattle.rules.specs.declared.Refusal.{Refusal}
use Rattle.rules.specs.declared.Refusal.TheVariants.{NoFamily, NoRoom, TooLong}
use Rattle.std.specs.Borrow.{Bor}
use Rattle.rules.specs.Bytes.{part, PartOf}
use Rattle.stream_rules.specs.Heads.{shortest_frame, head, at_close}
use Rattle.stream_rules.specs.Rule.{Found, rule, look, by_look}
use Rattle.stream_rules.specs.declared.Order.{Order}
use Rattle.stream_rules.specs.declared.Order.TheVariants.{Earlier, Later, Equal, CannotSay}

-- the frames that demand 3's rule finds in a whole stream, and their starts
abbrev pub frames : ℕ → List ℕ → List Found
frames family bs = rule (head family) 0 0 0 bs

abbrev pub starts_of : List Found → List ℕ
starts_of fs = map (λ (f : Found). f.start) fs

-- A capture has at most 65,536 bytes.
abbrev pub longest_capture : ℕ
longest_capture = 65536

-- So it has room for at most 21,845 frames.
abbrev pub longest_list : ℕ
longest_list = longest_capture / shortest_frame

abbrev pub fits : List ℕ → Bool
fits capture = leb (length capture) longest_capture

-- The lister: refusal 1, then 7, then 4 where the list is shorter than the answer needs; else how many starts. They stand
-- at the front of the list, its rest is unchanged, and on a refusal all of it is.
abbrev pub listed : ℕ → List ℕ → List ℕ → Result ℕ Refusal
listed family capture out =
    cond (not (is_family family)) (Err NoFamily)
    (cond (not (fits capture)) (Err TooLong)
    (cond (not (leb (length (frames family capture)) (length out))) (Err NoRoom)
    (Ok (length (frames family capture)))))

abbrev pub said_to_list : Result ℕ Refusal → Says
said_to_list (Ok n) = yes starts_listed (pos n ∷ [])
said_to_list (Err e) = no (number_for e)

abbrev pub list_left : ℕ → List ℕ → List ℕ → List ℕ
list_left family capture out =
    cond (is_family family && fits capture && leb (length (frames family capture)) (length out))
    (starts_of (frames family capture) ++ drop (length (frames family capture)) out)
    out

pub record Lists (family : ℕ) (capture out : List ℕ) (answer : Result ℕ Refusal) (after : List ℕ) : Type 0 where
  pub answers : answer ≡ listed family capture out
  pub says : said_to_list answer
      ≡ cond (not (is_family family)) (no no_family)
      (cond (not (fits capture)) (no too_long)
      (cond (not (leb (length (frames family capture)) (length out))) (no no_room)
      (yes starts_listed (pos (length (frames family capture)) ∷ []))))
  pub content : after ≡ list_left family capture out

-- The bytes of the earliest good frame of a list of bytes, none where there is none; and its place.
abbrev pub first_frame : ℕ → List ℕ → List ℕ
first_frame family bs = by_look (look (at_close (head family)) bs) (λ k n f behind. part k n bs) (λ k rest. [])

abbrev pub first_place : ℕ → List ℕ → ℕ → ℕ
first_place family bs from = by_look (look (at_close (head family)) bs) (λ k n f behind. from + k) (λ k rest. 0)

-- The second entry: from a place on; also empty where the place is beyond the end, or refusal 1 or 7 would apply. The frame
-- is handed back as a part of the capture, and the empty part is the capture's front.
unfoldable pub frame_from : ℕ → List ℕ → ℕ → List ℕ
frame_from family capture place = cond (is_family family && fits capture && leb place (length capture)) (first_frame family (drop place capture)) []

unfoldable pub place_from : ℕ → List ℕ → ℕ → ℕ
place_from family capture place = cond (is_family family && fits capture && leb place (length capture)) (first_place family (drop place capture) place) 0

abbrev pub NextFrame : ℕ → Bor (List ℕ) → ℕ → Bor (List ℕ) → Type 0
NextFrame family capture place r = PartOf capture (place_from family capture.now place) (frame_from family capture.now place) r

-- Of two stamps a and b, a is earlier when b minus a modulo 2^32 is 1 to 2^31 - 1, later when it is above 2^31, equal at
-- 0, and it can't be said at exactly 2^31.
abbrev pub between_stamps : ℕ → ℕ → ℕ
between_stamps a b = (b + 2 ^ 32 - a) % 2 ^ 32

unfoldable pub order : ℕ → ℕ → Order
order a b =
    cond (eqb (between_stamps a b) 0) Equal
    (cond (ltb (between_stamps a b) (2 ^ 31)) Earlier
    (cond (eqb (between_stamps a b) (2 ^ 31)) CannotSay Later))
