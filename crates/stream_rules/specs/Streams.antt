-- The stream reader: its state, the answers of its calls, and its refusals in their order.
use Rattle.std.specs.Prelude.{ℕ, ◌+◌, ◌-◌, ◌%◌, ◌^◌, ◌≡◌, cond, not, List, [], ◌∷◌, ◌++◌, eqb, leb, length, take, replicate, pos, Result, Ok, Err}
use Rattle.rules.specs.Answers.{a_frame, more_wanted, now_done, accepted, Says, no, yes, is_family, kind_of, values}
use Rattle.rules.specs.Refusals.{no_family, is_closed, holds_too_much, number_for}
use Rattle.rules.specs.declared.Refusal.{Refusal}
use Rattle.rules.specs.declared.Refusal.TheVariants.{NoFamily, IsClosed, HoldsTooMuch}
use Rattle.rules.specs.declared.Frame.{Frame}
use Rattle.stream_rules.specs.Heads.{longest, head, at_close}
use Rattle.stream_rules.specs.Rule.{Look, ready, waiting, look, Call, gives, wants, call}
use Rattle.stream_rules.specs.declared.Reader.{Reader}
use Rattle.stream_rules.specs.declared.Progress.{Progress}
use Rattle.stream_rules.specs.declared.Progress.TheVariants.{Ready, More, Done}
use Rattle.stream_rules.specs.declared.Fed.{Fed}
use Rattle.stream_rules.specs.declared.Turned.{Turned}

-- The two counts wrap.
abbrev pub wrap : ℕ → ℕ
wrap n = n % 2 ^ 32

-- A reader holds one byte less than its family's longest frame: at most 75, 133, 5 or 39.
abbrev pub holds : ℕ → ℕ
holds family = longest family - 1

-- the held bytes of a state, whatever stands in its unused places
abbrev pub held_of : Reader → List ℕ
held_of r = take r.count r.held

-- There are 133 held places, whatever the family.
abbrev pub place_count : ℕ
place_count = 133

-- bytes in the held places, from the first on, with zeros in the unused ones
abbrev pub filled : List ℕ → List ℕ
filled bytes = bytes ++ replicate (place_count - length bytes) 0

-- the state that holds these bytes
abbrev pub holding : ℕ → ℕ → List ℕ → ℕ → ℕ → Reader
holding family closed bytes at skipped = record {
  family = family;
  closed = closed;
  count = length bytes;
  held = filled bytes;
  at = at;
  skipped = skipped;
}

-- What the answers say in the terms of document 01. A call gives a frame, wants more or is done. Its values: the bytes
-- taken; with a frame also its start, the bytes skipped, its length, and the frame's own values.
abbrev pub says_frame : ℕ → ℕ → ℕ → ℕ → Frame → Says
says_frame taken start skipped length f = yes (a_frame (kind_of f)) (pos taken ∷ pos start ∷ pos skipped ∷ pos length ∷ values f)

abbrev pub says_more : ℕ → Says
says_more taken = yes more_wanted (pos taken ∷ [])

abbrev pub says_done : ℕ → Says
says_done taken = yes now_done (pos taken ∷ [])

abbrev pub said_to_feed : Result Progress Refusal → Says
said_to_feed (Ok (Ready r)) = says_frame r.taken r.start r.skipped r.length r.frame
said_to_feed (Ok (More n)) = says_more n
said_to_feed (Ok (Done n)) = says_done n
said_to_feed (Err e) = no (number_for e)

abbrev pub said_to_turn : Result Unit Refusal → Says
said_to_turn (Ok u) = yes accepted []
said_to_turn (Err e) = no (number_for e)

-- A frame comes with its start and the bytes skipped since the last frame; the reader keeps what it took behind it.
abbrev pub hand_out : Reader → ℕ → ℕ → ℕ → Frame → List ℕ → Fed
hand_out r taken skipped n f kept = record {
  reader = holding r.family r.closed kept (wrap (r.at + (skipped + n))) 0;
  answer = Ok (Ready (record {
    taken = taken;
    start = wrap (r.at + skipped);
    skipped = wrap (r.skipped + skipped);
    length = n;
    frame = f;
  }));
}

-- Without a frame the skipped bytes are counted on.
abbrev pub go_on : Reader → ℕ → List ℕ → Progress → Fed
go_on r skipped kept progress = record {
  reader = holding r.family r.closed kept (wrap (r.at + skipped)) (wrap (r.skipped + skipped));
  answer = Ok progress;
}

-- A call on an open reader: a frame, or more wanted with the bytes from the first undecided start kept.
abbrev pub open_call : Reader → Call → Fed
open_call r (gives taken skipped n f kept) = hand_out r taken skipped n f kept
open_call r (wants taken skipped kept) = go_on r skipped kept (More taken)

-- A call on a closed reader that offers nothing drains it. Then it is done; none is kept, and what is dropped is skipped.
abbrev pub closed_call : Reader → Look → Fed
closed_call r (ready skipped n f behind) = hand_out r 0 skipped n f behind
closed_call r (waiting skipped rest) = go_on r skipped [] (Done 0)

abbrev pub refuse : Reader → Refusal → Fed
refuse r e = record { reader = r; answer = Err e }

-- What such calls say, which are never refused.
abbrev pub says_open : Reader → Call → Says
says_open r (gives taken skipped n f kept) = says_frame taken (wrap (r.at + skipped)) (wrap (r.skipped + skipped)) n f
says_open r (wants taken skipped kept) = says_more taken

abbrev pub says_closed : Reader → Look → Says
says_closed r (ready skipped n f behind) = says_frame 0 (wrap (r.at + skipped)) (wrap (r.skipped + skipped)) n f
says_closed r (waiting skipped rest) = says_done 0

-- A call: refusal 1, then 6, then 5 where bytes are offered to a closed reader; the state is then as before.
unfoldable pub fed : Reader → List ℕ → Fed
fed r offered =
    cond (not (is_family r.family)) (refuse r NoFamily)
    (cond (not (leb r.count (holds r.family))) (refuse r HoldsTooMuch)
    (cond (eqb r.closed 0) (open_call r (call (head r.family) (held_of r) offered))
    (cond (not (eqb (length offered) 0)) (refuse r IsClosed)
    (closed_call r (look (at_close (head r.family)) (held_of r))))))

pub record Feeds (r : Reader) (offered : List ℕ) (f : Fed) : Type 0 where
  pub answers : f ≡ fed r offered
  pub says : said_to_feed f.answer
      ≡ cond (not (is_family r.family)) (no no_family)
      (cond (not (leb r.count (holds r.family))) (no holds_too_much)
      (cond (eqb r.closed 0) (says_open r (call (head r.family) (held_of r) offered))
      (cond (not (eqb (length offered) 0)) (no is_closed)
      (says_closed r (look (at_close (head r.family)) (held_of r))))))

-- Closing: refusal 1, then 6. Closing twice is as once.
unfoldable pub shut : Reader → Turned
shut r =
    cond (not (is_family r.family)) (record { reader = r; outcome = Err NoFamily })
    (cond (not (leb r.count (holds r.family))) (record { reader = r; outcome = Err HoldsTooMuch })
    (record { reader = holding r.family 1 (held_of r) r.at r.skipped; outcome = Ok tt }))

pub record Shuts (r : Reader) (t : Turned) : Type 0 where
  pub answers : t ≡ shut r
  pub says : said_to_turn t.outcome
      ≡ cond (not (is_family r.family)) (no no_family)
      (cond (not (leb r.count (holds r.family))) (no holds_too_much)
      (yes accepted []))

-- A fresh reader of a family; where there is no such family, one that every call refuses.
unfoldable pub fresh : ℕ → Turned
fresh family =
    cond (is_family family) (record { reader = holding family 0 [] 0 0; outcome = Ok tt })
    (record { reader = holding 0 0 [] 0 0; outcome = Err NoFamily })

pub record Makes (family : ℕ) (t : Turned) : Type 0 where
  pub answers : t ≡ fresh family
  pub says : said_to_turn t.outcome ≡ cond (not (is_family family)) (no no_family) (yes accepted [])
