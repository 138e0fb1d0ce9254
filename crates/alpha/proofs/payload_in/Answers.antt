-- `alpha::payload_in` meets its contract: its tests, one after the other, are those of a sentence. Assumes nothing.
use Rattle.std.proofs.Common.{◌≡◌, ℕ, ◌-◌, Bool, ◌&&◌, List, length, sym, ◌∙◌, ap}
use Rattle.rules.specs.Bytes.{part}
use Rattle.rules.specs.Sentences.{is_sentence}
use Rattle.alpha.specs.Payloads.{is_checked}
use Rattle.alpha.proofs.Frames.{too_short, too_long, no_dollar, no_star, the_payload, by_tests}
use Rattle.alpha.proofs.payload_in.Goals as goal
use Rattle.alpha.proofs.payload_in.Goals.{After-is_named, then-n-lt-SHORTEST_SENTENCE-via-then-n-lt-SHORTEST_SENTENCE, then-n-lt-SHORTEST_SENTENCE-via-else-n-lt-SHORTEST_SENTENCE+then-n-gt-LONGEST_SENTENCE, then-s-ne36-via-then-s-ne36, then-s-ne36-via-else-s-ne36+then-s-n-ne42, then-not-is_named-via-then-not-is_named, then-not-is_named-via-else-not-is_named+then-not-is_checked}

-- past the tests of the frame
abbrev payload : After-is_named → List ℕ
payload c = part 1 (length c.args.s.now - 5 - 1) c.args.s.now

abbrev check : After-is_named → List ℕ
check c = part (length c.args.s.now - 4) (length c.args.s.now - (length c.args.s.now - 4)) c.args.s.now

tested : (c : After-is_named) → is_sentence c.args.s.now ≡ c.is_named.result && is_checked (check c) (payload c)
tested c =
    by_tests c.args.s.now c.if-n-lt-SHORTEST_SENTENCE.false c.if-n-gt-LONGEST_SENTENCE.false c.if-s-ne36.false c.if-s-n-ne42.false
    ∙ ap (λ (b : Bool). b && is_checked (check c) (payload c)) (sym c.is_named.ensures)

pub returns-then-n-lt-SHORTEST_SENTENCE : goal.returns-then-n-lt-SHORTEST_SENTENCE
returns-then-n-lt-SHORTEST_SENTENCE c =
    elim c.then-n-lt-SHORTEST_SENTENCE.branch [
      | then-n-lt-SHORTEST_SENTENCE-via-then-n-lt-SHORTEST_SENTENCE w ↦ too_short c.args.s.now w.if-n-lt-SHORTEST_SENTENCE.true
      | then-n-lt-SHORTEST_SENTENCE-via-else-n-lt-SHORTEST_SENTENCE+then-n-gt-LONGEST_SENTENCE w ↦
          too_long c.args.s.now w.if-n-gt-LONGEST_SENTENCE.true
    ]

pub returns-then-s-ne36 : goal.returns-then-s-ne36
returns-then-s-ne36 c =
    elim c.then-s-ne36.branch [
      | then-s-ne36-via-then-s-ne36 w ↦ no_dollar c.args.s.now c.if-n-lt-SHORTEST_SENTENCE.false w.if-s-ne36.true
      | then-s-ne36-via-else-s-ne36+then-s-n-ne42 w ↦ no_star c.args.s.now c.if-n-lt-SHORTEST_SENTENCE.false w.if-s-n-ne42.true
    ]

pub returns-then-not-is_named : goal.returns-then-not-is_named
returns-then-not-is_named c =
    let past = (goal.at.returns-then-not-is_named c).After-is_named in
    elim c.then-not-is_named.branch [
      | then-not-is_named-via-then-not-is_named w ↦ rw w.if-not-is_named.true at (tested past)
      | then-not-is_named-via-else-not-is_named+then-not-is_checked w ↦
          tested past ∙ rw w.if-not-is_named.false (sym w.is_checked.ensures ∙ w.if-not-is_checked.true)
    ]

pub returns : goal.returns
returns c =
    let past = (goal.at.returns c).After-is_named in
    (tested past ∙ rw c.if-not-is_named.false (sym c.is_checked.ensures ∙ c.if-not-is_checked.false), the_payload c.args.s.now c.if-n-lt-SHORTEST_SENTENCE.false)
