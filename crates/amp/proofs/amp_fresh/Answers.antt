-- `amp::amp_fresh` meets its contract: the reader is a fresh one exactly where there is such a family.
-- Assumes nothing.
use Rattle.std.proofs.Common.{ℕ, ◌≡◌, Bool, true, false, cond, leb, refl, sym, ap, ◌∙◌}
use Rattle.std.specs.Result.{is_ok}
use Rattle.rules.specs.Answers.{is_family}
use Rattle.stream_rules.specs.Streams.{fresh, said_to_turn, Makes}
use Rattle.stream_rules.specs.declared.Reader.{Reader}
use Rattle.stream_rules.specs.declared.Turned.{Turned}
use Rattle.stream_laws.proofs.States.{fresh_1, fresh_call}
use Rattle.rows.specs.Rows.{refusal_of, outcome_number}
use Rattle.amp.specs.Boundary.{Freshens}
use Rattle.amp.proofs.Families.{fresh_byte}
use Rattle.amp.proofs.amp_fresh.Goals as goal
use Rattle.amp.proofs.amp_fresh.Goals.{then-is_ok, else-is_ok}

module _ (family byte : ℕ) (reader : Reader) (e : byte ≡ cond (leb family 255) family 0) (t : Turned) (p : Makes byte t) where
  made : t ≡ fresh family
  made = p.answers ∙ fresh_byte family byte e

  says : outcome_number t.outcome ≡ refusal_of (said_to_turn (fresh family).outcome)
  says = ap (λ (x : Turned). outcome_number x.outcome) made

  accepted : is_ok t.outcome ≡ is_family family
  accepted = ap (λ (x : Turned). is_ok x.outcome) made ∙ by_family (is_family family) refl
    where
      by_family : (b : Bool) → is_family family ≡ b → is_ok (fresh family).outcome ≡ is_family family
      by_family true f = rw (fresh_call family f, f)
      by_family false f = rw (fresh_1 family f, f)

  is_fresh : is_ok t.outcome ≡ true → Freshens family reader (outcome_number t.outcome) t.reader
  is_fresh ok = record { answers = says; leaves = ap (λ (x : Turned). x.reader) made ∙ rw (sym accepted ∙ ok) }

  as_it_was : is_ok t.outcome ≡ false → Freshens family reader (outcome_number t.outcome) reader
  as_it_was ok = record { answers = says; leaves = rw (sym accepted ∙ ok) }

pub returns : goal.returns
returns c =
    rw c.number_of.ensures
    (elim c.if-is_ok.branch [
      | then-is_ok w ↦ rw w.reader-is (is_fresh _ _ _ c.family_byte.ensures _ c.fresh_reader-made.ensures (sym c.is_ok.ensures.value ∙ w.if-is_ok.true))
      | else-is_ok w ↦ rw w.reader-is (as_it_was _ _ _ c.family_byte.ensures _ c.fresh_reader-made.ensures (sym c.is_ok.ensures.value ∙ w.if-is_ok.false))
    ])
