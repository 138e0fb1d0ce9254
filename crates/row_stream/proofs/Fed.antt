-- What a call and the row of its answer say of the reader that is left: where the row was laid, the one that the call
-- gives back, and else the one that it was made on.
-- Assumes nothing.
use Prim.Native.Nat.{ℕ, ◌≤◌}
use Rattle.rules.specs.declared.Refusal.{Refusal}
use Rattle.stream_rules.specs.declared.Progress.{Progress}
use Rattle.stream_rules.specs.declared.Progress.TheVariants.{Done, More, Ready}
use Rattle.std.specs.Prelude.{Err, Ok, Result}
use mathlib.Core.Path.{◌≡◌, refl, sym, ap, subst, ◌∙◌}
use mathlib.Core.Bool.{cond}
use mathlib.Core.List.{List}
use borrow.Author.Tests.{eq-eqb, ne_eqb}
use lib.Dec.{eqb, lit≤}
use lib.IntN.{ℤ}
use lib.ListN.{length}
use Rattle.stream_rules.specs.Streams.{said_to_feed, Feeds}
use Rattle.stream_rules.specs.declared.Reader.{Reader}
use Rattle.stream_rules.specs.declared.Fed.{Fed}
use Rattle.stream_laws.specs.Sessions.{is_no_refusal}
use Rattle.stream_laws.proofs.States.{refused_as_before}
use Rattle.rows.specs.Rows.{longest_row, row_fed, Lays}
use Rattle.rows.proofs.Lengths.{row_fits, room}
use Rattle.row_stream.specs.FedRows.{FeedsRow}

module _ (reader : Reader) (offered : List ℕ) (numbers : List ℤ) (f : Fed) (result : ℕ) (left : List ℤ)
    (feeds : Feeds reader offered f) (lays : Lays (said_to_feed f.answer) (row_fed f.answer) numbers result left) where
  row_of : (after : Reader) → after ≡ cond (eqb result 0) f.reader reader → FeedsRow reader offered numbers result after left
  row_of after e = record {
    lays = subst (λ (g : Fed). Lays (said_to_feed g.answer) (row_fed g.answer) numbers result left) feeds.answers lays;
    leaves = e ∙ ap (λ (g : Fed). cond (eqb result 0) g.reader reader) feeds.answers;
  }

  -- the row was laid
  pub laid : result ≡ 0 → FeedsRow reader offered numbers result f.reader left
  laid zero = row_of f.reader (rw (eq-eqb result 0 zero))

  -- it was not, and the reader is as it was
  pub not_laid : (result ≡ 0 → ⊥) → (after : Reader) → after ≡ reader → FeedsRow reader offered numbers result after left
  not_laid some after e = row_of after (e ∙ rw (ne_eqb result 0 some))

  -- where there is room for every row, so is the one that the call gives back: it was refused
  pub as_it_was : (result ≡ 0 → ⊥) → longest_row ≤ length numbers → f.reader ≡ reader
  as_it_was some long = by_answer f.answer refl
    where
      by_answer : (a : (Result Progress Refusal)) → f.answer ≡ a → f.reader ≡ reader
      by_answer (Ok (Ready r)) is =
          let short = row_fits r.taken r.start r.skipped r.length r.frame in
          absurd (some (lays.answers ∙ rw is (room (row_fed (Ok (Ready r))) numbers short long)))
      by_answer (Ok (More n)) is = absurd (some (lays.answers ∙ rw is (room (row_fed (Ok (More n))) numbers (lit≤ tt) long)))
      by_answer (Ok (Done n)) is = absurd (some (lays.answers ∙ rw is (room (row_fed (Ok (Done n))) numbers (lit≤ tt) long)))
      by_answer (Err n) is =
          ap (λ (g : Fed). g.reader) feeds.answers
          ∙ refused_as_before reader offered (ap (λ (g : Fed). is_no_refusal g.answer) (sym feeds.answers) ∙ ap is_no_refusal is)
