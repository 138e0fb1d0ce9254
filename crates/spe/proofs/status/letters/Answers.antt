-- `spe::status::letters` meets its contract: each byte is one of its field's letters.
-- Assumes nothing.
use Prim.Native.Nat.{ℕ}
use mathlib.Core.Path.{◌≡◌, ap, ◌∙◌}
use mathlib.Core.Bool.{◌&&◌}
use mathlib.Core.List.{List}
use lib.ListN.{length, get_or}
use Rattle.rules.specs.Bytes.{ascii, one_of}
use Rattle.rules.specs.Status.{warnings, alarms}
use Rattle.frame_laws.proofs.Bytes.{one_by_one}
use Rattle.spe.specs.ReportTests.{letters_good}
use Rattle.spe.proofs.status.letters.Goals as goal

letters_are : (d : List ℕ) → length d ≡ 67
    → (one_of (ascii "SO") (get_or d 5 0) && one_of (ascii "RT") (get_or d 7 0) && one_of (ascii "tba") (get_or d 17 0)
    && one_of (ascii "LMH") (get_or d 22 0) && one_of warnings (get_or d 63 0) && one_of alarms (get_or d 65 0))
    ≡ letters_good d
unfolding letters_good
letters_are d size = ap letters_good (one_by_one 0 67 d size)

pub returns : goal.returns
returns c =
    (λ i. c.one_of.ensures i && c.one_of-2.ensures i && c.one_of-3.ensures i && c.one_of-4.ensures i && c.one_of-5.ensures i && c.one_of-6.ensures i)
    ∙ letters_are c.args.d.now c.requires
