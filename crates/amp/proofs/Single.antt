-- Each promise of the boundary leaves one number and one content of the lent memory: two results that meet it are equal. Of
-- an answer that is laid as a row it is `lays_single`. Assumes nothing.
use Prim.Native.Nat.{ℕ}
use mathlib.Core.Path.{◌≡◌, sym, ◌∙◌}
use mathlib.Core.List.{List}
use lib.IntN.{ℤ}
use Rattle.frame_laws.proofs.Single.{one_answer}
use Rattle.stream_rules.specs.Lister.{order}
use Rattle.stream_rules.specs.declared.Reader.{Reader}
use Rattle.rows.proofs.Single.{lays_single}
use Rattle.amp.specs.Boundary.{Freshens, Closes, ReadsRow, ListsStarts, Nexts, order_number}

pub freshens_single : (family : ℕ) (reader : Reader) (a b : ℕ) (x y : Reader) → Freshens family reader a x → Freshens family reader b y
    → (a ≡ b) × (x ≡ y)
freshens_single family reader a b x y p q = (one_answer p.answers q.answers, one_answer p.leaves q.leaves)

pub closes_single : (reader : Reader) (a b : ℕ) (x y : Reader) → Closes reader a x → Closes reader b y → (a ≡ b) × (x ≡ y)
closes_single reader a b x y p q = (one_answer p.answers q.answers, one_answer p.leaves q.leaves)

pub reads_single : (family : ℕ) (bytes : List ℕ) (numbers : List ℤ) (a b : ℕ) (l m : List ℤ)
    → ReadsRow family bytes numbers a l → ReadsRow family bytes numbers b m
    → (a ≡ b) × (l ≡ m)
reads_single family bytes numbers a b l m = lays_single _ _ numbers a b l m

pub lists_single : (family : ℕ) (capture starts : List ℕ) (count a b : ℕ) (x y : List ℕ) (n m : ℕ)
    → ListsStarts family capture starts count a x n → ListsStarts family capture starts count b y m
    → (a ≡ b) × (x ≡ y) × (n ≡ m)
lists_single family capture starts count a b x y n m p q =
    (one_answer p.answers q.answers, one_answer p.content q.content, one_answer p.counts q.counts)

pub nexts_single : (family : ℕ) (capture : List ℕ) (place reports was a b x y : ℕ)
    → Nexts family capture place reports was a x → Nexts family capture place reports was b y
    → (a ≡ b) × (x ≡ y)
nexts_single family capture place reports was a b x y p q =
    let e = one_answer p.lengths q.lengths in
    (e, p.starts ∙ rw e (sym q.starts))

pub order_single : (a b x y : ℕ) → x ≡ order_number (order a b) → y ≡ order_number (order a b) → x ≡ y
order_single a b x y p q = one_answer p q
