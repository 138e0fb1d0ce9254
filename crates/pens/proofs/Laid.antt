-- Laws of `laid`: it keeps the output's length, and two rows of bytes laid one behind the other, in either order, are
-- their sum laid at the first one's place. Each opens `laid` where the bytes fit and counts the parts.
-- Assumes nothing.
use Prim.Native.Nat.{ℕ, ◌+◌, ◌≤◌, ◌<◌}
use mathlib.Core.Path.{◌≡◌, refl, sym, ap, ◌∙◌}
use mathlib.Core.Bool.{Bool, true, false, cond}
use mathlib.Core.List.{List, [], ◌∷◌, ◌++◌, append_assoc, append-nil}
use native.Mathlib.Nat.{add_assoc, add-zero, zero-add}
use native.Mathlib.Numerals.{add-one}
use native.Mathlib.Omega.{arith}
use borrow.Author.Tests.{le-leb, lt-leb, leb-true}
use lib.Dec.{leb}
use lib.ListN.{length, take, drop, get_or, set, length-append, length-drop, take-append-drop}
use lib.Seq.{length-take-le, take_at, drop_at, drop-append-add, take-append-le, take-take, drop-drop, set_split}
use Rattle.std.proofs.lemmas.List.{take_more}
use Rattle.rules.specs.Bytes.{part}
use Rattle.pens.specs.Pens.{laid}

pub laid_fits : (a : ℕ) (bs out : List ℕ) → a + length bs ≤ length out → laid a bs out ≡ take a out ++ bs ++ drop (a + length bs) out
unfolding laid
laid_fits a bs out h = rw (le-leb _ _ h)

pub laid_not : (a : ℕ) (bs out : List ℕ) → length out < a + length bs → laid a bs out ≡ out
unfolding laid
laid_not a bs out h = rw (lt-leb _ _ h)

length_laid_fits : (a : ℕ) (bs out : List ℕ) → a + length bs ≤ length out → length (take a out ++ bs ++ drop (a + length bs) out) ≡ length out
length_laid_fits a bs out h =
    let before : length (take a out) ≡ a = length-take-le a out (omega arith) in
    simp (length-append, length-drop, before) (omega arith)

pub length_laid : (a : ℕ) (bs out : List ℕ) → length (laid a bs out) ≡ length out
unfolding laid
length_laid a bs out = go (leb (a + length bs) (length out)) refl
  where
    go : (fits : Bool) → leb (a + length bs) (length out) ≡ fits → length (cond fits (take a out ++ bs ++ drop (a + length bs) out) out) ≡ length out
    go true e = length_laid_fits a bs out (leb-true _ _ e)
    go false e = refl

laid_two : (a : ℕ) (p q out : List ℕ) → a + length p + length q ≤ length out → laid a (p ++ q) out ≡ take a out ++ p ++ (q ++ drop (a + length p + length q) out)
laid_two a p q out h =
    let both = length-append p q in
    laid_fits a (p ++ q) out (omega arith) ∙ simp (length-append, append_assoc, ← add_assoc)

drop_past : (xs ys : List ℕ) (m n : ℕ) → length xs ≡ m → drop (m + n) (xs ++ ys) ≡ drop n ys
drop_past xs ys m n e = rw (← e) (drop-append-add xs ys n)

-- two rows, the first laid first
pub laid_behind : (a : ℕ) (p q out : List ℕ) → a + length p + length q ≤ length out → laid (a + length p) q (laid a p out) ≡ laid a (p ++ q) out
laid_behind a p q out h =
    let front : length (take a out ++ p) ≡ a + length p = length-append (take a out) p ∙ ap (λ (n : ℕ). n + length p) (length-take-le a out (omega arith)) in
    let kept = length_laid a p out in
    let rest = drop (a + length p) out in
    laid_fits (a + length p) q (laid a p out) (omega arith)
    ∙ rw (laid_fits a p out (omega arith), take_at (take a out ++ p) rest (a + length p) front, drop_past (take a out ++ p) rest (a + length p) (length q) front)
    (rw (drop-drop (length q) (a + length p) out, laid_two a p q out h, append_assoc (take a out ++ p)))

-- two rows, the second laid first
pub laid_before : (a : ℕ) (p q out : List ℕ) → a + length p + length q ≤ length out → laid a p (laid (a + length p) q out) ≡ laid a (p ++ q) out
laid_before a p q out h =
    let front : length (take (a + length p) out) ≡ a + length p = length-take-le (a + length p) out (omega arith) in
    let kept = length_laid (a + length p) q out in
    laid_fits a p (laid (a + length p) q out) (omega arith)
    ∙ rw (laid_fits (a + length p) q out (omega arith), append_assoc (take (a + length p) out))
    (rw (take-append-le a (take (a + length p) out) _ (omega arith), take-take a (a + length p) out (omega arith), drop_at _ _ (a + length p) front)
    (sym (laid_two a p q out h)))

pub laid_front : (bs out : List ℕ) → length bs ≤ length out → laid 0 bs out ≡ bs ++ drop (length bs) out
laid_front bs out h = laid_fits 0 bs out (omega arith) ∙ rw zero-add

-- what was laid behind the first m bytes is found there
pub part_laid : (m n : ℕ) (p q out : List ℕ) → length p ≡ m → length q ≡ n → m + n ≤ length out → part m n (laid 0 (p ++ q) out) ≡ q
part_laid m n p q out e f h =
    let both = length-append p q in
    rw (laid_front (p ++ q) out (omega arith), append_assoc p, drop_at p _ m e) (take_at q _ n f)

pub set_laid : (i : ℕ) (b : ℕ) (out : List ℕ) → i < length out → set out i b ≡ laid i (b ∷ []) out
set_laid i b out h = set_split out i b h ∙ sym (laid_fits i (b ∷ []) out (omega arith) ∙ rw (append_assoc, add-one))

-- one byte more behind a row, stored before the row is laid
pub laid_last : (a k : ℕ) (p : List ℕ) (b : ℕ) (out : List ℕ) → length p ≡ k → a + k < length out → laid a p (set out (a + k) b) ≡ laid a (p ++ b ∷ []) out
laid_last a k p b out e h = rw (set_laid (a + k) b out h, ← e) (laid_before a p (b ∷ []) out (omega arith))

both_ways : (fits : Bool) {x y : List ℕ} → x ≡ y → cond fits x y ≡ y
both_ways true e = e
both_ways false e = refl

pub laid_none : (a : ℕ) (out : List ℕ) → laid a [] out ≡ out
unfolding laid
laid_none a out = both_ways (leb (a + 0) (length out)) (rw (append-nil, add-zero, take-append-drop))

-- one byte more behind a row, stored behind the row that is laid
pub laid_more : (a i : ℕ) (bs out : List ℕ) → i < length bs → a + i < length out → set (laid a (take i bs) out) (a + i) (get_or bs i 0) ≡ laid a (take (i + 1) bs) out
laid_more a i bs out more room =
    let size : length (take i bs) ≡ i = length-take-le i bs (omega arith) in
    let kept = length_laid a (take i bs) out in
    let stored = set_laid (a + i) (get_or bs i 0) (laid a (take i bs) out) (omega arith) in
    let joined = laid_behind a (take i bs) (get_or bs i 0 ∷ []) out (omega arith) in
    stored ∙ rw (size, ← take_more bs i 0 more) at joined
