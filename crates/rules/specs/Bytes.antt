-- Words for lists of bytes. A byte is a number; where a rule names a character, the text is quoted.
use Rattle.std.specs.Prelude.{ℕ, ◌+◌, ◌≡◌, Bool, true, false, ◌&&◌, ◌||◌, not, List, [], ◌∷◌, eqb, leb, take, drop, get_or}
use Prim.Native.Char.{code}
use Prim.Native.String.{String}
use Prim.Native.String as Text
use Rattle.std.specs.Borrow.{Bor}

-- the bytes of a quoted text
abbrev pub ascii : String → List ℕ
ascii Text.[] = []
ascii (Text.◌∷◌ c s) = code c ∷ ascii s

-- b is one of the bytes
unfoldable pub one_of : List ℕ → ℕ → Bool
one_of [] b = false
one_of (c ∷ cs) b = eqb b c || one_of cs b

-- b is from low to high
abbrev pub between : ℕ → ℕ → ℕ → Bool
between low high b = leb low b && leb b high

-- b is from 20 to 7E, and neither of two bytes
abbrev pub text_byte : ℕ → ℕ → ℕ → Bool
text_byte a z b = between 0x20 0x7E b && not (eqb b a) && not (eqb b z)

-- each passes the test
unfoldable pub every : {A : Type 0} → (A → Bool) → List A → Bool
every test [] = true
every test (b ∷ bs) = test b && every test bs

-- the same bytes, no more and no fewer
unfoldable pub same : List ℕ → List ℕ → Bool
same [] [] = true
same [] (c ∷ cs) = false
same (b ∷ bs) [] = false
same (b ∷ bs) (c ∷ cs) = eqb b c && same bs cs

-- the first byte of a text, and 0 where there is none
abbrev pub first : List ℕ → ℕ
first bs = get_or bs 0 0

-- the n bytes from place a on
abbrev pub part : ℕ → ℕ → List ℕ → List ℕ
part a n bs = take n (drop a bs)

-- A slice that is handed back as a part of a lent one: the bytes that it shows, and where it stands, so many places behind
-- the front of the whole. A slice's `ptr` is a block of memory and a place in it.
pub record PartOf (whole : Bor (List ℕ)) (place : ℕ) (bytes : List ℕ) (r : Bor (List ℕ)) : Type 0 where
  pub content : r.now ≡ bytes
  pub stands : r.ref_ptr ≡ (whole.ref_ptr.0, place + whole.ref_ptr.1)

-- the sum of the bytes
unfoldable pub total : List ℕ → ℕ
total [] = 0
total (b ∷ bs) = b + total bs
