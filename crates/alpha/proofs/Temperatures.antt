-- A temperature, from the numbers before and behind its point: the tests are those of the rules, the count is that of
-- all its digits, and the sign is the first byte's. Assumes nothing.
use Rattle.std.proofs.Common.{◌≡◌, ℕ, zero, suc, ◌+◌, ◌-◌, ◌*◌, ◌≤◌, ◌<◌, true, false, List, [], ◌∷◌, ◌++◌, Some, None, pos, neg_ℤ, ◌-ℤ◌, length, get_or, drop, refl, sym, ap, ◌∙◌, arith, length-drop, eq-eqb, ne_eqb}
use mathlib.Core.Bool.{and-false}
use lib.IntN.{+ℤ_idl}
use lib.Seq.{length-take-le, take_all}
use mir.Syntax.{w32}
use mir.Val.{SFits, of_z, to_z}
use mir.ValLaws.{to_z_pos, to_z-of_z}
use borrow.Author.Tests.{lt-leb}
use Rattle.rules.specs.Bytes.{ascii, one_of, part, every}
use Rattle.rules.specs.Numbers.{is_digit, decimal, decimal_from}
use Rattle.rules.specs.Sentences.{is_decimal, is_temperature, temperature, whole, tenth}
use Rattle.texts.specs.Numbers.{digits_in}
use Rattle.frame_laws.proofs.Bytes.{both}
use Rattle.frame_laws.proofs.Numbers.{decimal-from}
use Rattle.alpha.specs.Fields.{degrees_in}
use Rattle.alpha.proofs.Texts.{no_number, a_number, count_below}

append_digits : (n : ℕ) (xs ys : List ℕ) → decimal_from n (xs ++ ys) ≡ decimal_from (decimal_from n xs) ys
unfolding decimal_from
append_digits n [] ys = refl
append_digits n (x ∷ xs) ys = append_digits (n * 10 + (x - 48)) xs ys

minus_small : (n : ℕ) → n ≤ 9999 → SFits w32 (neg_ℤ (pos n))
minus_small zero h = record { sfits = omega arith }
minus_small (suc n) h = record { sfits = omega arith }

none : (t : List ℕ) → is_temperature t ≡ false → None ≡ degrees_in t
none t e = rw e

module _ (t : List ℕ) where
  pub too_short : length t < 4 → None ≡ degrees_in t
  unfolding is_temperature
  too_short h =
      let e : length t - 3 ≡ 0 = omega arith in
      none t (simp (e, and-false))

  whole_length : 3 ≤ length t → length (whole t) ≡ length t - 3
  whole_length h = length-take-le (length t - 3) (drop 1 t) (omega (arith, length-drop 1 t))

  tenth_length : 1 ≤ length t → length (tenth t) ≡ 1
  tenth_length h = length-drop (length t - 1) t ∙ omega arith

  pub too_long : 6 < length t → None ≡ degrees_in t
  unfolding is_temperature
  too_long h =
      let l : 3 < length (whole t) = omega (arith, whole_length (omega arith)) in
      none t (simp (lt-leb (length (whole t)) 3 l, and-false))

  pub no_sign : one_of (ascii "+-") (get_or t 0 0) ≡ false → None ≡ degrees_in t
  unfolding is_temperature
  no_sign e = none t (rw e)

  pub no_point : (get_or t (length t - 2) 0 ≡ 46 → ⊥) → None ≡ degrees_in t
  unfolding is_temperature
  no_point e = none t (simp (ne_eqb _ _ e, and-false))

  -- t has 4 to 6 bytes
  module _ (low : 4 ≤ length t) (high : length t ≤ 6) where
    the_whole : part 1 (length t - 2 - 1) t ≡ whole t
    the_whole = let e : length t - 2 - 1 ≡ length t - 3 = omega arith in rw e

    the_tenth : part (length t - 1) (length t - (length t - 1)) t ≡ tenth t
    the_tenth = take_all (length t - (length t - 1)) (tenth t) (omega (arith, tenth_length (omega arith)))

    pub no_whole : None ≡ digits_in (part 1 (length t - 2 - 1) t) → None ≡ degrees_in t
    unfolding is_temperature
    no_whole e = none t (simp (no_number 3 (whole t) (omega (arith, whole_length (omega arith))) (omega arith) (e ∙ ap digits_in the_whole), and-false))

    tenth_test : is_decimal 1 (tenth t) ≡ every is_digit (tenth t)
    tenth_test = rw (tenth_length (omega arith))

    pub no_tenth : None ≡ digits_in (part (length t - 1) (length t - (length t - 1)) t) → None ≡ degrees_in t
    unfolding is_temperature
    no_tenth e =
        let f = no_number 1 (tenth t) (omega (arith, tenth_length (omega arith))) (omega arith) (e ∙ ap digits_in the_tenth) in
        none t (simp (sym tenth_test ∙ f, and-false))

    -- w and d are read before and behind the point
    module _ {w d : ℕ} (before : Some w ≡ digits_in (part 1 (length t - 2 - 1) t)) (behind : Some d ≡ digits_in (part (length t - 1) (length t - (length t - 1)) t)) where
      a_whole : (is_decimal 3 (whole t) ≡ true) × (w ≡ decimal (whole t))
      a_whole = a_number 3 (whole t) (omega (arith, whole_length (omega arith))) (omega arith) (before ∙ ap digits_in the_whole)

      a_tenth : (every is_digit (tenth t) ≡ true) × (d ≡ decimal (tenth t))
      a_tenth =
          let e = a_number 1 (tenth t) (omega (arith, tenth_length (omega arith))) (omega arith) (behind ∙ ap digits_in the_tenth) in
          (sym tenth_test ∙ e.0, e.1)

      pub small : w * 10 + d ≤ 9999
      small =
          let k = count_below 3 (whole t) (omega (arith, whole_length (omega arith))) (both _ (every is_digit (whole t)) a_whole.0).1 in
          let l = count_below 1 (tenth t) (omega (arith, tenth_length (omega arith))) a_tenth.0 in
          omega (arith, a_whole.1, a_tenth.1)

      count : w * 10 + d ≡ decimal (whole t ++ tenth t)
      count =
          rw (a_whole.1, a_tenth.1)
          (sym (append_digits 0 (whole t) (tenth t) ∙ decimal-from (decimal (whole t)) (tenth t) ∙ rw (tenth_length (omega arith))))

      kept : to_z w32 (w * 10 + d) ≡ pos (w * 10 + d)
      kept = to_z_pos w32 (w * 10 + d) (omega (arith, small))

      pub minus_fits : SFits w32 (pos 0 -ℤ to_z w32 (w * 10 + d))
      minus_fits = rw (kept, +ℤ_idl) (minus_small (w * 10 + d) small)

      -- a sign and a point stand where they should
      module _ (sign : one_of (ascii "+-") (get_or t 0 0) ≡ true) (point : get_or t (length t - 2) 0 ≡ 46) where
        passes : is_temperature t ≡ true
        unfolding is_temperature
        passes = rw (sign, a_whole.0, eq-eqb _ _ point, a_tenth.0)

        pub plus : (get_or t 0 0 ≡ 45 → ⊥) → Some (to_z w32 (w * 10 + d)) ≡ degrees_in t
        unfolding temperature
        plus e = rw (passes, ne_eqb (get_or t 0 0) 45 e, kept, count)

        pub minus : get_or t 0 0 ≡ 45 → Some (to_z w32 (of_z w32 (pos 0 -ℤ to_z w32 (w * 10 + d)))) ≡ degrees_in t
        unfolding temperature
        minus e = rw (passes, eq-eqb (get_or t 0 0) 45 e, to_z-of_z w32 _ minus_fits, kept, count, +ℤ_idl)
