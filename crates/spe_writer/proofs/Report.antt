-- The report's parts: how long each is, and that they are together the report.
-- The texts have their widths whatever the record holds. Assumes nothing.
use Prim.Native.Nat.{ℕ, ◌+◌, ◌≤◌}
use Prim.Native.Char.{code}
use mathlib.Core.Path.{◌≡◌, refl, ap, ◌∙◌}
use mathlib.Core.Bool.{true}
use mathlib.Core.List.{List, [], ◌∷◌, ◌++◌, append_assoc}
use native.Mathlib.Omega.{arith}
use lib.ListN.{length, take, drop, length-append}
use Rattle.rules.specs.Sentences.{commas}
use Rattle.rules.specs.Status.{status_texts, status_bytes, status_in_range, joined}
use Rattle.rules.specs.declared.Status.{Status}
use Rattle.frame_laws.proofs.Numbers.{zeros_length, spaces_length, point_length}
use Rattle.frame_laws.proofs.Comma.{frame_length, frame_at_most}
use Rattle.frame_laws.proofs.Report.{fits, texts_length}

-- texts behind commas, and more of them behind
commas_append : (ts us : List (List ℕ)) → commas ts ++ commas us ≡ commas (ts ++ us)
unfolding commas
commas_append [] us = refl
commas_append (t ∷ ts) us = ap (λ (bs : List ℕ). code "," ∷ bs) (append_assoc t (commas ts) (commas us) ∙ ap (λ (bs : List ℕ). t ++ bs) (commas_append ts us))

joined_append : (ts us : List (List ℕ)) → commas ts ++ joined us ≡ joined (ts ++ us)
unfolding commas joined
joined_append [] us = refl
joined_append (t ∷ ts) us = ap (λ (bs : List ℕ). code "," ∷ bs) (append_assoc t (commas ts) (joined us) ∙ ap (λ (bs : List ℕ). t ++ bs) (joined_append ts us))

module _ (s : Status) where
  pub settings_length : length (commas (take 5 (status_texts s))) ≡ 12
  unfolding commas status_texts
  settings_length = simp (length-append, zeros_length)

  pub antennas_length : length (commas (take 4 (drop 5 (status_texts s)))) ≡ 11
  unfolding commas status_texts
  antennas_length = simp (length-append, zeros_length)

  pub readings_length : length (commas (take 5 (drop 9 (status_texts s)))) ≡ 27
  unfolding commas status_texts
  readings_length = simp (length-append, zeros_length, point_length)

  pub state_length : length (joined (drop 14 (status_texts s))) ≡ 17
  unfolding joined status_texts
  state_length = simp (length-append, spaces_length)

  pub parts_joined : commas (take 5 (status_texts s)) ++ commas (take 4 (drop 5 (status_texts s))) ++ commas (take 5 (drop 9 (status_texts s)))
      ++ joined (drop 14 (status_texts s)) ≡ joined (status_texts s)
  unfolding status_texts
  parts_joined =
      let a = take 5 (status_texts s) in
      let b = take 4 (drop 5 (status_texts s)) in
      let d = take 5 (drop 9 (status_texts s)) in
      rw (commas_append a b, commas_append (a ++ b) d) (joined_append (a ++ b ++ d) (drop 14 (status_texts s)))

  pub report-length : status_in_range s ≡ true → length (status_bytes s) ≡ 75 + s.comma
  report-length e =
      omega (arith, frame_length s.comma (joined (status_texts s)) (fits s e).comma, texts_length s)

  pub report_at_most : length (status_bytes s) ≤ 76
  report_at_most = omega (arith, frame_at_most s.comma (joined (status_texts s)), texts_length s)
