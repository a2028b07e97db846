-- Values to which the columns of a part are added, each times the number of its power.
use Rattle.std.proofs.Common.{◌≡◌, ℕ, suc, ◌+◌, ◌<◌, sym, subst, ap, ◌∙◌, List, [], ◌∷◌, ◌++◌, length, replicate, take, get_or, arith}
use Rattle.std.specs.Prelude.{ℤ, pos, ◌+ℤ◌, ◌*ℤ◌}
use Rattle.std.proofs.lemmas.Int.{ints}
use Rattle.std.proofs.lemmas.List.{take_more}
use Rattle.scattering.specs.Collections.{Every}
use Rattle.scattering.specs.Series.{Key, Sum, coef}
use Rattle.scattering.proofs.Lists.{Every-append, Every-get}
use Rattle.scattering.proofs.Pairing.{coef-append}
use Rattle.trunc_series.specs.declared.arithmetic.Arithmetic.{Arithmetic}
use Rattle.trunc_series.specs.declared.key.Key.{Key as CodeKey}
use Rattle.trunc_series.specs.Arithmetic.{kept, IsKeepable}
use Rattle.trunc_series.proofs.Coefficients.{keepable-coef}
use Rattle.trunc_series.proofs.Kept.{keepable-kept, kept-mul_left}
use Rattle.trunc_series.proofs.TermLists.{keepable-values}
use Rattle.degree_theory.specs.Parts.{scaled}
use Rattle.power_tables.specs.Kept.{AreKeepable}
use Rattle.power_tables.specs.Tables.{factor, column_sum, column_combination}
use Rattle.power_tables.specs.Rows.{AddsScaled, AreCombined}
use Rattle.power_tables.proofs.ColumnLists.{zeros-values, zeros-coef, length-zeros}
use Rattle.power_tables.proofs.Powers.{length-take, every-take}
use Rattle.power_tables.proofs.Combinations.{coef-scaled, scaled-keepable, factor-keepable}
use Rattle.power_tables.proofs.ScaledColumns.{column-keepable, joined}

module _ (rule : Arithmetic) (n : ℤ) (keys : List CodeKey) where
  combined-keepable : (r : ℕ) (cs : List (List ℤ)) → Every (AreKeepable rule) cs → Every (λ t. IsKeepable rule t.1) (column_combination rule n keys r cs)
  combined-keepable r [] h = tt
  combined-keepable r (c ∷ cs) h =
      Every-append (λ t. IsKeepable rule t.1) (scaled (factor rule n r) (column_sum keys c)) (column_combination rule n keys (suc r) cs) (scaled-keepable rule (factor rule n r) (column_sum keys c) (factor-keepable rule n r) (column-keepable rule (pos 0) keys c h.0)) (combined-keepable (suc r) cs h.1)

  combined-push : (r j : ℕ) (cs : List (List ℤ)) (c : List ℤ) (x : Key) → r + length cs ≡ j → coef (column_combination rule n keys r (cs ++ c ∷ [])) x ≡ coef (scaled (factor rule n j) (column_sum keys c)) x +ℤ coef (column_combination rule n keys r cs) x
  combined-push r j [] c x e = coef-append (scaled (factor rule n r) (column_sum keys c)) [] x ∙ ap (λ (i : ℕ). coef (scaled (factor rule n i) (column_sum keys c)) x +ℤ pos 0) (let q : r ≡ j = omega (arith, e) in q)
  combined-push r j (d ∷ cs) c x e =
      coef-append (scaled (factor rule n r) (column_sum keys d)) (column_combination rule n keys (suc r) (cs ++ c ∷ [])) x
      ∙ ap (λ y. coef (scaled (factor rule n r) (column_sum keys d)) x +ℤ y) (combined-push (suc r) j cs c x (omega (arith, e)))
      ∙ grouped (coef (scaled (factor rule n r) (column_sum keys d)) x) (coef (scaled (factor rule n j) (column_sum keys c)) x) (coef (column_combination rule n keys (suc r) cs) x)
      ∙ ap (λ y. coef (scaled (factor rule n j) (column_sum keys c)) x +ℤ y) (sym (coef-append (scaled (factor rule n r) (column_sum keys d)) (column_combination rule n keys (suc r) cs) x))
    where
      grouped : (a b d : ℤ) → a +ℤ (b +ℤ d) ≡ b +ℤ (a +ℤ d)
      grouped a b d = omega (arith, ints)

  pub combined-none : AreCombined rule n (record { keys = keys; columns = [] }) (replicate (length keys) (pos 0))
  combined-none = record { lengths = length-zeros (length keys); values = zeros-values rule keys (length keys); same = λ x. ap (kept rule) (zeros-coef keys (length keys) x) }

  pub combined-next : (cs : List (List ℤ)) (c : List ℤ) (f : ℤ) (old new : List ℤ) → Every (AreKeepable rule) cs → AreKeepable rule c → f ≡ kept rule (factor rule n (suc (length cs))) → AreCombined rule n (record { keys = keys; columns = cs }) old → AddsScaled rule f c old new
      → AreCombined rule n (record { keys = keys; columns = cs ++ c ∷ [] }) new
  combined-next cs c f old new h k e a s =
      let g = s.sums keys a.lengths a.values in
      let F : ℤ = factor rule n (suc (length cs)) in
      let X : Sum = column_sum keys c in
      record {
        lengths = s.lengths ∙ a.lengths;
        values = g.0;
        same = λ x.
            let y : IsKeepable rule (coef (column_sum keys c) x) = keepable-coef rule (column_sum keys c) x (column-keepable rule (pos 0) keys c k) in
            let u = factor-keepable rule n (suc (length cs)) in
            let w : IsKeepable rule f = subst (λ (z : ℤ). IsKeepable rule z) (sym e) (keepable-kept rule F u) in
            let p : kept rule (coef (scaled f (column_sum keys c)) x) ≡ kept rule (coef (scaled (factor rule n (suc (length cs))) (column_sum keys c)) x) =
            ap (kept rule) (coef-scaled f X x) ∙ ap (λ z. kept rule (z *ℤ coef (column_sum keys c) x)) e ∙ kept-mul_left rule F (coef X x) u y ∙ ap (kept rule) (sym (coef-scaled F X x)) in
            g.1 x ∙ ap (kept rule) (coef-append (scaled f X) (column_sum keys old) x)
            ∙ joined rule f (coef (scaled f X) x) (coef (scaled F X) x) (coef (column_sum keys old) x) (coef (column_combination rule n keys 1 cs) x)
            (keepable-coef rule (scaled f X) x (scaled-keepable rule f X w (column-keepable rule (pos 0) keys c k))) (keepable-coef rule (scaled F X) x (scaled-keepable rule F X u (column-keepable rule (pos 0) keys c k)))
            (keepable-coef rule (column_sum keys old) x (keepable-values rule (column_sum keys old) a.values)) (keepable-coef rule (column_combination rule n keys 1 cs) x (combined-keepable 1 cs h)) p (a.same x)
            ∙ ap (kept rule) (sym (combined-push 1 (suc (length cs)) cs c x (omega arith)));
      }

-- one higher column more
pub higher-next : (rule : Arithmetic) (n : ℤ) (keys : List CodeKey) (first : List ℤ) (higher : List (List ℤ)) (r : ℕ) (c : List ℤ) (f : ℤ) (old new : List ℤ) → r < length higher → AreKeepable rule first → Every (AreKeepable rule) higher
    → c ≡ get_or higher r c → f ≡ kept rule (factor rule n (r + 2)) → AreCombined rule n (record { keys = keys; columns = first ∷ take r higher }) old → AddsScaled rule f c old new
    → AreCombined rule n (record { keys = keys; columns = first ∷ take (r + 1) higher }) new
higher-next rule n keys first higher r c f old new l a h e g old_is s =
    let t : take (r + 1) higher ≡ take r higher ++ c ∷ [] = take_more higher r c l ∙ ap (λ (x : List ℤ). take r higher ++ x ∷ []) (sym e) in
    let z : length (take r higher) ≡ r = length-take r higher (omega (arith, l)) in
    subst (λ (cs : List (List ℤ)). AreCombined rule n (record { keys = keys; columns = first ∷ cs }) new) (sym t)
    (combined-next rule n keys (first ∷ take r higher) c f old new (a, every-take (AreKeepable rule) higher r h) (subst (AreKeepable rule) (sym e) (Every-get (AreKeepable rule) higher r c l h))
    (subst (λ (i : ℕ). f ≡ kept rule (factor rule n i)) (let q : r + 2 ≡ suc (suc (length (take r higher))) = omega (arith, z) in q) g) old_is s)
