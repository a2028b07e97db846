-- The wall functions of the tests, and the mass of a crossing.
use Rattle.std.proofs.Common.{◌≡◌, ◌≤◌, ◌^◌, ℕ, refl, sym, subst, [], ◌∷◌, arith}
use Rattle.std.specs.Prelude.{pos}
use Rattle.std.proofs.lemmas.Int.{ints}
use Rattle.scattering.specs.Series.{Exp, Sum, IsWallFunction, absolute, mass_to}
use Rattle.scattering.specs.LocalProduct.{cross_majorant}
use Rattle.trunc_series.specs.Worked.{line_terms}
use Rattle.correction_tests.proofs.WorkedLines.{wall-line}
use Rattle.correction_tests.specs.CrossedSums.{east, worked_key}

pub line-wall : IsWallFunction 2 east (line_terms (pos 1))
line-wall = wall-line (pos 1) (λ e. cc)

pub steep-wall : IsWallFunction 3 east (line_terms (pos (2 ^ 62)))
steep-wall = record {
  series = record { rises = ((refl, tt), (tt, tt)); nonzero = ((λ e. cc), ((λ e. cc), tt)); low = (omega arith, (omega arith, tt)) };
  constant = refl;
  others = ((omega arith, (pos 1, omega (arith, ints), refl)), tt);
}

-- 1 + 3·2^62
steep-total : mass_to 3 (cross_majorant 3 east (line_terms (pos (2 ^ 62))) (absolute ((worked_key 2 (pos 0) (pos 3), pos 1) ∷ []))) ≡ 13835058055282163713
steep-total = refl

pub steep-mass : (k : ℕ) (d : Exp) (f g : Sum) → k ≡ 3 → d ≡ east → f ≡ line_terms (pos (2 ^ 62)) → g ≡ (worked_key 2 (pos 0) (pos 3), pos 1) ∷ [] → mass_to k (cross_majorant k d f (absolute g)) ≤ 2 ^ 126
steep-mass k d f g a b c e =
    subst (λ (x : ℕ). mass_to x (cross_majorant x d f (absolute g)) ≤ 2 ^ 126) (sym a)
    (subst (λ (x : Exp). mass_to 3 (cross_majorant 3 x f (absolute g)) ≤ 2 ^ 126) (sym b)
    (subst (λ (x : Sum). mass_to 3 (cross_majorant 3 east x (absolute g)) ≤ 2 ^ 126) (sym c)
    (subst (λ (x : Sum). mass_to 3 (cross_majorant 3 east (line_terms (pos (2 ^ 62))) (absolute x)) ≤ 2 ^ 126) (sym e)
    (subst (λ (m : ℕ). m ≤ 2 ^ 126) (sym steep-total) (omega arith)))))
