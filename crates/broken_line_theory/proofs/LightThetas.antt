-- No coefficient of a theta exceeds the weight of all tails, and no degree the limit.
use Rattle.std.proofs.Common.{◌≡◌, sym, subst, ◌∙◌, ◌≤◌, Bool, true, false, refl}
use Rattle.std.specs.Prelude.{nat_abs}
use Rattle.scattering.specs.Collections.{In}
use Rattle.scattering.specs.Series.{Key, Sum, Term, Same, origin, exp_eq, coef, degree}
use Rattle.scattering.specs.Theta.{weights}
use Rattle.scattering.proofs.Determined.{coef-find}
use Rattle.scattering.proofs.Keys.{exp_eq-same}
use Rattle.scattering.proofs.Lists.{Every-at}
use Rattle.broken_line_theory.specs.Laws.{ThetaIsLight}
use Rattle.broken_line_theory.proofs.LeadingMonomial.{theta-unique}
use Rattle.broken_line_theory.proofs.ThetaOfTails.{theta-of-tails}
use Rattle.broken_line_theory.proofs.ThetaSums.{line_values, values-low, values-small}

pub theta-is-light : ThetaIsLight
theta-is-light ws n k m q s w walls point free moves theta weight x = (
  subst (λ v. nat_abs (coef s x) ≤ v) weight.2 (subst (λ c. nat_abs c ≤ weights ws n weight.0) (sym (same x)) (values-small ws n k m q walls weight.0 x weight.1.each)),
  λ h. low (coef-find values x (λ z. h (same x ∙ z))),
)
  where
    values : Sum
    values = line_values ws n k m q walls weight.0

    other : (b : Bool) → exp_eq m origin ≡ b → exp_eq m origin ≡ false
    other true e = absurd (moves (exp_eq-same m origin e))
    other false e = e

    same : Same s values
    same = theta-unique ws n m q s values theta (theta-of-tails ws n k m q walls point free weight.0 (other (exp_eq m origin) refl) weight.1)

    low : (t : Term) × In t values × (t.0 ≡ x) → degree x ≤ n
    low t = subst (λ (y : Key). degree y ≤ n) t.2 (Every-at (λ (u : Term). degree u.0 ≤ n) values t.0 (values-low ws n k m q walls weight.0 weight.1.each) t.1)
