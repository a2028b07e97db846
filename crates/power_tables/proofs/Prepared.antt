-- A wall function without its constant term, and the absolute values of that.
use Rattle.std.proofs.Common.{ℕ, ◌≤◌, [], ◌∷◌, not}
use Rattle.scattering.specs.Collections.{Every}
use Rattle.scattering.specs.Series.{Exp, Key, Term, Sum, degree, key_eq, unit, rest, IsWallFunction, IsMultiple}
use Rattle.scattering.proofs.Lists.{Every-implies}
use Rattle.trunc_series.specs.declared.arithmetic.Arithmetic.{Arithmetic}
use Rattle.trunc_series.specs.declared.arithmetic.Arithmetic.TheVariants.{Wrapping, Saturating}
use Rattle.trunc_series.specs.Shown.{IsValid, HasNearTerms}
use Rattle.trunc_series.specs.Reduced.{GrowsSlowly, absolute_sum}
use Rattle.trunc_series.proofs.Exact.{own}
use Rattle.trunc_series.proofs.PowerLaws.{rest-tame}
use Rattle.trunc_series.proofs.Majorants.{absolute-reduced}
use Rattle.trunc_series.proofs.Inverses.{own-reduced, tame-filter, rest-valid}
use Rattle.power_tables.specs.Made.{code_others, IsOthers}

-- what each key has
pub absolute-keys : (P : Key → Type 0) (f : Sum) → Every (λ t. P t.0) f → Every (λ t. P t.0) (absolute_sum f)
absolute-keys P [] h = tt
absolute-keys P (t ∷ f) h = (h.0, absolute-keys P f h.1)

module _ (k : ℕ) (d : Exp) (f : Sum) (v : IsValid k f) (w : IsWallFunction k d f) (near : HasNearTerms f) where
  pub positive : Every (λ t. 1 ≤ degree t.0) (rest f)
  positive = Every-implies (λ (t : Term). (1 ≤ degree t.0) × IsMultiple d t.0.exp) (λ t. 1 ≤ degree t.0) (rest f) (λ t i. i.0) w.others

  tame : Every (λ t. GrowsSlowly t.0) (rest f)
  tame = tame-filter (λ t. not (key_eq t.0 unit)) f (rest-tame f near positive)

  others-by : (rule : Arithmetic) → IsOthers rule k (code_others rule f)
  others-by Wrapping = record {
    high = v.order;
    reduced = own k (rest f) (rest-valid k f v).series (rest-valid k f v).small;
    positive = positive;
    tame = tame;
  }
  others-by Saturating = record {
    high = v.order;
    reduced = own-reduced Saturating k (absolute_sum (rest f)) _ (absolute-reduced k (rest f) (rest-valid k f v));
    positive = absolute-keys (λ l. 1 ≤ degree l) (rest f) positive;
    tame = absolute-keys GrowsSlowly (rest f) tame;
  }

pub others-of : (rule : Arithmetic) (k : ℕ) (d : Exp) (f : Sum) → IsValid k f → IsWallFunction k d f → HasNearTerms f → IsOthers rule k (code_others rule f)
others-of rule k d f v w near = others-by k d f v w near rule
