-- The terms that one correction adds, with the directions of their rays.
--     dir_of t                 the direction of the ray
--     code_terms, terms_of     the terms alone, in the program and as a sum
--     term_before t u          the ray of t comes before that of u
--     IsAlong t                the exponent is a positive multiple of the direction
--     AreRayTerms n ts         terms that can be added to rays at order n, each key once, by direction
use Rattle.std.specs.Prelude.{◌≡◌, ◌≢◌, ℕ, ℤ, Bool, false, List, map}
use Rattle.scattering.specs.Collections.{Every, EveryPair}
use Rattle.scattering.specs.Series.{Exp, Sum, IsMultiple, exp_before}
use Rattle.plane_geom.specs.Shown.{vector_of}
use Rattle.trunc_series.specs.Shown.{key_of, sum_of}
use Rattle.trunc_series.specs.declared.key.Key.{Key as CodeKey}
use Rattle.ray_merge.specs.declared.ray_term.RayTerm.{RayTerm}
use Rattle.ray_merge.specs.Additions.{IsRayTerm}

abbrev pub dir_of : RayTerm → Exp
dir_of t = vector_of t.dir

abbrev pub code_terms : List RayTerm → List (CodeKey × ℤ)
code_terms ts = map (λ (t : RayTerm). (t.key, t.value)) ts

abbrev pub terms_of : List RayTerm → Sum
terms_of ts = sum_of (code_terms ts)

abbrev pub term_before : RayTerm → RayTerm → Bool
term_before t u = exp_before (dir_of t) (dir_of u)

abbrev pub IsAlong : RayTerm → Type 0
IsAlong t = IsMultiple (dir_of t) (key_of t.key).exp

pub record AreRayTerms (n : ℕ) (ts : List RayTerm) : Type 0 where
  pub each : Every (IsRayTerm n) (terms_of ts)
  pub along : Every IsAlong ts
  pub distinct : EveryPair (λ t u. t.0 ≢ u.0) (terms_of ts)
  pub sorted : EveryPair (λ t u. term_before u t ≡ false) ts
