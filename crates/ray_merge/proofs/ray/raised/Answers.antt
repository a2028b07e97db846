use Rattle.std.proofs.Common.{◌≡◌, ℕ, ◌≤◌, List, sym, subst, ap, ◌∙◌}
use Rattle.std.specs.Prelude.{ℤ}
use Rattle.scattering.specs.Series.{Sum}
use Rattle.trunc_series.specs.declared.key.Key.{Key as CodeKey}
use Rattle.plane_geom.specs.Shown.{point_of, vector_of}
use Rattle.trunc_series.specs.Shown.{Seen, IsSeriesOf, IsValid, sum_of}
use Rattle.scatter_diagram.specs.Kinds.{kind_of}
use Rattle.ray_merge.proofs.Walls.{raised-valid, raised-function, sorted-series}
use Rattle.ray_merge.proofs.ray.raised.Goals as goal

-- the series of the copied terms
read : (s : Seen) (m n : ℕ) (items slice : List (CodeKey × ℤ)) (f : Sum) → items ≡ slice → sum_of slice ≡ f → m ≤ n → n ≤ 24 → IsValid m f → s.order ≡ n → s.terms ≡ sum_of items → IsSeriesOf s n f
read s m n items slice f e t l o v so st = sorted-series s n f so (st ∙ ap sum_of e ∙ t) (raised-valid m n f l o v)

pub from_sorted-function-requires : goal.from_sorted-function-requires
from_sorted-function-requires c =
    subst (IsValid c.args.order) (sym (ap sum_of c.in_ok-copied.ensures.items ∙ c.terms.ensures.terms)) (raised-valid c.args.ray.now.function.order c.args.order c.args.ray.now.function.terms c.requires.lower c.requires.order c.terms.ensures.valid)

pub invariant_of-result : goal.invariant_of-result
invariant_of-result c = record {
  proper = (raised-function c.args.ray.now c.args.order c.from_sorted-function.result c.requires.lower
      (read _ _ _ _ _ _ c.in_ok-copied.ensures.items c.terms.ensures.terms c.requires.lower c.requires.order c.terms.ensures.valid c.from_sorted-function.ensures.order c.from_sorted-function.ensures.terms)).0;
}

pub returns-clause-wall : goal.returns-clause-wall
returns-clause-wall c =
    let e =
    (raised-function c.args.ray.now c.args.order c.from_sorted-function.result c.requires.lower
    (read _ _ _ _ _ _ c.in_ok-copied.ensures.items c.terms.ensures.terms c.requires.lower c.requires.order c.terms.ensures.valid c.from_sorted-function.ensures.order c.from_sorted-function.ensures.terms)).1 in
    λ i. record { kind = kind_of c.args.ray.now.kind; at = point_of c.args.ray.now.at; dir = vector_of c.args.ray.now.dir; function = e i }
