use Rattle.std.proofs.Common.{◌≡◌, List, sym, subst}
use Rattle.std.proofs.lemmas.List.{length-map}
use Rattle.std.specs.Prelude.{ℤ}
use Rattle.scattering.specs.Series.{Sum}
use Rattle.trunc_series.specs.declared.key.Key.{Key as CodeKey}
use Rattle.trunc_series.specs.Shown.{IsTerm, term_of, sum_of}
use Rattle.plane_geom.specs.Shown.{point_of, vector_of}
use Rattle.ray_merge.specs.Additions.{IsWithOne}
use Rattle.ray_merge.proofs.Walls.{with-distinct, with-each, with-series, along-distinct, along-each, along-proper, along-wall, light-along}
use Rattle.ray_merge.proofs.ray.ray_of.Goals as goal

-- 1 and the terms, as they are passed
passed : (slice items : List (CodeKey × ℤ)) (f : Sum) → slice ≡ items → IsWithOne f (sum_of items) → IsWithOne f (sum_of slice)
passed slice items f e h = subst (λ (ts : List (CodeKey × ℤ)). IsWithOne f (sum_of ts)) (sym e) h

pub from_terms-requires-clause-distinct : goal.from_terms-requires-clause-distinct
from_terms-requires-clause-distinct c =
    with-distinct (sum_of c.args.terms.now) _ (passed _ _ _ c.as_slice.ensures.value c.in_ok-all.ensures) (along-distinct c.args.order c.args.dir.now (sum_of c.args.terms.now) c.requires.some c.requires.each c.requires.along c.requires.distinct)

pub from_terms-requires-clause-each : goal.from_terms-requires-clause-each
from_terms-requires-clause-each c =
    with-each (IsTerm c.args.order) (sum_of c.args.terms.now) _ (passed _ _ _ c.as_slice.ensures.value c.in_ok-all.ensures) (along-each c.args.order c.args.dir.now (sum_of c.args.terms.now) c.requires.some c.requires.each c.requires.along c.requires.distinct)

pub invariant_of-result : goal.invariant_of-result
invariant_of-result c =
    let s = with-series c.in_ok-from_terms.field-0 c.args.order (sum_of c.args.terms.now) _ (passed _ _ _ c.as_slice.ensures.value c.in_ok-all.ensures) c.in_ok-from_terms.ensures in
    let l = light-along c.args.order (vector_of c.args.dir.now) (sum_of c.args.terms.now) c.args.dir.now.primitive c.requires.along c.requires.light in
    record { proper = along-proper c.args.order c.args.dir.now (sum_of c.args.terms.now) c.requires.some c.requires.each c.requires.along c.requires.distinct c.in_ok-from_terms.field-0 s l }

pub returns-clause-wall : goal.returns-clause-wall
returns-clause-wall c =
    let s = with-series c.in_ok-from_terms.field-0 c.args.order (sum_of c.args.terms.now) _ (passed _ _ _ c.as_slice.ensures.value c.in_ok-all.ensures) c.in_ok-from_terms.ensures in
    along-wall c.args.order c.args.dir.now (sum_of c.args.terms.now) c.requires.some c.requires.each c.requires.along c.requires.distinct c.in_ok-from_terms.field-0 s (point_of c.args.at.now) (rw (length-map c.args.terms.now term_of) c.requires.any)
