use Rattle.std.proofs.Common.{◌≡◌, ◌<◌, ◌∙◌, length}
use Rattle.rayon.specs.Numbers.{nat_range}
use Rattle.rayon.proofs.ToStd.{nat_range-All}
use Rattle.scattering.specs.Collections.{Every}
use Rattle.std.specs.Prelude.{IsTrue}
use Rattle.joint_finder.specs.Strands.{IsFacing}
use Rattle.joint_finder.proofs.RowPoints.{collected}
use Rattle.joint_finder.proofs.rows.rows.Goals as goal

pub collect-requires-clause-ready : goal.collect-requires-clause-ready
collect-requires-clause-ready g c κs o =
    let ends = c.into_par_iter.ensures in
    let inside = nat_range-All (λ i. (i < length c.args.ss.now) × (IsTrue c.args.again → c.args.ts.now ≡ c.args.ss.now) × Every (λ s. Every (IsFacing c.args.order s) c.args.ts.now) c.args.ss.now) 0 (length c.args.ss.now) (λ i low high. (high, c.requires.again, c.requires.facing)) in
    rw (c.map.ensures.base, c.map.ensures.f, c.with_min_len.ensures.base, ends.0, ends.1) (λ k d lt. (inside k d lt, λ y p. tt))

pub returns-clause-points : goal.returns-clause-points
returns-clause-points g c =
    let ends = c.into_par_iter.ensures in
    let h = c.in_ok-rows.ensures in
    let chain = rw (c.map.ensures.base, c.map.ensures.f, c.with_min_len.ensures.base) at h.1 in
    let places = chain.1 ∙ (λ i. nat_range (ends.0 i) (ends.1 i)) in
    (collected c.args.again c.args.order c.args.ss.now c.args.ts.now c.requires.again c.requires.facing chain.0 h.0 c.in_ok-rows.rows places chain.2 h.2).0

pub returns-clause-far : goal.returns-clause-far
returns-clause-far g c =
    let ends = c.into_par_iter.ensures in
    let h = c.in_ok-rows.ensures in
    let chain = rw (c.map.ensures.base, c.map.ensures.f, c.with_min_len.ensures.base) at h.1 in
    let places = chain.1 ∙ (λ i. nat_range (ends.0 i) (ends.1 i)) in
    (collected c.args.again c.args.order c.args.ss.now c.args.ts.now c.requires.again c.requires.facing chain.0 h.0 c.in_ok-rows.rows places chain.2 h.2).1
