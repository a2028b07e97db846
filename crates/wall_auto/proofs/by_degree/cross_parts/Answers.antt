use Rattle.std.proofs.Common.{◌≡◌, ◌≤◌, ◌<◌, ◌+◌, ◌-◌, ◌∙◌, ℕ, suc, refl, sym, subst, length, arith, List}
use Rattle.std.specs.Prelude.{ℤ}
use Rattle.scattering.specs.Collections.{Every}
use Rattle.scattering.specs.Series.{Exp, Sum, degree}
use Rattle.power_tables.specs.Tables.{SeenTable}
use Rattle.plane_geom.specs.Shown.{vector_of}
use Rattle.trunc_series.specs.Shown.{sum_of, HasNearTerms}
use Rattle.wall_auto.specs.Sign.{sign}
use Rattle.wall_auto.specs.ByDegree.{part}
use Rattle.wall_auto.proofs.ByDegree.{parts-crossed}
use Rattle.wall_auto.proofs.PartGains.{GainsFrom}
use Rattle.wall_auto.proofs.SourceSteps.{source-is, source-near, source-degrees, step-length, step-same, step-gains, step-within, step-kept, before-first, after-last}
use Rattle.wall_auto.proofs.by_degree.cross_parts.Goals as goal

pub loop-source-init : goal.loop-source-init
loop-source-init c =
    let v = c.order.ensures.value in
    let m = c.order.ensures.most in
    let w = c.least.ensures.value in
    let q = c.saturating_sub-source.ensures in
    let o = c.requires.order in
    record {
      order = refl;
      sources = omega (arith, v, m, w, q);
      same = λ e l. refl;
      gains = before-first c.args.table.now (vector_of c.args.dir.now) (sign c.args.side) c.saturating_sub-source.result c.args.parts.now c.requires.kept (omega (arith, v, m, w, q, o));
      within = λ a b g h. h;
      kept = c.requires.kept;
      values = c.requires.values;
    }

pub cross_terms-requires-clause-near : goal.cross_terms-requires-clause-near
cross_terms-requires-clause-near c =
    let b = c.split_at_mut-low.ensures.front_len in
    let o = c.requires.order in
    let u = c.loop-source.invariant.sources in
    let p = c.loop-source-test.true in
    let e : length c.split_at_mut-low.result.0.now ≡ suc (c.loop-source.source - 1) = omega (arith, b, p) in
    let w = c.least.ensures.value in
    let x = c.least.ensures.positive in
    let z : sum_of c.terms.result.now ≡ part c.args.parts.now (c.loop-source.source - 1) =
    c.terms.ensures
    ∙ source-is c.loop-source.parts c.split_at_mut-low.result.0.now c.split_at_mut-low.result.1.now (c.loop-source.source - 1) c.index-low-source.result c.split_at_mut-low.ensures.value e
    ∙ c.loop-source.invariant.same (c.loop-source.source - 1) (omega (arith, p)) in
    subst (λ (p : Sum). HasNearTerms p) (sym z) (source-near c.args.parts.now (c.loop-source.source - 1) c.requires.near (omega (arith, o, u, p, w, x)))

pub cross_terms-requires-clause-degrees : goal.cross_terms-requires-clause-degrees
cross_terms-requires-clause-degrees c =
    let b = c.split_at_mut-low.ensures.front_len in
    let k = c.split_at_mut-low.ensures.back_len in
    let n = c.loop-source.invariant.order in
    let m = c.order.ensures.most in
    let v = c.order.ensures.value in
    let o = c.requires.order in
    let u = c.loop-source.invariant.sources in
    let p = c.loop-source-test.true in
    let e : length c.split_at_mut-low.result.0.now ≡ suc (c.loop-source.source - 1) = omega (arith, b, p) in
    let w = c.least.ensures.value in
    let x = c.least.ensures.positive in
    let z : sum_of c.terms.result.now ≡ part c.args.parts.now (c.loop-source.source - 1) =
    c.terms.ensures
    ∙ source-is c.loop-source.parts c.split_at_mut-low.result.0.now c.split_at_mut-low.result.1.now (c.loop-source.source - 1) c.index-low-source.result c.split_at_mut-low.ensures.value e
    ∙ c.loop-source.invariant.same (c.loop-source.source - 1) (omega (arith, p)) in
    subst (λ (q : Sum). Every (λ t. degree t.0 + length c.split_at_mut-low.result.1.now ≤ 24) q) (sym z)
    (source-degrees c.args.parts.now (c.loop-source.source - 1) (length c.split_at_mut-low.result.1.now) c.requires.near (omega (arith, o, u, p, w, x)) (omega (arith, k, n, m, v, o, p)))

pub loop-source-preserved : goal.loop-source-preserved
loop-source-preserved c =
    let t : SeenTable = c.args.table.now in
    let d : Exp = vector_of c.args.dir.now in
    let g : ℤ = sign c.args.side in
    let old : List Sum = c.args.parts.now in
    let cur : List Sum = c.loop-source.parts in
    let front : List Sum = c.split_at_mut-low.result.0.now in
    let back : List Sum = c.split_at_mut-low.result.1.now in
    let new : List Sum = c.cross_terms.new.above in
    let s : ℕ = c.loop-source.source - 1 in
    let xs : Sum = sum_of c.terms.result.now in
    let b = c.split_at_mut-low.ensures.front_len in
    let u = c.loop-source.invariant.sources in
    let p = c.loop-source-test.true in
    let w = c.least.ensures.value in
    let x = c.least.ensures.positive in
    let e : length c.split_at_mut-low.result.0.now ≡ suc (c.loop-source.source - 1) = omega (arith, b, p) in
    let q : c.loop-source.source ≡ suc (c.loop-source.source - 1) = omega (arith, p) in
    let positive : 1 ≤ c.args.table.now.least = omega (arith, w, x) in
    let source : sum_of c.terms.result.now ≡ part c.loop-source.parts (c.loop-source.source - 1) =
    c.terms.ensures
    ∙ source-is c.loop-source.parts c.split_at_mut-low.result.0.now c.split_at_mut-low.result.1.now (c.loop-source.source - 1) c.index-low-source.result c.split_at_mut-low.ensures.value e in
    let same : (i : ℕ) → i < suc (c.loop-source.source - 1) + c.args.table.now.least → part c.loop-source.parts i ≡ part c.args.parts.now i = λ i l. c.loop-source.invariant.same i (omega (arith, l, p)) in
    let gains : GainsFrom c.args.table.now (vector_of c.args.dir.now) (sign c.args.side) (suc (c.loop-source.source - 1)) c.args.parts.now c.loop-source.parts =
    subst (λ (n : ℕ). GainsFrom c.args.table.now (vector_of c.args.dir.now) (sign c.args.side) n c.args.parts.now c.loop-source.parts) q c.loop-source.invariant.gains in
    let cut = c.split_at_mut-low.ensures.value in
    let order = c.loop-source.invariant.order in
    let long = c.cross_terms.ensures.order in
    record {
      order = step-length t d g old cur front back new s xs positive cut e order long same source;
      sources = omega (arith, u);
      same = step-same t d g old cur front back new s xs positive cut e order long same source c.in_ok-cross_terms.ensures.low;
      gains = step-gains t d g old cur front back new s xs positive cut e order long same source c.in_ok-cross_terms.ensures.low c.requires.kept gains c.in_ok-cross_terms.ensures.gains;
      within = step-within t d g old cur front back new s xs positive cut e order long same source c.loop-source.invariant.within c.in_ok-cross_terms.ensures.within;
      kept = step-kept t d g old cur front back new s xs positive cut e order long same source c.loop-source.invariant.kept c.in_ok-cross_terms.ensures.kept;
      values = c.in_ok-cross_terms.ensures.values;
    }

pub returns-clause-crosses : goal.returns-clause-crosses
returns-clause-crosses c =
    let w = c.least.ensures.value in
    let x = c.least.ensures.positive in
    parts-crossed c.args.table.now (vector_of c.args.dir.now) c.args.side c.args.parts.now c.loop-source.parts (omega (arith, w, x)) c.loop-source.invariant.order c.requires.near
    (after-last c.args.table.now (vector_of c.args.dir.now) (sign c.args.side) c.loop-source.source c.args.parts.now c.loop-source.parts (omega arith) c.loop-source.invariant.gains) c.loop-source.invariant.within
