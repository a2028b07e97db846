use Rattle.std.proofs.Common.{rules, ◌<◌, FitsSigned, sym, subst, length, arith, ◌∷◌}
use Rattle.std.proofs.lemmas.List.{take_all}
use Rattle.std.proofs.lemmas.Int.{to_z-of_z}
use mir.Syntax.{w128}
use Rattle.scattering.specs.Series.{Sum, degree}
use Rattle.trunc_series.specs.Shown.{term_of, sum_of}
use Rattle.trunc_series.specs.Reduced.{Terms}
use Rattle.trunc_series.proofs.Terms.{at, Every-at}
use Rattle.trunc_series.specs.Sums.{AreKeptValues, IsKeptValue, StandsFor}
use Rattle.wall_auto.specs.ByDegree.{part, TakesWithin}
use Rattle.wall_auto.specs.Gains.{TakesParts}
use Rattle.wall_auto.proofs.PartRows.{read-part}
use Rattle.wall_auto.proofs.TakenTerms.{none-parts, none-taken_within, more-parts, more-taken_within}
use Rattle.wall_auto.proofs.by_degree.begin_with.Goals as goal

pub loop-t-init : goal.loop-t-init
loop-t-init c = record {
  order = c.clear_parts.ensures.order;
  parts = none-parts c.args.rule c.clear_parts.new.parts c.clear_parts.ensures.none;
  within = none-taken_within c.clear_parts.new.parts c.clear_parts.ensures.none;
}

pub bounds-parts-degree : goal.bounds-parts-degree
bounds-parts-degree c =
    let v = c.degree.ensures.value in
    let o = c.loop-t.invariant.order in
    let l = Every-at (λ t. degree t.0 < length c.args.parts.now) c.args.terms.now c.loop-t.t-index (omega arith) c.requires.low in
    omega (arith, v, o, l)

pub add-requires-clause-terms : goal.add-requires-clause-terms
add-requires-clause-terms c =
    let v = c.degree.ensures.value in
    let o = c.loop-t.invariant.order in
    let l = Every-at (λ t. degree t.0 < length c.args.parts.now) c.args.terms.now c.loop-t.t-index (omega arith) c.requires.low in
    subst (λ (p : Sum). AreKeptValues c.args.rule p) (sym (read-part c.loop-t.parts c.degree.result c.index-parts-degree.result (omega (arith, v, o, l)))) (c.loop-t.invariant.parts c.degree.result).values

pub add-requires-clause-value : goal.add-requires-clause-value
add-requires-clause-value c =
    let f : FitsSigned w128 (at c.args.terms.now c.loop-t.t-index).1 = search rules in
    rw (to_z-of_z w128 (at c.args.terms.now c.loop-t.t-index).1 f) (Every-at (λ t. IsKeptValue c.args.rule t.1) c.args.terms.now c.loop-t.t-index (omega arith) c.requires.kept)

pub loop-t-preserved : goal.loop-t-preserved
loop-t-preserved c =
    let v = c.degree.ensures.value in
    let o = c.loop-t.invariant.order in
    let i : c.loop-t.t-index < length c.args.terms.now = omega arith in
    let l = Every-at (λ t. degree t.0 < length c.args.parts.now) c.args.terms.now c.loop-t.t-index i c.requires.low in
    let inside : c.degree.result < length c.loop-t.parts = omega (arith, v, o, l) in
    let k = Every-at (λ t. IsKeptValue c.args.rule t.1) c.args.terms.now c.loop-t.t-index i c.requires.kept in
    let f : FitsSigned w128 (at c.args.terms.now c.loop-t.t-index).1 = search rules in
    let s : StandsFor c.args.rule c.add.new.self (term_of (at c.args.terms.now c.loop-t.t-index) ∷ part c.loop-t.parts c.degree.result) =
    rw (← read-part c.loop-t.parts c.degree.result c.index-parts-degree.result inside) (rw (to_z-of_z w128 (at c.args.terms.now c.loop-t.t-index).1 f) at c.in_ok-add.ensures) in
    record {
      order = search rules;
      parts = more-parts c.args.rule c.args.terms.now c.loop-t.t-index i c.loop-t.parts c.degree.result c.add.new.self v inside s k.1 c.loop-t.invariant.parts;
      within = more-taken_within c.args.rule c.args.terms.now c.loop-t.t-index i c.loop-t.parts c.degree.result c.add.new.self v inside s c.loop-t.invariant.within;
    }

pub returns-clause-parts : goal.returns-clause-parts
returns-clause-parts c = subst (λ (ts : Terms). TakesParts c.args.rule (sum_of ts) c.loop-t.parts) (take_all c.loop-t.t-index c.args.terms.now (omega arith)) c.loop-t.invariant.parts

pub returns-clause-within : goal.returns-clause-within
returns-clause-within c = subst (λ (ts : Terms). TakesWithin (sum_of ts) c.loop-t.parts) (take_all c.loop-t.t-index c.args.terms.now (omega arith)) c.loop-t.invariant.within
