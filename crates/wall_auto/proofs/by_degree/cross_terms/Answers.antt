use Rattle.std.proofs.Common.{rules, FitsSigned, ◌+◌, ◌≤◌, ◌∙◌, subst, length, arith}
use Rattle.std.specs.Prelude.{nat_abs}
use Rattle.std.proofs.lemmas.List.{take_all}
use Rattle.std.proofs.lemmas.Int.{to_z-of_z}
use mir.Syntax.{w64}
use Rattle.scattering.specs.Series.{degree}
use Rattle.plane_geom.specs.Shown.{vector_of}
use Rattle.trunc_series.specs.Shown.{sum_of}
use Rattle.trunc_series.specs.Arithmetic.{IsKeepable}
use Rattle.trunc_series.specs.Reduced.{Terms}
use Rattle.trunc_series.proofs.Terms.{Every-at}
use Rattle.trunc_series.proofs.TermLists.{keepable-values}
use Rattle.wall_auto.specs.Sign.{sign}
use Rattle.wall_auto.specs.Gains.{GainsTerms, KeepsGrowth}
use Rattle.wall_auto.proofs.PartGains.{more-gained, more-within}
use Rattle.wall_auto.proofs.by_degree.cross_terms.Goals as goal

pub exponent-n-requires-clause-a : goal.exponent-n-requires-clause-a
exponent-n-requires-clause-a c = (Every-at (λ t. (nat_abs t.0.exp.a ≤ 65536) × (nat_abs t.0.exp.b ≤ 65536)) c.args.terms.now c.loop-t.t-index (omega arith) c.requires.near).0

pub exponent-n-requires-clause-b : goal.exponent-n-requires-clause-b
exponent-n-requires-clause-b c = (Every-at (λ t. (nat_abs t.0.exp.a ≤ 65536) × (nat_abs t.0.exp.b ≤ 65536)) c.args.terms.now c.loop-t.t-index (omega arith) c.requires.near).1

pub cross_term-requires-clause-fits : goal.cross_term-requires-clause-fits
cross_term-requires-clause-fits c = record {
  table = c.requires.table;
  order = rw c.loop-t.invariant.order c.requires.order;
  near = (Every-at (λ t. (nat_abs t.0.exp.a ≤ 65536) × (nat_abs t.0.exp.b ≤ 65536)) c.args.terms.now c.loop-t.t-index (omega arith) c.requires.near, tt);
  degree = rw c.loop-t.invariant.order (Every-at (λ t. degree t.0 + length c.args.above.now ≤ 24) c.args.terms.now c.loop-t.t-index (omega arith) c.requires.degrees);
  keepable = Every-at (λ t. IsKeepable c.args.table.now.rule t.1) c.args.terms.now c.loop-t.t-index (omega arith) (keepable-values c.args.table.now.rule (sum_of c.args.terms.now) c.requires.terms);
  kept = c.loop-t.invariant.kept;
}

pub loop-t-preserved : goal.loop-t-preserved
loop-t-preserved c =
    let f : FitsSigned w64 c.exponent-n.result = search rules in
    let h = rw (to_z-of_z w64 c.exponent-n.result f) at c.in_ok-cross_term.ensures.gains in
    record {
      order = c.cross_term.ensures.order ∙ c.loop-t.invariant.order;
      low = λ j l. c.in_ok-cross_term.ensures.low j l ∙ c.loop-t.invariant.low j l;
      gains = more-gained c.args.table.now (vector_of c.args.dir.now) (sign c.args.side) c.args.terms.now c.loop-t.t-index (omega arith) c.exponent-n.result c.args.above.now c.loop-t.above c.cross_term.new.above c.exponent-n.ensures.value c.loop-t.invariant.order c.requires.terms c.loop-t.invariant.gains h;
      within = more-within c.args.table.now (vector_of c.args.dir.now) (sign c.args.side) c.args.terms.now c.loop-t.t-index (omega arith) c.args.above.now c.loop-t.above c.cross_term.new.above c.loop-t.invariant.within c.in_ok-cross_term.ensures.within;
      kept = c.in_ok-cross_term.ensures.kept;
      values = c.in_ok-cross_term.ensures.values;
    }

pub returns-clause-gains : goal.returns-clause-gains
returns-clause-gains c = subst (λ (ts : Terms). GainsTerms c.args.table.now (vector_of c.args.dir.now) (sign c.args.side) (sum_of ts) c.args.above.now c.loop-t.above) (take_all c.loop-t.t-index c.args.terms.now (omega arith)) c.loop-t.invariant.gains

pub returns-clause-within : goal.returns-clause-within
returns-clause-within c = subst (λ (ts : Terms). KeepsGrowth c.args.table.now (sum_of ts) c.args.above.now c.loop-t.above) (take_all c.loop-t.t-index c.args.terms.now (omega arith)) c.loop-t.invariant.within
