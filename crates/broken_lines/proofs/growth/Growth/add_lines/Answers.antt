use Rattle.std.proofs.Common.{◌<◌, arith, length, []}
use Rattle.std.proofs.lemmas.Result.{err_from_is_err_and}
use Rattle.trunc_series.specs.Shown.{sum_of}
use Rattle.scatter_diagram.specs.Shown.{wall_of}
use Rattle.broken_lines.specs.Growth.{IsTermOfSome}
use Rattle.broken_lines.proofs.Growths.{gains-none, steps-none, walls-more, walls-steps, walls-fault}
use Rattle.broken_lines.proofs.growth.Growth.add_lines.Goals as goal

pub loop-i-init : goal.loop-i-init
loop-i-init c = record {
  gains = gains-none (IsTermOfSome c.args.self.now.degree []) c.args.self.now (λ x r. r.1);
  steps = steps-none (IsTermOfSome c.args.self.now.degree []) c.args.self.now c.args.steps.now.items;
}

pub loop-i-preserved : goal.loop-i-preserved
loop-i-preserved c =
    let ws = c.args.e.now.diagram.initial in
    let t = c.loop-i-test.true in
    let n = c.line_count-i-end.ensures in
    let lt : c.loop-i.i < length ws = omega (arith, t, n) in
    let w = wall_of c.line.result.now in
    let f = sum_of c.terms.result.now in
    record {
      gains = walls-more ws c.loop-i.i w f c.args.self.now c.loop-i.self c.add_terms.new.self lt c.line.ensures.wall c.terms.ensures.terms c.loop-i.invariant.gains c.in_ok-add_terms.ensures.gains;
      steps = walls-steps ws c.loop-i.i w f c.args.self.now c.loop-i.self c.add_terms.new.self c.args.steps.now.items c.loop-i.steps.items c.add_terms.new.steps.items lt c.line.ensures.wall c.terms.ensures.terms c.loop-i.invariant.gains c.loop-i.invariant.steps c.in_ok-add_terms.ensures.steps;
    }

pub returns-in_err-add_terms-clause-fault : goal.returns-in_err-add_terms-clause-fault
returns-in_err-add_terms-clause-fault c =
    let p = err_from_is_err_and c.from_residual.result c.from_residual.ensures.1 in
    let ws = c.args.e.now.diagram.initial in
    let t = c.loop-i-test.true in
    let n = c.line_count-i-end.ensures in
    let lt : c.loop-i.i < length ws = omega (arith, t, n) in
    rw (p.1, p.2) (walls-fault ws c.loop-i.i (wall_of c.line.result.now) (sum_of c.terms.result.now) c.args.self.now c.loop-i.self c.in_err-add_terms.field-0.0 lt c.line.ensures.wall c.terms.ensures.terms c.loop-i.invariant.gains c.in_err-add_terms.ensures.fault)
