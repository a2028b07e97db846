use Rattle.std.proofs.Common.{ℕ, List, length, refl}
use Rattle.std.proofs.lemmas.Result.{err_from_is_err_and}
use Rattle.bend_finder.specs.declared.bend.Bend.{Bend as CodeBend}
use Rattle.bend_finder.specs.Ahead.{bend_of, bends_of}
use Rattle.broken_lines.specs.Tracing.{seen_node, seen_tracing, children}
use Rattle.broken_lines.proofs.Pushes.{given-more, given-fault, children-more}
use Rattle.broken_lines.proofs.tracer.Tracing.push_children.Goals as goal

pub returns-in_err-push_child-clause-fault : goal.returns-in_err-push_child-clause-fault
returns-in_err-push_child-clause-fault c =
    let p = err_from_is_err_and c.from_residual.result c.from_residual.ensures.1 in
    let xs = c.args.bends.now in
    let n = seen_node c.args.node.now in
    let x = c.index-bends-count.result in
    rw (p.1, p.2) (given-fault (λ (cs : List (CodeBend × ℕ)). children c.args.ask.now n (bends_of cs)) refl (λ d ds. children-more c.args.ask.now n (bend_of d.0, d.1) (bends_of ds)) xs (length xs) refl (seen_tracing c.args.self.now) c.loop-i.i x x (seen_tracing c.loop-i.self) _ c.loop-i-test.true c.index-bends-count.is c.loop-i.invariant.pushed c.in_err-push_child.ensures.fault)

pub loop-i-preserved : goal.loop-i-preserved
loop-i-preserved c =
    let xs = c.args.bends.now in
    let n = seen_node c.args.node.now in
    let x = c.index-bends-count.result in
    record {
      pushed = given-more (λ (cs : List (CodeBend × ℕ)). children c.args.ask.now n (bends_of cs)) refl (λ d ds. children-more c.args.ask.now n (bend_of d.0, d.1) (bends_of ds)) xs (length xs) refl (seen_tracing c.args.self.now) c.loop-i.i x x (seen_tracing c.loop-i.self) (seen_tracing c.push_child.new.self) c.loop-i-test.true c.index-bends-count.is c.loop-i.invariant.pushed c.in_ok-push_child.ensures.pushed;
      few = λ l. c.in_ok-push_child.ensures.few (c.loop-i.invariant.few l);
    }
