use Rattle.std.proofs.Common.{sym, subst, ◌∙◌}
use Rattle.std.specs.Prelude.{Vec}
use Rattle.std.specs.Global.{Global}
use Rattle.std.proofs.lemmas.Result.{err_from_is_err_and}
use Rattle.bend_finder.specs.Ahead.{SeenFinder}
use Rattle.broken_lines.specs.declared.node.Node.{Node}
use Rattle.broken_lines.specs.declared.tracer.Tracing.{Tracing}
use Rattle.broken_lines.specs.Tracing.{SeenTracing, seen_node, seen_tracing, IsFollowed, IsFollowFault, AreTraced}
use Rattle.broken_lines.proofs.Pushes.{pop-seen}
use Rattle.broken_lines.proofs.TracedSteps.{followable, traces-next}
use Rattle.broken_lines.proofs.TracedFaults.{follow-fault}
use Rattle.broken_lines.proofs.tracer.Tracing.run.Goals as goal

abbrev popped : Tracing → Vec Node Global → Tracing
popped t v = record { tails = t.tails; pending = v; found = t.found; weight = t.weight; far = t.far; special = t.special }

pub follow-requires-clause-node : goal.follow-requires-clause-node
follow-requires-clause-node c =
    let ws = c.args.finder.now.walls in
    let k = c.args.ask.now in
    let t = subst (λ (s : SeenTracing). AreTraced ws k s) (pop-seen c.loop-node.self c.pop.new.self c.in-Some.node c.in-Some.ensures.items) c.loop-node.invariant.traces in
    followable ws k c.requires.ready k.at.reduced (seen_node c.in-Some.node) t.next.0

pub loop-node-preserved : goal.loop-node-preserved
loop-node-preserved c =
    let ws = c.args.finder.now.walls in
    let k = c.args.ask.now in
    let n = seen_node c.in-Some.node in
    let s = seen_tracing (popped c.loop-node.self c.pop.new.self) in
    let same = c.loop-node.invariant.same in
    let t = subst (λ (s : SeenTracing). AreTraced ws k s) (pop-seen c.loop-node.self c.pop.new.self c.in-Some.node c.in-Some.ensures.items) c.loop-node.invariant.traces in
    let f = subst (λ (w : SeenFinder). IsFollowed w.walls k n s (seen_tracing c.follow.new.self)) same c.in_ok-follow.ensures.follows in
    record {
      same = c.in_ok-follow.ensures.same ∙ same;
      few = c.in_ok-follow.ensures.few c.loop-node.invariant.few;
      traces = subst (λ (s : SeenTracing). AreTraced ws k s) (sym f.2) (traces-next ws k c.requires.ready n t.next.0 f.0 f.1 s t);
    }

pub returns-in_err-follow-clause-fault : goal.returns-in_err-follow-clause-fault
returns-in_err-follow-clause-fault c =
    let p = err_from_is_err_and c.from_residual.result c.from_residual.ensures.1 in
    let ws = c.args.finder.now.walls in
    let k = c.args.ask.now in
    let n = seen_node c.in-Some.node in
    let s = seen_tracing (popped c.loop-node.self c.pop.new.self) in
    let t = subst (λ (s : SeenTracing). AreTraced ws k s) (pop-seen c.loop-node.self c.pop.new.self c.in-Some.node c.in-Some.ensures.items) c.loop-node.invariant.traces in
    rw (p.1, p.2) (follow-fault ws k n s c.in_err-follow.field-0.0 c.requires.ready t (subst (λ (w : SeenFinder). IsFollowFault w.walls k n s c.in_err-follow.field-0.0) c.loop-node.invariant.same c.in_err-follow.ensures.fault))
