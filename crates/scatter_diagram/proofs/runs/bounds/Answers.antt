use Rattle.std.proofs.Common.{ap, ◌∙◌}
use Rattle.scatter_diagram.proofs.Bounds.{with-start, without-start, ended}
use Rattle.scatter_diagram.proofs.runs.bounds.Goals as goal
use Rattle.scatter_diagram.proofs.runs.bounds.Goals.{then-begins+in_ok-push, else-begins}

pub loop-i-preserved : goal.loop-i-preserved
loop-i-preserved c =
    let ws = c.args.walls.now in
    let i = c.loop-i.i in
    elim c.if-begins.branch [
      | then-begins+in_ok-push w ↦
          with-start ws i c.begins.result c.loop-i.bounds.items c.if-begins.bounds.items c.loop-i-test.true c.begins.ensures.first c.begins.ensures.later c.loop-i.invariant w.if-begins.true (ap (λ v. v.items) w.bounds-is ∙ w.in_ok-push.ensures.items)
      | else-begins w ↦
          without-start ws i c.begins.result c.loop-i.bounds.items c.if-begins.bounds.items c.loop-i-test.true c.begins.ensures.first c.begins.ensures.later c.loop-i.invariant w.if-begins.false (ap (λ v. v.items) w.bounds-is)
    ]

pub returns : goal.returns
returns c = ended c.args.walls.now c.loop-i.i c.loop-i.bounds.items c.push-2.new.self.items c.loop-i.invariant c.loop-i-test.false c.in_ok-push-2.ensures.items
