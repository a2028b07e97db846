use Rattle.std.proofs.Common.{ℕ, ◌-◌, sym, ap, subst, ◌∙◌}
use Rattle.plane_geom.specs.Shown.{point_of}
use Rattle.trunc_series.specs.Shown.{exp_of}
use Rattle.bend_finder.specs.Ahead.{bends_of, SeenAhead, IsAhead}
use Rattle.broken_lines.specs.Tracing.{seen_node}
use Rattle.broken_lines.proofs.TracedSteps.{bends-summable}
use Rattle.broken_lines.proofs.tracer.Tracing.follow.Goals as goal

pub push_children-requires-clause-near : goal.push_children-requires-clause-near
push_children-requires-clause-near c =
    let n = c.args.node in
    bends-summable c.args.finder.now.walls c.args.ask.now c.requires.ready (seen_node n) c.in_ok-ahead.ahead
    (subst (λ (b : ℕ). IsAhead c.args.finder.now.walls b (point_of n.at) (exp_of n.tail.last) (c.args.ask.now.limit - n.tail.used) c.in_ok-ahead.ahead) c.requires.limit c.in_ok-ahead.ensures.ahead) c.as_slice.result.now
    (ap (λ (s : SeenAhead). s.bends) (sym c.ahead-2.view_is) ∙ ap bends_of (sym c.as_slice.ensures.value))
