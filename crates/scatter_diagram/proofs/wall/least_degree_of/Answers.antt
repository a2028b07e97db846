use Rattle.std.proofs.Common.{ℕ, sym, ◌∙◌, ap, subst, Some, Option, take, ◌+◌}
use Rattle.scattering.specs.Series.{rest}
use Rattle.trunc_series.specs.Shown.{sum_of}
use Rattle.scatter_diagram.specs.Degrees.{IsLeastDegree, lesser_of}
use Rattle.scatter_diagram.proofs.Degrees.{least-constant, least-other}
use Rattle.scatter_diagram.proofs.wall.least_degree_of.Goals as goal
use Rattle.scatter_diagram.proofs.wall.least_degree_of.Goals.{then-not-is_constant, else-not-is_constant}

pub loop-t-preserved : goal.loop-t-preserved
loop-t-preserved c =
    elim c.if-not-is_constant.branch [
      | then-not-is_constant w ↦
          least-other c.args.terms.now c.loop-t.t-index c.loop-t.least c.if-not-is_constant.least c.loop-t-test.true (sym c.is_constant.ensures ∙ w.if-not-is_constant.true) c.loop-t.invariant
          (w.least-is ∙ ap Some (w.lesser.ensures ∙ ap (lesser_of c.loop-t.least) w.degree.ensures.value))
      | else-not-is_constant w ↦
          subst (λ (o : Option ℕ). IsLeastDegree (rest (sum_of (take (c.loop-t.t-index + 1) c.args.terms.now))) o) (sym w.least-is)
          (least-constant c.args.terms.now c.loop-t.t-index c.loop-t.least c.loop-t-test.true (sym c.is_constant.ensures ∙ w.if-not-is_constant.false) c.loop-t.invariant)
    ]
