-- The fraction is the coordinate.
use Rattle.std.proofs.Common.{rules, ◌∙◌}
use mir.Syntax.{w64, w128}
use Rattle.std.proofs.lemmas.Int.{to_z-of_z}
use Rattle.std.proofs.lemmas.Result.{IfOk-weaker}
use Rattle.scatter_text.proofs.Fractions.{coordinate_of, lowest-ratio}
use Rattle.scatter_text.proofs.printing.coordinate_text.Goals as goal

pub returns : goal.returns
returns c =
    let q = c.new.result in
    let x = to_z-of_z w128 c.from.result (search rules) ∙ c.from.ensures ∙ to_z-of_z w64 c.args.x c.ranges.x in
    let w = to_z-of_z w128 c.from-2.result (search rules) ∙ c.from-2.ensures ∙ to_z-of_z w64 c.args.w c.ranges.w in
    IfOk-weaker c.fraction_text.result _ _
    (λ text e. (coordinate_of q.num q.den, lowest-ratio q.num q.den c.args.x c.args.w _ _ q.lowest x w c.new.ensures, e))
    c.fraction_text.ensures
