use Rattle.std.proofs.Common.{◌≡◌, ◌∙◌, ap, suc, length, List, []}
use Rattle.std.proofs.lemmas.List.{length-replicate}
use Rattle.std.proofs.lemmas.Result.{IfOk-weaker}
use Rattle.scattering.specs.Series.{Sum}
use Rattle.plane_geom.specs.Shown.{vector_of}
use Rattle.trunc_series.specs.Shown.{sum_of}
use Rattle.wall_auto.specs.Sign.{sign}
use Rattle.wall_auto.proofs.Results.{near-parts, sorted-crossing}
use Rattle.wall_auto.proofs.crossing.crossed.Goals as goal

pub cross-requires-clause-near : goal.cross-requires-clause-near
cross-requires-clause-near c = near-parts (sum_of c.args.terms.now) c.start_with.new.self c.requires.near c.in_ok-start_with.ensures.within

pub returns : goal.returns
returns c =
    let n : length c.start_with.new.self ≡ suc c.args.order = c.start_with.ensures.order ∙ ap (λ (ps : List Sum). length ps) c.in_ok-sum.ensures ∙ length-replicate (suc c.args.order) [] in
    IfOk-weaker c.sorted.result _ _
    (λ r h. sorted-crossing c.args.rule c.args.order c.args.function.now.order (vector_of c.args.dir.now) c.args.function.now.terms (sign c.args.side) c.in_ok-table.table (sum_of c.args.terms.now) (sum_of r.items) c.start_with.new.self c.cross.new.self
    c.requires.wall c.in_ok-table.ensures c.in_ok-start_with.ensures.stands n c.in_ok-cross.ensures.crosses h)
    c.sorted.ensures
