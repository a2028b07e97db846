use Rattle.std.proofs.Common.{◌≡◌, subst}
use Rattle.std.proofs.lemmas.Result.{IfOk-weaker}
use Rattle.scattering.specs.Series.{Sum}
use Rattle.trunc_series.specs.Shown.{sum_of}
use Rattle.trunc_series.specs.Sums.{IsSortedFor}
use Rattle.wall_auto.specs.ByDegree.{part}
use Rattle.wall_auto.proofs.PartRows.{read-part}
use Rattle.wall_auto.proofs.Parts.{sorted-part}
use Rattle.wall_auto.proofs.by_degree.SumByDegree.sorted_part.Goals as goal

read : (c : goal.After-sorted) → c.index.result.now ≡ part c.args.self.now c.args.degree
read c = rw (c.index.ensures, c.self.view_is) (read-part c.args.self.now c.args.degree c.index.result.now c.requires.degree)

pub returns : goal.returns
returns c = IfOk-weaker c.sorted.result _ _
    (λ r h. sorted-part c.args.rule c.args.self.now c.args.degree (sum_of r.items) c.requires.degree
    (subst (λ (p : Sum). IsSortedFor c.args.rule (sum_of r.items) p) (read c) h))
    c.sorted.ensures
