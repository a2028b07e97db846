use Rattle.std.proofs.Common.{sym, subst, ap, ◌∙◌, arith}
use Rattle.std.proofs.lemmas.List.{take_all}
use Rattle.scattering.specs.Series.{Sum}
use Rattle.trunc_series.specs.Shown.{sum_of, IsValid}
use Rattle.trunc_series.specs.Reduced.{Terms}
use Rattle.theta_algebra.specs.Parts.{without_exp}
use Rattle.theta_algebra.proofs.FamilyParts.{part-valid}
use Rattle.theta_algebra.proofs.family.part.Goals as goal

pub from_sorted-requires : goal.from_sorted-requires
from_sorted-requires c =
    let e = c.loop-t.invariant ∙ ap (λ (ts : Terms). without_exp (sum_of ts)) (take_all c.loop-t.t-index c.args.terms.now (omega (arith, c.loop-t-test.false))) in
    subst (λ (f : Sum). IsValid c.args.limit f) (sym e) (part-valid c.args.limit (sum_of c.args.terms.now) c.requires.order c.requires.series c.requires.small c.requires.same)
