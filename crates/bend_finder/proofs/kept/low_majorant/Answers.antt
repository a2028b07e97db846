use Rattle.std.proofs.Common.{◌≡◌, ◌∙◌, sym, ap, subst}
use Rattle.scattering.specs.Series.{Sum, cut}
use Rattle.trunc_series.specs.Capped.{IsMajorant}
use Rattle.trunc_series.specs.Shown.{sum_of}
use Rattle.trunc_series.proofs.Exact.{sum_of-filter}
use Rattle.bend_finder.proofs.PowerMajorants.{cut-is_majorant}
use Rattle.bend_finder.proofs.kept.low_majorant.Goals as goal

pub from_sorted-requires : goal.from_sorted-requires
from_sorted-requires c =
    let e : sum_of c.in_ok-terms.terms.items ≡ cut c.args.most c.args.power.now.terms =
    ap sum_of c.in_ok-terms.ensures ∙ sum_of-filter c.args.most c.terms.result.now ∙ ap (cut c.args.most) c.terms.ensures.terms in
    subst (λ (f : Sum). IsMajorant c.args.most f) (sym e) (cut-is_majorant c.args.most c.args.power.now c.requires c.terms.ensures.majorant)

pub returns-clause-terms : goal.returns-clause-terms
returns-clause-terms c =
    c.from_sorted.ensures.terms ∙ ap sum_of c.in_ok-terms.ensures ∙ sum_of-filter c.args.most c.terms.result.now ∙ ap (cut c.args.most) c.terms.ensures.terms
