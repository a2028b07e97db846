use Rattle.scattering.specs.Series.{absolute}
use Rattle.trunc_series.specs.Shown.{sum_of}
use Rattle.trunc_series.proofs.Majorants.{MadeMajorant, made-majorant, absolute-reduced}
use Rattle.trunc_series.proofs.majorant.Majorant.of.Goals as goal

pub invariant_of-result : goal.invariant_of-result
invariant_of-result c =
    rw c.order.ensures.value
    (made-majorant c.args.f.now.order (sum_of c.in_ok-absolutes.field-0.items) (absolute c.args.f.now.terms) c.terms.ensures.valid.order
    (rw (c.in_ok-absolutes.ensures, c.terms.ensures.terms) (absolute-reduced c.args.f.now.order c.args.f.now.terms c.terms.ensures.valid))).0

pub returns : goal.returns
returns c =
    let made : MadeMajorant c.args.f.now.order (sum_of c.in_ok-absolutes.field-0.items) (absolute c.args.f.now.terms) =
    (made-majorant c.args.f.now.order (sum_of c.in_ok-absolutes.field-0.items) (absolute c.args.f.now.terms) c.terms.ensures.valid.order
    (rw (c.in_ok-absolutes.ensures, c.terms.ensures.terms) (absolute-reduced c.args.f.now.order c.args.f.now.terms c.terms.ensures.valid))) in
    record { order = c.order.ensures.value; series = made.0.series; capped = made.1 }
