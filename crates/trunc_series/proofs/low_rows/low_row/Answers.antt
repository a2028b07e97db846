use Rattle.std.proofs.Common.{ap, ◌∙◌, map}
use Rattle.std.specs.Prelude.{nat_le}
use Rattle.scattering.specs.Series.{degree}
use Rattle.trunc_series.specs.Shown.{sum_of}
use Rattle.trunc_series.proofs.Terms.{sum_of-where}
use Rattle.trunc_series.proofs.LowRows.{row-made}
use Rattle.trunc_series.proofs.low_rows.low_row.Goals as goal

pub returns : goal.returns
returns c =
    row-made c.args.degree (sum_of c.args.terms.now) c.in_ok-low.low.items _
    (ap sum_of c.in_ok-low.ensures ∙ sum_of-where (λ t. nat_le (degree t.0) c.args.degree) c.args.terms.now)
    (c.in_ok-keys.ensures ∙ ap (map (λ t. t.0)) c.as_slice.ensures.value) (c.in_ok-values.ensures ∙ ap (map (λ t. t.1)) c.as_slice-2.ensures.value)
