use Rattle.std.proofs.Common.{◌≡◌, ◌∙◌, ap}
use Rattle.std.specs.Prelude.{not}
use Rattle.std.proofs.lemmas.Result.{IfOk-weaker}
use Rattle.scattering.specs.Series.{key_eq, unit, rest}
use Rattle.trunc_series.specs.Shown.{sum_of}
use Rattle.trunc_series.specs.Reduced.{absolute_sum}
use Rattle.trunc_series.proofs.Terms.{sum_of-where}
use Rattle.power_tables.proofs.making.others_of.Goals as goal

pub returns-in-Wrapping : goal.returns-in-Wrapping
returns-in-Wrapping c = rw c.in-Wrapping.is (ap sum_of c.in_ok-others.ensures ∙ sum_of-where (λ t. not (key_eq t.0 unit)) c.args.terms.now)

pub returns-in-Saturating : goal.returns-in-Saturating
returns-in-Saturating c =
    let e : sum_of c.as_slice.result.now ≡ rest (sum_of c.args.terms.now) = rw (c.as_slice.ensures.value, c.in_ok-others.ensures) (sum_of-where (λ t. not (key_eq t.0 unit)) c.args.terms.now) in
    rw c.in-Saturating.is (IfOk-weaker c.absolutes.result _ _ (λ r h. h ∙ ap absolute_sum e) c.absolutes.ensures)
