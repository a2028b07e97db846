use Rattle.std.proofs.Common.{◌≡◌, ◌-◌, [], ◌∷◌, arith, rules, FitsSigned}
use Rattle.std.proofs.lemmas.Int.{to_z-of_z}
use mir.Syntax.{w128}
use Rattle.std.proofs.lemmas.Result.{IfOk-weaker}
use Rattle.scattering.specs.Series.{cut}
use Rattle.trunc_series.specs.Shown.{term_of}
use Rattle.series_bench.proofs.Parts.{made-part, near-one, mass-one, sum-part}
use Rattle.series_bench.proofs.factor.+sum.Goals as goal

pub returns-then-to-from : goal.returns-then-to-from
returns-then-to-from t c =
    let law = c.bounds_carry_over.ensures in
    IfOk-weaker c.zero.result _ _ (λ s h. made-part law.series_has_least_mass law.series_stays_near (c.args.to - c.args.from) s [] h tt (omega arith)) c.zero.ensures

pub returns-then-to-from-eq1 : goal.returns-then-to-from-eq1
returns-then-to-from-eq1 t c =
    let law = c.bounds_carry_over.ensures in
    let one : c.args.to - c.args.from ≡ 1 = omega (arith, c.if-to-from-eq1.true) in
    let term = term_of c.term-c.result in
    let fits : FitsSigned w128 c.term-c.result.1 = search rules in
    IfOk-weaker c.monomial.result _ _ (λ s h. made-part law.series_has_least_mass law.series_stays_near (c.args.to - c.args.from) s (cut 24 (term ∷ [])) (rw (to_z-of_z w128 c.term-c.result.1 fits) at h) (near-one term c.term-c.ensures.near) (let m = mass-one term c.term-c.ensures.small in omega (arith, m, one))) c.monomial.ensures

pub returns : goal.returns
returns t c =
    let law = c.bounds_carry_over.ensures in
    IfOk-weaker c.add.result _ _ (λ s h. sum-part law.series_has_least_mass law.series_stays_near law.sums_stay_near law.masses_add _ _ (c.args.to - c.args.from) c.in_ok-left.left c.in_ok-right.right s c.in_ok-left.ensures c.in_ok-right.ensures (omega arith) h) c.add.ensures
