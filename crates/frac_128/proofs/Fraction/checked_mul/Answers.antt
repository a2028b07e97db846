use Rattle.std.proofs.Common.{refl, sym, rules}
use Rattle.frac_128.specs.Quotient.{AreReduced}
use Rattle.frac_128.proofs.Lowest.{product-lowest, product-equal, product-needs, product-suffices}
use Rattle.frac_128.proofs.Seen.{reduced-seen, times-seen, fits-along, stored, equal-along, lowest-along, refused}
use Rattle.frac_128.proofs.Fraction.checked_mul.Goals as goal

pub returns-in_err-num-clause-fits : goal.returns-in_err-num-clause-fits
returns-in_err-num-clause-fits c =
    let r : AreReduced c.args.self.num c.args.other.den c.without_common_divisor-a.result.0 c.without_common_divisor-a.result.1 = reduced-seen _ _ _ _ (search rules) (search rules) c.without_common_divisor-a.ensures in
    let s : AreReduced c.args.other.num c.args.self.den c.without_common_divisor-c.result.0 c.without_common_divisor-c.result.1 = reduced-seen _ _ _ _ (search rules) (search rules) c.without_common_divisor-c.ensures in
    let e = times-seen c.without_common_divisor-a.result.0 c.without_common_divisor-c.result.0 (search rules) (search rules) in
    refused _ _ c.from_residual.ensures (λ h. c.in_err-num.ensures (fits-along _ _ (sym e) (product-needs _ _ _ _ _ _ _ _ c.args.self.lowest c.args.other.lowest r s h).0))

pub returns-in_err-den-clause-fits : goal.returns-in_err-den-clause-fits
returns-in_err-den-clause-fits c =
    let r : AreReduced c.args.self.num c.args.other.den c.without_common_divisor-a.result.0 c.without_common_divisor-a.result.1 = reduced-seen _ _ _ _ (search rules) (search rules) c.without_common_divisor-a.ensures in
    let s : AreReduced c.args.other.num c.args.self.den c.without_common_divisor-c.result.0 c.without_common_divisor-c.result.1 = reduced-seen _ _ _ _ (search rules) (search rules) c.without_common_divisor-c.ensures in
    let e = times-seen c.without_common_divisor-c.result.1 c.without_common_divisor-a.result.1 (search rules) (search rules) in
    refused _ _ c.from_residual-in_err-den.ensures (λ h. c.in_err-den.ensures (fits-along _ _ (sym e) (product-needs _ _ _ _ _ _ _ _ c.args.self.lowest c.args.other.lowest r s h).1))

pub invariant_of-result : goal.invariant_of-result
invariant_of-result c =
    let r : AreReduced c.args.self.num c.args.other.den c.without_common_divisor-a.result.0 c.without_common_divisor-a.result.1 = reduced-seen _ _ _ _ (search rules) (search rules) c.without_common_divisor-a.ensures in
    let s : AreReduced c.args.other.num c.args.self.den c.without_common_divisor-c.result.0 c.without_common_divisor-c.result.1 = reduced-seen _ _ _ _ (search rules) (search rules) c.without_common_divisor-c.ensures in
    let e = times-seen c.without_common_divisor-a.result.0 c.without_common_divisor-c.result.0 (search rules) (search rules) in
    let f = times-seen c.without_common_divisor-c.result.1 c.without_common_divisor-a.result.1 (search rules) (search rules) in
    record { lowest = lowest-along _ _ _ _ (stored _ _ _ c.in_ok-num.ensures.0 c.in_ok-num.ensures.1 e) (stored _ _ _ c.in_ok-den.ensures.0 c.in_ok-den.ensures.1 f) (product-lowest _ _ _ _ _ _ _ _ c.args.self.lowest c.args.other.lowest r s) }

pub returns-clause-product : goal.returns-clause-product
returns-clause-product c =
    let r : AreReduced c.args.self.num c.args.other.den c.without_common_divisor-a.result.0 c.without_common_divisor-a.result.1 = reduced-seen _ _ _ _ (search rules) (search rules) c.without_common_divisor-a.ensures in
    let s : AreReduced c.args.other.num c.args.self.den c.without_common_divisor-c.result.0 c.without_common_divisor-c.result.1 = reduced-seen _ _ _ _ (search rules) (search rules) c.without_common_divisor-c.ensures in
    let e = times-seen c.without_common_divisor-a.result.0 c.without_common_divisor-c.result.0 (search rules) (search rules) in
    let f = times-seen c.without_common_divisor-c.result.1 c.without_common_divisor-a.result.1 (search rules) (search rules) in
    equal-along _ _ _ _ _ _ (stored _ _ _ c.in_ok-num.ensures.0 c.in_ok-num.ensures.1 e) (stored _ _ _ c.in_ok-den.ensures.0 c.in_ok-den.ensures.1 f) (product-equal _ _ _ _ _ _ _ _ c.args.self.lowest c.args.other.lowest r s)

pub returns-clause-fits : goal.returns-clause-fits
returns-clause-fits c =
    let r : AreReduced c.args.self.num c.args.other.den c.without_common_divisor-a.result.0 c.without_common_divisor-a.result.1 = reduced-seen _ _ _ _ (search rules) (search rules) c.without_common_divisor-a.ensures in
    let s : AreReduced c.args.other.num c.args.self.den c.without_common_divisor-c.result.0 c.without_common_divisor-c.result.1 = reduced-seen _ _ _ _ (search rules) (search rules) c.without_common_divisor-c.ensures in
    let e = times-seen c.without_common_divisor-a.result.0 c.without_common_divisor-c.result.0 (search rules) (search rules) in
    let f = times-seen c.without_common_divisor-c.result.1 c.without_common_divisor-a.result.1 (search rules) (search rules) in
    (λ _. product-suffices _ _ _ _ _ _ _ _ c.args.self.lowest c.args.other.lowest r s (fits-along _ _ e c.in_ok-num.ensures.0) (fits-along _ _ f c.in_ok-den.ensures.0), λ _. refl)
