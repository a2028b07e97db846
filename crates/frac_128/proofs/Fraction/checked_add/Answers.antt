use Rattle.std.proofs.Common.{refl, sym, rules}
use Rattle.frac_128.specs.Quotient.{AreReduced}
use Rattle.frac_128.proofs.Sum.{sum-positive, sum-reduced, sum-needs, sum-suffices}
use Rattle.frac_128.proofs.Seen.{reduced-seen, times-seen, added, fits-along, stored, positive-along, equal-to, refused}
use Rattle.frac_128.proofs.Fraction.checked_add.Goals as goal

pub returns-in_err-left-clause-fits : goal.returns-in_err-left-clause-fits
returns-in_err-left-clause-fits c =
    let r : AreReduced c.args.self.den c.args.other.den c.without_common_divisor-own.result.0 c.without_common_divisor-own.result.1 = reduced-seen _ _ _ _ (search rules) (search rules) c.without_common_divisor-own.ensures in
    let x = times-seen c.args.self.num c.without_common_divisor-own.result.1 (search rules) (search rules) in
    refused _ _ c.from_residual.ensures (λ h. c.in_err-left.ensures (fits-along _ _ (sym x) (sum-needs _ _ _ _ _ _ c.args.self.lowest c.args.other.lowest r h).left))

pub returns-in_err-right-clause-fits : goal.returns-in_err-right-clause-fits
returns-in_err-right-clause-fits c =
    let r : AreReduced c.args.self.den c.args.other.den c.without_common_divisor-own.result.0 c.without_common_divisor-own.result.1 = reduced-seen _ _ _ _ (search rules) (search rules) c.without_common_divisor-own.ensures in
    let y = times-seen c.args.other.num c.without_common_divisor-own.result.0 (search rules) (search rules) in
    refused _ _ c.from_residual-in_err-right.ensures (λ h. c.in_err-right.ensures (fits-along _ _ (sym y) (sum-needs _ _ _ _ _ _ c.args.self.lowest c.args.other.lowest r h).right))

pub returns-in_err-num-clause-fits : goal.returns-in_err-num-clause-fits
returns-in_err-num-clause-fits c =
    let r : AreReduced c.args.self.den c.args.other.den c.without_common_divisor-own.result.0 c.without_common_divisor-own.result.1 = reduced-seen _ _ _ _ (search rules) (search rules) c.without_common_divisor-own.ensures in
    let x = times-seen c.args.self.num c.without_common_divisor-own.result.1 (search rules) (search rules) in
    let y = times-seen c.args.other.num c.without_common_divisor-own.result.0 (search rules) (search rules) in
    let n = added c.in_ok-left.left c.in_ok-right.right _ _ c.in_ok-left.ensures c.in_ok-right.ensures x y in
    refused _ _ c.from_residual-in_err-num.ensures (λ h. c.in_err-num.ensures (fits-along _ _ (sym n) (sum-needs _ _ _ _ _ _ c.args.self.lowest c.args.other.lowest r h).numerator))

pub returns-in_err-den-clause-fits : goal.returns-in_err-den-clause-fits
returns-in_err-den-clause-fits c =
    let r : AreReduced c.args.self.den c.args.other.den c.without_common_divisor-own.result.0 c.without_common_divisor-own.result.1 = reduced-seen _ _ _ _ (search rules) (search rules) c.without_common_divisor-own.ensures in
    let z = times-seen c.args.self.den c.without_common_divisor-own.result.1 (search rules) (search rules) in
    refused _ _ c.from_residual-in_err-den.ensures (λ h. c.in_err-den.ensures (fits-along _ _ (sym z) (sum-needs _ _ _ _ _ _ c.args.self.lowest c.args.other.lowest r h).denominator))

pub new-requires : goal.new-requires
new-requires c =
    let r : AreReduced c.args.self.den c.args.other.den c.without_common_divisor-own.result.0 c.without_common_divisor-own.result.1 = reduced-seen _ _ _ _ (search rules) (search rules) c.without_common_divisor-own.ensures in
    let z = times-seen c.args.self.den c.without_common_divisor-own.result.1 (search rules) (search rules) in
    positive-along _ _ (stored _ _ _ c.in_ok-den.ensures.0 c.in_ok-den.ensures.1 z) (sum-positive _ _ _ _ _ _ c.args.self.lowest c.args.other.lowest r)

pub returns-clause-sum : goal.returns-clause-sum
returns-clause-sum c =
    let r : AreReduced c.args.self.den c.args.other.den c.without_common_divisor-own.result.0 c.without_common_divisor-own.result.1 = reduced-seen _ _ _ _ (search rules) (search rules) c.without_common_divisor-own.ensures in
    let x = times-seen c.args.self.num c.without_common_divisor-own.result.1 (search rules) (search rules) in
    let y = times-seen c.args.other.num c.without_common_divisor-own.result.0 (search rules) (search rules) in
    let n = added c.in_ok-left.left c.in_ok-right.right _ _ c.in_ok-left.ensures c.in_ok-right.ensures x y in
    let z = times-seen c.args.self.den c.without_common_divisor-own.result.1 (search rules) (search rules) in
    sum-reduced _ _ _ _ _ _ c.args.self.lowest c.args.other.lowest r _ _
    (equal-to _ _ _ _ _ _ (stored _ _ _ c.in_ok-num.ensures.0 c.in_ok-num.ensures.1 n) (stored _ _ _ c.in_ok-den.ensures.0 c.in_ok-den.ensures.1 z) c.new.ensures)

pub returns-clause-fits : goal.returns-clause-fits
returns-clause-fits c =
    let r : AreReduced c.args.self.den c.args.other.den c.without_common_divisor-own.result.0 c.without_common_divisor-own.result.1 = reduced-seen _ _ _ _ (search rules) (search rules) c.without_common_divisor-own.ensures in
    let x = times-seen c.args.self.num c.without_common_divisor-own.result.1 (search rules) (search rules) in
    let y = times-seen c.args.other.num c.without_common_divisor-own.result.0 (search rules) (search rules) in
    let n = added c.in_ok-left.left c.in_ok-right.right _ _ c.in_ok-left.ensures c.in_ok-right.ensures x y in
    let z = times-seen c.args.self.den c.without_common_divisor-own.result.1 (search rules) (search rules) in (
      λ _. sum-suffices _ _ _ _ _ _ c.args.self.lowest c.args.other.lowest r (record {
        left = fits-along _ _ x c.in_ok-left.ensures.0;
        right = fits-along _ _ y c.in_ok-right.ensures.0;
        numerator = fits-along _ _ n c.in_ok-num.ensures.0;
        denominator = fits-along _ _ z c.in_ok-den.ensures.0;
      }),
      λ _. refl,
    )
