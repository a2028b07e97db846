use Rattle.std.proofs.Common.{rules}
use Rattle.std.specs.Int.{w128}
use Rattle.std.proofs.lemmas.Int.{to_z-of_z}
use Rattle.frac_128.proofs.Lowest.{reduced-lowest, reduced-equal}
use Rattle.frac_128.proofs.Seen.{reduced-seen, equal-along, lowest-along}
use Rattle.frac_128.proofs.Fraction.new.Goals as goal

pub invariant_of-result : goal.invariant_of-result
invariant_of-result c =
    let r = reduced-seen _ _ _ _ c.ranges.num c.ranges.den c.without_common_divisor-num.ensures in
    record { lowest = lowest-along _ _ _ _ (to_z-of_z w128 c.without_common_divisor-num.result.0 (search rules)) (to_z-of_z w128 c.without_common_divisor-num.result.1 (search rules)) (reduced-lowest _ _ _ _ c.requires r) }

pub returns : goal.returns
returns c =
    let r = reduced-seen _ _ _ _ c.ranges.num c.ranges.den c.without_common_divisor-num.ensures in
    equal-along _ _ _ _ _ _ (to_z-of_z w128 c.without_common_divisor-num.result.0 (search rules)) (to_z-of_z w128 c.without_common_divisor-num.result.1 (search rules)) (reduced-equal _ _ _ _ r)
