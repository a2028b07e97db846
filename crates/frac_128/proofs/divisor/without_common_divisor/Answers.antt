use Rattle.frac_128.proofs.Divided.{common-fits, common-positive, quotient-fits, reduced}
use Rattle.frac_128.proofs.divisor.without_common_divisor.Goals as goal

pub overflow_cast-common : goal.overflow_cast-common
overflow_cast-common c = common-fits c.args.a c.args.b _ _ c.gcd-common.result c.ranges.a c.ranges.b c.requires c.unsigned_abs.ensures.value c.unsigned_abs-2.ensures.value c.gcd-common.ensures

pub nonzero_div-result : goal.nonzero_div-result
nonzero_div-result c = (
  common-positive c.args.a c.args.b _ _ c.gcd-common.result c.ranges.a c.ranges.b c.requires c.unsigned_abs.ensures.value c.unsigned_abs-2.ensures.value c.gcd-common.ensures,
  quotient-fits c.args.a c.args.b _ _ c.gcd-common.result c.ranges.a c.ranges.b c.requires c.unsigned_abs.ensures.value c.unsigned_abs-2.ensures.value c.gcd-common.ensures c.args.a c.ranges.a,
)

pub nonzero_div-result-2 : goal.nonzero_div-result-2
nonzero_div-result-2 c = (
  common-positive c.args.a c.args.b _ _ c.gcd-common.result c.ranges.a c.ranges.b c.requires c.unsigned_abs.ensures.value c.unsigned_abs-2.ensures.value c.gcd-common.ensures,
  quotient-fits c.args.a c.args.b _ _ c.gcd-common.result c.ranges.a c.ranges.b c.requires c.unsigned_abs.ensures.value c.unsigned_abs-2.ensures.value c.gcd-common.ensures c.args.b c.ranges.b,
)

pub returns : goal.returns
returns c = reduced c.args.a c.args.b _ _ c.gcd-common.result c.ranges.a c.ranges.b c.requires c.unsigned_abs.ensures.value c.unsigned_abs-2.ensures.value c.gcd-common.ensures
