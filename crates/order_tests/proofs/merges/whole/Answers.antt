use Rattle.frac_128.proofs.Reading.{whole-lowest}
use Rattle.order_tests.proofs.merges.whole.Goals as goal

pub invariant_of-result : goal.invariant_of-result
invariant_of-result c = record { lowest = whole-lowest _ }
