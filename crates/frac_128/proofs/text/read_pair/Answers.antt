use Rattle.std.proofs.Common.{to_z, of_z, rules}
use Rattle.std.specs.Int.{w128}
use Rattle.std.specs.Prelude.{pos, ◌≤ℤ◌}
use Rattle.frac_128.specs.Quotient.{IsLowest}
use Rattle.frac_128.proofs.Reading.{pair-lowest, above-two, common-one, pair-seen}
use Rattle.frac_128.proofs.text.read_pair.Goals as goal
use Rattle.frac_128.proofs.text.read_pair.Goals.{else-den-ge2-via-then-den-ge2+else-gcd-eq1, else-den-ge2-via-else-den-ge2}

pub invariant_of-result : goal.invariant_of-result
invariant_of-result c =
    record { lowest = pair-lowest _ _ c.unsigned_abs.result c.unsigned_abs-then-den-ge2.result c.gcd.result c.if-den-ge2.true c.unsigned_abs.ensures.value c.unsigned_abs-then-den-ge2.ensures.value c.gcd.ensures c.if-gcd-eq1.true }

pub returns-else-den-ge2 : goal.returns-else-den-ge2
returns-else-den-ge2 c p q f g h =
    let k : IsLowest (to_z w128 (of_z w128 c.in_ok-num.num)) (to_z w128 (of_z w128 c.in_ok-den.den)) × (pos 2 ≤ℤ to_z w128 (of_z w128 c.in_ok-den.den)) = pair-seen c.in_ok-num.num c.in_ok-den.den p q c.args.num.now c.args.den.now (search rules) (search rules) f g c.in_ok-num.ensures c.in_ok-den.ensures h in
    elim c.else-den-ge2.branch [
      | else-den-ge2-via-then-den-ge2+else-gcd-eq1 w ↦ w.if-gcd-eq1.false (common-one _ _ w.unsigned_abs.result w.unsigned_abs-then-den-ge2.result w.gcd.result w.unsigned_abs.ensures.value w.unsigned_abs-then-den-ge2.ensures.value w.gcd.ensures k.0)
      | else-den-ge2-via-else-den-ge2 w ↦ above-two _ w.if-den-ge2.false k.1
    ]
