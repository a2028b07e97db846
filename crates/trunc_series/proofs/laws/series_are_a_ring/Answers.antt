use Rattle.trunc_series.proofs.laws.series_are_a_ring.Goals as goal
use Rattle.trunc_series.proofs.Associate.{mul-assoc}
use Rattle.trunc_series.proofs.Congruence.{mul-comm}
use Rattle.trunc_series.proofs.PowerLaws.{pow-add}
use Rattle.trunc_series.proofs.RingLaws.{series-determined, addition-commutes, addition-associates, zero-neutral, negative-cancels, one-neutral, multiplication-distributes, addition-keeps, multiplication-keeps, powers-keep}
use Rattle.trunc_series.proofs.InverseLaws.{inverse-cancels, signed-add}

pub returns : goal.returns
returns c = record {
  determined = series-determined;
  addition_commutes = addition-commutes;
  addition_is_associative = addition-associates;
  zero_is_neutral = zero-neutral;
  negative_cancels = negative-cancels;
  multiplication_commutes = mul-comm;
  multiplication_is_associative = mul-assoc;
  one_is_neutral = one-neutral;
  multiplication_distributes = multiplication-distributes;
  exponents_add = pow-add;
  inverse_cancels = inverse-cancels;
  signed_exponents_add = signed-add;
  addition_keeps_same = addition-keeps;
  multiplication_keeps_same = multiplication-keeps;
  powers_keep_same = powers-keep;
}
