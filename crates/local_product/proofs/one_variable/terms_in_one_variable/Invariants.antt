use Rattle.std.proofs.Common.{◌≡◌, take}
use Rattle.scattering.specs.Series.{absolute}
use Rattle.trunc_series.specs.Shown.{sum_of}
use Rattle.local_product.specs.OneVariable.{in_one_variable}
use Rattle.local_product.proofs.one_variable.terms_in_one_variable.Given as goal

abbrev pub invariant-loop-t : goal.invariant-loop-t
invariant-loop-t l = sum_of l.out.items ≡ in_one_variable (absolute (sum_of (take l.t-index l.terms)))
