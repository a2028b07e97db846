use Rattle.std.proofs.Common.{◌≤◌, arith, FitsSigned, ◌*ℤ◌, nat_abs}
use Rattle.std.proofs.lemmas.Int.{to_z-of_z, unsigned_abs-mul}
use mir.Syntax.{w32, w64}
use Rattle.limits.specs.Limits.{largest_given_exponent}
use Rattle.frac_128.proofs.SignedProducts.{within, widened}
use Rattle.scatter_text.proofs.initial.exponent.Goals as goal

pub overflow_mul-result : goal.overflow_mul-result
overflow_mul-result c =
    let small : nat_abs (c.args.j *ℤ c.args.d) ≤ largest_given_exponent = rw (unsigned_abs-mul c.args.j c.args.d) c.requires in
    rw (to_z-of_z w64 c.args.j c.ranges.j, to_z-of_z w64 c.args.d c.ranges.d) (within w64 (c.args.j *ℤ c.args.d) largest_given_exponent small (omega arith))

pub overflow_cast-result : goal.overflow_cast-result
overflow_cast-result c =
    let small : nat_abs (c.args.j *ℤ c.args.d) ≤ largest_given_exponent = rw (unsigned_abs-mul c.args.j c.args.d) c.requires in
    let fits : FitsSigned w64 (c.args.j *ℤ c.args.d) = within w64 (c.args.j *ℤ c.args.d) largest_given_exponent small (omega arith) in
    rw (to_z-of_z w64 c.args.j c.ranges.j, to_z-of_z w64 c.args.d c.ranges.d, to_z-of_z w64 (c.args.j *ℤ c.args.d) fits) (within w32 (c.args.j *ℤ c.args.d) largest_given_exponent small (omega arith))

pub returns : goal.returns
returns c =
    let small : nat_abs (c.args.j *ℤ c.args.d) ≤ largest_given_exponent = rw (unsigned_abs-mul c.args.j c.args.d) c.requires in
    rw (to_z-of_z w64 c.args.j c.ranges.j, to_z-of_z w64 c.args.d c.ranges.d)
    (widened w64 w32 (c.args.j *ℤ c.args.d) (within w64 (c.args.j *ℤ c.args.d) largest_given_exponent small (omega arith)) (within w32 (c.args.j *ℤ c.args.d) largest_given_exponent small (omega arith)))
