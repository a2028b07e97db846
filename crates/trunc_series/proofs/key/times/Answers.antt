use Rattle.std.proofs.Common.{rules, ◌≡◌, arith, FitsSigned, to_z, of_z, ◌+ℤ◌}
use Rattle.std.specs.Int.{w32}
use Rattle.std.proofs.lemmas.Int.{ints}
use Rattle.trunc_series.proofs.key.times.Goals as goal

pub returns : goal.returns
returns c =
    let ka : FitsSigned w32 c.args.k.now.exp.a = search rules in
    let kb : FitsSigned w32 c.args.k.now.exp.b = search rules in
    let la : FitsSigned w32 c.args.l.now.exp.a = search rules in
    let lb : FitsSigned w32 c.args.l.now.exp.b = search rules in
    let p = c.requires.left in
    let q = c.requires.right in
    let a : to_z w32 (of_z w32 (to_z w32 (of_z w32 c.args.k.now.exp.a) +ℤ to_z w32 (of_z w32 c.args.l.now.exp.a))) ≡ c.args.k.now.exp.a +ℤ c.args.l.now.exp.a = omega (arith, ints) in
    let b : to_z w32 (of_z w32 (to_z w32 (of_z w32 c.args.k.now.exp.b) +ℤ to_z w32 (of_z w32 c.args.l.now.exp.b))) ≡ c.args.k.now.exp.b +ℤ c.args.l.now.exp.b = omega (arith, ints) in
    let r = c.powers_sum.ensures in
    λ i. record { powers = r i; exp = record { a = a i; b = b i } }
