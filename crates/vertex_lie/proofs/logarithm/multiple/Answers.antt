use Rattle.std.proofs.Common.{◌≡◌, ◌≢◌, arith, rules, FitsSigned}
use Rattle.std.specs.Prelude.{pos}
use Rattle.std.specs.Int.{w32}
use Rattle.std.proofs.lemmas.Int.{ints, to_z-of_z}
use Rattle.plane_geom.specs.Shown.{vector_of as direction_of}
use Rattle.trunc_series.specs.Shown.{exp_of}
use Rattle.vertex_lie.proofs.Logarithms.{second-size, first-positive, second-positive}
use Rattle.vertex_lie.proofs.logarithm.multiple.Goals as goal

pub quotient-requires-else-dir-ne0 : goal.quotient-requires-else-dir-ne0
quotient-requires-else-dir-ne0 c =
    let f : FitsSigned w32 c.args.dir.now.b = search rules in
    let a : c.args.dir.now.a ≡ pos 0 = omega (arith, ints) in
    rw (to_z-of_z w32 c.args.dir.now.b f) (second-size (direction_of c.args.dir.now) c.args.dir.now.primitive a)

pub returns-then-dir-ne0-clause-positive : goal.returns-then-dir-ne0-clause-positive
returns-then-dir-ne0-clause-positive c =
    let f : FitsSigned w32 c.args.dir.now.a = search rules in
    let g : FitsSigned w32 c.args.key.now.exp.a = search rules in
    let n : c.args.dir.now.a ≢ pos 0 = omega (arith, ints) in
    rw (c.quotient.ensures, to_z-of_z w32 c.args.dir.now.a f, to_z-of_z w32 c.args.key.now.exp.a g) (first-positive (direction_of c.args.dir.now) (exp_of c.args.key.now.exp) c.requires n)

pub returns-else-dir-ne0-clause-positive : goal.returns-else-dir-ne0-clause-positive
returns-else-dir-ne0-clause-positive c =
    let f : FitsSigned w32 c.args.dir.now.b = search rules in
    let g : FitsSigned w32 c.args.key.now.exp.b = search rules in
    let a : c.args.dir.now.a ≡ pos 0 = omega (arith, ints) in
    rw (c.quotient-else-dir-ne0.ensures, to_z-of_z w32 c.args.dir.now.b f, to_z-of_z w32 c.args.key.now.exp.b g) (second-positive (direction_of c.args.dir.now) (exp_of c.args.key.now.exp) c.args.dir.now.primitive c.requires a)
