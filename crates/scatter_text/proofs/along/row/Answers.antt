-- The multiple of the direction is the exponent.
use Rattle.std.proofs.Common.{rules, sym}
use mir.Syntax.{w128}
use Rattle.std.proofs.lemmas.Int.{to_z-of_z}
use Rattle.trunc_series.specs.Shown.{powers_of}
use Rattle.scatter_text.proofs.along.row.Goals as goal

pub returns : goal.returns
returns c = λ i. (record { powers = powers_of c.args.key.now.powers; exp = sym c.multiple-j.ensures i }, to_z-of_z w128 c.args.c (search rules) i)
