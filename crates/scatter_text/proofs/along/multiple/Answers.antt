-- One of the direction's numbers isn't 0, and tells the multiple.
use Rattle.std.proofs.Common.{◌∙◌, sym, rules, FitsSigned}
use mir.Syntax.{w32}
use Rattle.std.proofs.lemmas.Int.{to_z-of_z}
use Rattle.plane_geom.specs.Shown.{vector_of}
use Rattle.trunc_series.specs.Shown.{exp_of as exponent_of}
use Rattle.scatter_text.proofs.Multiples.{multiple-read, second-not_zero, no-bits}
use Rattle.scatter_text.proofs.along.multiple.Goals as goal

pub quotient-requires-else-dir-ne0-clause-some : goal.quotient-requires-else-dir-ne0-clause-some
quotient-requires-else-dir-ne0-clause-some c =
    let fa : FitsSigned w32 c.args.dir.now.a = search rules in
    let fb : FitsSigned w32 c.args.dir.now.b = search rules in
    λ e. second-not_zero (vector_of c.args.dir.now) c.args.dir.now.primitive (no-bits c.args.dir.now.a fa c.if-dir-ne0.false) (sym (to_z-of_z w32 c.args.dir.now.b fb) ∙ e)

pub returns-then-dir-ne0 : goal.returns-then-dir-ne0
returns-then-dir-ne0 c =
    multiple-read (vector_of c.args.dir.now) (exponent_of c.args.exp.now) c.quotient.result (search rules) (search rules) c.requires c.if-dir-ne0.true c.quotient.ensures
