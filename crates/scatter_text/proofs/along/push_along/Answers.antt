-- The row that is pushed is that of the term.
use Rattle.std.proofs.Common.{◌≡◌, ◌∙◌, sym, rules, false}
use mir.Syntax.{w128}
use Rattle.std.proofs.lemmas.Int.{to_z-of_z}
use Rattle.scattering.specs.Series.{unit, key_eq}
use Rattle.plane_geom.specs.Shown.{vector_of}
use Rattle.trunc_series.specs.Shown.{key_of}
use Rattle.scatter_text.proofs.AlongDirection.{pushed}
use Rattle.scatter_text.proofs.along.push_along.Goals as goal

pub row-requires : goal.row-requires
row-requires c =
    let e : key_eq (key_of c.args.term.now.0) unit ≡ false = sym c.is_constant.ensures ∙ c.if-is_constant.false in
    (rw e at c.requires).0

pub returns : goal.returns
returns c =
    let e : key_eq (key_of c.args.term.now.0) unit ≡ false = sym c.is_constant.ensures ∙ c.if-is_constant.false in
    rw e (pushed (vector_of c.args.dir.now) c.args.out.now.items c.push.new.self.items c.row.result _ c.in_ok-push.ensures.items (c.row.ensures ∙ λ i. (key_of c.args.term.now.0, to_z-of_z w128 c.args.term.now.1 (search rules) i)))
