use Rattle.std.proofs.Common.{arith, rules, ◌∙◌, sym, FitsSigned}
use Rattle.std.specs.Int.{w128}
use Rattle.std.proofs.lemmas.Int.{to_z-of_z}
use Rattle.trunc_series.specs.Shown.{key_of}
use Rattle.trunc_series.proofs.Terms.{at, Every-at}
use Rattle.vertex_lie.specs.Leading.{turn, IsDividend}
use Rattle.vertex_lie.proofs.Divided.{turn-nonzero, begun-more, begun-all, read-quotient}
use Rattle.vertex_lie.proofs.leading_part.quotients.Goals as goal

pub quotient-requires-clause-c : goal.quotient-requires-clause-c
quotient-requires-clause-c c = (Every-at IsDividend c.args.terms.now c.loop-t.t-index (omega arith) c.requires).1

pub quotient-requires-clause-nonzero : goal.quotient-requires-clause-nonzero
quotient-requires-clause-nonzero c z =
    let f : FitsSigned w128 c.determinant.result = search rules in
    turn-nonzero c.args.axis (key_of (at c.args.terms.now c.loop-t.t-index).0).exp (Every-at IsDividend c.args.terms.now c.loop-t.t-index (omega arith) c.requires).0
    (sym c.determinant.ensures.value ∙ sym (to_z-of_z w128 c.determinant.result f) ∙ z)

pub loop-t-preserved : goal.loop-t-preserved
loop-t-preserved c =
    let f : FitsSigned w128 c.determinant.result = search rules in
    rw c.in_ok-push.ensures.items
    (begun-more (turn c.args.axis) c.args.terms.now c.loop-t.out.items c.loop-t.t-index (omega arith) c.quotient.result
    (read-quotient c.quotient.result.num c.quotient.result.den (at c.args.terms.now c.loop-t.t-index).1 _ _ (to_z-of_z w128 c.determinant.result f ∙ c.determinant.ensures.value) c.quotient.ensures) c.loop-t.invariant)

pub returns : goal.returns
returns c = begun-all (turn c.args.axis) c.args.terms.now c.loop-t.out.items c.loop-t.t-index (omega arith) c.loop-t.invariant
