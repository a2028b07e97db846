use Rattle.std.proofs.Common.{arith, sym, ◌^◌, ◌∙◌, length, ◌<◌, FitsSigned}
use Rattle.std.specs.Int.{w128}
use Rattle.std.specs.Prelude.{nat_abs}
use Rattle.std.proofs.lemmas.Int.{to_z-of_z, fits_signed_from_abs}
use Rattle.trunc_series.specs.Reduced.{IsNearKey}
use Rattle.trunc_series.proofs.Terms.{at, Every-at}
use Rattle.vertex_lie.proofs.ReadTerms.{step-shown, step-other}
use Rattle.vertex_lie.proofs.leading_part.read.Goals as goal
use Rattle.vertex_lie.proofs.leading_part.read.Goals.{then-shows+in_ok-push, else-shows}

pub over-key-requires : goal.over-key-requires
over-key-requires c = Every-at (λ t. IsNearKey t.0) c.args.terms.now c.loop-t.t-index (omega arith) c.requires.near

pub loop-t-preserved : goal.loop-t-preserved
loop-t-preserved c =
    let h : c.loop-t.t-index < length c.args.terms.now = omega arith in
    let f : FitsSigned w128 (at c.args.terms.now c.loop-t.t-index).1 = fits_signed_from_abs w128 _ (Every-at (λ t. nat_abs t.1 < 2 ^ 127) c.args.terms.now c.loop-t.t-index h c.requires.small) in
    elim c.if-shows.branch [
      | then-shows+in_ok-push w ↦ rw (w.out-is, w.in_ok-push.ensures.items, to_z-of_z w128 (at c.args.terms.now c.loop-t.t-index).1 f) (step-shown c.args.degree c.args.reading c.loop-t.out.items c.args.terms.now c.loop-t.t-index h c.over-key.result c.over-key.ensures (sym c.shows.ensures ∙ w.if-shows.true) ∙ c.loop-t.invariant)
      | else-shows w ↦ rw w.out-is (step-other c.args.degree c.args.reading c.loop-t.out.items c.args.terms.now c.loop-t.t-index h c.over-key.result c.over-key.ensures (sym c.shows.ensures ∙ w.if-shows.false) ∙ c.loop-t.invariant)
    ]
