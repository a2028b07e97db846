use Rattle.std.proofs.Common.{◌≢◌, ◌∙◌, sym, ap, subst, arith, length, get_or, [], ◌∷◌, ◌++◌, ◌<◌}
use Rattle.std.proofs.lemmas.List.{get_or_default}
use Rattle.scattering.specs.Series.{origin}
use Rattle.trunc_series.specs.Shown.{key_of}
use Rattle.vertex_lie.specs.Shown.{lie_of}
use Rattle.vertex_lie.proofs.RunningSums.{ends, IsRunning}
use Rattle.vertex_lie.proofs.AddedTerms.{begun-at_zero, first-later, next-running, onward-here, later-next, read-added, read-fits, read-later, some-length}
use Rattle.vertex_lie.proofs.Arranged.{Item}
use Rattle.vertex_lie.proofs.PairProducts.{lie-ended, every-at}
use Rattle.vertex_lie.proofs.Faults.{passed}
use Rattle.vertex_lie.proofs.bracket.summed.Goals as goal

pub loop-i-init : goal.loop-i-init
loop-i-init c = record {
  running = rw c.new-out.ensures.items (begun-at_zero (get_or c.args.terms.now 0 c.index-terms-0.result).0 c.new.result (lie_of c.args.terms.now) (λ x. every-at (λ t. t.0.exp ≢ origin) c.index-terms-0.result c.args.terms.now 0 (some-length (length c.args.terms.now) (sym c.if-is_empty.false ∙ c.is_empty.ensures)) x) c.new.ensures);
  later = λ d l. first-later _ _ (ap (λ (t : Item). key_of t.0) (get_or_default c.args.terms.now 0 d _ l));
}

pub added-requires-clause-later : goal.added-requires-clause-later
added-requires-clause-later c =
    read-later c.loop-i.sum c.index-terms-i.result _ c.index-terms-i.is (c.loop-i.invariant.later c.index-terms-i.result c.loop-i-test.true)

pub returns-in_err-sum-clause-range : goal.returns-in_err-sum-clause-range
returns-in_err-sum-clause-range c =
    let l : c.loop-i.i < length c.args.terms.now = c.loop-i-test.true in
    passed c.from_residual.result _ _ _ _ c.from_residual.ensures.1
    (λ f. read-fits c.loop-i.out.items c.loop-i.sum _ c.index-terms-i.result (sym c.index-terms-i.is)
    (onward-here c.args.terms.now c.loop-i.out.items c.loop-i.out.items c.loop-i.sum c.loop-i.sum c.index-terms-i.result c.loop-i.i l c.loop-i.invariant.running f)) c.in_err-sum.ensures.range

pub loop-i-preserved : goal.loop-i-preserved
loop-i-preserved c =
    let l : c.loop-i.i < length c.args.terms.now = c.loop-i-test.true in
    record {
      running = next-running c.args.terms.now c.loop-i.out.items c.added.new.out.items c.loop-i.sum c.in_ok-sum.sum c.index-terms-i.result c.loop-i.i l c.loop-i.invariant.running
          (read-added c.loop-i.out.items c.added.new.out.items c.loop-i.sum c.in_ok-sum.sum c.index-terms-i.result _ c.index-terms-i.is c.in_ok-sum.ensures.added)
          (read-fits c.loop-i.out.items c.loop-i.sum c.index-terms-i.result _ c.index-terms-i.is c.in_ok-sum.ensures.range);
      later = λ d m. later-next d c.index-terms-i.result c.args.terms.now c.loop-i.i m (key_of c.in_ok-sum.sum.0) (c.in_ok-sum.ensures.key ∙ ap (λ (t : Item). key_of t.0) c.index-terms-i.is) c.requires;
    }

pub returns-clause-sums : goal.returns-clause-sums
returns-clause-sums c =
    rw c.in_ok-push.ensures.items
    (ends (lie_of (c.loop-i.out.items ++ c.loop-i.sum ∷ [])) (lie_of c.args.terms.now)
    (subst (λ h. IsRunning (lie_of (c.loop-i.out.items ++ c.loop-i.sum ∷ [])) h (lie_of c.args.terms.now)) (lie-ended c.args.terms.now c.loop-i.i (omega arith)) c.loop-i.invariant.running))
