use Rattle.std.proofs.Common.{◌≡◌, ◌∙◌, ℕ, sym, subst, length, take, arith, ◌⊎◌, inl, inr}
use Rattle.scattering.specs.Collections.{In}
use Rattle.joint_finder.specs.declared.live.LiveWall.{LiveWall}
use Rattle.joint_finder.specs.Strands.{IsInside}
use Rattle.joint_finder.proofs.Lists.{In-more}
use Rattle.joint_finder.proofs.strands.length_along.Goals as goal

pub loop-i-preserved : goal.loop-i-preserved
loop-i-preserved c = λ l i. go l (In-more c.args.walls.now c.loop-i.i c.index-walls-i.result l c.loop-i-test.true c.index-walls-i.is i)
  where
    go : (l : LiveWall) → In l (take c.loop-i.i c.args.walls.now) ⊎ (l ≡ c.index-walls-i.result) → IsInside l.support c.args.line.now
    go l (inl j) = c.loop-i.invariant l j
    go l (inr e) = subst (λ (k : LiveWall). IsInside k.support c.args.line.now) (sym (e ∙ c.index-walls-i.is)) (c.lies_on.ensures c.if-not-lies_on.false)

pub returns-clause-along : goal.returns-clause-along
returns-clause-along c =
    let low = c.loop-i-test.false in
    let high = c.loop-i.auto.i-end in
    let e : length c.args.walls.now ≡ c.loop-i.i = omega (arith, low, high) in
    λ l i. c.loop-i.invariant l (subst (λ (k : ℕ). In l (take k c.args.walls.now)) e i)
