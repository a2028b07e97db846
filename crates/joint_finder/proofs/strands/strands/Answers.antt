use Rattle.std.proofs.Common.{◌∙◌, ◌+◌, ◌++◌, sym, ap, subst, take, drop, append_assoc, take-append-drop}
use Rattle.joint_finder.specs.declared.live.LiveWall.{LiveWall}
use Rattle.joint_finder.specs.Strands.{IsInside, AreStrands}
use Rattle.joint_finder.proofs.StrandWalls.{first-inside, strands-more}
use Rattle.joint_finder.proofs.strands.strands.Goals as goal

pub hull_of-requires : goal.hull_of-requires
hull_of-requires c =
    let line = c.line_of-line.result in
    rw c.split_at.ensures.front
    (first-inside line c.loop-left.left.now c.index-left-0.result c.length_along-count.result c.loop-left-test.true c.index-left-0.is
    (subst (λ (k : LiveWall). IsInside k.support line) (sym c.index-left-0.is) c.line_of-line.ensures.inside) c.length_along-count.ensures.along)

pub loop-left-preserved : goal.loop-left-preserved
loop-left-preserved c =
    let seen = c.loop-left.invariant.0 in
    let left = c.loop-left.left.now in
    let n = 1 + c.length_along-count.result in (
      seen ++ take n left,
      ap (λ v. (seen ++ take n left) ++ v) c.split_at.ensures.back ∙ append_assoc seen (take n left) (drop n left) ∙ ap (λ v. seen ++ v) (take-append-drop n left) ∙ c.loop-left.invariant.1,
      subst (AreStrands (seen ++ take n left)) (sym c.in_ok-push.ensures.items) (strands-more seen (take n left) c.loop-left.strands.items _ c.loop-left.invariant.2 c.split_at.ensures.front c.hull_of.ensures),
    )
