use Rattle.std.proofs.Common.{◌≡◌, ◌+◌, ◌∙◌, ap, sym, subst, List, [], ◌∷◌, ◌++◌, take}
use Rattle.scatter_diagram.specs.Shown.{wall_of, walls_of}
use Rattle.joint_finder.specs.declared.live.LiveWall.{LiveWall}
use Rattle.joint_finder.specs.Live.{AreLive}
use Rattle.joint_finder.proofs.LiveWalls.{live-more, live-skip, walls-more}
use Rattle.joint_finder.proofs.live.add_live.Goals as goal
use Rattle.joint_finder.proofs.live.add_live.Goals.{in-Some+in_ok-push, in_default}

pub loop-w-preserved : goal.loop-w-preserved
loop-w-preserved c = λ seen h.
    let old = c.loop-w.live.items in
    let front = seen ++ walls_of (take c.loop-w.w-index c.args.walls.now) in
    let w' = wall_of c.w-item.result in
    let e : seen ++ walls_of (take (c.loop-w.w-index + 1) c.args.walls.now) ≡ front ++ w' ∷ [] = walls-more seen c.args.walls.now c.loop-w.w-index c.w-item.result c.loop-w-test.true c.w-item.is in
    subst (AreLive c.match-live_wall.live.items) (sym e)
    (elim c.match-live_wall.branch [
      | in-Some+in_ok-push w ↦
          subst (λ (ls : List LiveWall). AreLive ls (front ++ w' ∷ [])) (sym (ap (λ v. v.items) w.live-is ∙ w.in_ok-push.ensures.items))
          (live-more old front w.in-Some.shown w' (c.loop-w.invariant seen h) w.in-Some.ensures)
      | in_default w ↦ subst (λ (ls : List LiveWall). AreLive ls (front ++ w' ∷ [])) (sym (ap (λ v. v.items) w.live-is)) (live-skip old front w' (c.loop-w.invariant seen h) w.in_default.ensures)
    ])
