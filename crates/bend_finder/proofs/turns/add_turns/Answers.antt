use Rattle.std.proofs.Common.{refl, ◌++◌, ◌∷◌, []}
use Rattle.plane_geom.specs.Shown.{point_of}
use Rattle.trunc_series.specs.Shown.{exp_of}
use Rattle.scatter_diagram.specs.Shown.{walls_of}
use Rattle.bend_finder.specs.Ahead.{bends_of}
use Rattle.bend_finder.specs.Bends.{AreBends}
use Rattle.bend_finder.proofs.Outcomes.{on-ok}
use Rattle.bend_finder.proofs.PointBends.{turnless-more, bends-along, bends-more}
use Rattle.bend_finder.proofs.LowTerms.{turnless}
use Rattle.bend_finder.proofs.turns.add_turns.Goals as goal

pub returns-then-not-has_term-clause-bends : goal.returns-then-not-has_term-clause-bends
returns-then-not-has_term-clause-bends c = λ ls qs p r k b h.
    turnless-more c.args.most ls (exp_of c.args.x) qs (point_of c.args.at.now) (bends_of c.args.bends.now.items)
    (turnless c.args.most ls (walls_of c.args.walls.now) (point_of c.args.at.now) (exp_of c.args.x) p.1 (c.has_term.ensures (let t = c.if-not-has_term.true in cc))) h

pub returns-clause-bends : goal.returns-clause-bends
returns-clause-bends c = λ ls qs p r k b h.
    let n = c.args.most in
    let x = exp_of c.args.x in
    let q = point_of c.args.at.now in
    on-ok {B = AreBends n ls x (qs ++ q ∷ []) (bends_of c.add_bends.new.bends.items)} c.add_bends.result
    (λ e. bends-along n ls x _ _ _ _ refl e (bends-more n ls x q p.0 c.in_ok-power.power (c.in_ok-power.ensures.power ls p.1 r k) qs (bends_of c.args.bends.now.items) b h)) c.add_bends.ensures
