use Rattle.std.proofs.Common.{◌∙◌, arith, sym, subst}
use Rattle.std.specs.Prelude.{◌≡◌, vec_len, IfOk}
use Rattle.scattering.specs.Wall.{walls}
use Rattle.joint_board.specs.Seen.{SeenSeat}
use Rattle.joint_board.proofs.Found.{zip-from, both-ok}
use Rattle.ask_workers.specs.Answered.{AreAnsweredBy}
use Rattle.ask_workers.proofs.workers.answered_by_all.Goals as goal

pub returns : goal.returns
returns g c =
    let By = λ (s : SeenSeat). AreAnsweredBy (walls c.args.e.now.diagram) c.args.e.now.order c.args.asks.now s in
    both-ok (λ found. vec_len found ≡ vec_len c.args.places) _ _ c.map_vec.result
    (λ found len each. zip-from (λ p r. IfOk r (By p.seat)) c.args.places.items found.items (omega (arith, len, found.ok, c.args.places.ok))
    (λ i p r l a b. let j = (each i r l).1 in
    subst (λ t. IfOk r (By t.seat)) (sym (a ∙ j.job_is p)) (subst (λ r. IfOk r (By j.job.seat)) (sym b) j.call.met)))
    c.map_vec.ensures.len c.map_vec.ensures.each
