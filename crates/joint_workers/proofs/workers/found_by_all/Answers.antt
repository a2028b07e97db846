use Rattle.std.proofs.Common.{◌∙◌, arith, sym, subst}
use Rattle.std.specs.Prelude.{◌≡◌, vec_len}
use Rattle.joint_board.proofs.Found.{zip-from, both-ok}
use Rattle.joint_workers.specs.Tasks.{IsFoundBy}
use Rattle.joint_workers.proofs.workers.found_by_all.Goals as goal

pub returns : goal.returns
returns g c =
    let e = c.args.tables.now.diagram in
    let n = c.args.tables.now.order in
    let ps = c.args.points.now in
    both-ok (λ found. vec_len found ≡ vec_len c.args.seats) _ _ c.map_vec.result
    (λ found len each. zip-from (IsFoundBy e n ps) c.args.seats.items found.items (omega (arith, len, found.ok, c.args.seats.ok))
    (λ i s r l a b. let j = (each i r l).1 in
    subst (λ t. IsFoundBy e n ps t r) (sym (a ∙ j.job_is s)) (subst (IsFoundBy e n ps j.job) (sym b) j.call.met)))
    c.map_vec.ensures.len c.map_vec.ensures.each
