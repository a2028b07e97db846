use Rattle.std.proofs.Common.{◌∙◌, arith, sym, subst}
use Rattle.std.specs.Prelude.{◌≡◌, vec_len}
use denote.Param.Send.{sendable}
use Rattle.session_readers.proofs.Sent.{seat_send}
use Rattle.joint_board.proofs.Found.{zip-from, both-ok}
use Rattle.session_readers.specs.Seats.{IsContinued}
use Rattle.session_readers.proofs.readers.answer_all.Goals as goal

pub map_vec-requires-send-J : goal.map_vec-requires-send-J
map_vec-requires-send-J g c κs = search (sendable, seat_send)

pub map_vec-requires-send-X : goal.map_vec-requires-send-X
map_vec-requires-send-X g c κs = search (sendable, seat_send)

pub returns : goal.returns
returns g c =
    let R = IsContinued c.args.asks.now c.args.to in
    both-ok (λ found. vec_len found ≡ vec_len c.args.seats) _ _ c.map_vec.result
    (λ found len each. zip-from R c.args.seats.items found.items (omega (arith, len, found.ok, c.args.seats.ok))
    (λ i s r l a b. let j = (each i r l).1 in subst (λ t. R t r) (sym (a ∙ j.job_is s)) (subst (R j.job) (sym b) j.call.met)))
    c.map_vec.ensures.len c.map_vec.ensures.each
