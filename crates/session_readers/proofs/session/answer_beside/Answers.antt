use denote.Param.Send.{sendable}
use Rattle.std.proofs.Crossing.{frees}
use Rattle.std.proofs.alloc.Global.TheSendSync as heap
use Rattle.std.proofs.result.Result.TheSendSync as result
use Rattle.std.proofs.vec.Vec.TheSendSync as vec
use Rattle.session_readers.proofs.Sent.{seat_send}
use Rattle.session_readers.proofs.session.answer_beside.Goals as goal

pub run_beside-answered-requires-send-J : goal.run_beside-answered-requires-send-J
run_beside-answered-requires-send-J g c κs within = search (sendable, seat_send, vec.the_send, heap.the_send, frees)

pub run_beside-answered-requires-send-X : goal.run_beside-answered-requires-send-X
run_beside-answered-requires-send-X g c κs within = search (sendable, seat_send, vec.the_send, result.the_send, heap.the_send, frees)
