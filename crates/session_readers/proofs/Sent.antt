-- Seats may be handed to threads.
use denote.Param.Send.{IsSend, sendable, recorded_send, struct_send}
use denote.Struct.Declared.{shape}
use Rattle.std.proofs.Crossing.{frees}
use Rattle.std.proofs.alloc.Global.TheSendSync as heap
use Rattle.std.proofs.option.Option.TheSendSync as option
use Rattle.std.proofs.vec.Vec.TheSendSync as vec
use Rattle.theta_algebra.proofs.query.Answer.TheSendSync as answer
use Rattle.diagram_reader.proofs.Sent.{asks_send}
use Rattle.session_readers.specs.contracts.seat.Seat as seat

pub seat_send : IsSend seat.the_row
seat_send =
    recorded_send seat.the_field.row _ _ seat.the_type.to_one
    (struct_send (shape seat.the_type) (search sendable, (asks_send, (search (sendable, vec.the_send, option.the_send, answer.the_send, heap.the_send, frees), tt))))
