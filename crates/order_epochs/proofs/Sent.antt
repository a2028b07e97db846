-- What is told and pinned, and readers may be handed to threads.
use denote.Param.Send.{IsSend, sendable, view_send, recorded_send, struct_send, owning_send}
use denote.Struct.Declared.{shape}
use denote.Struct.Owning.{row}
use Rattle.std.specs.contracts.snapshot.Snapshot.{the_type as snapshot_type}
use Rattle.std.proofs.Crossing.{frees}
use Rattle.std.proofs.alloc.Global.TheSendSync as heap
use Rattle.std.proofs.sync.Arc.TheSendSync as arc
use Rattle.scatter_step.specs.contracts.completed.Completed.{the_row as completed_row}
use Rattle.scatter_step.proofs.completed.Completed.TheSendSync as completed
use Rattle.left_right.proofs.reader.Reader.TheSendSync as seat
use Rattle.order_epochs.proofs.told.Owner.TheSendSync as owner
use Rattle.order_epochs.proofs.shelf.Shelf.TheSendSync as shelf
use Rattle.order_epochs.specs.contracts.told.Told as told
use Rattle.order_epochs.specs.contracts.told.Told.TheInside as in_told
use Rattle.order_epochs.specs.contracts.reader.EpochReader as reader
use Rattle.order_epochs.specs.contracts.reader.EpochReader.TheInside as in_reader
use Rattle.order_epochs.specs.contracts.pinned.Pinned as pinned
use Rattle.order_epochs.specs.contracts.pinned.Pinned.TheInside as in_pinned

snapshot_send : IsSend (row (snapshot_type completed_row))
snapshot_send = owning_send (snapshot_type completed_row) (search sendable, tt) (λ d. tt) (λ k x w. tt)

in_told_send : IsSend in_told.the_row
in_told_send = recorded_send in_told.the_field.row _ _ in_told.the_type.to_one (struct_send (shape in_told.the_type) (snapshot_send, (search sendable, (owner.the_field_send, tt))))

told_send : IsSend told.the_row
told_send = view_send _ _ _ _ _ in_told_send

in_reader_send : IsSend in_reader.the_row
in_reader_send = recorded_send in_reader.the_field.row _ _ in_reader.the_type.to_one (struct_send (shape in_reader.the_type) (search (sendable, seat.the_field_send, shelf.the_sync, heap.the_send, heap.the_sync, frees), (search sendable, (search (sendable, told_send), tt))))

pub reader_send : IsSend reader.the_row
reader_send = view_send _ _ _ _ _ in_reader_send

in_pinned_send : IsSend in_pinned.the_row
in_pinned_send = recorded_send in_pinned.the_field.row _ _ in_pinned.the_type.to_one (struct_send (shape in_pinned.the_type) (reader_send, (search (sendable, arc.the_send, completed.the_send, completed.the_sync, heap.the_send, heap.the_sync, frees), tt)))

pub pinned_send : IsSend pinned.the_row
pinned_send = view_send _ _ _ _ _ in_pinned_send
