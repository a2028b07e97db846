-- Readers may be handed to threads.
use denote.Param.Send.{IsSend, view_send, recorded_send, struct_send}
use denote.Struct.Declared.{shape}
use Rattle.order_epochs.proofs.Sent.{reader_send}
use Rattle.diagram_reader.specs.contracts.reader.DiagramReader as asks
use Rattle.diagram_reader.specs.contracts.reader.DiagramReader.TheInside as inside

inside_send : IsSend inside.the_row
inside_send = recorded_send inside.the_field.row _ _ inside.the_type.to_one (struct_send (shape inside.the_type) (reader_send, tt))

pub asks_send : IsSend asks.the_row
asks_send = view_send _ _ _ _ _ inside_send
