use denote.Param.Send.{sendable}
use Rattle.diagram_reader.proofs.Sent.{asks_send}
use Rattle.diagram_reader.proofs.shared.are_sent.Goals as goal

pub is_sent-requires-send-T : goal.is_sent-requires-send-T
is_sent-requires-send-T c κs = search (sendable, asks_send)
