use denote.Param.Send.{sendable}
use Rattle.order_epochs.proofs.Sent.{reader_send, pinned_send}
use Rattle.order_epochs.proofs.shared.are_sent.Goals as goal

pub is_sent-requires-send-T : goal.is_sent-requires-send-T
is_sent-requires-send-T c κs = search (sendable, reader_send)

pub is_sent-requires-2-send-T : goal.is_sent-requires-2-send-T
is_sent-requires-2-send-T c κs = search (sendable, pinned_send)
