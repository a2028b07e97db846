-- How an ask stands to the order machine, whose events so far are h.
--     machine_reply k result    what the machine replies where `result` is answered in the order k; nothing is said of want
--                               of memory, which the machine doesn't have
--     IsMachineAsk seen least a where the order of a is newest and the reader has seen `seen`, the machine lets it pin that
--                               order, which it then has seen, and replies to its ask as a says
use Rattle.std.specs.Prelude.{◌≡◌, ℕ, List, [], ◌∷◌, ◌++◌, Option, Some, None, Result, Ok, Err, IfSome, unwrap_or}
use Rattle.order_machine.specs.declared.event.Event.{Event}
use Rattle.order_machine.specs.declared.event.Event.TheVariants.{Pin, Ask}
use Rattle.order_machine.specs.declared.event.Reply.{Reply as MachineReply}
use Rattle.order_machine.specs.declared.event.Reply.TheVariants as machine
use Rattle.order_machine.specs.History.{newest_of, seen_by, reply_to}
use Rattle.broken_lines.specs.declared.fault.AskFault.{AskFault}
use Rattle.broken_lines.specs.declared.fault.AskFault.TheVariants.{NotYet, NotGeneric, TooManyReach, TooManyTails, PointTooLarge, WeightTooLarge, Memory}
use Rattle.theta_algebra.specs.declared.query.Reply.{Reply}
use Rattle.theta_algebra.specs.declared.query.Answer.{Answer}

abbrev pub machine_reply : ℕ → Result Reply AskFault → Option MachineReply
machine_reply k (Ok reply) = Some (machine.Answered k)
machine_reply k (Err (NotYet n)) = Some (machine.NotYet n)
machine_reply k (Err (NotGeneric p)) = Some (machine.Answered k)
machine_reply k (Err TooManyReach) = Some (machine.Answered k)
machine_reply k (Err TooManyTails) = Some (machine.Answered k)
machine_reply k (Err PointTooLarge) = Some (machine.Answered k)
machine_reply k (Err WeightTooLarge) = Some (machine.Answered k)
machine_reply k (Err Memory) = None

-- what the machine replies to a pin, and to the ask after it
pub record IsAskOf (r : ℕ) (h : List Event) (least : ℕ) (order : ℕ) (reply : MachineReply) : Type 0 where
  pub pins : reply_to h (Pin r) ≡ machine.Pinned order
  pub seen : seen_by r (h ++ Pin r ∷ []) ≡ order
  pub replies : reply_to (h ++ Pin r ∷ []) (Ask r least) ≡ reply

abbrev pub IsMachineAsk : ℕ → Option ℕ → Answer → Type 0
IsMachineAsk seen least a = (r : ℕ) (h : List Event) → newest_of h ≡ a.order → seen_by r h ≡ seen
    → IfSome (machine_reply a.order a.result) (IsAskOf r h (unwrap_or least 0) a.order)
