-- How the board stands to the order machine.
--     reply_of a             the machine's reply to a claim that was answered so
--     DrewAs s w b           after the events b the worker w of the machine drew what the seat drew, and it holds no task
--     AllDrewAs kept b       so did the workers of all seats' numbers
use Rattle.std.specs.Prelude.{◌≡◌, ℕ, List, All, Option, Some, None}
use Rattle.order_machine.specs.declared.event.Event.{Event}
use Rattle.order_machine.specs.declared.event.Reply.{Reply}
use Rattle.order_machine.specs.declared.event.Reply.TheVariants as reply
use Rattle.order_machine.specs.History.{drawn_by, held_by}
use Rattle.joint_board.specs.Seen.{SeenSeat, SeenKept}

abbrev pub reply_of : Option ℕ → Reply
reply_of (Some n) = reply.Drawn n
reply_of None = reply.NoTask

pub record DrewAs (s : SeenSeat) (w : ℕ) (b : List Event) : Type 0 where
  pub drawn : drawn_by w b ≡ s.drawn
  pub free : held_by w s.board.tasks b ≡ None

abbrev pub AllDrewAs : {T : Type 0} → List (SeenKept T) → List Event → Type 0
AllDrewAs kept b = All (λ k. DrewAs k.seat k.seat.number b) kept
