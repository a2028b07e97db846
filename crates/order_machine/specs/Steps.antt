-- What a step says of the events that a state stands for.
--     IsStep s e r t     whatever they are: the event is enabled after them, the reply is the one to it, and the new state
--                        stands for them and the event
--     IsBarred s e       whatever they are: the event isn't enabled after them
--     IsRun s es rs t    the same of a list of events and the replies to them
--     IsHalted s es f t  why a list of events was not gone through, and what the state stands for then
use Rattle.std.specs.Prelude.{◌≡◌, ◌<◌, ◌≤◌, ℕ, true, false, List, [], ◌∷◌, ◌++◌, length, take, get_or}
use Rattle.order_machine.specs.declared.event.Event.{Event}
use Rattle.order_machine.specs.declared.event.Event.TheVariants.{Publish}
use Rattle.order_machine.specs.declared.event.Reply.{Reply}
use Rattle.order_machine.specs.declared.fault.MachineFault.{MachineFault}
use Rattle.order_machine.specs.declared.fault.MachineFault.TheVariants.{NotEnabled, Memory}
use Rattle.order_machine.specs.History.{is_enabled, reply_to, replies_to, IsLawfulAfter}
use Rattle.order_machine.specs.Seen.{SeenState}
use Rattle.order_machine.specs.Stands.{Stands}

-- the goal and the numbers of workers and readers stay
pub record AreOfOneSize (s t : SeenState) : Type 0 where
  pub goal : t.goal ≡ s.goal
  pub workers : t.workers ≡ s.workers
  pub readers : length t.readers ≡ length s.readers

pub record IsStep (s : SeenState) (e : Event) (r : Reply) (t : SeenState) : Type 0 where
  pub enabled : (h : List Event) → Stands h s → is_enabled s.goal s.workers h e ≡ true
  pub reply : (h : List Event) → Stands h s → r ≡ reply_to h e
  pub stands : (h : List Event) → Stands h s → Stands (h ++ e ∷ []) t

abbrev pub IsBarred : SeenState → Event → Type 0
IsBarred s e = (h : List Event) → Stands h s → is_enabled s.goal s.workers h e ≡ false

-- want of memory says nothing
abbrev pub IsRefused : SeenState → Event → MachineFault → Type 0
IsRefused s e (NotEnabled place) = (place ≡ 0) × IsBarred s e
IsRefused s e Memory = Unit {0}

pub record IsRun (s : SeenState) (events : List Event) (all : List Reply) (t : SeenState) : Type 0 where
  pub lawful : (h : List Event) → Stands h s → IsLawfulAfter s.goal s.workers (length s.readers) h events
  pub replies : (h : List Event) → Stands h s → all ≡ replies_to h events
  pub stands : (h : List Event) → Stands h s → Stands (h ++ events) t

abbrev pub IsBarredAfter : SeenState → List Event → List Event → ℕ → Type 0
IsBarredAfter s h events place = is_enabled s.goal s.workers h (get_or events place Publish) ≡ false

-- the event at the place isn't enabled after those before it, which are done
pub record IsBarredAt (s : SeenState) (events : List Event) (place : ℕ) (t : SeenState) : Type 0 where
  pub within : place < length events
  pub done : (h : List Event) → Stands h s → Stands (h ++ take place events) t
  pub barred : (h : List Event) → Stands h s → IsBarredAfter s (h ++ take place events) events place

-- some of the events are done
pub record IsCutOff (s : SeenState) (events : List Event) (t : SeenState) : Type 0 where
  pub place : ℕ
  pub within : place ≤ length events
  pub done : (h : List Event) → Stands h s → Stands (h ++ take place events) t

abbrev pub IsHalted : SeenState → List Event → MachineFault → SeenState → Type 0
IsHalted s events (NotEnabled place) t = IsBarredAt s events place t
IsHalted s events Memory t = IsCutOff s events t
