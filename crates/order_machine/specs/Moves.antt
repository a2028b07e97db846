-- The table of the machine: for each event its condition, the change that it makes, and the reply. That this is what a
-- list of events says by counting is `IsStep`.
use Rattle.std.specs.Prelude.{◌≡◌, ◌<◌, ◌≤◌, ℕ, ◌+◌, ◌&&◌, max, nat_lt, nat_eq, not, Bool, true, false, cond, List, [], ◌∷◌, ◌++◌, get_or, set, replicate, length, Option, Some, None, is_some, is_none, option_map, unwrap_or}
use Rattle.std.specs.List.{count_by, list_all, sum_by}
use Rattle.limits.specs.Limits.{highest_order, most_workers}
use Rattle.order_machine.specs.declared.event.Event.{Event}
use Rattle.order_machine.specs.declared.event.Event.TheVariants.{Begin, Claim, Finish, Publish, Tell, Learn, Pin, Ask}
use Rattle.order_machine.specs.declared.event.Reply.{Reply}
use Rattle.order_machine.specs.declared.event.Reply.TheVariants as reply
use Rattle.order_machine.specs.declared.fault.MachineFault.{MachineFault}
use Rattle.order_machine.specs.declared.fault.MachineFault.TheVariants.{NotEnabled, Memory}
use Rattle.order_machine.specs.History.{draw, reply_to_ask, tasks_end}
use Rattle.order_machine.specs.declared.reader.Reader.{Reader}
use Rattle.order_machine.specs.Seen.{SeenWorker, SeenBoard, SeenState}

-- ---- workers

abbrev pub idle : SeenWorker
idle = record { held = None; finished = []; done = false }

abbrev pub is_free : SeenWorker → Bool
is_free w = is_none w.held && not w.done

abbrev pub after_draw : ℕ → ℕ → SeenWorker → SeenWorker
after_draw x tasks w = record {
  held = cond (nat_lt x tasks) (Some x) None;
  finished = w.finished;
  done = not (nat_lt x tasks);
}

abbrev pub after_finish : ℕ → SeenWorker → SeenWorker
after_finish x w = record { held = None; finished = w.finished ++ x ∷ []; done = w.done }

-- the number that it held is finished, or it holds none and stays
abbrev pub Finishes : SeenWorker → Bool → SeenWorker → Type 0
Finishes w true v = (x : ℕ) × (w.held ≡ Some x) × (v ≡ after_finish x w)
Finishes w false v = (w.held ≡ None) × (v ≡ w)

-- ---- boards

abbrev pub worker_at : SeenBoard → ℕ → SeenWorker
worker_at b w = get_or b.workers w idle

abbrev pub new_board : ℕ → ℕ → SeenBoard
new_board tasks workers = record { tasks = tasks; next = 0; workers = replicate workers idle }

abbrev pub claimed : SeenBoard → ℕ → SeenBoard
claimed b w = record {
  tasks = b.tasks;
  next = b.next + 1;
  workers = set b.workers w (after_draw b.next b.tasks (worker_at b w));
}

abbrev pub finished : SeenBoard → ℕ → ℕ → SeenBoard
finished b w x = record {
  tasks = b.tasks;
  next = b.next;
  workers = set b.workers w (after_finish x (worker_at b w));
}

abbrev pub FinishesAt : SeenBoard → ℕ → Bool → SeenBoard → Type 0
FinishesAt b w true c = (x : ℕ) × ((worker_at b w).held ≡ Some x) × (c ≡ finished b w x)
FinishesAt b w false c = ((worker_at b w).held ≡ None) × (c ≡ b)

abbrev pub seen_board : ℕ → ℕ → List SeenWorker → SeenBoard
seen_board tasks next workers = record { tasks = tasks; next = next; workers = workers }

-- each number that is no task ended a worker, so the next one is small
pub record CountsFit (tasks next : ℕ) (workers : List SeenWorker) : Type 0 where
  pub tasks_fit : tasks < tasks_end
  pub few : length workers ≤ most_workers
  pub bound : next ≤ tasks + count_by (λ w. w.done) workers

abbrev pub is_finished : SeenBoard → Bool
is_finished b = list_all (λ w. w.done) b.workers
    && nat_eq (sum_by (λ w. length w.finished) b.workers) b.tasks

-- ---- states

abbrev pub no_reader : Reader
no_reader = record { told = 0; seen = 0; pinned = None }

abbrev pub new_state : ℕ → ℕ → ℕ → SeenState
new_state goal workers readers = record {
  goal = goal;
  workers = workers;
  newest = 0;
  board = None;
  readers = replicate readers no_reader;
}

abbrev pub reader_at : SeenState → ℕ → Reader
reader_at s r = get_or s.readers r no_reader

abbrev pub is_up_and : (SeenBoard → Bool) → Option SeenBoard → Bool
is_up_and p None = false
is_up_and p (Some b) = p b

-- the condition of an event
abbrev pub enabled_at : SeenState → Event → Bool
enabled_at s (Begin n) = is_none s.board && nat_lt s.newest s.goal
enabled_at s (Claim w) = is_up_and (λ b. is_free (worker_at b w)) s.board
enabled_at s (Finish w) = is_up_and (λ b. is_some (worker_at b w).held) s.board
enabled_at s Publish = is_up_and is_finished s.board
enabled_at s (Tell r) = true
enabled_at s (Learn r) = true
enabled_at s (Pin r) = true
enabled_at s (Ask r least) = is_some (reader_at s r).pinned

abbrev pub with_reader : SeenState → ℕ → Reader → SeenState
with_reader s r reader = record s { readers = set s.readers r reader }

-- the change that an enabled event makes
abbrev pub after : SeenState → Event → SeenState
after s (Begin n) = record s { board = Some (new_board n s.workers) }
after s (Claim w) = record s { board = option_map (λ b. claimed b w) s.board }
after s (Finish w) = record s {
  board = option_map (λ b. finished b w (unwrap_or (worker_at b w).held 0)) s.board;
}
after s Publish = record s { newest = s.newest + 1; board = None }
after s (Tell r) = with_reader s r (record (reader_at s r) { told = s.newest })
after s (Learn r) = with_reader s r (record (reader_at s r) {
  seen = max (reader_at s r).seen (reader_at s r).told;
})
after s (Pin r) = with_reader s r (record (reader_at s r) {
  seen = s.newest;
  pinned = Some s.newest;
})
after s (Ask r least) = s

abbrev pub draw_from : Option SeenBoard → Reply
draw_from None = reply.NoTask
draw_from (Some b) = draw b.next b.tasks

-- the reply to an enabled event
abbrev pub reply_at : SeenState → Event → Reply
reply_at s (Claim w) = draw_from s.board
reply_at s Publish = reply.Published (s.newest + 1)
reply_at s (Pin r) = reply.Pinned s.newest
reply_at s (Ask r least) = reply_to_ask (unwrap_or (reader_at s r).pinned 0) least
reply_at s _ = reply.Done

pub record Moves (s : SeenState) (e : Event) (r : Reply) (t : SeenState) : Type 0 where
  pub enabled : enabled_at s e ≡ true
  pub changed : t ≡ after s e
  pub replied : r ≡ reply_at s e

-- why it was refused; want of memory says nothing
abbrev pub IsRefusal : SeenState → Event → MachineFault → Type 0
IsRefusal s e (NotEnabled place) = (place ≡ 0) × (enabled_at s e ≡ false)
IsRefusal s e Memory = Unit {0}

pub record Stays (s : SeenState) (e : Event) (f : MachineFault) (t : SeenState) : Type 0 where
  pub same : t ≡ s
  pub refused : IsRefusal s e f

abbrev pub IsUp : SeenState → SeenBoard → Type 0
IsUp s b = (length b.workers ≡ s.workers) × (s.newest < s.goal)

-- a board is up only below the goal, and has a place for each worker
pub record IsProperState (s : SeenState) : Type 0 where
  pub goal : s.goal ≤ highest_order
  pub few : s.workers ≤ most_workers
  pub up : (b : SeenBoard) → s.board ≡ Some b → IsUp s b
