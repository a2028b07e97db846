-- What a list of events says by counting: `h` are all events so far, and `b` those since a board was put up. No field
-- of the machine is named here. The machine is this program's own.
--     newest_of h       the newest published order: the number of publishes
--     board_of h        the tasks of the board that is up and the events since, or none
--     next_of b         the number that is drawn next: the number of claims
--     drawn_by w b      the numbers that the worker's claims drew, where claims are numbered from 0
--     tasks_of w n b    those of them that are tasks of n
--     finished_by w ..  so many of these as the worker finished
--     held_by w ..      the next one of them, if there is one
--     is_done w ..      whether a claim of the worker drew no task
--     told_to r h       the newest order when the reader was told last, else 0
--     pinned_by r h     the newest order when it pinned last, or none
--     seen_by r h       the greatest order that it learnt or pinned, else 0
--     is_enabled ..     the condition of an event after the events h
--     reply_to h e      the reply to it
--     IsLawful ..       each event names workers, readers and tasks that there are, and its condition holds
use Rattle.std.specs.Prelude.{◌≡◌, ◌<◌, ℕ, ◌+◌, ◌^◌, ◌&&◌, max, nat_eq, nat_lt, not, Bool, true, false, cond, List, [], ◌∷◌, ◌++◌, filter, length, take, drop, Option, Some, None, is_some, is_none, option_map, unwrap_or}
use Rattle.std.specs.List.{count_by, list_all, list_any, range_with_len, sum_by}
use Rattle.order_machine.specs.declared.event.Event.{Event}
use Rattle.order_machine.specs.declared.event.Event.TheVariants.{Begin, Claim, Finish, Publish, Tell, Learn, Pin, Ask}
use Rattle.order_machine.specs.declared.event.Reply.{Reply}
use Rattle.order_machine.specs.declared.event.Reply.TheVariants as reply
use Rattle.order_machine.specs.Events.{is_publish, is_turn, is_claim, is_finish_of, is_tell_to, is_pin_of}

-- ---- lists of events

-- an event of a list, with what came before and after
pub record Place : Type 0 where
  pub before : List Event
  pub event : Event
  pub after : List Event

abbrev pub later : Event → Place → Place
later e p = record { before = e ∷ p.before; event = p.event; after = p.after }

abbrev pub or_first : Option Place → Bool → Event → List Event → Option Place
or_first (Some p) b e h = Some (later e p)
or_first None b e h = cond b (Some (record { before = []; event = e; after = h })) None

-- the last event that passes the test
abbrev pub last_of : (Event → Bool) → List Event → Option Place
last_of p [] = None
last_of p (e ∷ h) = or_first (last_of p h) (p e) e h

-- ---- orders and the board

abbrev pub newest_of : List Event → ℕ
newest_of = count_by is_publish

abbrev pub board_from : Event → List Event → Option (ℕ × List Event)
board_from (Begin n) b = Some (n, b)
board_from _ b = None

abbrev pub board_at : Option Place → Option (ℕ × List Event)
board_at None = None
board_at (Some p) = board_from p.event p.after

abbrev pub board_of : List Event → Option (ℕ × List Event)
board_of h = board_at (last_of is_turn h)

-- ---- workers

abbrev pub next_of : List Event → ℕ
next_of = count_by is_claim

-- what the event draws for the worker, where x is drawn next
abbrev pub drawn_at : ℕ → ℕ → Event → List ℕ
drawn_at x w (Claim v) = cond (nat_eq v w) (x ∷ []) []
drawn_at x w _ = []

-- x is drawn first
abbrev pub drawn_from : ℕ → ℕ → List Event → List ℕ
drawn_from x w [] = []
drawn_from x w (e ∷ b) = drawn_at x w e ++ drawn_from (x + cond (is_claim e) 1 0) w b

abbrev pub drawn_by : ℕ → List Event → List ℕ
drawn_by = drawn_from 0

abbrev pub tasks_of : ℕ → ℕ → List Event → List ℕ
tasks_of w n b = filter (λ x. nat_lt x n) (drawn_by w b)

abbrev pub finished_by : ℕ → ℕ → List Event → List ℕ
finished_by w n b = take (count_by (is_finish_of w) b) (tasks_of w n b)

abbrev pub first_of : List ℕ → Option ℕ
first_of [] = None
first_of (x ∷ xs) = Some x

abbrev pub held_by : ℕ → ℕ → List Event → Option ℕ
held_by w n b = first_of (drop (count_by (is_finish_of w) b) (tasks_of w n b))

abbrev pub is_done : ℕ → ℕ → List Event → Bool
is_done w n b = list_any (λ x. not (nat_lt x n)) (drawn_by w b)

abbrev pub are_done : ℕ → ℕ → List Event → Bool
are_done workers n b = list_all (λ w. is_done w n b) (range_with_len 0 workers)

-- how many numbers the workers finished
abbrev pub finished_in_all : ℕ → ℕ → List Event → ℕ
finished_in_all workers n b = sum_by (λ w. length (finished_by w n b)) (range_with_len 0 workers)

-- ---- readers

abbrev pub newest_at : Option Place → Option ℕ
newest_at p = option_map (λ q. newest_of q.before) p

abbrev pub told_to : ℕ → List Event → ℕ
told_to r h = unwrap_or (newest_at (last_of (is_tell_to r) h)) 0

abbrev pub pinned_by : ℕ → List Event → Option ℕ
pinned_by r h = newest_at (last_of (is_pin_of r) h)

-- what the event shows to the reader after the events h
abbrev pub shown_to : ℕ → List Event → Event → ℕ
shown_to r h (Learn s) = cond (nat_eq s r) (told_to r h) 0
shown_to r h (Pin s) = cond (nat_eq s r) (newest_of h) 0
shown_to r h _ = 0

-- the greatest order that the events h show to it after the events g
abbrev pub greatest_shown : ℕ → List Event → List Event → ℕ
greatest_shown r g [] = 0
greatest_shown r g (e ∷ h) = max (shown_to r g e) (greatest_shown r (g ++ e ∷ []) h)

abbrev pub seen_by : ℕ → List Event → ℕ
seen_by r h = greatest_shown r [] h

-- ---- conditions and replies

abbrev pub may_claim : ℕ → Option (ℕ × List Event) → Bool
may_claim w None = false
may_claim w (Some b) = is_none (held_by w b.0 b.1) && not (is_done w b.0 b.1)

abbrev pub may_finish : ℕ → Option (ℕ × List Event) → Bool
may_finish w None = false
may_finish w (Some b) = is_some (held_by w b.0 b.1)

abbrev pub may_publish : ℕ → Option (ℕ × List Event) → Bool
may_publish workers None = false
may_publish workers (Some b) =
    are_done workers b.0 b.1 && nat_eq (finished_in_all workers b.0 b.1) b.0

abbrev pub is_enabled : ℕ → ℕ → List Event → Event → Bool
is_enabled goal workers h (Begin n) = is_none (board_of h) && nat_lt (newest_of h) goal
is_enabled goal workers h (Claim w) = may_claim w (board_of h)
is_enabled goal workers h (Finish w) = may_finish w (board_of h)
is_enabled goal workers h Publish = may_publish workers (board_of h)
is_enabled goal workers h (Tell r) = true
is_enabled goal workers h (Learn r) = true
is_enabled goal workers h (Pin r) = true
is_enabled goal workers h (Ask r least) = is_some (pinned_by r h)

abbrev pub draw : ℕ → ℕ → Reply
draw x n = cond (nat_lt x n) (reply.Drawn x) reply.NoTask

abbrev pub reply_to_claim : Option (ℕ × List Event) → Reply
reply_to_claim None = reply.NoTask
reply_to_claim (Some b) = draw (next_of b.1) b.0

abbrev pub reply_to_ask : ℕ → ℕ → Reply
reply_to_ask order least = cond (nat_lt order least) (reply.NotYet order) (reply.Answered order)

abbrev pub reply_to : List Event → Event → Reply
reply_to h (Claim w) = reply_to_claim (board_of h)
reply_to h Publish = reply.Published (newest_of h + 1)
reply_to h (Pin r) = reply.Pinned (newest_of h)
reply_to h (Ask r least) = reply_to_ask (unwrap_or (pinned_by r h) 0) least
reply_to h _ = reply.Done

-- the replies to the events h after the events g
abbrev pub replies_to : List Event → List Event → List Reply
replies_to g [] = []
replies_to g (e ∷ h) = reply_to g e ∷ replies_to (g ++ e ∷ []) h

-- ---- lawful lists

-- a board has fewer tasks
abbrev pub tasks_end : ℕ
tasks_end = 2 ^ 32

-- the event names workers and readers that there are, and a number of tasks that fits a board
abbrev pub IsNamed : ℕ → ℕ → Event → Type 0
IsNamed workers readers (Begin n) = n < tasks_end
IsNamed workers readers (Claim w) = w < workers
IsNamed workers readers (Finish w) = w < workers
IsNamed workers readers Publish = Unit {0}
IsNamed workers readers (Tell r) = r < readers
IsNamed workers readers (Learn r) = r < readers
IsNamed workers readers (Pin r) = r < readers
IsNamed workers readers (Ask r least) = r < readers

-- so are the events h after the events g
abbrev pub IsLawfulAfter : ℕ → ℕ → ℕ → List Event → List Event → Type 0
IsLawfulAfter goal workers readers g [] = Unit {0}
IsLawfulAfter goal workers readers g (e ∷ h) = IsNamed workers readers e
    × (is_enabled goal workers g e ≡ true) × IsLawfulAfter goal workers readers (g ++ e ∷ []) h

abbrev pub IsLawful : ℕ → ℕ → ℕ → List Event → Type 0
IsLawful goal workers readers h = IsLawfulAfter goal workers readers [] h
