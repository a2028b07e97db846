-- The rule of the board's table: what its one word, the number of claims, and the views of its seats
-- are between any two steps. A view is what a seat knows.
--     times_in x xs             how often x stands in the list
--     once_below x n         1 if x is below n, else 0
--     has_late n xs          some number of the list is no task of n
--     Fits n m js v          the view v, where there are n tasks, m seats were made, and those numbered js were joined
--     IsBoard n w vs         the rule: of n tasks, the word w and the views vs
use Rattle.std.specs.Prelude.{◌≡◌, ◌<◌, ◌≤◌, ℕ, ◌+◌, nat_eq, nat_lt, not, Bool, true, false, cond, List, [], ◌∷◌, ◌++◌, length, count_by, sum_by}
use Rattle.std.specs.List.{list_any}
use mathlib.Core.Option.{some}
use lib.ListN.{get_elem?}
use Rattle.limits.specs.Limits.{most_workers}
use Rattle.order_machine.specs.History.{tasks_end}
use Rattle.atomic_table.specs.Table.{State, Me, Step}
use Rattle.atomic_table.specs.Seated.{TableId}
use Rattle.joint_board.specs.declared.view.Size.{Size}
use Rattle.joint_board.specs.declared.view.View.{View}
use Rattle.joint_board.specs.Seen.{ShownBoard, SeenSeat}

-- ---- lists of numbers and of views

abbrev pub times_in : ℕ → List ℕ → ℕ
times_in x xs = count_by (nat_eq x) xs

abbrev pub once_below : ℕ → ℕ → ℕ
once_below x n = cond (nat_lt x n) 1 0

abbrev pub has_late : ℕ → List ℕ → Bool
has_late n xs = list_any (λ x. not (nat_lt x n)) xs

abbrev pub IsAbove : List ℕ → ℕ → Type 0
IsAbove xs n = (x : ℕ) → 0 < times_in x xs → x < n

abbrev pub ended : View → ℕ
ended v = cond v.done 1 0

-- ---- views

-- the seat with this number, of a table that was told so, before it drew
abbrev pub new_view : Size → ℕ → ℕ → View
new_view size number made = record {
  number = number;
  tasks = size.tasks;
  workers = size.workers;
  drawn = [];
  done = false;
  spent = false;
  made = made;
  joined = [];
}

abbrev pub first_view : Size → View
first_view size = new_view size 0 1

-- the first seat has made one more
abbrev pub after_split : View → View
after_split v = record v { made = v.made + 1 }

-- the seat that it has made
abbrev pub fresh_view : View → View
fresh_view v = new_view (record { tasks = v.tasks; workers = v.workers }) v.made 0

abbrev pub after_claim : View → ℕ → View
after_claim v n = record v { drawn = v.drawn ++ n ∷ []; done = not (nat_lt n v.tasks) }

abbrev pub both_views : View → View → View
both_views v w = record v { drawn = v.drawn ++ w.drawn; joined = w.number ∷ v.joined }

abbrev pub spent_view : View
spent_view = record {
  number = 0;
  tasks = 0;
  workers = 0;
  drawn = [];
  done = true;
  spent = true;
  made = 0;
  joined = [];
}

-- ---- the rule

-- of a seat that was not joined into the first one
pub record IsLive (tasks made : ℕ) (joined : List ℕ) (v : View) : Type 0 where
  pub tasks_are : v.tasks ≡ tasks
  pub below : v.number < made
  pub apart : times_in v.number joined ≡ 0
  pub late : v.done ≡ has_late tasks v.drawn

abbrev pub Fits : ℕ → ℕ → List ℕ → View → Type 0
Fits tasks made joined v =
    (v.spent ≡ true → v.drawn ≡ []) × (v.spent ≡ false → IsLive tasks made joined v)

-- the first seat, where so many seats were made and these were joined
pub record Heads (made : ℕ) (joined : List ℕ) (v : View) : Type 0 where
  pub number : v.number ≡ 0
  pub live : v.spent ≡ false
  pub made_is : v.made ≡ made
  pub joined_is : v.joined ≡ joined

-- no two seats have one number
abbrev pub Apart : List View → Type 0
Apart views = (i j : ℕ) (v u : View) → get_elem? views i ≡ some v → get_elem? views j ≡ some u
    → v.spent ≡ false → u.spent ≡ false → v.number ≡ u.number → i ≡ j

pub record IsBoard (tasks word : ℕ) (views : List View) : Type 0 where
  pub made : ℕ
  pub joined : List ℕ
  pub small : tasks < tasks_end
  pub head_is : (v : View) → get_elem? views 0 ≡ some v → Heads made joined v
  pub made_is : length views ≡ made
  pub few : made ≤ most_workers
  pub each : (i : ℕ) (v : View) → get_elem? views i ≡ some v → Fits tasks made joined v
  pub gone : (k : ℕ) → 0 < times_in k joined → (0 < k) × (k < made)
  pub apart : Apart views
  pub once : (x : ℕ) → sum_by (λ v. times_in x v.drawn) views ≡ once_below x word
  pub bound : word ≤ tasks + sum_by ended views

abbrev pub Holds : {S : Type 0} → Size → State S View → Type 0
Holds size s = (n : ℕ) × (s.words ≡ n ∷ []) × IsBoard size.tasks n s.views

-- ---- what steps tell

abbrev pub Claimed : {S : Type 0} → Step S → Me S View → ℕ → Me S View → Type 0
Claimed st m n m' = (m' ≡ (after_claim m.0 n, m.1)) × IsAbove m.0.drawn n

-- every seat but the first was joined into it
abbrev pub IsFull : View → Type 0
IsFull v = (k : ℕ) → 0 < k → k < v.made → 0 < times_in k v.joined

-- every task was drawn once, and nothing changed
abbrev pub Settled : {S : Type 0} → Step S → Me S View → ℕ → Me S View → Type 0
Settled st m n m' = (m' ≡ m) × ((x : ℕ) → x < m.0.tasks → times_in x m.0.drawn ≡ 1)

-- ---- seats

-- a seat at the table that holds no slot and was not joined
pub record IsViewAt {S : Type 0} (table seat : TableId) (me : Me S View) : Type 0 where
  pub one : table.words ≡ 1
  pub same : seat ≡ table
  pub empty : me.1 ≡ []
  pub live : me.0.spent ≡ false

-- the first seat, once it is done
pub record IsFirstView (v : View) : Type 0 where
  pub number : v.number ≡ 0
  pub done : v.done ≡ true

-- a worker's seat; the first one has made all others and none was joined into it
pub record IsSeat {S : Type 0} (me : Me S View) : Type 0 where
  pub empty : me.1 ≡ []
  pub live : me.0.spent ≡ false
  pub late : me.0.done ≡ has_late me.0.tasks me.0.drawn
  pub first : me.0.number ≡ 0 → me.0.made ≡ me.0.workers

-- what contracts see of it
abbrev pub seen_seat : TableId → View → SeenSeat
seen_seat table v = record {
  board = record { table = table; tasks = v.tasks; workers = v.workers };
  number = v.number;
  drawn = v.drawn;
  done = v.done;
}

-- ---- boards

abbrev pub shown_board : TableId → Size → ShownBoard
shown_board table size = record { table = table; tasks = size.tasks; workers = size.workers }

pub record IsOpen (table : TableId) (size : Size) (tasks : ℕ) : Type 0 where
  pub one : table.words ≡ 1
  pub tasks_are : size.tasks ≡ tasks
  pub small : tasks < tasks_end
  pub some_worker : 1 ≤ size.workers
  pub few : size.workers ≤ most_workers
