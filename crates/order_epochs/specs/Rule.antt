-- The rule of the store: what the published order and the views of all seats are between any two steps. A view is what a
-- seat knows: the writer's, a reader's, or one that was told.
--     epoch_on s        the lines and the order of the completion that the shelf s owns
--     IsOfStore e v     the view v, where e is published: its lines are the store's, and its order isn't above e's
--     KeepsStore e vs   the rule
--     Shown v e f w     what a step tells, from the published e to f: the order known before wasn't above e's, and f is known
--     IsLater v w       the same lines, and no lower order
--     IsBacked v t n    a reader with the view v that was told t has seen the order n: it was told it, or knows of no lower one
use Rattle.std.specs.Prelude.{◌≡◌, ℕ, ◌≤◌, true, false, List, [], Option, Some, None}
use mathlib.Core.Option.{some}
use lib.ListN.{get_elem?}
use Rattle.std.specs.Arc.{arc_value}
use Rattle.scatter_diagram.specs.Listed.{SeenInitial}
use Rattle.order_epochs.specs.declared.shelf.Shelf.{Shelf}
use Rattle.order_epochs.specs.declared.view.View.{View}
use Rattle.order_epochs.specs.Seen.{SeenEpoch, epoch, epoch_of}

abbrev pub epoch_on : Shelf → SeenEpoch
epoch_on s = epoch_of (arc_value s.0)

-- ---- views

abbrev pub no_lines : SeenInitial
no_lines = record { vars = 0; lines = [] }

-- a seat that was told nothing
abbrev pub newcomer : View
newcomer = record { named = false; lines = no_lines; order = 0 }

abbrev pub knows : SeenEpoch → View
knows e = record { named = true; lines = e.lines; order = e.order }

-- who learns knows what it was told
abbrev pub informed : View → View → View
informed v w = w

-- ---- the rule

abbrev pub IsOfStore : SeenEpoch → View → Type 0
IsOfStore e v = (v.named ≡ true → v.lines ≡ e.lines) × (v.order ≤ e.order)

abbrev pub KeepsStore : SeenEpoch → List View → Type 0
KeepsStore e views = (seat : ℕ) (v : View) → get_elem? views seat ≡ some v → IsOfStore e v

abbrev pub Shown : View → SeenEpoch → SeenEpoch → View → Type 0
Shown v e f w = IsOfStore e v × (w ≡ knows f)

-- ---- readers

pub record IsLater (v w : View) : Type 0 where
  pub named : w.named ≡ true
  pub lines : w.lines ≡ v.lines
  pub order : v.order ≤ w.order

abbrev pub IsSeen : View → Option SeenEpoch → ℕ → Type 0
IsSeen v None n = n ≤ v.order
IsSeen v (Some t) n = t ≡ epoch v.lines n

pub record IsBacked (v : View) (told : Option SeenEpoch) (seen : ℕ) : Type 0 where
  pub named : v.named ≡ true
  pub known : IsSeen v told seen
