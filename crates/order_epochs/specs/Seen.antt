-- What contracts see of a store of published orders, of its readers, of what these are told and have pinned.
--     SeenEpoch         the lines of a store, and an order: the newest one, the one told or pinned, or the greatest seen
--     epoch_of c        the lines and the order of a completion
--     next_epoch e      the next order
--     learned e n       the greater one of the orders
use Rattle.std.specs.Prelude.{ℕ, ◌+◌, max}
use Rattle.scatter_diagram.specs.Listed.{SeenInitial}
use Rattle.scatter_step.specs.Completed.{SeenCompleted}

pub record SeenEpoch : Type 0 where
  pub lines : SeenInitial
  pub order : ℕ

abbrev pub epoch : SeenInitial → ℕ → SeenEpoch
epoch lines order = record { lines = lines; order = order }

abbrev pub epoch_of : SeenCompleted → SeenEpoch
epoch_of c = epoch c.initial c.order

abbrev pub next_epoch : SeenEpoch → SeenEpoch
next_epoch e = epoch e.lines (e.order + 1)

abbrev pub learned : SeenEpoch → ℕ → SeenEpoch
learned e n = epoch e.lines (max e.order n)
