-- What contracts see of a state.
use Rattle.std.specs.Prelude.{ℕ, Bool, List, Option}
use Rattle.order_machine.specs.declared.reader.Reader.{Reader}

pub record SeenWorker : Type 0 where
  pub held : Option ℕ
  pub finished : List ℕ
  pub done : Bool

pub record SeenBoard : Type 0 where
  pub tasks : ℕ
  pub next : ℕ
  pub workers : List SeenWorker

pub record SeenState : Type 0 where
  pub goal : ℕ
  pub workers : ℕ
  pub newest : ℕ
  pub board : Option SeenBoard
  pub readers : List Reader

abbrev pub seen_state : ℕ → ℕ → ℕ → Option SeenBoard → List Reader → SeenState
seen_state goal workers newest board readers = record {
  goal = goal;
  workers = workers;
  newest = newest;
  board = board;
  readers = readers;
}
