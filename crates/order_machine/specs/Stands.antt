-- When a state stands for a list of events: the list is lawful, and each part of the state is what the list says by
-- counting.
use Rattle.std.specs.Prelude.{◌≡◌, ℕ, List, map, length, option_map}
use Rattle.std.specs.List.{range_with_len}
use Rattle.order_machine.specs.declared.event.Event.{Event}
use Rattle.order_machine.specs.History.{newest_of, board_of, next_of, held_by, finished_by, is_done, told_to, seen_by, pinned_by, IsLawful}
use Rattle.order_machine.specs.declared.reader.Reader.{Reader}
use Rattle.order_machine.specs.Seen.{SeenWorker, SeenBoard, SeenState}

abbrev pub worker_after : ℕ → List Event → ℕ → SeenWorker
worker_after n b w = record {
  held = held_by w n b;
  finished = finished_by w n b;
  done = is_done w n b;
}

abbrev pub board_after : ℕ → ℕ × List Event → SeenBoard
board_after workers b = record {
  tasks = b.0;
  next = next_of b.1;
  workers = map (worker_after b.0 b.1) (range_with_len 0 workers);
}

abbrev pub reader_after : List Event → ℕ → Reader
reader_after h r = record {
  told = told_to r h;
  seen = seen_by r h;
  pinned = pinned_by r h;
}

pub record Stands (h : List Event) (s : SeenState) : Type 0 where
  pub lawful : IsLawful s.goal s.workers (length s.readers) h
  pub newest : s.newest ≡ newest_of h
  pub board : s.board ≡ option_map (board_after s.workers) (board_of h)
  pub readers : s.readers ≡ map (reader_after h) (range_with_len 0 (length s.readers))
