-- Sources and sinks in memory: what they show, and which of their calls fail.
use Rattle.std.specs.Prelude.{ℕ, ◌+◌, ◌-◌, ◌^◌, ◌==◌, ◌||◌, nat_lt, Bool, min, List, length, Some}
use Rattle.std.specs.List.{list_any}
use Rattle.outside_io.specs.Outside.{GivesWhereTold, TakesWhereTold}

-- one more, up to the end of a u64
abbrev pub counted : ℕ → ℕ
counted n = min (n + 1) (2 ^ 64 - 1)

-- what is left, how many reads there were, which reads fail (by number, from 1), and how many did
pub record SourceInMemory : Type 0 where
  pub left : List ℕ
  pub calls : ℕ
  pub fails : List ℕ
  pub faults : ℕ

-- what a read of the first source gave, which left the second
abbrev pub GivesOf : SourceInMemory → SourceInMemory → List ℕ → ℕ → Type 0
GivesOf before after into n = GivesWhereTold (Some before.left) (Some after.left) into n

-- the next read's number is among those that fail
abbrev pub read_fails : SourceInMemory → Bool
read_fails s = list_any (λ n. n == counted s.calls) s.fails

-- the source after a failed read
abbrev pub source_failed : SourceInMemory → SourceInMemory
source_failed s = record { left = s.left; calls = counted s.calls; fails = s.fails; faults = counted s.faults }

-- the source after a read that left these bytes
abbrev pub source_read : SourceInMemory → List ℕ → SourceInMemory
source_read s left = record { left = left; calls = counted s.calls; fails = s.fails; faults = s.faults }

-- what was taken and how many bytes there is room for, how many writes there were, which writes fail, and how many did
pub record SinkInMemory : Type 0 where
  pub held : List ℕ
  pub room : ℕ
  pub calls : ℕ
  pub fails : List ℕ
  pub faults : ℕ

-- what a write to the first sink took, which left the second
abbrev pub TakesOf : SinkInMemory → SinkInMemory → List ℕ → ℕ → Type 0
TakesOf before after piece n = TakesWhereTold (Some before.held) (Some after.held) piece n

-- the sink after a failed write
abbrev pub sink_failed : SinkInMemory → SinkInMemory
sink_failed s = record { held = s.held; room = s.room; calls = counted s.calls; fails = s.fails; faults = counted s.faults }

-- the sink after a write that made it hold these bytes
abbrev pub sink_wrote : SinkInMemory → List ℕ → SinkInMemory
sink_wrote s held = record { held = held; room = s.room; calls = counted s.calls; fails = s.fails; faults = s.faults }

-- the next write's number is among those that fail, or the piece does not fit in the room
abbrev pub write_fails : SinkInMemory → List ℕ → Bool
write_fails s piece = list_any (λ n. n == counted s.calls) s.fails || nat_lt s.room (length s.held + length piece)
