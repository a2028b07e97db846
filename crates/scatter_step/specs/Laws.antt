-- What is proved here of completions as contracts see them.
use Rattle.std.specs.Prelude.{◌≡◌, ℕ, ◌≤◌}
use Rattle.scattering.specs.Wall.{Diagram}
use Rattle.scattering.specs.Completion.{IsCompletion, lowered}
use Rattle.scatter_step.specs.Completed.{SeenCompleted, IsCompleted}

-- two completions of the same lines at one order are equal
abbrev pub CompletedIsUnique : Type 0
CompletedIsUnique = (c d : SeenCompleted) → IsCompleted c → IsCompleted d → c.initial ≡ d.initial → c.order ≡ d.order → c ≡ d

-- and each completion of the lines at that order is the one that it has
abbrev pub CompletionIsOne : Type 0
CompletionIsOne = (c : SeenCompleted) (e : Diagram) → IsCompleted c → IsCompletion c.initial.lines c.order e → e ≡ c.diagram

-- its diagram cut to a lower order, as by `Diagram::truncate`, is the completion of that order
abbrev pub TruncationCompletes : Type 0
TruncationCompletes = (c : SeenCompleted) (n : ℕ) → IsCompleted c → n ≤ c.order → IsCompletion c.initial.lines n (lowered n c.diagram)
