-- What is proved here of outcomes.
use Rattle.std.specs.Prelude.{◌≡◌, ℕ, List}
use Rattle.scatter_run.specs.declared.status.Status.{Status}
use Rattle.scatter_run.specs.Outcome.{IsRunOutcome}
use Rattle.scatter_run.specs.Words.{NameNoSession}

-- words and bytes have one status, and one text where the words name no session
abbrev pub OutcomeIsOne : Type 0
OutcomeIsOne = (words : List (List ℕ)) (bytes : List ℕ) (status other : Status) (text another : List ℕ)
    → IsRunOutcome words bytes status text → IsRunOutcome words bytes other another → (status ≡ other) × (NameNoSession words → text ≡ another)
