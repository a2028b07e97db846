-- What writing a text to a sink leaves there.
use Rattle.std.specs.Prelude.{◌≡◌, ◌≢◌, ℕ, List, [], ◌++◌, Option, Some, None}

-- the sink holds what it held, followed by the text, where it tells
abbrev pub IsWritten : Option (List ℕ) → Option (List ℕ) → List ℕ → Type 0
IsWritten None after text = Unit {0}
IsWritten (Some held) after text = after ≡ Some (held ++ text)

abbrev pub IsProperPrefix : List ℕ → List ℕ → Type 0
IsProperPrefix part whole = (rest : List ℕ) × (whole ≡ part ++ rest) × (rest ≢ [])

-- the sink holds what it held, followed by a proper prefix of the text, where it tells
abbrev pub IsCutShort : Option (List ℕ) → Option (List ℕ) → List ℕ → Type 0
IsCutShort before after text = (part : List ℕ) × IsProperPrefix part text × IsWritten before after part

-- so far all but the rest of the text was taken
abbrev pub IsWrittenSoFar : Option (List ℕ) → Option (List ℕ) → List ℕ → List ℕ → Type 0
IsWrittenSoFar before after text rest = (part : List ℕ) × (text ≡ part ++ rest) × IsWritten before after part
