-- What reading a source to its end gives.
use Rattle.std.specs.Prelude.{◌≡◌, ℕ, ◌<◌, List, [], ◌++◌, length, Option, Some, None, IfSome}
use Rattle.limits.specs.Limits.{most_bytes}

-- the bytes that were read stand before those that are left, where the source tells
abbrev pub IsReadSoFar : Option (List ℕ) → Option (List ℕ) → List ℕ → Type 0
IsReadSoFar None after bytes = Unit {0}
IsReadSoFar (Some left) after bytes = (rest : List ℕ) × (after ≡ Some rest) × (left ≡ bytes ++ rest)

-- the bytes are all that was left, and nothing is left, where the source tells
abbrev pub IsReadWhole : Option (List ℕ) → Option (List ℕ) → List ℕ → Type 0
IsReadWhole None after bytes = Unit {0}
IsReadWhole (Some left) after bytes = (left ≡ bytes) × (after ≡ Some [])

-- the source tells more bytes than an input may have
abbrev pub IsTooLong : Option (List ℕ) → Type 0
IsTooLong told = IfSome told (λ left. most_bytes < length left)
