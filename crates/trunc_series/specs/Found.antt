-- Places of keys in a list of terms, powers that can be added as one number, and what is added to a list.
use Rattle.std.specs.Prelude.{◌≡◌, ◌<◌, ◌≤◌, ◌+◌, ℕ, ℤ, pos, Bool, not, List, length, slice_index, slice_index_or, ◌∷◌}
use Rattle.scattering.specs.Series.{int_eq}
use Rattle.trunc_series.specs.declared.key.Key.{Key as CodeKey}
use Rattle.trunc_series.specs.declared.arithmetic.Arithmetic.{Arithmetic}
use Rattle.trunc_series.specs.Shown.{key_of, sum_of}
use Rattle.trunc_series.specs.Reduced.{Terms}
use Rattle.trunc_series.specs.Sums.{StandsFor, AddsRow, AreKeptValues}

-- the term at this place has the key, or the place is the number of terms
abbrev pub IsFound : List (CodeKey × ℤ) → CodeKey → ℕ → Type 0
IsFound ts k i = (i ≤ length ts) × ((d : CodeKey × ℤ) → i < length ts → (slice_index_or ts i d).0 ≡ k)

-- no sum of two powers leaves a byte
abbrev pub PowersFit : List ℕ → List ℕ → Type 0
PowersFit p q = (slice_index p 0 + slice_index q 0 < 256) × (slice_index p 1 + slice_index q 1 < 256) × (slice_index p 2 + slice_index q 2 < 256) × (slice_index p 3 + slice_index q 3 < 256) × (slice_index p 4 + slice_index q 4 < 256) × (slice_index p 5 + slice_index q 5 < 256) × (slice_index p 6 + slice_index q 6 < 256) × (slice_index p 7 + slice_index q 7 < 256)

-- the list gets c at the key k: the new terms stand for it and the old ones
abbrev pub GetsTerm : Arithmetic → Terms → Terms → CodeKey → ℤ → Type 0
GetsTerm rule old new k c = StandsFor rule (sum_of new) ((key_of k, c) ∷ sum_of old)

-- and the products of t with a row
abbrev pub GetsRow : Arithmetic → Terms → Terms → CodeKey × ℤ → List CodeKey → List ℤ → Type 0
GetsRow rule old new t keys values = AddsRow rule (sum_of old) (sum_of new) t keys values

-- the coefficient is other than 0
abbrev pub counts : CodeKey × ℤ → Bool
counts t = not (int_eq t.1 (pos 0))

-- the new terms stand for the old ones, by whichever rule these are kept
abbrev pub StandsForOld : Terms → Terms → Type 0
StandsForOld old new = (rule : Arithmetic) → AreKeptValues rule (sum_of old) → StandsFor rule (sum_of new) (sum_of old)
