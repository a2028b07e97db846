-- The least degree of a sum's terms, and a direction turned round.
use Rattle.std.specs.Prelude.{◌≡◌, ℕ, min, nat_le, nat_lt, IsTrue, true, false, neg_ℤ, Option, Some, None}
use Rattle.std.specs.List.{list_any}
use Rattle.scattering.specs.Series.{Exp, Sum, degree}

-- the least degree of a term, or none where there is no term
abbrev pub IsLeastDegree : Sum → Option ℕ → Type 0
IsLeastDegree f None = list_any (λ t. true) f ≡ false
IsLeastDegree f (Some n) = IsTrue (list_any (λ t. nat_le (degree t.0) n) f) × (list_any (λ t. nat_lt (degree t.0) n) f ≡ false)

abbrev pub lesser_of : Option ℕ → ℕ → ℕ
lesser_of None n = n
lesser_of (Some m) n = min m n

abbrev pub opposite : Exp → Exp
opposite d = record { a = neg_ℤ d.a; b = neg_ℤ d.b }
