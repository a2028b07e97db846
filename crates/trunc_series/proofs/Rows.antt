-- Products of lists of terms, row by row.
use Rattle.std.proofs.Common.{◌≡◌, ℕ, refl, ap, ◌∙◌, Bool, true, false, cond, [], ◌∷◌, arith}
use Rattle.std.specs.Prelude.{nat_le, ◌==◌, map, filter}
use Rattle.scattering.specs.Collections.{Every}
use Rattle.scattering.specs.Series.{Term, Sum, Same, degree, term_mul, cut, mul}
use Rattle.trunc_series.specs.declared.arithmetic.Arithmetic.{Arithmetic}
use Rattle.trunc_series.specs.Arithmetic.{kept, IsKeepable}
use Rattle.trunc_series.specs.Reduced.{IsKeptAs}
use Rattle.scattering.proofs.Lists.{Every-append, Every-filter}
use Rattle.trunc_series.proofs.Kept.{keepable-mul}
use Rattle.trunc_series.proofs.Merging.{Keepable}

-- a term times a list
abbrev pub row_sum : Term → Sum → Sum
row_sum t g = map (term_mul t) g

pub sum-keepable : (rule : Arithmetic) (t : Term) (g : Sum) → IsKeepable rule t.1 → Keepable rule g → Keepable rule (row_sum t g)
sum-keepable rule t [] h hg = tt
sum-keepable rule t (u ∷ g) h hg = (keepable-mul rule t.1 u.1 h hg.0, sum-keepable rule t g h hg.1)

-- the terms of degree n
abbrev pub level : ℕ → Sum → Sum
level n f = filter (λ t. degree t.0 == n) f

pub mul-keepable : (rule : Arithmetic) (n : ℕ) (f g : Sum) → Keepable rule f → Keepable rule g → Keepable rule (mul n f g)
mul-keepable rule n [] g h k = tt
mul-keepable rule n (t ∷ f) g h k =
    Every-append (λ u. IsKeepable rule u.1) (cut n (row_sum t g)) (mul n f g) (Every-filter (λ u. IsKeepable rule u.1) (λ u. nat_le (degree u.0) n) (row_sum t g) (sum-keepable rule t g h.0 k)) (mul-keepable rule n f g h.1 k)

pub level-degree : (n : ℕ) (f : Sum) → Every (λ t. degree t.0 ≡ n) (level n f)
level-degree n [] = tt
level-degree n (t ∷ f) = go (degree t.0 == n) refl (level-degree n f)
  where
    same : (d : ℕ) → (d == n) ≡ true → d ≡ n
    same d e = grind arith

    go : (b : Bool) → (degree t.0 == n) ≡ b → Every (λ t. degree t.0 ≡ n) (level n f) → Every (λ t. degree t.0 ≡ n) (cond b (t ∷ level n f) (level n f))
    go true e i = (same (degree t.0) e, i)
    go false e i = i

pub reduced-same : (rule : Arithmetic) (n : ℕ) (r f g : Sum) → IsKeptAs rule n r f → Keepable rule g → Same f g → IsKeptAs rule n r g
reduced-same rule n r f g h k s = record { series = h.series; keeps = h.keeps; keepable = k; same = λ l. h.same l ∙ ap (kept rule) (s l) }
