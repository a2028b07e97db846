-- What holds of all terms of a product of wall functions.
use Rattle.std.proofs.Common.{◌≡◌, ◌≢◌, ℕ, zero, suc, refl, Bool, true, false, List, [], ◌∷◌, map}
use Rattle.std.specs.Prelude.{pos}
use Rattle.scattering.specs.Collections.{Every}
use Rattle.scattering.specs.Series.{Key, Term, Sum, unit, key_eq, key_mul, coef, one, cut, term_mul, mul, pow, absolute, rest}
use Rattle.scattering.specs.BrokenLine.{product}
use Rattle.scattering.proofs.Lists.{Every-append, Every-filter}
use Rattle.scattering.proofs.Keys.{key_eq-same}

-- ---- a fact of keys that 1 has and products keep
pub record IsKept (P : Key → Type 0) : Type 0 where
  pub unit : P unit
  pub mul : (k l : Key) → P k → P l → P (key_mul k l)

module _ (P : Key → Type 0) (kept : IsKept P) where
  abbrev pub AllKeys : Sum → Type 0
  AllKeys f = Every (λ t. P t.0) f

  all-times : (t : Term) (g : Sum) → P t.0 → AllKeys g → AllKeys (map (term_mul t) g)
  all-times t [] h k = tt
  all-times t (u ∷ g) h k = (kept.mul t.0 u.0 h k.0, all-times t g h k.1)

  pub all-mul : (n : ℕ) (f g : Sum) → AllKeys f → AllKeys g → AllKeys (mul n f g)
  all-mul n [] g h k = tt
  all-mul n (t ∷ f) g h k = Every-append (λ t. P t.0) (cut n (map (term_mul t) g)) (mul n f g) (Every-filter (λ t. P t.0) _ (map (term_mul t) g) (all-times t g h.0 k)) (all-mul n f g h.1 k)

  pub all-one : AllKeys one
  all-one = (kept.unit, tt)

  pub all-pow : (n : ℕ) (f : Sum) (i : ℕ) → AllKeys f → AllKeys (pow n f i)
  all-pow n f zero h = all-one
  all-pow n f (suc i) h = all-mul n f (pow n f i) h (all-pow n f i h)

  pub all-product : (n : ℕ) (fs : List Sum) → Every AllKeys fs → AllKeys (product n fs)
  all-product n [] h = all-one
  all-product n (f ∷ fs) h = all-mul n f (product n fs) h.0 (all-product n fs h.1)

  pub all-absolute : (f : Sum) → AllKeys f → AllKeys (absolute f)
  all-absolute [] h = tt
  all-absolute (t ∷ f) h = (h.0, all-absolute f h.1)

  -- what all terms other than 1 have, all have
  pub all-rest : (f : Sum) → AllKeys (rest f) → AllKeys f
  all-rest [] h = tt
  all-rest (t ∷ f) h = go (key_eq t.0 unit) refl h (λ k. all-rest f k)
    where
      go : (b : Bool) → key_eq t.0 unit ≡ b → AllKeys (rest (t ∷ f)) → (AllKeys (rest f) → AllKeys f) → AllKeys (t ∷ f)
      go true e k r = (rw (key_eq-same t.0 unit e) kept.unit, r (rw e at k))
      go false e k r = let s : P t.0 × AllKeys (rest f) = rw e at k in (s.0, r s.1)

  -- a key with a coefficient is the key of a term
  pub all-coef : (f : Sum) (k : Key) → AllKeys f → coef f k ≢ pos 0 → P k
  all-coef [] k h n = absurd (n refl)
  all-coef (t ∷ f) k h n = go (key_eq t.0 k) refl n (λ m. all-coef f k h.1 m)
    where
      go : (b : Bool) → key_eq t.0 k ≡ b → coef (t ∷ f) k ≢ pos 0 → (coef f k ≢ pos 0 → P k) → P k
      go true e m r = rw (← key_eq-same t.0 k e) h.0
      go false e m r = r (λ z. m (rw e (rw z refl)))
