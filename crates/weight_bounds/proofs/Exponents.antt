-- The exponents of the terms of a crossing's majorant, by degree.
use Rattle.std.proofs.Common.{◌≡◌, ℕ, zero, suc, ◌+◌, ◌*◌, ◌≤◌, List, [], ◌∷◌, arith, slice_index}
use Rattle.std.specs.Prelude.{ℤ, ◌-ℤ◌, ◌*ℤ◌, nat_abs}
use Rattle.std.proofs.Math.Nat.{mul-le-mul_left}
use Rattle.std.proofs.lemmas.Int.{ints, unsigned_abs-mul}
use Rattle.scattering.specs.Collections.{Every}
use Rattle.scattering.specs.Series.{Exp, Key, Sum, degree, det, key_mul, one, mul, pow, powers_to, geometric, absolute, rest}
use Rattle.scattering.specs.LocalProduct.{cross_majorant}
use Rattle.scattering.proofs.Lists.{Every-append}
use Rattle.scattering.proofs.ShiftedSums.{degree-mul}
use Rattle.trunc_series.proofs.Coefficients.{abs-add}
use Rattle.trunc_series.proofs.PowerLaws.{mul-every}
use Rattle.weight_bounds.specs.Masses.{IsReached}
use Rattle.weight_bounds.specs.Bounds.{IsClosed}

-- the exponents of a key are within c and what its degree reaches
abbrev pub IsWithin : ℕ → List ℕ → ℕ → Key → Type 0
IsWithin k reach c x = degree x ≤ k → (nat_abs x.exp.a ≤ c + slice_index reach (degree x)) × (nat_abs x.exp.b ≤ c + slice_index reach (degree x))

within-mul : (k : ℕ) (reach : List ℕ) (c : ℕ) → IsClosed k reach → (x y : Key) → IsWithin k reach c x → IsWithin k reach 0 y → IsWithin k reach c (key_mul x y)
within-mul k reach c closed x y p q le =
    let d = degree-mul x y in
    let le' : degree x + degree y ≤ k = omega (arith, d, le) in
    let a = p (omega (arith, le')) in
    let b = q (omega (arith, le')) in
    let s = closed (degree x) (degree y) le' in
    let m = abs-add x.exp.a y.exp.a in
    let n = abs-add x.exp.b y.exp.b in
    let a' = a.0 in
    let b' = b.0 in
    let a'' = a.1 in
    let b'' = b.1 in
    rw d (omega (arith, m, a', b', s), omega (arith, n, a'', b'', s))

module _ (k : ℕ) (reach : List ℕ) (closed : IsClosed k reach) where
  one-within : Every (λ t. IsWithin k reach 0 t.0) one
  one-within = (λ le. (omega arith, omega arith), tt)

  pow-within : (u : Sum) → Every (λ t. IsWithin k reach 0 t.0) u → (i : ℕ) → Every (λ t. IsWithin k reach 0 t.0) (pow k u i)
  pow-within u h zero = one-within
  pow-within u h (suc i) = mul-every (IsWithin k reach 0) (IsWithin k reach 0) (IsWithin k reach 0) (within-mul k reach 0 closed) k u (pow k u i) h (pow-within u h i)

  powers-within : (u : Sum) → Every (λ t. IsWithin k reach 0 t.0) u → (i : ℕ) → Every (λ t. IsWithin k reach 0 t.0) (powers_to k u i)
  powers-within u h zero = one-within
  powers-within u h (suc i) = Every-append (λ t. IsWithin k reach 0 t.0) (powers_to k u i) (pow k u (suc i)) (powers-within u h i) (pow-within u h (suc i))

  absolute-within : (u : Sum) → Every (λ t. IsWithin k reach 0 t.0) u → Every (λ t. IsWithin k reach 0 t.0) (absolute u)
  absolute-within [] h = tt
  absolute-within (t ∷ u) h = (h.0, absolute-within u h.1)

  reached : (u : Sum) → Every (λ t. degree t.0 ≤ k → (nat_abs t.0.exp.a ≤ slice_index reach (degree t.0)) × (nat_abs t.0.exp.b ≤ slice_index reach (degree t.0))) u → Every (λ t. IsWithin k reach 0 t.0) u
  reached [] h = tt
  reached (t ∷ u) h = (λ le. let p = h.0 le in (let a = p.0 in omega (arith, a), let b = p.1 in omega (arith, b)), reached u h.1)

  pub cross-within : (d : Exp) (f g : Sum) → IsReached k reach f → Every (λ t. IsWithin k reach 1 t.0) g → Every (λ t. IsWithin k reach 1 t.0) (cross_majorant k d f g)
  cross-within d f [] r h = tt
  cross-within d f (t ∷ g) r h =
      Every-append (λ t. IsWithin k reach 1 t.0) (mul k (t ∷ []) (pow k (geometric k f) (nat_abs (det d t.0.exp)))) (cross_majorant k d f g)
      (mul-every (IsWithin k reach 1) (IsWithin k reach 0) (IsWithin k reach 1) (within-mul k reach 1 closed) k (t ∷ []) _ (h.0, tt)
      (pow-within (geometric k f) (powers-within (absolute (rest f)) (absolute-within (rest f) (reached (rest f) r)) k) (nat_abs (det d t.0.exp))))
      (cross-within d f g r h.1)

-- ---- determinants

pub det-within : (d e : Exp) (m : ℕ) → nat_abs e.a ≤ m → nat_abs e.b ≤ m → nat_abs (det d e) ≤ (nat_abs d.a + nat_abs d.b) * m
det-within d e m p q =
    let s = abs-sub (d.a *ℤ e.b) (d.b *ℤ e.a) in
    let x = unsigned_abs-mul d.a e.b in
    let y = unsigned_abs-mul d.b e.a in
    let h : nat_abs d.a * nat_abs e.b ≤ nat_abs d.a * m = mul-le-mul_left (nat_abs d.a) q in
    let i : nat_abs d.b * nat_abs e.a ≤ nat_abs d.b * m = mul-le-mul_left (nat_abs d.b) p in
    last (nat_abs (det d e)) (nat_abs (d.a *ℤ e.b)) (nat_abs (d.b *ℤ e.a)) (nat_abs d.a) (nat_abs d.b) (nat_abs d.a * nat_abs e.b) (nat_abs d.b * nat_abs e.a) s x y h i
  where
    abs-sub : (x y : ℤ) → nat_abs (x -ℤ y) ≤ nat_abs x + nat_abs y
    abs-sub x y = omega (arith, ints)

    last : (t x y a b u v : ℕ) → t ≤ x + y → x ≡ u → y ≡ v → u ≤ a * m → v ≤ b * m → t ≤ (a + b) * m
    last t x y a b u v s p q h i = omega (arith, s, p, q, h, i)
