-- The tests of exponents, keys and points decide equality.
use Rattle.std.proofs.Common.{◌≡◌, ◌≢◌, refl, sym, subst, ap, inl, inr, ◌⊎◌, Bool, true, false, ◌&&◌, arith}
use Rattle.std.specs.Prelude.{ℤ, pos, ◌+ℤ◌}
use Rattle.std.proofs.lemmas.Int.{ints}
use Rattle.scattering.specs.Series.{Exp, Powers, Key, Term, int_eq, exp_eq, powers_eq, key_eq, key_mul, unit, degree, origin}
use Rattle.scattering.specs.Plane.{Point, point_eq}
use Rattle.scattering.proofs.Lists.{and-left, and-right}

pub int_eq-refl : (x : ℤ) → int_eq x x ≡ true
int_eq-refl x = grind (arith, ints)

pub same-exp : (u v : Exp) → u.a ≡ v.a → u.b ≡ v.b → u ≡ v
same-exp u v p q = λ i. record { a = p i; b = q i }

pub exp_eq-same : (u v : Exp) → exp_eq u v ≡ true → u ≡ v
exp_eq-same u v e = same-exp u v (grind (arith, ints)) (grind (arith, ints))

pub same-powers : (p q : Powers) → p.t1 ≡ q.t1 → p.t2 ≡ q.t2 → p.t3 ≡ q.t3 → p.t4 ≡ q.t4 → p.t5 ≡ q.t5 → p.t6 ≡ q.t6 → p.t7 ≡ q.t7 → p.t8 ≡ q.t8 → p ≡ q
same-powers p q a b c d e f g h = λ i. record { t1 = a i; t2 = b i; t3 = c i; t4 = d i; t5 = e i; t6 = f i; t7 = g i; t8 = h i }

pub powers_eq-same : (p q : Powers) → powers_eq p q ≡ true → p ≡ q
powers_eq-same p q e = same-powers p q (grind arith) (grind arith) (grind arith) (grind arith) (grind arith) (grind arith) (grind arith) (grind arith)

same-key : (k l : Key) → k.powers ≡ l.powers → k.exp ≡ l.exp → k ≡ l
same-key k l p q = λ i. record { powers = p i; exp = q i }

pub key_eq-same : (k l : Key) → key_eq k l ≡ true → k ≡ l
key_eq-same k l e = same-key k l (powers_eq-same k.powers l.powers (and-right (exp_eq k.exp l.exp) (powers_eq k.powers l.powers) e)) (exp_eq-same k.exp l.exp (and-left (exp_eq k.exp l.exp) (powers_eq k.powers l.powers) e))

pub key_eq-refl : (k : Key) → key_eq k k ≡ true
key_eq-refl k = grind (arith, ints)

pub int_eq-same : (x y : ℤ) → int_eq x y ≡ true → x ≡ y
int_eq-same x y e = grind (arith, ints)

pub point_eq-same : (p q : Point) → point_eq p q ≡ true → p ≡ q
point_eq-same p q e =
    let x : p.x ≡ q.x = int_eq-same p.x q.x (and-left _ _ (and-left _ _ e)) in
    let y : p.y ≡ q.y = int_eq-same p.y q.y (and-right (int_eq p.x q.x) _ (and-left _ _ e)) in
    let w : p.w ≡ q.w = int_eq-same p.w q.w (and-right (int_eq p.x q.x && int_eq p.y q.y) _ e) in
    λ i. record { x = x i; y = y i; w = w i }

pub point_eq-refl : (p : Point) → point_eq p p ≡ true
point_eq-refl p = grind (arith, ints)

pub exp_eq-refl : (d : Exp) → exp_eq d d ≡ true
exp_eq-refl d = grind (arith, ints)

-- an exponent is (0, 0) or not
pub origin-case : (e : Exp) → (e ≡ origin) ⊎ (e ≢ origin)
origin-case e = go (exp_eq e origin) refl
  where
    go : (b : Bool) → exp_eq e origin ≡ b → (e ≡ origin) ⊎ (e ≢ origin)
    go true q = inl (exp_eq-same e origin q)
    go false q = inr (λ s. let t : exp_eq e origin ≡ true = subst (λ (d : Exp). exp_eq e d ≡ true) s (exp_eq-refl e) in absurd (cc))

pub same-or-not : (u v : Exp) → (u ≡ v) ⊎ (u ≢ v)
same-or-not u v = go (exp_eq u v) refl
  where
    go : (b : Bool) → exp_eq u v ≡ b → (u ≡ v) ⊎ (u ≢ v)
    go true e = inl (exp_eq-same u v e)
    go false e = inr (λ s. let f : exp_eq u u ≡ false = subst (λ (w : Exp). exp_eq u w ≡ false) (sym s) e in let g = exp_eq-refl u in absurd (cc))

pub key_eq-apart : (t : Term) (k : Key) → (degree t.0 ≡ degree k → ⊥) → key_eq t.0 k ≡ false
key_eq-apart t k h = go (key_eq t.0 k) refl
  where
    go : (b : Bool) → key_eq t.0 k ≡ b → key_eq t.0 k ≡ false
    go true e = absurd (h (ap degree (key_eq-same t.0 k e)))
    go false e = e

-- 1 is the unit of the product of keys
pub unit-mul : (k : Key) → key_mul unit k ≡ k
unit-mul k = λ i. record { powers = powers i; exp = record { a = none k.exp.a i; b = none k.exp.b i } }
  where
    none : (x : ℤ) → pos 0 +ℤ x ≡ x
    none x = omega (arith, ints)

    powers : (key_mul unit k).powers ≡ k.powers
    powers = same-powers _ k.powers (omega arith) (omega arith) (omega arith) (omega arith) (omega arith) (omega arith) (omega arith) (omega arith)
