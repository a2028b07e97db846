-- A sum times a key: its coefficients, and on which of its factor's degrees they depend.
use Rattle.std.proofs.Common.{◌≡◌, ℕ, suc, refl, sym, ap, ◌∙◌, ◌+◌, ◌≤◌, Bool, true, false, cond, [], ◌∷◌, arith}
use Rattle.std.specs.Prelude.{ℤ, pos, ◌+ℤ◌, ◌*ℤ◌, filter, nat_le}
use Rattle.std.proofs.lemmas.Int.{ints}
use Rattle.scattering.specs.Series.{Key, Sum, key_eq, key_mul, unit, one, coef, SameTo, degree}
use Rattle.scattering.proofs.Ring.{dif-up, dif-pos, dif-add, dif-neg, dif-mul, dif-same}
use Rattle.scattering.proofs.Pairing.{pairing, pairing-same}
use Rattle.scattering.proofs.CrossingChanges.{moved, read}
use Rattle.scattering.proofs.Keys.{key_eq-same, same-powers}

pub degree-mul : (x u : Key) → degree (key_mul x u) ≡ degree x + degree u
degree-mul x u = omega arith

-- one term of h
abbrev pub shift : ℕ → Key → Key → Key → ℤ
shift k x y u = coef (moved k x (pos 1) ((u, pos 1) ∷ [])) y

step-in : (c r : ℤ) → (pos 1 *ℤ c) +ℤ r ≡ c *ℤ ((pos 1 *ℤ pos 1) +ℤ pos 0) +ℤ r
step-in c r = rw (dif-up c, dif-up r) (simp (dif-mul, dif-add, dif-neg, dif-pos) (dif-same _ _ _ _ (omega arith)))

step-out : (c r : ℤ) → pos 0 +ℤ r ≡ c *ℤ (pos 0 +ℤ pos 0) +ℤ r
step-out c r = rw (dif-up c, dif-up r) (simp (dif-mul, dif-add, dif-neg, dif-pos) (dif-same _ _ _ _ (omega arith)))

step-cut : (c r : ℤ) → r ≡ c *ℤ pos 0 +ℤ r
step-cut c r = omega (arith, ints)

pub moved-pairing : (k : ℕ) (x y : Key) (h : Sum) → coef (moved k x (pos 1) h) y ≡ pairing (shift k x y) h
moved-pairing k x y [] = refl
moved-pairing k x y (u ∷ h) = go (nat_le (degree (key_mul x u.0)) k) refl (key_eq (key_mul x u.0) y) refl (moved-pairing k x y h)
  where
    go : (a : Bool) → nat_le (degree (key_mul x u.0)) k ≡ a → (b : Bool) → key_eq (key_mul x u.0) y ≡ b → coef (moved k x (pos 1) h) y ≡ pairing (shift k x y) h
        → coef (moved k x (pos 1) (u ∷ h)) y ≡ pairing (shift k x y) (u ∷ h)
    go true e true q ih = rw (e, q, ih) (step-in u.1 (pairing (shift k x y) h))
    go true e false q ih = rw (e, q, ih) (step-out u.1 (pairing (shift k x y) h))
    go false e b q ih = rw (e, ih) (step-cut u.1 (pairing (shift k x y) h))

shift-high : (k j : ℕ) (x y u : Key) → degree y ≤ degree x + j → suc j ≤ degree u → shift k x y u ≡ pos 0
shift-high k j x y u low high = go (nat_le (degree (key_mul x u)) k) refl (key_eq (key_mul x u) y) refl
  where
    go : (a : Bool) → nat_le (degree (key_mul x u)) k ≡ a → (b : Bool) → key_eq (key_mul x u) y ≡ b → shift k x y u ≡ pos 0
    go true e true q = absurd (let d : degree (key_mul x u) ≡ degree y = ap degree (key_eq-same (key_mul x u) y q) in let m = degree-mul x u in omega (arith, d, m, low, high))
    go true e false q = rw (e, q) refl
    go false e b q = rw e refl

-- the product by a key depends on the factor to the degree that is left
pub moved-respects : (k j : ℕ) (x y : Key) (g h : Sum) → SameTo j g h → degree y ≤ degree x + j → coef (moved k x (pos 1) g) y ≡ coef (moved k x (pos 1) h) y
moved-respects k j x y g h same low =
    moved-pairing k x y g ∙ pairing-same (shift k x y) j g h same (λ u high. shift-high k j x y u low high) ∙ sym (moved-pairing k x y h)

mul-unit : (x : Key) → key_mul x unit ≡ x
mul-unit x =
    let p : (key_mul x unit).powers ≡ x.powers = same-powers _ x.powers (omega arith) (omega arith) (omega arith) (omega arith) (omega arith) (omega arith) (omega arith) (omega arith) in
    let a : x.exp.a +ℤ pos 0 ≡ x.exp.a = omega (arith, ints) in
    let b : x.exp.b +ℤ pos 0 ≡ x.exp.b = omega (arith, ints) in
    λ i. record { powers = p i; exp = record { a = a i; b = b i } }

count : Bool → ℤ
count b = cond b (pos 1) (pos 0)

not_above : (a b k : ℕ) → a ≡ b → b ≤ k → nat_le a k ≡ false → ⊥
not_above a b k p q e = grind arith

shift-unit : (k : ℕ) (x y : Key) → degree y ≤ k → shift k x y unit ≡ cond (key_eq x y) (pos 1) (pos 0)
shift-unit k x y low = go (key_mul x unit) (mul-unit x)
  where
    at : (b : Bool) → key_eq x y ≡ b → (a : Bool) → nat_le (degree x) k ≡ a → coef (filter (λ t. nat_le (degree t.0) k) ((x, pos 1 *ℤ pos 1) ∷ [])) y ≡ cond (key_eq x y) (pos 1) (pos 0)
    at true q true e = rw (e, q) refl
    at true q false e = absurd (not_above (degree x) (degree y) k (ap degree (key_eq-same x y q)) low e)
    at false q true e = rw (e, q) refl
    at false q false e = rw (e, q) refl

    go : (w : Key) → w ≡ x → coef (filter (λ t. nat_le (degree t.0) k) ((w, pos 1 *ℤ pos 1) ∷ [])) y ≡ cond (key_eq x y) (pos 1) (pos 0)
    go w same = rw same (at (key_eq x y) refl (nat_le (degree x) k) refl)

times-count : (c r s : ℤ) → r ≡ s → c *ℤ pos 1 +ℤ r ≡ c +ℤ s
times-count c r s e = rw e (omega (arith, ints))

times-none : (c r s : ℤ) → r ≡ s → c *ℤ pos 0 +ℤ r ≡ pos 0 +ℤ s
times-none c r s e = rw e (omega (arith, ints))

pairing-one : (k : ℕ) (y : Key) (g : Sum) → degree y ≤ k → pairing (read k (λ _. one) y) g ≡ coef g y
pairing-one k y [] low = refl
pairing-one k y (t ∷ g) low = rw (shift-unit k t.0 y low) (go (key_eq t.0 y) refl (pairing-one k y g low))
  where
    go : (b : Bool) → key_eq t.0 y ≡ b → pairing (read k (λ _. one) y) g ≡ coef g y → t.1 *ℤ cond (key_eq t.0 y) (pos 1) (pos 0) +ℤ pairing (read k (λ _. one) y) g ≡ coef (t ∷ g) y
    go true e ih = rw e (times-count t.1 _ _ ih)
    go false e ih = rw e (times-none t.1 _ _ ih)
