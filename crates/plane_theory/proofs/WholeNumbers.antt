-- Whole numbers: signs of products, cancelling, and equations that follow from others by factors.
use Rattle.std.proofs.Common.{◌≡◌, ◌≢◌, ℕ, zero, suc, refl, ap, ◌*◌, ◌≤◌, ◌⊎◌, inl, inr, arith}
use Rattle.std.proofs.Math.Nat.{mul-le-mul_left}
use Rattle.std.specs.Prelude.{ℤ, pos, negsuc, ◌+ℤ◌, ◌-ℤ◌, ◌*ℤ◌, neg_ℤ, ◌≤ℤ◌}
use Rattle.std.proofs.lemmas.Int.{ints}
use Rattle.scattering.proofs.Ring.{dif, dif-up, dif-pos, dif-add, dif-neg, dif-mul, dif-same}

-- for a numeral below 0 in an identity
pub dif-below : (n : ℕ) → negsuc n ≡ dif 0 (suc n)
dif-below n = dif-up (negsuc n)

pub nat-positive : (a b : ℕ) → 1 ≤ a → 1 ≤ b → 1 ≤ a * b
nat-positive a b h k = omega (arith, mul-le-mul_left a k)

pub not_negative : (x y : ℤ) → pos 0 ≤ℤ x → pos 0 ≤ℤ y → pos 0 ≤ℤ (x *ℤ y)
not_negative (pos a) (pos b) h k = omega (arith, ints)
not_negative (pos a) (negsuc b) h k = absurd (omega (arith, ints, k))
not_negative (negsuc a) y h k = absurd (omega (arith, ints, h))

pub zero_of : (d x : ℤ) → pos 1 ≤ℤ d → d *ℤ x ≡ pos 0 → x ≡ pos 0
zero_of (pos a) (pos b) h e = let l : a * b ≡ 0 = omega (arith, ints, e) in let m : 1 ≤ a = omega (arith, ints, h) in ap pos (nat-zero a b m l)
  where
    nat-zero : (a b : ℕ) → 1 ≤ a → a * b ≡ 0 → b ≡ 0
    nat-zero a zero m l = refl
    nat-zero a (suc b) m l = let k : 1 ≤ suc b = omega arith in absurd (omega (arith, nat-positive a (suc b) m k, l))
zero_of (pos zero) (negsuc b) h e = absurd (omega (arith, ints, h))
zero_of (pos (suc a)) (negsuc b) h e = absurd (omega (arith, ints, e, nat-positive (suc a) (suc b) (omega arith) (omega arith)))
zero_of (negsuc a) x h e = absurd (omega (arith, ints, h))

-- the sign of x is that of d·x
pub positive_of : (d x : ℤ) → pos 1 ≤ℤ d → pos 1 ≤ℤ (d *ℤ x) → pos 1 ≤ℤ x
positive_of d (pos zero) h k = let e : d *ℤ pos 0 ≡ pos 0 = omega (arith, ints) in absurd (omega (arith, ints, e, k))
positive_of d (pos (suc b)) h k = omega (arith, ints)
positive_of (pos zero) (negsuc b) h k = absurd (omega (arith, ints, h))
positive_of (pos (suc a)) (negsuc b) h k = absurd (omega (arith, ints, k))
positive_of (negsuc a) (negsuc b) h k = absurd (omega (arith, ints, h))

pub not_negative_of : (d x : ℤ) → pos 1 ≤ℤ d → pos 0 ≤ℤ (d *ℤ x) → pos 0 ≤ℤ x
not_negative_of d (pos b) h k = omega (arith, ints)
not_negative_of (pos zero) (negsuc b) h k = absurd (omega (arith, ints, h))
not_negative_of (pos (suc a)) (negsuc b) h k = absurd (omega (arith, ints, k, nat-positive (suc a) (suc b) (omega arith) (omega arith)))
not_negative_of (negsuc a) (negsuc b) h k = absurd (omega (arith, ints, h))

pub distribute : (d x y : ℤ) → d *ℤ (x -ℤ y) ≡ d *ℤ x -ℤ d *ℤ y
distribute d x y = rw (dif-up d, dif-up x, dif-up y) (simp (dif-mul, dif-add, dif-neg) (dif-same _ _ _ _ (omega arith)))

pub cancel : (d x y : ℤ) → pos 1 ≤ℤ d → d *ℤ x ≡ d *ℤ y → x ≡ y
cancel d x y h e = let z : x -ℤ y ≡ pos 0 = zero_of d (x -ℤ y) h (let s = distribute d x y in omega (arith, ints, s, e)) in omega (arith, ints, z)

-- an equation that follows from one or two by factors
nought : (m l r : ℤ) → l ≡ r → m *ℤ (l -ℤ r) ≡ pos 0
nought m l r e = rw (e, dif-up m, dif-up r) (simp (dif-mul, dif-add, dif-neg, dif-pos) (dif-same _ _ _ _ (omega arith)))

pub follows : (x y m l r : ℤ) → l ≡ r → x -ℤ y ≡ m *ℤ (l -ℤ r) → x ≡ y
follows x y m l r e h = let z = nought m l r e in omega (arith, ints, z, h)

pub follows2 : (x y m l r m' l' r' : ℤ) → l ≡ r → l' ≡ r' → x -ℤ y ≡ m *ℤ (l -ℤ r) +ℤ m' *ℤ (l' -ℤ r') → x ≡ y
follows2 x y m l r m' l' r' e e' h = let z = nought m l r e in let z' = nought m' l' r' e' in omega (arith, ints, z, z', h)

pub square : (x : ℤ) → pos 0 ≤ℤ (x *ℤ x)
square (pos a) = omega (arith, ints)
square (negsuc a) = omega (arith, ints)

pub square-positive : (x : ℤ) → x ≢ pos 0 → pos 1 ≤ℤ (x *ℤ x)
square-positive (pos zero) n = absurd (n refl)
square-positive (pos (suc a)) n = let l = nat-positive (suc a) (suc a) (omega arith) (omega arith) in omega (arith, ints, l)
square-positive (negsuc a) n = let l = nat-positive (suc a) (suc a) (omega arith) (omega arith) in omega (arith, ints, l)

pub sign : (x : ℤ) → (x ≡ pos 0) ⊎ ((pos 1 ≤ℤ x) ⊎ (pos 1 ≤ℤ neg_ℤ x))
sign (pos zero) = inl refl
sign (pos (suc a)) = inr (inl (omega (arith, ints)))
sign (negsuc a) = inr (inr (omega (arith, ints)))

pub follows3 : (x y m l r m' l' r' m'' l'' r'' : ℤ) → l ≡ r → l' ≡ r' → l'' ≡ r'' → x -ℤ y ≡ m *ℤ (l -ℤ r) +ℤ m' *ℤ (l' -ℤ r') +ℤ m'' *ℤ (l'' -ℤ r'') → x ≡ y
follows3 x y m l r m' l' r' m'' l'' r'' e e' e'' h = let z = nought m l r e in let z' = nought m' l' r' e' in let z'' = nought m'' l'' r'' e'' in omega (arith, ints, z, z', z'', h)
