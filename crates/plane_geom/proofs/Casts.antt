-- Sums and differences in 128 bits that don't wrap.
use Rattle.std.proofs.Common.{◌≡◌, refl, ap, ◌∙◌, ◌≤◌, ◌^◌, arith, to_z, of_z, FitsSigned, ◌+ℤ◌, ◌-ℤ◌, ◌*ℤ◌, ℤ, nat_abs}
use Rattle.std.specs.Prelude.{pos, ◌≤ℤ◌, negsuc, neg_ℤ, nat_eq, int_lt}
use Rattle.std.proofs.Common.{true, false, zero, suc, ◌<◌}
use lib.Signed.{mag, le_z}
use mir.Syntax.{w32, w64, w128}
use Rattle.std.proofs.lemmas.Int.{ints}
use Rattle.sum_algebra.proofs.Integers.{plus-same}

pub minus-is : (x y : ℤ) → nat_abs x ≤ 2 ^ 100 → nat_abs y ≤ 2 ^ 100 → to_z w128 (of_z w128 (to_z w128 (of_z w128 x) -ℤ to_z w128 (of_z w128 y))) ≡ x -ℤ y
minus-is x y h k = omega (arith, ints, h, k)

pub plus-is : (x y : ℤ) → nat_abs x ≤ 2 ^ 100 → nat_abs y ≤ 2 ^ 100 → to_z w128 (of_z w128 (to_z w128 (of_z w128 x) +ℤ to_z w128 (of_z w128 y))) ≡ x +ℤ y
plus-is x y h k = omega (arith, ints, h, k)

pub minus-fits : (x y : ℤ) → nat_abs x ≤ 2 ^ 100 → nat_abs y ≤ 2 ^ 100 → FitsSigned w128 (to_z w128 (of_z w128 x) -ℤ to_z w128 (of_z w128 y))
minus-fits x y h k = omega (arith, ints, h, k)

pub minus-bound : (x y : ℤ) → nat_abs x ≤ 2 ^ 80 → nat_abs y ≤ 2 ^ 80 → nat_abs (to_z w128 (of_z w128 (to_z w128 (of_z w128 x) -ℤ to_z w128 (of_z w128 y)))) ≤ 2 ^ 81
minus-bound x y h k = omega (arith, ints, h, k)

pub larger : (x : ℤ) → nat_abs x ≤ 2 ^ 93 → nat_abs x ≤ 2 ^ 100
larger x h = omega (arith, h)

pub larger' : (x : ℤ) → nat_abs x ≤ 2 ^ 80 → nat_abs x ≤ 2 ^ 100
larger' x h = omega (arith, h)

pub back32 : (z : ℤ) → nat_abs z ≤ 2 ^ 12 → to_z w32 (of_z w32 z) ≡ z
back32 z h = omega (arith, ints, h)

pub back64 : (z : ℤ) → nat_abs z ≤ 2 ^ 40 → to_z w64 (of_z w64 z) ≡ z
back64 z h = omega (arith, ints, h)

pub back128 : (z : ℤ) → nat_abs z ≤ 2 ^ 81 → to_z w128 (of_z w128 z) ≡ z
back128 z h = omega (arith, ints, h)

-- what a call's clause says of the numbers that were passed
pub product-read : (r a b : ℤ) → nat_abs a ≤ 2 ^ 40 → nat_abs b ≤ 2 ^ 40 → r ≡ to_z w64 (of_z w64 a) *ℤ to_z w64 (of_z w64 b) → r ≡ a *ℤ b
product-read r a b h k e = e ∙ ap (λ z. z *ℤ to_z w64 (of_z w64 b)) (back64 a h) ∙ ap (λ z. a *ℤ z) (back64 b k)

pub small-read : (r a b : ℤ) → nat_abs a ≤ 2 ^ 12 → nat_abs b ≤ 2 ^ 12 → r ≡ to_z w32 (of_z w32 a) *ℤ to_z w32 (of_z w32 b) → r ≡ a *ℤ b
small-read r a b h k e = e ∙ ap (λ z. z *ℤ to_z w32 (of_z w32 b)) (back32 a h) ∙ ap (λ z. a *ℤ z) (back32 b k)

pub minor-read : (r a b c d : ℤ) → nat_abs a ≤ 2 ^ 40 → nat_abs b ≤ 2 ^ 40 → nat_abs c ≤ 2 ^ 40 → nat_abs d ≤ 2 ^ 40
    → r ≡ to_z w64 (of_z w64 a) *ℤ to_z w64 (of_z w64 b) -ℤ to_z w64 (of_z w64 c) *ℤ to_z w64 (of_z w64 d) → r ≡ a *ℤ b -ℤ c *ℤ d
minor-read r a b c d h k l m e =
    e ∙ ap (λ z. z -ℤ to_z w64 (of_z w64 c) *ℤ to_z w64 (of_z w64 d)) (product-read _ a b h k refl)
    ∙ ap (λ z. a *ℤ b -ℤ z) (product-read _ c d l m refl)

pub scaled-read : (r a y : ℤ) → nat_abs a ≤ 2 ^ 12 → nat_abs y ≤ 2 ^ 81 → r ≡ to_z w32 (of_z w32 a) *ℤ to_z w128 (of_z w128 y) → r ≡ a *ℤ y
scaled-read r a y h k e = e ∙ ap (λ z. z *ℤ to_z w128 (of_z w128 y)) (back32 a h) ∙ ap (λ z. a *ℤ z) (back128 y k)

pub times-same : (a x y : ℤ) → x ≡ y → a *ℤ x ≡ a *ℤ y
times-same a x y h = ap (λ z. a *ℤ z) h

pub minus-is64 : (x y : ℤ) → nat_abs x ≤ 2 ^ 24 → nat_abs y ≤ 2 ^ 24 → to_z w64 (of_z w64 (to_z w64 (of_z w64 x) -ℤ to_z w64 (of_z w64 y))) ≡ x -ℤ y
minus-is64 x y h k = omega (arith, ints, h, k)

-- the tests of a number against 0
pub zero-out : (x : ℤ) → mag x < 2 ^ 127 → nat_eq (of_z w128 x) 0 ≡ true → x ≡ pos 0
zero-out (pos zero) h e = refl
zero-out (pos (suc n)) h e = absurd (grind arith)
zero-out (negsuc n) h e = absurd (grind arith)

pub zero-in : (x : ℤ) → x ≡ pos 0 → nat_eq (of_z w128 x) 0 ≡ true
zero-in x e = rw e

pub least-out : (x : ℤ) → mag x < 2 ^ 127 → le_z (pos 0) (to_z w128 (of_z w128 x)) ≡ true → pos 0 ≤ℤ x
least-out x h e = omega (arith, ints, h, e)

pub least-in : (x : ℤ) → mag x < 2 ^ 127 → pos 0 ≤ℤ x → le_z (pos 0) (to_z w128 (of_z w128 x)) ≡ true
least-in x h e = grind (arith, ints)

pub zero-bits : (x : ℤ) → mag x < 2 ^ 127 → of_z w128 x ≡ 0 → x ≡ pos 0
zero-bits (pos n) h e = ap pos e
zero-bits (negsuc n) h e = absurd (grind arith)

pub bits-zero : (x : ℤ) → x ≡ pos 0 → of_z w128 x ≡ 0
bits-zero x e = rw e

pub minus-bound94 : (x y : ℤ) → nat_abs x ≤ 2 ^ 93 → nat_abs y ≤ 2 ^ 93 → nat_abs (to_z w128 (of_z w128 (to_z w128 (of_z w128 x) -ℤ to_z w128 (of_z w128 y)))) ≤ 2 ^ 94
minus-bound94 x y h k = omega (arith, ints, h, k)

pub plus-is110 : (x y : ℤ) → nat_abs x ≤ 2 ^ 110 → nat_abs y ≤ 2 ^ 110 → to_z w128 (of_z w128 (to_z w128 (of_z w128 x) +ℤ to_z w128 (of_z w128 y))) ≡ x +ℤ y
plus-is110 x y h k = omega (arith, ints, h, k)

pub back94 : (x : ℤ) → nat_abs x ≤ 2 ^ 94 → to_z w128 (of_z w128 x) ≡ x
back94 x h = omega (arith, ints, h)

pub grown-read : (r a t : ℤ) → nat_abs a ≤ 2 ^ 80 → nat_abs t ≤ 2 ^ 25 → r ≡ to_z w128 (of_z w128 a) *ℤ to_z w64 (of_z w64 t) → r ≡ a *ℤ t
grown-read r a t h k e = e ∙ ap (λ z. z *ℤ to_z w64 (of_z w64 t)) (back128 a (more a h)) ∙ ap (λ z. a *ℤ z) (back64 t (more' t k))
  where
    more : (a : ℤ) → nat_abs a ≤ 2 ^ 80 → nat_abs a ≤ 2 ^ 81
    more a h = omega (arith, h)

    more' : (a : ℤ) → nat_abs a ≤ 2 ^ 25 → nat_abs a ≤ 2 ^ 40
    more' a h = omega (arith, h)

pub moved-read : (r n d : ℤ) → nat_abs n ≤ 2 ^ 94 → nat_abs d ≤ 2 ^ 12 → r ≡ to_z w128 (of_z w128 n) *ℤ to_z w32 (of_z w32 d) → r ≡ n *ℤ d
moved-read r n d h k e = e ∙ ap (λ z. z *ℤ to_z w32 (of_z w32 d)) (back94 n h) ∙ ap (λ z. n *ℤ z) (back32 d k)

pub larger105 : (x : ℤ) → nat_abs x ≤ 2 ^ 105 → nat_abs x ≤ 2 ^ 110
larger105 x h = omega (arith, h)

pub larger106 : (x : ℤ) → nat_abs x ≤ 2 ^ 106 → nat_abs x ≤ 2 ^ 110
larger106 x h = omega (arith, h)

pub minus-bound25 : (x y : ℤ) → nat_abs x ≤ 2 ^ 24 → nat_abs y ≤ 2 ^ 24 → nat_abs (to_z w64 (of_z w64 (to_z w64 (of_z w64 x) -ℤ to_z w64 (of_z w64 y)))) ≤ 2 ^ 25
minus-bound25 x y h k = omega (arith, ints, h, k)

pub neg-fits : (x : ℤ) → nat_abs x ≤ 2 ^ 107 → FitsSigned w128 (pos 0 -ℤ to_z w128 (of_z w128 x))
neg-fits x h = omega (arith, ints, h)

pub neg-is : (x : ℤ) → nat_abs x ≤ 2 ^ 107 → to_z w128 (of_z w128 (pos 0 -ℤ to_z w128 (of_z w128 x))) ≡ pos 0 -ℤ x
neg-is x h = omega (arith, ints, h)

pub back107 : (x : ℤ) → nat_abs x ≤ 2 ^ 107 → to_z w128 (of_z w128 x) ≡ x
back107 x h = omega (arith, ints, h)

pub larger107 : (x : ℤ) → nat_abs x ≤ 2 ^ 105 → nat_abs x ≤ 2 ^ 107
larger107 x h = omega (arith, h)

-- what is not above 0, and not 0, is below it
pub below-zero : (x : ℤ) → nat_abs x ≤ 2 ^ 107 → (x ≡ pos 0 → ⊥) → int_lt (pos 0) (to_z w128 (of_z w128 x)) ≡ false → pos 1 ≤ℤ to_z w128 (of_z w128 (pos 0 -ℤ to_z w128 (of_z w128 x)))
below-zero (pos zero) h n l = absurd (n refl)
below-zero (pos (suc a)) h n l = absurd (omega (arith, ints, h, l))
below-zero (negsuc a) h n l = let e = neg-is (negsuc a) h in omega (arith, ints, e)

pub product-seen : (r a b : ℤ) → nat_abs a ≤ 2 ^ 40 → nat_abs b ≤ 2 ^ 40 → r ≡ to_z w64 (of_z w64 a) *ℤ to_z w64 (of_z w64 b) → nat_abs r ≤ 2 ^ 80 → to_z w128 (of_z w128 r) ≡ a *ℤ b
product-seen r a b h k e l = back107 r (omega (arith, l)) ∙ product-read r a b h k e

pub bits-zero64 : (x : ℤ) → x ≡ pos 0 → of_z w64 x ≡ 0
bits-zero64 x e = rw e

pub back25 : (x : ℤ) → nat_abs x ≤ 2 ^ 25 → to_z w64 (of_z w64 x) ≡ x
back25 x h = omega (arith, ints, h)

-- the numbers of a common point
pub grown-seen : (w a b t m : ℤ) → nat_abs a ≤ 2 ^ 40 → nat_abs b ≤ 2 ^ 40 → nat_abs t ≤ 2 ^ 25 → m ≡ to_z w64 (of_z w64 a) *ℤ to_z w64 (of_z w64 b) → nat_abs m ≤ 2 ^ 80 → w ≡ to_z w128 (of_z w128 m) *ℤ to_z w64 (of_z w64 t) → w ≡ a *ℤ b *ℤ t
grown-seen w a b t m h k l e f g = g ∙ ap (λ z. z *ℤ to_z w64 (of_z w64 t)) (product-seen m a b h k e f) ∙ ap (λ z. a *ℤ b *ℤ z) (back25 t l)

pub shifted-seen : (x a b t n d m : ℤ) → nat_abs a ≤ 2 ^ 40 → nat_abs b ≤ 2 ^ 40 → nat_abs t ≤ 2 ^ 25 → nat_abs n ≤ 2 ^ 94 → nat_abs d ≤ 2 ^ 12 → m ≡ to_z w64 (of_z w64 a) *ℤ to_z w64 (of_z w64 b) → nat_abs m ≤ 2 ^ 80
    → x ≡ to_z w128 (of_z w128 m) *ℤ to_z w64 (of_z w64 t) +ℤ to_z w128 (of_z w128 n) *ℤ to_z w32 (of_z w32 d) → x ≡ a *ℤ b *ℤ t +ℤ n *ℤ d
shifted-seen x a b t n d m h k l i j e f g =
    g ∙ plus-same _ _ _ _ (ap (λ z. z *ℤ to_z w64 (of_z w64 t)) (product-seen m a b h k e f) ∙ ap (λ z. a *ℤ b *ℤ z) (back25 t l)) (moved-read (to_z w128 (of_z w128 n) *ℤ to_z w32 (of_z w32 d)) n d i j refl)

pub neg25 : (x : ℤ) → nat_abs x ≤ 2 ^ 25 → to_z w64 (of_z w64 (pos 0 -ℤ to_z w64 (of_z w64 x))) ≡ neg_ℤ x
neg25 x h = omega (arith, ints, h)

pub plus-fits : (x y : ℤ) → nat_abs x ≤ 2 ^ 100 → nat_abs y ≤ 2 ^ 100 → FitsSigned w128 (to_z w128 (of_z w128 x) +ℤ to_z w128 (of_z w128 y))
plus-fits x y h k = omega (arith, ints, h, k)

pub plus-fits110 : (x y : ℤ) → nat_abs x ≤ 2 ^ 110 → nat_abs y ≤ 2 ^ 110 → FitsSigned w128 (to_z w128 (of_z w128 x) +ℤ to_z w128 (of_z w128 y))
plus-fits110 x y h k = omega (arith, ints, h, k)

pub minus-fits64 : (x y : ℤ) → nat_abs x ≤ 2 ^ 24 → nat_abs y ≤ 2 ^ 24 → FitsSigned w64 (to_z w64 (of_z w64 x) -ℤ to_z w64 (of_z w64 y))
minus-fits64 x y h k = omega (arith, ints, h, k)

-- a number that is passed keeps its bound
pub near-passed : (x : ℤ) → nat_abs x ≤ 2 ^ 40 → nat_abs (to_z w64 (of_z w64 x)) ≤ 2 ^ 40
near-passed x h = rw (back64 x h) h

pub small-passed : (x : ℤ) → nat_abs x ≤ 2 ^ 12 → nat_abs (to_z w32 (of_z w32 x)) ≤ 2 ^ 12
small-passed x h = rw (back32 x h) h

pub turn-passed : (x : ℤ) → nat_abs x ≤ 2 ^ 25 → nat_abs (to_z w64 (of_z w64 x)) ≤ 2 ^ 25
turn-passed x h = rw (back25 x h) h

pub product-passed : (x : ℤ) → nat_abs x ≤ 2 ^ 80 → nat_abs (to_z w128 (of_z w128 x)) ≤ 2 ^ 80
product-passed x h = rw (back107 x (omega (arith, h))) h

pub numerator-passed : (x : ℤ) → nat_abs x ≤ 2 ^ 94 → nat_abs (to_z w128 (of_z w128 x)) ≤ 2 ^ 94
numerator-passed x h = rw (back94 x h) h
