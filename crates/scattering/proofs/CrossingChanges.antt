-- A crossing changes sums that are the same to a degree into sums that are the same to it.
use Rattle.std.proofs.Common.{◌≡◌, ℕ, suc, refl, sym, ◌∙◌, ◌≤◌, Bool, true, false, [], ◌∷◌, ◌++◌, map, arith}
use Rattle.std.specs.Prelude.{ℤ, pos, ◌+ℤ◌, ◌*ℤ◌, neg_ℤ, flat_map, nat_le}
use Rattle.std.proofs.lemmas.Int.{ints}
use Rattle.scattering.specs.Series.{Key, Sum, key_eq, key_mul, coef, cut, term_mul, mul, power, Same, SameTo, degree, det}
use Rattle.scattering.specs.LocalProduct.{cross_half, Half}
use Rattle.scattering.proofs.Ring.{dif-up, dif-pos, dif-add, dif-neg, dif-mul, dif-same}
use Rattle.scattering.proofs.Pairing.{pairing, pairing-same, coef-append}

-- t^P·z^m·h, cut to degree k
abbrev pub moved : ℕ → Key → ℤ → Sum → Sum
moved k x c h = cut k (map (term_mul (x, c)) h)

pub distribute : (c d e r s : ℤ) → r ≡ c *ℤ s → (c *ℤ d) +ℤ r ≡ c *ℤ ((pos 1 *ℤ d) +ℤ s)
distribute c d e r s h = rw (h, dif-up c, dif-up d, dif-up s) (simp (dif-mul, dif-add, dif-neg, dif-pos) (dif-same _ _ _ _ (omega arith)))

pub absent : (c r s : ℤ) → r ≡ c *ℤ s → pos 0 +ℤ r ≡ c *ℤ (pos 0 +ℤ s)
absent c r s h = rw (h, dif-up c, dif-up s) (simp (dif-mul, dif-add, dif-neg, dif-pos) (dif-same _ _ _ _ (omega arith)))

times-zero : (c : ℤ) → pos 0 ≡ c *ℤ pos 0
times-zero c = omega (arith, ints)

pub moved-scale : (k : ℕ) (x y : Key) (c : ℤ) (h : Sum) → coef (moved k x c h) y ≡ c *ℤ coef (moved k x (pos 1) h) y
moved-scale k x y c [] = times-zero c
moved-scale k x y c (u ∷ h) = go (nat_le (degree (key_mul x u.0)) k) refl (key_eq (key_mul x u.0) y) refl (moved-scale k x y c h)
  where
    go : (a : Bool) → nat_le (degree (key_mul x u.0)) k ≡ a → (b : Bool) → key_eq (key_mul x u.0) y ≡ b → coef (moved k x c h) y ≡ c *ℤ coef (moved k x (pos 1) h) y
        → coef (moved k x c (u ∷ h)) y ≡ c *ℤ coef (moved k x (pos 1) (u ∷ h)) y
    go true e true q ih = rw (e, q) (distribute c u.1 (pos 0) _ _ ih)
    go true e false q ih = rw (e, q) (absent c _ _ ih)
    go false e b q ih = rw e ih

abbrev pub read : ℕ → (Key → Sum) → Key → Key → ℤ
read k P y x = coef (moved k x (pos 1) (P x)) y

pub coef-extend : (k : ℕ) (P : Key → Sum) (y : Key) (g : Sum) → coef (flat_map (λ t. mul k (t ∷ []) (P t.0)) g) y ≡ pairing (read k P y) g
coef-extend k P y [] = refl
coef-extend k P y (t ∷ g) =
    coef-append (moved k t.0 t.1 (P t.0) ++ []) (flat_map (λ t. mul k (t ∷ []) (P t.0)) g) y
    ∙ rw (coef-append (moved k t.0 t.1 (P t.0)) [] y, moved-scale k t.0 y t.1 (P t.0), coef-extend k P y g) (tidy (t.1 *ℤ read k P y t.0) (pairing (read k P y) g))
  where
    tidy : (a b : ℤ) → a +ℤ pos 0 +ℤ b ≡ a +ℤ b
    tidy a b = omega (arith, ints)

too_high : (k : ℕ) (x y : Key) (h : Sum) → suc k ≤ degree x → coef (moved k x (pos 1) h) y ≡ pos 0
too_high k x y [] le = refl
too_high k x y (u ∷ h) le = go (nat_le (degree (key_mul x u.0)) k) refl (too_high k x y h le)
  where
    go : (a : Bool) → nat_le (degree (key_mul x u.0)) k ≡ a → coef (moved k x (pos 1) h) y ≡ pos 0 → coef (moved k x (pos 1) (u ∷ h)) y ≡ pos 0
    go true e ih = absurd (grind arith)
    go false e ih = rw e ih

-- of any change that sends a key x to x times a sum P x
pub extend-respects : (k : ℕ) (P : Key → Sum) (f g : Sum) → SameTo k f g → Same (flat_map (λ t. mul k (t ∷ []) (P t.0)) f) (flat_map (λ t. mul k (t ∷ []) (P t.0)) g)
extend-respects k P f g same y =
    coef-extend k P y f ∙ pairing-same (read k P y) k f g same (λ x high. too_high k x y (P x) high) ∙ sym (coef-extend k P y g)

pub cross_half-respects : (k : ℕ) (h : Half) (f g : Sum) → SameTo k f g → SameTo k (cross_half k h f) (cross_half k h g)
cross_half-respects k h f g same y low = extend-respects k (λ x. power k h.wall.function (neg_ℤ h.side *ℤ det h.wall.dir x.exp)) f g same y
