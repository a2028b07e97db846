-- What two sums read by two tests have in common.
use Rattle.std.proofs.Common.{◌≡◌, ℕ, zero, suc, refl, sym, ap, ◌∙◌, ◌≤◌, Bool, true, false, cond, [], ◌∷◌, length, arith}
use Rattle.std.specs.Prelude.{ℤ, pos, ◌+ℤ◌, ◌-ℤ◌, ◌*ℤ◌}
use Rattle.std.proofs.lemmas.Int.{ints}
use Rattle.scattering.specs.Series.{Key, Term, Sum, key_eq, coef, Same, mul}
use Rattle.scattering.proofs.Ring.{dif-up, dif-add, dif-neg, dif-mul, dif-same}
use Rattle.scattering.proofs.Pairing.{pairing, without, pairing-split, coef-without, length-without, pairing-zero, coef-append}
use Rattle.scattering.proofs.CrossingChanges.{moved, moved-scale}
use Rattle.scattering.proofs.ShiftedSums.{moved-pairing, shift}
use Rattle.scattering.proofs.Keys.{key_eq-refl}
use Rattle.sum_algebra.proofs.Integers.{plus-same, times-same}

left-out : (φ ψ : Key → ℤ) (f g : Sum) (x : Key) → ((y : Key) → coef f y *ℤ φ y ≡ coef g y *ℤ ψ y) → (y : Key) → coef (without x f) y *ℤ φ y ≡ coef (without x g) y *ℤ ψ y
left-out φ ψ f g x h y = go (key_eq x y) refl
  where
    none : (a b : ℤ) → pos 0 *ℤ a ≡ pos 0 *ℤ b
    none a b = omega (arith, ints)

    go : (b : Bool) → key_eq x y ≡ b → coef (without x f) y *ℤ φ y ≡ coef (without x g) y *ℤ ψ y
    go true e = rw (coef-without x y f, coef-without x y g, e) (none (φ y) (ψ y))
    go false e = rw (coef-without x y f, coef-without x y g, e) (h y)

without-head : (t : Term) (f : Sum) → without t.0 (t ∷ f) ≡ without t.0 f
without-head t f = rw key_eq-refl refl

pub agree : (φ ψ : Key → ℤ) (n : ℕ) (f g : Sum) → length f ≤ n → ((x : Key) → coef f x *ℤ φ x ≡ coef g x *ℤ ψ x) → pairing φ f ≡ pairing ψ g
agree φ ψ n [] g le h = sym (pairing-zero ψ (length g) g (omega arith) (λ x. sym (h x) ∙ (let z : pos 0 *ℤ φ x ≡ pos 0 = omega (arith, ints) in z)))
agree φ ψ zero (t ∷ f) g le h = absurd (omega arith)
agree φ ψ (suc n) (t ∷ f) g le h =
    pairing-split φ t.0 (t ∷ f)
    ∙ plus-same _ _ (coef g t.0 *ℤ ψ t.0) (pairing ψ (without t.0 g)) (h t.0)
    (ap (pairing φ) (without-head t f)
    ∙ agree φ ψ n (without t.0 f) (without t.0 g) (let l = length-without t.0 f in omega (arith, l, le)) (λ y. ap (λ u. coef u y *ℤ φ y) (sym (without-head t f)) ∙ left-out φ ψ (t ∷ f) g t.0 h y))
    ∙ sym (pairing-split ψ t.0 g)

pub pairing-minus : (φ ψ : Key → ℤ) (f : Sum) → pairing (λ x. φ x -ℤ ψ x) f ≡ pairing φ f -ℤ pairing ψ f
pairing-minus φ ψ [] = refl
pairing-minus φ ψ (t ∷ f) = rw (pairing-minus φ ψ f) (regroup t.1 (φ t.0) (ψ t.0) (pairing φ f) (pairing ψ f))
  where
    regroup : (c a b p r : ℤ) → c *ℤ (a -ℤ b) +ℤ (p -ℤ r) ≡ (c *ℤ a +ℤ p) -ℤ (c *ℤ b +ℤ r)
    regroup c a b p r = rw (dif-up c, dif-up a, dif-up b, dif-up p, dif-up r) (simp (dif-mul, dif-add, dif-neg) (dif-same _ _ _ _ (omega arith)))

-- 1 at the key y
abbrev pub at_key : Key → Key → ℤ
at_key y x = cond (key_eq x y) (pos 1) (pos 0)

times-cond : (b : Bool) (c : ℤ) → c *ℤ cond b (pos 1) (pos 0) ≡ cond b c (pos 0)
times-cond true c = omega (arith, ints)
times-cond false c = omega (arith, ints)

pub pairing-at : (y : Key) (f : Sum) → pairing (at_key y) f ≡ coef f y
pairing-at y [] = refl
pairing-at y (t ∷ f) = plus-same (t.1 *ℤ at_key y t.0) (pairing (at_key y) f) (cond (key_eq t.0 y) t.1 (pos 0)) (coef f y) (times-cond (key_eq t.0 y) t.1) (pairing-at y f)

-- ---- products read as pairings
pub coef-mul : (k : ℕ) (f g : Sum) (y : Key) → coef (mul k f g) y ≡ pairing (λ x. coef (moved k x (pos 1) g) y) f
coef-mul k [] g y = refl
coef-mul k (t ∷ f) g y =
    coef-append (moved k t.0 t.1 g) (mul k f g) y
    ∙ plus-same (coef (moved k t.0 t.1 g) y) (coef (mul k f g) y) (t.1 *ℤ coef (moved k t.0 (pos 1) g) y) (pairing (λ x. coef (moved k x (pos 1) g) y) f) (moved-scale k t.0 y t.1 g) (coef-mul k f g y)

pub moved-same : (k : ℕ) (x y : Key) (g h : Sum) → Same g h → coef (moved k x (pos 1) g) y ≡ coef (moved k x (pos 1) h) y
moved-same k x y g h s =
    moved-pairing k x y g ∙ agree (shift k x y) (shift k x y) (length g) g h (omega arith) (λ u. ap (λ c. c *ℤ shift k x y u) (s u)) ∙ sym (moved-pairing k x y h)

pub mul-same : (k : ℕ) (f f' g g' : Sum) → Same f f' → Same g g' → Same (mul k f g) (mul k f' g')
mul-same k f f' g g' s r y =
    coef-mul k f g y
    ∙ agree (λ x. coef (moved k x (pos 1) g) y) (λ x. coef (moved k x (pos 1) g') y) (length f) f f' (omega arith) (λ x. times-same (coef f x) (coef (moved k x (pos 1) g) y) (coef f' x) (coef (moved k x (pos 1) g') y) (s x) (moved-same k x y g g' r))
    ∙ sym (coef-mul k f' g' y)
