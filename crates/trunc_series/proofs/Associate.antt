-- Products without terms of high degree are associative, and powers add up.
use Rattle.std.proofs.Common.{◌≡◌, ℕ, ◌<◌, refl, sym, ap, ◌∙◌, Bool, true, false, cond, [], ◌∷◌, arith, add_assoc}
use Rattle.std.specs.Prelude.{ℤ, pos, ◌+ℤ◌, ◌*ℤ◌, nat_le}
use mathlib.Core.Path.{fun_ext}
use lib.IntN.{+ℤ_assoc}
use Rattle.sum_algebra.proofs.Ring.{ring, nought, unit as one_of}
use Rattle.sum_algebra.proofs.IntegerRing.{ints_ring, ◌:+◌, ◌:*◌, X, Y, Z, W}
use Rattle.scattering.specs.Series.{Key, Term, Sum, Same, degree, key_eq, key_mul, term_mul, coef, cut, mul}
use Rattle.scattering.proofs.Pairing.{pairing, pairing-append}
use Rattle.scattering.proofs.ShiftedSums.{degree-mul}
use Rattle.trunc_series.proofs.Rows.{row_sum}

-- a reading without keys of degree above n
abbrev capped : ℕ → (Key → ℤ) → Key → ℤ
capped n φ x = cond (nat_le (degree x) n) (φ x) (pos 0)

pairing-row : (n : ℕ) (φ : Key → ℤ) (t : Term) (g : Sum) → pairing φ (cut n (row_sum t g)) ≡ t.1 *ℤ pairing (λ y. capped n φ (key_mul t.0 y)) g
pairing-row n φ t [] = ring ints_ring (t.1 ∷ []) nought (X :* nought) refl
pairing-row n φ t (u ∷ g) = go (nat_le (degree (key_mul t.0 u.0)) n) (pairing-row n φ t g)
  where
    go : (b : Bool) → pairing φ (cut n (row_sum t g)) ≡ t.1 *ℤ pairing (λ y. capped n φ (key_mul t.0 y)) g
        → pairing φ (cond b (term_mul t u ∷ cut n (row_sum t g)) (cut n (row_sum t g))) ≡ t.1 *ℤ (u.1 *ℤ cond b (φ (key_mul t.0 u.0)) (pos 0) +ℤ pairing (λ y. capped n φ (key_mul t.0 y)) g)
    go true e = rw e (ring ints_ring (t.1 ∷ u.1 ∷ φ (key_mul t.0 u.0) ∷ pairing (λ y. capped n φ (key_mul t.0 y)) g ∷ []) ((X :* Y) :* Z :+ X :* W) (X :* (Y :* Z :+ W)) refl)
    go false e = rw e (ring ints_ring (t.1 ∷ u.1 ∷ pairing (λ y. capped n φ (key_mul t.0 y)) g ∷ []) (X :* Z) (X :* (Y :* nought :+ Z)) refl)

pairing-mul : (n : ℕ) (φ : Key → ℤ) (f g : Sum) → pairing φ (mul n f g) ≡ pairing (λ x. pairing (λ y. capped n φ (key_mul x y)) g) f
pairing-mul n φ [] g = refl
pairing-mul n φ (t ∷ f) g = pairing-append φ (cut n (row_sum t g)) (mul n f g) ∙ rw (pairing-row n φ t g, pairing-mul n φ f g) refl

pairing-ext : (φ ψ : Key → ℤ) (f : Sum) → ((x : Key) → φ x ≡ ψ x) → pairing φ f ≡ pairing ψ f
pairing-ext φ ψ f h = ap (λ (χ : Key → ℤ). pairing χ f) (fun_ext h)

pairing-nought : (φ : Key → ℤ) (f : Sum) → ((x : Key) → φ x ≡ pos 0) → pairing φ f ≡ pos 0
pairing-nought φ [] h = refl
pairing-nought φ (t ∷ f) h = rw (h t.0, pairing-nought φ f h) (ring ints_ring (t.1 ∷ []) (X :* nought :+ nought) nought refl)

indicator : Key → Key → ℤ
indicator k x = cond (key_eq x k) (pos 1) (pos 0)

coef-pairing : (f : Sum) (k : Key) → coef f k ≡ pairing (indicator k) f
unfolding indicator
coef-pairing [] k = refl
coef-pairing (t ∷ f) k = rw (coef-pairing f k) (go (key_eq t.0 k))
  where
    go : (b : Bool) → cond b t.1 (pos 0) +ℤ pairing (indicator k) f ≡ t.1 *ℤ cond b (pos 1) (pos 0) +ℤ pairing (indicator k) f
    go true = ring ints_ring (t.1 ∷ pairing (indicator k) f ∷ []) (X :+ Y) (X :* one_of :+ Y) refl
    go false = ring ints_ring (t.1 ∷ pairing (indicator k) f ∷ []) (nought :+ Y) (X :* nought :+ Y) refl

key_mul-assoc : (k l m : Key) → key_mul (key_mul k l) m ≡ key_mul k (key_mul l m)
key_mul-assoc k l m = λ i. record {
  powers = record { t1 = add_assoc k.powers.t1 l.powers.t1 m.powers.t1 i; t2 = add_assoc k.powers.t2 l.powers.t2 m.powers.t2 i; t3 = add_assoc k.powers.t3 l.powers.t3 m.powers.t3 i; t4 = add_assoc k.powers.t4 l.powers.t4 m.powers.t4 i; t5 = add_assoc k.powers.t5 l.powers.t5 m.powers.t5 i; t6 = add_assoc k.powers.t6 l.powers.t6 m.powers.t6 i; t7 = add_assoc k.powers.t7 l.powers.t7 m.powers.t7 i; t8 = add_assoc k.powers.t8 l.powers.t8 m.powers.t8 i };
  exp = record { a = +ℤ_assoc k.exp.a l.exp.a m.exp.a i; b = +ℤ_assoc k.exp.b l.exp.b m.exp.b i };
}

module _ (n : ℕ) (φ : Key → ℤ) (x y : Key) where
  above : (w : Key) → n < degree w → capped n φ w ≡ pos 0
  above w h = let e : nat_le (degree w) n ≡ false = grind arith in rw e refl

  inner : (z : Key) → capped n (λ w. capped n φ (key_mul x w)) (key_mul y z) ≡ capped n φ (key_mul x (key_mul y z))
  inner z = go (nat_le (degree (key_mul y z)) n) refl
    where
      go : (b : Bool) → nat_le (degree (key_mul y z)) n ≡ b → cond b (capped n φ (key_mul x (key_mul y z))) (pos 0) ≡ capped n φ (key_mul x (key_mul y z))
      go true e = refl
      go false e = let h : n < degree (key_mul y z) = not-le (degree (key_mul y z)) e in sym (above (key_mul x (key_mul y z)) (omega (arith, degree-mul x (key_mul y z), h)))
        where
          not-le : (d : ℕ) → nat_le d n ≡ false → n < d
          not-le d q = grind arith

  outer : (h : Sum) → capped n (λ w. pairing (λ z. capped n φ (key_mul w z)) h) (key_mul x y) ≡ pairing (λ z. capped n φ (key_mul x (key_mul y z))) h
  outer h = go (nat_le (degree (key_mul x y)) n) refl ∙ pairing-ext _ _ h (λ z. ap (capped n φ) (key_mul-assoc x y z))
    where
      go : (b : Bool) → nat_le (degree (key_mul x y)) n ≡ b → cond b (pairing (λ z. capped n φ (key_mul (key_mul x y) z)) h) (pos 0) ≡ pairing (λ z. capped n φ (key_mul (key_mul x y) z)) h
      go true e = refl
      go false e = sym (pairing-nought _ h (λ z. above (key_mul (key_mul x y) z) (let l : n < degree (key_mul x y) = not-le (degree (key_mul x y)) e in omega (arith, degree-mul (key_mul x y) z, l))))
        where
          not-le : (d : ℕ) → nat_le d n ≡ false → n < d
          not-le d q = grind arith

pub mul-assoc : (n : ℕ) (f g h : Sum) → Same (mul n (mul n f g) h) (mul n f (mul n g h))
mul-assoc n f g h k =
    let φ : Key → ℤ = indicator k in
    coef-pairing (mul n (mul n f g) h) k
    ∙ pairing-mul n (indicator k) (mul n f g) h
    ∙ pairing-mul n (λ x. pairing (λ y. capped n (indicator k) (key_mul x y)) h) f g
    ∙ pairing-ext _ _ f (λ x. pairing-ext _ _ g (λ y. outer n (indicator k) x y h))
    ∙ sym (coef-pairing (mul n f (mul n g h)) k
    ∙ pairing-mul n (indicator k) f (mul n g h)
    ∙ pairing-ext _ _ f (λ x. pairing-mul n (λ w. capped n (indicator k) (key_mul x w)) g h ∙ pairing-ext _ _ g (λ y. pairing-ext _ _ h (λ z. inner n (indicator k) x y z))))
