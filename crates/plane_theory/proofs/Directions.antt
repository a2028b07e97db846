-- Whole numbers: cancelling, directions and what they are multiples of.
use Rattle.std.proofs.Common.{◌≡◌, ◌≢◌, ℕ, zero, suc, refl, subst, sym, ◌∙◌, ap, ◌≤◌, ◌*◌, ◌/◌, ◌%◌, arith, [], ◌∷◌, inl, inr, ◌⊎◌}
use Rattle.std.specs.Prelude.{ℤ, pos, negsuc, ◌*ℤ◌, ◌+ℤ◌, ◌-ℤ◌, neg_ℤ, ◌≤ℤ◌, nat_abs}
use Rattle.std.specs.Int.{◌∣◌, IsGcd}
use Rattle.std.proofs.lemmas.Int.{ints}
use Rattle.std.proofs.lemmas.Nat.Gcd.{same_from_IsGcd, dvd_refl, mod-eq-zero_of_dvd, dvd_of_mod-eq-zero}
use Rattle.std.proofs.Math.Nat.{eq-zero_of_zero-dvd}
use lib.IntN.{*ℤ-zero, pos-*ℤ-pos, negsuc-*ℤ-pos, pos-*ℤ-negsuc}
use Rattle.sum_algebra.proofs.Ring.{var, plus, times, minus, nought, ring}
use Rattle.sum_algebra.proofs.Ring as E
use Rattle.sum_algebra.proofs.IntegerRing.{ints_ring, ◌:+◌, ◌:*◌, ◌:-◌, X, Y, Z}
use Rattle.scattering.specs.Series.{Exp, scale, origin, det}
use Rattle.scattering.specs.Plane.{IsDirection}
use Rattle.scattering.proofs.Bezout.{Bezout, bezout}
use Rattle.plane_theory.proofs.LowestTerms.{abs-sign}

nat_product : (m n : ℕ) → suc m * suc n ≡ 0 → ⊥
nat_product m n e = omega (arith, e)

no-zero : (x y : ℤ) → x *ℤ y ≡ pos 0 → (x ≡ pos 0) ⊎ (y ≡ pos 0)
no-zero (pos zero) y e = inl refl
no-zero (pos (suc m)) (pos zero) e = inr refl
no-zero (pos (suc m)) (pos (suc n)) e = let k : suc m * suc n ≡ 0 = omega (arith, ints, pos-*ℤ-pos (suc m) (suc n), e) in absurd (nat_product m n k)
no-zero (pos (suc m)) (negsuc n) e = let k : suc m * suc n ≡ 0 = omega (arith, ints, pos-*ℤ-negsuc (suc m) n, e) in absurd (nat_product m n k)
no-zero (negsuc m) (pos zero) e = inr refl
no-zero (negsuc m) (pos (suc n)) e = let k : suc m * suc n ≡ 0 = omega (arith, ints, negsuc-*ℤ-pos m (suc n), e) in absurd (nat_product m n k)
no-zero (negsuc m) (negsuc n) e =
    let f : negsuc m *ℤ pos (suc n) ≡ pos 0 = ring ints_ring (negsuc m ∷ pos (suc n) ∷ []) (X :* Y) (minus (X :* minus Y)) refl ∙ ap neg_ℤ e in
    let k : suc m * suc n ≡ 0 = omega (arith, ints, negsuc-*ℤ-pos m (suc n), f) in absurd (nat_product m n k)

pub from-difference : (x y : ℤ) → x -ℤ y ≡ pos 0 → x ≡ y
from-difference x y e = omega (arith, ints, e)

pub cancel : (j x y : ℤ) → j ≢ pos 0 → j *ℤ x ≡ j *ℤ y → x ≡ y
cancel j x y n e =
    elim (no-zero j (x -ℤ y) (ring ints_ring (j ∷ x ∷ y ∷ []) (X :* (Y :- Z)) (X :* Y :- X :* Z) refl ∙ rw e (ring ints_ring ((j *ℤ y) ∷ []) (X :- X) nought refl))) [
      | inl z ↦ absurd (n z)
      | inr z ↦ from-difference x y z
    ]

pub positive-not : (j : ℤ) → pos 1 ≤ℤ j → j ≢ pos 0
positive-not j le e = let l : pos 1 ≤ℤ pos 0 = subst (λ (x : ℤ). pos 1 ≤ℤ x) e le in omega (arith, ints, l)

pub zero-factor : (j x : ℤ) → j ≢ pos 0 → j *ℤ x ≡ pos 0 → x ≡ pos 0
zero-factor j x n e = elim (no-zero j x e) [ inl z ↦ absurd (n z) | inr z ↦ z ]

-- ---- directions

-- a combination that is 1
pub combination : (d : Exp) → IsDirection d → (u v : ℤ) × (u *ℤ d.a +ℤ v *ℤ d.b ≡ pos 1)
combination d h =
    let b = bezout (nat_abs d.a) (nat_abs d.b) in
    let s = abs-sign d.a in
    let t = abs-sign d.b in
    let g : b.g ≡ 1 = same_from_IsGcd (nat_abs d.a) (nat_abs d.b) b.g 1 b.gcd h in (
      b.u *ℤ s.0,
      b.v *ℤ t.0,
      ring ints_ring (b.u ∷ b.v ∷ s.0 ∷ t.0 ∷ d.a ∷ d.b ∷ []) (X :* Z :* var 4 :+ Y :* var 3 :* var 5) (X :* (Z :* var 4) :+ Y :* (var 3 :* var 5)) refl
          ∙ rw (← s.1, ← t.1) (b.is ∙ ap pos g),
    )

le-multiple : (j a g : ℤ) → pos 1 ≤ℤ j → pos 1 ≤ℤ g → j *ℤ a ≡ g → j ≤ℤ g
le-multiple (negsuc j) a g p q e = absurd (omega (arith, ints, p))
le-multiple (pos j) (pos zero) g p q e = let z = *ℤ-zero (pos j) in absurd (omega (arith, ints, q, e, z))
le-multiple (pos j) (pos (suc n)) g p q e = let z = pos-*ℤ-pos j (suc n) in let k : j ≤ j * suc n = omega arith in omega (arith, ints, e, z, k)
le-multiple (pos j) (negsuc n) g p q e = let z = pos-*ℤ-negsuc j n in absurd (omega (arith, ints, q, e, z))

antisym : (x y : ℤ) → x ≤ℤ y → y ≤ℤ x → x ≡ y
antisym x y p q = omega (arith, ints, p, q)

multiple-of : (d e : Exp) (h : IsDirection d) (j g : ℤ) → scale j d ≡ scale g e → (a : ℤ) × (g *ℤ a ≡ j)
multiple-of d e h j g q =
    let c = combination d h in
    let x : j *ℤ d.a ≡ g *ℤ e.a = ap (λ (m : Exp). m.a) q in
    let y : j *ℤ d.b ≡ g *ℤ e.b = ap (λ (m : Exp). m.b) q in (
      c.0 *ℤ e.a +ℤ c.1 *ℤ e.b,
      ring ints_ring (g ∷ c.0 ∷ c.1 ∷ e.a ∷ e.b ∷ []) (X :* (Y :* var 3 :+ Z :* var 4)) (Y :* (X :* var 3) :+ Z :* (X :* var 4)) refl
          ∙ rw (← x, ← y) (ring ints_ring (j ∷ c.0 ∷ c.1 ∷ d.a ∷ d.b ∷ []) (Y :* (X :* var 3) :+ Z :* (X :* var 4)) (X :* (Y :* var 3 :+ Z :* var 4)) refl
          ∙ ap (λ n. j *ℤ n) c.2 ∙ ring ints_ring (j ∷ []) (X :* E.unit) X refl),
    )

-- positive multiples of different directions are different
pub same-direction : (d e : Exp) → IsDirection d → IsDirection e → (j g : ℤ) → pos 1 ≤ℤ j → pos 1 ≤ℤ g → scale j d ≡ scale g e → d ≡ e
same-direction d e h i j g p q s =
    let a = multiple-of d e h j g s in
    let b = multiple-of e d i g j (sym s) in
    let same : j ≡ g = antisym j g (le-multiple j b.0 g p q b.1) (le-multiple g a.0 j q p a.1) in
    let x : d.a ≡ e.a = cancel j d.a e.a (positive-not j p) (ap (λ (m : Exp). m.a) s ∙ ap (λ n. n *ℤ e.a) (sym same)) in
    let y : d.b ≡ e.b = cancel j d.b e.b (positive-not j p) (ap (λ (m : Exp). m.b) s ∙ ap (λ n. n *ℤ e.b) (sym same)) in
    λ i. record { a = x i; b = y i }

-- a number that a direction's two determinants kill is 0
pub direction-zero : (d : Exp) → IsDirection d → (c : ℤ) → d.a *ℤ c ≡ pos 0 → d.b *ℤ c ≡ pos 0 → c ≡ pos 0
direction-zero d h c p q =
    let k = combination d h in
    ring ints_ring (c ∷ []) X (E.unit :* X) refl ∙ ap (λ n. n *ℤ c) (sym k.2)
    ∙ ring ints_ring (k.0 ∷ k.1 ∷ d.a ∷ d.b ∷ c ∷ []) ((X :* Z :+ Y :* var 3) :* var 4) (X :* (Z :* var 4) :+ Y :* (var 3 :* var 4)) refl
    ∙ rw (p, q) (ring ints_ring (k.0 ∷ k.1 ∷ []) (X :* nought :+ Y :* nought) nought refl)

-- ---- an exponent as a multiple of a direction

pub record Multiple (e : Exp) : Type 0 where
  pub g : ℕ
  pub dir : Exp
  pub gcd : IsGcd (nat_abs e.a) (nat_abs e.b) g
  pub direction : IsDirection dir
  pub positive : pos 1 ≤ℤ pos g
  pub is : e ≡ scale (pos g) dir

abs-parts : (a : ℤ) → (s : ℤ) × (pos (nat_abs a) ≡ s *ℤ a) × (a ≡ s *ℤ pos (nat_abs a))
abs-parts (pos n) = (pos 1, ring ints_ring (pos n ∷ []) X (E.unit :* X) refl, ring ints_ring (pos n ∷ []) X (E.unit :* X) refl)
abs-parts (negsuc n) = (negsuc 0, ring ints_ring (pos (suc n) ∷ []) X (minus E.unit :* minus X) refl, ring ints_ring (pos (suc n) ∷ []) (minus X) (minus E.unit :* X) refl)

quotient : (g n : ℕ) → 1 ≤ g → n % g ≡ 0 → pos n ≡ pos g *ℤ pos (n / g)
quotient zero n p e = absurd (omega (arith, p))
quotient (suc g) n p e = let h : n ≡ suc g * (n / suc g) = omega (arith, e) in ap pos h ∙ sym (pos-*ℤ-pos (suc g) (n / suc g))

abs-zero : (a : ℤ) → nat_abs a ≡ 0 → a ≡ pos 0
abs-zero (pos n) e = ap pos e
abs-zero (negsuc n) e = absurd (omega (arith, e))

at-zero : (x y u v : ℤ) → u *ℤ x +ℤ v *ℤ y ≡ pos 1 → x ≡ pos 0 → y ≡ pos 0 → ⊥
at-zero x y u v e a b =
    let f : u *ℤ pos 0 +ℤ v *ℤ pos 0 ≡ pos 1 = sym (ap (λ (x : ℤ). u *ℤ x +ℤ v *ℤ y) a ∙ ap (λ (y : ℤ). u *ℤ pos 0 +ℤ v *ℤ y) b) ∙ e in
    let g : u *ℤ pos 0 +ℤ v *ℤ pos 0 ≡ pos 0 = ring ints_ring (u ∷ v ∷ []) (X :* nought :+ Y :* nought) nought refl in
    let h : pos 1 ≡ pos 0 = sym f ∙ g in omega (arith, ints, h)

at-most-one : (d : ℕ) → pos (suc d) ≤ℤ pos 1 → suc d ≡ 1
at-most-one d h = omega (arith, ints, h)

above-zero : (d : ℕ) → pos 1 ≤ℤ pos (suc d)
above-zero d = omega (arith, ints)

-- a divisor of both numbers of a combination that is 1
divisor-one : (x y u v : ℤ) → u *ℤ x +ℤ v *ℤ y ≡ pos 1 → (d : ℕ) → d ∣ nat_abs x → d ∣ nat_abs y → d ∣ 1
divisor-one x y u v e zero p q = absurd (at-zero x y u v e (abs-zero x (eq-zero_of_zero-dvd p)) (abs-zero y (eq-zero_of_zero-dvd q)))
divisor-one x y u v e (suc d) p q =
    let s = abs-parts x in
    let t = abs-parts y in
    let a : x ≡ s.0 *ℤ (pos (suc d) *ℤ pos (nat_abs x / suc d)) = s.2 ∙ ap (λ (n : ℤ). s.0 *ℤ n) (quotient (suc d) (nat_abs x) (omega arith) (mod-eq-zero_of_dvd (suc d) p)) in
    let b : y ≡ t.0 *ℤ (pos (suc d) *ℤ pos (nat_abs y / suc d)) = t.2 ∙ ap (λ (n : ℤ). t.0 *ℤ n) (quotient (suc d) (nat_abs y) (omega arith) (mod-eq-zero_of_dvd (suc d) q)) in
    let m : pos (suc d) *ℤ (u *ℤ (s.0 *ℤ pos (nat_abs x / suc d)) +ℤ v *ℤ (t.0 *ℤ pos (nat_abs y / suc d))) ≡ pos 1 =
    ring ints_ring (pos (suc d) ∷ u ∷ v ∷ s.0 ∷ t.0 ∷ pos (nat_abs x / suc d) ∷ pos (nat_abs y / suc d) ∷ [])
    (X :* (Y :* (var 3 :* var 5) :+ Z :* (var 4 :* var 6))) (Y :* (var 3 :* (X :* var 5)) :+ Z :* (var 4 :* (X :* var 6))) refl
    ∙ sym (ap (λ (x : ℤ). u *ℤ x +ℤ v *ℤ (t.0 *ℤ (pos (suc d) *ℤ pos (nat_abs y / suc d)))) a) ∙ sym (ap (λ (y : ℤ). u *ℤ x +ℤ v *ℤ y) b) ∙ e in
    let one : suc d ≡ 1 = at-most-one d (le-multiple (pos (suc d)) _ (pos 1) (above-zero d) (above-zero 0) m) in
    subst (λ n. n ∣ 1) (sym one) (dvd_refl 1)

one-divides : (n : ℕ) → 1 ∣ n
one-divides n = dvd_of_mod-eq-zero 1 (omega arith)

gcd-above : (e : Exp) → e ≢ origin → (g : ℕ) → IsGcd (nat_abs e.a) (nat_abs e.b) g → 1 ≤ g
gcd-above e n (suc g) h = omega arith
gcd-above e n zero h =
    let a = abs-zero e.a (eq-zero_of_zero-dvd h.0) in
    let b = abs-zero e.b (eq-zero_of_zero-dvd h.1) in
    absurd (n (λ i. record { a = a i; b = b i }))

pub as_multiple : (e : Exp) → e ≢ origin → Multiple e
as_multiple e n = go (bezout (nat_abs e.a) (nat_abs e.b)) (abs-parts e.a) (abs-parts e.b)
  where
    above : (g : ℕ) → 1 ≤ g → pos 1 ≤ℤ pos g
    above g h = omega (arith, ints, h)

    go : Bezout (nat_abs e.a) (nat_abs e.b) → (s : ℤ) × (pos (nat_abs e.a) ≡ s *ℤ e.a) × (e.a ≡ s *ℤ pos (nat_abs e.a)) → (t : ℤ) × (pos (nat_abs e.b) ≡ t *ℤ e.b) × (e.b ≡ t *ℤ pos (nat_abs e.b)) → Multiple e
    go b s t =
        let le : 1 ≤ b.g = gcd-above e n b.g b.gcd in
        let x : e.a ≡ pos b.g *ℤ (s.0 *ℤ pos (nat_abs e.a / b.g)) = s.2 ∙ ap (λ (n : ℤ). s.0 *ℤ n) (quotient b.g (nat_abs e.a) le (mod-eq-zero_of_dvd b.g b.gcd.0)) ∙ ring ints_ring (s.0 ∷ pos b.g ∷ pos (nat_abs e.a / b.g) ∷ []) (X :* (Y :* Z)) (Y :* (X :* Z)) refl in
        let y : e.b ≡ pos b.g *ℤ (t.0 *ℤ pos (nat_abs e.b / b.g)) = t.2 ∙ ap (λ (n : ℤ). t.0 *ℤ n) (quotient b.g (nat_abs e.b) le (mod-eq-zero_of_dvd b.g b.gcd.1)) ∙ ring ints_ring (t.0 ∷ pos b.g ∷ pos (nat_abs e.b / b.g) ∷ []) (X :* (Y :* Z)) (Y :* (X :* Z)) refl in
        let one : (b.u *ℤ s.0) *ℤ (s.0 *ℤ pos (nat_abs e.a / b.g)) +ℤ (b.v *ℤ t.0) *ℤ (t.0 *ℤ pos (nat_abs e.b / b.g)) ≡ pos 1 =
        cancel (pos b.g) _ (pos 1) (positive-not (pos b.g) (above b.g le))
        (ring ints_ring (pos b.g ∷ b.u ∷ b.v ∷ s.0 ∷ t.0 ∷ pos (nat_abs e.a / b.g) ∷ pos (nat_abs e.b / b.g) ∷ [])
        (X :* ((Y :* var 3) :* (var 3 :* var 5) :+ (Z :* var 4) :* (var 4 :* var 6))) (Y :* (var 3 :* (X :* (var 3 :* var 5))) :+ Z :* (var 4 :* (X :* (var 4 :* var 6)))) refl
        ∙ rw (← x, ← y, ← s.1, ← t.1) (b.is ∙ ring ints_ring (pos b.g ∷ []) X (X :* E.unit) refl)) in
        record {
          g = b.g;
          dir = record { a = s.0 *ℤ pos (nat_abs e.a / b.g); b = t.0 *ℤ pos (nat_abs e.b / b.g) };
          gcd = b.gcd;
          positive = above b.g le;
          direction = (one-divides _, one-divides _, λ d p q. divisor-one (s.0 *ℤ pos (nat_abs e.a / b.g)) (t.0 *ℤ pos (nat_abs e.b / b.g)) (b.u *ℤ s.0) (b.v *ℤ t.0) one d p q);
          is = λ i. record { a = x i; b = y i };
        }

pub det-scale : (g : ℤ) (d m : Exp) → det (scale g d) m ≡ g *ℤ det d m
det-scale g d m = ring ints_ring (g ∷ d.a ∷ d.b ∷ m.a ∷ m.b ∷ []) ((X :* Y) :* var 4 :- (X :* Z) :* var 3) (X :* (Y :* var 4 :- Z :* var 3)) refl

pub direction-not_origin : (d : Exp) → IsDirection d → d ≢ origin
direction-not_origin d h e =
    let c = combination d h in
    let q : c.0 *ℤ pos 0 +ℤ c.1 *ℤ pos 0 ≡ pos 1 = subst (λ (x : Exp). c.0 *ℤ x.a +ℤ c.1 *ℤ x.b ≡ pos 1) e c.2 in
    let r : c.0 *ℤ pos 0 +ℤ c.1 *ℤ pos 0 ≡ pos 0 = ring ints_ring (c.0 ∷ c.1 ∷ []) (X :* nought :+ Y :* nought) nought refl in
    let s : pos 1 ≡ pos 0 = sym q ∙ r in absurd (omega (arith, ints, s))

pub scale-not_origin : (s : ℤ) (d : Exp) → s ≢ pos 0 → d ≢ origin → scale s d ≢ origin
scale-not_origin s d n h e =
    let a : d.a ≡ pos 0 = zero-factor s d.a n (ap (λ (x : Exp). x.a) e) in
    let b : d.b ≡ pos 0 = zero-factor s d.b n (ap (λ (x : Exp). x.b) e) in
    h (λ i. record { a = a i; b = b i })
