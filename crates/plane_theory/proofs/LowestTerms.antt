-- A rational point has one triple in lowest terms.
use Rattle.std.proofs.Common.{◌≡◌, ◌≢◌, sym, ap, ◌∙◌, ◌⊎◌, inl, inr, arith}
use Rattle.std.specs.Prelude.{ℤ, pos, negsuc, ◌+ℤ◌, ◌-ℤ◌, ◌*ℤ◌, neg_ℤ, ◌≤ℤ◌, nat_abs}
use Rattle.std.proofs.lemmas.Int.{ints}
use Rattle.std.proofs.lemmas.Nat.Gcd.{dvd_trans}
use Rattle.scattering.proofs.Ring.{dif-up, dif-pos, dif-add, dif-neg, dif-mul, dif-same}
use Rattle.scattering.proofs.Bezout.{bezout}
use Rattle.scattering.specs.Series.{Exp, origin, det, dot}
use Rattle.scattering.specs.Plane.{Point, IsPoint, difference, FromOn, Beyond}
use Rattle.plane_theory.proofs.WholeNumbers.{cancel, dif-below, zero_of, positive_of, not_negative, follows, follows2, follows3, sign}
use Rattle.plane_theory.proofs.Points.{from-test, test-beyond, norm-positive}

pub abs-sign : (x : ℤ) → (s : ℤ) × (pos (nat_abs x) ≡ s *ℤ x)
abs-sign (pos n) = (pos 1, omega (arith, ints))
abs-sign (negsuc n) = (negsuc 0, omega (arith, ints))

combine : (x y w x' y' w' s s' s'' u v g u' v' : ℤ) → x' ≡ s *ℤ x → y' ≡ s' *ℤ y → w' ≡ s'' *ℤ w → u *ℤ x' +ℤ v *ℤ y' ≡ g → u' *ℤ g +ℤ v' *ℤ w' ≡ pos 1
    → (u' *ℤ (u *ℤ s)) *ℤ x +ℤ (u' *ℤ (v *ℤ s')) *ℤ y +ℤ (v' *ℤ s'') *ℤ w ≡ pos 1
combine x y w x' y' w' s s' s'' u v g u' v' a b c d e =
    rw (dif-up x, dif-up y, dif-up w, dif-up s, dif-up s', dif-up s'', dif-up u, dif-up v, dif-up u', dif-up v') (simp (dif-mul, dif-add, dif-neg, dif-pos) (dif-same _ _ _ _ (omega arith)))
    ∙ ap (λ z. u' *ℤ (u *ℤ z +ℤ v *ℤ (s' *ℤ y)) +ℤ v' *ℤ (s'' *ℤ w)) (sym a)
    ∙ ap (λ z. u' *ℤ (u *ℤ x' +ℤ v *ℤ z) +ℤ v' *ℤ (s'' *ℤ w)) (sym b)
    ∙ ap (λ z. u' *ℤ (u *ℤ x' +ℤ v *ℤ y') +ℤ v' *ℤ z) (sym c)
    ∙ ap (λ z. u' *ℤ z +ℤ v' *ℤ w') d ∙ e

-- 1 is a whole combination of the three numbers
pub record Combination (p : Point) : Type 0 where
  pub u : ℤ
  pub v : ℤ
  pub t : ℤ
  pub is : u *ℤ p.x +ℤ v *ℤ p.y +ℤ t *ℤ p.w ≡ pos 1

pub combination : (p : Point) → IsPoint p → Combination p
combination p h =
    let a = bezout (nat_abs p.x) (nat_abs p.y) in
    let b = bezout a.g (nat_abs p.w) in
    let one : b.g ≡ 1 = h.lowest b.g (dvd_trans b.g b.gcd.0 a.gcd.0) (dvd_trans b.g b.gcd.0 a.gcd.1) b.gcd.1 in
    let x = abs-sign p.x in let y = abs-sign p.y in let w = abs-sign p.w in
    record { u = b.u *ℤ (a.u *ℤ x.0); v = b.u *ℤ (a.v *ℤ y.0); t = b.v *ℤ w.0; is = combine p.x p.y p.w _ _ _ x.0 y.0 w.0 a.u a.v _ b.u b.v x.1 y.1 w.1 a.is (b.is ∙ ap pos one) }

multiple : (px py pw qx qy qw u v t : ℤ) → px *ℤ qw ≡ qx *ℤ pw → py *ℤ qw ≡ qy *ℤ pw → u *ℤ px +ℤ v *ℤ py +ℤ t *ℤ pw ≡ pos 1 → qw ≡ pw *ℤ (u *ℤ qx +ℤ v *ℤ qy +ℤ t *ℤ qw)
multiple px py pw qx qy qw u v t a b c =
    follows3 qw (pw *ℤ (u *ℤ qx +ℤ v *ℤ qy +ℤ t *ℤ qw)) (neg_ℤ qw) (u *ℤ px +ℤ v *ℤ py +ℤ t *ℤ pw) (pos 1) u (px *ℤ qw) (qx *ℤ pw) v (py *ℤ qw) (qy *ℤ pw) c a b
    (rw (dif-up px, dif-up py, dif-up pw, dif-up qx, dif-up qy, dif-up qw, dif-up u, dif-up v, dif-up t) (simp (dif-mul, dif-add, dif-neg, dif-pos, dif-below) (dif-same _ _ _ _ (omega arith))))

pub at_least : (a b k : ℤ) → pos 1 ≤ℤ a → pos 1 ≤ℤ b → b ≡ a *ℤ k → a ≤ℤ b
at_least a b k u v e =
    let l : pos 1 ≤ℤ k = positive_of a k u (let z : pos 1 ≤ℤ (a *ℤ k) = omega (arith, ints, v, e) in z) in
    let m : pos 0 ≤ℤ (a *ℤ (k -ℤ pos 1)) = not_negative a (k -ℤ pos 1) (omega (arith, ints, u)) (omega (arith, ints, l)) in
    let s = split a k in omega (arith, ints, m, s, e)
  where
    split : (a k : ℤ) → a *ℤ (k -ℤ pos 1) ≡ a *ℤ k -ℤ a
    split a k = rw (dif-up a, dif-up k) (simp (dif-mul, dif-add, dif-neg, dif-pos, dif-below) (dif-same _ _ _ _ (omega arith)))

one-weight : (p q : Point) → IsPoint p → IsPoint q → p.x *ℤ q.w ≡ q.x *ℤ p.w → p.y *ℤ q.w ≡ q.y *ℤ p.w → p.w ≡ q.w
one-weight p q h k a b =
    let c = combination p h in let d = combination q k in
    let l = at_least p.w q.w _ h.below k.below (multiple p.x p.y p.w q.x q.y q.w c.u c.v c.t a b c.is) in
    let m = at_least q.w p.w _ k.below h.below (multiple q.x q.y q.w p.x p.y p.w d.u d.v d.t (sym a) (sym b) d.is) in
    omega (arith, ints, l, m)

scaled : (w x y : ℤ) → pos 1 ≤ℤ w → x *ℤ w ≡ y *ℤ w → x ≡ y
scaled w x y h e = cancel w x y h (follows (w *ℤ x) (w *ℤ y) (pos 1) (x *ℤ w) (y *ℤ w) e (rw (dif-up w, dif-up x, dif-up y) (simp (dif-mul, dif-add, dif-neg, dif-pos) (dif-same _ _ _ _ (omega arith)))))

-- two triples in lowest terms of one rational point are equal
pub same-point : (p q : Point) → IsPoint p → IsPoint q → p.x *ℤ q.w ≡ q.x *ℤ p.w → p.y *ℤ q.w ≡ q.y *ℤ p.w → p ≡ q
same-point p q h k a b =
    let w = one-weight p q h k a b in
    let x = scaled p.w p.x q.x h.below (rw (← w) at a) in
    let y = scaled p.w p.y q.y h.below (rw (← w) at b) in
    λ i. record { x = x i; y = y i; w = w i }

pub no-difference : (p q : Point) → IsPoint p → IsPoint q → (difference p q).a ≡ pos 0 → (difference p q).b ≡ pos 0 → p ≡ q
no-difference p q h k a b = same-point p q h k (omega (arith, ints, a)) (omega (arith, ints, b))

-- where both products with e are 0
flat : (a b u v : ℤ) → a *ℤ v -ℤ b *ℤ u ≡ pos 0 → a *ℤ u +ℤ b *ℤ v ≡ pos 0 → (a *ℤ a +ℤ b *ℤ b) *ℤ u ≡ pos 0
flat a b u v h k = follows2 ((a *ℤ a +ℤ b *ℤ b) *ℤ u) (pos 0) (neg_ℤ b) (a *ℤ v -ℤ b *ℤ u) (pos 0) a (a *ℤ u +ℤ b *ℤ v) (pos 0) h k (rw (dif-up a, dif-up b, dif-up u, dif-up v) (simp (dif-mul, dif-add, dif-neg, dif-pos) (dif-same _ _ _ _ (omega arith))))

flat' : (a b u v : ℤ) → a *ℤ v -ℤ b *ℤ u ≡ pos 0 → a *ℤ u +ℤ b *ℤ v ≡ pos 0 → (a *ℤ a +ℤ b *ℤ b) *ℤ v ≡ pos 0
flat' a b u v h k = follows2 ((a *ℤ a +ℤ b *ℤ b) *ℤ v) (pos 0) a (a *ℤ v -ℤ b *ℤ u) (pos 0) b (a *ℤ u +ℤ b *ℤ v) (pos 0) h k (rw (dif-up a, dif-up b, dif-up u, dif-up v) (simp (dif-mul, dif-add, dif-neg, dif-pos) (dif-same _ _ _ _ (omega arith))))

pub is-itself : (p q : Point) (e : Exp) → IsPoint p → IsPoint q → pos 1 ≤ℤ (e.a *ℤ e.a +ℤ e.b *ℤ e.b) → det e (difference p q) ≡ pos 0 → dot e (difference p q) ≡ pos 0 → p ≡ q
is-itself p q e h k l d t =
    no-difference p q h k
    (zero_of _ _ l (flat e.a e.b (difference p q).a (difference p q).b d t))
    (zero_of _ _ l (flat' e.a e.b (difference p q).a (difference p q).b d t))

-- what lies from p on is p, or lies beyond p
pub from-splits : (p : Point) (e : Exp) (q : Point) → IsPoint p → IsPoint q → e ≢ origin → FromOn p e q → (p ≡ q) ⊎ Beyond p e q
from-splits p e q h k n f =
    let t = from-test p e q h.below k.below f in go t.0 t.1 (sign (dot e (difference p q)))
  where
    go : det e (difference p q) ≡ pos 0 → pos 0 ≤ℤ dot e (difference p q) → (dot e (difference p q) ≡ pos 0) ⊎ ((pos 1 ≤ℤ dot e (difference p q)) ⊎ (pos 1 ≤ℤ neg_ℤ (dot e (difference p q)))) → (p ≡ q) ⊎ Beyond p e q
    go d l (inl z) = inl (is-itself p q e h k (norm-positive e n) d z)
    go d l (inr (inl m)) = inr (test-beyond p e q h.below k.below n d m)
    go d l (inr (inr m)) = absurd (omega (arith, ints, l, m))
