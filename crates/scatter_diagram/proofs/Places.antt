-- The support of a ray is the half-line from its start against its direction.
use Rattle.std.proofs.Common.{◌≡◌, refl, sym, ap, subst, ◌∙◌, arith}
use Rattle.std.specs.Prelude.{ℤ, pos, neg_ℤ, ◌*ℤ◌, ◌+ℤ◌, ◌≤ℤ◌, int_le, IsTrue, ◌↔◌}
use Rattle.std.proofs.lemmas.Int.{ints}
use Rattle.sum_algebra.proofs.Ring.{minus, ring}
use Rattle.sum_algebra.proofs.IntegerRing.{ints_ring, ◌:*◌, X, Y}
use Rattle.std.specs.Prelude.{[], ◌∷◌}
use Rattle.scattering.specs.Series.{Exp}
use Rattle.scattering.specs.Plane.{Point, IsAt, FromOn}
use Rattle.scattering.specs.Wall.{WallKind, Outgoing, Wall, On, allows}
use Rattle.scatter_diagram.specs.Degrees.{opposite}

-- going by n along d is going by -n against it
at-back : (p : Point) (d : Exp) (n m : ℤ) (q : Point) → IsAt p d n m q → IsAt p (opposite d) (neg_ℤ n) m q
at-back p d n m q h = record { below = h.below; x = h.x ∙ ap (λ z. q.w *ℤ (p.x *ℤ m +ℤ z *ℤ p.w)) (turn n d.a); y = h.y ∙ ap (λ z. q.w *ℤ (p.y *ℤ m +ℤ z *ℤ p.w)) (turn n d.b) }
  where
    turn : (n a : ℤ) → n *ℤ a ≡ neg_ℤ n *ℤ neg_ℤ a
    turn n a = ring ints_ring (n ∷ a ∷ []) (X :* Y) (minus X :* minus Y) refl

at-forth : (p : Point) (d : Exp) (n m : ℤ) (q : Point) → IsAt p (opposite d) n m q → IsAt p d (neg_ℤ n) m q
at-forth p d n m q h = record { below = h.below; x = h.x ∙ ap (λ z. q.w *ℤ (p.x *ℤ m +ℤ z *ℤ p.w)) (turn n d.a); y = h.y ∙ ap (λ z. q.w *ℤ (p.y *ℤ m +ℤ z *ℤ p.w)) (turn n d.b) }
  where
    turn : (n a : ℤ) → n *ℤ neg_ℤ a ≡ neg_ℤ n *ℤ a
    turn n a = ring ints_ring (n ∷ a ∷ []) (X :* minus Y) (minus X :* Y) refl

below : (n : ℤ) → pos 0 ≤ℤ n → IsTrue (int_le (neg_ℤ n) (pos 0))
below n h = grind (arith, ints, h)

above : (n : ℤ) → IsTrue (int_le n (pos 0)) → pos 0 ≤ℤ neg_ℤ n
above n h = omega (arith, ints, h)

pub ray-support : (w : Wall) (p : Point) (d : Exp) (q : Point) → w.kind ≡ Outgoing → p ≡ w.at → d ≡ opposite w.dir → FromOn p d q ↔ On w q
ray-support w p d q k e f = (forth, back)
  where
    forth : FromOn p d q → On w q
    forth h =
        let a : IsAt w.at (opposite w.dir) h.0 h.1 q = subst (λ (r : Point). IsAt r (opposite w.dir) h.0 h.1 q) e (subst (λ (u : Exp). IsAt p u h.0 h.1 q) f h.3) in
        (neg_ℤ h.0, h.1, subst (λ (j : WallKind). IsTrue (allows j (neg_ℤ h.0))) (sym k) (below h.0 h.2), at-forth w.at w.dir h.0 h.1 q a)

    back : On w q → FromOn p d q
    back h =
        let a : IsAt w.at (opposite w.dir) (neg_ℤ h.0) h.1 q = at-back w.at w.dir h.0 h.1 q h.3 in
        let b : IsAt p d (neg_ℤ h.0) h.1 q = subst (λ (r : Point). IsAt r d (neg_ℤ h.0) h.1 q) (sym e) (subst (λ (u : Exp). IsAt w.at u (neg_ℤ h.0) h.1 q) (sym f) a) in
        (neg_ℤ h.0, h.1, above h.0 (subst (λ (j : WallKind). IsTrue (allows j h.0)) k h.2), b)
