-- The test of a place on a wall says what the definition says.
use Rattle.std.proofs.Common.{◌≡◌, refl, sym, ap, ◌∙◌, arith, true}
use Rattle.std.specs.Prelude.{ℤ, pos, ◌+ℤ◌, ◌*ℤ◌, neg_ℤ, ◌≤ℤ◌, IsTrue}
use Rattle.std.proofs.lemmas.Int.{ints}
use Rattle.scattering.proofs.Ring.{dif-up, dif-neg, dif-mul, dif-same}
use Rattle.scattering.specs.Series.{det, dot, int_eq}
use Rattle.scattering.specs.Plane.{difference}
use Rattle.scattering.specs.Wall.{WallKind, Line, Incoming, Outgoing, allows, On, is_on}
use Rattle.scattering.proofs.Lists.{and-in, and-left, and-right}
use Rattle.scattering.proofs.Keys.{int_eq-same}
use Rattle.plane_theory.proofs.Directions.{direction-not_origin}
use Rattle.plane_theory.proofs.WholeNumbers.{not_negative, not_negative_of}
use Rattle.plane_theory.proofs.Points.{at-onto, onto-at, onto-det, onto-dot, dot-onto, norm-positive}
use Rattle.plane_theory.specs.Laws.{OnIsDecided}
use Rattle.sum_algebra.proofs.Integers.{positive-mul}

-- where d·x = n·u, x has the sign of n
sign-up : (d x n u : ℤ) → pos 1 ≤ℤ d → pos 1 ≤ℤ u → d *ℤ x ≡ n *ℤ u → pos 0 ≤ℤ n → pos 0 ≤ℤ x
sign-up d x n u h k e l = not_negative_of d x h (let r = not_negative n u l (omega (arith, ints, k)) in omega (arith, ints, r, e))

sign-down : (d x n u : ℤ) → pos 1 ≤ℤ d → pos 1 ≤ℤ u → d *ℤ x ≡ n *ℤ u → n ≤ℤ pos 0 → x ≤ℤ pos 0
sign-down d x n u h k e l =
    let r : pos 0 ≤ℤ neg_ℤ x = sign-up d (neg_ℤ x) (neg_ℤ n) u h k (turned d x n u e) (omega (arith, ints, l)) in omega (arith, ints, r)
  where
    minus : (a b : ℤ) → a *ℤ neg_ℤ b ≡ neg_ℤ (a *ℤ b)
    minus a b = rw (dif-up a, dif-up b) (simp (dif-mul, dif-neg) (dif-same _ _ _ _ (omega arith)))

    minus' : (a b : ℤ) → neg_ℤ a *ℤ b ≡ neg_ℤ (a *ℤ b)
    minus' a b = rw (dif-up a, dif-up b) (simp (dif-mul, dif-neg) (dif-same _ _ _ _ (omega arith)))

    turned : (d x n u : ℤ) → d *ℤ x ≡ n *ℤ u → d *ℤ neg_ℤ x ≡ neg_ℤ n *ℤ u
    turned d x n u e = minus d x ∙ ap neg_ℤ e ∙ sym (minus' n u)

grouped : (n w v : ℤ) → (n *ℤ w) *ℤ v ≡ n *ℤ (w *ℤ v)
grouped n w v = rw (dif-up n, dif-up w, dif-up v) (simp (dif-mul) (dif-same _ _ _ _ (omega arith)))

allows-same : (k : WallKind) (d x n u : ℤ) → pos 1 ≤ℤ d → pos 1 ≤ℤ u → d *ℤ x ≡ n *ℤ u → allows k n ≡ true → allows k x ≡ true
allows-same Line d x n u h l e a = refl
allows-same Incoming d x n u h l e a = let r = sign-up d x n u h l e (omega (arith, ints, a)) in grind (arith, ints, r)
allows-same Outgoing d x n u h l e a = let r = sign-down d x n u h l e (omega (arith, ints, a)) in grind (arith, ints, r)

pub zero-in : (a : ℤ) → a ≡ pos 0 → int_eq a (pos 0) ≡ true
zero-in a h = rw h

pub on-is-decided : OnIsDecided
on-is-decided n w p wall point = (forth, back)
  where
    forth : IsTrue (is_on w p) → On w p
    forth h =
        let e = int_eq-same (det w.dir (difference w.at p)) (pos 0) (and-left (int_eq (det w.dir (difference w.at p)) (pos 0)) (allows w.kind (dot w.dir (difference w.at p))) h) in
        let a = and-right (int_eq (det w.dir (difference w.at p)) (pos 0)) (allows w.kind (dot w.dir (difference w.at p))) h in (
          dot w.dir (difference w.at p),
          (w.dir.a *ℤ w.dir.a +ℤ w.dir.b *ℤ w.dir.b) *ℤ (w.at.w *ℤ p.w),
          a,
          onto-at w.at w.dir _ _ p wall.point.below point.below (dot-onto w.at w.dir p (norm-positive w.dir (direction-not_origin w.dir wall.direction)) e),
        )

    back : On w p → IsTrue (is_on w p)
    back h =
        let o = at-onto w.at w.dir h.0 h.1 p h.3 in
        let u = positive-mul _ _ (positive-mul w.at.w p.w wall.point.below point.below) (norm-positive w.dir (direction-not_origin w.dir wall.direction)) in
        let e = onto-dot w.at w.dir _ h.1 p o ∙ grouped h.0 (w.at.w *ℤ p.w) (w.dir.a *ℤ w.dir.a +ℤ w.dir.b *ℤ w.dir.b) in
        and-in (int_eq (det w.dir (difference w.at p)) (pos 0)) (allows w.kind (dot w.dir (difference w.at p))) (zero-in _ (onto-det w.at w.dir _ h.1 p o))
        (allows-same w.kind h.1 (dot w.dir (difference w.at p)) h.0 _ o.below u e h.2)
