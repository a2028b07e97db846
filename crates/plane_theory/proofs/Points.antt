-- Points as triples, places along a line as signs of determinants.
use Rattle.std.proofs.Common.{◌≡◌, ◌≢◌, ◌⊎◌, inl, inr, arith}
use Rattle.std.specs.Prelude.{ℤ, pos, negsuc, ◌+ℤ◌, ◌-ℤ◌, ◌*ℤ◌, neg_ℤ, ◌≤ℤ◌, ◌↔◌}
use Rattle.std.proofs.lemmas.Int.{ints}
use Rattle.scattering.proofs.Ring.{dif-up, dif-pos, dif-add, dif-neg, dif-mul, dif-same}
use Rattle.scattering.specs.Series.{Exp, origin, det, dot, scale}
use Rattle.scattering.specs.Plane.{Point, difference, IsAt, FromOn, Beyond}
use Rattle.plane_theory.proofs.WholeNumbers.{cancel, not_negative, positive_of, not_negative_of, follows, follows2, square, square-positive, sign}
use Rattle.sum_algebra.proofs.Integers.{positive-mul}

-- d·(q - p), times p.w·q.w, is n·e
pub record Onto (p : Point) (e : Exp) (n d : ℤ) (q : Point) : Type 0 where
  pub below : pos 1 ≤ℤ d
  pub x : d *ℤ (difference p q).a ≡ n *ℤ e.a
  pub y : d *ℤ (difference p q).b ≡ n *ℤ e.b

at-one : (px pw qx qw n d e : ℤ) → qx *ℤ (pw *ℤ d) ≡ qw *ℤ (px *ℤ d +ℤ n *ℤ e *ℤ pw) → d *ℤ (qx *ℤ pw -ℤ px *ℤ qw) ≡ (n *ℤ (pw *ℤ qw)) *ℤ e
at-one px pw qx qw n d e h =
    follows (d *ℤ (qx *ℤ pw -ℤ px *ℤ qw)) ((n *ℤ (pw *ℤ qw)) *ℤ e) (pos 1) (qx *ℤ (pw *ℤ d)) (qw *ℤ (px *ℤ d +ℤ n *ℤ e *ℤ pw)) h
    (rw (dif-up px, dif-up pw, dif-up qx, dif-up qw, dif-up n, dif-up d, dif-up e) (simp (dif-mul, dif-add, dif-neg, dif-pos) (dif-same _ _ _ _ (omega arith))))

at-other : (px pw qx qw n d e : ℤ) → d *ℤ (qx *ℤ pw -ℤ px *ℤ qw) ≡ n *ℤ e → qx *ℤ (pw *ℤ (d *ℤ (pw *ℤ qw))) ≡ qw *ℤ (px *ℤ (d *ℤ (pw *ℤ qw)) +ℤ n *ℤ e *ℤ pw)
at-other px pw qx qw n d e h =
    follows (qx *ℤ (pw *ℤ (d *ℤ (pw *ℤ qw)))) (qw *ℤ (px *ℤ (d *ℤ (pw *ℤ qw)) +ℤ n *ℤ e *ℤ pw)) (pw *ℤ qw) (d *ℤ (qx *ℤ pw -ℤ px *ℤ qw)) (n *ℤ e) h
    (rw (dif-up px, dif-up pw, dif-up qx, dif-up qw, dif-up n, dif-up d, dif-up e) (simp (dif-mul, dif-add, dif-neg, dif-pos) (dif-same _ _ _ _ (omega arith))))

pub at-onto : (p : Point) (e : Exp) (n d : ℤ) (q : Point) → IsAt p e n d q → Onto p e (n *ℤ (p.w *ℤ q.w)) d q
at-onto p e n d q h = record { below = h.below; x = at-one p.x p.w q.x q.w n d e.a h.x; y = at-one p.y p.w q.y q.w n d e.b h.y }

pub onto-at : (p : Point) (e : Exp) (n d : ℤ) (q : Point) → pos 1 ≤ℤ p.w → pos 1 ≤ℤ q.w → Onto p e n d q → IsAt p e n (d *ℤ (p.w *ℤ q.w)) q
onto-at p e n d q u v h = record {
  below = positive-mul d (p.w *ℤ q.w) h.below (positive-mul p.w q.w u v);
  x = at-other p.x p.w q.x q.w n d e.a h.x;
  y = at-other p.y p.w q.y q.w n d e.b h.y;
}

-- ---- the sign of n is that of a product
onto-det1 : (a b u v n d : ℤ) → d *ℤ u ≡ n *ℤ a → d *ℤ v ≡ n *ℤ b → d *ℤ (a *ℤ v -ℤ b *ℤ u) ≡ d *ℤ pos 0
onto-det1 a b u v n d h k =
    follows2 (d *ℤ (a *ℤ v -ℤ b *ℤ u)) (d *ℤ pos 0) (neg_ℤ b) (d *ℤ u) (n *ℤ a) a (d *ℤ v) (n *ℤ b) h k
    (rw (dif-up a, dif-up b, dif-up u, dif-up v, dif-up n, dif-up d) (simp (dif-mul, dif-add, dif-neg, dif-pos) (dif-same _ _ _ _ (omega arith))))

onto-dot1 : (a b u v n d : ℤ) → d *ℤ u ≡ n *ℤ a → d *ℤ v ≡ n *ℤ b → d *ℤ (a *ℤ u +ℤ b *ℤ v) ≡ n *ℤ (a *ℤ a +ℤ b *ℤ b)
onto-dot1 a b u v n d h k =
    follows2 (d *ℤ (a *ℤ u +ℤ b *ℤ v)) (n *ℤ (a *ℤ a +ℤ b *ℤ b)) a (d *ℤ u) (n *ℤ a) b (d *ℤ v) (n *ℤ b) h k
    (rw (dif-up a, dif-up b, dif-up u, dif-up v, dif-up n, dif-up d) (simp (dif-mul, dif-add, dif-neg, dif-pos) (dif-same _ _ _ _ (omega arith))))

pub onto-det : (p : Point) (e : Exp) (n d : ℤ) (q : Point) → Onto p e n d q → det e (difference p q) ≡ pos 0
onto-det p e n d q h = cancel d (det e (difference p q)) (pos 0) h.below (onto-det1 e.a e.b (difference p q).a (difference p q).b n d h.x h.y)

pub onto-dot : (p : Point) (e : Exp) (n d : ℤ) (q : Point) → Onto p e n d q → d *ℤ dot e (difference p q) ≡ n *ℤ (e.a *ℤ e.a +ℤ e.b *ℤ e.b)
onto-dot p e n d q h = onto-dot1 e.a e.b (difference p q).a (difference p q).b n d h.x h.y

dot-onto1 : (a b u v : ℤ) → a *ℤ v -ℤ b *ℤ u ≡ pos 0 → (a *ℤ a +ℤ b *ℤ b) *ℤ u ≡ (a *ℤ u +ℤ b *ℤ v) *ℤ a
dot-onto1 a b u v h =
    follows ((a *ℤ a +ℤ b *ℤ b) *ℤ u) ((a *ℤ u +ℤ b *ℤ v) *ℤ a) (neg_ℤ b) (a *ℤ v -ℤ b *ℤ u) (pos 0) h
    (rw (dif-up a, dif-up b, dif-up u, dif-up v) (simp (dif-mul, dif-add, dif-neg, dif-pos) (dif-same _ _ _ _ (omega arith))))

dot-onto2 : (a b u v : ℤ) → a *ℤ v -ℤ b *ℤ u ≡ pos 0 → (a *ℤ a +ℤ b *ℤ b) *ℤ v ≡ (a *ℤ u +ℤ b *ℤ v) *ℤ b
dot-onto2 a b u v h =
    follows ((a *ℤ a +ℤ b *ℤ b) *ℤ v) ((a *ℤ u +ℤ b *ℤ v) *ℤ b) a (a *ℤ v -ℤ b *ℤ u) (pos 0) h
    (rw (dif-up a, dif-up b, dif-up u, dif-up v) (simp (dif-mul, dif-add, dif-neg, dif-pos) (dif-same _ _ _ _ (omega arith))))

pub dot-onto : (p : Point) (e : Exp) (q : Point) → pos 1 ≤ℤ (e.a *ℤ e.a +ℤ e.b *ℤ e.b) → det e (difference p q) ≡ pos 0 → Onto p e (dot e (difference p q)) (e.a *ℤ e.a +ℤ e.b *ℤ e.b) q
dot-onto p e q l h = record {
  below = l;
  x = dot-onto1 e.a e.b (difference p q).a (difference p q).b h;
  y = dot-onto2 e.a e.b (difference p q).a (difference p q).b h;
}

pub norm-positive : (e : Exp) → e ≢ origin → pos 1 ≤ℤ (e.a *ℤ e.a +ℤ e.b *ℤ e.b)
norm-positive e n = go (sign e.a) (sign e.b)
  where
    more : (x y : ℤ) → pos 1 ≤ℤ (x *ℤ x) → pos 1 ≤ℤ (x *ℤ x +ℤ y *ℤ y)
    more x y h = let s = square y in omega (arith, ints, s, h)

    more' : (x y : ℤ) → pos 1 ≤ℤ (y *ℤ y) → pos 1 ≤ℤ (x *ℤ x +ℤ y *ℤ y)
    more' x y h = let s = square x in omega (arith, ints, s, h)

    other : (x : ℤ) → (pos 1 ≤ℤ x) ⊎ (pos 1 ≤ℤ neg_ℤ x) → x ≢ pos 0
    other x (inl h) e = omega (arith, ints, h, e)
    other x (inr h) e = omega (arith, ints, h, e)

    go : (e.a ≡ pos 0) ⊎ ((pos 1 ≤ℤ e.a) ⊎ (pos 1 ≤ℤ neg_ℤ e.a)) → (e.b ≡ pos 0) ⊎ ((pos 1 ≤ℤ e.b) ⊎ (pos 1 ≤ℤ neg_ℤ e.b)) → pos 1 ≤ℤ (e.a *ℤ e.a +ℤ e.b *ℤ e.b)
    go (inr h) k = more e.a e.b (square-positive e.a (other e.a h))
    go (inl h) (inr k) = more' e.a e.b (square-positive e.b (other e.b k))
    go (inl h) (inl k) = absurd (n (λ i. record { a = h i; b = k i }))

-- ---- the tests
pub from-test : (p : Point) (e : Exp) (q : Point) → pos 1 ≤ℤ p.w → pos 1 ≤ℤ q.w → FromOn p e q → (det e (difference p q) ≡ pos 0) × (pos 0 ≤ℤ dot e (difference p q))
from-test p e q u v h =
    let o = at-onto p e h.0 h.1 q h.3 in
    let r : pos 0 ≤ℤ (h.1 *ℤ dot e (difference p q)) = rw (onto-dot p e _ h.1 q o) (not_negative _ _ (not_negative h.0 _ h.2 (let z = positive-mul p.w q.w u v in omega (arith, ints, z))) (let s = square e.a in let t = square e.b in omega (arith, ints, s, t))) in
    (onto-det p e _ h.1 q o, not_negative_of h.1 _ o.below r)

pub test-from : (p : Point) (e : Exp) (q : Point) → pos 1 ≤ℤ p.w → pos 1 ≤ℤ q.w → e ≢ origin → det e (difference p q) ≡ pos 0 → pos 0 ≤ℤ dot e (difference p q) → FromOn p e q
test-from p e q u v n h k =
    (dot e (difference p q), (e.a *ℤ e.a +ℤ e.b *ℤ e.b) *ℤ (p.w *ℤ q.w), k, onto-at p e _ (e.a *ℤ e.a +ℤ e.b *ℤ e.b) q u v (dot-onto p e q (norm-positive e n) h))

pub beyond-test : (p : Point) (e : Exp) (q : Point) → pos 1 ≤ℤ p.w → pos 1 ≤ℤ q.w → e ≢ origin → Beyond p e q → (det e (difference p q) ≡ pos 0) × (pos 1 ≤ℤ dot e (difference p q))
beyond-test p e q u v n h =
    let o = at-onto p e h.0 h.1 q h.3 in
    let r : pos 1 ≤ℤ (h.1 *ℤ dot e (difference p q)) = rw (onto-dot p e _ h.1 q o) (positive-mul _ _ (positive-mul h.0 _ h.2 (positive-mul p.w q.w u v)) (norm-positive e n)) in
    (onto-det p e _ h.1 q o, positive_of h.1 _ o.below r)

pub test-beyond : (p : Point) (e : Exp) (q : Point) → pos 1 ≤ℤ p.w → pos 1 ≤ℤ q.w → e ≢ origin → det e (difference p q) ≡ pos 0 → pos 1 ≤ℤ dot e (difference p q) → Beyond p e q
test-beyond p e q u v n h k =
    (dot e (difference p q), (e.a *ℤ e.a +ℤ e.b *ℤ e.b) *ℤ (p.w *ℤ q.w), k, onto-at p e _ (e.a *ℤ e.a +ℤ e.b *ℤ e.b) q u v (dot-onto p e q (norm-positive e n) h))

-- ---- backwards
pub minus-one : (e : ℤ) → negsuc 0 *ℤ e ≡ neg_ℤ e
minus-one e = omega (arith, ints)

turn1 : (px pw qx qw n d e : ℤ) → d *ℤ (qx *ℤ pw -ℤ px *ℤ qw) ≡ n *ℤ neg_ℤ e → d *ℤ (px *ℤ qw -ℤ qx *ℤ pw) ≡ n *ℤ e
turn1 px pw qx qw n d e h =
    follows (d *ℤ (px *ℤ qw -ℤ qx *ℤ pw)) (n *ℤ e) (neg_ℤ (pos 1)) (d *ℤ (qx *ℤ pw -ℤ px *ℤ qw)) (n *ℤ neg_ℤ e) h
    (rw minus-one (rw (dif-up px, dif-up pw, dif-up qx, dif-up qw, dif-up n, dif-up d, dif-up e) (simp (dif-mul, dif-add, dif-neg, dif-pos) (dif-same _ _ _ _ (omega arith)))))

turn2 : (px pw qx qw n d e : ℤ) → d *ℤ (qx *ℤ pw -ℤ px *ℤ qw) ≡ n *ℤ e → d *ℤ (px *ℤ qw -ℤ qx *ℤ pw) ≡ n *ℤ neg_ℤ e
turn2 px pw qx qw n d e h =
    follows (d *ℤ (px *ℤ qw -ℤ qx *ℤ pw)) (n *ℤ neg_ℤ e) (neg_ℤ (pos 1)) (d *ℤ (qx *ℤ pw -ℤ px *ℤ qw)) (n *ℤ e) h
    (rw minus-one (rw (dif-up px, dif-up pw, dif-up qx, dif-up qw, dif-up n, dif-up d, dif-up e) (simp (dif-mul, dif-add, dif-neg, dif-pos) (dif-same _ _ _ _ (omega arith)))))

onto-back : (p : Point) (e : Exp) (n d : ℤ) (q : Point) → Onto p (scale (neg_ℤ (pos 1)) e) n d q → Onto q e n d p
onto-back p e n d q h = record {
  below = h.below;
  x = turn1 p.x p.w q.x q.w n d e.a (rw minus-one at h.x);
  y = turn1 p.y p.w q.y q.w n d e.b (rw minus-one at h.y);
}

onto-forth : (p : Point) (e : Exp) (n d : ℤ) (q : Point) → Onto p e n d q → Onto q (scale (neg_ℤ (pos 1)) e) n d p
onto-forth p e n d q h = record {
  below = h.below;
  x = rw minus-one (turn2 p.x p.w q.x q.w n d e.a h.x);
  y = rw minus-one (turn2 p.y p.w q.y q.w n d e.b h.y);
}

weight : (p q : Point) → pos 1 ≤ℤ p.w → pos 1 ≤ℤ q.w → pos 1 ≤ℤ (p.w *ℤ q.w)
weight p q u v = positive-mul p.w q.w u v

-- from o along -e to p, and from p along e to o
pub beyond-back : (o : Point) (e : Exp) (p : Point) → pos 1 ≤ℤ o.w → pos 1 ≤ℤ p.w → Beyond o (scale (neg_ℤ (pos 1)) e) p → Beyond p e o
beyond-back o e p u v h =
    let k = onto-back o e _ h.1 p (at-onto o (scale (neg_ℤ (pos 1)) e) h.0 h.1 p h.3) in
    (h.0 *ℤ (o.w *ℤ p.w), h.1 *ℤ (p.w *ℤ o.w), positive-mul h.0 _ h.2 (weight o p u v), onto-at p e _ h.1 o v u k)

pub beyond-forth : (p : Point) (e : Exp) (o : Point) → pos 1 ≤ℤ p.w → pos 1 ≤ℤ o.w → Beyond p e o → Beyond o (scale (neg_ℤ (pos 1)) e) p
beyond-forth p e o u v h =
    let k = onto-forth p e _ h.1 o (at-onto p e h.0 h.1 o h.3) in
    (h.0 *ℤ (p.w *ℤ o.w), h.1 *ℤ (o.w *ℤ p.w), positive-mul h.0 _ h.2 (weight p o u v), onto-at o (scale (neg_ℤ (pos 1)) e) _ h.1 p v u k)

pub beyond-from : (p : Point) (e : Exp) (q : Point) → Beyond p e q → FromOn p e q
beyond-from p e q h = (h.0, h.1, let k = h.2 in omega (arith, ints, k), h.3)

-- a point is from itself on
itself : (x w e : ℤ) → pos 1 *ℤ (x *ℤ w -ℤ x *ℤ w) ≡ pos 0 *ℤ e
itself x w e = rw (dif-up x, dif-up w, dif-up e) (simp (dif-mul, dif-add, dif-neg, dif-pos) (dif-same _ _ _ _ (omega arith)))

pub from-itself : (p : Point) (e : Exp) → pos 1 ≤ℤ p.w → FromOn p e p
from-itself p e u =
    let o : Onto p e (pos 0) (pos 1) p = record { below = omega (arith, ints); x = itself p.x p.w e.a; y = itself p.y p.w e.b } in
    (pos 0, pos 1 *ℤ (p.w *ℤ p.w), omega (arith, ints), onto-at p e (pos 0) (pos 1) p u u o)

-- the whole line
pub line-test : (p : Point) (e : Exp) (q : Point) → pos 1 ≤ℤ p.w → pos 1 ≤ℤ q.w → e ≢ origin → (det e (difference p q) ≡ pos 0) ↔ ((n d : ℤ) × IsAt p e n d q)
line-test p e q u v ne = (
  λ h. (dot e (difference p q), (e.a *ℤ e.a +ℤ e.b *ℤ e.b) *ℤ (p.w *ℤ q.w), onto-at p e _ (e.a *ℤ e.a +ℤ e.b *ℤ e.b) q u v (dot-onto p e q (norm-positive e ne) h)),
  λ h. onto-det p e _ h.1 q (at-onto p e h.0 h.1 q h.2),
)
