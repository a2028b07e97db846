-- Where two lines meet, as a formula.
use Rattle.std.proofs.Common.{◌≡◌, ◌≢◌, refl, sym, ap, subst, ◌∙◌, arith}
use Rattle.std.specs.Prelude.{ℤ, pos, ◌+ℤ◌, ◌-ℤ◌, ◌*ℤ◌, neg_ℤ, ◌≤ℤ◌, ◌↔◌}
use Rattle.std.proofs.lemmas.Int.{ints}
use Rattle.scattering.proofs.Ring.{dif-up, dif-pos, dif-add, dif-neg, dif-mul, dif-same}
use Rattle.scattering.specs.Series.{Exp, origin, det, dot}
use Rattle.scattering.specs.Plane.{Point, IsPoint, difference, FromOn}
use Rattle.plane_theory.proofs.WholeNumbers.{not_negative, not_negative_of, zero_of, follows, follows2, follows3, square-positive, distribute}
use Rattle.plane_theory.proofs.Points.{norm-positive, test-from, from-test}
use Rattle.plane_theory.proofs.LowestTerms.{same-point}
use Rattle.plane_theory.proofs.Directions.{zero-factor}
use Rattle.sum_algebra.proofs.Integers.{positive-mul}

-- along the first line the common point of (p, d) and (r, e) is at numer/(p.w·r.w·det d e)
abbrev pub numer : Point → Point → Exp → ℤ
numer p r e = det (difference p r) e

step1 : (da db ea eb u v : ℤ) → da *ℤ v -ℤ db *ℤ u ≡ pos 0 → (da *ℤ eb -ℤ db *ℤ ea) *ℤ u ≡ da *ℤ (u *ℤ eb -ℤ v *ℤ ea)
step1 da db ea eb u v h = follows ((da *ℤ eb -ℤ db *ℤ ea) *ℤ u) (da *ℤ (u *ℤ eb -ℤ v *ℤ ea)) ea (da *ℤ v -ℤ db *ℤ u) (pos 0) h (rw (dif-up da, dif-up db, dif-up ea, dif-up eb, dif-up u, dif-up v) (simp (dif-mul, dif-add, dif-neg, dif-pos) (dif-same _ _ _ _ (omega arith))))

step1' : (da db ea eb u v : ℤ) → da *ℤ v -ℤ db *ℤ u ≡ pos 0 → (da *ℤ eb -ℤ db *ℤ ea) *ℤ v ≡ db *ℤ (u *ℤ eb -ℤ v *ℤ ea)
step1' da db ea eb u v h = follows ((da *ℤ eb -ℤ db *ℤ ea) *ℤ v) (db *ℤ (u *ℤ eb -ℤ v *ℤ ea)) eb (da *ℤ v -ℤ db *ℤ u) (pos 0) h (rw (dif-up da, dif-up db, dif-up ea, dif-up eb, dif-up u, dif-up v) (simp (dif-mul, dif-add, dif-neg, dif-pos) (dif-same _ _ _ _ (omega arith))))

step2 : (pw r qw u v u' v' a b ea eb : ℤ) → r *ℤ u ≡ pw *ℤ u' +ℤ qw *ℤ a → r *ℤ v ≡ pw *ℤ v' +ℤ qw *ℤ b → ea *ℤ v' -ℤ eb *ℤ u' ≡ pos 0 → r *ℤ (u *ℤ eb -ℤ v *ℤ ea) ≡ qw *ℤ (a *ℤ eb -ℤ b *ℤ ea)
step2 pw r qw u v u' v' a b ea eb h k l =
    follows3 (r *ℤ (u *ℤ eb -ℤ v *ℤ ea)) (qw *ℤ (a *ℤ eb -ℤ b *ℤ ea)) eb (r *ℤ u) (pw *ℤ u' +ℤ qw *ℤ a) (neg_ℤ ea) (r *ℤ v) (pw *ℤ v' +ℤ qw *ℤ b) (neg_ℤ pw) (ea *ℤ v' -ℤ eb *ℤ u') (pos 0) h k l
    (rw (dif-up pw, dif-up r, dif-up qw, dif-up u, dif-up v, dif-up u', dif-up v', dif-up a, dif-up b, dif-up ea, dif-up eb) (simp (dif-mul, dif-add, dif-neg, dif-pos) (dif-same _ _ _ _ (omega arith))))

chain : (px pw rx r qx qw : ℤ) → r *ℤ (qx *ℤ pw -ℤ px *ℤ qw) ≡ pw *ℤ (qx *ℤ r -ℤ rx *ℤ qw) +ℤ qw *ℤ (rx *ℤ pw -ℤ px *ℤ r)
chain px pw rx r qx qw = rw (dif-up px, dif-up pw, dif-up rx, dif-up r, dif-up qx, dif-up qw) (simp (dif-mul, dif-add, dif-neg) (dif-same _ _ _ _ (omega arith)))

combine : (r d u e t s : ℤ) → d *ℤ u ≡ e *ℤ t → r *ℤ t ≡ s → (r *ℤ d) *ℤ u ≡ s *ℤ e
combine r d u e t s h k =
    follows2 ((r *ℤ d) *ℤ u) (s *ℤ e) r (d *ℤ u) (e *ℤ t) e (r *ℤ t) s h k
    (rw (dif-up r, dif-up d, dif-up u, dif-up e, dif-up t, dif-up s) (simp (dif-mul, dif-add, dif-neg, dif-pos) (dif-same _ _ _ _ (omega arith))))

-- q - p is numer/(p.w·r.w·det d e) of d
pub record IsMeeting (p : Point) (d : Exp) (r : Point) (e : Exp) (q : Point) : Type 0 where
  pub x : (r.w *ℤ det d e) *ℤ (difference p q).a ≡ (q.w *ℤ numer p r e) *ℤ d.a
  pub y : (r.w *ℤ det d e) *ℤ (difference p q).b ≡ (q.w *ℤ numer p r e) *ℤ d.b

-- a point on both lines is the one of the formula
pub meets : (p : Point) (d : Exp) (r : Point) (e : Exp) (q : Point) → det d (difference p q) ≡ pos 0 → det e (difference r q) ≡ pos 0 → IsMeeting p d r e q
meets p d r e q h k =
    let t = step2 p.w r.w q.w (difference p q).a (difference p q).b (difference r q).a (difference r q).b (difference p r).a (difference p r).b e.a e.b (chain p.x p.w r.x r.w q.x q.w) (chain p.y p.w r.y r.w q.y q.w) k in
    record {
      x = combine r.w (det d e) (difference p q).a d.a ((difference p q).a *ℤ e.b -ℤ (difference p q).b *ℤ e.a) (q.w *ℤ numer p r e) (step1 d.a d.b e.a e.b (difference p q).a (difference p q).b h) t;
      y = combine r.w (det d e) (difference p q).b d.b ((difference p q).a *ℤ e.b -ℤ (difference p q).b *ℤ e.a) (q.w *ℤ numer p r e) (step1' d.a d.b e.a e.b (difference p q).a (difference p q).b h) t;
    }

times-det : (c n da db u v : ℤ) → c *ℤ u ≡ n *ℤ da → c *ℤ v ≡ n *ℤ db → c *ℤ (da *ℤ v -ℤ db *ℤ u) ≡ pos 0
times-det c n da db u v h k = follows2 (c *ℤ (da *ℤ v -ℤ db *ℤ u)) (pos 0) (neg_ℤ db) (c *ℤ u) (n *ℤ da) da (c *ℤ v) (n *ℤ db) h k (rw (dif-up c, dif-up n, dif-up da, dif-up db, dif-up u, dif-up v) (simp (dif-mul, dif-add, dif-neg, dif-pos) (dif-same _ _ _ _ (omega arith))))

-- a product of what isn't 0
squared : (c x : ℤ) → c *ℤ x ≡ pos 0 → (c *ℤ c) *ℤ x ≡ pos 0
squared c x h = follows ((c *ℤ c) *ℤ x) (pos 0) c (c *ℤ x) (pos 0) h (rw (dif-up c, dif-up x) (simp (dif-mul, dif-add, dif-neg, dif-pos) (dif-same _ _ _ _ (omega arith))))

not-zero : (a b : ℤ) → pos 1 ≤ℤ a → b ≢ pos 0 → a *ℤ b ≢ pos 0
not-zero a b h n e = n (zero_of a b h e)

-- the point of the formula is on the first line, and on the second
pub meeting-first : (p : Point) (d : Exp) (r : Point) (e : Exp) (q : Point) → pos 1 ≤ℤ r.w → det d e ≢ pos 0 → IsMeeting p d r e q → det d (difference p q) ≡ pos 0
meeting-first p d r e q u n h = zero-factor (r.w *ℤ det d e) _ (not-zero r.w (det d e) u n) (times-det (r.w *ℤ det d e) (q.w *ℤ numer p r e) d.a d.b (difference p q).a (difference p q).b h.x h.y)

-- (D·pw)·det e (q - r) = 0
part1 : (D pw r qw u u' a e : ℤ) → r *ℤ u ≡ pw *ℤ u' +ℤ qw *ℤ a → (D *ℤ pw) *ℤ (e *ℤ u') ≡ e *ℤ ((r *ℤ D) *ℤ u) -ℤ (D *ℤ qw) *ℤ (e *ℤ a)
part1 D pw r qw u u' a e h =
    follows ((D *ℤ pw) *ℤ (e *ℤ u')) (e *ℤ ((r *ℤ D) *ℤ u) -ℤ (D *ℤ qw) *ℤ (e *ℤ a)) (neg_ℤ (D *ℤ e)) (r *ℤ u) (pw *ℤ u' +ℤ qw *ℤ a) h
    (rw (dif-up D, dif-up pw, dif-up r, dif-up qw, dif-up u, dif-up u', dif-up a, dif-up e) (simp (dif-mul, dif-add, dif-neg, dif-pos) (dif-same _ _ _ _ (omega arith))))

part2 : (ea eb da db a b : ℤ) → ea *ℤ ((a *ℤ eb -ℤ b *ℤ ea) *ℤ db) -ℤ eb *ℤ ((a *ℤ eb -ℤ b *ℤ ea) *ℤ da) ≡ (da *ℤ eb -ℤ db *ℤ ea) *ℤ (ea *ℤ b) -ℤ (da *ℤ eb -ℤ db *ℤ ea) *ℤ (eb *ℤ a)
part2 ea eb da db a b = rw (dif-up ea, dif-up eb, dif-up da, dif-up db, dif-up a, dif-up b) (simp (dif-mul, dif-add, dif-neg) (dif-same _ _ _ _ (omega arith)))

factor : (qw e N d : ℤ) → e *ℤ ((qw *ℤ N) *ℤ d) ≡ qw *ℤ (e *ℤ (N *ℤ d))
factor qw e N d = rw (dif-up qw, dif-up e, dif-up N, dif-up d) (simp (dif-mul) (dif-same _ _ _ _ (omega arith)))

factor' : (D qw x : ℤ) → (D *ℤ qw) *ℤ x ≡ qw *ℤ (D *ℤ x)
factor' D qw x = rw (dif-up D, dif-up qw, dif-up x) (simp (dif-mul) (dif-same _ _ _ _ (omega arith)))

second : (D pw r qw u v u' v' a b ea eb da db : ℤ) → D ≡ da *ℤ eb -ℤ db *ℤ ea → r *ℤ u ≡ pw *ℤ u' +ℤ qw *ℤ a → r *ℤ v ≡ pw *ℤ v' +ℤ qw *ℤ b
    → (r *ℤ D) *ℤ u ≡ (qw *ℤ (a *ℤ eb -ℤ b *ℤ ea)) *ℤ da → (r *ℤ D) *ℤ v ≡ (qw *ℤ (a *ℤ eb -ℤ b *ℤ ea)) *ℤ db
    → (D *ℤ pw) *ℤ (ea *ℤ v' -ℤ eb *ℤ u') ≡ pos 0
second D pw r qw u v u' v' a b ea eb da db o h k l m =
    let x : (D *ℤ pw) *ℤ (ea *ℤ v') ≡ qw *ℤ (ea *ℤ ((a *ℤ eb -ℤ b *ℤ ea) *ℤ db)) -ℤ qw *ℤ (D *ℤ (ea *ℤ b)) =
    part1 D pw r qw v v' b ea k ∙ ap (λ z. ea *ℤ z -ℤ (D *ℤ qw) *ℤ (ea *ℤ b)) m
    ∙ ap (λ z. z -ℤ (D *ℤ qw) *ℤ (ea *ℤ b)) (factor qw ea (a *ℤ eb -ℤ b *ℤ ea) db) ∙ ap (λ z. qw *ℤ (ea *ℤ ((a *ℤ eb -ℤ b *ℤ ea) *ℤ db)) -ℤ z) (factor' D qw (ea *ℤ b)) in
    let y : (D *ℤ pw) *ℤ (eb *ℤ u') ≡ qw *ℤ (eb *ℤ ((a *ℤ eb -ℤ b *ℤ ea) *ℤ da)) -ℤ qw *ℤ (D *ℤ (eb *ℤ a)) =
    part1 D pw r qw u u' a eb h ∙ ap (λ z. eb *ℤ z -ℤ (D *ℤ qw) *ℤ (eb *ℤ a)) l
    ∙ ap (λ z. z -ℤ (D *ℤ qw) *ℤ (eb *ℤ a)) (factor qw eb (a *ℤ eb -ℤ b *ℤ ea) da) ∙ ap (λ z. qw *ℤ (eb *ℤ ((a *ℤ eb -ℤ b *ℤ ea) *ℤ da)) -ℤ z) (factor' D qw (eb *ℤ a)) in
    let w : qw *ℤ (ea *ℤ ((a *ℤ eb -ℤ b *ℤ ea) *ℤ db)) -ℤ qw *ℤ (eb *ℤ ((a *ℤ eb -ℤ b *ℤ ea) *ℤ da)) ≡ qw *ℤ (D *ℤ (ea *ℤ b)) -ℤ qw *ℤ (D *ℤ (eb *ℤ a)) =
    sym (distribute qw (ea *ℤ ((a *ℤ eb -ℤ b *ℤ ea) *ℤ db)) (eb *ℤ ((a *ℤ eb -ℤ b *ℤ ea) *ℤ da))) ∙ ap (λ z. qw *ℤ z) (part2 ea eb da db a b ∙ ap (λ z. z *ℤ (ea *ℤ b) -ℤ z *ℤ (eb *ℤ a)) (sym o)) ∙ distribute qw (D *ℤ (ea *ℤ b)) (D *ℤ (eb *ℤ a)) in
    let s = distribute (D *ℤ pw) (ea *ℤ v') (eb *ℤ u') in
    linear ((D *ℤ pw) *ℤ (ea *ℤ v' -ℤ eb *ℤ u')) ((D *ℤ pw) *ℤ (ea *ℤ v')) ((D *ℤ pw) *ℤ (eb *ℤ u'))
    (qw *ℤ (ea *ℤ ((a *ℤ eb -ℤ b *ℤ ea) *ℤ db))) (qw *ℤ (D *ℤ (ea *ℤ b))) (qw *ℤ (eb *ℤ ((a *ℤ eb -ℤ b *ℤ ea) *ℤ da))) (qw *ℤ (D *ℤ (eb *ℤ a))) s x y w
  where
    linear : (t x y p q p' q' : ℤ) → t ≡ x -ℤ y → x ≡ p -ℤ q → y ≡ p' -ℤ q' → p -ℤ p' ≡ q -ℤ q' → t ≡ pos 0
    linear t x y p q p' q' a b c d = omega (arith, ints, a, b, c, d)

pub meeting-second : (p : Point) (d : Exp) (r : Point) (e : Exp) (q : Point) → pos 1 ≤ℤ p.w → det d e ≢ pos 0 → IsMeeting p d r e q → det e (difference r q) ≡ pos 0
meeting-second p d r e q u n h =
    zero-factor (det d e *ℤ p.w) _ (λ z. n (zero_of p.w (det d e) u (turned p.w (det d e) z)))
    (second (det d e) p.w r.w q.w (difference p q).a (difference p q).b (difference r q).a (difference r q).b (difference p r).a (difference p r).b e.a e.b d.a d.b refl (chain p.x p.w r.x r.w q.x q.w) (chain p.y p.w r.y r.w q.y q.w) h.x h.y)
  where
    turned : (a b : ℤ) → b *ℤ a ≡ pos 0 → a *ℤ b ≡ pos 0
    turned a b h = follows (a *ℤ b) (pos 0) (pos 1) (b *ℤ a) (pos 0) h (rw (dif-up a, dif-up b) (simp (dif-mul, dif-add, dif-neg, dif-pos) (dif-same _ _ _ _ (omega arith))))

-- two lines that aren't parallel have at most one common point
one-x : (c px pw qx qw sx sw n d : ℤ) → c *ℤ (qx *ℤ pw -ℤ px *ℤ qw) ≡ (qw *ℤ n) *ℤ d → c *ℤ (sx *ℤ pw -ℤ px *ℤ sw) ≡ (sw *ℤ n) *ℤ d → (c *ℤ pw) *ℤ (qx *ℤ sw -ℤ sx *ℤ qw) ≡ pos 0
one-x c px pw qx qw sx sw n d h k =
    follows2 ((c *ℤ pw) *ℤ (qx *ℤ sw -ℤ sx *ℤ qw)) (pos 0) sw (c *ℤ (qx *ℤ pw -ℤ px *ℤ qw)) ((qw *ℤ n) *ℤ d) (neg_ℤ qw) (c *ℤ (sx *ℤ pw -ℤ px *ℤ sw)) ((sw *ℤ n) *ℤ d) h k
    (rw (dif-up c, dif-up px, dif-up pw, dif-up qx, dif-up qw, dif-up sx, dif-up sw, dif-up n, dif-up d) (simp (dif-mul, dif-add, dif-neg, dif-pos) (dif-same _ _ _ _ (omega arith))))

pub one-meeting : (p : Point) (d : Exp) (r : Point) (e : Exp) (q s : Point) → IsPoint p → IsPoint r → det d e ≢ pos 0 → IsPoint q → IsPoint s → IsMeeting p d r e q → IsMeeting p d r e s → q ≡ s
one-meeting p d r e q s i j n h k a b =
    let c = not-zero r.w (det d e) j.below n in
    let z : (r.w *ℤ det d e) *ℤ p.w ≢ pos 0 = λ f. c (zero-factor p.w (r.w *ℤ det d e) (λ g. let l = i.below in omega (arith, ints, l, g)) (turned p.w (r.w *ℤ det d e) f)) in
    same-point q s h k
    (let x = zero-factor ((r.w *ℤ det d e) *ℤ p.w) (q.x *ℤ s.w -ℤ s.x *ℤ q.w) z (one-x (r.w *ℤ det d e) p.x p.w q.x q.w s.x s.w (numer p r e) d.a a.x b.x) in omega (arith, ints, x))
    (let y = zero-factor ((r.w *ℤ det d e) *ℤ p.w) (q.y *ℤ s.w -ℤ s.y *ℤ q.w) z (one-x (r.w *ℤ det d e) p.y p.w q.y q.w s.y s.w (numer p r e) d.b a.y b.y) in omega (arith, ints, y))
  where
    turned : (a b : ℤ) → b *ℤ a ≡ pos 0 → a *ℤ b ≡ pos 0
    turned a b h = follows (a *ℤ b) (pos 0) (pos 1) (b *ℤ a) (pos 0) h (rw (dif-up a, dif-up b) (simp (dif-mul, dif-add, dif-neg, dif-pos) (dif-same _ _ _ _ (omega arith))))

-- ---- what code computes
dot-meets : (c n da db u v : ℤ) → c *ℤ u ≡ n *ℤ da → c *ℤ v ≡ n *ℤ db → c *ℤ (da *ℤ u +ℤ db *ℤ v) ≡ n *ℤ (da *ℤ da +ℤ db *ℤ db)
dot-meets c n da db u v h k = follows2 (c *ℤ (da *ℤ u +ℤ db *ℤ v)) (n *ℤ (da *ℤ da +ℤ db *ℤ db)) da (c *ℤ u) (n *ℤ da) db (c *ℤ v) (n *ℤ db) h k (rw (dif-up c, dif-up n, dif-up da, dif-up db, dif-up u, dif-up v) (simp (dif-mul, dif-add, dif-neg, dif-pos) (dif-same _ _ _ _ (omega arith))))

by-square : (r D x qw N n : ℤ) → (r *ℤ D) *ℤ x ≡ (qw *ℤ N) *ℤ n → (r *ℤ (D *ℤ D)) *ℤ x ≡ (qw *ℤ n) *ℤ (N *ℤ D)
by-square r D x qw N n h = follows ((r *ℤ (D *ℤ D)) *ℤ x) ((qw *ℤ n) *ℤ (N *ℤ D)) D ((r *ℤ D) *ℤ x) ((qw *ℤ N) *ℤ n) h (rw (dif-up r, dif-up D, dif-up x, dif-up qw, dif-up N, dif-up n) (simp (dif-mul, dif-add, dif-neg, dif-pos) (dif-same _ _ _ _ (omega arith))))

-- the common point lies on the half-line from p along d where numer and det d e have one sign
pub meeting-ahead : (p : Point) (d : Exp) (r : Point) (e : Exp) (q : Point) → pos 1 ≤ℤ p.w → pos 1 ≤ℤ r.w → pos 1 ≤ℤ q.w → d ≢ origin → det d e ≢ pos 0 → IsMeeting p d r e q → FromOn p d q ↔ (pos 0 ≤ℤ (numer p r e *ℤ det d e))
meeting-ahead p d r e q u v w m n h =
    let s = by-square r.w (det d e) (dot d (difference p q)) q.w (numer p r e) (d.a *ℤ d.a +ℤ d.b *ℤ d.b) (dot-meets (r.w *ℤ det d e) (q.w *ℤ numer p r e) d.a d.b (difference p q).a (difference p q).b h.x h.y) in
    let left = positive-mul r.w (det d e *ℤ det d e) v (square-positive (det d e) n) in
    let right = positive-mul q.w (d.a *ℤ d.a +ℤ d.b *ℤ d.b) w (norm-positive d m) in (
      λ f. not_negative_of (q.w *ℤ (d.a *ℤ d.a +ℤ d.b *ℤ d.b)) (numer p r e *ℤ det d e) right
          (let t = not_negative (r.w *ℤ (det d e *ℤ det d e)) (dot d (difference p q)) (let l = left in omega (arith, ints, l)) (from-test p d q u w f).1 in subst (λ (x : ℤ). pos 0 ≤ℤ x) s t),
      λ l. test-from p d q u w m (meeting-first p d r e q v n h)
          (not_negative_of (r.w *ℤ (det d e *ℤ det d e)) (dot d (difference p q)) left
          (let t = not_negative (q.w *ℤ (d.a *ℤ d.a +ℤ d.b *ℤ d.b)) (numer p r e *ℤ det d e) (let o = right in omega (arith, ints, o)) l in subst (λ (x : ℤ). pos 0 ≤ℤ x) (sym s) t)),
    )

-- numerators and denominator of the common point
abbrev pub meet_w : Point → Exp → Point → Exp → ℤ
meet_w p d r e = (p.w *ℤ r.w) *ℤ det d e

abbrev pub meet_x : Point → Exp → Point → Exp → ℤ
meet_x p d r e = (p.x *ℤ r.w) *ℤ det d e +ℤ numer p r e *ℤ d.a

abbrev pub meet_y : Point → Exp → Point → Exp → ℤ
meet_y p d r e = (p.y *ℤ r.w) *ℤ det d e +ℤ numer p r e *ℤ d.b

formula : (qx qw px pw r D N da : ℤ) → qx *ℤ ((pw *ℤ r) *ℤ D) ≡ ((px *ℤ r) *ℤ D +ℤ N *ℤ da) *ℤ qw → (r *ℤ D) *ℤ (qx *ℤ pw -ℤ px *ℤ qw) ≡ (qw *ℤ N) *ℤ da
formula qx qw px pw r D N da h = follows ((r *ℤ D) *ℤ (qx *ℤ pw -ℤ px *ℤ qw)) ((qw *ℤ N) *ℤ da) (pos 1) (qx *ℤ ((pw *ℤ r) *ℤ D)) (((px *ℤ r) *ℤ D +ℤ N *ℤ da) *ℤ qw) h (rw (dif-up qx, dif-up qw, dif-up px, dif-up pw, dif-up r, dif-up D, dif-up N, dif-up da) (simp (dif-mul, dif-add, dif-neg, dif-pos) (dif-same _ _ _ _ (omega arith))))

formula' : (qx qw px pw r D N da : ℤ) → (r *ℤ D) *ℤ (qx *ℤ pw -ℤ px *ℤ qw) ≡ (qw *ℤ N) *ℤ da → qx *ℤ ((pw *ℤ r) *ℤ D) ≡ ((px *ℤ r) *ℤ D +ℤ N *ℤ da) *ℤ qw
formula' qx qw px pw r D N da h = follows (qx *ℤ ((pw *ℤ r) *ℤ D)) (((px *ℤ r) *ℤ D +ℤ N *ℤ da) *ℤ qw) (pos 1) ((r *ℤ D) *ℤ (qx *ℤ pw -ℤ px *ℤ qw)) ((qw *ℤ N) *ℤ da) h (rw (dif-up qx, dif-up qw, dif-up px, dif-up pw, dif-up r, dif-up D, dif-up N, dif-up da) (simp (dif-mul, dif-add, dif-neg, dif-pos) (dif-same _ _ _ _ (omega arith))))

pub formula-meets : (p : Point) (d : Exp) (r : Point) (e : Exp) (q : Point) → q.x *ℤ meet_w p d r e ≡ meet_x p d r e *ℤ q.w → q.y *ℤ meet_w p d r e ≡ meet_y p d r e *ℤ q.w → IsMeeting p d r e q
formula-meets p d r e q h k = record { x = formula q.x q.w p.x p.w r.w (det d e) (numer p r e) d.a h; y = formula q.y q.w p.y p.w r.w (det d e) (numer p r e) d.b k }

pub meets-formula : (p : Point) (d : Exp) (r : Point) (e : Exp) (q : Point) → IsMeeting p d r e q → (q.x *ℤ meet_w p d r e ≡ meet_x p d r e *ℤ q.w) × (q.y *ℤ meet_w p d r e ≡ meet_y p d r e *ℤ q.w)
meets-formula p d r e q h = (formula' q.x q.w p.x p.w r.w (det d e) (numer p r e) d.a h.x, formula' q.y q.w p.y p.w r.w (det d e) (numer p r e) d.b h.y)
