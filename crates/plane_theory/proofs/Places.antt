-- Places along a line, added and scaled.
use Rattle.std.proofs.Common.{◌≡◌, ◌∙◌, arith}
use Rattle.std.specs.Prelude.{ℤ, pos, ◌+ℤ◌, ◌-ℤ◌, ◌*ℤ◌, ◌≤ℤ◌}
use Rattle.scattering.proofs.Ring.{dif-up, dif-pos, dif-add, dif-neg, dif-mul, dif-same}
use Rattle.scattering.specs.Series.{Exp, scale}
use Rattle.scattering.specs.Plane.{Point, difference}
use Rattle.plane_theory.proofs.WholeNumbers.{follows2}
use Rattle.plane_theory.proofs.Points.{Onto}
use Rattle.sum_algebra.proofs.Integers.{positive-mul}

-- from p by n/d, and on by m/c: q.w·n·c + p.w·m·d of p.w·... in the scaled form
sum-one : (px pw qx qw rx rw' n d m c e : ℤ) → d *ℤ (qx *ℤ pw -ℤ px *ℤ qw) ≡ n *ℤ e → c *ℤ (rx *ℤ qw -ℤ qx *ℤ rw') ≡ m *ℤ e
    → (d *ℤ c *ℤ qw) *ℤ (rx *ℤ pw -ℤ px *ℤ rw') ≡ (n *ℤ (c *ℤ rw') +ℤ m *ℤ (d *ℤ pw)) *ℤ e
sum-one px pw qx qw rx rw' n d m c e h k =
    follows2 ((d *ℤ c *ℤ qw) *ℤ (rx *ℤ pw -ℤ px *ℤ rw')) ((n *ℤ (c *ℤ rw') +ℤ m *ℤ (d *ℤ pw)) *ℤ e) (c *ℤ rw') (d *ℤ (qx *ℤ pw -ℤ px *ℤ qw)) (n *ℤ e) (d *ℤ pw) (c *ℤ (rx *ℤ qw -ℤ qx *ℤ rw')) (m *ℤ e) h k
    (rw (dif-up px, dif-up pw, dif-up qx, dif-up qw, dif-up rx, dif-up rw', dif-up n, dif-up d, dif-up m, dif-up c, dif-up e) (simp (dif-mul, dif-add, dif-neg, dif-pos) (dif-same _ _ _ _ (omega arith))))

pub onto-add : (p : Point) (e : Exp) (n d : ℤ) (q : Point) (m c : ℤ) (r : Point) → pos 1 ≤ℤ q.w → Onto p e n d q → Onto q e m c r → Onto p e (n *ℤ (c *ℤ r.w) +ℤ m *ℤ (d *ℤ p.w)) (d *ℤ c *ℤ q.w) r
onto-add p e n d q m c r u h k = record {
  below = positive-mul (d *ℤ c) q.w (positive-mul d c h.below k.below) u;
  x = sum-one p.x p.w q.x q.w r.x r.w n d m c e.a h.x k.x;
  y = sum-one p.y p.w q.y q.w r.y r.w n d m c e.b h.y k.y;
}

scaled-one : (v n d e j : ℤ) → d *ℤ v ≡ n *ℤ (j *ℤ e) → d *ℤ v ≡ (n *ℤ j) *ℤ e
scaled-one v n d e j h = h ∙ group n j e
  where
    group : (n j e : ℤ) → n *ℤ (j *ℤ e) ≡ (n *ℤ j) *ℤ e
    group n j e = rw (dif-up n, dif-up j, dif-up e) (simp (dif-mul) (dif-same _ _ _ _ (omega arith)))

pub onto-scale : (p : Point) (e : Exp) (j n d : ℤ) (q : Point) → Onto p (scale j e) n d q → Onto p e (n *ℤ j) d q
onto-scale p e j n d q h = record { below = h.below; x = scaled-one (difference p q).a n d e.a j h.x; y = scaled-one (difference p q).b n d e.b j h.y }
