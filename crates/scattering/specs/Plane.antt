-- Points of the plane with rational numbers, and places along a line.
--     Point, IsPoint            (x/w, y/w); in lowest terms, w at least 1
--     IsDirection d             the gcd of d's numbers is 1
--     IsNear p                  the numbers of p are at most 2^40
--     FromOn p e q, Beyond p e q       q = p + s·e with s at least 0; with s above 0
--     point_before, turns_before       the order of points; the order by angle, from (1, 0) itself
use Rattle.std.specs.Prelude.{◌≡◌, ℕ, ◌≤◌, nat_abs, Bool, not, ◌&&◌, ◌||◌, ℤ, pos, ◌+ℤ◌, ◌-ℤ◌, ◌*ℤ◌, int_lt, ◌≤ℤ◌}
use Rattle.std.specs.Int.{◌∣◌, IsGcd}
use Rattle.limits.specs.Limits.{largest_coordinate}
use Rattle.scattering.specs.Series.{Exp, int_eq, det}

-- (x/w, y/w)
pub record Point : Type 0 where
  pub x : ℤ
  pub y : ℤ
  pub w : ℤ

-- in lowest terms, w at least 1
pub record IsPoint (p : Point) : Type 0 where
  pub below : pos 1 ≤ℤ p.w
  pub lowest : (d : ℕ) → d ∣ nat_abs p.x → d ∣ nat_abs p.y → d ∣ nat_abs p.w → d ≡ 1

abbrev pub IsDirection : Exp → Type 0
IsDirection d = IsGcd (nat_abs d.a) (nat_abs d.b) 1

abbrev pub point_eq : Point → Point → Bool
point_eq p q = int_eq p.x q.x && int_eq p.y q.y && int_eq p.w q.w

-- by x, then y, as rational numbers
abbrev pub point_before : Point → Point → Bool
point_before p q = int_lt (p.x *ℤ q.w) (q.x *ℤ p.w) || (int_eq (p.x *ℤ q.w) (q.x *ℤ p.w) && int_lt (p.y *ℤ q.w) (q.y *ℤ p.w))

abbrev pub IsNear : Point → Type 0
IsNear p = (nat_abs p.x ≤ largest_coordinate) × (nat_abs p.y ≤ largest_coordinate) × (nat_abs p.w ≤ largest_coordinate)

-- q - p, times the positive number p.w·q.w
abbrev pub difference : Point → Point → Exp
difference p q = record { a = q.x *ℤ p.w -ℤ p.x *ℤ q.w; b = q.y *ℤ p.w -ℤ p.y *ℤ q.w }

-- q = p + (n/d)·e
pub record IsAt (p : Point) (e : Exp) (n d : ℤ) (q : Point) : Type 0 where
  pub below : pos 1 ≤ℤ d
  pub x : q.x *ℤ (p.w *ℤ d) ≡ q.w *ℤ (p.x *ℤ d +ℤ n *ℤ e.a *ℤ p.w)
  pub y : q.y *ℤ (p.w *ℤ d) ≡ q.w *ℤ (p.y *ℤ d +ℤ n *ℤ e.b *ℤ p.w)

-- q = p + s·e for a rational s, at least 0; above 0
abbrev pub FromOn : Point → Exp → Point → Type 0
FromOn p e q = (n d : ℤ) × (pos 0 ≤ℤ n) × IsAt p e n d q

abbrev pub Beyond : Point → Exp → Point → Type 0
Beyond p e q = (n d : ℤ) × (pos 1 ≤ℤ n) × IsAt p e n d q

-- angles counter-clockwise from (1, 0) itself: first those below the half turn
abbrev pub is_upper : Exp → Bool
is_upper d = int_lt (pos 0) d.b || (int_eq d.b (pos 0) && int_lt (pos 0) d.a)

abbrev pub turns_before : Exp → Exp → Bool
turns_before d e = (is_upper d && not (is_upper e)) || ((not (is_upper e) || is_upper d) && (not (is_upper d) || is_upper e) && int_lt (pos 0) (det d e))
