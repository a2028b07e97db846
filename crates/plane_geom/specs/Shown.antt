-- Points, directions and supports as the definitions see them, and what their calls answer.
use Rattle.std.specs.Prelude.{◌≡◌, ◌≢◌, ℕ, ℤ, pos, negsuc, neg_ℤ, ◌+ℤ◌, ◌*ℤ◌, ◌≤ℤ◌, int_lt, cond, nat_abs, ◌/◌, ◌<◌, ◌≤◌, suc, Option, MatchOption, ⊤}
use Rattle.std.specs.declared.cmp.Ordering.{Ordering}
use Rattle.std.specs.declared.cmp.Ordering.TheVariants.{Less, Equal, Greater}
use Rattle.limits.specs.Limits.{largest_coordinate}
use Rattle.scattering.specs.Series.{Exp, det}
use Rattle.scattering.specs.Plane.{Point, IsPoint, IsNear, FromOn, IsAt, point_before, turns_before}
use Rattle.plane_geom.specs.declared.Point.{Point as CodePoint}
use Rattle.plane_geom.specs.declared.Direction.{Direction}
use Rattle.plane_geom.specs.declared.Support.{Support}
use Rattle.plane_geom.specs.declared.Support.TheVariants.{Line, Half}
use Rattle.plane_geom.specs.declared.Meeting.{Meeting}
use Rattle.plane_geom.specs.declared.Meeting.TheVariants.{Parallel, Outside, TooFar, At}

abbrev pub point_of : CodePoint → Point
point_of p = record { x = p.x; y = p.y; w = p.w }

abbrev pub vector_of : Direction → Exp
vector_of d = record { a = d.a; b = d.b }

-- ---- supports
abbrev pub support_at : Support → Point
support_at (Line p d) = point_of p
support_at (Half p d) = point_of p

abbrev pub support_dir : Support → Exp
support_dir (Line p d) = vector_of d
support_dir (Half p d) = vector_of d

-- q = p + s·e for a rational s
abbrev pub OnWhole : Point → Exp → Point → Type 0
OnWhole p e q = (m n : ℤ) × IsAt p e m n q

abbrev pub OnSupport : Support → Point → Type 0
OnSupport (Line p d) q = OnWhole (point_of p) (vector_of d) q
OnSupport (Half p d) q = FromOn (point_of p) (vector_of d) q

-- ---- points
-- p is (x/w, y/w), for w other than 0
abbrev pub IsQuotient : ℤ → ℤ → ℤ → Point → Type 0
IsQuotient x y w p = IsPoint p × (p.x *ℤ w ≡ x *ℤ p.w) × (p.y *ℤ w ≡ y *ℤ p.w)

-- (x/w, y/w) is no near point
abbrev pub IsFar : ℤ → ℤ → ℤ → Type 0
IsFar x y w = (p : Point) → IsQuotient x y w p → IsNear p → ⊥

abbrev pub point_order : Point → Point → Ordering
point_order p q = cond (point_before p q) Less (cond (point_before q p) Greater Equal)

abbrev pub position_order : CodePoint → CodePoint → Ordering
position_order p q = point_order (point_of p) (point_of q)

-- x divided by g, rounded toward 0
abbrev pub over : ℕ → ℤ → ℤ
over g (pos n) = pos (n / g)
over g (negsuc n) = neg_ℤ (pos (suc n / g))

abbrev pub IsNearOver : ℕ → ℤ → Type 0
IsNearOver g x = nat_abs x / g ≤ largest_coordinate

abbrev pub IsFarOver : ℕ → ℤ → Type 0
IsFarOver g x = largest_coordinate < nat_abs x / g

-- ---- sides and angles
abbrev pub signum : ℤ → ℤ
signum z = cond (int_lt z (pos 0)) (negsuc 0) (cond (int_lt (pos 0) z) (pos 1) (pos 0))

abbrev pub turn_order : Exp → Exp → Ordering
turn_order d e = cond (turns_before d e) Less (cond (turns_before e d) Greater Equal)

abbrev pub angle_order : Direction → Direction → Ordering
angle_order d e = turn_order (vector_of d) (vector_of e)

-- the order of two directions of one half, by the sign of their determinant
abbrev pub order_of : ℤ → Ordering
order_of t = cond (int_lt (pos 0) t) Less (cond (int_lt t (pos 0)) Greater Equal)

-- ---- meetings
-- where the two supports meet, tested in this order
abbrev pub IsMeeting : Support → Support → Meeting → Type 0
IsMeeting s t Parallel = det (support_dir s) (support_dir t) ≡ pos 0
IsMeeting s t Outside = (det (support_dir s) (support_dir t) ≢ pos 0) × ((q : Point) → IsPoint q → OnSupport s q → OnSupport t q → ⊥)
IsMeeting s t TooFar = (det (support_dir s) (support_dir t) ≢ pos 0) × ((q : Point) × IsPoint q × OnSupport s q × OnSupport t q × (IsNear q → ⊥))
IsMeeting s t (At p) = (det (support_dir s) (support_dir t) ≢ pos 0) × OnSupport s (point_of p) × OnSupport t (point_of p)

-- the supports aren't parallel and have a point in common
abbrev pub DoMeet : Support → Support → Type 0
DoMeet s t = (det (support_dir s) (support_dir t) ≢ pos 0) × ((q : Point) × IsPoint q × OnSupport s q × OnSupport t q)

-- a half-line holds what lies at n/t or later along its line where n/t is at least 0
abbrev pub HoldsAt : Support → ℤ → ℤ → Type 0
HoldsAt (Line p d) n t = ⊤
HoldsAt (Half p d) n t = pos 0 ≤ℤ (n *ℤ t)

-- the near point p + n/(p.w·r.w·t)·d, or that this is far
abbrev pub IsCommon : Point → Exp → Point → ℤ → ℤ → Option CodePoint → Type 0
IsCommon p d r n t o =
    MatchOption o (IsFar (p.x *ℤ r.w *ℤ t +ℤ n *ℤ d.a) (p.y *ℤ r.w *ℤ t +ℤ n *ℤ d.b) (p.w *ℤ r.w *ℤ t))
    (λ q. IsQuotient (p.x *ℤ r.w *ℤ t +ℤ n *ℤ d.a) (p.y *ℤ r.w *ℤ t +ℤ n *ℤ d.b) (p.w *ℤ r.w *ℤ t) (point_of q))
