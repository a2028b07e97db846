-- Each wall on a point has a half-wall there, so what holds of the walls of all half-walls holds of them.
use Rattle.std.proofs.Common.{◌≡◌, refl, subst, Bool, true, false, List, [], ◌∷◌, inl, inr}
use Rattle.std.specs.Prelude.{ℤ, pos, negsuc, nat_abs, not, ◌&&◌, ◌||◌, filter, flat_map}
use Rattle.scattering.specs.Collections.{In, Every}
use Rattle.scattering.specs.Plane.{Point}
use Rattle.scattering.specs.Wall.{WallKind, Line, Incoming, Outgoing, Wall, is_on, starts_at, allows}
use Rattle.scattering.specs.LocalProduct.{Half, halves, half_walls}
use Rattle.scattering.proofs.Lists.{In-mapped, In-flat_map, In-in_order, filter-keeps, Every-at}
use Rattle.crossing_theory.proofs.HalfWalls.{half}
use Rattle.crossing_theory.proofs.OtherFunctions.{before}
use Rattle.plane_geom.specs.Shown.{point_of}
use Rattle.plane_geom.specs.declared.Point.{Point as CodePoint}
use Rattle.scatter_diagram.specs.Shown.{wall_of}
use Rattle.vertex_lie.specs.declared.leading_part.Axis.{Axis}
use Rattle.vertex_lie.specs.Leading.{axis_of}
use Rattle.local_product.specs.declared.half_walls.HalfWall.{HalfWall}
use Rattle.local_product.specs.Shown.{halves_of}
use Rattle.local_product.specs.OneSide.{Turns, IsEdge}

-- a side to which a wall of this kind has a half-wall at each of its points
abbrev some_side : WallKind → ℤ
some_side Line = pos 1
some_side Incoming = pos 1
some_side Outgoing = negsuc 0

has-half : (ws : List Wall) (p : Point) (w : Wall) → In w ws → is_on w p ≡ true → In (half w (some_side w.kind)) (half_walls ws p)
has-half ws p w i o =
    In-in_order before (flat_map (halves p) ws) (half w (some_side w.kind))
    (In-flat_map (halves p) ws w (half w (some_side w.kind)) i
    (In-mapped (λ (s : ℤ). half w s) (filter (λ s. is_on w p && (not (starts_at w p) || allows w.kind s)) (pos 1 ∷ negsuc 0 ∷ [])) (some_side w.kind)
    (filter-keeps (λ s. is_on w p && (not (starts_at w p) || allows w.kind s)) (pos 1 ∷ negsuc 0 ∷ []) (some_side w.kind) (a_side w.kind) (rw (o, allowed w.kind) (either (starts_at w p))))))
  where
    a_side : (k : WallKind) → In (some_side k) (pos 1 ∷ negsuc 0 ∷ [])
    a_side Line = inl refl
    a_side Incoming = inl refl
    a_side Outgoing = inr (inl refl)

    allowed : (k : WallKind) → allows k (some_side k) ≡ true
    allowed Line = refl
    allowed Incoming = refl
    allowed Outgoing = refl

    either : (b : Bool) → true && (not b || true) ≡ true
    either true = refl
    either false = refl

halves-every : (P : Wall → Type 0) (hs : List HalfWall) → Every (λ h. P (wall_of h.wall.now)) hs → Every (λ h. P h.wall) (halves_of hs)
halves-every P [] e = tt
halves-every P (h ∷ hs) e = (e.0, halves-every P hs e.1)

pub one-sided : (p : CodePoint) (axis : Axis) (σ : ℤ) (hs : List HalfWall) → nat_abs σ ≡ 1 → Every (λ h. Turns (point_of p) σ (axis_of axis) (wall_of h.wall.now)) hs → IsEdge p axis hs
one-sided p axis σ hs n e ws q = (σ, n, λ w i o l. turns w (has-half ws (point_of p) w i o))
  where
    all : Every (λ h. Turns (point_of p) σ (axis_of axis) h.wall) (half_walls ws (point_of p))
    all = subst (λ (l : List Half). Every (λ h. Turns (point_of p) σ (axis_of axis) h.wall) l) q (halves-every (Turns (point_of p) σ (axis_of axis)) hs e)

    turns : (w : Wall) → In (half w (some_side w.kind)) (half_walls ws (point_of p)) → Turns (point_of p) σ (axis_of axis) w
    turns w h = Every-at (λ (g : Half). Turns (point_of p) σ (axis_of axis) g.wall) (half_walls ws (point_of p)) (half w (some_side w.kind)) all h
