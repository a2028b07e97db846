-- Walls in the order of their supporting lines.
--     line_order, exp_order      the orders of lines and of directions
--     places_of, stored_walls    of walls with their places in another list
--     IsInLineOrder ws vs        vs are the walls ws in the order of their lines
--     AreRunsOf ws vs bs         the parts of vs between the bounds bs are the runs of ws
--     ArePositionsOf ks js       js tells where each of the numbers ks stands
use Rattle.std.specs.Prelude.{◌≡◌, ℕ, ◌<◌, cond, List, map, length, slice_index, Bool}
use Rattle.std.specs.declared.cmp.Ordering.{Ordering}
use Rattle.std.specs.declared.cmp.Ordering.TheVariants.{Less, Equal, Greater}
use Rattle.scattering.specs.Collections.{in_order}
use Rattle.scattering.specs.Series.{Exp, exp_before}
use Rattle.scattering.specs.SupportingLine.{SupportingLine, line_before, wall_before, runs, parts, AreBounds}
use Rattle.scatter_diagram.specs.declared.wall.Wall.{Wall as CodeWall}
use Rattle.scatter_diagram.specs.Shown.{wall_of, walls_of}

abbrev pub exp_order : Exp → Exp → Ordering
exp_order d e = cond (exp_before d e) Less (cond (exp_before e d) Greater Equal)

abbrev pub line_order : SupportingLine → SupportingLine → Ordering
line_order l m = cond (line_before l m) Less (cond (line_before m l) Greater Equal)

abbrev pub Placed : Type 0
Placed = ℕ × CodeWall

abbrev pub placed_before : Placed → Placed → Bool
placed_before u v = wall_before (wall_of u.1) (wall_of v.1)

abbrev pub places_of : List Placed → List ℕ
places_of ps = map (λ (p : Placed). p.0) ps

abbrev pub stored_walls : List Placed → List CodeWall
stored_walls ps = map (λ (p : Placed). p.1) ps

abbrev pub IsInLineOrder : List CodeWall → List CodeWall → Type 0
IsInLineOrder ws vs = vs ≡ in_order (λ u v. wall_before (wall_of u) (wall_of v)) ws

-- the parts of vs between the bounds are the runs of ws
pub record AreRunsOf (ws vs : List CodeWall) (bounds : List ℕ) : Type 0 where
  pub some : 0 < length bounds
  pub rise : AreBounds 0 (length vs) bounds
  pub runs : map walls_of (parts bounds vs) ≡ runs (walls_of ws)

-- positions tells where in places each of its numbers stands
pub record ArePositionsOf (places positions : List ℕ) : Type 0 where
  pub many : length positions ≡ length places
  pub within : (i : ℕ) → i < length places → slice_index positions (slice_index places i) < length places
  pub found : (i : ℕ) → i < length places → slice_index places (slice_index positions (slice_index places i)) ≡ slice_index places i
