-- Walls of the program as walls of the definitions: what they meet, and their functions cut.
use Rattle.std.proofs.Common.{◌≡◌, ℕ, ◌<◌, ◌≤◌, ◌^◌, refl, sym, subst, Bool, true, false, zero, suc, length, get_or, List, [], ◌∷◌, arith}
use Rattle.std.specs.Prelude.{nat_le}
use Rattle.scattering.specs.Collections.{Every}
use Rattle.scattering.specs.Series.{Sum, IsWallFunction, degree, cut, mass_to}
use Rattle.scattering.specs.Wall.{WallKind, Wall, IsWall, cut_wall, cut_walls}
use Rattle.scattering.proofs.Lists.{Every-filter}
use Rattle.completion_theory.proofs.LowerOrders.{wall-cut}
use Rattle.trunc_series.specs.Shown.{Seen, IsSeriesOf}
use Rattle.trunc_series.proofs.Unique.{series-terms}
use Rattle.plane_geom.specs.Shown.{vector_of}
use Rattle.scatter_diagram.specs.declared.wall.Wall.{Wall as CodeWall}
use Rattle.scatter_diagram.specs.Proper.{IsProper, IsTame, AreTameWalls}
use Rattle.scatter_diagram.specs.Shown.{wall_of, walls_of}
use Rattle.scatter_diagram.specs.Listed.{AreOfOrder}

pub is-wall : (w : CodeWall) → IsWall w.function.order (wall_of w)
is-wall w = record { point = w.at.reduced; direction = w.dir.primitive; function = w.proper.function }

pub are-walls : (n : ℕ) (ws : List CodeWall) → AreOfOrder n ws → Every (IsWall n) (walls_of ws)
are-walls n [] h = tt
are-walls n (w ∷ ws) h = (subst (λ (m : ℕ). IsWall m (wall_of w)) h.0 (is-wall w), are-walls n ws h.1)

-- what the type keeps of each function beside that
pub are-tame : (ws : List CodeWall) → AreTameWalls (walls_of ws)
are-tame [] = tt
are-tame (w ∷ ws) = (w.proper.tame, are-tame ws)

pub are-light : (n : ℕ) (ws : List CodeWall) → AreOfOrder n ws → Every (λ (w : Wall). mass_to n w.function ≤ 2 ^ 127) (walls_of ws)
are-light n [] h = tt
are-light n (w ∷ ws) h = (subst (λ (m : ℕ). mass_to m w.function.terms ≤ 2 ^ 127) h.0 w.proper.mass, are-light n ws h.1)

-- ---- a function cut to a lower degree

mass-cut : (n m : ℕ) (f : Sum) → n ≤ m → mass_to n (cut n f) ≤ mass_to m f
mass-cut n m [] h = omega arith
mass-cut n m (t ∷ f) h = go (nat_le (degree t.0) n) refl (mass-cut n m f h)
  where
    higher : (d : ℕ) → nat_le d n ≡ true → nat_le d m ≡ true
    higher d e = grind (arith, h)

    go : (b : Bool) → nat_le (degree t.0) n ≡ b → mass_to n (cut n f) ≤ mass_to m f → mass_to n (cut n (t ∷ f)) ≤ mass_to m (t ∷ f)
    go true e i = rw e (rw e (rw (higher (degree t.0) e) (omega (arith, i))))
    go false e i = rw e (omega (arith, i))

pub function-cut : (w : CodeWall) (n : ℕ) (s : Seen) → n ≤ w.function.order → IsSeriesOf s n (cut n w.function.terms) → IsProper w.dir s × (s.terms ≡ cut n w.function.terms)
function-cut w n s l h = (record { function = made; mass = mass; tame = tame }, e)
  where
    cut-is : IsWall n (cut_wall n (wall_of w))
    cut-is = wall-cut n w.function.order (wall_of w) (is-wall w)

    e : s.terms ≡ cut n w.function.terms
    e = series-terms s n n (cut n w.function.terms) h cut-is.function.series

    made : IsWallFunction s.order (vector_of w.dir) s.terms
    made = subst (λ (f : Sum). IsWallFunction s.order (vector_of w.dir) f) (sym e) (subst (λ (m : ℕ). IsWallFunction m (vector_of w.dir) (cut n w.function.terms)) (sym h.order) cut-is.function)

    mass : mass_to s.order s.terms ≤ 2 ^ 127
    mass = rw (h.order, e) (let a = mass-cut n w.function.order w.function.terms l in omega (arith, a, w.proper.mass))

    tame : Every IsTame s.terms
    tame = subst (Every IsTame) (sym e) (Every-filter IsTame _ w.function.terms w.proper.tame)

-- ---- a wall by its place in a list

pub wall-at : (P : Wall → Type 0) (ws : List CodeWall) (i : ℕ) (w : CodeWall) → i < length ws → w ≡ get_or ws i w → Every P (walls_of ws) → P (wall_of w)
wall-at P [] i w l e h = absurd (omega (arith, l))
wall-at P (v ∷ ws) zero w l e h = subst (λ (u : CodeWall). P (wall_of u)) (sym e) h.0
wall-at P (v ∷ ws) (suc i) w l e h = wall-at P ws i w (omega (arith, l)) e h.1

pub kinds-cut : (k : WallKind) (n : ℕ) (ws : List Wall) → Every (λ w. w.kind ≡ k) ws → Every (λ w. w.kind ≡ k) (cut_walls n ws)
kinds-cut k n [] h = tt
kinds-cut k n (w ∷ ws) h = (h.0, kinds-cut k n ws h.1)
