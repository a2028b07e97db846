-- Supporting lines of runs, as the program keeps them beside the walls.
--     seen_line l                 a line of the program
--     place_before, place_order   how parallel lines stand
--     IsThrough p l               l is the line through p along its direction
--     AreLinesOf gs ls            the lines of the runs, one for each: that of its first wall
--     AreRunLines e ls            those of the runs of the walls of e
--     IsBefore l m                l and m are parallel, and l stands before m
--     Rise b e ls                 from place b to e lines are parallel, and rise
--     AreParallels ls b es n      es are the places where the classes of parallel lines from b on end, the last at n
--     AreBefore b e m ls          the lines from b to e stand before m
--     AreNotBefore b e m ls       none of them does
--     IsOnlyAt b e p ls o         of the lines from b to e none but that at o holds p
use Rattle.std.specs.Prelude.{◌≡◌, ◌≢◌, ℕ, ◌+◌, ◌<◌, ◌≤◌, Bool, true, false, ◌*ℤ◌, int_lt, List, [], ◌∷◌, ⊤, Option, Some, length, slice_index_or}
use Rattle.std.specs.declared.cmp.Ordering.{Ordering}
use Rattle.std.specs.Ordering.{int_cmp}
use Rattle.scattering.specs.Plane.{Point}
use Rattle.scattering.specs.SupportingLine.{SupportingLine, offset, supporting_line, line_holds, runs}
use Rattle.scattering.specs.Wall.{Wall, walls}
use Rattle.plane_geom.specs.Shown.{vector_of}
use Rattle.scatter_diagram.specs.Listed.{SeenDiagram}
use Rattle.local_product.specs.declared.run_line.RunLine.{RunLine}

abbrev pub seen_line : RunLine → SupportingLine
seen_line l = record { dir = vector_of l.dir; over = l.over; under = l.under }

abbrev pub place_before : SupportingLine → SupportingLine → Bool
place_before l m = int_lt (l.over *ℤ m.under) (m.over *ℤ l.under)

abbrev pub place_order : SupportingLine → SupportingLine → Ordering
place_order l m = int_cmp (l.over *ℤ m.under) (m.over *ℤ l.under)

-- a line through the point
abbrev pub IsThrough : Point → RunLine → Type 0
IsThrough p l = (l.over ≡ offset (vector_of l.dir) p) × (l.under ≡ p.w)

-- that of the first wall
abbrev pub IsLineOfFirst : List Wall → RunLine → Type 0
IsLineOfFirst [] l = ⊤
IsLineOfFirst (w ∷ ws) l = seen_line l ≡ supporting_line w

abbrev pub AreLinesOf : List (List Wall) → List RunLine → Type 0
AreLinesOf [] [] = ⊤
AreLinesOf [] (l ∷ ls) = ⊥
AreLinesOf (g ∷ gs) [] = ⊥
AreLinesOf (g ∷ gs) (l ∷ ls) = IsLineOfFirst g l × AreLinesOf gs ls

-- the lines of a diagram's runs
abbrev pub AreRunLines : SeenDiagram → List RunLine → Type 0
AreRunLines e ls = AreLinesOf (runs (walls e.diagram)) ls

-- ---- parallel lines

abbrev pub IsBefore : RunLine → RunLine → Type 0
IsBefore l m = (vector_of l.dir ≡ vector_of m.dir) × (place_before (seen_line l) (seen_line m) ≡ true)

abbrev pub Rise : ℕ → ℕ → List RunLine → Type 0
Rise b e ls = (i : ℕ) (k : RunLine) → b ≤ i → i + 1 < e → IsBefore (slice_index_or ls i k) (slice_index_or ls (i + 1) k)

abbrev pub AreParallels : List RunLine → ℕ → List ℕ → ℕ → Type 0
AreParallels ls b [] n = b ≡ n
AreParallels ls b (e ∷ es) n = (b < e) × (e ≤ length ls) × Rise b e ls × AreParallels ls e es n

-- those from b to e stand before m
abbrev pub AreBefore : ℕ → ℕ → RunLine → List RunLine → Type 0
AreBefore b e m ls = (j : ℕ) (k : RunLine) → b ≤ j → j < e → place_before (seen_line (slice_index_or ls j k)) (seen_line m) ≡ true

-- none of those from b to e does
abbrev pub AreNotBefore : ℕ → ℕ → RunLine → List RunLine → Type 0
AreNotBefore b e m ls = (j : ℕ) (k : RunLine) → b ≤ j → j < e → place_before (seen_line (slice_index_or ls j k)) (seen_line m) ≡ false

abbrev pub IsOnlyAt : ℕ → ℕ → Point → List RunLine → Option ℕ → Type 0
IsOnlyAt b e p ls o = (j : ℕ) (k : RunLine) → b ≤ j → j < e → o ≢ Some j → line_holds (seen_line (slice_index_or ls j k)) p ≡ false
