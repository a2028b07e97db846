-- Supporting lines of walls, and the walls along each.
--     SupportingLine            a line of the plane, by its direction and its place
--     line_through p d, supporting_line w      the line through p along d; the supporting line of a wall
--     line_before, same_line    the order of lines, and whether two are one
--     line_holds l p            whether the point is on the line
--     by_line ws                the walls in the order of their lines
--     supporting_lines ws       the supporting lines of the walls, in order, each once
--     walls_along ws l          the walls along the line l, as they stand in ws
--     runs ws                   the walls along each supporting line, line by line
--     AreBounds low high bs     bounds that do not fall, from low to high
--     parts bounds xs           what lies in xs from each bound to the next
use Rattle.std.specs.Prelude.{ℕ, ◌-◌, ◌≤◌, Bool, ◌&&◌, ◌||◌, cond, List, [], ◌∷◌, map, filter, take, drop, ℤ, ◌*ℤ◌, neg_ℤ, int_lt}
use Rattle.std.specs.List.{dedup}
use Rattle.scattering.specs.Collections.{in_order}
use Rattle.scattering.specs.Series.{Exp, origin, det, int_eq, exp_eq, exp_before}
use Rattle.scattering.specs.Plane.{Point}
use Rattle.scattering.specs.Wall.{Wall}

-- a line: its direction, and the number over/under that det(dir, p) is for each of its points p
pub record SupportingLine : Type 0 where
  pub dir : Exp
  pub over : ℤ
  pub under : ℤ

-- of d and -d the one whose first number is positive, or 0 with a positive second one
abbrev pub line_direction : Exp → Exp
line_direction d = cond (exp_before origin d) d (record { a = neg_ℤ d.a; b = neg_ℤ d.b })

-- det(d, p), times p.w
abbrev pub offset : Exp → Point → ℤ
offset d p = det d (record { a = p.x; b = p.y })

abbrev pub line_through : Point → Exp → SupportingLine
line_through p d = record { dir = line_direction d; over = offset (line_direction d) p; under = p.w }

abbrev pub supporting_line : Wall → SupportingLine
supporting_line w = line_through w.at w.dir

-- by direction, then by place
abbrev pub line_before : SupportingLine → SupportingLine → Bool
line_before l m = exp_before l.dir m.dir || (exp_eq l.dir m.dir && int_lt (l.over *ℤ m.under) (m.over *ℤ l.under))

abbrev pub same_line : SupportingLine → SupportingLine → Bool
same_line l m = exp_eq l.dir m.dir && int_eq (l.over *ℤ m.under) (m.over *ℤ l.under)

abbrev pub wall_before : Wall → Wall → Bool
wall_before u v = line_before (supporting_line u) (supporting_line v)

-- whether the line passes through a point
abbrev pub line_holds : SupportingLine → Point → Bool
line_holds l p = int_eq (l.over *ℤ p.w) (offset l.dir p *ℤ l.under)

-- the walls in the order of their lines; those along one line keep their order
abbrev pub by_line : List Wall → List Wall
by_line ws = in_order wall_before ws

abbrev pub supporting_lines : List Wall → List SupportingLine
supporting_lines ws = dedup same_line (in_order line_before (map supporting_line ws))

abbrev pub walls_along : List Wall → SupportingLine → List Wall
walls_along ws l = filter (λ w. same_line l (supporting_line w)) ws

abbrev pub runs : List Wall → List (List Wall)
runs ws = map (walls_along ws) (supporting_lines ws)

-- bounds that do not fall, from low to high
abbrev pub AreBounds : ℕ → ℕ → List ℕ → Type 0
AreBounds low high [] = low ≤ high
AreBounds low high (b ∷ bs) = (low ≤ b) × AreBounds b high bs

-- the parts of a list from each bound to the next
abbrev pub parts : {A : Type 0} → List ℕ → List A → List (List A)
parts [] xs = []
parts (a ∷ []) xs = []
parts (a ∷ b ∷ bs) xs = take (b - a) (drop a xs) ∷ parts (b ∷ bs) xs
