-- Walls of a diagram with the tables of their powers.
--     HasTables n t             t has the tables of its wall, to degree n
--     AreTablesOfRun n ws ts    ts are the walls ws, with their tables
--     SeenTables                what contracts see of all tables: whose they are, and of what order
--     AreTablesOf e n rs        rs are the runs of the walls of e, with their tables
--     HalvesHaveTables n hs     half-walls have the tables of their walls
use Rattle.std.specs.Prelude.{◌≡◌, ℕ, ◌≤◌, ◌<◌, List, map, length, Vec}
use Rattle.std.specs.Global.{Global}
use Rattle.limits.specs.Limits.{highest_order}
use Rattle.scattering.specs.Collections.{Every}
use Rattle.scattering.specs.SupportingLine.{runs}
use Rattle.scattering.specs.Wall.{Wall, IsWall, walls}
use Rattle.trunc_series.specs.declared.arithmetic.Arithmetic.TheVariants.{Wrapping}
use Rattle.power_tables.specs.Tables.{IsTableOf}
use Rattle.weight_bounds.specs.Tables.{IsMassTable}
use Rattle.plane_geom.specs.Shown.{vector_of}
use Rattle.scatter_diagram.specs.declared.wall.Wall.{Wall as CodeWall}
use Rattle.scatter_diagram.specs.Listed.{SeenDiagram}
use Rattle.scatter_diagram.specs.Proper.{AreTameWalls}
use Rattle.scatter_diagram.specs.Shown.{wall_of, walls_of}
use Rattle.local_product.specs.declared.half_walls.HalfWall.{HalfWall}
use Rattle.local_product.specs.declared.wall_tables.WallTables.{WallTables}

-- the table of the powers of a wall's function, and that of its masses
abbrev pub HasTables : ℕ → WallTables → Type 0
HasTables n t = IsTableOf Wrapping n t.wall.now.function.terms t.powers × IsMassTable n (vector_of t.wall.now.dir) t.wall.now.function.terms t.masses

abbrev pub tabled_walls : List WallTables → List Wall
tabled_walls ts = map (λ t. wall_of t.wall.now) ts

abbrev pub AreTablesOfRun : ℕ → List CodeWall → List WallTables → Type 0
AreTablesOfRun n ws ts = (tabled_walls ts ≡ walls_of ws) × Every (HasTables n) ts

-- ---- of a diagram

-- what contracts see of all tables
pub record SeenTables : Type 0 where
  pub diagram : SeenDiagram
  pub order : ℕ

abbrev pub tables_to : SeenDiagram → ℕ → SeenTables
tables_to e n = record { diagram = e; order = n }

-- the walls along one line
abbrev pub TabledRun : Type 0
TabledRun = Vec WallTables Global

abbrev pub tabled_runs : List TabledRun → List (List Wall)
tabled_runs rs = map (λ r. tabled_walls r.items) rs

pub record AreTablesOf (e : SeenDiagram) (n : ℕ) (rs : List TabledRun) : Type 0 where
  pub order : n ≤ highest_order
  pub runs : tabled_runs rs ≡ runs (walls e.diagram)
  pub some : Every (λ r. 0 < length r.items) rs
  pub tables : Every (λ r. Every (HasTables n) r.items) rs
  pub proper : Every (IsWall e.order) (walls e.diagram)
  pub tame : AreTameWalls (walls e.diagram)

abbrev pub IsTabled : SeenTables → List TabledRun → Type 0
IsTabled t rs = AreTablesOf t.diagram t.order rs

-- ---- of half-walls

abbrev pub HalfHasTables : ℕ → HalfWall → Type 0
HalfHasTables n h = IsTableOf Wrapping n h.wall.now.function.terms h.powers.now × IsMassTable n (vector_of h.wall.now.dir) h.wall.now.function.terms h.masses.now

abbrev pub HalvesHaveTables : ℕ → List HalfWall → Type 0
HalvesHaveTables n hs = Every (HalfHasTables n) hs

abbrev pub KeepsTables : WallTables → List HalfWall → List HalfWall → Type 0
KeepsTables t old new = (n : ℕ) → HasTables n t → HalvesHaveTables n old → HalvesHaveTables n new

abbrev pub KeepsRunTables : List WallTables → List HalfWall → List HalfWall → Type 0
KeepsRunTables ts old new = (n : ℕ) → Every (HasTables n) ts → HalvesHaveTables n old → HalvesHaveTables n new
