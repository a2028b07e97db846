-- What is kept to trace lines for one ask after another.
--     IsKnownReach b ws known     where exponents in reach are known, they are those of reach at most b
--     IsReadyToTrace b e f known  f finds the bends in the diagram e, cut to degree b, and so it is with what is known
use Rattle.std.specs.Prelude.{◌≡◌, ℕ, ◌≤◌, List, Option, MatchOption}
use Rattle.std.specs.BTreeMap.{BTreeMap}
use Rattle.scattering.specs.Wall.{Wall, walls}
use Rattle.trunc_series.specs.declared.key.Exp.{Exp as CodeExp}
use Rattle.scatter_diagram.specs.Listed.{SeenDiagram}
use Rattle.bend_finder.specs.Ahead.{SeenFinder, finder}
use Rattle.broken_lines.specs.Reached.{IsReachMap}

abbrev pub IsKnownReach : ℕ → List Wall → Option (BTreeMap CodeExp ℕ) → Type 0
IsKnownReach b ws known = MatchOption known (Unit {0}) (IsReachMap b ws)

pub record IsReadyToTrace (b : ℕ) (e : SeenDiagram) (f : SeenFinder) (known : Option (BTreeMap CodeExp ℕ)) : Type 0 where
  pub limit : b ≤ e.order
  pub finder : f ≡ finder (walls e.diagram) b
  pub reach : IsKnownReach b (walls e.diagram) known
