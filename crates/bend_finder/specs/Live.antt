-- The live walls of a diagram, cut to a degree.
--     live_cut b ws         the walls ws cut to degree b, without those whose functions become 1
--     live_of f             these, of what contracts see of the walls and the degree
--     IsReady b e rs        rs are the runs of these walls of the diagram e
use Rattle.std.specs.Prelude.{ℕ, ◌≤◌, List, filter}
use Rattle.limits.specs.Limits.{highest_order}
use Rattle.scattering.specs.Collections.{Every}
use Rattle.scattering.specs.Wall.{Wall, walls, is_live, cut_walls}
use Rattle.scatter_diagram.specs.Listed.{SeenDiagram, AreOfOrder}
use Rattle.bend_finder.specs.Ahead.{SeenFinder}
use Rattle.bend_finder.specs.Runs.{LiveRun, AreLiveRunsOf}

abbrev pub live_cut : ℕ → List Wall → List Wall
live_cut b ws = filter is_live (cut_walls b ws)

abbrev pub live_of : SeenFinder → List Wall
live_of f = live_cut f.limit f.walls

pub record IsReady (b : ℕ) (e : SeenDiagram) (rs : List LiveRun) : Type 0 where
  pub low : b ≤ highest_order
  pub within : b ≤ e.order
  pub runs : AreLiveRunsOf (live_cut b (walls e.diagram)) rs
  pub order : Every (λ r. AreOfOrder b r.items) rs
