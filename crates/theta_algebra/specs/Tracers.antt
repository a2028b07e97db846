-- Tracers of one diagram's lines, by the order to which they are.
--     AreTracersOf ws m      each tracer that the map m has traces lines by the walls ws, cut to the degree that it has there
use Rattle.std.specs.Prelude.{◌≡◌, ℕ, List, Some}
use Rattle.std.specs.BTreeMap.{BTreeMap, get}
use Rattle.std.specs.Ordering.{nat_cmp}
use Rattle.scattering.specs.Wall.{Wall}
use Rattle.bend_finder.specs.Ahead.{SeenFinder, finder}

abbrev pub AreTracersOf : List Wall → BTreeMap ℕ SeenFinder → Type 0
AreTracersOf ws m = (k : ℕ) (f : SeenFinder) → get nat_cmp m k ≡ Some f → f ≡ finder ws k
