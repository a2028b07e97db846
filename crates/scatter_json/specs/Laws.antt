-- What is proved here of the JSON form: that it has one reading, and a diagram one text.
use Rattle.std.specs.Prelude.{◌≡◌, ℕ, List, Option}
use Rattle.scattering.specs.Collections.{Every}
use Rattle.scattering.specs.Wall.{IsWall, Diagram, walls}
use Rattle.scattering.specs.Stops.{StopCause}
use Rattle.scatter_json.specs.JsonText.{IsJsonText}

-- a diagram has one text
abbrev pub JsonTextIsOne : Type 0
JsonTextIsOne = (vars order n : ℕ) (e : Diagram) (stop : Option (ℕ × StopCause)) (text other : List ℕ) → Every (IsWall n) (walls e)
    → IsJsonText vars order e stop text → IsJsonText vars order e stop other → text ≡ other
