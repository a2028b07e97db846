-- What makes a point special, part by part.
use Rattle.std.specs.Prelude.{Bool, ◌&&◌, not, IsTrue, List}
use Rattle.scattering.specs.Collections.{In}
use Rattle.scattering.specs.Plane.{Point}
use Rattle.scattering.specs.Wall.{Wall, is_live, is_on, starts_at, are_parallel}

abbrev pub live_holds : Wall → Point → Bool
live_holds w p = is_live w && is_on w p

abbrev pub live_starts : Wall → Point → Bool
live_starts w p = starts_at w p && is_live w

abbrev pub live_crosses : Wall → Point → Wall → Bool
live_crosses v p u = live_holds v p && not (are_parallel u v)

-- a live wall on p isn't parallel to u
abbrev pub IsCrossedBy : List Wall → Point → Wall → Type 0
IsCrossedBy ws p u = (v : Wall) × In v ws × IsTrue (live_crosses v p u)

abbrev pub HasCrossing : List Wall → Point → Wall → Type 0
HasCrossing ws p u = IsTrue (live_holds u p) × IsCrossedBy ws p u

abbrev pub IsCrossedAt : List Wall → Point → Type 0
IsCrossedAt ws p = (u : Wall) × In u ws × HasCrossing ws p u

-- a live ray starts at p
abbrev pub StartsLive : List Wall → Point → Type 0
StartsLive ws p = (w : Wall) × In w ws × IsTrue (live_starts w p)
