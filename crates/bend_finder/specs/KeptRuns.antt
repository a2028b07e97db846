-- Powers that are kept by supporting line.
--     run_key_cmp               the order of names
--     IsNamedBy k w             the name k is that of the walls of which w is the first
--     IsNamedRun ls k g         g are the walls of ls along one line, and their name is k
--     IsSomeRun ls g            g are the walls of ls along one line, or none
--     AreKeptRuns ls k          what k keeps by a name are powers of the functions of the walls with this name
--     IsReadyWith f k           what a finder keeps
use Rattle.std.specs.Prelude.{◌≡◌, ◌≤◌, ⊤, List, [], ◌∷◌, Some}
use Rattle.std.specs.BTreeMap.{BTreeMap, get}
use Rattle.std.specs.Ordering.{int_cmp, ordering_then}
use Rattle.std.specs.declared.cmp.Ordering.{Ordering}
use Rattle.limits.specs.Limits.{highest_order}
use Rattle.scattering.specs.Collections.{Every}
use Rattle.scattering.specs.Series.{Exp}
use Rattle.scattering.specs.Plane.{Point}
use Rattle.scattering.specs.Wall.{Wall, IsWall}
use Rattle.bend_finder.specs.declared.kept.KeptPowers.{KeptPowers}
use Rattle.bend_finder.specs.declared.kept_runs.KeptRuns.{KeptRuns}
use Rattle.bend_finder.specs.declared.kept_runs.RunKey.{RunKey}
use Rattle.bend_finder.specs.Ahead.{SeenFinder}
use Rattle.bend_finder.specs.Kept.{AreKeptPowers}
use Rattle.bend_finder.specs.Live.{live_of}
use Rattle.bend_finder.specs.Runs.{IsRunOf}

abbrev pub run_key_cmp : RunKey → RunKey → Ordering
run_key_cmp k l = ordering_then (int_cmp k.x l.x) (ordering_then (int_cmp k.y l.y) (ordering_then (int_cmp k.w l.w) (ordering_then (int_cmp k.a l.a) (int_cmp k.b l.b))))

abbrev pub named_point : RunKey → Point
named_point k = record { x = k.x; y = k.y; w = k.w }

abbrev pub named_direction : RunKey → Exp
named_direction k = record { a = k.a; b = k.b }

abbrev pub IsNamedBy : RunKey → Wall → Type 0
IsNamedBy k w = (w.at ≡ named_point k) × (w.dir ≡ named_direction k)

abbrev pub HasName : RunKey → List Wall → Type 0
HasName k [] = ⊥
HasName k (w ∷ ws) = IsNamedBy k w

abbrev pub IsNamedRun : List Wall → RunKey → List Wall → Type 0
IsNamedRun ls k g = IsRunOf ls g × HasName k g

abbrev pub IsSomeRun : List Wall → List Wall → Type 0
IsSomeRun ls [] = ⊤
IsSomeRun ls (w ∷ ws) = IsRunOf ls (w ∷ ws)

abbrev pub AreKeptFor : List Wall → RunKey → KeptPowers → Type 0
AreKeptFor ls k v = (g : List Wall) → IsNamedRun ls k g → AreKeptPowers g v

abbrev pub AreAllKeptFor : List Wall → BTreeMap RunKey KeptPowers → Type 0
AreAllKeptFor ls m = (k : RunKey) (v : KeptPowers) → get run_key_cmp m k ≡ Some v → AreKeptFor ls k v

abbrev pub AreKeptRuns : List Wall → KeptRuns → Type 0
AreKeptRuns ls k = AreAllKeptFor ls k.runs

-- what a finder keeps
pub record IsReadyWith (f : SeenFinder) (k : KeptRuns) : Type 0 where
  pub low : f.limit ≤ highest_order
  pub proper : Every (IsWall f.limit) (live_of f)
  pub kept : AreKeptRuns (live_of f) k
