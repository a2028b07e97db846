-- Why the tails at a point aren't told.
use Rattle.std.proofs.Common.{◌≡◌, ◌≢◌, ℕ, refl, ap, ◌+◌, ◌≤◌, inl, Bool, true, false, List, [], length}
use Rattle.std.specs.Prelude.{Some, None, option_map}
use Rattle.std.specs.Bool.{MatchBool}
use Rattle.std.specs.BTreeMap.{IsOrdered, keys}
use Rattle.limits.specs.Limits.{largest_weight, most_reached, most_tails}
use Rattle.scattering.specs.Collections.{AtMost}
use Rattle.scattering.specs.Series.{Exp, origin, exp_eq}
use Rattle.scattering.specs.Plane.{Point}
use Rattle.scattering.specs.Wall.{Wall, cut_walls}
use Rattle.scattering.specs.Tail.{ReachTo}
use Rattle.scattering.specs.Theta.{is_on_live, IsAskFault}
use Rattle.scattering.specs.Theta as D
use Rattle.scattering.proofs.Keys.{exp_eq-same}
use Rattle.plane_geom.specs.Shown.{point_of}
use Rattle.trunc_series.specs.Shown.{exp_of}
use Rattle.broken_lines.specs.declared.node.Ask.{Ask}
use Rattle.broken_lines.specs.declared.tail.Traced.{Traced}
use Rattle.broken_lines.specs.declared.tracer.Tracing.{Tracing}
use Rattle.broken_lines.specs.declared.fault.AskFault.{AskFault}
use Rattle.broken_lines.specs.declared.fault.AskFault.TheVariants.{NotYet, NotGeneric, TooManyReach, TooManyTails, PointTooLarge, WeightTooLarge, Memory}
use Rattle.broken_lines.specs.Growth.{exp_cmp}
use Rattle.broken_lines.specs.Reached.{IsReachFault}
use Rattle.broken_lines.specs.Traced.{AreAllTails, AreTails, IsTailsFault, seen_tails}
use Rattle.broken_lines.specs.Tracing.{SeenNode, SeenTracing, seen_tracing, nothing_traced, pushed, roots, followed, IsPastMost, IsFollowFault, IsAskReady, Traces, AreTraced, AreTooManyTails, IsLastFault}
use Rattle.broken_lines.proofs.Pushes.{with_next}
use Rattle.broken_lines.proofs.TracedSteps.{traces-next}
use Rattle.broken_lines.proofs.TracedRoots.{traces-start, key-reach}
use Rattle.broken_lines.proofs.TracedEnd.{too-many, fault-far, fault-heavy, fault-met, fault-none, fault-many, moving-fault}

-- ---- too many tails

pub roots-fault : (ws : List Wall) (k : Ask) (f : AskFault) → IsAskReady ws k → IsOrdered exp_cmp k.known → IsPastMost (0 + length (roots k (keys k.known))) f → AreTooManyTails ws k f
roots-fault ws k (NotYet n) ready o h = h
roots-fault ws k (NotGeneric p) ready o h = h
roots-fault ws k TooManyReach ready o h = h
roots-fault ws k TooManyTails ready o h = too-many ws k.limit (exp_of k.m) (point_of k.at) (pushed (roots k (keys k.known)) nothing_traced) (traces-start ws k ready o (key-reach ws k ready o)) h
roots-fault ws k PointTooLarge ready o h = h
roots-fault ws k WeightTooLarge ready o h = h
roots-fault ws k Memory ready o h = h

pub follow-fault : (ws : List Wall) (k : Ask) (n : SeenNode) (s : SeenTracing) (f : AskFault) → IsAskReady ws k → AreTraced ws k (with_next n s) → IsFollowFault ws k n s f → AreTooManyTails ws k f
follow-fault ws k n s (NotYet i) ready t h = h
follow-fault ws k n s (NotGeneric p) ready t h = h
follow-fault ws k n s TooManyReach ready t h = h
follow-fault ws k n s TooManyTails ready t h = too-many ws k.limit (exp_of k.m) (point_of k.at) (followed k n h.0 s) (traces-next ws k ready n t.next.0 h.0 h.1 s t) h.2
follow-fault ws k n s PointTooLarge ready t h = h
follow-fault ws k n s WeightTooLarge ready t h = h
follow-fault ws k n s Memory ready t h = h

-- ---- faults of asking, past the first two checks

module _ (ws : List Wall) (b : ℕ) (m : Exp) (q : Point) (free : is_on_live (cut_walls b ws) q ≡ false) (moves : m ≢ origin) where
  abbrev Asks : D.AskFault → Type 0
  Asks c = IsAskFault ws b m q (Some c)

  pub reach-fault : (f : AskFault) → IsReachFault b ws f → IsTailsFault ws b m q f
  reach-fault (NotYet n) h = h
  reach-fault (NotGeneric p) h = absurd h
  reach-fault TooManyReach h = moving-fault ws b m q (Some D.TooManyReach) free moves (inl (h, refl))
  reach-fault TooManyTails h = absurd h
  reach-fault PointTooLarge h = absurd h
  reach-fault WeightTooLarge h = absurd h
  reach-fault Memory h = tt

  -- for (0, 0) other things are told
  pub moving-tails : (t : Traced) → AreAllTails ws b m q (seen_tails t.tails.items) t.weight → AreTails ws b m q t
  moving-tails t h = go (exp_eq m origin) refl
    where
      go : (d : Bool) → exp_eq m origin ≡ d → MatchBool d ((t.tails.items ≡ []) × (t.weight ≡ 1)) (AreAllTails ws b m q (seen_tails t.tails.items) t.weight)
      go true e = absurd (moves (exp_eq-same m origin e))
      go false e = h

pub many-fault : (ws : List Wall) (k : Ask) (f : AskFault) → is_on_live (cut_walls k.limit ws) (point_of k.at) ≡ false → exp_of k.m ≢ origin → AtMost most_reached (λ d. ReachTo ws k.limit d k.limit) → AreTooManyTails ws k f → IsTailsFault ws k.limit (exp_of k.m) (point_of k.at) f
many-fault ws k (NotYet n) free moves r h = h
many-fault ws k (NotGeneric p) free moves r h = absurd h
many-fault ws k TooManyReach free moves r h = absurd h
many-fault ws k TooManyTails free moves r h = moving-fault ws k.limit (exp_of k.m) (point_of k.at) (Some D.TooManyTails) free moves (fault-many ws k.limit (exp_of k.m) (point_of k.at) r h)
many-fault ws k PointTooLarge free moves r h = absurd h
many-fault ws k WeightTooLarge free moves r h = absurd h
many-fault ws k Memory free moves r h = tt

-- ---- the checks at the end

module _ (ws : List Wall) (b : ℕ) (m : Exp) (q : Point) (free : is_on_live (cut_walls b ws) q ≡ false) (moves : m ≢ origin) (reach : AtMost most_reached (λ d. ReachTo ws b d b))
    (t : Tracing) (all : Traces ws b m q (seen_tracing t)) (done : (seen_tracing t).nodes ≡ []) (few : t.found ≤ most_tails) where
  pub verdict-fault : (f : AskFault) → IsLastFault t f → IsTailsFault ws b m q f
  verdict-fault (NotYet n) h = h
  verdict-fault (NotGeneric p) h = moving-fault ws b m q (Some (D.NotGeneric (point_of p))) free moves (fault-met ws b m q (seen_tracing t) all done reach few h.0 h.1 (point_of p) (ap (option_map point_of) h.2))
  verdict-fault TooManyReach h = absurd h
  verdict-fault TooManyTails h = absurd h
  verdict-fault PointTooLarge h = moving-fault ws b m q (Some D.PointTooLarge) free moves (fault-far ws b m q (seen_tracing t) all done reach few h)
  verdict-fault WeightTooLarge h = moving-fault ws b m q (Some D.WeightTooLarge) free moves (fault-heavy ws b m q (seen_tracing t) all done reach few h.0 h.1)
  verdict-fault Memory h = tt

  pub verdict-free : t.far ≡ false → t.weight ≤ largest_weight → t.special ≡ None → IsAskFault ws b m q None
  verdict-free e l o = moving-fault ws b m q None free moves (fault-none ws b m q (seen_tracing t) all done reach few e l (ap (option_map point_of) o))
