-- The tails that were traced, as the definitions see them.
--     SeenTail, seen_tail, plain        a tail with what it used and the exponent from which it goes on; of the program; as defined
--     AreTails ws b m q t       t are the tails for m at q, sorted, each once, and the sum of their weights
--     IsTailsFault ws b m q f   f is want of memory, or the first check that fails
use Rattle.std.specs.Prelude.{◌≡◌, ℕ, ◌≤◌, nat_abs, List, [], map, IsTrue, Option, Some}
use Rattle.std.specs.Bool.{MatchBool}
use Rattle.limits.specs.Limits.{largest_weight}
use Rattle.scattering.specs.Collections.{Every, EveryPair, Lists}
use Rattle.scattering.specs.Series.{Exp, origin, exp_eq}
use Rattle.scattering.specs.Plane.{Point}
use Rattle.scattering.specs.Wall.{Wall}
use Rattle.scattering.specs.BrokenLine.{Bend, degrees}
use Rattle.scattering.specs.Tail.{Tail, IsTail, last, tail_before}
use Rattle.scattering.specs.Theta.{weights, IsAskFault}
use Rattle.scattering.specs.Theta as D
use Rattle.plane_geom.specs.Shown.{point_of}
use Rattle.trunc_series.specs.Shown.{exp_of}
use Rattle.trunc_series.specs.declared.key.Exp.{Exp as CodeExp}
use Rattle.bend_finder.specs.Ahead.{bend_of}
use Rattle.broken_lines.specs.declared.tail.Tail.{Tail as CodeTail}
use Rattle.broken_lines.specs.declared.tail.Traced.{Traced}
use Rattle.broken_lines.specs.declared.fault.AskFault.{AskFault}
use Rattle.broken_lines.specs.declared.fault.AskFault.TheVariants.{NotYet, NotGeneric, TooManyReach, TooManyTails, PointTooLarge, WeightTooLarge, Memory}

-- ---- what may be asked for

-- the numbers of an exponent that is asked for
abbrev pub largest_asked : ℕ
largest_asked = 2048

abbrev pub IsAskable : CodeExp → Type 0
IsAskable m = (nat_abs m.a ≤ largest_asked) × (nat_abs m.b ≤ largest_asked)

-- ---- tails

pub record SeenTail : Type 0 where
  pub root : Exp
  pub bends : List Bend
  pub used : ℕ
  pub last : Exp

abbrev pub seen_tail : CodeTail → SeenTail
seen_tail t = record { root = exp_of t.root; bends = map bend_of t.bends.items; used = t.used; last = exp_of t.last }

abbrev pub seen_tails : List CodeTail → List SeenTail
seen_tails ts = map seen_tail ts

abbrev pub plain : SeenTail → Tail
plain t = record { root = t.root; bends = t.bends }

abbrev pub plain_tails : List SeenTail → List Tail
plain_tails ts = map plain ts

-- the sum of its bends' degrees, and the exponent from which it goes on, are told
abbrev pub IsTold : SeenTail → Type 0
IsTold t = (t.used ≡ degrees t.bends) × (t.last ≡ last t.root t.bends)

-- ---- answers

-- ts are all tails, each once, sorted, and w is the sum of their weights
pub record AreAllTails (ws : List Wall) (b : ℕ) (m : Exp) (q : Point) (ts : List SeenTail) (w : ℕ) : Type 0 where
  pub lists : Lists (IsTail ws b m q) (plain_tails ts)
  pub sorted : EveryPair (λ s t. IsTrue (tail_before s t)) (plain_tails ts)
  pub told : Every IsTold ts
  pub weight : weights ws b (plain_tails ts) ≡ w
  pub light : w ≤ largest_weight

-- for (0, 0) no tails are traced, and the weight is 1
abbrev pub AreTails : List Wall → ℕ → Exp → Point → Traced → Type 0
AreTails ws b m q t = MatchBool (exp_eq m origin) ((t.tails.items ≡ []) × (t.weight ≡ 1)) (AreAllTails ws b m q (seen_tails t.tails.items) t.weight)

-- only for memory, or what F says is the first check that fails
abbrev pub IsFaultBy : (Option D.AskFault → Type 0) → AskFault → Type 0
IsFaultBy F (NotYet n) = ⊥
IsFaultBy F (NotGeneric p) = F (Some (D.NotGeneric (point_of p)))
IsFaultBy F TooManyReach = F (Some D.TooManyReach)
IsFaultBy F TooManyTails = F (Some D.TooManyTails)
IsFaultBy F PointTooLarge = F (Some D.PointTooLarge)
IsFaultBy F WeightTooLarge = F (Some D.WeightTooLarge)
IsFaultBy F Memory = Unit {0}

abbrev pub IsTailsFault : List Wall → ℕ → Exp → Point → AskFault → Type 0
IsTailsFault ws b m q f = IsFaultBy (IsAskFault ws b m q) f
