-- Tails while they are traced: those that were followed, those that still have to be, and what they met.
--     SeenNode, seen_node           a tail that has to be followed, with its last point and its weight
--     SeenTracing, seen_tracing     all that was found
--     child_of, children, roots     tails with one more bend; those in reach; those without bends
--     pushed, noted, with_ended, followed      what each step makes of it
--     Traces ws b m q s             s has all tails for m at q, followed or below one that has to be
use Rattle.std.specs.Prelude.{◌≡◌, ◌≢◌, ℕ, ◌+◌, ◌-◌, ◌*◌, ◌^◌, ◌<◌, ◌≤◌, ◌⊎◌, min, nat_le, nat_abs, Bool, true, false, not, ◌||◌, cond, IsTrue, IsFalse, List, [], ◌∷◌, ◌++◌, length, map, filter, reverse, All, Option, Some, None, MatchOption, option_map}
use Rattle.std.specs.BTreeMap.{get}
use Rattle.limits.specs.Limits.{highest_order, largest_exponent, largest_weight, most_tails}
use Rattle.scattering.specs.Collections.{In, Every, EveryPair, MoreThan, IsLeast}
use Rattle.scattering.specs.Series.{Exp, origin, exp_add, exp_sub, exp_eq, exp_before, degree}
use Rattle.scattering.specs.Plane.{Point, IsNear, point_before}
use Rattle.scattering.specs.Wall.{Wall, IsWall}
use Rattle.scattering.specs.BrokenLine.{Bend}
use Rattle.scattering.specs.Tail.{Tail, IsTail, last, last_point, tail_weight, tail_before, bend_before}
use Rattle.scattering.specs.Theta.{weights, IsHit}
use Rattle.plane_geom.specs.Shown.{point_of}
use Rattle.trunc_series.specs.Shown.{exp_of}
use Rattle.trunc_series.specs.declared.key.Exp.{Exp as CodeExp}
use Rattle.scatter_diagram.specs.Proper.{AreTameWalls}
use Rattle.bend_finder.specs.declared.bend.Bend.{Bend as CodeBend}
use Rattle.bend_finder.specs.Ahead.{SeenAhead, IsAhead, IsToldAs, IsHitAhead, IsSpecialAhead, largest_traced}
use Rattle.broken_lines.specs.declared.node.Node.{Node}
use Rattle.broken_lines.specs.declared.node.Ask.{Ask}
use Rattle.broken_lines.specs.declared.tracer.Tracing.{Tracing}
use Rattle.broken_lines.specs.declared.fault.AskFault.{AskFault}
use Rattle.broken_lines.specs.declared.fault.AskFault.TheVariants.{NotYet, NotGeneric, TooManyReach, TooManyTails, PointTooLarge, WeightTooLarge, Memory}
use Rattle.broken_lines.specs.Growth.{exp_cmp, IsSummable}
use Rattle.broken_lines.specs.Reached.{IsReachMap}
use Rattle.broken_lines.specs.Traced.{IsAskable, SeenTail, seen_tail, plain, plain_tails, IsTold}

-- ---- numbers that can be taken from one another

abbrev pub IsWide : CodeExp → Type 0
IsWide x = (nat_abs x.a ≤ 2 * largest_exponent) × (nat_abs x.b ≤ 2 * largest_exponent)

abbrev pub AreSummableBends : List (CodeBend × ℕ) → Type 0
AreSummableBends cs = All (λ c. IsSummable c.0.key.exp) cs

-- ---- as the program keeps them

pub record SeenNode : Type 0 where
  pub tail : SeenTail
  pub at : Point
  pub weight : ℕ

abbrev pub seen_node : Node → SeenNode
seen_node n = record { tail = seen_tail n.tail; at = point_of n.at; weight = n.weight }

-- `nodes` begins with the one that is followed next
pub record SeenTracing : Type 0 where
  pub tails : List SeenTail
  pub nodes : List SeenNode
  pub found : ℕ
  pub weight : ℕ
  pub far : Bool
  pub special : Option Point

abbrev pub seen_tracing : Tracing → SeenTracing
seen_tracing t = record { tails = map seen_tail t.tails.items; nodes = reverse (map seen_node t.pending.items); found = t.found; weight = t.weight; far = t.far; special = option_map point_of t.special }

abbrev pub nothing_traced : SeenTracing
nothing_traced = record { tails = []; nodes = []; found = 0; weight = 0; far = false; special = None }

-- ---- one more bend

abbrev pub within : ℕ → ℕ → Option ℕ → Bool
within limit used None = false
within limit used (Some n) = nat_le (used + n) limit

abbrev pub code_exp : Exp → CodeExp
code_exp y = record { a = y.a; b = y.b }

-- whether m is in reach of x within what is left of the limit
abbrev pub is_within : Ask → Exp → ℕ → Bool
is_within k x used = within k.limit used (get exp_cmp k.known (code_exp (exp_sub x (exp_of k.m))))

abbrev pub child_of : SeenNode → Bend × ℕ → SeenNode
child_of n c = record {
  tail = record { root = n.tail.root; bends = n.tail.bends ++ c.0 ∷ []; used = n.tail.used + degree c.0.key; last = exp_sub n.tail.last c.0.key.exp };
  at = c.0.at;
  weight = min (n.weight * c.1) (2 ^ 128 - 1);
}

abbrev pub goes_on : Ask → SeenNode → Bend × ℕ → Bool
goes_on k n c = is_within k (exp_sub n.tail.last c.0.key.exp) (n.tail.used + degree c.0.key)

abbrev pub children : Ask → SeenNode → List (Bend × ℕ) → List SeenNode
children k n cs = map (child_of n) (filter (goes_on k n) cs)

-- ---- without bends

abbrev pub root_node : Exp → Point → SeenNode
root_node x q = record { tail = record { root = x; bends = []; used = 0; last = x }; at = q; weight = 1 }

abbrev pub is_root : Ask → CodeExp → Bool
is_root k d = not (exp_eq (exp_add (exp_of k.m) (exp_of d)) origin)

abbrev pub root_at : Ask → CodeExp → SeenNode
root_at k d = root_node (exp_add (exp_of k.m) (exp_of d)) (point_of k.at)

-- from each exponent that is reached
abbrev pub roots : Ask → List CodeExp → List SeenNode
roots k ds = map (root_at k) (filter (is_root k) ds)

-- ---- steps

abbrev pub pushed : List SeenNode → SeenTracing → SeenTracing
pushed ns s = record { tails = s.tails; nodes = ns ++ s.nodes; found = s.found + length ns; weight = s.weight; far = s.far; special = s.special }

abbrev pub lesser_point : Option Point → Option Point → Option Point
lesser_point None o = o
lesser_point (Some p) None = Some p
lesser_point (Some p) (Some q) = cond (point_before q p) (Some q) (Some p)

abbrev pub noted : SeenAhead → SeenTracing → SeenTracing
noted a s = record { tails = s.tails; nodes = s.nodes; found = s.found; weight = s.weight; far = s.far || a.far; special = lesser_point s.special a.special }

abbrev pub with_ended : SeenNode → SeenTracing → SeenTracing
with_ended n s = record { tails = s.tails ++ n.tail ∷ []; nodes = s.nodes; found = s.found; weight = min (s.weight + n.weight) (2 ^ 128 - 1); far = s.far; special = s.special }

abbrev pub followed : Ask → SeenNode → SeenAhead → SeenTracing → SeenTracing
followed k n a s = with_ended n (pushed (children k n a.bends) (noted a s))

-- what the next tail finds ahead
abbrev pub IsAheadOf : List Wall → Ask → SeenNode → SeenAhead → Type 0
IsAheadOf ws k n a = IsAhead ws k.limit n.at n.tail.last (k.limit - n.tail.used) a

abbrev pub IsFollowed : List Wall → Ask → SeenNode → SeenTracing → SeenTracing → Type 0
IsFollowed ws k n old new = (a : SeenAhead) × IsAheadOf ws k n a × (new ≡ followed k n a old)

-- ---- faults

-- only for memory, or where n tails are too many
abbrev pub IsPastMost : ℕ → AskFault → Type 0
IsPastMost n (NotYet i) = ⊥
IsPastMost n (NotGeneric p) = ⊥
IsPastMost n TooManyReach = ⊥
IsPastMost n TooManyTails = most_tails < n
IsPastMost n PointTooLarge = ⊥
IsPastMost n WeightTooLarge = ⊥
IsPastMost n Memory = Unit {0}

abbrev pub IsFollowFault : List Wall → Ask → SeenNode → SeenTracing → AskFault → Type 0
IsFollowFault ws k n s (NotYet i) = ⊥
IsFollowFault ws k n s (NotGeneric p) = ⊥
IsFollowFault ws k n s TooManyReach = ⊥
IsFollowFault ws k n s TooManyTails = (a : SeenAhead) × IsAheadOf ws k n a × (most_tails < (followed k n a s).found)
IsFollowFault ws k n s PointTooLarge = ⊥
IsFollowFault ws k n s WeightTooLarge = ⊥
IsFollowFault ws k n s Memory = Unit {0}

-- ---- what is asked

pub record IsAskReady (ws : List Wall) (k : Ask) : Type 0 where
  pub limit : k.limit ≤ highest_order
  pub walls : (order : ℕ) × Every (IsWall order) ws
  pub tame : AreTameWalls ws
  pub reach : IsReachMap k.limit ws k.known
  pub asked : IsAskable k.m

pub record IsFollowable (k : Ask) (n : SeenNode) : Type 0 where
  pub moves : n.tail.last ≢ origin
  pub traceable : (nat_abs n.tail.last.a ≤ largest_traced) × (nat_abs n.tail.last.b ≤ largest_traced)
  pub used : n.tail.used ≤ k.limit

-- ---- what holds all along

-- t has the bends of s, and maybe more
abbrev pub BeginsLike : Tail → Tail → Type 0
BeginsLike s t = (s.root ≡ t.root) × ((cs : List Bend) × (t.bends ≡ s.bends ++ cs))

-- a list of bends is before another, and neither begins the other
abbrev pub Part : List Bend → List Bend → Type 0
Part [] cs = ⊥
Part (b ∷ bs) [] = ⊥
Part (b ∷ bs) (c ∷ cs) = IsTrue (bend_before b c) ⊎ ((b ≡ c) × Part bs cs)

-- so is a tail
abbrev pub IsApart : Tail → Tail → Type 0
IsApart s t = IsTrue (exp_before s.root t.root) ⊎ ((s.root ≡ t.root) × Part s.bends t.bends)

pub record IsGoodTail (ws : List Wall) (b : ℕ) (m : Exp) (q : Point) (t : SeenTail) : Type 0 where
  pub is : IsTail ws b m q (plain t)
  pub told : IsTold t

pub record IsGoodNode (ws : List Wall) (b : ℕ) (m : Exp) (q : Point) (n : SeenNode) : Type 0 where
  pub good : IsGoodTail ws b m q n.tail
  pub at : n.at ≡ last_point q n.tail.bends
  pub weight : IsToldAs (tail_weight ws b n.tail.root n.tail.bends) n.weight

-- what a tail crosses on the way on, and the special points there
abbrev pub IsHitBy : List Wall → ℕ → Point → SeenTail → Point → Type 0
IsHitBy ws b q t p = IsHitAhead ws b (last_point q t.bends) (last t.root t.bends) p

abbrev pub IsMetBy : List Wall → ℕ → Point → SeenTail → Point → Type 0
IsMetBy ws b q t p = IsSpecialAhead ws b (last_point q t.bends) (last t.root t.bends) p

abbrev pub IsMetBySome : List Wall → ℕ → Point → List SeenTail → Point → Type 0
IsMetBySome ws b q ts p = (t : SeenTail) × In t ts × IsMetBy ws b q t p

pub record Traces (ws : List Wall) (b : ℕ) (m : Exp) (q : Point) (s : SeenTracing) : Type 0 where
  pub good : Every (IsGoodTail ws b m q) s.tails
  pub next : Every (IsGoodNode ws b m q) s.nodes
  pub count : s.found ≡ length s.tails + length s.nodes
  pub all : (t : Tail) → IsTail ws b m q t → In t (plain_tails s.tails) ⊎ ((n : SeenNode) × In n s.nodes × BeginsLike (plain n.tail) t)
  pub sorted : EveryPair (λ t u. IsTrue (tail_before (plain t) (plain u))) s.tails
  pub first : Every (λ t. Every (λ n. IsTrue (tail_before (plain t) (plain n.tail))) s.nodes) s.tails
  pub apart : EveryPair (λ n k. IsApart (plain n.tail) (plain k.tail)) s.nodes
  pub sums : IsToldAs (weights ws b (plain_tails s.tails)) s.weight
  pub hit : IsTrue s.far → (p : Point) × IsHit ws b m q p × (IsNear p → ⊥)
  pub near : IsFalse s.far → Every (λ t. (p : Point) → IsHitBy ws b q t p → IsNear p) s.tails
  pub met : IsFalse s.far → MatchOption s.special ((p : Point) → IsMetBySome ws b q s.tails p → ⊥) (IsLeast point_before (IsMetBySome ws b q s.tails))

-- the tails that are asked for are followed, or below one that has to be
abbrev pub AreTraced : List Wall → Ask → SeenTracing → Type 0
AreTraced ws k s = Traces ws k.limit (exp_of k.m) (point_of k.at) s

-- only for memory, or for more than 2^20 tails
abbrev pub AreTooManyTails : List Wall → Ask → AskFault → Type 0
AreTooManyTails ws k (NotYet i) = ⊥
AreTooManyTails ws k (NotGeneric p) = ⊥
AreTooManyTails ws k TooManyReach = ⊥
AreTooManyTails ws k TooManyTails = MoreThan most_tails (IsTail ws k.limit (exp_of k.m) (point_of k.at))
AreTooManyTails ws k PointTooLarge = ⊥
AreTooManyTails ws k WeightTooLarge = ⊥
AreTooManyTails ws k Memory = Unit {0}

-- the first check that fails, of those that are left at the end
abbrev pub IsLastFault : Tracing → AskFault → Type 0
IsLastFault t (NotYet i) = ⊥
IsLastFault t (NotGeneric p) = (t.far ≡ false) × (t.weight ≤ largest_weight) × (t.special ≡ Some p)
IsLastFault t TooManyReach = ⊥
IsLastFault t TooManyTails = ⊥
IsLastFault t PointTooLarge = t.far ≡ true
IsLastFault t WeightTooLarge = (t.far ≡ false) × (largest_weight < t.weight)
IsLastFault t Memory = ⊥
