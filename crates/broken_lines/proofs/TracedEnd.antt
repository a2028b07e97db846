-- The end: no tail has to be followed any more, or there are too many.
use Rattle.std.proofs.Common.{◌≡◌, ◌≢◌, ℕ, refl, sym, subst, ◌∙◌, ◌≤◌, ◌<◌, ◌⊎◌, inl, inr, arith, Bool, true, false, List, [], ◌++◌, map, length-append}
use Rattle.std.specs.Prelude.{pos, IsTrue, Option, Some, None, MatchOption}
use Rattle.std.specs.Bool.{MatchBool}
use Rattle.std.proofs.lemmas.List.{length-map}
use Rattle.limits.specs.Limits.{largest_weight, most_reached, most_tails}
use Rattle.scattering.specs.Collections.{In, Every, EveryPair, Distinct, Lists, MoreThan, AtMost, IsLeast}
use Rattle.scattering.specs.Series.{Exp, origin, det, exp_eq}
use Rattle.scattering.specs.Plane.{Point, IsPoint, IsNear, Beyond, point_before}
use Rattle.scattering.specs.Wall.{Wall, cut_walls}
use Rattle.scattering.specs.ActivePoint.{is_special}
use Rattle.scattering.specs.BrokenLine.{live_on}
use Rattle.scattering.specs.Tail.{Tail, IsTail, ReachTo, last, last_point, tail_before}
use Rattle.scattering.specs.Theta.{AskFault, NotGeneric, TooManyTails, PointTooLarge, WeightTooLarge, IsHit, IsMet, IsWeight, weights, TailsFault, is_on_live, IsAskFault}
use Rattle.scattering.proofs.Lists.{Every-at, Every-append, Every-implies, Every-images, In-map, pairs-append, pairs-implies, pairs-images}
use Rattle.scattering.proofs.Keys.{exp_eq-same}
use Rattle.bend_finder.specs.Ahead.{IsToldAs}
use Rattle.broken_lines.specs.Traced.{plain, plain_tails, IsTold, AreAllTails}
use Rattle.broken_lines.specs.Tracing.{SeenNode, SeenTracing, BeginsLike, IsApart, IsGoodTail, IsGoodNode, IsHitBy, IsMetBySome, Traces}
use Rattle.broken_lines.proofs.TailOrder.{tail-irrefl, apart-before}
use Rattle.broken_lines.proofs.OneMoreBend.{least-as}

-- a list that rises has nothing twice
pub rising-distinct : (ts : List Tail) → EveryPair (λ s t. IsTrue (tail_before s t)) ts → Distinct ts
rising-distinct ts h = pairs-implies (λ s t. IsTrue (tail_before s t)) (λ s t. s ≢ t) ts (λ s t o e. tail-irrefl t (subst (λ (u : Tail). IsTrue (tail_before u t)) e o)) h

module _ (ws : List Wall) (b : ℕ) (m : Exp) (q : Point) (s : SeenTracing) (all : Traces ws b m q s) where
  tails-rise : EveryPair (λ t u. IsTrue (tail_before t u)) (plain_tails s.tails)
  tails-rise = pairs-images (λ t u. IsTrue (tail_before t u)) plain s.tails all.sorted

  tails-are : Every (IsTail ws b m q) (plain_tails s.tails)
  tails-are = Every-images (IsTail ws b m q) plain s.tails (Every-implies (IsGoodTail ws b m q) (λ t. IsTail ws b m q (plain t)) s.tails (λ t h. h.is) all.good)

  -- ---- too many

  abbrev of_node : SeenNode → Tail
  of_node n = plain n.tail

  nodes-rise : EveryPair (λ t u. IsTrue (tail_before t u)) (map of_node s.nodes)
  nodes-rise = pairs-images (λ t u. IsTrue (tail_before t u)) of_node s.nodes (pairs-implies (λ n k. IsApart (plain n.tail) (plain k.tail)) (λ n k. IsTrue (tail_before (plain n.tail) (plain k.tail))) s.nodes (λ n k o. apart-before (plain n.tail) (plain k.tail) o) all.apart)

  found-rise : EveryPair (λ t u. IsTrue (tail_before t u)) (plain_tails s.tails ++ map of_node s.nodes)
  found-rise =
      pairs-append (λ t u. IsTrue (tail_before t u)) (plain_tails s.tails) (map of_node s.nodes) tails-rise nodes-rise
      (Every-images (λ t. Every (λ u. IsTrue (tail_before t u)) (map of_node s.nodes)) plain s.tails
      (Every-implies (λ t. Every (λ n. IsTrue (tail_before (plain t) (plain n.tail))) s.nodes) (λ t. Every (λ u. IsTrue (tail_before (plain t) u)) (map of_node s.nodes)) s.tails
      (λ t h. Every-images (λ u. IsTrue (tail_before (plain t) u)) of_node s.nodes h) all.first))

  pub too-many : most_tails < s.found → MoreThan most_tails (IsTail ws b m q)
  too-many over = (
    plain_tails s.tails ++ map of_node s.nodes,
    Every-append (IsTail ws b m q) (plain_tails s.tails) (map of_node s.nodes) tails-are (Every-images (IsTail ws b m q) of_node s.nodes (Every-implies (IsGoodNode ws b m q) (λ n. IsTail ws b m q (plain n.tail)) s.nodes (λ n h. h.good.is) all.next)),
    rising-distinct (plain_tails s.tails ++ map of_node s.nodes) found-rise,
    (let c = all.count in
        let e = length-append (plain_tails s.tails) (map of_node s.nodes) in
        let f = length-map s.tails plain in
        let g = length-map s.nodes of_node in
        omega (arith, over, c, e, f, g)),
  )

  -- ---- no more

  module _ (done : s.nodes ≡ []) where
    every-tail : (t : Tail) → IsTail ws b m q t → In t (plain_tails s.tails)
    every-tail t h = go (all.all t h)
      where
        go : In t (plain_tails s.tails) ⊎ ((n : SeenNode) × In n s.nodes × BeginsLike (plain n.tail) t) → In t (plain_tails s.tails)
        go (inl i) = i
        go (inr r) = absurd (subst (In r.0) done r.1)

    pub tails-listed : Lists (IsTail ws b m q) (plain_tails s.tails)
    tails-listed = record { each = tails-are; all = every-tail; once = rising-distinct (plain_tails s.tails) tails-rise }

    pub all-tails : (w : ℕ) → w ≡ s.weight → w ≤ largest_weight → AreAllTails ws b m q s.tails w
    all-tails w e light = record {
      lists = tails-listed;
      sorted = tails-rise;
      told = Every-implies (IsGoodTail ws b m q) IsTold s.tails (λ t h. h.told) all.good;
      weight = exact all.sums;
      light = light;
    }
      where
        exact : IsToldAs (weights ws b (plain_tails s.tails)) s.weight → weights ws b (plain_tails s.tails) ≡ w
        exact (inl f) = sym (e ∙ f)
        exact (inr f) = absurd (let l = f.1 in omega (arith, l, e, light))

    -- ---- the checks, one after another

    module _ (reach : AtMost most_reached (λ d. ReachTo ws b d b)) (few : s.found ≤ most_tails) where
      few-tails : AtMost most_tails (IsTail ws b m q)
      few-tails = (plain_tails s.tails, every-tail, (let c = all.count in let f = length-map s.tails plain in omega (arith, c, f, few)))

      pub fault-far : s.far ≡ true → TailsFault ws b m q (Some PointTooLarge)
      fault-far e = inr (reach, inr (few-tails, inl (all.hit e, refl)))

      all-near : s.far ≡ false → (p : Point) → IsHit ws b m q p → IsNear p
      all-near e p h =
          let i = In-map plain s.tails h.1.0 (every-tail h.1.0 h.1.2) in
          Every-at (λ t. (p : Point) → IsHitBy ws b q t p → IsNear p) s.tails i.0 (all.near e) i.1 p
          (subst (λ (t : Tail). IsPoint p × Beyond (last_point q t.bends) (last t.root t.bends) p × HasCrossing t) i.2 (h.0, h.1.3, (h.1.1, h.1.4, h.1.5)))
        where
          HasCrossing : Tail → Type 0
          HasCrossing t = (w : Wall) × In w (live_on (cut_walls b ws) p) × (det w.dir (last t.root t.bends) ≢ pos 0)

      light-weight : s.weight ≤ largest_weight → (w : ℕ) × IsWeight ws b m q w × (w ≤ largest_weight)
      light-weight l = (s.weight, (plain_tails s.tails, tails-listed, (all-tails s.weight refl l).weight), l)

      pub fault-heavy : s.far ≡ false → largest_weight < s.weight → TailsFault ws b m q (Some WeightTooLarge)
      fault-heavy e l = inr (reach, inr (few-tails, inr (all-near e, inl ((weights ws b (plain_tails s.tails), (plain_tails s.tails, tails-listed, refl), heavy all.sums), refl))))
        where
          heavy : IsToldAs (weights ws b (plain_tails s.tails)) s.weight → largest_weight < weights ws b (plain_tails s.tails)
          heavy (inl f) = omega (arith, f, l)
          heavy (inr f) = f.0

      -- what is met by some of them is met
      met-out : (p : Point) → IsMetBySome ws b q s.tails p → IsMet ws b m q p
      met-out p r = ((r.2.0, (plain r.0, (Every-at (IsGoodTail ws b m q) s.tails r.0 all.good r.1).is, r.2.1)), r.2.2)

      met-back : (p : Point) → IsMet ws b m q p → IsMetBySome ws b q s.tails p
      met-back p r =
          let i = In-map plain s.tails r.0.1.0 (every-tail r.0.1.0 r.0.1.1) in
          (i.0, i.1, subst (λ (t : Tail). IsPoint p × Beyond (last_point q t.bends) (last t.root t.bends) p × IsTrue (is_special (cut_walls b ws) p)) i.2 (r.0.0, r.0.1.2, r.1))

      met : s.far ≡ false → MatchOption s.special ((p : Point) → IsMet ws b m q p → ⊥) (IsLeast point_before (IsMet ws b m q))
      met e = least-as (IsMetBySome ws b q s.tails) (IsMet ws b m q) met-out met-back s.special (all.met e)

      pub fault-met : s.far ≡ false → s.weight ≤ largest_weight → (p : Point) → s.special ≡ Some p → TailsFault ws b m q (Some (NotGeneric p))
      fault-met e l p o = inr (reach, inr (few-tails, inr (all-near e, inr (light-weight l, inl (p, least, refl)))))
        where
          least : IsLeast point_before (IsMet ws b m q) p
          least = subst (λ (r : Option Point). MatchOption r ((p : Point) → IsMet ws b m q p → ⊥) (IsLeast point_before (IsMet ws b m q))) o (met e)

      pub fault-none : s.far ≡ false → s.weight ≤ largest_weight → s.special ≡ None → TailsFault ws b m q None
      fault-none e l o = inr (reach, inr (few-tails, inr (all-near e, inr (light-weight l, inr (none, refl)))))
        where
          none : (p : Point) → IsMet ws b m q p → ⊥
          none = subst (λ (r : Option Point). MatchOption r ((p : Point) → IsMet ws b m q p → ⊥) (IsLeast point_before (IsMet ws b m q))) o (met e)

pub fault-many : (ws : List Wall) (b : ℕ) (m : Exp) (q : Point) → AtMost most_reached (λ d. ReachTo ws b d b) → MoreThan most_tails (IsTail ws b m q) → TailsFault ws b m q (Some TooManyTails)
fault-many ws b m q reach h = inr (reach, inl (h, refl))

-- past the first two checks
pub moving-fault : (ws : List Wall) (b : ℕ) (m : Exp) (q : Point) (f : Option AskFault) → is_on_live (cut_walls b ws) q ≡ false → m ≢ origin → TailsFault ws b m q f → IsAskFault ws b m q f
moving-fault ws b m q f free moves h = go (is_on_live (cut_walls b ws) q) free (exp_eq m origin) refl
  where
    go : (c : Bool) → c ≡ false → (d : Bool) → exp_eq m origin ≡ d → MatchBool c (f ≡ Some (NotGeneric q)) (MatchBool d (f ≡ None) (TailsFault ws b m q f))
    go true e d g = absurd (cc)
    go false e true g = absurd (moves (exp_eq-same m origin g))
    go false e false g = h
