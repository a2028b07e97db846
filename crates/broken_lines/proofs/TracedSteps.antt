-- All tails are followed, or below one that has to be: this lasts from one to the next.
use Rattle.std.proofs.Common.{◌≡◌, ℕ, refl, sym, ap, subst, ◌∙◌, ◌+◌, ◌-◌, ◌⊎◌, inl, inr, arith, true, List, [], ◌∷◌, ◌++◌, map, length-append, get_or}
use Rattle.std.specs.Prelude.{IsTrue, IsFalse, filter, MatchOption}
use Rattle.std.proofs.lemmas.List.{append-nil, append_assoc}
use Rattle.scattering.specs.Collections.{In, Every, EveryPair, IsLeast}
use Rattle.scattering.specs.Series.{Exp, exp_sub, degree}
use Rattle.scattering.specs.Plane.{Point, IsPoint, IsNear, point_before}
use Rattle.scattering.specs.Wall.{Wall, cut_walls}
use Rattle.scattering.specs.BrokenLine.{Bend, degrees}
use Rattle.scattering.specs.Tail.{Tail, IsTail, IsInReach, IsTraced, last, last_point, tail_weight, tail_before, bend_before}
use Rattle.scattering.specs.Theta.{IsHit, weights}
use Rattle.scattering.proofs.Lists.{Every-at, Every-append, Every-from_In, Every-implies, Every-images, In-append, In-left, In-right, In-map, In-mapped, filter-from, filter-keeps, map-append, or-false, or-out, pairs-append, pairs-filter, pairs-implies, pairs-images}
use Rattle.trunc_series.specs.Shown.{exp_of}
use Rattle.plane_geom.specs.Shown.{point_of}
use Rattle.broken_line_theory.proofs.Bends.{IsTame, bend-reached, cut-walls-tame}
use Rattle.broken_line_theory.proofs.Crossings.{wall-points}
use Rattle.broken_line_theory.proofs.ListedTails.{traced-reach, last-moves}
use Rattle.broken_line_theory.proofs.ThetaOfTails.{same-tail}
use Rattle.broken_line_theory.proofs.TracedBends.{degrees-snoc, last-snoc, last_point-snoc, traced-snoc}
use Rattle.joint_finder.proofs.Lists.{In-get}
use Rattle.bend_finder.specs.declared.bend.Bend.{Bend as CodeBend}
use Rattle.bend_finder.specs.Ahead.{bend_of, bends_of, SeenAhead, IsAhead, IsBendAhead, IsToldAs, bend_weight}
use Rattle.broken_lines.specs.declared.node.Ask.{Ask}
use Rattle.broken_lines.specs.Growth.{IsSummable}
use Rattle.broken_lines.specs.Traced.{SeenTail, plain, plain_tails}
use Rattle.broken_lines.specs.Tracing.{AreSummableBends, SeenNode, SeenTracing, child_of, goes_on, children, followed, IsAheadOf, IsAskReady, IsFollowable, BeginsLike, IsApart, IsGoodTail, IsGoodNode, IsHitBy, IsMetBy, IsMetBySome, Traces}
use Rattle.broken_lines.proofs.Growths.{own-place}
use Rattle.broken_lines.proofs.TailOrder.{part-children, apart-before, apart-longer, below-before, before-below}
use Rattle.broken_lines.proofs.OneMoreBend.{traced-rest, traced-end, weight-snoc, weights-snoc, told-plus, told-times, least-joined, least-as}
use Rattle.broken_lines.proofs.Pushes.{with_next}
use Rattle.broken_lines.proofs.WithinReach.{within-reach, reach-within, reached-small, traceable}

-- ---- one tail

module _ (ws : List Wall) (k : Ask) (ready : IsAskReady ws k) where
  abbrev b : ℕ
  b = k.limit

  abbrev m : Exp
  m = exp_of k.m

  abbrev q : Point
  q = point_of k.at

  tame : Every IsTame (cut_walls b ws)
  tame = cut-walls-tame b ready.walls.0 ws ready.walls.1

  points : Every (λ w. IsPoint w.at) (cut_walls b ws)
  points = wall-points b ready.walls.0 ws ready.walls.1

  good-reach : (t : SeenTail) → IsGoodTail ws b m q t → IsInReach ws b m t.last t.used
  good-reach t h = subst (λ (x : Exp). IsInReach ws b m x t.used) (sym h.told.1) (traced-end ws b m q t.root 0 t.bends t.used (let u = h.told.0 in omega (arith, u)) h.is.traced)

  pub followable : IsPoint q → (n : SeenNode) → IsGoodNode ws b m q n → IsFollowable k n
  followable point n h = record {
    moves = λ e. last-moves ws b m tame points q n.tail.root 0 n.tail.bends h.good.is.moves h.good.is.traced (sym h.good.told.1 ∙ e);
    traceable = traceable b ws ready.limit ready.tame m n.tail.last n.tail.used ready.asked (good-reach n.tail h.good);
    used = let r = (good-reach n.tail h.good).1 in omega (arith, r);
  }

  -- what it finds ahead, from where the definitions have it
  placed : (n : SeenNode) → IsGoodNode ws b m q n → (a : SeenAhead) → IsAheadOf ws k n a → IsAhead ws b (last_point q n.tail.bends) (last n.tail.root n.tail.bends) (b - n.tail.used) a
  placed n h a i =
      subst (λ (x : Exp). IsAhead ws b (last_point q n.tail.bends) x (b - n.tail.used) a) h.good.told.1
      (subst (λ (p : Point). IsAhead ws b p n.tail.last (b - n.tail.used) a) h.at i)

  module _ (n : SeenNode) (h : IsGoodNode ws b m q n) (a : SeenAhead) (i : IsAheadOf ws k n a) where
    abbrev at_end : Point
    at_end = last_point q n.tail.bends

    abbrev exp_end : Exp
    exp_end = last n.tail.root n.tail.bends

    ahead : IsAhead ws b at_end exp_end (b - n.tail.used) a
    ahead = placed n h a i

    extends : (c : Bend × ℕ) → In c a.bends → IsBendAhead ws b at_end exp_end (b - n.tail.used) c.0
    extends c j = Every-at (IsBendAhead ws b at_end exp_end (b - n.tail.used)) (map (λ d. d.0) a.bends) c.0 ahead.bends.each (In-mapped (λ (d : Bend × ℕ). d.0) a.bends c j)

    child-good : (c : Bend × ℕ) → In c a.bends → goes_on k n c ≡ true → IsGoodNode ws b m q (child_of n c)
    child-good c j t = record {
      good = record {
        is = record { moves = h.good.is.moves; traced = traced-snoc ws b m q n.tail.root 0 n.tail.bends c.0 h.good.is.traced (extends c j).0 reach };
        told = (used ∙ sym (degrees-snoc n.tail.bends c.0), ap (λ (x : Exp). exp_sub x c.0.key.exp) h.good.told.1 ∙ sym (last-snoc n.tail.root n.tail.bends c.0));
      };
      at = sym (last_point-snoc q n.tail.bends c.0);
      weight = subst (λ (w : ℕ). IsToldAs w (child_of n c).weight) (sym (weight-snoc ws b n.tail.root n.tail.bends c.0))
          (told-times (tail_weight ws b n.tail.root n.tail.bends) (bend_weight ws b exp_end c.0) n.weight c.1 h.weight (Every-at (λ d. IsToldAs (bend_weight ws b exp_end d.0) d.1) a.bends c ahead.weights j));
    }
      where
        used : n.tail.used + degree c.0.key ≡ degrees n.tail.bends + degree c.0.key
        used = ap (λ (u : ℕ). u + degree c.0.key) h.good.told.0

        reach : IsInReach ws b m (exp_sub exp_end c.0.key.exp) (0 + degrees n.tail.bends + degree c.0.key)
        reach =
            subst (λ (u : ℕ). IsInReach ws b m (exp_sub exp_end c.0.key.exp) u) (let e = used in omega (arith, e))
            (subst (λ (x : Exp). IsInReach ws b m (exp_sub x c.0.key.exp) (n.tail.used + degree c.0.key)) h.good.told.1 (within-reach ws k (exp_sub n.tail.last c.0.key.exp) (n.tail.used + degree c.0.key) ready.reach t))

    -- what holds of each child holds of all
    pub each-child : (P : SeenNode → Type 0) → ((c : Bend × ℕ) → In c a.bends → goes_on k n c ≡ true → P (child_of n c)) → Every P (children k n a.bends)
    each-child P f = Every-images P (child_of n) (filter (goes_on k n) a.bends) (Every-from_In (λ c. P (child_of n c)) (filter (goes_on k n) a.bends) (λ c j. let o = filter-from (goes_on k n) a.bends c j in f c o.0 o.1))

    child-below : (c : Bend × ℕ) → BeginsLike (plain n.tail) (plain (child_of n c).tail)
    child-below c = (refl, (c.0 ∷ [], refl))

    children-apart : EveryPair (λ u v. IsApart (plain u.tail) (plain v.tail)) (children k n a.bends)
    children-apart =
        pairs-images (λ u v. IsApart (plain u.tail) (plain v.tail)) (child_of n) (filter (goes_on k n) a.bends)
        (pairs-implies (λ c d. IsTrue (bend_before c.0 d.0)) (λ c d. IsApart (plain (child_of n c).tail) (plain (child_of n d).tail)) (filter (goes_on k n) a.bends)
        (λ c d o. inr (refl, part-children n.tail.bends c.0 d.0 o)) (pairs-filter (λ c d. IsTrue (bend_before c.0 d.0)) (goes_on k n) a.bends ahead.sorted))

    -- a tail with the bends of n and more is n, or below a child
    below-next : (t : Tail) → IsTail ws b m q t → BeginsLike (plain n.tail) t → (t ≡ plain n.tail) ⊎ ((v : SeenNode) × In v (children k n a.bends) × BeginsLike (plain v.tail) t)
    below-next t is o = go o.1.0 o.1.1
      where
        go : (cs : List Bend) → t.bends ≡ n.tail.bends ++ cs → (t ≡ plain n.tail) ⊎ ((v : SeenNode) × In v (children k n a.bends) × BeginsLike (plain v.tail) t)
        go [] e = inl (same-tail t (plain n.tail) (sym o.0) (e ∙ append-nil n.tail.bends))
        go (c ∷ cs) e =
            let u = h.good.told.0 in
            let traced : IsTraced ws b m q n.tail.root 0 (n.tail.bends ++ c ∷ cs) = subst (λ (x : Exp). IsTraced ws b m q x 0 (n.tail.bends ++ c ∷ cs)) (sym o.0) (subst (λ (ds : List Bend). IsTraced ws b m q t.root 0 ds) e is.traced) in
            let rest = traced-rest ws b m q n.tail.root 0 n.tail.bends (c ∷ cs) n.tail.used (omega (arith, u)) traced in
            let r = traced-reach ws b m c.at (exp_sub exp_end c.key.exp) (n.tail.used + degree c.key) cs rest.2 in
            let le = r.1 in
            let found = In-map (λ (d : Bend × ℕ). d.0) a.bends c (ahead.bends.all c (rest.1, omega (arith, le))) in
            let same : c ≡ found.0.0 = found.2 in
            let kept : goes_on k n found.0 ≡ true = subst (λ (d : Bend). goes_on k n (d, found.0.1) ≡ true) same (reach-within ws k (exp_sub n.tail.last c.key.exp) (n.tail.used + degree c.key) ready.reach (subst (λ (x : Exp). IsInReach ws b m (exp_sub x c.key.exp) (n.tail.used + degree c.key)) (sym h.good.told.1) r)) in
            inr (
              child_of n found.0,
              In-mapped (child_of n) (filter (goes_on k n) a.bends) found.0 (filter-keeps (goes_on k n) a.bends found.0 found.1 kept),
              (o.0, (cs, e ∙ ap (λ (d : Bend). n.tail.bends ++ d ∷ cs) same ∙ sym (append_assoc n.tail.bends (found.0.0 ∷ []) cs))),
            )

    -- ---- all that was found, after n

    module _ (s : SeenTracing) (all : Traces ws b m q (with_next n s)) where
      abbrev kids : List SeenNode
      kids = children k n a.bends

      next-all : (t : Tail) → IsTail ws b m q t → In t (plain_tails (s.tails ++ n.tail ∷ [])) ⊎ ((v : SeenNode) × In v (kids ++ s.nodes) × BeginsLike (plain v.tail) t)
      next-all t is = go (all.all t is)
        where
          tails-are : plain_tails (s.tails ++ n.tail ∷ []) ≡ plain_tails s.tails ++ plain n.tail ∷ []
          tails-are = map-append plain s.tails (n.tail ∷ [])

          below : (t ≡ plain n.tail) ⊎ ((v : SeenNode) × In v kids × BeginsLike (plain v.tail) t) → In t (plain_tails (s.tails ++ n.tail ∷ [])) ⊎ ((v : SeenNode) × In v (kids ++ s.nodes) × BeginsLike (plain v.tail) t)
          below (inl e) = inl (subst (In t) (sym tails-are) (In-right (plain_tails s.tails) (plain n.tail ∷ []) t (inl e)))
          below (inr r) = inr (r.0, In-left kids s.nodes r.0 r.1, r.2)

          node : (v : SeenNode) → (v ≡ n) ⊎ In v s.nodes → BeginsLike (plain v.tail) t → In t (plain_tails (s.tails ++ n.tail ∷ [])) ⊎ ((v : SeenNode) × In v (kids ++ s.nodes) × BeginsLike (plain v.tail) t)
          node v (inl e) o = below (below-next t is (subst (λ (w : SeenNode). BeginsLike (plain w.tail) t) e o))
          node v (inr j) o = inr (v, In-right kids s.nodes v j, o)

          go : In t (plain_tails s.tails) ⊎ ((v : SeenNode) × In v (n ∷ s.nodes) × BeginsLike (plain v.tail) t) → In t (plain_tails (s.tails ++ n.tail ∷ [])) ⊎ ((v : SeenNode) × In v (kids ++ s.nodes) × BeginsLike (plain v.tail) t)
          go (inl j) = inl (subst (In t) (sym tails-are) (In-left (plain_tails s.tails) (plain n.tail ∷ []) t j))
          go (inr r) = node r.0 r.1 r.2

      -- what is before n is before its children
      tail-first : (t : SeenTail) → Every (λ v. IsTrue (tail_before (plain t) (plain v.tail))) (n ∷ s.nodes) → Every (λ v. IsTrue (tail_before (plain t) (plain v.tail))) (kids ++ s.nodes)
      tail-first t o =
          Every-append (λ v. IsTrue (tail_before (plain t) (plain v.tail))) kids s.nodes
          (each-child (λ v. IsTrue (tail_before (plain t) (plain v.tail))) (λ c j g. before-below (plain t) (plain n.tail) (plain (child_of n c).tail) o.0 (child-below c))) o.1

      own-first : Every (λ v. IsTrue (tail_before (plain n.tail) (plain v.tail))) (kids ++ s.nodes)
      own-first =
          Every-append (λ v. IsTrue (tail_before (plain n.tail) (plain v.tail))) kids s.nodes
          (each-child (λ v. IsTrue (tail_before (plain n.tail) (plain v.tail))) (λ c j g. below-before (plain n.tail) c.0 []))
          (Every-implies (λ v. IsApart (plain n.tail) (plain v.tail)) (λ v. IsTrue (tail_before (plain n.tail) (plain v.tail))) s.nodes (λ v o. apart-before (plain n.tail) (plain v.tail) o) all.apart.0)

      next-apart : EveryPair (λ u v. IsApart (plain u.tail) (plain v.tail)) (kids ++ s.nodes)
      next-apart =
          pairs-append (λ u v. IsApart (plain u.tail) (plain v.tail)) kids s.nodes children-apart all.apart.1
          (each-child (λ u. Every (λ v. IsApart (plain u.tail) (plain v.tail)) s.nodes) (λ c j g. Every-implies (λ v. IsApart (plain n.tail) (plain v.tail)) (λ v. IsApart (plain (child_of n c).tail) (plain v.tail)) s.nodes
          (λ v o. apart-longer (plain n.tail) (plain v.tail) (plain (child_of n c).tail) (plain v.tail) o (child-below c) (refl, ([], sym (append-nil v.tail.bends)))) all.apart.0))

      next-hit : IsTrue (followed k n a s).far → (p : Point) × IsHit ws b m q p × (IsNear p → ⊥)
      next-hit e = go (or-out s.far a.far e)
        where
          go : (s.far ≡ true) ⊎ (a.far ≡ true) → (p : Point) × IsHit ws b m q p × (IsNear p → ⊥)
          go (inl f) = all.hit f
          go (inr f) = let r = ahead.far f in (r.0, (r.1.0, (plain n.tail, r.1.2.0, h.good.is, r.1.1, r.1.2.1, r.1.2.2)), r.2)

      next-near : IsFalse (followed k n a s).far → Every (λ t. (p : Point) → IsHitBy ws b q t p → IsNear p) (s.tails ++ n.tail ∷ [])
      next-near e = let f = or-false s.far a.far e in Every-append (λ t. (p : Point) → IsHitBy ws b q t p → IsNear p) s.tails (n.tail ∷ []) (all.near f.0) (ahead.near f.1, tt)

      next-met : IsFalse (followed k n a s).far → MatchOption (followed k n a s).special ((p : Point) → IsMetBySome ws b q (s.tails ++ n.tail ∷ []) p → ⊥) (IsLeast point_before (IsMetBySome ws b q (s.tails ++ n.tail ∷ [])))
      next-met e =
          let f = or-false s.far a.far e in
          least-as (λ p. IsMetBySome ws b q s.tails p ⊎ IsMetBy ws b q n.tail p) (IsMetBySome ws b q (s.tails ++ n.tail ∷ [])) out back (followed k n a s).special
          (least-joined (IsMetBySome ws b q s.tails) (IsMetBy ws b q n.tail) (λ p r. r.2.0) (λ p r. r.0) s.special a.special (all.met f.0) (ahead.special f.1))
        where
          out : (p : Point) → IsMetBySome ws b q s.tails p ⊎ IsMetBy ws b q n.tail p → IsMetBySome ws b q (s.tails ++ n.tail ∷ []) p
          out p (inl r) = (r.0, In-left s.tails (n.tail ∷ []) r.0 r.1, r.2)
          out p (inr r) = (n.tail, In-right s.tails (n.tail ∷ []) n.tail (inl refl), r)

          which : (p : Point) (t : SeenTail) → In t s.tails ⊎ In t (n.tail ∷ []) → IsMetBy ws b q t p → IsMetBySome ws b q s.tails p ⊎ IsMetBy ws b q n.tail p
          which p t (inl j) r = inl (t, j, r)
          which p t (inr (inl g)) r = inr (subst (λ (u : SeenTail). IsMetBy ws b q u p) g r)
          which p t (inr (inr g)) r = absurd g

          back : (p : Point) → IsMetBySome ws b q (s.tails ++ n.tail ∷ []) p → IsMetBySome ws b q s.tails p ⊎ IsMetBy ws b q n.tail p
          back p r = which p r.0 (In-append s.tails (n.tail ∷ []) r.0 r.1) r.2

      pub traces-next : Traces ws b m q (followed k n a s)
      traces-next = record {
        good = Every-append (IsGoodTail ws b m q) s.tails (n.tail ∷ []) all.good (h.good, tt);
        next = Every-append (IsGoodNode ws b m q) kids s.nodes (each-child (IsGoodNode ws b m q) child-good) all.next.1;
        count = let c = all.count in let e = length-append s.tails (n.tail ∷ []) in let f = length-append kids s.nodes in omega (arith, c, e, f);
        all = next-all;
        sorted = pairs-append (λ t u. IsTrue (tail_before (plain t) (plain u))) s.tails (n.tail ∷ []) all.sorted (tt, tt) (Every-implies (λ t. Every (λ v. IsTrue (tail_before (plain t) (plain v.tail))) (n ∷ s.nodes)) (λ t. Every (λ u. IsTrue (tail_before (plain t) (plain u))) (n.tail ∷ [])) s.tails (λ t o. (o.0, tt)) all.first);
        first = Every-append (λ t. Every (λ v. IsTrue (tail_before (plain t) (plain v.tail))) (kids ++ s.nodes)) s.tails (n.tail ∷ []) (Every-implies (λ t. Every (λ v. IsTrue (tail_before (plain t) (plain v.tail))) (n ∷ s.nodes)) (λ t. Every (λ v. IsTrue (tail_before (plain t) (plain v.tail))) (kids ++ s.nodes)) s.tails tail-first all.first) (own-first, tt);
        apart = next-apart;
        sums = subst (λ (ts : List Tail). IsToldAs (weights ws b ts) (followed k n a s).weight) (sym (map-append plain s.tails (n.tail ∷ [])))
            (subst (λ (w : ℕ). IsToldAs w (followed k n a s).weight) (sym (weights-snoc ws b (plain_tails s.tails) (plain n.tail))) (told-plus (weights ws b (plain_tails s.tails)) (tail_weight ws b n.tail.root n.tail.bends) s.weight n.weight all.sums h.weight));
        hit = next-hit;
        near = next-near;
        met = next-met;
      }

-- ---- the bends that are told

pub bends-summable : (ws : List Wall) (k : Ask) → IsAskReady ws k → (n : SeenNode) (a : SeenAhead) → IsAheadOf ws k n a → (cs : List (CodeBend × ℕ)) → a.bends ≡ bends_of cs → AreSummableBends cs
bends-summable ws k ready n a h cs e i d lt = summable (get_or cs i d) (In-get cs i (get_or cs i d) lt (own-place cs i d lt))
  where
    summable : (c : CodeBend × ℕ) → In c cs → IsSummable c.0.key.exp
    summable c j =
        let seen : In (bend_of c.0, c.1) a.bends = subst (In (bend_of c.0, c.1)) (sym e) (In-mapped (λ (d : CodeBend × ℕ). (bend_of d.0, d.1)) cs c j) in
        let x = Every-at (IsBendAhead ws k.limit n.at n.tail.last (k.limit - n.tail.used)) (map (λ d. d.0) a.bends) (bend_of c.0) h.bends.each (In-mapped (λ (d : Bend × ℕ). d.0) a.bends (bend_of c.0, c.1) seen) in
        let low = ready.limit in
        let le = x.1 in
        let small = reached-small k.limit ws ready.tame (bend_of c.0).key.exp (degree (bend_of c.0).key) (omega (arith, low, le)) (bend-reached k.limit (cut_walls k.limit ws) (bend_of c.0).at n.tail.last (bend_of c.0).key x.0.bend.key) in
        let p = small.0 in
        let q = small.1 in
        (omega (arith, p), omega (arith, q))
