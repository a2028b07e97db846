-- The tails, node by node, as whoever traces them lists them: each once.
use Rattle.std.proofs.Common.{◌≡◌, ◌≢◌, ℕ, refl, sym, ap, subst, ◌∙◌, ◌+◌, ◌≤◌, inl, inr, List, [], ◌∷◌, map}
use Rattle.std.specs.Prelude.{pos, flat_map, IsFalse}
use Rattle.scattering.specs.Collections.{In, Every, Lists}
use Rattle.scattering.specs.Series.{Exp, Key, origin, exp_sub, degree, coef}
use Rattle.scattering.specs.Plane.{Point, IsNear}
use Rattle.scattering.specs.Wall.{Wall, cut_walls}
use Rattle.scattering.specs.ActivePoint.{is_special}
use Rattle.scattering.specs.BrokenLine.{Bend, bend_majorant}
use Rattle.scattering.specs.Tail.{IsInReach, Extends, IsTraced, Tail, IsTail}
use Rattle.scattering.proofs.Lists.{Every-implies}
use Rattle.broken_line_theory.proofs.Bends.{IsTame}
use Rattle.broken_line_theory.proofs.Crossings.{IsCrossing}
use Rattle.broken_line_theory.proofs.ListedTails.{traced-reach}
use Rattle.broken_line_theory.proofs.Listings.{Lists-joined, Lists-as}
use Rattle.broken_line_theory.proofs.NextBends.{bend-crossing}
use Rattle.broken_line_theory.proofs.ThetaOfTails.{Lists-map}

module _ (ws : List Wall) (b : ℕ) (m : Exp) where
  -- where m isn't in reach there are no tails
  pub nothing-below : (p : Point) (x : Exp) (used : ℕ) → (IsInReach ws b m x used → ⊥) → Lists (IsTraced ws b m p x used) []
  nothing-below p x used n = record { each = tt; all = λ cs h. n (traced-reach ws b m p x used cs h); once = tt }

  -- the bends that begin with c, below a node
  abbrev pub BeginsWith : Exp → ℕ → Bend → List Bend → Type 0
  BeginsWith x used c cs = (ds : List Bend) × IsTraced ws b m c.at (exp_sub x c.key.exp) (used + degree c.key) ds × (cs ≡ c ∷ ds)

  pub begin-same : (x : Exp) (used : ℕ) (c d : Bend) (cs : List Bend) → BeginsWith x used c cs → BeginsWith x used d cs → c ≡ d
  begin-same x used c d cs h k = let e = h.2 in let f = k.2 in cc

  pub begin-listed : (x : Exp) (used : ℕ) (c : Bend) (rest : List (List Bend)) → Lists (IsTraced ws b m c.at (exp_sub x c.key.exp) (used + degree c.key)) rest
      → Lists (BeginsWith x used c) (map (λ ds. c ∷ ds) rest)
  begin-listed x used c rest =
      Lists-map (λ ds. c ∷ ds) (IsTraced ws b m c.at (exp_sub x c.key.exp) (used + degree c.key)) (BeginsWith x used c) rest
      (λ ds h. (ds, h, refl)) (λ ds es h k e. cc) (λ cs h. (h.0, h.1, sym h.2))

  -- below a node: no more bends, and for each next bend that bend before what is below it
  pub bends-below : (p : Point) (x : Exp) (used : ℕ) (cs : List Bend) (rest : Bend → List (List Bend)) → IsInReach ws b m x used → Lists (Extends ws b p x) cs
      → Every (λ c. Lists (IsTraced ws b m c.at (exp_sub x c.key.exp) (used + degree c.key)) (rest c)) cs
      → Lists (IsTraced ws b m p x used) ([] ∷ flat_map (λ c. map (λ ds. c ∷ ds) (rest c)) cs)
  bends-below p x used cs rest r l h = record {
    each = (r, Every-implies _ (IsTraced ws b m p x used) _ (λ ds k. subst (IsTraced ws b m p x used) (sym k.2.2) (r, k.1, k.2.1)) j.each);
    all = all;
    once = (Every-implies _ (λ ds. [] ≢ ds) _ (λ ds k e. let f = k.2.2 in cc) j.each, j.once);
  }
    where
      j : Lists (λ ds. (c : Bend) × Extends ws b p x c × BeginsWith x used c ds) (flat_map (λ c. map (λ ds. c ∷ ds) (rest c)) cs)
      j =
          Lists-joined (BeginsWith x used) (λ c. map (λ ds. c ∷ ds) (rest c)) (begin-same x used) (Extends ws b p x) cs l
          (Every-implies _ (λ c. Lists (BeginsWith x used c) (map (λ ds. c ∷ ds) (rest c))) cs (λ c k. begin-listed x used c (rest c) k) h)

      all : (ds : List Bend) → IsTraced ws b m p x used ds → In ds ([] ∷ flat_map (λ c. map (λ ds. c ∷ ds) (rest c)) cs)
      all [] k = inl refl
      all (d ∷ ds) k = inr (j.all (d ∷ ds) (d, k.1, (ds, k.2, refl)))

  -- ---- at a point: from each root

  abbrev HasRoot : Point → Exp → Tail → Type 0
  HasRoot q x t = (cs : List Bend) × IsTraced ws b m q x 0 cs × (t ≡ record { root = x; bends = cs })

  root-listed : (q : Point) (x : Exp) (below : List (List Bend)) → Lists (IsTraced ws b m q x 0) below → Lists (HasRoot q x) (map (λ cs. record { root = x; bends = cs }) below)
  root-listed q x below =
      Lists-map (λ cs. record { root = x; bends = cs }) (IsTraced ws b m q x 0) (HasRoot q x) below (λ cs h. (cs, h, refl)) (λ cs ds h k e. ap (λ (t : Tail). t.bends) e) (λ t h. (h.0, h.1, sym h.2))

  -- all tails: each root with what is below it
  pub tails-from_roots : (q : Point) (xs : List Exp) (below : Exp → List (List Bend)) → Lists (λ x. IsInReach ws b m x 0 × (x ≢ origin)) xs → Every (λ x. Lists (IsTraced ws b m q x 0) (below x)) xs
      → Lists (IsTail ws b m q) (flat_map (λ x. map (λ cs. record { root = x; bends = cs }) (below x)) xs)
  tails-from_roots q xs below l h =
      Lists-as (λ t. (x : Exp) × (IsInReach ws b m x 0 × (x ≢ origin)) × HasRoot q x t) (IsTail ws b m q) (flat_map (λ x. map (λ cs. record { root = x; bends = cs }) (below x)) xs)
      (λ t k. subst (IsTail ws b m q) (sym k.2.2) (record { moves = k.1.1; traced = k.2.1 }))
      (λ t k. (t.root, (traced-reach ws b m q t.root 0 t.bends k.traced, k.moves), (t.bends, k.traced, refl)))
      (Lists-joined (HasRoot q) (λ x. map (λ cs. record { root = x; bends = cs }) (below x)) (λ x y t h k. sym (root h) ∙ root k) (λ x. IsInReach ws b m x 0 × (x ≢ origin)) xs l
      (Every-implies _ (λ x. Lists (HasRoot q x) (map (λ cs. record { root = x; bends = cs }) (below x))) xs (λ x k. root-listed q x (below x) k) h))
    where
      root : {x : Exp} {t : Tail} → HasRoot q x t → t.root ≡ x
      root h = ap (λ (t : Tail). t.root) h.2

-- ---- the next bends, point by point

-- a near crossing that isn't special
pub record IsBendPoint (ws : List Wall) (b : ℕ) (p : Point) (x : Exp) (r : Point) : Type 0 where
  pub near : IsNear r
  pub plain : IsFalse (is_special (cut_walls b ws) r)
  pub wall : Wall
  pub crosses : IsCrossing (cut_walls b ws) p x wall r

abbrev pub IsBendKey : List Wall → ℕ → Exp → Point → Key → Type 0
IsBendKey ws b x r k = (1 ≤ degree k) × (coef (bend_majorant b (cut_walls b ws) r x) k ≢ pos 0)

module _ (ws : List Wall) (b : ℕ) (tame : Every IsTame (cut_walls b ws)) (p : Point) (x : Exp) where
  abbrev IsBendAt : Point → Bend → Type 0
  IsBendAt r c = (k : Key) × IsBendKey ws b x r k × (c ≡ record { at = r; key = k })

  bend-listed : (r : Point) (ks : List Key) → Lists (IsBendKey ws b x r) ks → Lists (IsBendAt r) (map (λ k. record { at = r; key = k }) ks)
  bend-listed r ks =
      Lists-map (λ k. record { at = r; key = k }) (IsBendKey ws b x r) (IsBendAt r) ks (λ k h. (k, h, refl)) (λ k l h i e. ap (λ (c : Bend). c.key) e) (λ c h. (h.0, h.1, sym h.2))

  -- at each such point, with each key of |F|^n there
  pub next-bends-listed : (rs : List Point) (keys : Point → List Key) → Lists (IsBendPoint ws b p x) rs → Every (λ r. Lists (IsBendKey ws b x r) (keys r)) rs
      → Lists (Extends ws b p x) (flat_map (λ r. map (λ k. record { at = r; key = k }) (keys r)) rs)
  next-bends-listed rs keys l h =
      Lists-as (λ c. (r : Point) × IsBendPoint ws b p x r × IsBendAt r c) (Extends ws b p x) (flat_map (λ r. map (λ k. record { at = r; key = k }) (keys r)) rs) out back
      (Lists-joined IsBendAt (λ r. map (λ k. record { at = r; key = k }) (keys r)) (λ r s c h k. sym (place h) ∙ place k) (IsBendPoint ws b p x) rs l
      (Every-implies _ (λ r. Lists (IsBendAt r) (map (λ k. record { at = r; key = k }) (keys r))) rs (λ r k. bend-listed r (keys r) k) h))
    where
      place : {r : Point} {c : Bend} → IsBendAt r c → c.at ≡ r
      place h = ap (λ (c : Bend). c.at) h.2

      out : (c : Bend) → ((r : Point) × IsBendPoint ws b p x r × IsBendAt r c) → Extends ws b p x c
      out c h =
          let k = h.1 in
          subst (Extends ws b p x) (sym h.2.2)
          (record { ahead = k.crosses.1; near = k.near; plain = k.plain; bend = record { point = k.crosses.0; degree = h.2.1.0; key = h.2.1.1 } })

      back : (c : Bend) → Extends ws b p x c → (r : Point) × IsBendPoint ws b p x r × IsBendAt r c
      back c h =
          let k = bend-crossing ws b p x c tame h in
          (c.at, record { near = h.near; plain = h.plain; wall = k.wall; crosses = k.crosses }, (c.key, (h.bend.degree, h.bend.key), refl))
