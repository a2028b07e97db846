-- All tails for an exponent at a point are listed: from each root, and below each node the empty list of bends and,
-- for each next bend, that bend before what is below it.
use Rattle.std.proofs.Common.{◌≡◌, ◌≢◌, ℕ, zero, suc, refl, sym, ap, subst, ◌∙◌, ◌+◌, ◌<◌, ◌⊎◌, inl, inr, arith, List, [], ◌∷◌}
use Rattle.scattering.specs.Collections.{Every, Lists}
use Rattle.scattering.specs.Series.{Exp, key_eq, origin, exp_sub, det, degree}
use Rattle.scattering.specs.Plane.{Point, IsPoint, point_eq}
use Rattle.scattering.specs.Wall.{Wall, cut_walls}
use Rattle.scattering.specs.BrokenLine.{Bend}
use Rattle.scattering.specs.Tail.{IsInReach, Extends, IsTraced, Tail, IsTail, last}
use Rattle.scattering.proofs.Keys.{key_eq-same, key_eq-refl, point_eq-same, point_eq-refl}
use Rattle.broken_line_theory.proofs.Bends.{IsTame}
use Rattle.broken_line_theory.proofs.BendWalls.{bend-wall}
use Rattle.broken_line_theory.proofs.LinesAndTails.{det-bent}
use Rattle.broken_line_theory.proofs.ThetaOfTails.{same-tail}
use Rattle.broken_line_theory.proofs.TracedBends.{sub-add}
use Rattle.broken_line_theory.proofs.Crossings.{crossed-moves}
use Rattle.broken_line_theory.proofs.ListedReach.{same-exps, in-reach-or-not, roots}
use Rattle.broken_line_theory.proofs.Listings.{Listing, both, denied, decided-as, tested, same-lists, none, only, listed-as, either, choose, images, joins, lists-once}
use Rattle.broken_line_theory.proofs.NextBends.{next-bends}

-- ---- equality is decided

same-bends : (b c : Bend) → Dec (b ≡ c)
same-bends b c =
    decided-as ((b.at ≡ c.at) × (b.key ≡ c.key)) (b ≡ c) (λ h. λ i. record { at = h.0 i; key = h.1 i }) (λ e. (ap (λ (d : Bend). d.at) e, ap (λ (d : Bend). d.key) e))
    (both (tested point_eq point_eq-same point_eq-refl b.at c.at) (tested key_eq key_eq-same key_eq-refl b.key c.key))

pub same-tails : (s t : Tail) → Dec (s ≡ t)
same-tails s t =
    decided-as ((s.root ≡ t.root) × (s.bends ≡ t.bends)) (s ≡ t) (λ h. same-tail s t h.0 h.1) (λ e. (ap (λ (u : Tail). u.root) e, ap (λ (u : Tail). u.bends) e))
    (both (same-exps s.root t.root) (same-lists same-bends s.bends t.bends))

-- ---- below a node

module _ (ws : List Wall) (b : ℕ) (m : Exp) where
  pub traced-reach : (p : Point) (x : Exp) (used : ℕ) (cs : List Bend) → IsTraced ws b m p x used cs → IsInReach ws b m x used
  traced-reach p x used [] h = h
  traced-reach p x used (c ∷ cs) h = h.0

  -- bends that begin with one of the next
  abbrev IsGoingOn : Point → Exp → ℕ → List Bend → Type 0
  IsGoingOn p x used cs = (c : Bend) × Extends ws b p x c × ((ds : List Bend) × IsTraced ws b m c.at (exp_sub x c.key.exp) (used + degree c.key) ds × (cs ≡ c ∷ ds))

  -- no more bends, or one of the next and what is below it
  pub traced-below : (p : Point) (x : Exp) (used : ℕ) → IsInReach ws b m x used → Listing (Extends ws b p x)
      → ((c : Bend) → Extends ws b p x c → Listing (IsTraced ws b m c.at (exp_sub x c.key.exp) (used + degree c.key))) → Listing (IsTraced ws b m p x used)
  traced-below p x used r nexts below =
      listed-as (λ cs. (cs ≡ []) ⊎ IsGoingOn p x used cs) (IsTraced ws b m p x used) out back
      (either (λ cs. cs ≡ []) (IsGoingOn p x used) (only (λ cs. cs ≡ []) [] refl (λ cs e. e))
      (joins (Extends ws b p x) (λ c cs. (ds : List Bend) × IsTraced ws b m c.at (exp_sub x c.key.exp) (used + degree c.key) ds × (cs ≡ c ∷ ds))
      (λ c e. images (IsTraced ws b m c.at (exp_sub x c.key.exp) (used + degree c.key)) (λ ds. c ∷ ds) (below c e)) nexts))
    where
      out : (cs : List Bend) → (cs ≡ []) ⊎ IsGoingOn p x used cs → IsTraced ws b m p x used cs
      out cs (inl e) = subst (IsTraced ws b m p x used) (sym e) r
      out cs (inr h) = subst (IsTraced ws b m p x used) (sym h.2.2) (r, h.1, h.2.1)

      back : (cs : List Bend) → IsTraced ws b m p x used cs → (cs ≡ []) ⊎ IsGoingOn p x used cs
      back [] h = inl refl
      back (c ∷ cs) h = inr (c, h.1, (cs, h.2, refl))

module _ (ws : List Wall) (b : ℕ) (m : Exp) (tame : Every IsTame (cut_walls b ws)) (points : Every (λ w. IsPoint w.at) (cut_walls b ws)) where
  -- each bend uses a degree of at least 1
  traced : (left : ℕ) (p : Point) (x : Exp) (used : ℕ) → IsPoint p → b < used + left → Listing (IsTraced ws b m p x used)
  traced zero p x used i l = none (IsTraced ws b m p x used) (λ cs h. let k = (traced-reach ws b m p x used cs h).1 in omega (arith, k, l))
  traced (suc left) p x used i l =
      go (in-reach-or-not ws b tame m x used) (λ c e. traced left c.at (exp_sub x c.key.exp) (used + degree c.key) e.bend.point (let d = e.bend.degree in omega (arith, d, l)))
    where
      go : Dec (IsInReach ws b m x used) → ((c : Bend) → Extends ws b p x c → Listing (IsTraced ws b m c.at (exp_sub x c.key.exp) (used + degree c.key))) → Listing (IsTraced ws b m p x used)
      go (no n) below = none (IsTraced ws b m p x used) (λ cs h. n (traced-reach ws b m p x used cs h))
      go (yes r) below = traced-below ws b m p x used r (next-bends ws b tame points p x i) below

  pub tails : (q : Point) → IsPoint q → Listing (IsTail ws b m q)
  tails q i =
      listed-as (λ t. (x : Exp) × (IsInReach ws b m x 0 × (x ≢ origin)) × ((cs : List Bend) × IsTraced ws b m q x 0 cs × (t ≡ record { root = x; bends = cs }))) (IsTail ws b m q)
      (λ t h. subst (IsTail ws b m q) (sym h.2.2) (record { moves = h.1.1; traced = h.2.1 }))
      (λ t h. (t.root, (traced-reach ws b m q t.root 0 t.bends h.traced, h.moves), (t.bends, h.traced, refl)))
      (joins (λ x. IsInReach ws b m x 0 × (x ≢ origin)) (λ x t. (cs : List Bend) × IsTraced ws b m q x 0 cs × (t ≡ record { root = x; bends = cs }))
      (λ x h. images (IsTraced ws b m q x 0) (λ cs. record { root = x; bends = cs }) (traced (suc b) q x 0 i (omega arith)))
      (choose (λ x. IsInReach ws b m x 0) (λ x. x ≢ origin) (λ x h. denied (same-exps x origin)) (roots ws b tame m)))

  -- all tails, each once
  pub tails-listed : (q : Point) → IsPoint q → (ts : List Tail) × Lists (IsTail ws b m q) ts
  tails-listed q i = lists-once same-tails (IsTail ws b m q) (tails q i)

  -- ---- a tail goes on along an exponent that isn't (0, 0)
  extended-moves : (p : Point) (x : Exp) (c : Bend) → Extends ws b p x c → exp_sub x c.key.exp ≢ origin
  extended-moves p x c h =
      let w = bend-wall b (cut_walls b ws) c.at x c.key tame h.plain h.bend.degree h.bend.key in
      crossed-moves w.wall.dir (exp_sub x c.key.exp) (λ z. w.crosses (ap (det w.wall.dir) (sym (sub-add x c.key.exp)) ∙ det-bent w.wall.dir (exp_sub x c.key.exp) c.key.exp w.along ∙ z))

  pub last-moves : (p : Point) (x : Exp) (used : ℕ) (cs : List Bend) → x ≢ origin → IsTraced ws b m p x used cs → last x cs ≢ origin
  last-moves p x used [] n h = n
  last-moves p x used (c ∷ cs) n h = last-moves c.at (exp_sub x c.key.exp) (used + degree c.key) cs (extended-moves p x c h.1) h.2
