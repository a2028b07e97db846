-- A merged diagram has a ray at each start and direction of a ray of the diagram or of the corrections' terms.
use Rattle.std.proofs.Common.{◌≡◌, ◌≢◌, ℕ, ◌+◌, ◌≤◌, refl, sym, subst, ap, ◌∙◌, Bool, true, false, List, [], ◌∷◌, length, arith, inl, inr, ◌⊎◌}
use Rattle.std.specs.Prelude.{ℤ, pos, neg_ℤ, ◌+ℤ◌, ◌*ℤ◌, ◌≤ℤ◌, nat_abs, IsTrue}
use Rattle.std.specs.Int.{IsGcd}
use Rattle.std.proofs.lemmas.Int.{ints}
use Rattle.std.proofs.lemmas.Nat.Gcd.{same_from_IsGcd}
use Rattle.sum_algebra.proofs.Ring.{minus, nought, ring}
use Rattle.sum_algebra.proofs.Ring as E
use Rattle.sum_algebra.proofs.IntegerRing.{ints_ring, ◌:+◌, ◌:*◌, X, Y}
use Rattle.sum_algebra.proofs.Integers.{zero-or-not}
use Rattle.scattering.specs.Collections.{In, Every, EveryPair}
use Rattle.scattering.specs.Series.{Exp, Key, Term, degree, coef, rest, key_eq, IsMultiple}
use Rattle.scattering.specs.Plane.{Point, IsDirection, point_eq, point_before}
use Rattle.scattering.specs.Wall.{Outgoing, Wall, Diagram, IsWall, is_live}
use Rattle.scattering.specs.Completion.{IsReduced}
use Rattle.scattering.specs.Correction.{Ratio, IsRatio, Lie, Corrections, ratio_at, ray_coef, IsAdded, AreMergeable, IsMerged}
use Rattle.scattering.proofs.Determined.{coef-find}
use Rattle.scattering.proofs.Keys.{key_eq-same, point_eq-refl, point_eq-same}
use Rattle.scattering.proofs.Lists.{Every-at, Every-filter, Every-from_In, Every-implies}
use Rattle.plane_theory.proofs.Directions.{positive-not, zero-factor}
use Rattle.plane_theory.proofs.PointOrder.{before-irrefl}
use Rattle.correction_theory.proofs.MergedDiagram.{merged_diagram_exists}
use Rattle.correction_theory.proofs.RayCoefficients.{ray_coef-own, ray_coef-find}
use Rattle.correction_theory.proofs.ReducedRays.{live-term, rest-own, rest-nonzero, rest-term}
use Rattle.ray_merge.specs.Rays.{place_count, HasNewTerms}
use Rattle.ray_merge.proofs.Counting.{HasPlace, count-least}
use Rattle.ray_merge.proofs.Functions.{function-higher}
use Rattle.ray_merge.proofs.RayLists.{rays-from}

-- ---- what is added at one key

no-ratio : (n : ℕ) (h : Lie) (k : Key) → Every (λ t. degree t.0 ≡ n) h → degree k ≢ n → ratio_at h k ≡ record { num = pos 0; den = pos 1 }
no-ratio n [] k d e = refl
no-ratio n (t ∷ h) k d e = go (key_eq t.0 k) refl (no-ratio n h k d.1 e)
  where
    go : (b : Bool) → key_eq t.0 k ≡ b → ratio_at h k ≡ record { num = pos 0; den = pos 1 } → ratio_at (t ∷ h) k ≡ record { num = pos 0; den = pos 1 }
    go true q r = absurd (e (sym (ap degree (key_eq-same t.0 k q)) ∙ d.0))
    go false q r = rw q r

-- x is what the correction h adds at k
abbrev AddedBy : Lie → Key → ℤ → Type 0
AddedBy h k x = (g : ℕ) × IsGcd (nat_abs k.exp.a) (nat_abs k.exp.b) g × (x *ℤ (ratio_at h k).den ≡ neg_ℤ (pos g *ℤ (ratio_at h k).num))

-- nothing is added at keys of other degrees
low-none : (n : ℕ) (cs : Corrections) (p : Point) (k : Key) (v : ℤ) → Every (λ c. Every (λ t. degree t.0 ≡ n) c.1) cs → degree k ≢ n → IsAdded cs p k v → v ≡ pos 0
low-none n [] p k v d e a = a
low-none n (c ∷ cs) p k v d e a = go (point_eq c.0 p) refl (low-none n cs p k v d.1 e)
  where
    zero : (g : ℕ) (r : Ratio) → r ≡ record { num = pos 0; den = pos 1 } → v *ℤ r.den ≡ neg_ℤ (pos g *ℤ r.num) → v ≡ pos 0
    zero g r e q =
        let s : v *ℤ pos 1 ≡ neg_ℤ (pos g *ℤ pos 0) = subst (λ (r : Ratio). v *ℤ r.den ≡ neg_ℤ (pos g *ℤ r.num)) e q in
        ring ints_ring (v ∷ []) X (X :* E.unit) refl ∙ s ∙ ring ints_ring (pos g ∷ []) (minus (X :* nought)) nought refl

    go : (b : Bool) → point_eq c.0 p ≡ b → (IsAdded cs p k v → v ≡ pos 0) → v ≡ pos 0
    go true q l = let x : AddedBy c.1 k v = rw q at a in zero x.0 (ratio_at c.1 k) (no-ratio n c.1 k d.0 e) x.2
    go false q l = l (rw q at a)

positive-den : (h : Lie) (k : Key) → Every (λ t. IsRatio t.1) h → pos 1 ≤ℤ (ratio_at h k).den
positive-den [] k r = omega (arith, ints)
positive-den (t ∷ h) k r = go (key_eq t.0 k) refl (positive-den h k r.1)
  where
    go : (b : Bool) → key_eq t.0 k ≡ b → pos 1 ≤ℤ (ratio_at h k).den → pos 1 ≤ℤ (ratio_at (t ∷ h) k).den
    go true e l = rw e r.0.below
    go false e l = rw e l

-- where 0 may be added nothing else is
zero-alone : (cs : Corrections) → EveryPair (λ c d. IsTrue (point_before c.0 d.0)) cs → (c : Point × Lie) → In c cs → Every (λ t. IsRatio t.1) c.1 → (k : Key) (v : ℤ) → IsAdded cs c.0 k v → IsAdded cs c.0 k (pos 0) → v ≡ pos 0
zero-alone [] s c i r k v a z = absurd i
zero-alone (b ∷ bs) s c i r k v a z = go i (point_eq b.0 c.0) refl (λ j x y. zero-alone bs s.1 c j r k v x y)
  where
    both : Every (λ t. IsRatio t.1) b.1 → AddedBy b.1 k v → AddedBy b.1 k (pos 0) → v ≡ pos 0
    both r x y =
        let g : y.0 ≡ x.0 = same_from_IsGcd (nat_abs k.exp.a) (nat_abs k.exp.b) y.0 x.0 y.1 x.1 in
        let e : (ratio_at b.1 k).den *ℤ v ≡ pos 0 =
        ring ints_ring ((ratio_at b.1 k).den ∷ v ∷ []) (X :* Y) (Y :* X) refl ∙ x.2 ∙ ap (λ (g : ℕ). neg_ℤ (pos g *ℤ (ratio_at b.1 k).num)) (sym g) ∙ sym y.2 ∙ ring ints_ring ((ratio_at b.1 k).den ∷ []) (nought :* X) nought refl in
        zero-factor (ratio_at b.1 k).den v (positive-not (ratio_at b.1 k).den (positive-den b.1 k r)) e

    go : (c ≡ b) ⊎ In c bs → (x : Bool) → point_eq b.0 c.0 ≡ x → (In c bs → IsAdded bs c.0 k v → IsAdded bs c.0 k (pos 0) → v ≡ pos 0) → v ≡ pos 0
    go (inl e) x q l = both (subst (λ (d : Point × Lie). Every (λ t. IsRatio t.1) d.1) e r) (at v a) (at (pos 0) z)
      where
        own : point_eq b.0 c.0 ≡ true
        own = subst (λ (d : Point × Lie). point_eq b.0 d.0 ≡ true) (sym e) (point_eq-refl b.0)

        at : (x : ℤ) → IsAdded (b ∷ bs) c.0 k x → AddedBy b.1 k x
        at x h = rw own at h
    go (inr j) true q l = absurd (before-irrefl b.0 (subst (λ (p : Point). IsTrue (point_before b.0 p)) (sym (point_eq-same b.0 c.0 q)) (Every-at (λ (d : Point × Lie). IsTrue (point_before b.0 d.0)) bs c s.0 j)))
    go (inr j) false q l = l j (rw q at a) (rw q at z)

-- ---- the places of the merged diagram

-- no ray of lower degrees has a coefficient there
no-high : (n m : ℕ) (rays : List Wall) → m + 1 ≡ n → Every (IsWall m) rays → IsReduced rays → (p : Point) (d : Exp) (k : Key) → degree k ≡ n → ray_coef rays p d k ≡ pos 0
no-high n m rays next w red p d k e = go (zero-or-not (ray_coef rays p d k))
  where
    go : (ray_coef rays p d k ≡ pos 0) ⊎ (ray_coef rays p d k ≢ pos 0) → ray_coef rays p d k ≡ pos 0
    go (inl z) = z
    go (inr h) = absurd (omega (arith, low, same, e, next))
      where
        r : (r : Wall) × In r rays × (r.at ≡ p) × (r.dir ≡ d)
        r = ray_coef-find rays p d k h

        own : coef (rest r.0.function) k ≢ pos 0
        own z = h (sym (ap (λ (q : Point). ray_coef rays q r.0.dir k) r.2 ∙ ap (λ (x : Exp). ray_coef rays p x k) r.3) ∙ ray_coef-own rays red.rises r.0 r.1 k ∙ z)

        t : (t : Term) × In t (rest r.0.function) × (t.0 ≡ k)
        t = coef-find (rest r.0.function) k own

        low : degree t.0.0 ≤ m
        low = Every-at (λ (t : Term). degree t.0 ≤ m) (rest r.0.function) t.0 (Every-filter _ _ r.0.function (Every-at (IsWall m) rays r.0 w r.1).function.series.low) t.1

        same : degree t.0.0 ≡ degree k
        same = ap degree t.2

module _ (given : List Wall) (n m : ℕ) (e : Diagram) (cs : Corrections) (added : List Wall) (next : m + 1 ≡ n) (out : Every (λ r. r.kind ≡ Outgoing) e.rays) (w : Every (IsWall m) e.rays) (red : IsReduced e.rays)
    (ok : AreMergeable n cs) (wa : Every (IsWall n) added) (oa : Every (λ r. r.kind ≡ Outgoing) added) (ra : IsReduced added) (new : Every (HasNewTerms n cs) added)
    (adds : (p : Point) (d : Exp) (k : Key) → IsDirection d → IsMultiple d k.exp → IsAdded cs p k (ray_coef added p d k)) where
  higher : Every (IsWall n) e.rays
  higher = Every-implies (IsWall m) (IsWall n) e.rays (λ r h. record { point = h.point; direction = h.direction; function = function-higher m n r.dir r.function (omega (arith, next)) h.function }) w

  some : (e' : Diagram) × IsMerged given e cs n e'
  some = merged_diagram_exists given n e cs (omega (arith, next)) out higher red ok

  abbrev merged : List Wall
  merged = some.0.rays

  degrees : Every (λ c. Every (λ t. degree t.0 ≡ n) c.1) cs
  degrees = Every-implies _ (λ c. Every (λ t. degree t.0 ≡ n) c.1) cs (λ c h. Every-implies _ (λ t. degree t.0 ≡ n) c.1 (λ t q. q.0) h) ok.degrees

  -- a ray with a term at a key where the merged rays have one
  found : (r : Wall) (k : Key) → ray_coef merged r.at r.dir k ≢ pos 0 → HasPlace merged r
  found r k h = let s = ray_coef-find merged r.at r.dir k h in (s.0, s.1, (λ i. (s.2 i, s.3 i)))

  of-ray : (r : Wall) → In r e.rays → HasPlace merged r
  of-ray r i = found r t.0.0 (λ z. rest-nonzero m r wr t.0 t.1 (sym own ∙ same ∙ z))
    where
      wr : IsWall m r
      wr = Every-at (IsWall m) e.rays r w i

      t : (t : Term) × In t (rest r.function)
      t = live-term r (Every-at (λ (r : Wall). IsTrue (is_live r)) e.rays r red.live i)

      along : IsMultiple r.dir t.0.0.exp
      along = (rest-term m r wr t.0 t.1).1

      low : degree t.0.0 ≤ m
      low = Every-at (λ (t : Term). degree t.0 ≤ m) (rest r.function) t.0 (Every-filter _ _ r.function wr.function.series.low) t.1

      v : (v : ℤ) × IsAdded cs r.at t.0.0 v × (ray_coef merged r.at r.dir t.0.0 ≡ ray_coef e.rays r.at r.dir t.0.0 +ℤ v)
      v = some.1.added r.at r.dir t.0.0 wr.direction along.0 along.1 along.2

      none : v.0 ≡ pos 0
      none = low-none n cs r.at t.0.0 v.0 degrees (λ e. omega (arith, e, low, next)) v.1

      own : ray_coef e.rays r.at r.dir t.0.0 ≡ t.0.1
      own = ray_coef-own e.rays red.rises r i t.0.0 ∙ rest-own m r wr t.0 t.1

      same : ray_coef e.rays r.at r.dir t.0.0 ≡ ray_coef merged r.at r.dir t.0.0
      same = ring ints_ring (ray_coef e.rays r.at r.dir t.0.0 ∷ []) X (X :+ nought) refl ∙ ap (λ x. ray_coef e.rays r.at r.dir t.0.0 +ℤ x) (sym none) ∙ sym v.2

  of-added : (s : Wall) → In s added → HasPlace merged s
  of-added s i = found s t.0.0 (λ z. rest-nonzero n s ws t.0 t.1 (sym own ∙ zero z))
    where
      ws : IsWall n s
      ws = Every-at (IsWall n) added s wa i

      t : (t : Term) × In t (rest s.function)
      t = live-term s (Every-at (λ (r : Wall). IsTrue (is_live r)) added s ra.live i)

      along : IsMultiple s.dir t.0.0.exp
      along = (rest-term n s ws t.0 t.1).1

      h : HasNewTerms n cs s
      h = Every-at (HasNewTerms n cs) added s new i

      high : degree t.0.0 ≡ n
      high = Every-at (λ (t : Term). degree t.0 ≡ n) (rest s.function) t.0 h.degrees t.1

      v : (v : ℤ) × IsAdded cs s.at t.0.0 v × (ray_coef merged s.at s.dir t.0.0 ≡ ray_coef e.rays s.at s.dir t.0.0 +ℤ v)
      v = some.1.added s.at s.dir t.0.0 ws.direction along.0 along.1 along.2

      own : ray_coef added s.at s.dir t.0.0 ≡ t.0.1
      own = ray_coef-own added ra.rises s i t.0.0 ∙ rest-own n s ws t.0 t.1

      only : ray_coef merged s.at s.dir t.0.0 ≡ v.0
      only = v.2 ∙ ap (λ x. x +ℤ v.0) (no-high n m e.rays next w red s.at s.dir t.0.0 high) ∙ ring ints_ring (v.0 ∷ []) (nought :+ X) X refl

      zero : ray_coef merged s.at s.dir t.0.0 ≡ pos 0 → ray_coef added s.at s.dir t.0.0 ≡ pos 0
      zero z =
          zero-alone cs ok.sorted h.source.0 h.source.1 h.source.3 t.0.0 (ray_coef added s.at s.dir t.0.0)
          (subst (λ (p : Point). IsAdded cs p t.0.0 (ray_coef added s.at s.dir t.0.0)) h.source.2 (adds s.at s.dir t.0.0 ws.direction along))
          (subst (λ (p : Point). IsAdded cs p t.0.0 (pos 0)) h.source.2 (subst (IsAdded cs s.at t.0.0) (sym only ∙ z) v.1))

  pub merged-count : (e' : Diagram) × IsMerged given e cs n e' × (place_count e.rays added ≤ length e'.rays)
  merged-count = (
    some.0,
    some.1,
    count-least e.rays added merged (rays-from n e.rays higher out red) red.rises (Every-from_In _ e.rays of-ray) (rays-from n added wa oa ra) ra.rises (Every-from_In _ added of-added),
  )
