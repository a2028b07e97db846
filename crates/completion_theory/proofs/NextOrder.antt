-- With the corrections at all active points the completion of order n becomes that of order n + 1.
use Rattle.std.proofs.Common.{◌≡◌, ◌≢◌, ℕ, suc, refl, subst, sym, ◌∙◌, ap, List, [], ◌∷◌, ◌++◌, map, Bool, true, false, cond, ◌≤◌, ◌+◌, arith, inl, inr, ◌⊎◌, add-one}
use Rattle.std.specs.Prelude.{ℤ, pos, filter, ◌+ℤ◌, ◌*ℤ◌, neg_ℤ, ◌≤ℤ◌, nat_abs}
use Rattle.std.specs.Int.{IsGcd}
use native.Mathlib.Decide.{dec_le}
use Rattle.std.proofs.lemmas.Int.{ints}
use Rattle.std.proofs.lemmas.Nat.Gcd.{same_from_IsGcd}
use Rattle.sum_algebra.proofs.Ring.{var, minus, nought, ring}
use Rattle.sum_algebra.proofs.IntegerRing.{ints_ring, ◌:+◌, ◌:*◌, ◌:-◌, X, Y, Z}
use Rattle.sum_algebra.proofs.Sums.{pair-zero}
use Rattle.sum_algebra.proofs.Support.{Supported}
use Rattle.sum_algebra.proofs.Coefficients.{indicator}
use Rattle.scattering.specs.Collections.{In, Every}
use Rattle.scattering.specs.Series.{Key, Sum, Exp, Term, degree, rest, coef, z, monomial, SameTo, key_eq, key_mul, det, origin, IsMultiple}
use Rattle.scattering.specs.Plane.{Point, IsPoint, IsDirection, point_eq}
use Rattle.scattering.specs.Wall.{Outgoing, Wall, Diagram, IsWall, is_live, cut_wall, cut_walls, walls, starts_at}
use Rattle.scattering.specs.LocalProduct.{image, axis_x, axis_y, IsConsistentAt}
use Rattle.scattering.specs.Completion.{IsCompletion}
use Rattle.scattering.specs.ActivePoint.{is_incoming, is_active}
use Rattle.scattering.specs.Correction.{IsRatio, Lie, ratio_at, IsCorrection, Corrections, IsAdded, IsMerged, AreCorrections, ray_coef}
use Rattle.scattering.proofs.Pairing.{coef-append}
use Rattle.scattering.proofs.Lists.{Every-filter, Every-at, Every-implies}
use Rattle.scattering.proofs.Keys.{key_eq-same, point_eq-refl, origin-case, key_eq-apart, point_eq-same}
use Rattle.scattering.proofs.Coefficients.{coef-none, cut-cut}
use Rattle.scattering.proofs.Tests.{bool_cases}
use Rattle.plane_theory.proofs.Directions.{det-scale, zero-factor, positive-not, Multiple, as_multiple, direction-not_origin, scale-not_origin}
use Rattle.crossing_theory.proofs.Translation.{Eq, from_Eq, key_test, coef-is}
use Rattle.crossing_theory.proofs.Keys.{keys}
use Rattle.crossing_theory.proofs.HalfWalls.{Proper, proper}
use Rattle.crossing_theory.proofs.OtherFunctions.{refit}
use Rattle.crossing_theory.proofs.AddedTerms.{gain, gains-high, Grows}
use Rattle.crossing_theory.proofs.CutFunctions.{base, tops, added, one_le, grows}
use Rattle.correction_theory.proofs.RayGains.{less, less-back, ray-gains, coef-gain, tops-coef}
use Rattle.correction_theory.proofs.ReducedRays.{rays-unique}
use Rattle.completion_theory.proofs.RayStarts.{initial-gain}
use Rattle.completion_theory.proofs.RaisedDiagram.{lift_wall, lifted, cut-lifted, Given, givens, passive-image, lifted-proper}
use Rattle.completion_theory.proofs.LowerOrders.{image-cut, directed-cut, every-wall-cut, every-outgoing, reduced-lower}
use Rattle.completion_theory.proofs.UniqueCompletion.{image-next, on_axis, ray_coef-live, ray_coef-cut, ray_coef-high}
use Rattle.completion_theory.specs.Laws.{NextOrderCompletes}

-- ---- what is added at low degrees and at exponent (0, 0)

pub supported-coef : (n : ℕ) (f : Sum) → Supported (λ y. suc n ≤ degree y) f → (x : Key) → degree x ≤ n → coef f x ≡ pos 0
supported-coef n f s x le = coef-is f x ∙ s.at (indicator key_test x) (λ _. pos 0) (λ y l. go y l (key_eq y x) refl) ∙ pair-zero f
  where
    go : (y : Key) → suc n ≤ degree y → (b : Bool) → key_eq y x ≡ b → cond (key_eq y x) (pos 1) (pos 0) ≡ pos 0
    go y l true e = let d : degree y ≡ degree x = ap degree (key_eq-same y x e) in absurd (omega (arith, d, l, le))
    go y l false e = rw e refl

added-low : (n : ℕ) (m : Exp) (p : Point) (rays : List Wall) → Every Proper rays → (x : Key) → degree x ≤ n → coef (added n m p rays) x ≡ pos 0
added-low n m p rays h x le = supported-coef n (added n m p rays) (gains-high (suc n) (one_le n) (base n) (tops n) m p rays (Every-implies Proper (Grows (suc n) (one_le n) (base n) (tops n)) rays (λ w q. grows n w q) h)) x le

added-none : (n : ℕ) (m : Exp) (p : Point) (x : Key) (initial : List Wall) → Every (λ w. w.kind ≢ Outgoing) initial → coef (added n m p initial) x ≡ pos 0
added-none n m p x [] h = refl
added-none n m p x (w ∷ initial) h =
    coef-append (cond (starts_at w p) (gain (suc n) (one_le n) (base n) (tops n) m w) []) (added n m p initial) x
    ∙ rw (initial-gain n m p x w h.0, added-none n m p x initial h.1) refl

not_at_origin : (n : ℕ) (r : Wall) → IsWall n r → (k : Key) → k.exp ≡ origin → coef (rest r.function) k ≡ pos 0
not_at_origin n r w k o =
    coef-none (rest r.function) k (Every-implies _ _ (rest r.function)
    (λ t (q : (1 ≤ degree t.0) × IsMultiple r.dir t.0.exp). go t q.1 (key_eq t.0 k) refl) w.function.others)
  where
    go : (t : Term) → IsMultiple r.dir t.0.exp → (b : Bool) → key_eq t.0 k ≡ b → key_eq t.0 k ≡ false
    go t q true e = absurd (scale-not_origin q.0 r.dir (positive-not q.0 q.1) (direction-not_origin r.dir w.direction) (sym q.2 ∙ ap (λ (y : Key). y.exp) (key_eq-same t.0 k e) ∙ o))
    go t q false e = e

added-origin : (n : ℕ) (m : Exp) (p : Point) (x k : Key) → less x m ≡ k → k.exp ≡ origin → suc n ≤ degree k → (rays : List Wall) → Every (λ r. r.kind ≡ Outgoing) rays → Every (IsWall (suc n)) rays → coef (added n m p rays) x ≡ pos 0
added-origin n m p x k e o le [] ho hr = refl
added-origin n m p x k e o le (r ∷ rays) ho hr =
    coef-append (cond (starts_at r p) (gain (suc n) (one_le n) (base n) (tops n) m r) []) (added n m p rays) x
    ∙ rw (one (starts_at r p), added-origin n m p x k e o le rays ho.1 hr.1) refl
  where
    one : (b : Bool) → coef (cond b (gain (suc n) (one_le n) (base n) (tops n) m r) []) x ≡ pos 0
    one false = refl
    one true =
        coef-gain n m r ho.0 x ∙ ap (λ (y : Key). det r.dir m *ℤ coef (tops n r) y) e
        ∙ rw (tops-coef n r ho.0 k le, not_at_origin (suc n) r hr.0 k o) (ring ints_ring (det r.dir m ∷ []) (X :* nought) nought refl)

-- ---- corrections

pub ratio-den : (h : Lie) → Every (λ t. IsRatio t.1) h → (k : Key) → pos 1 ≤ℤ (ratio_at h k).den
ratio-den [] r k = omega (arith, ints)
ratio-den (t ∷ h) r k = go (key_eq t.0 k) refl (ratio-den h r.1 k)
  where
    go : (b : Bool) → key_eq t.0 k ≡ b → pos 1 ≤ℤ (ratio_at h k).den → pos 1 ≤ℤ (ratio_at (t ∷ h) k).den
    go true e q = rw e r.0.below
    go false e q = rw e q

pub ratio-none : (n : ℕ) (h : Lie) → Every (λ t. (degree t.0 ≡ n) × (t.0.exp ≢ origin)) h → (k : Key) → degree k ≢ n → (ratio_at h k).num ≡ pos 0
ratio-none n [] d k no_n = refl
ratio-none n (t ∷ h) d k no_n = go (key_eq t.0 k) refl (ratio-none n h d.1 k no_n)
  where
    go : (b : Bool) → key_eq t.0 k ≡ b → (ratio_at h k).num ≡ pos 0 → (ratio_at (t ∷ h) k).num ≡ pos 0
    go true e q = absurd (no_n (ap degree (sym (key_eq-same t.0 k e)) ∙ d.0.0))
    go false e q = rw e q

no-ratio : (v den num : ℤ) (g : ℕ) → pos 1 ≤ℤ den → v *ℤ den ≡ neg_ℤ (pos g *ℤ num) → num ≡ pos 0 → v ≡ pos 0
no-ratio v den num g le e z =
    zero-factor den v (positive-not den le)
    (ring ints_ring (den ∷ v ∷ []) (X :* Y) (Y :* X) refl ∙ e ∙ ap (λ x. neg_ℤ (pos g *ℤ x)) z ∙ ring ints_ring (pos g ∷ []) (minus (X :* nought)) nought refl)

-- nothing is added where the corrections at p have nothing
added-nothing : (cs : Corrections) (p : Point) (k : Key) (v : ℤ) → Every (λ c. point_eq c.0 p ≡ true → ((ratio_at c.1 k).num ≡ pos 0) × (pos 1 ≤ℤ (ratio_at c.1 k).den)) cs → IsAdded cs p k v → v ≡ pos 0
added-nothing [] p k v h a = a
added-nothing (c ∷ cs) p k v h a = go (point_eq c.0 p) refl (added-nothing cs p k v h.1)
  where
    go : (b : Bool) → point_eq c.0 p ≡ b → (IsAdded cs p k v → v ≡ pos 0) → v ≡ pos 0
    go true e f =
        let q : (g : ℕ) × IsGcd (nat_abs k.exp.a) (nat_abs k.exp.b) g × (v *ℤ (ratio_at c.1 k).den ≡ neg_ℤ (pos g *ℤ (ratio_at c.1 k).num)) = rw e at a in
        no-ratio v (ratio_at c.1 k).den (ratio_at c.1 k).num q.0 (h.0 e).1 q.2 (h.0 e).0
    go false e f = f (rw e at a)

-- what is added at a point of the list
pub record At (cs : Corrections) (p : Point) (k : Key) (v : ℤ) : Type 0 where
  pub h : Lie
  pub listed : In (p, h) cs
  pub g : ℕ
  pub gcd : IsGcd (nat_abs k.exp.a) (nat_abs k.exp.b) g
  pub is : v *ℤ (ratio_at h k).den ≡ neg_ℤ (pos g *ℤ (ratio_at h k).num)

added-at : (cs : Corrections) (p : Point) (k : Key) (v : ℤ) → In p (map (λ (c : Point × Lie). c.0) cs) → IsAdded cs p k v → At cs p k v
added-at [] p k v i a = absurd i
added-at (c ∷ cs) p k v i a = go (point_eq c.0 p) refl (added-at cs p k v)
  where
    tail : In p (map (λ (c : Point × Lie). c.0) (c ∷ cs)) → point_eq c.0 p ≡ false → In p (map (λ (c : Point × Lie). c.0) cs)
    tail (inl q) e = let t : point_eq c.0 p ≡ true = subst (λ (x : Point). point_eq x p ≡ true) q (point_eq-refl p) in absurd (cc)
    tail (inr j) e = j

    go : (b : Bool) → point_eq c.0 p ≡ b → (In p (map (λ (c : Point × Lie). c.0) cs) → IsAdded cs p k v → At cs p k v) → At (c ∷ cs) p k v
    go true e f =
        let q : (g : ℕ) × IsGcd (nat_abs k.exp.a) (nat_abs k.exp.b) g × (v *ℤ (ratio_at c.1 k).den ≡ neg_ℤ (pos g *ℤ (ratio_at c.1 k).num)) = rw e at a in
        let s : p ≡ c.0 = sym (point_eq-same c.0 p e) in
        record { h = c.1; listed = inl (λ x. (s x, c.1)); g = q.0; gcd = q.1; is = q.2 }
    go false e f = let r = f (tail i e) (rw e at a) in record { h = r.h; listed = inr r.listed; g = r.g; gcd = r.gcd; is = r.is }

pub listed-at : (cs : Corrections) (p : Point) → In p (map (λ (c : Point × Lie). c.0) cs) → (h : Lie) × In (p, h) cs
listed-at [] p i = absurd i
listed-at (c ∷ cs) p (inl e) = (c.1, inl (λ x. (e x, c.1)))
listed-at (c ∷ cs) p (inr i) = let r = listed-at cs p i in (r.0, inr r.1)

-- ---- the step

base-lift : (n : ℕ) (w : Wall) → refit (base n) (cut_wall (suc n) w) ≡ lift_wall n (suc n) w
base-lift n w = go (is_incoming w.kind) refl
  where
    go : (b : Bool) → is_incoming w.kind ≡ b → refit (base n) (cut_wall (suc n) w) ≡ lift_wall n (suc n) w
    go true e = rw e refl
    go false e = rw e (ap (λ (f : Sum). record w { function = f }) (cut-cut n (suc n) (omega arith) w.function))

base-lifts : (n : ℕ) (ws : List Wall) → map (refit (base n)) (cut_walls (suc n) ws) ≡ map (lift_wall n (suc n)) ws
base-lifts n [] = refl
base-lifts n (w ∷ ws) = let a = base-lift n w in let b = base-lifts n ws in λ i. a i ∷ b i

initial-cut : (n : ℕ) (ws : List Wall) → Every Given ws → Every (λ w. w.kind ≢ Outgoing) (cut_walls n ws)
initial-cut n [] h = tt
initial-cut n (w ∷ ws) h = (h.0.initial, initial-cut n ws h.1)

directed-lift : (n j : ℕ) (w : Wall) → IsDirection w.dir → IsDirection (lift_wall n j w).dir
directed-lift n j w h = go (is_incoming w.kind) refl
  where
    go : (b : Bool) → is_incoming w.kind ≡ b → IsDirection (lift_wall n j w).dir
    go true e = rw e h
    go false e = rw e h

degree-monomial : (m : Exp) (x : Key) → 1 ≤ degree x → coef (monomial (z m)) x ≡ pos 0
degree-monomial m x le = ap (λ (b : Bool). cond b (pos 1) (pos 0) +ℤ pos 0) (key_eq-apart (z m, pos 1) x (λ e. let d : 0 ≡ degree x = e in omega (arith, d, le)))

det-origin : (m : Exp) → det origin m ≡ pos 0
det-origin m = ring ints_ring (m.a ∷ m.b ∷ []) (nought :* Y :- nought :* X) nought refl

-- the correction takes away what it is the correction of
balance : (c v den num g t : ℤ) → pos 1 ≤ℤ den → c *ℤ den ≡ num *ℤ (g *ℤ t) → v *ℤ den ≡ neg_ℤ (g *ℤ num) → c +ℤ t *ℤ v ≡ pos 0
balance c v den num g t le e f =
    zero-factor den (c +ℤ t *ℤ v) (positive-not den le)
    (ring ints_ring (c ∷ v ∷ den ∷ t ∷ []) (Z :* (X :+ var 3 :* Y)) (X :* Z :+ var 3 :* (Y :* Z)) refl
    ∙ rw (e, f) (ring ints_ring (num ∷ g ∷ t ∷ []) (X :* (Y :* Z) :+ Z :* minus (Y :* X)) nought refl))

module _ (given : List Wall) (n k : ℕ) (le : suc n ≤ k) (hg : Every (IsWall k) given) (hk : Every (λ w. w.kind ≢ Outgoing) given) (e e' : Diagram) (cs : Corrections)
    (c : IsCompletion given n e) (hc : AreCorrections (lifted n (suc n) given e.rays) (suc n) cs) (merged : IsMerged given e cs (suc n) e') where
  abbrev ws : List Wall
  ws = lifted n (suc n) given e.rays

  gs : Every Given given
  gs = givens k given hg hk

  proper-ws : Every Proper ws
  proper-ws = lifted-proper n (suc n) given e.rays gs (Every-implies _ Proper e.rays (λ r w. proper n r w) c.proper)

  -- the corrections have terms of degree n + 1 alone
  no-lower : (p : Point) (q : Key) (v : ℤ) → degree q ≤ n → IsAdded cs p q v → v ≡ pos 0
  no-lower p q v low a =
      added-nothing cs p q v (Every-implies _ _ cs (λ c h _. let r = h.2 in (ratio-none (suc n) c.1 r.degrees q (λ d. omega (arith, d, low)), ratio-den c.1 r.ratios q)) hc.each) a

  -- cut to degree n, the new rays are the old ones
  old-rays : filter is_live (cut_walls n e'.rays) ≡ e.rays
  old-rays =
      rays-unique n n (filter is_live (cut_walls n e'.rays)) e.rays
      (Every-filter _ is_live (cut_walls n e'.rays) (every-wall-cut n (suc n) e'.rays merged.proper)) c.proper
      (Every-filter _ is_live (cut_walls n e'.rays) (every-outgoing n e'.rays merged.outgoing)) c.outgoing
      (reduced-lower n e'.rays merged.reduced) c.reduced
      (λ p d q ip hd mq. elim (dec_le (degree q) n) [
        | yes low ↦
            let a = merged.added p d q hd mq.0 mq.1 mq.2 in
            ray_coef-live (cut_walls n e'.rays) p d q ∙ ray_coef-cut n e'.rays p d q low ∙ a.2 ∙ ap (λ v. ray_coef e.rays p d q +ℤ v) (no-lower p q a.0 low a.1)
            ∙ ring ints_ring (ray_coef e.rays p d q ∷ []) (X :+ nought) X refl
        | no high ↦
            ray_coef-live (cut_walls n e'.rays) p d q ∙ ray_coef-high n (cut_walls n e'.rays) p d q (every-wall-cut n (suc n) e'.rays merged.proper) (omega (arith, high))
            ∙ sym (ray_coef-high n e.rays p d q c.proper (omega (arith, high)))
      ])

  module _ (p : Point) (ip : IsPoint p) where
    -- the new images are the old ones, and what the new terms add
    new-image : (m : Exp) (x : Key) → degree x ≤ suc n → coef (image (walls e') p (suc n) m) x ≡ coef (image ws p (suc n) m) x +ℤ coef (added n m p e'.rays) x
    new-image m x low =
        image-next n e'.initial e'.rays p m (subst (Every (λ w. IsDirection w.dir × Proper w)) (sym merged.initial) (directed-cut (suc n) k given hg)) merged.proper merged.outgoing x low
        ∙ ap (λ us. coef (image (map (refit (base n)) us ++ filter is_live (cut_walls n e'.rays)) p (suc n) m) x +ℤ coef (added n m p us) x +ℤ coef (added n m p e'.rays) x) merged.initial
        ∙ ap (λ us. coef (image (us ++ filter is_live (cut_walls n e'.rays)) p (suc n) m) x +ℤ coef (added n m p (cut_walls (suc n) given)) x +ℤ coef (added n m p e'.rays) x) (base-lifts n given)
        ∙ ap (λ rs. coef (image (map (lift_wall n (suc n)) given ++ rs) p (suc n) m) x +ℤ coef (added n m p (cut_walls (suc n) given)) x +ℤ coef (added n m p e'.rays) x) old-rays
        ∙ ap (λ y. coef (image ws p (suc n) m) x +ℤ y +ℤ coef (added n m p e'.rays) x) (added-none n m p x (cut_walls (suc n) given) (initial-cut (suc n) given gs))
        ∙ ring ints_ring (coef (image ws p (suc n) m) x ∷ coef (added n m p e'.rays) x ∷ []) (X :+ nought :+ Y) (X :+ Y) refl

    abbrev Axis : Exp → Type 0
    Axis m = In m (axis_x ∷ axis_y ∷ [])

    old-consistent : IsConsistentAt (cut_walls n given ++ e.rays) n p
    old-consistent = subst (λ xs. IsConsistentAt (xs ++ e.rays) n p) c.initial (c.consistent p ip)

    -- at degrees up to n
    at-low : (m : Exp) → Axis m → (x : Key) → degree x ≤ n → coef (image ws p (suc n) m) x ≡ coef (monomial (z m)) x
    at-low m i x low =
        from_Eq n _ _ (subst (λ us. Eq n (image ws p (suc n) m) (image us p n m)) (cut-lifted n (suc n) (omega arith) given e.rays c.proper) (image-cut n (suc n) (omega arith) ws p m proper-ws)) x low
        ∙ on_axis (λ m. SameTo n (image (cut_walls n given ++ e.rays) p n m) (monomial (z m))) old-consistent.x old-consistent.y m i x low

    rays-facts : Every (λ r. (r.kind ≡ Outgoing) × IsDirection r.dir × Proper r) e'.rays
    rays-facts = both e'.rays merged.outgoing merged.proper
      where
        both : (rays : List Wall) → Every (λ r. r.kind ≡ Outgoing) rays → Every (IsWall (suc n)) rays → Every (λ r. (r.kind ≡ Outgoing) × IsDirection r.dir × Proper r) rays
        both [] o h = tt
        both (r ∷ rays) o h = ((o.0, h.0.direction, proper (suc n) r h.0), both rays o.1 h.1)

    proper-new : Every Proper e'.rays
    proper-new = Every-implies _ Proper e'.rays (λ r w. proper (suc n) r w) merged.proper

    -- what is added at a multiple of a direction, by the corrections
    by-corrections : (m : Exp) (x : Key) → degree x ≡ suc n → (d : Multiple (less x m).exp) → (v : ℤ) × IsAdded cs p (less x m) v × (coef (added n m p e'.rays) x ≡ det d.dir m *ℤ v)
    by-corrections m x deg d =
        let a = merged.added p d.dir (less x m) d.direction (pos d.g) d.positive d.is in
        let zero-old : ray_coef e.rays p d.dir (less x m) ≡ pos 0 = ray_coef-high n e.rays p d.dir (less x m) c.proper (omega (arith, deg)) in (
          a.0,
          a.1,
          ray-gains n m p d.dir (less x m) d.direction (pos d.g, d.positive, d.is) (omega (arith, deg)) x refl e'.rays rays-facts
              ∙ ap (λ y. det d.dir m *ℤ y) (a.2 ∙ ap (λ y. y +ℤ a.0) zero-old ∙ ring ints_ring (a.0 ∷ []) (nought :+ X) X refl),
        )

    -- at degree n + 1, at a point that isn't active
    at-passive : is_active (suc n) ws p ≡ false → (m : Exp) → Axis m → (x : Key) → degree x ≡ suc n → coef (image ws p (suc n) m) x +ℤ coef (added n m p e'.rays) x ≡ pos 0
    at-passive f m i x deg =
        ap (λ y. y +ℤ coef (added n m p e'.rays) x) (from_Eq (suc n) _ _ (passive-image given e.rays n gs c.outgoing c.proper c.reduced p old-consistent f m) x (omega (arith, deg)) ∙ degree-monomial m x (omega (arith, deg)))
        ∙ ap (λ y. pos 0 +ℤ y) (by_case (origin-case (less x m).exp)) ∙ refl
      where
        by_case : ((less x m).exp ≡ origin) ⊎ ((less x m).exp ≢ origin) → coef (added n m p e'.rays) x ≡ pos 0
        by_case (inl o) = added-origin n m p x (less x m) refl o (omega (arith, deg)) e'.rays merged.outgoing merged.proper
        by_case (inr o) =
            let d = as_multiple (less x m).exp o in
            let b = by-corrections m x deg d in
            b.2 ∙ ap (λ v. det d.dir m *ℤ v) (added-nothing cs p (less x m) b.0 (Every-implies _ _ cs (λ c h s. let q : is_active (suc n) ws p ≡ true = subst (λ (y : Point). is_active (suc n) ws y ≡ true) (point_eq-same c.0 p s) h.1 in absurd (cc)) hc.each) b.1)
            ∙ ring ints_ring (det d.dir m ∷ []) (X :* nought) nought refl

    -- at an active one
    at-active : is_active (suc n) ws p ≡ true → (m : Exp) → Axis m → (x : Key) → degree x ≡ suc n → coef (image ws p (suc n) m) x +ℤ coef (added n m p e'.rays) x ≡ pos 0
    at-active t m i x deg = by_case (origin-case (less x m).exp)
      where
        shape : key_mul (less x m) (z m) ≡ x
        shape = keys.comm (less x m) (z m) ∙ less-back x m

        of-correction : (h : Lie) → IsCorrection ws p (suc n) h → coef (image ws p (suc n) m) x *ℤ (ratio_at h (less x m)).den ≡ (ratio_at h (less x m)).num *ℤ det (less x m).exp m
        of-correction h r = ap (λ (y : Key). coef (image ws p (suc n) m) y *ℤ (ratio_at h (less x m)).den) (sym shape) ∙ r.bracket m (less x m) i deg

        by_case : ((less x m).exp ≡ origin) ⊎ ((less x m).exp ≢ origin) → coef (image ws p (suc n) m) x +ℤ coef (added n m p e'.rays) x ≡ pos 0
        by_case (inl o) =
            let h = listed-at cs p (hc.all p ip t) in
            let r = (Every-at _ cs (p, h.0) hc.each h.1).2 in
            ap (λ y. coef (image ws p (suc n) m) x +ℤ y) (added-origin n m p x (less x m) refl o (omega (arith, deg)) e'.rays merged.outgoing merged.proper)
            ∙ ap (λ y. y +ℤ pos 0)
            (zero-factor (ratio_at h.0 (less x m)).den (coef (image ws p (suc n) m) x) (positive-not _ (ratio-den h.0 r.ratios (less x m)))
            (ring ints_ring (coef (image ws p (suc n) m) x ∷ (ratio_at h.0 (less x m)).den ∷ []) (Y :* X) (X :* Y) refl ∙ of-correction h.0 r
            ∙ ap (λ (y : Exp). (ratio_at h.0 (less x m)).num *ℤ det y m) o ∙ ap (λ y. (ratio_at h.0 (less x m)).num *ℤ y) (det-origin m) ∙ ring ints_ring ((ratio_at h.0 (less x m)).num ∷ []) (X :* nought) nought refl))
        by_case (inr o) =
            let d = as_multiple (less x m).exp o in
            let b = by-corrections m x deg d in
            let a = added-at cs p (less x m) b.0 (hc.all p ip t) b.1 in
            let r = (Every-at _ cs (p, a.h) hc.each a.listed).2 in
            let g : a.g ≡ d.g = same_from_IsGcd _ _ a.g d.g a.gcd d.gcd in
            ap (λ y. coef (image ws p (suc n) m) x +ℤ y) b.2
            ∙ balance (coef (image ws p (suc n) m) x) b.0 (ratio_at a.h (less x m)).den (ratio_at a.h (less x m)).num (pos d.g) (det d.dir m) (ratio-den a.h r.ratios (less x m))
            (of-correction a.h r ∙ ap (λ (y : Exp). (ratio_at a.h (less x m)).num *ℤ det y m) d.is ∙ ap (λ y. (ratio_at a.h (less x m)).num *ℤ y) (det-scale (pos d.g) d.dir m))
            (a.is ∙ ap (λ g. neg_ℤ (pos g *ℤ (ratio_at a.h (less x m)).num)) g)

    at-top : (m : Exp) → Axis m → (x : Key) → degree x ≡ suc n → coef (image ws p (suc n) m) x +ℤ coef (added n m p e'.rays) x ≡ pos 0
    at-top m i x deg = go (bool_cases (is_active (suc n) ws p))
      where
        go : (is_active (suc n) ws p ≡ true) ⊎ (is_active (suc n) ws p ≡ false) → coef (image ws p (suc n) m) x +ℤ coef (added n m p e'.rays) x ≡ pos 0
        go (inl t) = at-active t m i x deg
        go (inr f) = at-passive f m i x deg

    at-point : (m : Exp) → Axis m → SameTo (suc n) (image (walls e') p (suc n) m) (monomial (z m))
    at-point m i x le =
        new-image m x le
        ∙ elim (dec_le (degree x) n) [
          | yes low ↦ ap (λ y. coef (image ws p (suc n) m) x +ℤ y) (added-low n m p e'.rays proper-new x low) ∙ ring ints_ring (coef (image ws p (suc n) m) x ∷ []) (X :+ nought) X refl ∙ at-low m i x low
          | no high ↦ at-top m i x (omega (arith, high, le)) ∙ sym (degree-monomial m x (omega (arith, high)))
        ]

  pub step : IsCompletion given (suc n) e'
  step = record {
    initial = merged.initial;
    outgoing = merged.outgoing;
    proper = merged.proper;
    reduced = merged.reduced;
    consistent = λ p ip. record { x = at-point p ip axis_x (inl refl); y = at-point p ip axis_y (inr (inl refl)) };
  }

at-next : (given : List Wall) (n m : ℕ) (e e' : Diagram) (cs : Corrections) → Every (IsWall m) given → Every (λ w. w.kind ≢ Outgoing) given → IsCompletion given n e
    → (j : ℕ) → j ≡ suc n → j ≤ m → AreCorrections (lifted n j given e.rays) j cs → IsMerged given e cs j e' → IsCompletion given j e'
at-next given n m e e' cs hg hk c j q =
    subst (λ j. j ≤ m → AreCorrections (lifted n j given e.rays) j cs → IsMerged given e cs j e' → IsCompletion given j e') (sym q)
    (λ le hc merged. step given n m le hg hk e e' cs c hc merged)

pub step_completes : NextOrderCompletes
step_completes given n m e e' cs le hg hk c hc merged = at-next given n m e e' cs hg hk c (n + 1) (add-one n) le hc merged
