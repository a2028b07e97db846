-- A live ray starts only at an active point.
use Rattle.std.proofs.Common.{◌≡◌, ◌≢◌, ℕ, zero, suc, refl, subst, sym, ◌∙◌, ap, List, [], ◌∷◌, ◌++◌, map, Bool, true, false, cond, not, ◌≤◌, ◌+◌, arith, inl, inr, ◌⊎◌}
use Rattle.std.specs.Prelude.{ℤ, pos, ◌&&◌, IsTrue, nat_le, ◌*ℤ◌, ◌+ℤ◌, neg_ℤ}
use Rattle.std.specs.List.{list_any}
use native.Mathlib.Decide.{dec_le}
use Rattle.std.proofs.lemmas.Int.{ints}
use Rattle.sum_algebra.proofs.Ring.{var, plus, times, minus, nought, ring}
use Rattle.sum_algebra.proofs.Ring as E
use Rattle.sum_algebra.proofs.IntegerRing.{ints_ring, ◌:+◌, ◌:*◌, ◌:-◌, X, Y, Z}
use Rattle.sum_algebra.proofs.Sums.{pair}
use Rattle.sum_algebra.proofs.Coefficients.{indicator}
use Rattle.sum_algebra.proofs.SmallCrossings.{Same-lower}
use Rattle.scattering.specs.Collections.{In, Every, EveryPair}
use Rattle.scattering.specs.Series.{Key, Sum, Exp, Term, degree, rest, cut, coef, key_eq, key_mul, z, monomial, det, IsMultiple, SameTo}
use Rattle.scattering.specs.Series as D
use Rattle.scattering.specs.Plane.{Point, point_eq}
use Rattle.scattering.specs.Wall.{WallKind, Line, Incoming, Outgoing, Wall, IsWall, is_live, is_on, is_line, starts_at, has_term_to, crosses_to, are_parallel}
use Rattle.scattering.specs.LocalProduct.{image, axis_x, axis_y}
use Rattle.scattering.specs.Completion.{ray_before}
use Rattle.scattering.specs.ActivePoint.{is_incoming}
use Rattle.scattering.specs.Correction.{ray_coef}
use Rattle.scattering.proofs.Pairing.{coef-append}
use Rattle.scattering.proofs.Lists.{Every-append, Every-filter, any-none, filter-keeps, Every-from_In, Every-at, any-false, In-map, In-append, filter-from, and-right, Every-implies}
use Rattle.scattering.proofs.Keys.{point_eq-same}
use Rattle.scattering.proofs.Tests.{nat_le-yes, nat_le-not, nat_le-no}
use Rattle.plane_theory.proofs.Directions.{direction-zero}
use Rattle.correction_theory.proofs.RayCoefficients.{ray_coef-own}
use Rattle.crossing_theory.proofs.Keys.{keys, turn}
use Rattle.crossing_theory.proofs.Translation.{Eq, Eq-refl, Eq-trans, Eq-sym, from_Eq, key_test, coef-is}
use Rattle.crossing_theory.proofs.HalfWalls.{Proper, proper, small, half, sign}
use Rattle.crossing_theory.proofs.Carrying.{Passes}
use Rattle.crossing_theory.proofs.PassivePoints.{Quiet, passive, positive}
use Rattle.crossing_theory.proofs.OtherFunctions.{refit, image-refit, Fits}
use Rattle.crossing_theory.proofs.AddedTerms.{gain, pair-extra, start_side, image-grows, Grows}
use Rattle.crossing_theory.proofs.CutFunctions.{base, tops, above, added, one_le, grows, proper-base}
use Rattle.correction_theory.proofs.RayGains.{less-forth, ray-gains}
use Rattle.correction_theory.proofs.ReducedRays.{live-term, rest-own, rest-nonzero, rest-term}

-- ---- lists

nat_le-weaken : (d e n k : ℕ) → nat_le d n ≡ false → d ≤ e → k ≤ n → nat_le e k ≡ false
nat_le-weaken d e n k h p q = grind arith

-- a function cut has fewer terms
pub base-term : (d : ℕ) (w : Wall) (t : Term) → In t (rest (base d w)) → In t (rest w.function) × ((is_incoming w.kind ≡ false) → degree t.0 ≤ d)
base-term d w t i = go (is_incoming w.kind) refl
  where
    go : (b : Bool) → is_incoming w.kind ≡ b → In t (rest w.function) × ((is_incoming w.kind ≡ false) → degree t.0 ≤ d)
    go true e = (rw e at i, λ f. absurd (cc))
    go false e =
        let j = filter-from (λ (t : Term). not (key_eq t.0 D.unit)) (cut d w.function) t (rw e at i) in
        let l = filter-from (λ (t : Term). nat_le (degree t.0) d) w.function t j.0 in
        (filter-keeps (λ (t : Term). not (key_eq t.0 D.unit)) w.function t l.0 j.1, λ f. nat_le-yes (degree t.0) d l.1)

abbrev sums_to : ℕ → Sum → Sum → Bool
sums_to n f g = list_any (λ (s : Term). list_any (λ (t : Term). nat_le (degree s.0 + degree t.0) n) g) f

sums-fewer : (n k : ℕ) (f g f' g' : Sum) → k ≤ n → ((t : Term) → In t f' → In t f) → ((t : Term) → In t g' → In t g) → sums_to n f g ≡ false → sums_to k f' g' ≡ false
sums-fewer n k f g f' g' le i j e =
    any-false _ f' (λ s a. any-false _ g' (λ t b.
    nat_le-weaken (degree s.0 + degree t.0) (degree s.0 + degree t.0) n k (any-none _ g (any-none _ f e s (i s a)) t (j t b)) (omega arith) le))

crosses-fewer : (n k : ℕ) (u v : Wall) (F : Wall → Sum) → k ≤ n → ((w : Wall) (t : Term) → In t (rest (F w)) → In t (rest w.function)) → crosses_to n u v ≡ false → crosses_to k (refit F u) (refit F v) ≡ false
crosses-fewer n k u v F le i e = go (are_parallel u v) refl
  where
    go : (b : Bool) → are_parallel u v ≡ b → crosses_to k (refit F u) (refit F v) ≡ false
    go true p = rw p refl
    go false p = rw p (sums-fewer n k (rest u.function) (rest v.function) (rest (F u)) (rest (F v)) le (i u) (i v) (rw p at e))

pub quiet-refit : (n k : ℕ) (F : Wall → Sum) (ws : List Wall) (p : Point) → k ≤ n → ((w : Wall) (t : Term) → In t (rest (F w)) → In t (rest w.function)) → Quiet n ws p → Quiet k (map (refit F) ws) p
quiet-refit n k F ws p le i q = record {
  quiet = λ u v a b c d.
      let x = In-map (refit F) ws u a in
      let y = In-map (refit F) ws v b in
      let r : crosses_to k (refit F x.0) (refit F y.0) ≡ false = crosses-fewer n k x.0 y.0 F le i (q.quiet x.0 y.0 x.1 y.1 (subst (λ (w : Wall). is_on w p ≡ true) x.2 c) (subst (λ (w : Wall). is_on w p ≡ true) y.2 d)) in
      subst (λ (w : Wall). crosses_to k w v ≡ false) (sym x.2) (subst (λ (w : Wall). crosses_to k (refit F x.0) w ≡ false) (sym y.2) r);
}

-- ---- initial walls add nothing

pub initial-gain : (d : ℕ) (m : Exp) (p : Point) (x : Key) (w : Wall) → w.kind ≢ Outgoing → coef (cond (starts_at w p) (gain (suc d) (one_le d) (base d) (tops d) m w) []) x ≡ pos 0
initial-gain d m p x w out = go w.kind refl
  where
    nothing : w.kind ≡ Incoming → (b : Bool) → coef (cond b (gain (suc d) (one_le d) (base d) (tops d) m w) []) x ≡ pos 0
    nothing k true =
        coef-is (gain (suc d) (one_le d) (base d) (tops d) m w) x
        ∙ pair-extra (suc d) (one_le d) (base d) (tops d) m (indicator key_test x) (half w (start_side w.kind))
        ∙ ap (λ (q : WallKind). turn w.dir (sign (half w (start_side w.kind))) (z m) *ℤ pair (λ y. indicator key_test x (key_mul (z m) y)) (cond (is_incoming q) [] (above d w.function))) k
        ∙ ring ints_ring (turn w.dir (sign (half w (start_side w.kind))) (z m) ∷ []) (X :* nought) nought refl
    nothing k false = refl

    go : (k : WallKind) → w.kind ≡ k → coef (cond (starts_at w p) (gain (suc d) (one_le d) (base d) (tops d) m w) []) x ≡ pos 0
    go Line k = ap (λ (q : WallKind). coef (cond (not (is_line q) && point_eq w.at p) (gain (suc d) (one_le d) (base d) (tops d) m w) []) x) k
    go Incoming k = nothing k (starts_at w p)
    go Outgoing k = absurd (out k)

pub added-initial : (d : ℕ) (m : Exp) (p : Point) (x : Key) (initial rays : List Wall) → Every (λ w. w.kind ≢ Outgoing) initial → coef (added d m p (initial ++ rays)) x ≡ coef (added d m p rays) x
added-initial d m p x [] rays h = refl
added-initial d m p x (w ∷ initial) rays h =
    coef-append (cond (starts_at w p) (gain (suc d) (one_le d) (base d) (tops d) m w) []) (added d m p (initial ++ rays)) x
    ∙ rw (initial-gain d m p x w h.0, added-initial d m p x initial rays h.1) (ring ints_ring (coef (added d m p rays) x ∷ []) (nought :+ X) X refl)

-- ---- the same walls, to a lower degree

refit-same : (ws : List Wall) → map (refit (λ w. w.function)) ws ≡ ws
refit-same [] = refl
refit-same (w ∷ ws) = ap (λ r. w ∷ r) (refit-same ws)

pub image-lower : (k k' : ℕ) → k ≤ k' → (ws : List Wall) (p : Point) (m : Exp) → Every Proper ws → Eq k (image ws p k' m) (image ws p k m)
image-lower k k' le ws p m h =
    subst (λ us. Eq k (image ws p k' m) (image us p k m)) (refit-same ws)
    (image-refit k k' le (λ w. w.function) ws p m (Every-implies Proper (Fits k k' le (λ w. w.function)) ws (λ w q. record { proper = q; proper' = q; same = Eq-refl k w.function }) h))

pub degree-mul : (m : Exp) (k : Key) → degree (key_mul (z m) k) ≡ degree k
degree-mul m k = omega arith

-- ---- rays that start at a quiet point

module _ (n : ℕ) (initial rays : List Wall) (p : Point)
    (hi : Every (λ w. (w.kind ≢ Outgoing) × Proper w) initial) (hr : Every (λ r. (r.kind ≡ Outgoing) × IsWall n r) rays)
    (rises : EveryPair (λ (r s : Wall). IsTrue (ray_before r s)) rays)
    (quiet : Quiet n (initial ++ rays) p) (still : Every (λ w. starts_at w p ≡ true → has_term_to n w ≡ false) initial)
    (cons : (m : Exp) → In m (axis_x ∷ axis_y ∷ []) → Eq n (image (initial ++ rays) p n m) (monomial (z m))) where
  abbrev all : List Wall
  all = initial ++ rays

  proper_initial : Every Proper initial
  proper_initial = Every-implies _ Proper initial (λ w h. h.1) hi

  proper_rays : Every Proper rays
  proper_rays = Every-implies _ Proper rays (λ r h. proper n r h.1) hr

  proper_all : Every Proper all
  proper_all = Every-append Proper initial rays proper_initial proper_rays

  -- no ray that starts at p has a term of degree d or less
  abbrev Late : ℕ → Type 0
  Late d = Every (λ r. starts_at r p ≡ true → has_term_to d r ≡ false) rays

  module _ (d : ℕ) (le : suc d ≤ n) (late : Late d) where
    passes-ray : (r : Wall) → In r rays → Passes (suc d) p (refit (base d) r)
    passes-ray r i = (proper-base d r (Every-at Proper rays r proper_rays i), λ s. small (suc d) (refit (base d) r) (proper-base d r (Every-at Proper rays r proper_rays i)) (any-false _ (rest (base d r)) (none s)))
      where
        none : starts_at r p ≡ true → (t : Term) → In t (rest (base d r)) → nat_le (degree t.0) (suc d) ≡ false
        none s t j =
            let b = base-term d r t j in
            let k : is_incoming r.kind ≡ false = ap is_incoming (Every-at (λ r. (r.kind ≡ Outgoing) × IsWall n r) rays r hr i).0 in
            let h : nat_le (degree t.0) d ≡ false = any-none _ (rest r.function) (Every-at (λ r. starts_at r p ≡ true → has_term_to d r ≡ false) rays r late i s) t b.0 in
            let l = b.1 k in let g = nat_le-no (degree t.0) d h in absurd (omega (arith, l, g))

    passes-initial : (w : Wall) → In w initial → Passes (suc d) p (refit (base d) w)
    passes-initial w i = (
      proper-base d w (Every-at Proper initial w proper_initial i),
      λ s. small (suc d) (refit (base d) w) (proper-base d w (Every-at Proper initial w proper_initial i))
          (any-false _ (rest (base d w)) (λ t j. nat_le-weaken (degree t.0) (degree t.0) n (suc d) (any-none _ (rest w.function) (Every-at (λ w. starts_at w p ≡ true → has_term_to n w ≡ false) initial w still i s) t (base-term d w t j).0) (omega arith) le)),
    )

    passes-all : Every (Passes (suc d) p) (map (refit (base d)) all)
    passes-all = Every-from_In _ _ (λ w i. go w (In-map (refit (base d)) all w i))
      where
        go : (w : Wall) → (u : Wall) × In u all × (w ≡ refit (base d) u) → Passes (suc d) p w
        go w u = subst (Passes (suc d) p) (sym u.2) (which u.0 (In-append initial rays u.0 u.1))
          where
            which : (u : Wall) → In u initial ⊎ In u rays → Passes (suc d) p (refit (base d) u)
            which u (inl i) = passes-initial u i
            which u (inr i) = passes-ray u i

    -- so what the terms of degree d + 1 add is nothing
    nothing-added : (m : Exp) → In m (axis_x ∷ axis_y ∷ []) → (x : Key) → degree x ≤ suc d → coef (added d m p rays) x ≡ pos 0
    nothing-added m i x low =
        let grown = image-grows (suc d) (one_le d) (base d) (tops d) all p m (Every-implies Proper (Grows (suc d) (one_le d) (base d) (tops d)) all (λ w q. grows d w q) proper_all) in
        let flat = passive (suc d) (map (refit (base d)) all) p passes-all (quiet-refit n (suc d) (base d) all p le (λ w t j. (base-term d w t j).0) quiet) m in
        let low_image : Eq (suc d) (image all p n m) (image all p (suc d) m) = image-lower (suc d) n le all p m proper_all in
        let whole : Eq (suc d) (monomial (z m)) (image all p (suc d) m) = Eq-trans (suc d) _ (image all p n m) _ (Eq-sym (suc d) _ _ (Same-lower keys (suc d) n _ _ le (cons m i))) low_image in
        let c = from_Eq (suc d) (monomial (z m)) (image (map (refit (base d)) all) p (suc d) m ++ added d m p all) (Eq-trans (suc d) _ (image all p (suc d) m) _ whole grown) x low in
        let b = from_Eq (suc d) _ (monomial (z m)) flat x low in
        sym (added-initial d m p x initial rays (Every-implies _ (λ w. w.kind ≢ Outgoing) initial (λ w h. h.0) hi))
        ∙ left (coef (monomial (z m)) x) (coef (added d m p all) x) (c ∙ coef-append (image (map (refit (base d)) all) p (suc d) m) (added d m p all) x ∙ ap (λ y. y +ℤ coef (added d m p all) x) b)
      where
        left : (a b : ℤ) → a ≡ a +ℤ b → b ≡ pos 0
        left a b e = omega (arith, ints, e)

    -- by direction
    no-coef : (r : Wall) → In r rays → r.at ≡ p → (k : Key) → IsMultiple r.dir k.exp → degree k ≡ suc d → coef (rest r.function) k ≡ pos 0
    no-coef r i at k mk deg =
        direction-zero r.dir wr.direction (coef (rest r.function) k) (ring ints_ring (r.dir.a ∷ r.dir.b ∷ coef (rest r.function) k ∷ []) (X :* Z) ((X :* E.unit :- Y :* nought) :* Z) refl ∙ along axis_y (inr (inl refl)))
        (ring ints_ring (r.dir.a ∷ r.dir.b ∷ coef (rest r.function) k ∷ []) (Y :* Z) (minus ((X :* nought :- Y :* E.unit) :* Z)) refl ∙ ap neg_ℤ (along axis_x (inl refl)))
      where
        wr : IsWall n r
        wr = (Every-at (λ r. (r.kind ≡ Outgoing) × IsWall n r) rays r hr i).1

        along : (m : Exp) → In m (axis_x ∷ axis_y ∷ []) → det r.dir m *ℤ coef (rest r.function) k ≡ pos 0
        along m j =
            ap (λ c. det r.dir m *ℤ c) (sym (ray_coef-own rays rises r i k)) ∙ ap (λ (q : Point). det r.dir m *ℤ ray_coef rays q r.dir k) at
            ∙ sym (ray-gains d m p r.dir k wr.direction mk (omega (arith, deg)) (key_mul (z m) k) (less-forth k m) rays (Every-implies _ _ rays (λ r h. (h.0, h.1.direction, proper n r h.1)) hr))
            ∙ nothing-added m j (key_mul (z m) k) (let e = degree-mul m k in omega (arith, e, deg))

    later : Late (suc d)
    later = Every-from_In _ rays (λ r i s. any-false _ (rest r.function) (λ t j. go r i s t j (dec_le (degree t.0) (suc d))))
      where
        go : (r : Wall) → In r rays → starts_at r p ≡ true → (t : Term) → In t (rest r.function) → Dec (degree t.0 ≤ suc d) → nat_le (degree t.0) (suc d) ≡ false
        go r i s t j (no high) = nat_le-not (degree t.0) (suc d) (omega (arith, high))
        go r i s t j (yes low) =
            let wr = (Every-at (λ r. (r.kind ≡ Outgoing) × IsWall n r) rays r hr i).1 in
            let h : nat_le (degree t.0) d ≡ false = any-none _ (rest r.function) (Every-at (λ r. starts_at r p ≡ true → has_term_to d r ≡ false) rays r late i s) t j in
            let g = nat_le-no (degree t.0) d h in
            let e : degree t.0 ≡ suc d = omega (arith, g, low) in
            absurd (rest-nonzero n r wr t j (sym (rest-own n r wr t j) ∙ no-coef r i (point_eq-same r.at p (and-right (not (is_line r.kind)) _ s)) t.0 (rest-term n r wr t j).1 e))

  late-0 : Late 0
  late-0 = Every-implies Proper _ rays (λ r q s. positive (rest r.function) (Every-implies _ (λ t. 1 ≤ degree t.0) _ (λ t u. u.0) q.others)) proper_rays

  late-to : (d : ℕ) → d ≤ n → Late d
  late-to zero le = late-0
  late-to (suc d) le = later d le (late-to d (omega (arith, le)))

  -- no live ray starts at p
  pub no-start : (r : Wall) → In r rays → IsTrue (is_live r) → starts_at r p ≡ false
  no-start r i live = go (starts_at r p) refl
    where
      wr : IsWall n r
      wr = (Every-at (λ r. (r.kind ≡ Outgoing) × IsWall n r) rays r hr i).1

      go : (b : Bool) → starts_at r p ≡ b → starts_at r p ≡ false
      go false e = e
      go true e =
          let t = live-term r live in
          let h : nat_le (degree t.0.0) n ≡ false = any-none _ (rest r.function) (Every-at (λ r. starts_at r p ≡ true → has_term_to n r ≡ false) rays r (late-to n (omega arith)) i e) t.0 t.1 in
          let g = nat_le-no (degree t.0.0) n h in
          let l : degree t.0.0 ≤ n = Every-at (λ (t : Term). degree t.0 ≤ n) (rest r.function) t.0 (Every-filter _ _ r.function wr.function.series.low) t.1 in
          absurd (omega (arith, g, l))
