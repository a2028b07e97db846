-- What one step of a product makes of a stage: its new terms, the thetas taken one by one, and its faults.
use Rattle.std.proofs.Common.{◌≡◌, ◌≢◌, ℕ, refl, sym, ap, subst, ◌∙◌, ◌<◌, ◌≤◌, ◌^◌, ◌⊎◌, inl, inr, arith, Bool, true, false, cond, List, [], ◌∷◌, ◌++◌}
use Rattle.std.specs.Prelude.{ℤ, pos, ◌+ℤ◌, ◌-ℤ◌, neg_ℤ, ◌==◌, nat_abs, filter, IsTrue}
use Rattle.std.specs.Int.{int_wrap}
use Rattle.std.proofs.lemmas.Int.{ints}
use native.Mathlib.Decide.{dec_le}
use mir.Syntax.{w128}
use Rattle.limits.specs.Limits.{largest_weight}
use Rattle.scattering.specs.Collections.{In, Every}
use Rattle.scattering.specs.Series.{Exp, Key, Term, Sum, key_before, degree, coef, minus, Same, IsSeries}
use Rattle.scattering.specs.Plane.{Point, IsPoint}
use Rattle.scattering.specs.Wall.{Wall, IsWall}
use Rattle.scattering.specs.ThetaProduct.{BeginsAt, combined, AreThetas, of_degree, IsNext}
use Rattle.scattering.proofs.Lists.{Every-at, Every-from_In, Every-filter, pairs-filter, filter-from, Every-implies}
use Rattle.scattering.proofs.Determined.{coef-own, coef-find, series-unique}
use Rattle.scattering.proofs.Pairing.{coef-append, coef-minus}
use Rattle.sum_algebra.proofs.Integers.{zero-or-not}
use Rattle.trunc_series.specs.Arithmetic.{kept, IsKeepable}
use Rattle.trunc_series.specs.Reduced.{IsKeptAs}
use Rattle.trunc_series.specs.declared.arithmetic.Arithmetic.TheVariants.{Wrapping}
use Rattle.trunc_series.proofs.Coefficients.{apart-rising, coef-has, has-coef}
use Rattle.trunc_series.proofs.Exact.{wrap-small, own}
use Rattle.broken_line_theory.proofs.FirstProductFault.{coef-where}
use Rattle.broken_line_theory.proofs.ProductSteps.{IsReady, runs-ready, thetas-of, next-coef}
use Rattle.broken_line_theory.proofs.RunningWeight.{left-light}
use Rattle.broken_line_theory.proofs.UniqueFamily.{AgreeBelow, shared-begin}
use Rattle.broken_line_theory.proofs.UniqueFamily as U
use Rattle.theta_algebra.specs.Stages.{GrowsFromFactors, IsLightTerm, IsStage}

-- ---- lists kept modulo 2^128

all-keepable : (f : Sum) → Every (λ t. IsKeepable Wrapping t.1) f
all-keepable [] = tt
all-keepable (t ∷ f) = (tt, all-keepable f)

pub kept-same : (k : ℕ) (r f g : Sum) → IsKeptAs Wrapping k r f → Same f g → IsKeptAs Wrapping k r g
kept-same k r f g h same = record { series = h.series; keeps = h.keeps; keepable = all-keepable g; same = λ x. h.same x ∙ ap (kept Wrapping) (same x) }

pub kept-own : (k : ℕ) (r f : Sum) → IsKeptAs Wrapping k r f → IsKeptAs Wrapping k r r
kept-own k r f h = record { series = h.series; keeps = h.keeps; keepable = all-keepable r; same = λ x. refl }

-- where the true coefficient is below 2^127 it is the one that is kept
pub exact-at : (k : ℕ) (r f : Sum) → IsKeptAs Wrapping k r f → (x : Key) → nat_abs (coef f x) ≤ largest_weight → coef r x ≡ coef f x
exact-at k r f h x small =
    sym (coef-has (λ c. int_wrap w128 c ≡ c) r (wrap-small (pos 0) (omega arith)) (apart-rising r h.series.rises) (Every-implies (λ (t : Term). (kept Wrapping t.1 ≡ t.1) × IsKeepable Wrapping t.1) (λ t. int_wrap w128 t.1 ≡ t.1) r (λ t i. i.0) h.keeps) x)
    ∙ h.same x ∙ wrap-small (coef f x) (omega (arith, small))

-- what holds of the terms of two lists holds of what is kept of their sum
pub kept-keys : (P : Key → Type 0) (k : ℕ) (r f : Sum) → IsKeptAs Wrapping k r f → Every (λ t. P t.0) f → Every (λ t. P t.0) r
kept-keys P k r f h each = Every-from_In (λ t. P t.0) r (λ t i. go t i (zero-or-not (coef f t.0)))
  where
    own-value : (t : Term) → In t r → coef r t.0 ≡ t.1
    own-value t i = coef-own r h.series.rises t i

    go : (t : Term) → In t r → (coef f t.0 ≡ pos 0) ⊎ (coef f t.0 ≢ pos 0) → P t.0
    go t i (inl z) =
        let e : coef r t.0 ≡ pos 0 = exact-at k r f h t.0 (subst (λ (c : ℤ). nat_abs c ≤ largest_weight) (sym z) (omega arith)) ∙ z in
        absurd (Every-at (λ (t : Term). t.1 ≢ pos 0) r t h.series.nonzero i (sym (own-value t i) ∙ e))
    go t i (inr n) = let u = coef-find f t.0 n in subst P u.2 (Every-at (λ (t : Term). P t.0) f u.0 each u.1)

pub Every-both : (P : Term → Type 0) (f g : Sum) → Every P f → Every P g → Every P (f ++ g)
Every-both P [] g h i = i
Every-both P (t ∷ f) g h i = (h.0, Every-both P f g h.1 i)

series-where : (k : ℕ) (b : Term → Bool) (f : Sum) → IsSeries k f → IsSeries k (filter b f)
series-where k b f h = record {
  rises = pairs-filter (λ t u. IsTrue (key_before t.0 u.0)) b f h.rises;
  nonzero = Every-filter (λ (t : Term). t.1 ≢ pos 0) b f h.nonzero;
  low = Every-filter (λ (t : Term). degree t.0 ≤ k) b f h.low;
}

light-coef : (f : Sum) → Every IsLightTerm f → (k : ℕ) → IsSeries k f → (x : Key) → nat_abs (coef f x) ≤ largest_weight
light-coef f h k s x = coef-has (λ c. nat_abs c ≤ largest_weight) f (omega arith) (apart-rising f s.rises) h x

coef-light : (f : Sum) (k : ℕ) → IsSeries k f → ((x : Key) → nat_abs (coef f x) ≤ largest_weight) → Every IsLightTerm f
coef-light f k s h = has-coef (λ c. nat_abs c ≤ largest_weight) f (omega arith) (apart-rising f s.rises) h

below : (f : Sum) → Every IsLightTerm f → Every (λ t. nat_abs t.1 < 2 ^ 127) f
below f h = Every-implies IsLightTerm (λ (t : Term). nat_abs t.1 < 2 ^ 127) f (λ t i. omega (arith, i)) h

module _ (ws : List Wall) (k j : ℕ) (q : Point) (walls : Every (IsWall j) ws) (point : IsPoint q) (s : Sum) (first d : ℕ) (le : d ≤ k) (a left : Sum) (n : ℕ)
    (stage : IsStage ws k q s first d a left n) where
  abbrev pub ready : IsReady ws k q s d a
  ready = runs-ready ws k j q walls point s first d a n stage.runs

  abbrev pub thetas : (thetas : Exp → Sum) × AreThetas ws k q a thetas
  thetas = thetas-of ws k j q walls point s a ready.series ready.free

  abbrev pub new : Sum
  new = of_degree d left

  kept-left : IsKeptAs Wrapping k left (s ++ minus (combined k thetas.0 a))
  kept-left = stage.left thetas.0 thetas.1

  left-coef : (x : Key) → coef (s ++ minus (combined k thetas.0 a)) x ≡ coef s x -ℤ coef (combined k thetas.0 a) x
  left-coef x = coef-append s (minus (combined k thetas.0 a)) x ∙ both (coef s x) (coef (combined k thetas.0 a) x) (coef (minus (combined k thetas.0 a)) x) (coef-minus (combined k thetas.0 a) x)
    where
      both : (u c m : ℤ) → m ≡ neg_ℤ c → u +ℤ m ≡ u -ℤ c
      both u c m e = omega (arith, ints, e)

  left-small : (x : Key) → degree x ≤ k → nat_abs (coef (s ++ minus (combined k thetas.0 a)) x) ≤ largest_weight
  left-small x low =
      let l = left-light ws k j q walls point s first stage.product d a n thetas.0 stage.runs thetas.1 x low in
      let m = stage.light in
      subst (λ (c : ℤ). nat_abs c ≤ largest_weight) (sym (left-coef x)) (chain l m)
    where
      chain : {i : ℕ} → i ≤ n → n ≤ largest_weight → i ≤ largest_weight
      chain l m = omega (arith, l, m)

  left-exact : (x : Key) → degree x ≤ k → coef left x ≡ coef s x -ℤ coef (combined k thetas.0 a) x
  left-exact x low = exact-at k left (s ++ minus (combined k thetas.0 a)) kept-left x (left-small x low) ∙ left-coef x

  pub new-series : IsSeries k new
  new-series = series-where k (λ t. degree t.0 == d) left kept-left.series

  new-part : (x : Key) → coef new x ≡ cond (degree x == d) (coef left x) (pos 0)
  new-part x = coef-where (λ y. degree y == d) left x

  same-degree : (x : Key) → degree x ≡ d → (degree x == d) ≡ true
  same-degree x e = equal (degree x) d e
    where
      equal : (i m : ℕ) → i ≡ m → (i == m) ≡ true
      equal i m e = grind arith

  other-degree : (x : Key) → degree x ≢ d → (degree x == d) ≡ false
  other-degree x e = differ (degree x) d e (degree x == d) refl
    where
      equal : (i m : ℕ) → (i == m) ≡ true → i ≡ m
      equal i m e = grind arith

      differ : (i m : ℕ) → i ≢ m → (b : Bool) → (i == m) ≡ b → (i == m) ≡ false
      differ i m e true f = absurd (e (equal i m f))
      differ i m e false f = f

  pub new-at : (x : Key) → degree x ≡ d → coef new x ≡ coef left x
  new-at x e = rw (same-degree x e) at (new-part x)

  pub new-else : (x : Key) → degree x ≢ d → coef new x ≡ pos 0
  new-else x e = rw (other-degree x e) at (new-part x)

  degree-or-not : (x : Key) → (degree x ≡ d) ⊎ (degree x ≢ d)
  degree-or-not x = elim (dec_le (degree x) d) [
    | yes p ↦ elim (dec_le d (degree x)) [ yes r ↦ inl (omega (arith, p, r)) | no r ↦ inr (λ e. r (omega (arith, e))) ]
    | no p ↦ inr (λ e. p (omega (arith, e)))
  ]

  new-small : (x : Key) → nat_abs (coef new x) ≤ largest_weight
  new-small x = go (degree-or-not x)
    where
      go : (degree x ≡ d) ⊎ (degree x ≢ d) → nat_abs (coef new x) ≤ largest_weight
      go (inl e) =
          let low : degree x ≤ k = omega (arith, e, le) in
          subst (λ (c : ℤ). nat_abs c ≤ largest_weight) (sym (new-at x e ∙ left-exact x low ∙ sym (left-coef x))) (left-small x low)
      go (inr e) = subst (λ (c : ℤ). nat_abs c ≤ largest_weight) (sym (new-else x e)) (omega arith)

  pub new-light : Every IsLightTerm new
  new-light = coef-light new k new-series new-small

  pub new-within : Every GrowsFromFactors new
  new-within = Every-filter GrowsFromFactors (λ t. degree t.0 == d) left stage.near

  pub old-own : IsKeptAs Wrapping k a a
  old-own = own k a ready.series (below a stage.small)

  pub new-own : IsKeptAs Wrapping k new new
  new-own = own k new new-series (below new new-light)

  pub left-own : IsKeptAs Wrapping k left left
  left-own = kept-own k left (s ++ minus (combined k thetas.0 a)) kept-left

  -- ---- the family with its new terms
  module _ (b : Sum) (adds : IsKeptAs Wrapping k b (a ++ new)) where
    sum-small : (x : Key) → nat_abs (coef (a ++ new) x) ≤ largest_weight
    sum-small x = subst (λ (c : ℤ). nat_abs c ≤ largest_weight) (sym (coef-append a new x)) (go (degree-or-not x))
      where
        left-zero : (u v : ℤ) → u ≡ pos 0 → nat_abs v ≤ largest_weight → nat_abs (u +ℤ v) ≤ largest_weight
        left-zero u v e h = subst (λ (c : ℤ). nat_abs c ≤ largest_weight) (sym (plus u v e)) h
          where
            plus : (u v : ℤ) → u ≡ pos 0 → u +ℤ v ≡ v
            plus u v e = omega (arith, ints, e)

        right-zero : (u v : ℤ) → v ≡ pos 0 → nat_abs u ≤ largest_weight → nat_abs (u +ℤ v) ≤ largest_weight
        right-zero u v e h = subst (λ (c : ℤ). nat_abs c ≤ largest_weight) (sym (plus u v e)) h
          where
            plus : (u v : ℤ) → v ≡ pos 0 → u +ℤ v ≡ u
            plus u v e = omega (arith, ints, e)

        go : (degree x ≡ d) ⊎ (degree x ≢ d) → nat_abs (coef a x +ℤ coef new x) ≤ largest_weight
        go (inl e) = left-zero (coef a x) (coef new x) (ready.low x (omega (arith, e))) (new-small x)
        go (inr e) = right-zero (coef a x) (coef new x) (new-else x e) (light-coef a stage.small k ready.series x)

    pub b-coef : Same b (a ++ new)
    b-coef x = exact-at k b (a ++ new) adds x (sum-small x)

    b-at : (x : Key) → degree x ≡ d → coef b x ≡ coef left x
    b-at x e = b-coef x ∙ coef-append a new x ∙ plus (coef a x) (coef new x) (coef left x) (ready.low x (omega (arith, e))) (new-at x e)
      where
        plus : (u v w : ℤ) → u ≡ pos 0 → v ≡ w → u +ℤ v ≡ w
        plus u v w e f = omega (arith, ints, e, f)

    b-else : (x : Key) → degree x ≢ d → coef b x ≡ coef a x
    b-else x e = b-coef x ∙ coef-append a new x ∙ plus (coef a x) (coef new x) (new-else x e)
      where
        plus : (u v : ℤ) → v ≡ pos 0 → u +ℤ v ≡ u
        plus u v e = omega (arith, ints, e)

    pub next : IsNext ws k q s d a b
    next = (adds.series, (thetas.0, thetas.1, (λ x e. at-degree x e), b-else))
      where
        join : (u v c t : ℤ) → t ≡ v -ℤ c → u ≡ pos 0 → t ≡ u +ℤ v -ℤ c
        join u v c t e f = omega (arith, ints, e, f)

        at-degree : (x : Key) → degree x ≡ d → coef b x ≡ coef (a ++ s ++ minus (combined k thetas.0 a)) x
        at-degree x e =
            let low : degree x ≤ k = omega (arith, e, le) in
            b-at x e ∙ join (coef a x) (coef s x) (coef (combined k thetas.0 a) x) (coef left x) (left-exact x low) (ready.low x (omega (arith, e)))
            ∙ sym (next-coef a s (combined k thetas.0 a) x)

    pub b-light : Every IsLightTerm b
    b-light = coef-light b k adds.series (λ x. subst (λ (c : ℤ). nat_abs c ≤ largest_weight) (sym (b-coef x)) (sum-small x))

    pub b-within : Every GrowsFromFactors b
    b-within = kept-keys (λ x. GrowsFromFactors (x, pos 0)) k b (a ++ new) adds (Every-both GrowsFromFactors a new stage.within new-within)

    -- a new term is one of the family
    pub new-in : (t : Term) → In t new → (degree t.0 ≡ d) × (coef b t.0 ≢ pos 0)
    new-in t i =
        let e = equal (degree t.0) d (filter-from (λ t. degree t.0 == d) left t i).1 in
        (e, λ z. Every-at (λ (t : Term). t.1 ≢ pos 0) new t new-series.nonzero i (sym (coef-own new new-series.rises t i) ∙ new-at t.0 e ∙ sym (b-at t.0 e) ∙ z))
      where
        equal : (i m : ℕ) → (i == m) ≡ true → i ≡ m
        equal i m e = grind arith

    pub begins-new : (t : Term) → In t new → (i : ℕ) × (i ≤ d) × BeginsAt b t.0.exp i
    begins-new t i =
        let h = new-in t i in
        let c = U.begins b t.0 h.1 in
        (c.0, (let l = c.1 in let e = h.0 in omega (arith, l, e)), c.2)

    -- the terms of the family of degree d are the new ones
    pub b-new : of_degree d b ≡ new
    b-new =
        series-unique (of_degree d b) new (series-where k (λ t. degree t.0 == d) b adds.series).rises new-series.rises
        (series-where k (λ t. degree t.0 == d) b adds.series).nonzero new-series.nonzero (λ t _. same t.0) (λ t _. sym (same t.0))
      where
        same : (x : Key) → coef (of_degree d b) x ≡ coef new x
        same x = coef-where (λ y. degree y == d) b x ∙ go (degree-or-not x)
          where
            go : (degree x ≡ d) ⊎ (degree x ≢ d) → cond (degree x == d) (coef b x) (pos 0) ≡ coef new x
            go (inl e) = rw (same-degree x e) (b-at x e ∙ sym (new-at x e))
            go (inr e) = rw (other-degree x e) (sym (new-else x e))
