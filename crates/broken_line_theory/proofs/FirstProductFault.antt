-- The product of two thetas has a first fault, or none: its steps can be taken one after another.
use Rattle.std.proofs.Common.{◌≡◌, ◌≢◌, ℕ, zero, suc, refl, sym, ap, subst, ◌∙◌, ◌+◌, ◌-◌, ◌*◌, ◌<◌, ◌≤◌, ◌⊎◌, inl, inr, arith, Bool, true, false, List, [], ◌∷◌, ◌++◌, cond, add-one}
use Rattle.std.specs.Prelude.{ℤ, pos, ◌+ℤ◌, ◌==◌, not, filter, IsTrue, Option, Some, None}
use Rattle.std.proofs.lemmas.Int.{ints}
use native.Mathlib.Decide.{dec_le}
use Rattle.limits.specs.Limits.{largest_weight}
use Rattle.scattering.specs.Collections.{In, Every, IsLeast}
use Rattle.scattering.specs.Series.{Exp, Key, Sum, Term, origin, exp_eq, exp_before, key_eq, degree, coef, minus, mul, IsSeries}
use Rattle.scattering.specs.Plane.{Point, IsPoint}
use Rattle.scattering.specs.Wall.{Wall, IsWall}
use Rattle.scattering.specs.Theta.{AskFault, WeightTooLarge, IsAskFault, weights}
use Rattle.scattering.specs.ThetaProduct.{BeginsAt, combined, IsThetaProduct, IsThetaWeight, of_degree, weight_of, IsNext, AreWeights, BeginWithoutFault, BeginWithFault, Runs, begins, goes, FailsAt, StepsFault, IsProductFault, IsFamily}
use Rattle.scattering.proofs.Lists.{Every-at, Every-filter, Every-append}
use Rattle.scattering.proofs.Keys.{key_eq-same}
use Rattle.scattering.proofs.KeyOrder.{exp_before-trans}
use Rattle.scattering.proofs.Pairing.{coef-append}
use Rattle.scattering.proofs.StrictOrders.{exp_before-asym}
use Rattle.scattering.proofs.Determined.{coef-find}
use Rattle.sum_algebra.proofs.Integers.{zero-or-not}
use Rattle.scattering.proofs.Tests.{nat_eq-same}
use Rattle.plane_theory.proofs.TotalOrder.{Compared, exp-total}
use Rattle.broken_line_theory.proofs.Bends.{cut-walls-tame}
use Rattle.broken_line_theory.proofs.CompleteTails.{none-some}
use Rattle.broken_line_theory.proofs.Crossings.{wall-points}
use Rattle.broken_line_theory.proofs.FirstAskFault.{above-or-not, ask-fault-exists}
use Rattle.broken_line_theory.proofs.ListedTails.{tails-listed}
use Rattle.broken_line_theory.proofs.Listings.{Listing, elements, images, choose, listed-as, least-or-none}
use Rattle.broken_line_theory.proofs.ProductSteps.{IsReady, runs-ready, theta-exists, thetas-of, one-begin, steps_end}
use Rattle.broken_line_theory.proofs.SortedSums.{series-of}
use Rattle.broken_line_theory.proofs.UniqueAskFault.{ask-fault-unique}
use Rattle.broken_line_theory.proofs.UniqueFamily as U
use Rattle.broken_line_theory.specs.Laws.{ProductFaultExists, FamilyExists}

-- ---- terms by their degree

-- the coefficients of the terms whose keys pass a test
pub coef-where : (b : Key → Bool) (f : Sum) (x : Key) → coef (filter (λ t. b t.0) f) x ≡ cond (b x) (coef f x) (pos 0)
coef-where b [] x = none (b x)
  where
    none : (d : Bool) → pos 0 ≡ cond d (pos 0) (pos 0)
    none true = refl
    none false = refl
coef-where b (t ∷ f) x = go (coef-where b f x) (b t.0) refl (key_eq t.0 x) refl
  where
    left-out : (c : Bool) (r i : ℤ) → r ≡ cond c i (pos 0) → r ≡ cond c (pos 0 +ℤ i) (pos 0)
    left-out true r i h = omega (arith, ints, h)
    left-out false r i h = h

    other : (c : Bool) (r i : ℤ) → r ≡ cond c i (pos 0) → pos 0 +ℤ r ≡ cond c (pos 0 +ℤ i) (pos 0)
    other true r i h = omega (arith, ints, h)
    other false r i h = omega (arith, ints, h)

    go : coef (filter (λ t. b t.0) f) x ≡ cond (b x) (coef f x) (pos 0) → (d : Bool) → b t.0 ≡ d → (e : Bool) → key_eq t.0 x ≡ e
        → coef (filter (λ t. b t.0) (t ∷ f)) x ≡ cond (b x) (coef (t ∷ f) x) (pos 0)
    go h true e true g = let k : b x ≡ true = ap b (sym (key_eq-same t.0 x g)) ∙ e in rw (e, g, k) (ap (λ c. t.1 +ℤ c) (rw k at h))
    go h true e false g = rw (e, g) (other (b x) _ (coef f x) h)
    go h false e true g = let k : b x ≡ false = ap b (sym (key_eq-same t.0 x g)) ∙ e in rw (e, k) (rw k at h)
    go h false e false g = rw (e, g) (left-out (b x) _ (coef f x) h)

equal-number : (i j : ℕ) → i ≡ j → (i == j) ≡ true
equal-number i j h = grind arith

-- the terms of degree d are those of g, all others those of a
abbrev mixed : ℕ → Sum → Sum → Sum
mixed d a g = filter (λ t. not (degree t.0 == d)) a ++ filter (λ t. degree t.0 == d) g

mixed-at : (d : ℕ) (a g : Sum) (x : Key) → degree x ≡ d → coef (mixed d a g) x ≡ coef g x
mixed-at d a g x e =
    coef-append (filter (λ t. not (degree t.0 == d)) a) (filter (λ t. degree t.0 == d) g) x
    ∙ two (coef-where (λ k. not (degree k == d)) a x) (coef-where (λ k. degree k == d) g x) (equal-number (degree x) d e)
  where
    two : {u v : ℤ} → u ≡ cond (not (degree x == d)) (coef a x) (pos 0) → v ≡ cond (degree x == d) (coef g x) (pos 0) → (degree x == d) ≡ true → u +ℤ v ≡ coef g x
    two h i k = let p = rw k at h in let q = rw k at i in omega (arith, ints, p, q)

mixed-else : (d : ℕ) (a g : Sum) (x : Key) → degree x ≢ d → coef (mixed d a g) x ≡ coef a x
mixed-else d a g x n =
    coef-append (filter (λ t. not (degree t.0 == d)) a) (filter (λ t. degree t.0 == d) g) x
    ∙ two (coef-where (λ k. not (degree k == d)) a x) (coef-where (λ k. degree k == d) g x) (other (degree x == d) refl)
  where
    other : (b : Bool) → (degree x == d) ≡ b → b ≡ false
    other true e = absurd (n (nat_eq-same (degree x) d e))
    other false e = refl

    two : {u v : ℤ} → u ≡ cond (not (degree x == d)) (coef a x) (pos 0) → v ≡ cond (degree x == d) (coef g x) (pos 0) → (degree x == d) ≡ false → u +ℤ v ≡ coef a x
    two h i k = let p = rw k at h in let q = rw k at i in omega (arith, ints, p, q)

at-degree : (k d : ℕ) (g : Sum) → d ≤ k → Every (λ t. degree t.0 ≤ k) (filter (λ t. degree t.0 == d) g)
at-degree k d [] l = tt
at-degree k d (t ∷ g) l = go (at-degree k d g l) (degree t.0 == d) refl
  where
    go : Every (λ t. degree t.0 ≤ k) (filter (λ t. degree t.0 == d) g) → (b : Bool) → (degree t.0 == d) ≡ b → Every (λ t. degree t.0 ≤ k) (filter (λ t. degree t.0 == d) (t ∷ g))
    go h true e = let m = nat_eq-same (degree t.0) d e in rw e (omega (arith, m, l), h)
    go h false e = rw e h

module _ (ws : List Wall) (k j : ℕ) (q : Point) (walls : Every (IsWall j) ws) (point : IsPoint q) where
  -- ---- weights

  -- a theta has a weight
  theta-weight : (n : ℕ) (m : Exp) → (w : ℕ) × IsThetaWeight ws n m q w
  theta-weight n m = go (exp_eq m origin) refl
    where
      go : (b : Bool) → exp_eq m origin ≡ b → (w : ℕ) × IsThetaWeight ws n m q w
      go true e = (1, rw e refl)
      go false e =
          let ts = tails-listed ws n m (cut-walls-tame n j ws walls) (wall-points n j ws walls) q point in
          (weights ws n ts.0, rw e (ts.0, ts.1, refl))

  weight-chosen : (b : Sum) → IsSeries k b → (r : Exp) → (w : ℕ) × ((i : ℕ) → BeginsAt b r i → IsThetaWeight ws (k - i) r q w)
  weight-chosen b series r = go (U.find b r (suc k) b)
    where
      go : U.Below b r (suc k) b ⊎ U.AboveAll b r (suc k) b → (w : ℕ) × ((i : ℕ) → BeginsAt b r i → IsThetaWeight ws (k - i) r q w)
      go (inl c) =
          let i = U.begins b c.0.0 c.2 in
          let h : BeginsAt b r i.0 = subst (λ (e : Exp). BeginsAt b e i.0) c.3 i.2 in
          let w = theta-weight (k - i.0) r in
          (w.0, λ d z. subst (λ (n : ℕ). IsThetaWeight ws (k - n) r q w.0) (one-begin ws k j q walls point [] b r i.0 d h z) w.1)
      go (inr c) = (
        0,
        λ d z.
            let t = coef-find b z.found.0 z.found.1 in
            let l = c t.0 t.1 (subst (λ (w : Key). coef b w ≢ pos 0) (sym t.2) z.found.1) (ap (λ (w : Key). w.exp) t.2 ∙ z.found.2) in
            let m = Every-at (λ t. degree t.0 ≤ k) b t.0 series.low t.1 in absurd (omega (arith, l, m)),
      )

  pub weights-exist : (b : Sum) → IsSeries k b → (w : Exp → ℕ) × AreWeights ws k q b w
  weights-exist b series = (λ r. (weight-chosen b series r).0, λ r i h. (weight-chosen b series r).1 i h)

  -- ---- the thetas that begin at a step

  begins-or-not : (b : Sum) (d : ℕ) (t : Term) → coef b t.0 ≢ pos 0 → Dec (BeginsAt b t.0.exp d)
  begins-or-not b d t n = go (U.begins b t.0 n)
    where
      go : (i : ℕ) × (i ≤ degree t.0) × BeginsAt b t.0.exp i → Dec (BeginsAt b t.0.exp d)
      go i = both (dec_le i.0 d) (dec_le d i.0)
        where
          both : Dec (i.0 ≤ d) → Dec (d ≤ i.0) → Dec (BeginsAt b t.0.exp d)
          both (yes l) (yes m) = let e : i.0 ≡ d = omega (arith, l, m) in yes (subst (λ (n : ℕ). BeginsAt b t.0.exp n) e i.2)
          both (no l) m = no (λ h. let e = one-begin ws k j q walls point [] b t.0.exp i.0 d i.2 h in l (omega (arith, e)))
          both (yes l) (no m) = no (λ h. let e = one-begin ws k j q walls point [] b t.0.exp i.0 d i.2 h in m (omega (arith, e)))

  abbrev Faulty : Sum → ℕ → Exp → Type 0
  Faulty b d r = BeginsAt b r d × ((f : AskFault) × IsAskFault ws (k - d) r q (Some f))

  faulty-or-not : (b : Sum) (d : ℕ) (r : Exp) → BeginsAt b r d → Dec ((f : AskFault) × IsAskFault ws (k - d) r q (Some f))
  faulty-or-not b d r h = go (ask-fault-exists ws (k - d) j r q walls point)
    where
      go : (f : Option AskFault) × IsAskFault ws (k - d) r q f → Dec ((f : AskFault) × IsAskFault ws (k - d) r q (Some f))
      go (None, a) = no (λ x. absurd (none-is (ask-fault-unique ws (k - d) r q None (Some x.0) a x.1)))
        where
          none-is : {f : AskFault} → None ≡ Some f → ⊥
          none-is e = cc
      go (Some f, a) = yes (f, a)

  begun : (b : Sum) (d : ℕ) → IsSeries k b → Listing (λ r. BeginsAt b r d)
  begun b d series =
      listed-as (λ r. (t : Term) × (In t b × ((coef b t.0 ≢ pos 0) × BeginsAt b t.0.exp d)) × (r ≡ t.0.exp)) (λ r. BeginsAt b r d)
      (λ r h. subst (λ (e : Exp). BeginsAt b e d) (sym h.2) h.1.1.1)
      (λ r h.
      let t = coef-find b h.found.0 h.found.1 in
      let n : coef b t.0.0 ≢ pos 0 = subst (λ (w : Key). coef b w ≢ pos 0) (sym t.2) h.found.1 in
      let e : t.0.0.exp ≡ r = ap (λ (w : Key). w.exp) t.2 ∙ h.found.2 in
      (t.0, (t.1, (n, subst (λ (x : Exp). BeginsAt b x d) (sym e) h)), sym e))
      (images (λ t. In t b × ((coef b t.0 ≢ pos 0) × BeginsAt b t.0.exp d)) (λ t. t.0.exp)
      (choose (λ t. In t b) (λ t. (coef b t.0 ≢ pos 0) × BeginsAt b t.0.exp d) (λ t i. at-term t (zero-or-not (coef b t.0))) (elements b)))
    where
      at-term : (t : Term) → (coef b t.0 ≡ pos 0) ⊎ (coef b t.0 ≢ pos 0) → Dec ((coef b t.0 ≢ pos 0) × BeginsAt b t.0.exp d)
      at-term t (inl z) = no (λ h. h.0 z)
      at-term t (inr n) = go (begins-or-not b d t n)
        where
          go : Dec (BeginsAt b t.0.exp d) → Dec ((coef b t.0 ≢ pos 0) × BeginsAt b t.0.exp d)
          go (yes h) = yes (n, h)
          go (no h) = no (λ x. h x.1)

  exp-three : (x y : Exp) → (x ≡ y) ⊎ (IsTrue (exp_before x y) ⊎ IsTrue (exp_before y x))
  exp-three x y = go (exp-total x y)
    where
      go : Compared (exp_before x y) (exp_before y x) (x ≡ y) → (x ≡ y) ⊎ (IsTrue (exp_before x y) ⊎ IsTrue (exp_before y x))
      go (inl h) = inr (inl h)
      go (inr (inl h)) = inr (inr h)
      go (inr (inr e)) = inl e

  -- one of them has the first fault, or none has any
  first-begun : (b : Sum) (d : ℕ) → IsSeries k b → ((f : AskFault) × BeginWithFault ws k q d b f) ⊎ BeginWithoutFault ws k q d b
  first-begun b d series =
      go (least-or-none exp_before (Faulty b d) (λ x y h i. exp-three x y) (λ x y z h i l a c. exp_before-trans x y z a c)
      (choose (λ r. BeginsAt b r d) (λ r. (f : AskFault) × IsAskFault ws (k - d) r q (Some f)) (λ r h. faulty-or-not b d r h) (begun b d series)))
    where
      without : (r : Exp) → (BeginsAt b r d → ((f : AskFault) × IsAskFault ws (k - d) r q (Some f)) → ⊥) → BeginsAt b r d → IsAskFault ws (k - d) r q None
      without r n h = at (ask-fault-exists ws (k - d) j r q walls point)
        where
          at : (f : Option AskFault) × IsAskFault ws (k - d) r q f → IsAskFault ws (k - d) r q None
          at (None, a) = a
          at (Some f, a) = absurd (n h (f, a))

      go : ((r : Exp) × IsLeast exp_before (Faulty b d) r) ⊎ ((r : Exp) → Faulty b d r → ⊥) → ((f : AskFault) × BeginWithFault ws k q d b f) ⊎ BeginWithoutFault ws k q d b
      go (inl m) = inl (m.1.0.1.0, (m.0, m.1.0.0, m.1.0.1.1, λ r h before. without r (λ i x. later r before (m.1.1 r (i, x))) h))
        where
          later : (r : Exp) → IsTrue (exp_before r m.0) → (r ≡ m.0) ⊎ IsTrue (exp_before m.0 r) → ⊥
          later r before (inl e) = exp_before-asym m.0 m.0 (subst (λ (x : Exp). exp_before x m.0 ≡ true) e before) (subst (λ (x : Exp). exp_before x m.0 ≡ true) e before)
          later r before (inr h) = exp_before-asym r m.0 before h
      go (inr n) = inr (λ r h. without r (λ i x. n r (i, x)) h)

  module _ (s : Sum) (first : ℕ) where
    -- the terms of step d
    next-exists : (d : ℕ) (a : Sum) → d ≤ k → IsReady ws k q s d a → (b : Sum) × IsNext ws k q s d a b
    next-exists d a l h =
        let t = thetas-of ws k j q walls point s a h.series h.free in
        let g = a ++ s ++ minus (combined k t.0 a) in
        let low : Every (λ u. degree u.0 ≤ k) (mixed d a g) =
        Every-append (λ (u : Term). degree u.0 ≤ k) (filter (λ u. not (degree u.0 == d)) a) (filter (λ u. degree u.0 == d) g)
        (Every-filter (λ (u : Term). degree u.0 ≤ k) (λ u. not (degree u.0 == d)) a h.series.low) (at-degree k d g l) in
        let b = series-of k (mixed d a g) low in
        (b.0, (b.1, (t.0, t.1, (λ x e. b.2 x ∙ mixed-at d a g x e), (λ x n. b.2 x ∙ mixed-else d a g x n))))

    -- step d fails, or it goes on
    step : (d : ℕ) (a : Sum) (n : ℕ) → d ≤ k → Runs ws k q s first d a n → ((f : AskFault) × FailsAt ws k q s first d f) ⊎ ((b : Sum) × (m : ℕ) × Runs ws k q s first (suc d) b m)
    step d a n l r = go (next-exists d a l (runs-ready ws k j q walls point s first d a n r))
      where
        go : (b : Sum) × IsNext ws k q s d a b → ((f : AskFault) × FailsAt ws k q s first d f) ⊎ ((b : Sum) × (m : ℕ) × Runs ws k q s first (suc d) b m)
        go b = faults (first-begun b.0 d b.1.0)
          where
            w : (w : Exp → ℕ) × AreWeights ws k q b.0 w
            w = weights-exist b.0 b.1.0

            faults : ((f : AskFault) × BeginWithFault ws k q d b.0 f) ⊎ BeginWithoutFault ws k q d b.0 → ((f : AskFault) × FailsAt ws k q s first d f) ⊎ ((b : Sum) × (m : ℕ) × Runs ws k q s first (suc d) b m)
            faults (inl f) = inl (f.0, (a, b.0, n, l, r, b.1, inl f.1))
            faults (inr free) = heavy (above-or-not largest_weight (n + weight_of w.0 (of_degree d b.0)))
              where
                heavy : (largest_weight < n + weight_of w.0 (of_degree d b.0)) ⊎ (n + weight_of w.0 (of_degree d b.0) ≤ largest_weight)
                    → ((f : AskFault) × FailsAt ws k q s first d f) ⊎ ((b : Sum) × (m : ℕ) × Runs ws k q s first (suc d) b m)
                heavy (inl h) = inl (WeightTooLarge, (a, b.0, n, l, r, b.1, inr (refl, free, (w.0, w.1, h))))
                heavy (inr h) = inr (b.0, n + weight_of w.0 (of_degree d b.0), goes b.0 w.0 r b.1 free w.1 h)

    -- d steps, or one of them fails
    steps : (d : ℕ) → d ≤ suc k → ((f : AskFault) × ((e : ℕ) × FailsAt ws k q s first e f)) ⊎ ((a : Sum) × (n : ℕ) × Runs ws k q s first d a n)
    steps zero l = inr ([], first, begins)
    steps (suc d) l = go (steps d (omega (arith, l)))
      where
        go : ((f : AskFault) × ((e : ℕ) × FailsAt ws k q s first e f)) ⊎ ((a : Sum) × (n : ℕ) × Runs ws k q s first d a n)
            → ((f : AskFault) × ((e : ℕ) × FailsAt ws k q s first e f)) ⊎ ((a : Sum) × (n : ℕ) × Runs ws k q s first (suc d) a n)
        go (inl f) = inl f
        go (inr r) = at (step d r.0 r.1 (omega (arith, l)) r.2)
          where
            at : ((f : AskFault) × FailsAt ws k q s first d f) ⊎ ((b : Sum) × (m : ℕ) × Runs ws k q s first (suc d) b m)
                → ((f : AskFault) × ((e : ℕ) × FailsAt ws k q s first e f)) ⊎ ((a : Sum) × (n : ℕ) × Runs ws k q s first (suc d) a n)
            at (inl f) = inl (f.0, (d, f.1))
            at (inr b) = inr b

    steps-fault : (f : Option AskFault) × StepsFault ws k q s first f
    steps-fault = go (steps (suc k) (omega arith))
      where
        go : ((f : AskFault) × ((e : ℕ) × FailsAt ws k q s first e f)) ⊎ ((a : Sum) × (n : ℕ) × Runs ws k q s first (suc k) a n) → (f : Option AskFault) × StepsFault ws k q s first f
        go (inl f) = (Some f.0, f.1)
        go (inr r) = (None, (r.0, r.1, subst (λ (d : ℕ). Runs ws k q s first d r.0 r.1) (sym (add-one k)) r.2))

  -- ---- the product

  product-fault : (l r : Exp) → (f : Option AskFault) × IsProductFault ws k l r q f
  product-fault l r = left (ask-fault-exists ws k j l q walls point)
    where
      left : (f : Option AskFault) × IsAskFault ws k l q f → (f : Option AskFault) × IsProductFault ws k l r q f
      left (Some f, a) = (Some f, inl (f, a, refl))
      left (None, a) = right (ask-fault-exists ws k j r q walls point)
        where
          right : (f : Option AskFault) × IsAskFault ws k r q f → (f : Option AskFault) × IsProductFault ws k l r q f
          right (Some f, b) = (Some f, inr (a, inl (f, b, refl)))
          right (None, b) = weighed (above-or-not largest_weight (x.0 * y.0))
            where
              x : (w : ℕ) × IsThetaWeight ws k l q w
              x = theta-weight k l

              y : (w : ℕ) × IsThetaWeight ws k r q w
              y = theta-weight k r

              weighed : (largest_weight < x.0 * y.0) ⊎ (x.0 * y.0 ≤ largest_weight) → (f : Option AskFault) × IsProductFault ws k l r q f
              weighed (inl h) = (Some WeightTooLarge, inr (a, inr (b, (x.0, y.0, x.1, y.1, inl (h, refl)))))
              weighed (inr h) =
                  let u = theta-exists ws k j l q walls point a in
                  let v = theta-exists ws k j r q walls point b in
                  let g = steps-fault (mul k u.0 v.0) (x.0 * y.0) in
                  (g.0, inr (a, inr (b, (x.0, y.0, x.1, y.1, inr (h, (mul k u.0 v.0, (u.0, v.0, u.1, v.1, λ z d. refl), g.1))))))

pub product_fault_exists : ProductFaultExists
product_fault_exists ws n k l r q walls point = product-fault ws n k q walls point l r

-- where nothing fails there is a family that fits
pub family-exists : FamilyExists
family-exists ws n k l r q walls point (inl h) = absurd (none-some h.0 h.2)
family-exists ws n k l r q walls point (inr (a, inl h)) = absurd (none-some h.0 h.2)
family-exists ws n k l r q walls point (inr (a, inr (b, h))) = go h.4
  where
    go : ((largest_weight < h.0 * h.1) × (None ≡ Some WeightTooLarge)) ⊎ ((h.0 * h.1 ≤ largest_weight) × ((s : Sum) × IsThetaProduct ws n l r q s × StepsFault ws n q s (h.0 * h.1) None))
        → (f : Sum) × IsFamily ws n l r q f
    go (inl x) = absurd (none-some WeightTooLarge x.1)
    go (inr x) = (x.1.2.0, steps_end ws n k l r q x.1.0 x.1.2.0 (h.0 * h.1) x.1.2.1 walls point x.1.1 x.1.2.2)
