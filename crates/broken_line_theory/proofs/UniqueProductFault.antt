-- The product of two thetas has one first fault, or none: its steps are determined.
use Rattle.std.proofs.Common.{◌≡◌, ◌≢◌, ℕ, zero, suc, refl, sym, ap, subst, ◌∙◌, ◌+◌, ◌-◌, ◌*◌, ◌<◌, ◌≤◌, ◌^◌, ◌⊎◌, inl, inr, arith, Bool, true, false, List, [], ◌∷◌}
use Rattle.std.specs.Prelude.{ℤ, pos, ◌+ℤ◌, ◌-ℤ◌, ◌==◌, Option, Some, None, nat_abs}
use Rattle.std.proofs.lemmas.Int.{ints}
use native.Mathlib.Decide.{dec_le}
use Rattle.scattering.specs.Collections.{In, Every}
use Rattle.scattering.specs.Series.{Exp, Key, Sum, Term, origin, exp_eq, exp_before, degree, coef, SameTo, IsSeries}
use Rattle.scattering.specs.Plane.{Point, IsPoint}
use Rattle.scattering.specs.Wall.{Wall, IsWall}
use Rattle.scattering.specs.Theta.{AskFault, WeightTooLarge, IsAskFault}
use Rattle.scattering.specs.ThetaProduct.{BeginsAt, combined, IsThetaProduct, IsThetaWeight, of_degree, weight_of, IsNext, AreWeights, BeginWithoutFault, BeginWithFault, IsTooHeavy, Runs, begins, goes, FailsAt, StepsFault, IsProductFault}
use Rattle.scattering.proofs.Lists.{Every-at, Every-from_In, Every-filter}
use Rattle.scattering.proofs.Determined.{coef-own, series-unique}
use Rattle.plane_theory.proofs.TotalOrder.{Compared, exp-total}
use Rattle.broken_line_theory.proofs.LeadingMonomial.{theta-unique}
use Rattle.broken_line_theory.proofs.EqualSums.{mul-same}
use Rattle.broken_line_theory.proofs.UniqueAskFault.{ask-fault-unique, weight-unique}
use Rattle.broken_line_theory.proofs.UniqueFamily.{AgreeBelow, excess-same}
use Rattle.broken_line_theory.proofs.UniqueFamily as F
use Rattle.broken_line_theory.proofs.ProductSteps.{next-coef}
use Rattle.broken_line_theory.specs.Laws.{ProductFaultIsUnique}
use Rattle.broken_line_theory.proofs.CompleteTails.{none-some}

some-inject : {A : Type 0} (x y : A) → Some x ≡ Some y → x ≡ y
some-inject x y e = cc

module _ (ws : List Wall) (k j : ℕ) (q : Point) (walls : Every (IsWall j) ws) (point : IsPoint q) where
  -- ---- weights

  pub theta-weight-unique : (n : ℕ) (m : Exp) (v w : ℕ) → IsThetaWeight ws n m q v → IsThetaWeight ws n m q w → v ≡ w
  theta-weight-unique n m v w h i = go (exp_eq m origin) refl
    where
      go : (b : Bool) → exp_eq m origin ≡ b → v ≡ w
      go true e = (rw e at h) ∙ sym (rw e at i)
      go false e = weight-unique ws n m q v w (rw e at h) (rw e at i)

  abbrev Weighs : Sum → (Exp → ℕ) → Type 0
  Weighs b w = AreWeights ws k q b w

  weight_of-same : (v w : Exp → ℕ) (a : Sum) → Every (λ t. v t.0.exp ≡ w t.0.exp) a → weight_of v a ≡ weight_of w a
  weight_of-same v w [] h = refl
  weight_of-same v w (t ∷ a) h = let e = h.0 in let f = weight_of-same v w a h.1 in (λ i. nat_abs t.1 * e i + f i)

  -- the weights of the terms of a series
  weights-same : (b : Sum) (d : ℕ) → IsSeries k b → (v w : Exp → ℕ) → Weighs b v → Weighs b w → weight_of v (of_degree d b) ≡ weight_of w (of_degree d b)
  weights-same b d s v w hv hw = weight_of-same v w (of_degree d b) (Every-filter _ (λ t. degree t.0 == d) b (Every-from_In _ b (λ t i. go t i)))
    where
      go : (t : Term) → In t b → v t.0.exp ≡ w t.0.exp
      go t i =
          let n : coef b t.0 ≢ pos 0 = λ z. Every-at (λ (t : Term). t.1 ≢ pos 0) b t s.nonzero i (sym (coef-own b s.rises t i) ∙ z) in
          let r = F.begins b t.0 n in
          theta-weight-unique (k - r.0) t.0.exp (v t.0.exp) (w t.0.exp) (hv t.0.exp r.0 r.2) (hw t.0.exp r.0 r.2)

  -- ---- steps

  -- the terms of step d are determined
  next-same : (s s' : Sum) → SameTo k s s' → (d : ℕ) → d ≤ k → (a b b' : Sum) → IsNext ws k q s d a b → IsNext ws k q s' d a b' → b ≡ b'
  next-same s s' same d le a b b' h i = series-unique b b' h.0.rises i.0.rises h.0.nonzero i.0.nonzero (λ t _. each t.0 (dec_eq (degree t.0) d)) (λ t _. sym (each t.0 (dec_eq (degree t.0) d)))
    where
      dec_eq : (x y : ℕ) → (x ≡ y) ⊎ (x ≢ y)
      dec_eq x y = elim (dec_le x y) [
        | yes p ↦ elim (dec_le y x) [ yes q ↦ inl (omega (arith, p, q)) | no q ↦ inr (λ e. q (omega (arith, e))) ]
        | no p ↦ inr (λ e. p (omega (arith, e)))
      ]

      finish : (a s t c e : ℤ) → s ≡ t → c -ℤ a ≡ e -ℤ a → a +ℤ s -ℤ c ≡ a +ℤ t -ℤ e
      finish a s t c e p r = omega (arith, ints, p, r)

      each : (x : Key) → (degree x ≡ d) ⊎ (degree x ≢ d) → coef b x ≡ coef b' x
      each x (inl e) =
          let l : degree x ≤ k = omega (arith, e, le) in
          h.1.2 x e ∙ next-coef a s (combined k h.1.0 a) x
          ∙ finish (coef a x) (coef s x) (coef s' x) (coef (combined k h.1.0 a) x) (coef (combined k i.1.0 a) x) (same x l) (excess-same ws k j q walls point a a h.1.0 i.1.0 x h.1.1 i.1.1 l (λ y _. refl))
          ∙ sym (i.1.2 x e ∙ next-coef a s' (combined k i.1.0 a) x)
      each x (inr n) = h.1.3 x n ∙ sym (i.1.3 x n)

  -- ---- runs

  -- a step that didn't fail
  record Step (s : Sum) (first d : ℕ) (b : Sum) (total : ℕ) : Type 0 where
    a : Sum
    n : ℕ
    w : Exp → ℕ
    before : Runs ws k q s first d a n
    next : IsNext ws k q s d a b
    free : BeginWithoutFault ws k q d b
    weighs : Weighs b w
    light : n + weight_of w (of_degree d b) ≤ 2 ^ 126
    is : total ≡ n + weight_of w (of_degree d b)

  last-step : (s : Sum) (first d : ℕ) (b : Sum) (total : ℕ) → Runs ws k q s first (suc d) b total → Step s first d b total
  last-step s first d b total (goes b' w before next free weighs light) = record { a = _; n = _; w = w; before = before; next = next; free = free; weighs = weighs; light = light; is = refl }

  no-step : (s : Sum) (first : ℕ) (a : Sum) (n : ℕ) → Runs ws k q s first 0 a n → (a ≡ []) × (n ≡ first)
  no-step s first a n begins = (refl, refl)

  module _ (s s' : Sum) (same : SameTo k s s') (first : ℕ) where
    -- a run of d steps is determined
    runs-same : (d : ℕ) → d ≤ suc k → (a a' : Sum) (n n' : ℕ) → Runs ws k q s first d a n → Runs ws k q s' first d a' n' → (a ≡ a') × (n ≡ n')
    runs-same zero le a a' n n' x y = let h = no-step s first a n x in let i = no-step s' first a' n' y in (h.0 ∙ sym i.0, h.1 ∙ sym i.1)
    runs-same (suc d) le a a' n n' x y =
        let h = last-step s first d a n x in
        let i = last-step s' first d a' n' y in
        let e = runs-same d (omega (arith, le)) h.a i.a h.n i.n h.before i.before in
        let f : a ≡ a' = next-same s s' same d (omega (arith, le)) i.a a a' (subst (λ (z : Sum). IsNext ws k q s d z a) e.0 h.next) i.next in (
          f,
          h.is ∙ ap (λ (z : ℕ). z + weight_of h.w (of_degree d a)) e.1
              ∙ ap (λ (z : ℕ). i.n + z) (weights-same a d h.next.0 h.w i.w h.weighs (subst (λ (z : Sum). Weighs z i.w) (sym f) i.weighs))
              ∙ ap (λ (z : Sum). i.n + weight_of i.w (of_degree d z)) f ∙ sym i.is,
        )

  -- a run has its beginnings
  shorter : (s : Sum) (first d e : ℕ) (a : Sum) (n : ℕ) → e ≤ d → Runs ws k q s first d a n → (b : Sum) × (m : ℕ) × Runs ws k q s first e b m
  shorter s first zero e a n le r = let z : 0 ≡ e = omega (arith, le) in (a, n, subst (λ c. Runs ws k q s first c a n) z r)
  shorter s first (suc d) e a n le r = let h = last-step s first d a n r in go (λ l. shorter s first d e h.a h.n l h.before) (dec_le e d)
    where
      go : (e ≤ d → (b : Sum) × (m : ℕ) × Runs ws k q s first e b m) → Dec (e ≤ d) → (b : Sum) × (m : ℕ) × Runs ws k q s first e b m
      go f (yes l) = f l
      go f (no l) = let z : suc d ≡ e = omega (arith, le, l) in (a, n, subst (λ c. Runs ws k q s first c a n) z r)

  -- ---- faults of the steps

  -- what fails at step d
  abbrev Fault : ℕ → Sum → ℕ → AskFault → Type 0
  Fault d b n fault = BeginWithFault ws k q d b fault ⊎ ((fault ≡ WeightTooLarge) × BeginWithoutFault ws k q d b × IsTooHeavy ws k q d b n)

  fault-clash : (m : ℕ) (r : Exp) (f : AskFault) → IsAskFault ws m r q (Some f) → IsAskFault ws m r q None → ⊥
  fault-clash m r f h i = none-some f (ask-fault-unique ws m r q None (Some f) i h)

  module _ (s s' : Sum) (same : SameTo k s s') (first : ℕ) where
    -- a step that fails isn't one that doesn't
    fails-or-runs : (d : ℕ) (f : AskFault) (b : Sum) (n : ℕ) → FailsAt ws k q s first d f → Runs ws k q s' first (suc d) b n → ⊥
    fails-or-runs d f b n h y =
        let i = last-step s' first d b n y in
        let e = runs-same s s' same first d (let l = h.3 in omega (arith, l)) h.0 i.a h.2 i.n h.4 i.before in
        let g : h.1 ≡ b = next-same s s' same d h.3 i.a h.1 b (subst (λ (z : Sum). IsNext ws k q s d z h.1) e.0 h.5) i.next in
        go i e.1 g h.6
      where
        go : (i : Step s' first d b n) → h.2 ≡ i.n → h.1 ≡ b
            → Fault d h.1 h.2 f
            → ⊥
        go i e g (inl x) = fault-clash (k - d) x.0 f x.2 (i.free x.0 (subst (λ (z : Sum). BeginsAt z x.0 d) g x.1))
        go i e g (inr x) =
            let v = weights-same b d i.next.0 x.2.0 i.w (subst (λ (z : Sum). Weighs z x.2.0) g x.2.1) i.weighs in
            let u : 2 ^ 126 < h.2 + weight_of x.2.0 (of_degree d b) = subst (λ (z : Sum). 2 ^ 126 < h.2 + weight_of x.2.0 (of_degree d z)) g x.2.2 in
            let l = i.light in omega (arith, u, v, e, l)

    -- two faults of one step
    one-fault : (d : ℕ) (f g : AskFault) → FailsAt ws k q s first d f → FailsAt ws k q s' first d g → f ≡ g
    one-fault d f g h i =
        let e = runs-same s s' same first d (let l = h.3 in omega (arith, l)) h.0 i.0 h.2 i.2 h.4 i.4 in
        let c : h.1 ≡ i.1 = next-same s s' same d h.3 i.0 h.1 i.1 (subst (λ (z : Sum). IsNext ws k q s d z h.1) e.0 h.5) i.5 in
        go c h.6 i.6
      where
        go : h.1 ≡ i.1
            → Fault d h.1 h.2 f
            → Fault d i.1 i.2 g
            → f ≡ g
        go c (inl x) (inl y) = first-of (exp-total x.0 y.0)
          where
            first-of : Compared (exp_before x.0 y.0) (exp_before y.0 x.0) (x.0 ≡ y.0) → f ≡ g
            first-of (inl l) = absurd (fault-clash (k - d) x.0 f x.2 (y.3 x.0 (subst (λ (z : Sum). BeginsAt z x.0 d) c x.1) l))
            first-of (inr (inl l)) = absurd (fault-clash (k - d) y.0 g y.2 (x.3 y.0 (subst (λ (z : Sum). BeginsAt z y.0 d) (sym c) y.1) l))
            first-of (inr (inr e)) = some-inject f g (ask-fault-unique ws (k - d) y.0 q (Some f) (Some g) (subst (λ (r : Exp). IsAskFault ws (k - d) r q (Some f)) e x.2) y.2)
        go c (inl x) (inr y) = absurd (fault-clash (k - d) x.0 f x.2 (y.1 x.0 (subst (λ (z : Sum). BeginsAt z x.0 d) c x.1)))
        go c (inr x) (inl y) = absurd (fault-clash (k - d) y.0 g y.2 (x.1 y.0 (subst (λ (z : Sum). BeginsAt z y.0 d) (sym c) y.1)))
        go c (inr x) (inr y) = x.0 ∙ sym y.0

  -- the fault of all steps
  steps-fault-unique : (s s' : Sum) → SameTo k s s' → (first : ℕ) (f g : Option AskFault) → StepsFault ws k q s first f → StepsFault ws k q s' first g → f ≡ g
  steps-fault-unique s s' same first None None h i = refl
  steps-fault-unique s s' same first (Some f) None h i =
      let l = h.1.3 in let r = shorter s' first (k + 1) (suc h.0) i.0 i.1 (omega (arith, l)) i.2 in absurd (fails-or-runs s s' same first h.0 f r.0 r.1 h.1 r.2)
  steps-fault-unique s s' same first None (Some g) h i =
      let l = i.1.3 in let r = shorter s first (k + 1) (suc i.0) h.0 h.1 (omega (arith, l)) h.2 in absurd (fails-or-runs s' s (λ x m. sym (same x m)) first i.0 g r.0 r.1 i.1 r.2)
  steps-fault-unique s s' same first (Some f) (Some g) h i = go (dec_le h.0 i.0) (dec_le i.0 h.0)
    where
      go : Dec (h.0 ≤ i.0) → Dec (i.0 ≤ h.0) → Some f ≡ Some g
      go (yes a) (yes b) = let e : h.0 ≡ i.0 = omega (arith, a, b) in ap Some (one-fault s s' same first i.0 f g (subst (λ d. FailsAt ws k q s first d f) e h.1) i.1)
      go (no a) b = let r = shorter s first h.0 (suc i.0) h.1.0 h.1.2 (omega (arith, a)) h.1.4 in absurd (fails-or-runs s' s (λ x m. sym (same x m)) first i.0 g r.0 r.1 i.1 r.2)
      go (yes a) (no b) = let r = shorter s' first i.0 (suc h.0) i.1.0 i.1.2 (omega (arith, b)) i.1.4 in absurd (fails-or-runs s s' same first h.0 f r.0 r.1 h.1 r.2)

  -- two products of the thetas
  products-same : (l r : Exp) (s s' : Sum) → IsThetaProduct ws k l r q s → IsThetaProduct ws k l r q s' → SameTo k s s'
  products-same l r s s' h i x low =
      h.4 x low ∙ mul-same k h.0 i.0 h.1 i.1 (theta-unique ws k l q h.0 i.0 h.2 i.2) (theta-unique ws k r q h.1 i.1 h.3 i.3) x ∙ sym (i.4 x low)

  abbrev Fails : Exp → Option AskFault → Type 0
  Fails m fault = (f : AskFault) × IsAskFault ws k m q (Some f) × (fault ≡ Some f)

  fails-unique : (m : Exp) (f g : Option AskFault) → Fails m f → Fails m g → f ≡ g
  fails-unique m f g h i = h.2 ∙ ask-fault-unique ws k m q (Some h.0) (Some i.0) h.1 i.1 ∙ sym i.2

  pub product-fault-unique : (l r : Exp) (f g : Option AskFault) → IsProductFault ws k l r q f → IsProductFault ws k l r q g → f ≡ g
  product-fault-unique l r f g (inl h) (inl i) = fails-unique l f g h i
  product-fault-unique l r f g (inl h) (inr i) = absurd (fault-clash k l h.0 h.1 i.0)
  product-fault-unique l r f g (inr h) (inl i) = absurd (fault-clash k l i.0 i.1 h.0)
  product-fault-unique l r f g (inr h) (inr i) = second h.1 i.1
    where
      Later : Option AskFault → Type 0
      Later fault = (x y : ℕ) × IsThetaWeight ws k l q x × IsThetaWeight ws k r q y × (((2 ^ 126 < x * y) × (fault ≡ Some WeightTooLarge)) ⊎ ((x * y ≤ 2 ^ 126) × ((s : Sum) × IsThetaProduct ws k l r q s × StepsFault ws k q s (x * y) fault)))

      third : Later f → Later g → f ≡ g
      third u v = last (ap (λ (z : ℕ). z * u.1) (theta-weight-unique k l u.0 v.0 u.2 v.2) ∙ ap (λ (z : ℕ). v.0 * z) (theta-weight-unique k r u.1 v.1 u.3 v.3)) u.4 v.4
        where
          last : u.0 * u.1 ≡ v.0 * v.1
              → ((2 ^ 126 < u.0 * u.1) × (f ≡ Some WeightTooLarge)) ⊎ ((u.0 * u.1 ≤ 2 ^ 126) × ((s : Sum) × IsThetaProduct ws k l r q s × StepsFault ws k q s (u.0 * u.1) f))
              → ((2 ^ 126 < v.0 * v.1) × (g ≡ Some WeightTooLarge)) ⊎ ((v.0 * v.1 ≤ 2 ^ 126) × ((s : Sum) × IsThetaProduct ws k l r q s × StepsFault ws k q s (v.0 * v.1) g)) → f ≡ g
          last e (inl a) (inl b) = a.1 ∙ sym b.1
          last e (inl a) (inr b) = let x = a.0 in let y = b.0 in absurd (clash e x y)
            where
              clash : {m n : ℕ} → m ≡ n → 2 ^ 126 < m → n ≤ 2 ^ 126 → ⊥
              clash e x y = omega (arith, e, x, y)
          last e (inr a) (inl b) = let x = a.0 in let y = b.0 in absurd (clash e x y)
            where
              clash : {m n : ℕ} → m ≡ n → m ≤ 2 ^ 126 → 2 ^ 126 < n → ⊥
              clash e x y = omega (arith, e, x, y)
          last e (inr a) (inr b) =
              steps-fault-unique a.1.0 b.1.0 (products-same l r a.1.0 b.1.0 a.1.1 b.1.1) (v.0 * v.1) f g (subst (λ (n : ℕ). StepsFault ws k q a.1.0 n f) e a.1.2) b.1.2

      second : Fails r f ⊎ (IsAskFault ws k r q None × Later f) → Fails r g ⊎ (IsAskFault ws k r q None × Later g) → f ≡ g
      second (inl a) (inl b) = fails-unique r f g a b
      second (inl a) (inr b) = absurd (fault-clash k r a.0 a.1 b.0)
      second (inr a) (inl b) = absurd (fault-clash k r b.0 b.1 a.0)
      second (inr a) (inr b) = third a.1 b.1

pub product_fault_is_unique : ProductFaultIsUnique
product_fault_is_unique ws n k l r q f g walls point = product-fault-unique ws n k q walls point l r f g
