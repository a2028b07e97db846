-- The terms of a step, taken one by one: what is left, the thetas without a fault, and the running weight.
use Rattle.std.proofs.Common.{◌≡◌, ℕ, suc, refl, sym, ap, subst, ◌∙◌, ◌+◌, ◌-◌, ◌*◌, ◌<◌, ◌≤◌, ◌⊎◌, inl, inr, arith, true, List, [], ◌∷◌, ◌++◌, min}
use Rattle.std.specs.Prelude.{ℤ, pos, ◌+ℤ◌, ◌*ℤ◌, neg_ℤ, nat_abs, ◌&&◌, IsTrue, Some, None}
use Rattle.std.proofs.lemmas.Int.{ints}
use native.Mathlib.Decide.{dec_le}
use Rattle.limits.specs.Limits.{largest_weight}
use Rattle.scattering.specs.Collections.{In, Every, EveryPair}
use Rattle.scattering.specs.Series.{Exp, Key, Term, Sum, exp_before, exp_eq, powers_before, key_before, degree, coef, minus, mul, Same}
use Rattle.scattering.specs.Plane.{Point, IsPoint}
use Rattle.scattering.specs.Wall.{Wall, IsWall}
use Rattle.scattering.specs.Theta.{AskFault, WeightTooLarge, IsAskFault, IsTheta}
use Rattle.scattering.specs.ThetaProduct.{BeginsAt, combined, AreThetas, AreWeights, IsThetaWeight, of_degree, weight_of, BeginWithoutFault, FailsAt, Runs, goes}
use Rattle.scattering.proofs.Lists.{Every-at, In-append, or-out, and-left}
use Rattle.scattering.proofs.Determined.{coef-find}
use Rattle.scattering.proofs.Keys.{exp_eq-same}
use Rattle.scattering.proofs.Pairing.{coef-append, coef-minus}
use Rattle.scattering.proofs.CrossingChanges.{moved}
use Rattle.scattering.proofs.StrictOrders.{exp_before-asym}
use Rattle.sum_algebra.proofs.Integers.{neg-mul}
use Rattle.trunc_series.specs.Reduced.{IsKeptAs}
use Rattle.trunc_series.specs.declared.arithmetic.Arithmetic.TheVariants.{Wrapping}
use Rattle.broken_line_theory.proofs.EqualSums.{coef-mul, moved-same}
use Rattle.broken_line_theory.proofs.FirstProductFault.{weights-exist}
use Rattle.broken_line_theory.proofs.CompleteTails.{none-some}
use Rattle.broken_line_theory.proofs.LeadingMonomial.{theta-unique}
use Rattle.broken_line_theory.proofs.ProductSteps.{one-begin}
use Rattle.broken_line_theory.proofs.RunningWeight.{thetas-before, combined-same, combined-append}
use Rattle.broken_line_theory.proofs.UniqueAskFault.{ask-fault-unique}
use Rattle.broken_line_theory.proofs.UniqueFamily.{AgreeBelow, shared-begin, only, reading, coef-combined}
use Rattle.broken_line_theory.proofs.UniqueProductFault.{theta-weight-unique}
use Rattle.theta_algebra.specs.Stages.{GrowsFromFactors, IsStage}
use Rattle.theta_algebra.proofs.StepLaws.{kept-same, kept-own, left-own, ready, next, b-coef, b-new, b-light, b-within, new-series, begins-new}

-- the terms u of the new family b were taken away from what the family a left of s
pub record IsTaking (ws : List Wall) (k : ℕ) (q : Point) (s a : Sum) (n : ℕ) (b u remains : Sum) (m : ℕ) : Type 0 where
  pub left : (thetas : Exp → Sum) → AreThetas ws k q b thetas → IsKeptAs Wrapping k remains (s ++ minus (combined k thetas (a ++ u)))
  pub near : Every GrowsFromFactors remains
  pub owned : IsKeptAs Wrapping k remains remains
  pub free : (t : Term) → In t u → (i : ℕ) → BeginsAt b t.0.exp i → IsAskFault ws (k - i) t.0.exp q None
  pub weight : (w : Exp → ℕ) → AreWeights ws k q b w → m ≡ min (n + weight_of w u) (largest_weight + 1)

-- one more of them
pub record TakesOne (ws : List Wall) (k : ℕ) (q : Point) (b : Sum) (t : Term) (remains : Sum) (m : ℕ) (remains' : Sum) (m' : ℕ) : Type 0 where
  pub theta : Sum
  pub weight : ℕ
  pub begun : ℕ
  pub begins : BeginsAt b t.0.exp begun
  pub is : IsTheta ws (k - begun) t.0.exp q theta
  pub free : IsAskFault ws (k - begun) t.0.exp q None
  pub weighs : IsThetaWeight ws (k - begun) t.0.exp q weight
  pub grows : m' ≡ min (m + nat_abs t.1 * weight) (largest_weight + 1)
  pub left : (f : Sum) → IsKeptAs Wrapping k remains f → IsKeptAs Wrapping k remains' (f ++ mul k ((only t.0, neg_ℤ t.1) ∷ []) theta)
  pub near : Every GrowsFromFactors remains'

minus-same : (s f g : Sum) → Same f g → Same (s ++ minus f) (s ++ minus g)
minus-same s f g same x =
    coef-append s (minus f) x ∙ ap (λ (c : ℤ). coef s x +ℤ c) (coef-minus f x ∙ ap neg_ℤ (same x) ∙ sym (coef-minus g x)) ∙ sym (coef-append s (minus g) x)

append-nothing : (a : Sum) → Same a (a ++ [])
append-nothing a x = sym (coef-append a [] x ∙ plus (coef a x))
  where
    plus : (c : ℤ) → c +ℤ pos 0 ≡ c
    plus c = omega (arith, ints)

append-three : (a u : Sum) (t : Term) → Same (a ++ (u ++ t ∷ [])) ((a ++ u) ++ t ∷ [])
append-three a u t x =
    coef-append a (u ++ t ∷ []) x ∙ ap (λ (c : ℤ). coef a x +ℤ c) (coef-append u (t ∷ []) x) ∙ plus (coef a x) (coef u x) (coef (t ∷ []) x)
    ∙ ap (λ (c : ℤ). c +ℤ coef (t ∷ []) x) (sym (coef-append a u x)) ∙ sym (coef-append (a ++ u) (t ∷ []) x)
  where
    plus : (c d e : ℤ) → c +ℤ (d +ℤ e) ≡ (c +ℤ d) +ℤ e
    plus c d e = omega (arith, ints)

capped-none : (n c : ℕ) → n ≤ c → n ≡ min (n + 0) (c + 1)
capped-none n c l = grind arith

capped-more : (n w v c m m' : ℕ) → m ≡ min (n + w) (c + 1) → m' ≡ min (m + v) (c + 1) → m' ≡ min (n + (w + v)) (c + 1)
capped-more n w v c m m' e f = grind arith

capped-below : (n c m : ℕ) → m ≡ min n (c + 1) → m ≤ c → n ≡ m
capped-below n c m e l = grind arith

capped-above : (n c m : ℕ) → m ≡ min n (c + 1) → c < m → c < n
capped-above n c m e l = grind arith

weight-append : (w : Exp → ℕ) (u : Sum) (t : Term) → weight_of w (u ++ t ∷ []) ≡ weight_of w u + nat_abs t.1 * w t.0.exp
weight-append w [] t = omega arith
weight-append w (v ∷ u) t = let h = weight-append w u t in omega (arith, h)

module _ (ws : List Wall) (k j : ℕ) (q : Point) (walls : Every (IsWall j) ws) (point : IsPoint q) (s : Sum) (first d : ℕ) (le : d ≤ k) (a left : Sum) (n : ℕ)
    (stage : IsStage ws k q s first d a left n) (b : Sum) (adds : IsKeptAs Wrapping k b (a ++ of_degree d left)) where
  abbrev fresh : Sum
  fresh = of_degree d left

  agrees : AgreeBelow d b a
  agrees x l = (next ws k j q walls point s first d le a left n stage b adds).1.3 x (λ e. omega (arith, l, e))

  old-thetas : (thetas : Exp → Sum) → AreThetas ws k q b thetas → AreThetas ws k q a thetas
  old-thetas thetas are = thetas-before ws k j q walls point d a b thetas (ready ws k j q walls point s first d le a left n stage).low (λ x l. sym (agrees x l)) are

  pub taking-none : IsTaking ws k q s a n b [] left n
  taking-none = record {
    left = λ thetas are.
        kept-same k left (s ++ minus (combined k thetas a)) (s ++ minus (combined k thetas (a ++ []))) (stage.left thetas (old-thetas thetas are))
        (minus-same s (combined k thetas a) (combined k thetas (a ++ [])) (λ x. combined-same k thetas a (a ++ []) x (append-nothing a)));
    near = stage.near;
    owned = left-own ws k j q walls point s first d le a left n stage;
    free = λ t i. absurd i;
    weight = λ w weigh. capped-none n largest_weight stage.light;
  }

  -- what one term takes away
  taken-coef : (thetas : Exp → Sum) (u : Sum) (t : Term) (theta : Sum) → Same theta (thetas t.0.exp)
      → Same ((s ++ minus (combined k thetas (a ++ u))) ++ mul k ((only t.0, neg_ℤ t.1) ∷ []) theta) (s ++ minus (combined k thetas (a ++ (u ++ t ∷ []))))
  taken-coef thetas u t theta same x =
      coef-append (s ++ minus (combined k thetas (a ++ u))) (mul k ((only t.0, neg_ℤ t.1) ∷ []) theta) x
      ∙ sums (coef (s ++ minus (combined k thetas (a ++ u))) x) (coef s x) (coef (combined k thetas (a ++ u)) x) (coef (minus (combined k thetas (a ++ u))) x)
      (coef (mul k ((only t.0, neg_ℤ t.1) ∷ []) theta) x) t.1 (coef (moved k (only t.0) (pos 1) theta) x) (reading k thetas x t.0) (coef (combined k thetas (a ++ (u ++ t ∷ []))) x)
      (coef (combined k thetas (t ∷ [])) x) (neg_ℤ t.1 *ℤ coef (moved k (only t.0) (pos 1) theta) x) (t.1 *ℤ reading k thetas x t.0)
      (coef-append s (minus (combined k thetas (a ++ u))) x)
      (coef-minus (combined k thetas (a ++ u)) x)
      (coef-mul k ((only t.0, neg_ℤ t.1) ∷ []) theta x)
      (negated t.1 (coef (moved k (only t.0) (pos 1) theta) x) (reading k thetas x t.0) (moved-same k (only t.0) x theta (thetas t.0.exp) same))
      (combined-same k thetas (a ++ (u ++ t ∷ [])) ((a ++ u) ++ t ∷ []) x (append-three a u t) ∙ combined-append k thetas (a ++ u) (t ∷ []) x)
      (coef-combined k thetas (t ∷ []) x)
      ∙ sym (coef-append s (minus (combined k thetas (a ++ (u ++ t ∷ [])))) x ∙ ap (λ (c : ℤ). coef s x +ℤ c) (coef-minus (combined k thetas (a ++ (u ++ t ∷ []))) x))
    where
      neg-times : (c r : ℤ) → neg_ℤ c *ℤ r ≡ neg_ℤ (c *ℤ r)
      neg-times c r = neg-mul c r

      negated : (c r t : ℤ) → r ≡ t → neg_ℤ c *ℤ r ≡ neg_ℤ (c *ℤ t)
      negated c r t e = neg-times c r ∙ ap (λ (u : ℤ). neg_ℤ (c *ℤ u)) e

      sums : (l u c m p t r r' g h x y : ℤ) → l ≡ u +ℤ m → m ≡ neg_ℤ c → p ≡ x +ℤ pos 0 → x ≡ neg_ℤ y → g ≡ c +ℤ h → h ≡ y +ℤ pos 0 → l +ℤ p ≡ u +ℤ neg_ℤ g
      sums l u c m p t r r' g h x y e f i o v z = omega (arith, ints, e, f, i, o, v, z)

  pub taking-more : (u remains remains' : Sum) (m m' : ℕ) (t : Term) → IsTaking ws k q s a n b u remains m → TakesOne ws k q b t remains m remains' m' → IsTaking ws k q s a n b (u ++ t ∷ []) remains' m'
  taking-more u remains remains' m m' t h o = record {
    left = λ thetas are.
        kept-same k remains' ((s ++ minus (combined k thetas (a ++ u))) ++ mul k ((only t.0, neg_ℤ t.1) ∷ []) o.theta) (s ++ minus (combined k thetas (a ++ (u ++ t ∷ []))))
        (o.left (s ++ minus (combined k thetas (a ++ u))) (h.left thetas are))
        (taken-coef thetas u t o.theta (theta-unique ws (k - o.begun) t.0.exp q o.theta (thetas t.0.exp) o.is (are t.0.exp o.begun o.begins).1));
    near = o.near;
    owned = kept-own k remains' (remains ++ mul k ((only t.0, neg_ℤ t.1) ∷ []) o.theta) (o.left remains h.owned);
    free = λ v i. free v (In-append u (t ∷ []) v i);
    weight = λ w weigh.
        let e = theta-weight-unique ws k j q walls point (k - o.begun) t.0.exp o.weight (w t.0.exp) o.weighs (weigh t.0.exp o.begun o.begins) in
        capped-more n (weight_of w u) (nat_abs t.1 * w t.0.exp) largest_weight m m' (h.weight w weigh) (o.grows ∙ ap (λ (v : ℕ). min (m + nat_abs t.1 * v) (largest_weight + 1)) e)
        ∙ ap (λ (v : ℕ). min (n + v) (largest_weight + 1)) (sym (weight-append w u t));
  }
    where
      free : (v : Term) → In v u ⊎ In v (t ∷ []) → (i : ℕ) → BeginsAt b v.0.exp i → IsAskFault ws (k - i) v.0.exp q None
      free v (inl i) c begins = h.free v i c begins
      free v (inr (inl e)) c begins =
          let begins' : BeginsAt b t.0.exp c = subst (λ (y : Term). BeginsAt b y.0.exp c) e begins in
          let z = one-begin ws k j q walls point s b t.0.exp o.begun c o.begins begins' in
          subst (λ (y : Term). IsAskFault ws (k - c) y.0.exp q None) (sym e) (subst (λ (i : ℕ). IsAskFault ws (k - i) t.0.exp q None) z o.free)
      free v (inr (inr x)) c begins = absurd x

  -- ---- all of them

  all-free : (remains : Sum) (m : ℕ) → IsTaking ws k q s a n b fresh remains m → BeginWithoutFault ws k q d b
  all-free remains m h r begins =
      let x = begins.found in
      let e = sym (ap (λ (f : Sum). coef f x.0) (b-new ws k j q walls point s first d le a left n stage b adds)) in
      go (coef-find (of_degree d b) x.0 (λ z. x.1 (in-degree x.0 x.3 ∙ z)))
    where
      in-degree : (y : Key) → degree y ≡ d → coef b y ≡ coef (of_degree d b) y
      in-degree y e =
          b-coef ws k j q walls point s first d le a left n stage b adds y ∙ coef-append a fresh y
          ∙ plus (coef a y) (coef fresh y) ((ready ws k j q walls point s first d le a left n stage).low y (omega (arith, e)))
          ∙ sym (ap (λ (f : Sum). coef f y) (b-new ws k j q walls point s first d le a left n stage b adds))
        where
          plus : (u v : ℤ) → u ≡ pos 0 → u +ℤ v ≡ v
          plus u v e = omega (arith, ints, e)

      go : (t : Term) × In t (of_degree d b) × (t.0 ≡ begins.found.0) → IsAskFault ws (k - d) r q None
      go t =
          let i : In t.0 fresh = subst (λ (f : Sum). In t.0 f) (b-new ws k j q walls point s first d le a left n stage b adds) t.1 in
          let e : t.0.0.exp ≡ r = ap (λ (y : Key). y.exp) t.2 ∙ begins.found.2 in
          subst (λ (y : Exp). IsAskFault ws (k - d) y q None) e (h.free t.0 i d (subst (λ (y : Exp). BeginsAt b y d) (sym e) begins))

  weights : (w : Exp → ℕ) × AreWeights ws k q b w
  weights = weights-exist ws k j q walls point b adds.series

  total : (remains : Sum) (m : ℕ) → IsTaking ws k q s a n b fresh remains m → m ≡ min (n + weight_of weights.0 (of_degree d b)) (largest_weight + 1)
  total remains m h = h.weight weights.0 weights.1 ∙ ap (λ (f : Sum). min (n + weight_of weights.0 f) (largest_weight + 1)) (sym (b-new ws k j q walls point s first d le a left n stage b adds))

  -- the next stage
  pub taking-all : (remains : Sum) (m : ℕ) → m ≤ largest_weight → IsTaking ws k q s a n b fresh remains m → IsStage ws k q s first (suc d) b remains m
  taking-all remains m light h =
      let e = capped-below (n + weight_of weights.0 (of_degree d b)) largest_weight m (total remains m h) light in
      record {
        runs = subst (λ (v : ℕ). Runs ws k q s first (suc d) b v) e
            (goes b weights.0 stage.runs (next ws k j q walls point s first d le a left n stage b adds) (all-free remains m h) weights.1 (below e light));
        light = light;
        left = λ thetas are.
            kept-same k remains (s ++ minus (combined k thetas (a ++ fresh))) (s ++ minus (combined k thetas b)) (h.left thetas are)
            (minus-same s (combined k thetas (a ++ fresh)) (combined k thetas b) (λ x. combined-same k thetas (a ++ fresh) b x (λ y. sym (b-coef ws k j q walls point s first d le a left n stage b adds y))));
        small = b-light ws k j q walls point s first d le a left n stage b adds;
        within = b-within ws k j q walls point s first d le a left n stage b adds;
        near = h.near;
        product = stage.product;
      }
    where
      below : {v m c : ℕ} → v ≡ m → m ≤ c → v ≤ c
      below e l = omega (arith, e, l)

  pub too-heavy : (remains : Sum) (m : ℕ) → largest_weight < m → IsTaking ws k q s a n b fresh remains m → FailsAt ws k q s first d WeightTooLarge
  too-heavy remains m heavy h = (
    a,
    b,
    n,
    le,
    stage.runs,
    next ws k j q walls point s first d le a left n stage b adds,
    inr (refl, all-free remains m h, (weights.0, weights.1, capped-above (n + weight_of weights.0 (of_degree d b)) largest_weight m (total remains m h) heavy)),
  )

  -- ---- the first fault of a theta that begins at this step

  pub theta-fault : (u rest remains : Sum) (m : ℕ) (t : Term) (f : AskFault) → fresh ≡ u ++ t ∷ rest → IsTaking ws k q s a n b u remains m → In t fresh
      → ((i : ℕ) → BeginsAt b t.0.exp i → IsAskFault ws (k - i) t.0.exp q (Some f)) → FailsAt ws k q s first d f
  theta-fault u rest remains m t f split h here fault = go (begins-new ws k j q walls point s first d le a left n stage b adds t here)
    where
      rises : EveryPair (λ t u. IsTrue (key_before t.0 u.0)) (u ++ t ∷ rest)
      rises = subst (λ (f : Sum). EveryPair (λ t u. IsTrue (key_before t.0 u.0)) f) split (new-series ws k j q walls point s first d le a left n stage).rises

      after : (u : Sum) → EveryPair (λ t u. IsTrue (key_before t.0 u.0)) (u ++ t ∷ rest) → Every (λ v. IsTrue (key_before t.0 v.0)) rest
      after [] h = h.0
      after (v ∷ u) h = after u h.1

      not-before : (v : Term) → IsTrue (key_before t.0 v.0) → exp_before v.0.exp t.0.exp ≡ true → ⊥
      not-before v k l = both (or-out (exp_before t.0.exp v.0.exp) _ k)
        where
          both : (exp_before t.0.exp v.0.exp ≡ true) ⊎ ((exp_eq t.0.exp v.0.exp && powers_before t.0.powers v.0.powers) ≡ true) → ⊥
          both (inl e) = exp_before-asym t.0.exp v.0.exp e l
          both (inr e) =
              let g = exp_eq-same t.0.exp v.0.exp (and-left (exp_eq t.0.exp v.0.exp) (powers_before t.0.powers v.0.powers) e) in
              let x : exp_before t.0.exp t.0.exp ≡ true = subst (λ (y : Exp). exp_before y t.0.exp ≡ true) (sym g) l in exp_before-asym t.0.exp t.0.exp x x

      earlier : (v : Term) → In v fresh → exp_before v.0.exp t.0.exp ≡ true → In v u
      earlier v i l = at (In-append u (t ∷ rest) v (subst (λ (f : Sum). In v f) split i))
        where
          at : In v u ⊎ In v (t ∷ rest) → In v u
          at (inl i) = i
          at (inr (inl e)) = let x : exp_before t.0.exp t.0.exp ≡ true = subst (λ (y : Term). exp_before y.0.exp t.0.exp ≡ true) e l in absurd (exp_before-asym t.0.exp t.0.exp x x)
          at (inr (inr i)) = absurd (not-before v (Every-at (λ (v : Term). IsTrue (key_before t.0 v.0)) rest v (after u rises) i) l)

      none-before : (r : Exp) → BeginsAt b r d → IsTrue (exp_before r t.0.exp) → IsAskFault ws (k - d) r q None
      none-before r begins l = at (coef-find fresh begins.found.0 (λ z. begins.found.1 (in-fresh begins.found.0 begins.found.3 ∙ z)))
        where
          in-fresh : (y : Key) → degree y ≡ d → coef b y ≡ coef fresh y
          in-fresh y e =
              b-coef ws k j q walls point s first d le a left n stage b adds y ∙ coef-append a fresh y
              ∙ plus (coef a y) (coef fresh y) ((ready ws k j q walls point s first d le a left n stage).low y (omega (arith, e)))
            where
              plus : (u v : ℤ) → u ≡ pos 0 → u +ℤ v ≡ v
              plus u v e = omega (arith, ints, e)

          at : (v : Term) × In v fresh × (v.0 ≡ begins.found.0) → IsAskFault ws (k - d) r q None
          at v =
              let e : v.0.0.exp ≡ r = ap (λ (y : Key). y.exp) v.2 ∙ begins.found.2 in
              let i = earlier v.0 v.1 (subst (λ (y : Exp). exp_before y t.0.exp ≡ true) (sym e) l) in
              subst (λ (y : Exp). IsAskFault ws (k - d) y q None) e (h.free v.0 i d (subst (λ (y : Exp). BeginsAt b y d) (sym e) begins))

      go : (i : ℕ) × (i ≤ d) × BeginsAt b t.0.exp i → FailsAt ws k q s first d f
      go c = at (dec_le d c.0)
        where
          at : Dec (d ≤ c.0) → FailsAt ws k q s first d f
          at (yes l) =
              let e : c.0 ≡ d = let m = c.1 in omega (arith, l, m) in
              let begins : BeginsAt b t.0.exp d = subst (λ (i : ℕ). BeginsAt b t.0.exp i) e c.2 in
              (a, b, n, le, stage.runs, next ws k j q walls point s first d le a left n stage b adds, inl (t.0.exp, begins, fault d begins, none-before))
          at (no l) =
              let old = shared-begin b a t.0.exp d c.0 agrees (omega (arith, l)) c.2 in
              let none = (ready ws k j q walls point s first d le a left n stage).free t.0.exp c.0 old in
              absurd (none-some f (ask-fault-unique ws (k - c.0) t.0.exp q None (Some f) none (fault c.0 c.2)))
