-- What the steps of a product leave: no coefficient exceeds the running weight.
use Rattle.std.proofs.Common.{◌≡◌, ◌≢◌, ℕ, zero, suc, refl, sym, ap, subst, ◌∙◌, ◌+◌, ◌-◌, ◌*◌, ◌<◌, ◌≤◌, arith, Bool, true, false, cond, List, ◌++◌, length}
use Rattle.std.specs.Prelude.{ℤ, pos, ◌+ℤ◌, ◌-ℤ◌, ◌*ℤ◌, neg_ℤ, ◌==◌, nat_abs}
use Rattle.std.proofs.lemmas.Int.{ints}
use native.Mathlib.Decide.{dec_le}
use Rattle.scattering.specs.Collections.{In, Every}
use Rattle.scattering.specs.Series.{Exp, Key, Term, Sum, degree, coef, minus, Same, IsSeries}
use Rattle.scattering.specs.Plane.{Point, IsPoint}
use Rattle.scattering.specs.Wall.{Wall, IsWall}
use Rattle.scattering.specs.ThetaProduct.{combined, AreThetas, AreWeights, of_degree, weight_of, Runs, begins, goes}
use Rattle.scattering.proofs.Lists.{Every-at, Every-from_In, filter-from}
use Rattle.scattering.proofs.Determined.{coef-own}
use Rattle.scattering.proofs.Pairing.{pairing-append, coef-append, coef-minus}
use Rattle.scattering.proofs.Tests.{nat_eq-same}
use Rattle.broken_line_theory.proofs.EqualSums.{agree}
use Rattle.broken_line_theory.proofs.FirstProductFault.{coef-where}
use Rattle.broken_line_theory.proofs.ProductSteps.{runs-ready}
use Rattle.broken_line_theory.proofs.ThetaMasses.{combined-light, theta-light, product-light}
use Rattle.broken_line_theory.proofs.UniqueFamily.{AgreeBelow, shared-begin, reading, coef-combined}
use Rattle.broken_line_theory.proofs.UniqueFamily as U
use Rattle.broken_line_theory.specs.Laws.{StepsLeaveLight}

-- ---- combined thetas as a function of the family

pub combined-same : (k : ℕ) (thetas : Exp → Sum) (f g : Sum) (y : Key) → Same f g → coef (combined k thetas f) y ≡ coef (combined k thetas g) y
combined-same k thetas f g y same =
    coef-combined k thetas f y
    ∙ agree (reading k thetas y) (reading k thetas y) (length f) f g (omega arith) (λ x. ap (λ c. c *ℤ reading k thetas y x) (same x))
    ∙ sym (coef-combined k thetas g y)

pub combined-append : (k : ℕ) (thetas : Exp → Sum) (f g : Sum) (y : Key) → coef (combined k thetas (f ++ g)) y ≡ coef (combined k thetas f) y +ℤ coef (combined k thetas g) y
combined-append k thetas f g y =
    coef-combined k thetas (f ++ g) y ∙ pairing-append (reading k thetas y) f g
    ∙ (λ i. sym (coef-combined k thetas f y) i +ℤ sym (coef-combined k thetas g y) i)

-- the terms of a step are added to what was there before
pub next-added : (d : ℕ) (a b : Sum) → ((x : Key) → d ≤ degree x → coef a x ≡ pos 0) → ((x : Key) → degree x ≢ d → coef b x ≡ coef a x) → Same b (a ++ of_degree d b)
next-added d a b low kept x = go (degree x == d) refl
  where
    join : (p q r s : ℤ) → p ≡ q +ℤ r → q ≡ pos 0 → r ≡ s → p ≡ s
    join p q r s e f g = omega (arith, ints, e, f, g)

    keep : (p q r s : ℤ) → p ≡ q +ℤ r → r ≡ pos 0 → s ≡ q → p ≡ s
    keep p q r s e f g = omega (arith, ints, e, f, g)

    part : coef (of_degree d b) x ≡ cond (degree x == d) (coef b x) (pos 0)
    part = coef-where (λ y. degree y == d) b x

    other : (degree x == d) ≡ false → degree x ≢ d
    other e f = differ (degree x) d e f
      where
        differ : (m n : ℕ) → (m == n) ≡ false → m ≡ n → ⊥
        differ m n e f = grind arith

    go : (c : Bool) → (degree x == d) ≡ c → coef b x ≡ coef (a ++ of_degree d b) x
    go true e =
        let m : degree x ≡ d = nat_eq-same (degree x) d e in
        sym (join (coef (a ++ of_degree d b) x) (coef a x) (coef (of_degree d b) x) (coef b x) (coef-append a (of_degree d b) x) (low x (omega (arith, m))) (rw e at part))
    go false e = sym (keep (coef (a ++ of_degree d b) x) (coef a x) (coef (of_degree d b) x) (coef b x) (coef-append a (of_degree d b) x) (rw e at part) (kept x (other e)))

module _ (ws : List Wall) (k j : ℕ) (q : Point) (walls : Every (IsWall j) ws) (point : IsPoint q) where
  -- thetas of a family, in the family that it was before
  pub thetas-before : (d : ℕ) (a b : Sum) (thetas : Exp → Sum) → ((x : Key) → d ≤ degree x → coef a x ≡ pos 0) → AgreeBelow d a b → AreThetas ws k q b thetas → AreThetas ws k q a thetas
  thetas-before d a b thetas low same are r i h = are r i (shared-begin a b r d i same (under (dec_le d i)) h)
    where
      under : Dec (d ≤ i) → i < d
      under (yes l) = let e = h.found.3 in absurd (h.found.1 (low h.found.0 (omega (arith, e, l))))
      under (no l) = omega (arith, l)

  -- the thetas of the terms of a family are light
  pub terms-light : (b : Sum) (thetas : Exp → Sum) (w : Exp → ℕ) → IsSeries k b → AreThetas ws k q b thetas → AreWeights ws k q b w → (t : Term) → In t b → (u : Key) → nat_abs (coef (thetas t.0.exp) u) ≤ w t.0.exp
  terms-light b thetas w series are weigh t i u =
      let n : coef b t.0 ≢ pos 0 = λ z. Every-at (λ (t : Term). t.1 ≢ pos 0) b t series.nonzero i (sym (coef-own b series.rises t i) ∙ z) in
      let c = U.begins b t.0 n in
      let h = are t.0.exp c.0 c.2 in
      theta-light ws (k - c.0) j q walls point t.0.exp (thetas t.0.exp) (w t.0.exp) h.0 h.1 (weigh t.0.exp c.0 c.2) u

  step-light : (d : ℕ) (b : Sum) (thetas : Exp → Sum) (w : Exp → ℕ) (y : Key) → IsSeries k b → AreThetas ws k q b thetas → AreWeights ws k q b w → nat_abs (coef (combined k thetas (of_degree d b)) y) ≤ weight_of w (of_degree d b)
  step-light d b thetas w y series are weigh =
      combined-light k thetas w (of_degree d b) y
      (Every-from_In (λ t. (u : Key) → nat_abs (coef (thetas t.0.exp) u) ≤ w t.0.exp) (of_degree d b) (λ t i. terms-light b thetas w series are weigh t (filter-from (λ t. degree t.0 == d) b t i).0))

  module _ (s : Sum) (first : ℕ) (light : (y : Key) → degree y ≤ k → nat_abs (coef s y) ≤ first) where
    pub left-light : (d : ℕ) (a : Sum) (n : ℕ) (thetas : Exp → Sum) → Runs ws k q s first d a n → AreThetas ws k q a thetas → (y : Key) → degree y ≤ k
        → nat_abs (coef s y -ℤ coef (combined k thetas a) y) ≤ n
    left-light zero a n thetas begins are y low = let h = light y low in omega (arith, ints, h)
    left-light (suc d) a n thetas (goes b w prev next none weigh le) are y low =
        let ready = runs-ready ws k j q walls point s first d _ _ prev in
        let agree : AgreeBelow d _ b = λ x l. sym (next.1.3 x (λ e. omega (arith, l, e))) in
        let before = left-light d _ _ thetas prev (thetas-before d _ b thetas ready.low agree are) y low in
        let added = combined-same k thetas b _ y (next-added d _ b ready.low next.1.3) ∙ combined-append k thetas _ (of_degree d b) y in
        let small = step-light d b thetas w y next.0 are weigh in
        split _ _ _ _ _ _ before added small
      where
        split : (s c p u : ℤ) (m v : ℕ) → nat_abs (s -ℤ p) ≤ m → c ≡ p +ℤ u → nat_abs u ≤ v → nat_abs (s -ℤ c) ≤ m + v
        split s c p u m v g e h = omega (arith, ints, g, e, h)

pub steps_leave_light : StepsLeaveLight
steps_leave_light ws n k l r q s a x y w thetas walls point free free' weight weight' product d runs are z low =
    subst (λ (c : ℤ). nat_abs c ≤ w) (sym (coef-append s (minus (combined n thetas a)) z ∙ difference (coef s z) (coef (combined n thetas a) z) (coef (minus (combined n thetas a)) z) (coef-minus (combined n thetas a) z)))
    (left-light ws n k q walls point s (x * y) (product-light ws n k q walls point l r x y s free free' weight weight' product) d a w thetas runs are z low)
  where
    difference : (s c m : ℤ) → m ≡ neg_ℤ c → s +ℤ m ≡ s -ℤ c
    difference s c m e = omega (arith, ints, e)
