-- What is known of numbers of 128 bits as the code passes them on.
use Rattle.std.proofs.Common.{◌≡◌, sym, ap, subst, ◌∙◌, to_z, of_z, FitsSigned, Option, Some, None}
use Rattle.std.specs.Prelude.{ℤ, pos, ◌+ℤ◌, ◌*ℤ◌, ◌≤ℤ◌, IsSome, ◌↔◌}
use Rattle.std.specs.Int.{w128}
use Rattle.std.proofs.lemmas.Int.{to_z-of_z}
use Rattle.frac_128.specs.Quotient.{IsLowest, AreEqual, AreReduced}

pub reduced-seen : (a b p q : ℤ) → FitsSigned w128 a → FitsSigned w128 b → AreReduced (to_z w128 (of_z w128 a)) (to_z w128 (of_z w128 b)) p q → AreReduced a b p q
reduced-seen a b p q f g r = subst (λ (x : ℤ). AreReduced x b p q) (to_z-of_z w128 a f) (subst (λ (y : ℤ). AreReduced (to_z w128 (of_z w128 a)) y p q) (to_z-of_z w128 b g) r)

pub times-seen : (a b : ℤ) → FitsSigned w128 a → FitsSigned w128 b → to_z w128 (of_z w128 a) *ℤ to_z w128 (of_z w128 b) ≡ a *ℤ b
times-seen a b f g = ap (λ x. x *ℤ to_z w128 (of_z w128 b)) (to_z-of_z w128 a f) ∙ ap (λ y. a *ℤ y) (to_z-of_z w128 b g)

pub plus-seen : (a b : ℤ) → FitsSigned w128 a → FitsSigned w128 b → to_z w128 (of_z w128 a) +ℤ to_z w128 (of_z w128 b) ≡ a +ℤ b
plus-seen a b f g = ap (λ x. x +ℤ to_z w128 (of_z w128 b)) (to_z-of_z w128 a f) ∙ ap (λ y. a +ℤ y) (to_z-of_z w128 b g)

pub fits-along : (x y : ℤ) → x ≡ y → FitsSigned w128 x → FitsSigned w128 y
fits-along x y e f = subst (λ (z : ℤ). FitsSigned w128 z) e f

-- what a checked operation gave, as it is stored
pub stored : (x y z : ℤ) → FitsSigned w128 x → z ≡ x → x ≡ y → to_z w128 (of_z w128 z) ≡ y
stored x y z f e h = ap (λ n. to_z w128 (of_z w128 n)) e ∙ to_z-of_z w128 x f ∙ h

-- the sum of two numbers that checked operations gave
pub added : (l r x y : ℤ) {x' y' : ℤ} → FitsSigned w128 x' × (l ≡ x') → FitsSigned w128 y' × (r ≡ y') → x' ≡ x → y' ≡ y → to_z w128 (of_z w128 l) +ℤ to_z w128 (of_z w128 r) ≡ x +ℤ y
added l r x y {x' = x'} {y' = y'} h k e f =
    ap (λ n. n +ℤ to_z w128 (of_z w128 r)) (stored x' x l h.0 h.1 e) ∙ ap (λ n. x +ℤ n) (stored y' y r k.0 k.1 f)

pub positive-along : (x y : ℤ) → x ≡ y → pos 1 ≤ℤ y → pos 1 ≤ℤ x
positive-along x y e h = subst (λ (z : ℤ). pos 1 ≤ℤ z) (sym e) h

pub equal-to : (p q a b a' b' : ℤ) → a' ≡ a → b' ≡ b → AreEqual p q a' b' → AreEqual p q a b
equal-to p q a b a' b' e f h = ap (λ y. p *ℤ y) (sym f) ∙ h ∙ ap (λ x. x *ℤ q) e

pub equal-along : (a b p q p' q' : ℤ) → p' ≡ p → q' ≡ q → AreEqual p q a b → AreEqual p' q' a b
equal-along a b p q p' q' e f h = ap (λ x. x *ℤ b) e ∙ h ∙ ap (λ y. a *ℤ y) (sym f)

pub lowest-along : (p q p' q' : ℤ) → p' ≡ p → q' ≡ q → IsLowest p q → IsLowest p' q'
lowest-along p q p' q' e f h = subst (λ (x : ℤ). IsLowest x q') (sym e) (subst (λ (y : ℤ). IsLowest p y) (sym f) h)

-- no answer, for a cause
pub refused : {T : Type 0} (r : Option T) (P : Type 0) → r ≡ None → (P → ⊥) → IsSome r ↔ P
refused (Some x) P e n = absurd (cc)
refused None P e n = (λ i. absurd (cc), λ p. absurd (n p))
