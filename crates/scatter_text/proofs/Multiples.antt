-- Of which multiple of a direction an exponent is.
use Rattle.std.proofs.Common.{◌≡◌, ◌≢◌, ℕ, sym, ap, ◌∙◌, ◌*◌, ◌/◌, arith, to_z, of_z, FitsSigned, ℤ, nat_abs}
use Rattle.std.specs.Prelude.{pos, ◌*ℤ◌, ◌≤ℤ◌}
use mir.Syntax.{w32}
use Rattle.std.proofs.lemmas.Int.{ints, to_z-of_z, unsigned_abs-mul}
use Rattle.std.proofs.Math.Nat.{mul-div_cancel}
use Rattle.scattering.specs.Series.{Exp, scale, IsMultiple}
use Rattle.scattering.specs.Plane.{IsDirection}
use Rattle.sum_algebra.proofs.Integers.{abs-positive}
use Rattle.scattering.proofs.Ring.{dif-up, dif-mul, dif-same}
use Rattle.plane_theory.proofs.Directions.{cancel, direction-not_origin}

-- ---- a quotient

counted : (k : ℕ) (x d : ℤ) → d ≢ pos 0 → x ≡ pos k *ℤ d → x ≡ pos (nat_abs x / nat_abs d) *ℤ d
counted k x d h e =
    let m = abs-positive d h in
    let n : nat_abs x ≡ k * nat_abs d = ap nat_abs e ∙ unsigned_abs-mul (pos k) d in
    let q : nat_abs x / nat_abs d ≡ k = ap (λ (a : ℕ). a / nat_abs d) n ∙ mul-div_cancel k (omega (arith, m)) in
    e ∙ ap (λ (i : ℕ). pos i *ℤ d) (sym q)

pub found : (x d : ℤ) (u v : ℕ) → d ≢ pos 0 → (j : ℤ) × (pos 1 ≤ℤ j) × (x ≡ j *ℤ d) → FitsSigned w32 x → FitsSigned w32 d
    → u ≡ nat_abs (to_z w32 (of_z w32 x)) → v ≡ nat_abs (to_z w32 (of_z w32 d)) → x ≡ pos (u / v) *ℤ d
found x d u v h j fx fd eu ev =
    let p = j.1 in
    let k : j.0 ≡ pos (nat_abs j.0) = omega (arith, ints, p) in
    let a : u ≡ nat_abs x = eu ∙ ap nat_abs (to_z-of_z w32 x fx) in
    let b : v ≡ nat_abs d = ev ∙ ap nat_abs (to_z-of_z w32 d fd) in
    rw (a, b) (counted (nat_abs j.0) x d h (j.2 ∙ ap (λ (z : ℤ). z *ℤ d) k))

-- ---- the multiple, told by one of the numbers that isn't 0

pub swap : (a b : ℤ) → a *ℤ b ≡ b *ℤ a
swap a b = rw (dif-up a, dif-up b) (simp (dif-mul) (dif-same _ _ _ _ (omega arith)))

same-factor : (j q a : ℤ) → a ≢ pos 0 → j *ℤ a ≡ q *ℤ a → j ≡ q
same-factor j q a h e = cancel a j q h (swap a j ∙ e ∙ swap q a)

pub by-first : (d e : Exp) (q : ℤ) → IsMultiple d e → d.a ≢ pos 0 → e.a ≡ q *ℤ d.a → e ≡ scale q d
by-first d e q m h f =
    let s : m.0 ≡ q = same-factor m.0 q d.a h (sym (ap (λ (x : Exp). x.a) m.2) ∙ f) in
    m.2 ∙ ap (λ (n : ℤ). scale n d) s

pub by-second : (d e : Exp) (q : ℤ) → IsMultiple d e → d.b ≢ pos 0 → e.b ≡ q *ℤ d.b → e ≡ scale q d
by-second d e q m h f =
    let s : m.0 ≡ q = same-factor m.0 q d.b h (sym (ap (λ (x : Exp). x.b) m.2) ∙ f) in
    m.2 ∙ ap (λ (n : ℤ). scale n d) s

pub second-not_zero : (d : Exp) → IsDirection d → d.a ≡ pos 0 → d.b ≢ pos 0
second-not_zero d h a b = direction-not_origin d h (λ i. record { a = a i; b = b i })

pub no-bits : (x : ℤ) → FitsSigned w32 x → of_z w32 x ≡ 0 → x ≡ pos 0
no-bits x f e = sym (to_z-of_z w32 x f) ∙ ap (to_z w32) e

pub some-bits : (x : ℤ) → (of_z w32 x ≡ 0 → ⊥) → x ≢ pos 0
some-bits x h e = h (ap (of_z w32) e)

-- as the numbers are read
pub multiple-read : (d e : Exp) (q : ℕ) → FitsSigned w32 d.a → FitsSigned w32 e.a → IsMultiple d e → (of_z w32 d.a ≡ 0 → ⊥) → to_z w32 (of_z w32 e.a) ≡ pos q *ℤ to_z w32 (of_z w32 d.a) → e ≡ scale (pos q) d
multiple-read d e q fd fe m h v = by-first d e (pos q) m (some-bits d.a h) (sym (to_z-of_z w32 e.a fe) ∙ v ∙ ap (λ (z : ℤ). pos q *ℤ z) (to_z-of_z w32 d.a fd))
