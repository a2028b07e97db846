-- Bounds of a series by the sum that it stands for, and of a product's mass by the masses of its factors.
use Rattle.std.proofs.Common.{◌≡◌, ◌≢◌, ℕ, ◌+◌, ◌*◌, ◌≤◌, ◌^◌, refl, sym, ◌∙◌, Bool, true, false, cond, [], ◌∷◌, arith, zero-add}
use Rattle.std.specs.Prelude.{pos, nat_abs, nat_le}
use Rattle.std.proofs.lemmas.Int.{unsigned_abs-mul}
use Rattle.std.proofs.Math.Nat.{mul-le-mul_left}
use Rattle.scattering.specs.Collections.{Every}
use Rattle.scattering.specs.Series.{Key, Term, Sum, degree, key_mul, term_mul, coef, cut, mul, mass_to}
use Rattle.scattering.proofs.DistinctKeys.{rising-own}
use Rattle.scattering.proofs.Lists.{Every-append}
use Rattle.scattering.proofs.ShiftedSums.{degree-mul}
use Rattle.trunc_series.specs.Shown.{HasNearTerms}
use Rattle.trunc_series.specs.Laws.{SeriesHasLeastMass, SeriesStaysNear, SumsStayNear, MassesMultiply}
use Rattle.trunc_series.proofs.Mass.{mass-series}
use Rattle.trunc_series.proofs.Products.{mass-append, mass-absolute}
use Rattle.trunc_series.proofs.PowerLaws.{key-from}
use Rattle.trunc_series.proofs.Rows.{row_sum}

-- ---- of a series by its sum

pub least-mass : SeriesHasLeastMass
least-mass s n f h = mass-series n n s.terms f h.series h.same

abbrev Near : Key → Type 0
Near k = (nat_abs k.exp.a ≤ 2 ^ 16) × (nat_abs k.exp.b ≤ 2 ^ 16)

pub stays-near : SeriesStaysNear
stays-near s n f h near = go s.terms (rising-own s.terms h.series.rises) h.series.nonzero
  where
    go : (g : Sum) → Every (λ t. coef s.terms t.0 ≡ t.1) g → Every (λ t. t.1 ≢ pos 0) g → HasNearTerms g
    go [] o z = tt
    go (t ∷ g) o z = (key-from Near f t.0 near (λ e. z.0 (sym o.0 ∙ h.same t.0 ∙ e)), go g o.1 z.1)

pub sums-near : SumsStayNear
sums-near f g h k = Every-append (λ t. (nat_abs t.0.exp.a ≤ 2 ^ 16) × (nat_abs t.0.exp.b ≤ 2 ^ 16)) f g h k

-- ---- of a product

low-both : (n d e : ℕ) → d + e ≤ n → (nat_le d n ≡ true) × (nat_le e n ≡ true)
low-both n d e h = (grind arith, grind arith)

low-is : (n d : ℕ) → nat_le d n ≡ true → d ≤ n
low-is n d h = grind arith

step : (a b x r m : ℕ) → x ≡ a * b → r ≤ a * m → x + r ≤ a * (b + m)
step a b x r m e h = let d : a * (b + m) ≡ a * b + a * m = distribute a b m in omega (arith, e, h, d)
  where
    distribute : (a b m : ℕ) → a * (b + m) ≡ a * b + a * m
    distribute a b m = omega arith

row-mass : (n : ℕ) (t : Term) (g : Sum) → mass_to n (cut n (row_sum t g)) ≤ nat_abs t.1 * mass_to n g
row-mass n t [] = omega arith
row-mass n t (u ∷ g) = go (nat_le (degree (key_mul t.0 u.0)) n) refl (row-mass n t g)
  where
    go : (b : Bool) → nat_le (degree (key_mul t.0 u.0)) n ≡ b → mass_to n (cut n (row_sum t g)) ≤ nat_abs t.1 * mass_to n g
        → mass_to n (cond b (term_mul t u ∷ cut n (row_sum t g)) (cut n (row_sum t g))) ≤ nat_abs t.1 * mass_to n (u ∷ g)
    go true e h =
        let l : degree (key_mul t.0 u.0) ≤ n = low-is n (degree (key_mul t.0 u.0)) e in
        let both = low-both n (degree t.0) (degree u.0) (omega (arith, l, degree-mul t.0 u.0)) in
        rw (e, both.1) (step (nat_abs t.1) (nat_abs u.1) _ _ (mass_to n g) (unsigned_abs-mul t.1 u.1) h)
    go false e h = more (nat_le (degree u.0) n)
      where
        more : (b : Bool) → mass_to n (cut n (row_sum t g)) ≤ nat_abs t.1 * ((elim b [ true ↦ nat_abs u.1 | false ↦ 0 ]) + mass_to n g)
        more true = let k = mul-le-mul_left (nat_abs t.1) (let q : mass_to n g ≤ nat_abs u.1 + mass_to n g = omega arith in q) in omega (arith, h, k)
        more false = rw (zero-add (mass_to n g)) h

row-none : (n : ℕ) (t : Term) (g : Sum) → nat_le (degree t.0) n ≡ false → mass_to n (cut n (row_sum t g)) ≡ 0
row-none n t [] h = refl
row-none n t (u ∷ g) h =
    let e : nat_le (degree (key_mul t.0 u.0)) n ≡ false = high (degree t.0) (degree (key_mul t.0 u.0)) (omega (arith, degree-mul t.0 u.0)) h in
    rw e (row-none n t g h)
  where
    high : (d m : ℕ) → d ≤ m → nat_le d n ≡ false → nat_le m n ≡ false
    high d m l q = grind arith

mass-mul : (n : ℕ) (f g : Sum) → mass_to n (mul n f g) ≤ mass_to n f * mass_to n g
mass-mul n [] g = omega arith
mass-mul n (t ∷ f) g = go (nat_le (degree t.0) n) refl (mass-mul n f g)
  where
    split : (a b m r s : ℕ) → r ≤ a * m → s ≤ b * m → r + s ≤ (a + b) * m
    split a b m r s h k = let d : (a + b) * m ≡ a * m + b * m = distribute a b m in omega (arith, h, k, d)
      where
        distribute : (a b m : ℕ) → (a + b) * m ≡ a * m + b * m
        distribute a b m = omega arith

    go : (b : Bool) → nat_le (degree t.0) n ≡ b → mass_to n (mul n f g) ≤ mass_to n f * mass_to n g
        → mass_to n (mul n (t ∷ f) g) ≤ ((elim b [ true ↦ nat_abs t.1 | false ↦ 0 ]) + mass_to n f) * mass_to n g
    go true e h = rw (mass-append n (cut n (row_sum t g)) (mul n f g)) (split (nat_abs t.1) (mass_to n f) (mass_to n g) _ _ (row-mass n t g) h)
    go false e h = rw (mass-append n (cut n (row_sum t g)) (mul n f g), row-none n t g e, zero-add (mass_to n (mul n f g)), zero-add (mass_to n f)) h

pub masses-multiply : MassesMultiply
masses-multiply n f g = rw (← mass-absolute n f g) (mass-mul n f g)
