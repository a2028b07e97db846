-- The masses by degree after a crossing, degree by degree downwards.
use Rattle.std.proofs.Common.{◌≡◌, ℕ, suc, refl, sym, subst, ap, ◌∙◌, ◌+◌, ◌-◌, ◌*◌, ◌<◌, ◌≤◌, Bool, true, false, List, [], ◌∷◌, slice_index, arith}
use Rattle.std.specs.Prelude.{nat_abs, nat_le}
use Rattle.std.proofs.lemmas.Bool.Decides.{nat_tests}
use Rattle.scattering.specs.Collections.{Every}
use Rattle.scattering.specs.Series.{Exp, Sum, degree, det, pow, geometric}
use Rattle.scattering.specs.LocalProduct.{cross_majorant}
use Rattle.weight_bounds.specs.Masses.{mass_at, majorant_mass, IsBound, BoundsByDegree, IsReached}
use Rattle.weight_bounds.specs.Tables.{SeenMassTable, IsMassTable}
use Rattle.weight_bounds.specs.Rows.{sum_below, gained, crossed_masses, AddsTimes}
use Rattle.weight_bounds.specs.Bounds.{SeenBound, BoundsSum, IsClosed}
use Rattle.weight_bounds.proofs.Totals.{sum-at, sum-rest, sum-more}
use Rattle.weight_bounds.proofs.Masses.{mass-substitute}
use Rattle.weight_bounds.proofs.Majorants.{majorant-mass-one, majorant-mass-low, majorant-mass-grows}
use Rattle.weight_bounds.proofs.Exponents.{IsWithin, cross-within, det-within}
use Rattle.weight_bounds.proofs.Rows.{bound-less, bound-of, zero-bound}
use Rattle.weight_bounds.proofs.Tables.{table-positive}

module _ (k : ℕ) (d : Exp) (f : Sum) (t : SeenMassTable) (is : IsMassTable k d f t) (reach : List ℕ) (v : ℕ → ℕ) where
  abbrev pub gain : ℕ → ℕ → ℕ
  gain e l = gained t.size reach f v e l

  -- after the crossing of the terms of degree above k - i
  abbrev pub so_far : ℕ → ℕ → ℕ
  so_far i e = sum_below (suc (e + i - (k + 1))) (gain e)

  gain-none : (e : ℕ) → gain e 0 ≡ v e
  gain-none e =
      let o = majorant-mass-one (t.size * (1 + slice_index reach (e - 0))) f (table-positive k d f t is) in
      let z : e - 0 ≡ e = omega arith in
      rw o (ap (λ (n : ℕ). v n * 1) z ∙ once (v e))
    where
      once : (a : ℕ) → a * 1 ≡ a
      once a = omega arith

  gain-low : (e l : ℕ) → 1 ≤ l → l < t.least → gain e l ≡ 0
  gain-low e l p q = let z = majorant-mass-low t.least (t.size * (1 + slice_index reach (e - l))) l f is.least is.positive p q in rw z (times (v (e - l)))
    where
      times : (a : ℕ) → a * 0 ≡ 0
      times a = omega arith

  first-only : (e n : ℕ) → sum_below 1 (gain e) ≡ v e
  first-only e n = let a = gain-none e in omega (arith, a)

  -- before any term is crossed
  pub crossed-none : (masses : List ℕ) → BoundsByDegree k masses v → (e : ℕ) → e ≤ k → IsBound (slice_index masses e) (so_far t.least e)
  crossed-none masses h e l =
      let a = sum-rest 1 (suc (e + t.least - (k + 1))) (gain e) (λ j p q. gain-low e j p (small j q)) in
      let b = first-only e 0 in
      bound-less (slice_index masses e) (v e) (so_far t.least e) (omega (arith, a, b)) (h e l)
    where
      small : (j : ℕ) → j < suc (e + t.least - (k + 1)) → j < t.least
      small j q = let p = is.positive in omega (arith, q, l, p)

  module _ (i : ℕ) (masses : List ℕ) (low : t.least ≤ i) (high : i ≤ k) (h : (e : ℕ) → e ≤ k → IsBound (slice_index masses e) (so_far i e)) where
    -- the terms of degree k - i are as they were
    own : IsBound (slice_index masses (k - i)) (v (k - i))
    own =
        let z : suc (k - i + i - (k + 1)) ≡ 1 = omega (arith, high) in
        let a = first-only (k - i) 0 in
        let b = sum-at (suc (k - i + i - (k + 1))) 1 (gain (k - i)) z in
        bound-less _ (so_far i (k - i)) _ (omega (arith, a, b)) (h (k - i) (omega arith))

    -- below that degree and at it nothing is added
    before : (e : ℕ) → e ≤ k - i → so_far (i + 1) e ≤ so_far i e
    before e l =
        let s : suc (e + (i + 1) - (k + 1)) ≡ suc (e + i - (k + 1)) = omega (arith, l, high) in
        let a = sum-at _ _ (gain e) s in
        omega (arith, a)

    -- above it one product
    after : (e l : ℕ) → e ≡ k - i + l → 1 ≤ l → so_far (i + 1) e ≡ so_far i e + gain e l
    after e l s p =
        let a : suc (e + (i + 1) - (k + 1)) ≡ suc l = omega (arith, s, p, high) in
        let b : suc (e + i - (k + 1)) ≡ l = omega (arith, s, p, high) in
        let x = sum-at _ _ (gain e) a in
        let y = sum-at _ _ (gain e) b in
        omega (arith, x, y)

    pub crossed-same : slice_index masses (k - i) ≡ 0 → (e : ℕ) → e ≤ k → IsBound (slice_index masses e) (so_far (i + 1) e)
    crossed-same z e l = go (nat_le e (k - i)) refl
      where
        none : v (k - i) ≡ 0
        none = zero-bound (v (k - i)) (rw z at own)

        go : (b : Bool) → nat_le e (k - i) ≡ b → IsBound (slice_index masses e) (so_far (i + 1) e)
        go true q = bound-less _ (so_far i e) _ (before e (grind (arith, nat_tests))) (h e l)
        go false q =
            let m : k - i < e = grind (arith, nat_tests) in
            let n : e - (e - (k - i)) ≡ k - i = omega (arith, m) in
            let a = after e (e - (k - i)) (omega (arith, m)) (omega (arith, m)) in
            let g : gain e (e - (k - i)) ≡ 0 = ap (λ (x : ℕ). v x * majorant_mass f (t.size * (1 + slice_index reach x)) (e - (k - i))) n ∙ rw none
            (times (majorant_mass f (t.size * (1 + slice_index reach (k - i))) (e - (k - i)))) in
            bound-less _ (so_far i e) _ (omega (arith, a, g)) (h e l)
          where
            times : (x : ℕ) → 0 * x ≡ 0
            times x = omega arith

    pub crossed-more : (row new : List ℕ) → ((l : ℕ) → l < t.least → slice_index row l ≡ 0)
        → ((l : ℕ) → 1 ≤ l → l ≤ i → IsBound (slice_index row l) (majorant_mass f (t.size * (1 + slice_index reach (k - i))) l))
        → AddsTimes (k - i) t.least (i + 1) masses new (slice_index masses (k - i)) row → (e : ℕ) → e ≤ k → IsBound (slice_index new e) (so_far (i + 1) e)
    crossed-more row new none some adds e l = go (nat_le (k - i + t.least) e) refl
      where
        go : (b : Bool) → nat_le (k - i + t.least) e ≡ b → IsBound (slice_index new e) (so_far (i + 1) e)
        go true q =
            let m : k - i + t.least ≤ e = grind (arith, nat_tests) in
            let p = is.positive in
            let j : e ≡ k - i + (e - (k - i)) = omega (arith, m) in
            let n : e - (e - (k - i)) ≡ k - i = omega (arith, m) in
            let a = after e (e - (k - i)) j (omega (arith, m, p)) in
            let g : gain e (e - (k - i)) ≡ v (k - i) * majorant_mass f (t.size * (1 + slice_index reach (k - i))) (e - (k - i)) = ap
            (λ (x : ℕ). v x * majorant_mass f (t.size * (1 + slice_index reach x)) (e - (k - i))) n in
            let b = adds.added (e - (k - i)) (omega (arith, m)) (omega (arith, m, l, high)) (so_far i e) (v (k - i)) (majorant_mass f (t.size * (1 + slice_index reach (k - i))) (e - (k - i)))
            (subst (λ (x : ℕ). IsBound (slice_index masses x) (so_far i e)) j (h e l)) own (some (e - (k - i)) (omega (arith, m, p)) (omega (arith, m, l, high))) in
            bound-less (slice_index new e) (so_far i e + v (k - i) * majorant_mass f (t.size * (1 + slice_index reach (k - i))) (e - (k - i))) _ (omega (arith, a, g))
            (subst (λ (x : ℕ). IsBound (slice_index new x) (so_far i e + v (k - i) * majorant_mass f (t.size * (1 + slice_index reach (k - i))) (e - (k - i)))) (sym j) b)
        go false q =
            let m : e < k - i + t.least = grind (arith, nat_tests) in
            bound-of (slice_index new e) (slice_index masses e) _ (adds.below e m) (low-degree (nat_le e (k - i)) refl m)
          where
            low-degree : (b : Bool) → nat_le e (k - i) ≡ b → e < k - i + t.least → IsBound (slice_index masses e) (so_far (i + 1) e)
            low-degree true r m = bound-less _ (so_far i e) _ (before e (grind (arith, nat_tests))) (h e l)
            low-degree false r m =
                let u : k - i < e = grind (arith, nat_tests) in
                let a = after e (e - (k - i)) (omega (arith, u)) (omega (arith, u)) in
                let g = gain-low e (e - (k - i)) (omega (arith, u)) (omega (arith, u, m)) in
                bound-less _ (so_far i e) _ (omega (arith, a, g)) (h e l)

  -- after all
  pub crossed-all : (i : ℕ) (masses : List ℕ) → k + 1 ≤ i → ((e : ℕ) → e ≤ k → IsBound (slice_index masses e) (so_far i e)) → BoundsByDegree k masses (crossed_masses t.size reach f v)
  crossed-all i masses l h e q =
      let a = sum-more (suc e) (suc (e + i - (k + 1))) (gain e) (omega (arith, l)) in
      bound-less _ (so_far i e) _ a (h e q)

-- ---- of sums

-- the masses of a crossing's majorant are within these numbers
pub mass-crossed : (k : ℕ) (d : Exp) (f g : Sum) (t : SeenMassTable) (reach : List ℕ) → IsMassTable k d f t → Every (λ u. IsWithin k reach 1 u.0) g → (e : ℕ) → e ≤ k
    → mass_at e (cross_majorant k d f g) ≤ crossed_masses t.size reach f (λ i. mass_at i g) e
mass-crossed k d f g t reach is within e l =
    mass-substitute k e (λ x. pow k (geometric k f) (nat_abs (det d x.exp))) (λ i j. majorant_mass f (t.size * (1 + slice_index reach i)) j) g l (each g within)
  where
    each : (g : Sum) → Every (λ u. IsWithin k reach 1 u.0) g
        → Every (λ u. degree u.0 ≤ e → mass_at (e - degree u.0) (pow k (geometric k f) (nat_abs (det d u.0.exp))) ≤ majorant_mass f (t.size * (1 + slice_index reach (degree u.0))) (e - degree u.0)) g
    each [] h = tt
    each (u ∷ g) h = (
      λ q.
          let w = h.0 (omega (arith, q, l)) in
          let s = is.size in
          majorant-mass-grows k (e - degree u.0) (nat_abs (det d u.0.exp)) (t.size * (1 + slice_index reach (degree u.0))) f (omega (arith, l)) (table-positive k d f t is)
          (rw s (det-within d u.0.exp (1 + slice_index reach (degree u.0)) w.0 w.1)),
      each g h.1,
    )

pub bounds-crossed : (b b' : SeenBound) (d : Exp) (f g : Sum) (t : SeenMassTable) → b'.order ≡ b.order → b'.reach ≡ b.reach → IsClosed b.order b.reach → IsReached b.order b.reach f → IsMassTable b.order d f t
    → ((v : ℕ → ℕ) → BoundsByDegree b.order b.masses v → BoundsByDegree b.order b'.masses (crossed_masses t.size b.reach f v)) → BoundsSum b g → BoundsSum b' (cross_majorant b.order d f g)
bounds-crossed b b' d f g t o r closed reached is step h = record {
  exponents = rw (o, r) (cross-within b.order b.reach closed d f g reached h.exponents);
  masses = rw o (λ e l. bound-less (slice_index b'.masses e) (crossed_masses t.size b.reach f (λ i. mass_at i g) e) _ (mass-crossed b.order d f g t b.reach is h.exponents e l) (step (λ i. mass_at i g) h.masses e l));
}
