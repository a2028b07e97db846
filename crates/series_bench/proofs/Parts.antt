-- How the bounds of parts add up, and bound the product of two factors.
use Rattle.std.proofs.Common.{◌≡◌, ℕ, ◌+◌, ◌*◌, ◌≤◌, ◌^◌, sym, subst, Bool, true, false, cond, [], ◌∷◌, ◌++◌, arith}
use Rattle.std.specs.Prelude.{nat_abs, nat_le}
use Rattle.std.proofs.lemmas.Nat.{mul-le}
use Rattle.scattering.specs.Series.{Term, Sum, degree, cut, mul, absolute, mass_to}
use Rattle.trunc_series.specs.Shown.{Seen, IsSeriesOf, HasNearTerms}
use Rattle.trunc_series.specs.Laws.{SeriesHasLeastMass, SeriesStaysNear, SumsStayNear, MassesAdd, MassesMultiply}
use Rattle.series_bench.specs.Factor.{IsPart}

pub made-part : SeriesHasLeastMass → SeriesStaysNear → (count : ℕ) (s : Seen) (f : Sum) → IsSeriesOf s 24 f → HasNearTerms f → mass_to 24 f ≤ count * 2 ^ 20 → IsPart count s
made-part least stays count s f h near mass = record {
  order = h.order;
  near = stays s 24 f h near;
  mass = let l = least s 24 f h in omega (arith, l, mass);
}

-- a term alone, without it where its degree is above the order
pub near-one : (t : Term) → HasNearTerms (t ∷ []) → HasNearTerms (cut 24 (t ∷ []))
near-one t h = go (nat_le (degree t.0) 24)
  where
    go : (b : Bool) → HasNearTerms (cond b (t ∷ []) [])
    go true = h
    go false = tt

pub mass-one : (t : Term) → nat_abs t.1 ≤ 2 ^ 20 → mass_to 24 (cut 24 (t ∷ [])) ≤ 1 * 2 ^ 20
mass-one t h = go (nat_le (degree t.0) 24)
  where
    low : (b : Bool) → (elim b [ true ↦ nat_abs t.1 | false ↦ 0 ]) + 0 ≤ 1 * 2 ^ 20
    low true = omega (arith, h)
    low false = omega arith

    go : (b : Bool) → mass_to 24 (cond b (t ∷ []) []) ≤ 1 * 2 ^ 20
    go true = low (nat_le (degree t.0) 24)
    go false = omega arith

pub sum-part : SeriesHasLeastMass → SeriesStaysNear → SumsStayNear → MassesAdd → (a b c : ℕ) (l r s : Seen) → IsPart a l → IsPart b r → a + b ≡ c → IsSeriesOf s l.order (l.terms ++ r.terms) → IsPart c s
sum-part least stays sums adds a b c l r s h k e i =
    made-part least stays c s (l.terms ++ r.terms) (subst (λ (n : ℕ). IsSeriesOf s n (l.terms ++ r.terms)) h.order i) (sums l.terms r.terms h.near k.near)
    (let m = adds 24 l.terms r.terms in let p = h.mass in let q = k.mass in omega (arith, m, p, q, e))

pub product-mass : MassesMultiply → (f g : Seen) → IsPart 2000 f → IsPart 2000 g → mass_to f.order (mul f.order (absolute f.terms) (absolute g.terms)) ≤ 2 ^ 126
product-mass multiply f g h k =
    let m = multiply 24 f.terms g.terms in
    let l = mul-le (mass_to 24 f.terms) (mass_to 24 g.terms) (2000 * 2 ^ 20) (2000 * 2 ^ 20) h.mass k.mass in
    subst (λ (n : ℕ). mass_to n (mul n (absolute f.terms) (absolute g.terms)) ≤ 2 ^ 126) (sym h.order) (omega (arith, m, l))
