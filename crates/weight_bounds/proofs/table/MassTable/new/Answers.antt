use Rattle.std.proofs.Common.{◌≡◌, ◌-◌, ◌≤◌, ℕ, suc, refl, subst, List, [], slice_index, slice_index_or, rules, arith}
use Rattle.scattering.specs.Collections.{Every}
use Rattle.scattering.specs.Series.{Sum, degree, absolute, rest}
use Rattle.weight_bounds.specs.Masses.{mass_at, mass_of_power, IsBound, BoundsByDegree, IsReached}
use Rattle.weight_bounds.specs.Rows.{powered, ArePowerMasses, AreMassesOf}
use Rattle.weight_bounds.proofs.Rows.{bound-less}
use Rattle.weight_bounds.proofs.Majorants.{absolute-low, power-mass-within}
use Rattle.weight_bounds.proofs.table.MassTable.new.Goals as goal

-- the rows are those of the powers
of-powers : (k least : ℕ) (f : Sum) (masses : List ℕ) (rows : List (List ℕ)) → Every (λ t. least ≤ degree t.0) (rest f) → AreMassesOf k masses f → ArePowerMasses k least masses rows
    → (r : ℕ) → 1 ≤ r → BoundsByDegree k (slice_index_or rows (r - 1) []) (mass_of_power f r)
of-powers k least f masses rows low m p r q i l =
    let v : ℕ → ℕ = λ j. mass_at j (absolute (rest f)) in
    let e : suc (r - 1) ≡ r = omega (arith, q) in
    bound-less (slice_index (slice_index_or rows (r - 1) []) i) (powered (λ j. mass_at j (absolute (rest f))) r i) _ (power-mass-within f r i)
    (subst (λ (n : ℕ). IsBound (slice_index (slice_index_or rows (r - 1) []) i) (powered (λ j. mass_at j (absolute (rest f))) n i)) e (p (λ j. mass_at j (absolute (rest f))) (r - 1) m (absolute-low least f low) i l))

pub returns : goal.returns
returns c =
    let low : Every (λ t. c.least_degree-least.result ≤ degree t.0) (rest c.args.function.now.terms) = subst
    (λ (f : Sum). Every (λ t. c.least_degree-least.result ≤ degree t.0) (rest f)) c.terms.ensures.terms c.least_degree-least.ensures.least in
    record {
      order = refl;
      size = search rules;
      positive = c.least_degree-least.ensures.positive;
      least = low;
      reach = subst (λ (f : Sum). IsReached c.args.order c.reach_of.result f) c.terms-3.ensures.terms c.reach_of.ensures.reach;
      masses =
          of-powers c.args.order c.least_degree-least.result c.args.function.now.terms c.masses_of-masses.result c.in_ok-powers_of.field-0.items low
          (subst (λ (f : Sum). AreMassesOf c.args.order c.masses_of-masses.result f) c.terms-2.ensures.terms c.masses_of-masses.ensures) c.in_ok-powers_of.ensures;
    }
