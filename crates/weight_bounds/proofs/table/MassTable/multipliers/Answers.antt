use Rattle.std.proofs.Common.{◌≡◌, ◌-◌, ◌*◌, ◌≤◌, ℕ, suc, [], slice_index, slice_index_or, subst, sym, arith}
use Rattle.scattering.specs.Series.{Exp, Sum}
use Rattle.degree_theory.specs.Parts.{multichoose}
use Rattle.weight_bounds.specs.Masses.{IsBound, mass_of_power}
use Rattle.weight_bounds.specs.Tables.{SeenMassTable, IsMassTable}
use Rattle.weight_bounds.specs.Rows.{ArePowersOf, sum_below}
use Rattle.weight_bounds.proofs.Rows.{bound-less}
use Rattle.weight_bounds.proofs.Majorants.{power-mass-low, majorant-mass-after}
use Rattle.weight_bounds.proofs.Tables.{table-positive}
use Rattle.weight_bounds.proofs.table.MassTable.multipliers.Goals as goal

-- what the table keeps, as far as the degree `top`
of-table : (k top : ℕ) (d : Exp) (f : Sum) (t : SeenMassTable) → IsMassTable k d f t → top ≤ k → ArePowersOf top t.least t.powers (mass_of_power f)
of-table k top d f t h l = record {
  masses = λ r i q. let e : suc r - 1 ≡ r = omega arith in subst (λ (j : ℕ). IsBound (slice_index (slice_index_or t.powers j []) i) (mass_of_power f (suc r) i)) e (h.masses (suc r) (omega arith) i (omega (arith, l, q)));
  low = λ r i q. power-mass-low t.least r i f h.least q;
}

pub returns-clause-masses : goal.returns-clause-masses
returns-clause-masses c k d f i h p l =
    let o = h.order in
    let e = majorant-mass-after c.args.n i f p (table-positive k d f c.args.self.now h) in
    bound-less (slice_index c.weighted.result i) (sum_below i (λ r. multichoose c.args.n (suc r) * mass_of_power f (suc r) i)) _ (omega (arith, e))
    (c.weighted.ensures.masses (mass_of_power f) i (rw c.as_slice.ensures.value
    (subst (λ (t : SeenMassTable). ArePowersOf c.args.top t.least t.powers (mass_of_power f)) (sym c.self.view_is) (of-table k c.args.top d f c.args.self.now h (omega (arith, o, c.requires.top))))) l)
