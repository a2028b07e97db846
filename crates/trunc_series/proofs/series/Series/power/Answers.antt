use Rattle.std.proofs.Common.{◌≡◌, ◌≤◌, ◌^◌, ℕ, refl, ap, ◌∙◌, arith}
use Rattle.std.specs.Prelude.{pos, nat_abs, ◌<ℤ◌, ◌≤ℤ◌}
use Rattle.std.specs.Int.{w32}
use Rattle.std.proofs.lemmas.Int.{ints, to_z-of_z}
use Rattle.scattering.specs.Series.{Sum, power, mass_to}
use Rattle.trunc_series.specs.Shown.{sum_of, majorant_power}
use Rattle.trunc_series.proofs.Exact.{Made, own}
use Rattle.trunc_series.proofs.Products.{near-keys}
use Rattle.trunc_series.proofs.PowerLaws.{rest-tame}
use Rattle.trunc_series.proofs.PowersNear.{tame-powers}
use Rattle.trunc_series.proofs.Inverses.{made-power, power-positive, power-negative}
use Rattle.trunc_series.proofs.series.Series.power.Goals as goal
use Rattle.trunc_series.proofs.series.Series.power.Goals.{then-n-lt0+in_ok-terms, else-n-lt0+in_ok-terms-2}

pub powered-requires-clause-reduced : goal.powered-requires-clause-reduced
powered-requires-clause-reduced c = rw c.as_slice-f.ensures.value (own c.self.inside.order (sum_of c.self.inside.terms.items) c.self.invariant.series c.self.invariant.small)

pub powered-requires-clause-near : goal.powered-requires-clause-near
powered-requires-clause-near c = rw c.as_slice-f.ensures.value (near-keys (sum_of c.self.inside.terms.items) (rw (← c.self.view_is) at c.requires.near))

pub powered-requires-clause-powers : goal.powered-requires-clause-powers
powered-requires-clause-powers c =
    rw c.as_slice-f.ensures.value
    (tame-powers c.self.inside.order (sum_of c.self.inside.terms.items) _ c.self.invariant.order (rest-tame (sum_of c.self.inside.terms.items) (rw (← c.self.view_is) at c.requires.near) (rw (← c.self.view_is) at c.requires.others)))

made : (c : goal.After-result-1) → Made c.self.inside.order (sum_of c.if-n-lt0.terms.items) (power c.self.inside.order (sum_of c.self.inside.terms.items) c.args.n)
made c =
    let n : ℕ = c.self.inside.order in
    let f : Sum = sum_of c.self.inside.terms.items in
    let mass : mass_to c.self.inside.order (majorant_power c.self.inside.order (sum_of c.self.inside.terms.items) c.args.n) ≤ 2 ^ 126 = rw (← c.self.view_is) at c.requires.mass in
    let count : c.unsigned_abs-count.result ≡ nat_abs c.args.n = c.unsigned_abs-count.ensures.value ∙ ap nat_abs (to_z-of_z w32 c.args.n c.ranges.n) in
    made-power c.self.inside.order (sum_of c.self.inside.terms.items) (sum_of c.if-n-lt0.terms.items) c.self.invariant.order c.args.n mass
    (elim c.if-n-lt0.branch [
      | then-n-lt0+in_ok-terms w ↦
          let below : c.args.n <ℤ pos 0 = omega (arith, ints) in
          rw (w.terms-is, ← power-negative c.self.inside.order (sum_of c.self.inside.terms.items) c.args.n below) (rw (c.as_slice-f.ensures.value, count) at w.in_ok-terms.ensures)
      | else-n-lt0+in_ok-terms-2 w ↦
          let above : pos 0 ≤ℤ c.args.n = omega (arith, ints) in
          rw (w.terms-is, ← power-positive c.self.inside.order (sum_of c.self.inside.terms.items) c.args.n above) (rw (c.as_slice-f.ensures.value, count) at w.in_ok-terms-2.ensures)
    ])

pub invariant_of-result : goal.invariant_of-result
invariant_of-result c = (made c).0

pub returns : goal.returns
returns c = rw (← c.self.view_is) record { order = refl; series = (made c).0.series; same = (made c).1 }
