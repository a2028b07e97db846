use Rattle.std.proofs.Common.{◌≡◌, ◌+◌, ◌-◌, ◌*◌, ℕ, suc, arith}
use Rattle.weight_bounds.specs.Rows.{sum_below}
use Rattle.weight_bounds.proofs.Rows.{bound-less}
use Rattle.weight_bounds.proofs.Totals.{sum-next, sum-at}
use Rattle.weight_bounds.proofs.table.mass_of_product.Goals as goal

pub loop-j-preserved : goal.loop-j-preserved
loop-j-preserved c v w a b =
    let f : ℕ → ℕ = λ n. v (c.args.i - n) * w n in
    let e = sum-next c.loop-j.j (λ n. v (c.args.i - n) * w n) in
    bound-less c.sum-total.result (sum_below c.loop-j.j (λ n. v (c.args.i - n) * w n) + v (c.args.i - c.loop-j.j) * w c.loop-j.j) (sum_below (c.loop-j.j + 1) (λ n. v (c.args.i - n) * w n)) (omega (arith, e))
    (c.sum-total.ensures (sum_below c.loop-j.j (λ n. v (c.args.i - n) * w n)) (v (c.args.i - c.loop-j.j) * w c.loop-j.j) (c.loop-j.invariant v w a b)
    (c.product.ensures (v (c.args.i - c.loop-j.j)) (w c.loop-j.j) (a (c.args.i - c.loop-j.j) (omega arith)) (b c.loop-j.j (omega arith))))

pub returns : goal.returns
returns c v w a b =
    let e : c.loop-j.j ≡ suc c.args.i = omega arith in
    let s = sum-at c.loop-j.j (suc c.args.i) (λ n. v (c.args.i - n) * w n) e in
    bound-less c.loop-j.total (sum_below c.loop-j.j (λ n. v (c.args.i - n) * w n)) (sum_below (suc c.args.i) (λ n. v (c.args.i - n) * w n)) (omega (arith, s)) (c.loop-j.invariant v w a b)
