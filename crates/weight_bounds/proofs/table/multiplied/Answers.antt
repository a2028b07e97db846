use Rattle.std.proofs.Common.{◌+◌, ◌<◌, ℕ, length, length-set, subst, sym, arith}
use Rattle.weight_bounds.specs.Masses.{IsBound}
use Rattle.weight_bounds.specs.Rows.{convolved}
use Rattle.weight_bounds.proofs.Rows.{set-cases, below-last}
use Rattle.weight_bounds.proofs.table.multiplied.Goals as goal

pub loop-i-preserved : goal.loop-i-preserved
loop-i-preserved c =
    let l : c.loop-i.i < length c.loop-i.product = omega (arith, c.loop-i.invariant.length) in
    record {
      length = simp length-set c.loop-i.invariant.length;
      masses = λ v w a b j q.
          set-cases (λ n y. n < c.loop-i.i + 1 → IsBound y (convolved v w n)) c.loop-i.product c.loop-i.i c.mass_of_product.result j l
          (λ e k. subst (λ (n : ℕ). IsBound c.mass_of_product.result (convolved v w n)) (sym e) (c.mass_of_product.ensures v w (λ n p. a n (omega (arith, p))) (λ n p. b n (omega (arith, p)))))
          (λ e k. c.loop-i.invariant.masses v w a b j (below-last j c.loop-i.i k e)) q;
    }

pub returns : goal.returns
returns c v w a b j q = c.loop-i.invariant.masses v w a b j (omega (arith, q))
