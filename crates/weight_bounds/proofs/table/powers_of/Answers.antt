use Rattle.std.proofs.Common.{◌≡◌, ◌+◌, ◌≤◌, ℕ, suc, Bool, true, false, refl, [], length, slice_index, slice_index_or, subst, arith}
use Rattle.std.specs.Prelude.{nat_lt}
use Rattle.std.proofs.lemmas.Bool.Decides.{nat_tests}
use Rattle.std.proofs.lemmas.List.{length_push, get_or_past}
use Rattle.weight_bounds.specs.Masses.{BoundsByDegree, IsBound}
use Rattle.weight_bounds.specs.Rows.{powered}
use Rattle.weight_bounds.proofs.Masses.{powered-low}
use Rattle.weight_bounds.proofs.Rows.{row-more, next-from, far}
use Rattle.weight_bounds.proofs.table.powers_of.Goals as goal

pub loop-from-preserved : goal.loop-from-preserved
loop-from-preserved c =
    let n : ℕ = length c.loop-from.powers.items in
    rw (c.in_ok-push.ensures.items, length_push c.loop-from.powers.items c.loop-from.power)
    record {
      from = next-from c.loop-from.from (length c.loop-from.powers.items) c.args.least c.loop-from.invariant.from;
      next = λ v a.
          let e : suc (length c.loop-from.powers.items + 1) ≡ length c.loop-from.powers.items + 1 + 1 = omega arith in
          subst (λ (r : ℕ). BoundsByDegree c.args.order c.multiplied-power.result (powered v r)) e (c.multiplied-power.ensures v (powered v (length c.loop-from.powers.items + 1)) a (c.loop-from.invariant.next v a));
      rows = λ v r a q.
          row-more c.loop-from.powers.items c.loop-from.power [] r (λ i row. BoundsByDegree c.args.order row (powered v (suc i))) (λ i p. c.loop-from.invariant.rows v i a p)
          (let e : length c.loop-from.powers.items + 1 ≡ suc (length c.loop-from.powers.items) = omega arith in subst (λ (m : ℕ). BoundsByDegree c.args.order c.loop-from.power (powered v m)) e
          (c.loop-from.invariant.next v a)) q;
    }

pub returns : goal.returns
returns c v r a z i l = go (nat_lt r (length c.loop-from.powers.items)) refl
  where
    go : (b : Bool) → nat_lt r (length c.loop-from.powers.items) ≡ b → IsBound (slice_index (slice_index_or c.loop-from.powers.items r []) i) (powered v (suc r) i)
    go true q = c.loop-from.invariant.rows v r a (grind (arith, nat_tests)) i l
    go false q =
        let past : length c.loop-from.powers.items ≤ r = grind (arith, nat_tests) in
        let o = powered-low v c.args.least (suc r) i z (far c.args.order c.loop-from.from (length c.loop-from.powers.items) r i c.args.least c.loop-from.invariant.from c.loop-from-test.false l past) in
        rw (get_or_past c.loop-from.powers.items r [] past, o) (λ s. omega arith)
