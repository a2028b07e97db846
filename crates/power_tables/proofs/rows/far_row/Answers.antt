use Rattle.std.proofs.Common.{◌≡◌, ◌+◌, suc, ℕ, ℤ, List, length, sym, subst, ap, ◌∙◌, arith}
use Rattle.power_tables.specs.Rows.{IsBinomialRow, IsFullRow}
use Rattle.power_tables.proofs.RowSteps.{first-whole}
use Rattle.power_tables.proofs.rows.far_row.Goals as goal

pub loop-i-init : goal.loop-i-init
loop-i-init c = subst (λ (r : List ℤ). IsFullRow c.args.family 0 r) (sym c.in_ok-row.ensures) (first-whole c.args.family)

pub next_row-requires : goal.next_row-requires
next_row-requires c = record { row = rw c.as_slice.ensures.value c.loop-i.invariant.keepable }

pub loop-i-preserved : goal.loop-i-preserved
loop-i-preserved c = record {
  width = c.in_ok-row-2.ensures.length ∙ ap length c.as_slice.ensures.value ∙ c.loop-i.invariant.width;
  keepable = c.in_ok-row-2.ensures.keepable;
  numbers = subst (λ (i : ℕ). IsBinomialRow c.args.family i c.in_ok-row-2.row.items) (let e : suc c.loop-i.i ≡ c.loop-i.i + 1 = omega arith in e)
      (c.in_ok-row-2.ensures.next c.loop-i.i (subst (λ (r : List ℤ). IsBinomialRow c.args.family c.loop-i.i r) (sym c.as_slice.ensures.value) c.loop-i.invariant.numbers));
}
