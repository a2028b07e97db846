use Rattle.std.proofs.Common.{rules, ◌≡◌, ◌+◌, ◌-◌, ◌≤◌, suc, ℕ, ℤ, List, Vec, length, get_or, sym, subst, ap, ◌∙◌, arith}
use Rattle.std.specs.Global.{Global}
use Rattle.power_tables.specs.Kept.{numbers_of}
use Rattle.power_tables.specs.declared.rows.Family.{Family}
use Rattle.power_tables.specs.Rows.{IsBinomialRow, IsFullRow, AreBinomialRows}
use Rattle.power_tables.proofs.ColumnLists.{length-push}
use Rattle.power_tables.proofs.RowSteps.{rows-at, rows-push}
use Rattle.power_tables.proofs.rows.make_rows.Goals as goal

last : (family : Family) (rows : List (Vec ℤ Global)) (d : Vec ℤ Global) → 1 ≤ length rows → AreBinomialRows family 0 rows → IsFullRow family (length rows - 1) (numbers_of (get_or rows (length rows - 1) d))
last family rows d h a = subst (λ (i : ℕ). IsFullRow family i (numbers_of (get_or rows (length rows - 1) d))) (let e : 0 + (length rows - 1) ≡ length rows - 1 = omega arith in e) (rows-at family 0 (length rows - 1) rows d (omega (arith, h)) a)

last-row : (family : Family) (rows : List (Vec ℤ Global)) (n : ℕ) (d : Vec ℤ Global) → 1 ≤ length rows → n ≡ length rows → d ≡ get_or rows (n - 1) d → AreBinomialRows family 0 rows → IsFullRow family (length rows - 1) (numbers_of d)
last-row family rows n d h e q a =
    subst (λ (v : Vec ℤ Global). IsFullRow family (length rows - 1) (numbers_of v)) (sym (q ∙ ap (λ (i : ℕ). get_or rows (i - 1) d) e)) (last family rows d h a)

pub next_row-requires : goal.next_row-requires
next_row-requires c =
    let n : c.len-in-grow.result ≡ length c.grow.rows.items = search rules in
    record { row = rw c.as_slice.ensures.value (last-row c.args.family c.grow.rows.items c.len-in-grow.result c.index.result.now c.grow.invariant.some n c.index.ensures c.grow.invariant.rows).keepable }

pub grow-preserved : goal.grow-preserved
grow-preserved c =
    let n : c.len-in-grow.result ≡ length c.grow.rows.items = search rules in
    let s = c.grow.invariant.some in
    let w : IsFullRow c.args.family (length c.grow.rows.items - 1) (numbers_of c.index.result.now) = last-row c.args.family c.grow.rows.items c.len-in-grow.result c.index.result.now c.grow.invariant.some n c.index.ensures c.grow.invariant.rows in
    let q : suc (length c.grow.rows.items - 1) ≡ length c.grow.rows.items = omega (arith, s) in
    record {
      rows =
          subst (λ (rs : List (Vec ℤ Global)). AreBinomialRows c.args.family 0 rs) (sym c.in_ok-push.ensures.items)
          (rows-push c.args.family 0 (length c.grow.rows.items) c.grow.rows.items c.in_ok-next.next c.grow.invariant.rows (omega arith) record {
            width = c.in_ok-next.ensures.length ∙ ap length c.as_slice.ensures.value ∙ w.width;
            keepable = c.in_ok-next.ensures.keepable;
            numbers = subst (λ (i : ℕ). IsBinomialRow c.args.family i c.in_ok-next.next.items) q (c.in_ok-next.ensures.next (length c.grow.rows.items - 1) (subst (λ (r : List ℤ). IsBinomialRow c.args.family (length c.grow.rows.items - 1) r) (sym c.as_slice.ensures.value) w.numbers));
          });
      some = (let e = ap length c.in_ok-push.ensures.items ∙ length-push c.grow.rows.items c.in_ok-next.next in omega (arith, e));
    }
