use Rattle.std.proofs.Common.{rules, ◌≡◌, ◌≤◌, ◌-◌, ℕ, subst, arith}
use Rattle.scattering.specs.Series.{degree}
use Rattle.trunc_series.specs.Shown.{term_of}
use Rattle.trunc_series.specs.LowRows.{IsLowRow}
use Rattle.trunc_series.proofs.Terms.{at, Every-at}
use Rattle.trunc_series.proofs.RowProducts.{row-fits, row-added}
use Rattle.trunc_series.proofs.product.multiply_into.Goals as goal

pub overflow_sub-order : goal.overflow_sub-order
overflow_sub-order c =
    let n : c.order.result ≡ c.args.factor.now.order = c.order.ensures.value in
    let d : c.degree.result ≡ degree (term_of (at c.args.terms.now c.loop-i.i)).0 = c.degree.ensures.value in
    let l : degree (term_of (at c.args.terms.now c.loop-i.i)).0 ≤ c.args.factor.now.order = Every-at (λ t. degree t.0 ≤ c.args.factor.now.order) c.args.terms.now c.loop-i.i (search rules) c.requires.low in
    omega (arith, n, d, l)

pub add_row-requires-clause-row : goal.add_row-requires-clause-row
add_row-requires-clause-row c =
    let n : ℕ = c.args.factor.now.order in
    let q : IsLowRow (c.args.factor.now.order - c.degree.result) c.args.factor.now.terms c.row-row.result.now = subst (λ (m : ℕ). IsLowRow (m - c.degree.result) c.args.factor.now.terms c.row-row.result.now) c.order.ensures.value c.row-row.ensures in
    rw (c.as_slice.ensures.value, c.as_slice-in-loop-i.ensures.value)
    (row-fits c.args.rule n c.degree.result c.args.terms.now c.loop-i.i c.args.factor.now.terms c.row-row.result.now (search rules)
    (Every-at (λ t. degree t.0 ≤ c.args.factor.now.order) c.args.terms.now c.loop-i.i (search rules) c.requires.low) c.degree.ensures.value q (search rules) c.requires.terms c.requires.factor)

pub loop-i-preserved : goal.loop-i-preserved
loop-i-preserved c =
    let n : ℕ = c.args.factor.now.order in
    let q : IsLowRow (c.args.factor.now.order - c.degree.result) c.args.factor.now.terms c.row-row.result.now = subst (λ (m : ℕ). IsLowRow (m - c.degree.result) c.args.factor.now.terms c.row-row.result.now) c.order.ensures.value c.row-row.ensures in
    row-added c.args.rule n c.degree.result c.args.terms.now c.loop-i.i c.args.factor.now.terms c.row-row.result.now (search rules)
    (Every-at (λ t. degree t.0 ≤ c.args.factor.now.order) c.args.terms.now c.loop-i.i (search rules) c.requires.low) c.degree.ensures.value q c.loop-i.sum c.add_row.new.self c.loop-i.invariant
    (rw (c.as_slice.ensures.value, c.as_slice-in-loop-i.ensures.value) at c.in_ok-add_row.ensures)
