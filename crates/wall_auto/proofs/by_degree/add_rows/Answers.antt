use Rattle.std.proofs.Common.{sym, ◌≡◌, ◌≤◌, ◌<◌, ◌-◌, ◌∙◌, ℕ, subst, length, get_or, arith, List}
use Rattle.scattering.specs.Series.{Sum}
use Rattle.trunc_series.specs.Sums.{AddsRow}
use Rattle.power_tables.specs.Tables.{keys_at}
use Rattle.wall_auto.specs.ByDegree.{part}
use Rattle.wall_auto.specs.Gains.{row_numbers}
use Rattle.wall_auto.proofs.PartRows.{part-kept, read-part, can-multiply, set-other, set-length, more-rows}
use Rattle.wall_auto.proofs.by_degree.add_rows.Goals as goal

inside : (c : goal.After-rule) → c.loop-degree.degree - 1 < length c.loop-degree.above
inside c = let o = c.loop-degree.invariant.order in let s = c.loop-degree.invariant.started in let p = c.least-degree.ensures.positive in let v = c.least-degree.ensures.value in omega (arith, o, s, p, v)

was : (c : goal.After-rule) → get_or c.loop-degree.above (c.loop-degree.degree - 1) c.index-above-degree.result ≡ part c.args.above.now (c.loop-degree.degree - 1)
was c = read-part c.loop-degree.above (c.loop-degree.degree - 1) c.index-above-degree.result (inside c) ∙ c.loop-degree.invariant.high (c.loop-degree.degree - 1) (omega arith)

pub add_row-requires-clause-terms : goal.add_row-requires-clause-terms
add_row-requires-clause-terms c =
    rw (c.rule.ensures, was c) (part-kept c.args.table.now.rule c.args.above.now (c.loop-degree.degree - 1) c.requires.fits.kept)

pub add_row-requires-clause-row : goal.add_row-requires-clause-row
add_row-requires-clause-row c =
    rw (c.rule.ensures, c.keys-keys.ensures, c.row_numbers-numbers.ensures)
    (can-multiply c.args.table.now c.requires.fits.table.0 c.args.t.now c.loop-degree.degree (length c.args.above.now) (row_numbers c.args.table.now c.args.values.now c.args.place c.loop-degree.degree) c.requires.fits.table.1 c.loop-degree.invariant.started (omega arith) c.requires.fits.degree c.requires.fits.near c.requires.fits.keepable
    (c.requires.rows c.loop-degree.degree c.loop-degree.invariant.started (omega arith)).values)

pub loop-degree-preserved : goal.loop-degree-preserved
loop-degree-preserved c =
    let cur : List Sum = c.loop-degree.above in
    let old : List Sum = c.args.above.now in
    let g : ℕ = c.loop-degree.degree in
    let new : Sum = c.add_row.new.self in
    let o = c.loop-degree.invariant.order in
    let s = c.loop-degree.invariant.started in
    let v = c.least-degree.ensures.value in
    let p = c.least-degree.ensures.positive in
    let positive : 1 ≤ c.loop-degree.degree = omega (arith, s, p, v) in
    let inside : c.loop-degree.degree - 1 < length c.loop-degree.above = omega (arith, o, s, p, v) in
    let row : AddsRow c.args.table.now.rule (part c.loop-degree.above (c.loop-degree.degree - 1)) c.add_row.new.self c.args.t.now (keys_at c.args.table.now c.loop-degree.degree) (row_numbers c.args.table.now c.args.values.now c.args.place c.loop-degree.degree) =
    subst (λ (p : Sum). AddsRow c.args.table.now.rule p c.add_row.new.self c.args.t.now (keys_at c.args.table.now c.loop-degree.degree) (row_numbers c.args.table.now c.args.values.now c.args.place c.loop-degree.degree)) (read-part c.loop-degree.above (c.loop-degree.degree - 1) c.index-above-degree.result inside)
    (rw (c.rule.ensures, c.keys-keys.ensures, c.row_numbers-numbers.ensures) at c.in_ok-add_row.ensures) in
    record {
      started = omega (arith, s);
      order = set-length cur old g new positive inside c.loop-degree.invariant.order;
      low = λ j l. set-other cur old g new positive inside j (λ q. omega (arith, q, l, s)) (c.loop-degree.invariant.low j l);
      high = λ j l. set-other cur old g new positive inside j (λ q. omega (arith, q, l)) (c.loop-degree.invariant.high j (omega (arith, l)));
      rows = λ j l low m. more-rows cur old g new positive inside c.args.table.now (row_numbers c.args.table.now c.args.values.now c.args.place) c.args.t.now (c.loop-degree.invariant.high (c.loop-degree.degree - 1) (omega arith)) row
          (λ i least below. c.loop-degree.invariant.rows i (let e = c.loop-degree.auto.degree-end in omega (arith, below, inside, o)) least below) j low m;
    }

pub add_row-requires-clause-lengths : goal.add_row-requires-clause-lengths
add_row-requires-clause-lengths c =
    rw (c.keys-keys.ensures, c.row_numbers-numbers.ensures) (sym (c.requires.rows c.loop-degree.degree c.loop-degree.invariant.started (omega arith)).lengths)
