use Rattle.std.proofs.Common.{arith, ◌≡◌, rules, FitsSigned, length}
use Rattle.std.specs.Prelude.{◌*ℤ◌}
use mir.Syntax.{w64, w128}
use Rattle.std.proofs.lemmas.Result.{on_ok_weaker}
use Rattle.std.proofs.lemmas.Int.{to_z-of_z}
use Rattle.trunc_series.specs.Shown.{term_of}
use Rattle.trunc_series.specs.Arithmetic.{kept}
use Rattle.power_tables.specs.Tables.{first_factor, numbers_at}
use Rattle.wall_auto.proofs.LinearRows.{linear-gained}
use Rattle.power_tables.specs.Values.{AreReached, values_in}
use Rattle.wall_auto.proofs.Outcomes.{on_both, zero-i64, zero-i128}
use Rattle.wall_auto.proofs.PartGains.{rows-gained, rows-kept, rows-within, none-gained, zero-gained}
use Rattle.wall_auto.proofs.by_degree.cross_term.Goals.{then-n-eq0-via-then-n-eq0, then-n-eq0-via-else-n-eq0+then-c-eq0}
use Rattle.wall_auto.proofs.by_degree.cross_term.Goals as goal

pub returns-then-n-eq0-clause-gains : goal.returns-then-n-eq0-clause-gains
returns-then-n-eq0-clause-gains c =
    let f : FitsSigned w64 c.args.n = search rules in
    let g : FitsSigned w128 c.args.t.now.1 = search rules in
    elim c.then-n-eq0.branch [
      | then-n-eq0-via-then-n-eq0 w ↦ none-gained c.args.table.now (term_of c.args.t.now) c.args.n c.args.above.now c.requires.fits.kept (zero-i64 c.args.n f w.if-n-eq0.true)
      | then-n-eq0-via-else-n-eq0+then-c-eq0 w ↦ zero-gained c.args.table.now (term_of c.args.t.now) c.args.n c.args.above.now c.requires.fits.kept (zero-i128 c.args.t.now.1 g w.if-c-eq0.true)
    ]

reached : (c : goal.After-above-2-1) → AreReached c.reach.new.self c.args.table.now c.args.n (length c.args.above.now) c.in_ok-place.place
reached c =
    let f : FitsSigned w64 c.args.n = search rules in
    rw (to_z-of_z w64 c.args.n f) at c.in_ok-place.ensures.reached

pub returns-clause-gains : goal.returns-clause-gains
returns-clause-gains c = on_ok_weaker c.add_rows-2.result (rows-gained c.args.table.now c.args.t.now c.args.n c.reach.new.self c.in_ok-place.place c.args.above.now c.add_rows-2.new.above (reached c) c.requires.fits.order c.requires.fits.keepable c.requires.fits.kept) c.add_rows-2.ensures.rows

pub returns-clause-within : goal.returns-clause-within
returns-clause-within c = on_both c.add_rows-2.result (rows-within c.args.table.now c.args.t.now (values_in c.reach.new.self c.args.table.now c.in_ok-place.place) c.args.above.now c.add_rows-2.new.above c.requires.fits.table c.add_rows-2.ensures.order) c.add_rows-2.ensures.low c.add_rows-2.ensures.rows

pub returns-clause-kept : goal.returns-clause-kept
returns-clause-kept c = on_both c.add_rows-2.result (rows-kept c.args.table.now c.args.t.now c.args.n (values_in c.reach.new.self c.args.table.now c.in_ok-place.place) c.args.above.now c.add_rows-2.new.above c.add_rows-2.ensures.order c.requires.fits.kept) c.add_rows-2.ensures.low c.add_rows-2.ensures.rows

pub returns-then-is_linear-clause-gains : goal.returns-then-is_linear-clause-gains
returns-then-is_linear-clause-gains c =
    let f : FitsSigned w128 c.product-c.result = search rules in
    let g : FitsSigned w128 c.factor_of.result = search rules in
    let h : FitsSigned w128 c.args.t.now.1 = search rules in
    let k : FitsSigned w64 c.args.n = search rules in
    let q : c.product-c.result ≡ kept c.args.table.now.rule (first_factor c.args.table.now.rule c.args.n *ℤ c.args.t.now.1) =
    rw (c.rule.ensures, to_z-of_z w128 c.factor_of.result g, to_z-of_z w128 c.args.t.now.1 h, c.factor_of.ensures, c.rule-then-is_linear.ensures, to_z-of_z w64 c.args.n k) at c.product-c.ensures in
    on_ok_weaker c.add_rows.result (linear-gained c.args.table.now c.args.t.now c.product-c.result c.args.n c.args.above.now c.add_rows.new.above q (c.is_linear.ensures c.if-is_linear.true) c.requires.fits.order c.requires.fits.keepable c.requires.fits.kept)
    (rw (to_z-of_z w128 c.product-c.result f) at c.add_rows.ensures.rows)

pub returns-then-is_linear-clause-within : goal.returns-then-is_linear-clause-within
returns-then-is_linear-clause-within c =
    let f : FitsSigned w128 c.product-c.result = search rules in
    on_both c.add_rows.result (rows-within c.args.table.now (c.args.t.now.0, c.product-c.result) (numbers_at c.args.table.now) c.args.above.now c.add_rows.new.above c.requires.fits.table c.add_rows.ensures.order) c.add_rows.ensures.low
    (rw (to_z-of_z w128 c.product-c.result f) at c.add_rows.ensures.rows)

pub returns-then-is_linear-clause-kept : goal.returns-then-is_linear-clause-kept
returns-then-is_linear-clause-kept c =
    let f : FitsSigned w128 c.product-c.result = search rules in
    on_both c.add_rows.result (rows-kept c.args.table.now (c.args.t.now.0, c.product-c.result) c.args.n (numbers_at c.args.table.now) c.args.above.now c.add_rows.new.above c.add_rows.ensures.order c.requires.fits.kept) c.add_rows.ensures.low
    (rw (to_z-of_z w128 c.product-c.result f) at c.add_rows.ensures.rows)

pub add_rows-requires-clause-fits : goal.add_rows-requires-clause-fits
add_rows-requires-clause-fits c = let h = c.requires.fits in record {
  table = h.table;
  order = h.order;
  near = h.near;
  degree = h.degree;
  keepable = search rules;
  kept = h.kept;
}

pub add_rows-requires-clause-rows : goal.add_rows-requires-clause-rows
add_rows-requires-clause-rows c = λ i low high.
    let o = c.requires.fits.order in
    let l = c.requires.fits.table.1.linear (c.is_linear.ensures c.if-is_linear.true) i low (omega (arith, high, o)) in
    record { lengths = l.lengths; values = l.values }

pub add_rows-requires-2-clause-rows : goal.add_rows-requires-2-clause-rows
add_rows-requires-2-clause-rows c = λ i low high.
    let f : FitsSigned w64 c.args.n = search rules in
    let v = (rw (to_z-of_z w64 c.args.n f) at c.in_ok-place.ensures.reached) i low high in
    record { lengths = v.lengths; values = v.values }
