use Rattle.std.proofs.Common.{rules, [], subst}
use Rattle.trunc_series.specs.Shown.{sum_of}
use Rattle.power_tables.specs.Made.{TermVec, GetsColumn}
use Rattle.power_tables.proofs.ColumnLists.{columns-first, columns-next}
use Rattle.power_tables.proofs.columns.part_of.Goals as goal

pub loop-r-init : goal.loop-r-init
loop-r-init c = record {
  columns =
      rw (c.new-higher.ensures.items, c.shrink_to_fit.ensures.items)
      (columns-first c.args.rule c.args.lists.now c.index-lists-0.result c.column_of.new.keys.items c.in_ok-first.first.items c.requires.some
      (subst (λ (p : TermVec). GetsColumn c.args.rule [] c.column_of.new.keys.items c.in_ok-first.first.items (sum_of p.items)) c.index-lists-0.is
      (rw (c.new-keys.ensures.items, c.as_slice.ensures.value) at c.in_ok-first.ensures.column)));
  found = c.in_ok-first.ensures.found;
}

pub loop-r-preserved : goal.loop-r-preserved
loop-r-preserved c = record {
  columns =
      rw (c.in_ok-push.ensures.items, c.in_ok-new.ensures)
      (columns-next c.args.rule c.args.lists.now c.index-lists-r.result c.loop-r.keys.items c.column_of-in-loop-r.new.keys.items c.shrink_to_fit.new.self.items c.in_ok-column.column.items c.loop-r.higher.items c.loop-r.r (search rules) c.loop-r.invariant.columns
      (subst (λ (p : TermVec). GetsColumn c.args.rule c.loop-r.keys.items c.column_of-in-loop-r.new.keys.items c.in_ok-column.column.items (sum_of p.items)) c.index-lists-r.is
      (rw c.as_slice-in-loop-r.ensures.value at c.in_ok-column.ensures.column)));
  found = c.in_ok-column.ensures.found;
}
