use Rattle.std.proofs.Common.{rules, ◌/◌, List, length, take, sym, subst, ap, ◌∙◌, arith}
use Rattle.trunc_series.specs.Shown.{sum_of}
use Rattle.trunc_series.specs.Sums.{AreKeptValues}
use Rattle.power_tables.specs.declared.table.Part.{Part}
use Rattle.power_tables.specs.Made.{TermVec, AreListed}
use Rattle.power_tables.proofs.ColumnLists.{length-push}
use Rattle.power_tables.proofs.Powers.{levels-values, every-take, listed-push, some-lists}
use Rattle.power_tables.proofs.making.parts_of.Goals as goal

pub part_of-requires-clause-some : goal.part_of-requires-clause-some
part_of-requires-clause-some c =
    rw c.as_slice.ensures.value
    (some-lists c.args.least c.args.order c.loop-degree.degree c.args.powers.now c.in_ok-lists.lists.items c.requires.positive (search rules) (search rules) c.requires.count c.in_ok-lists.ensures)

pub part_of-requires-clause-values : goal.part_of-requires-clause-values
part_of-requires-clause-values c =
    rw c.as_slice.ensures.value
    (levels-values c.args.rule c.loop-degree.degree (take (c.loop-degree.degree / c.args.least) c.args.powers.now) c.in_ok-lists.lists.items c.in_ok-lists.ensures
    (every-take (λ (p : TermVec). AreKeptValues c.args.rule (sum_of p.items)) c.args.powers.now (c.loop-degree.degree / c.args.least) c.requires.values))

pub loop-degree-preserved : goal.loop-degree-preserved
loop-degree-preserved c = record {
  parts =
      subst (λ (ps : List Part). AreListed c.args.rule c.args.powers.now c.args.least c.args.least ps) (sym c.in_ok-push.ensures.items)
      (listed-push c.args.rule c.args.powers.now c.args.least c.args.least c.loop-degree.degree c.loop-degree.parts.items c.in_ok-part.part c.loop-degree.invariant.parts c.loop-degree.invariant.count
      record { lists = c.in_ok-lists.lists.items; levels = c.in_ok-lists.ensures; has = rw c.as_slice.ensures.value at c.in_ok-part.ensures });
  count = (let e = ap length c.in_ok-push.ensures.items ∙ length-push c.loop-degree.parts.items c.in_ok-part.part in let i = c.loop-degree.invariant.count in omega (arith, e, i));
}
