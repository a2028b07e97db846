use Rattle.std.proofs.Common.{rules, ℕ, ℤ, List, replicate, pos, sym, subst, ◌∙◌, ap}
use Rattle.trunc_series.proofs.Terms.{no_term}
use Rattle.trunc_series.proofs.TermLists.{value-at}
use Rattle.power_tables.proofs.ColumnLists.{Grows, grows-first, grows-more, grows-last}
use Rattle.power_tables.proofs.columns.column_of.Goals as goal

pub loop-i-init : goal.loop-i-init
loop-i-init c = record {
  grows =
      subst (λ (r : List ℤ). Grows c.args.rule c.args.keys.now.items c.args.keys.now.items r c.args.terms.now 0) (sym (c.in_ok-column.ensures ∙ ap (λ (n : ℕ). replicate n (pos 0)) (search rules)))
      (grows-first c.args.rule c.args.keys.now.items c.args.terms.now);
  found = c.requires.found;
}

pub add_at-requires-clause-value : goal.add_at-requires-clause-value
add_at-requires-clause-value c = value-at c.args.rule c.args.terms.now c.loop-i.i no_term (search rules) c.requires.values

pub loop-i-preserved : goal.loop-i-preserved
loop-i-preserved c = record {
  grows =
      grows-more c.args.rule c.args.keys.now.items c.loop-i.keys.items c.add_at.new.keys.items c.loop-i.column.items c.add_at.new.column.items c.args.terms.now c.loop-i.i (search rules)
      (value-at c.args.rule c.args.terms.now c.loop-i.i no_term (search rules) c.requires.values) c.loop-i.invariant.grows c.in_ok-add_at.ensures.gets;
  found = c.in_ok-add_at.ensures.found;
}

pub returns-clause-column : goal.returns-clause-column
returns-clause-column c = grows-last c.args.rule c.args.keys.now.items c.loop-i.keys.items c.loop-i.column.items c.args.terms.now c.loop-i.i (search rules) c.loop-i.invariant.grows
