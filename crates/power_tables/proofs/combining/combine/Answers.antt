use Rattle.std.proofs.Common.{rules, ◌≡◌, ◌+◌, ◌<◌, ◌∷◌, [], ℕ, ℤ, List, length, replicate, get_or, sym, subst, ap, ◌∙◌, pos, arith}
use Rattle.std.proofs.lemmas.List.{take_all}
use Rattle.power_tables.specs.Rows.{AreCombined}
use Rattle.power_tables.proofs.ColumnLists.{length-zeros}
use Rattle.power_tables.proofs.CombinedColumns.{combined-none, combined-next, higher-next}
use Rattle.power_tables.proofs.combining.combine.Goals as goal

pub loop-r-init : goal.loop-r-init
loop-r-init c =
    let z : c.reset.new.values.items ≡ replicate (length c.args.part.now.keys.items) (pos 0) = c.in_ok-reset.ensures ∙ ap (λ (i : ℕ). replicate i (pos 0)) (search rules) in
    let w = c.requires.width in
    record {
      lengths = c.add_scaled.ensures.added.lengths ∙ ap length z ∙ length-zeros (length c.args.part.now.keys.items);
      keepable = c.add_scaled.ensures.keepable;
      combined = λ n h. combined-next c.args.rule n c.args.part.now.keys.items [] c.args.part.now.first.items (get_or c.args.row.now 1 (pos 0)) _ c.add_scaled.new.values.items tt c.requires.part.first (h.each 1 (omega (arith, w)))
          (subst (λ (vs : List ℤ). AreCombined c.args.rule n (record { keys = c.args.part.now.keys.items; columns = [] }) vs) (sym z) (combined-none c.args.rule n c.args.part.now.keys.items))
          (rw c.as_slice.ensures.value at c.add_scaled.ensures.added);
    }

pub loop-r-preserved : goal.loop-r-preserved
loop-r-preserved c =
    let w = c.requires.width in
    let k = c.requires.part.count in
    let l : c.loop-r.r < length c.args.part.now.higher.items = search rules in
    record {
      lengths = c.add_to.ensures.added.lengths ∙ c.loop-r.invariant.lengths;
      keepable = c.add_to.ensures.keepable;
      combined = λ n h. higher-next c.args.rule n c.args.part.now.keys.items c.args.part.now.first.items c.args.part.now.higher.items c.loop-r.r c.index.result.now (get_or c.args.row.now (c.loop-r.r + 2) (pos 0)) c.loop-r.values.items c.add_to.new.values.items l
          c.requires.part.first c.requires.part.higher c.index.ensures (h.each (c.loop-r.r + 2) (omega (arith, w, k, l))) (c.loop-r.invariant.combined n h)
          c.add_to.ensures.added;
    }

pub returns : goal.returns
returns c = λ n h.
    subst (λ (cs : List (List ℤ)). AreCombined c.args.rule n (record { keys = c.args.part.now.keys.items; columns = c.args.part.now.first.items ∷ cs }) c.loop-r.values.items)
    (take_all c.loop-r.r c.args.part.now.higher.items (search rules)) (c.loop-r.invariant.combined n h)
