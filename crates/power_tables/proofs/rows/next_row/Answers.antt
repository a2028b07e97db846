use Rattle.std.proofs.Common.{rules, ◌≡◌, suc, ℕ, ℤ, List, length, to_z, of_z, sym, subst, ap, ◌∙◌, arith}
use Rattle.std.proofs.lemmas.Int.{to_z-of_z}
use mir.Syntax.{w128}
use Rattle.scattering.specs.Collections.{Every}
use Rattle.scattering.proofs.Lists.{Every-push}
use Rattle.trunc_series.specs.Arithmetic.{kept, IsKeepable}
use Rattle.power_tables.specs.Rows.{rule_of, factor_of, IsBinomialRow}
use Rattle.power_tables.proofs.ColumnLists.{length-push}
use Rattle.power_tables.proofs.RowSteps.{row-more}
use Rattle.power_tables.proofs.rows.next_row.Goals as goal

pub loop-r-preserved : goal.loop-r-preserved
loop-r-preserved c =
    let e = c.in_ok-push.ensures.items in
    let i = c.loop-r.invariant.count in
    let x : ℤ = to_z w128 (of_z w128 c.next_number.result) in
    let t : to_z w128 (of_z w128 c.next_number.result) ≡ c.next_number.result = to_z-of_z w128 c.next_number.result (search rules) in
    record {
      count = (let l = ap length e ∙ length-push c.loop-r.next.items _ in omega (arith, l, i));
      keepable = subst (λ (r : List ℤ). Every (IsKeepable (rule_of c.args.family)) r) (sym e) (Every-push (IsKeepable (rule_of c.args.family)) c.loop-r.next.items _ c.loop-r.invariant.keepable (subst (λ (x : ℤ). IsKeepable (rule_of c.args.family) x) (sym t) c.next_number.ensures.keepable));
      next = λ m h. subst (λ (r : List ℤ). IsBinomialRow c.args.family (suc m) r) (sym e)
          (row-more (λ r x. x ≡ kept (rule_of c.args.family) (factor_of c.args.family (suc m) r)) c.loop-r.next.items _ (c.loop-r.invariant.next m h)
          (t ∙ c.next_number.ensures.number m h (subst (λ (ns : List ℤ). IsBinomialRow c.args.family (suc m) ns) (sym c.as_slice.ensures.value) (c.loop-r.invariant.next m h)) ∙ ap (λ (r : ℕ). kept (rule_of c.args.family) (factor_of c.args.family (suc m) r)) (sym i)));
    }
