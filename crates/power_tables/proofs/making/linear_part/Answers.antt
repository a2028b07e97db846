use Rattle.std.proofs.Common.{rules, ◌≡◌, ◌≢◌, ◌+◌, ◌++◌, ◌∷◌, [], ℤ, sym, ap, ◌∙◌}
use Rattle.std.proofs.lemmas.Int.{to_z-of_z}
use mir.Syntax.{w128}
use Rattle.scattering.specs.Series.{degree}
use Rattle.trunc_series.specs.Shown.{term_of}
use Rattle.trunc_series.proofs.Terms.{at}
use Rattle.power_tables.specs.Tables.{column_sum}
use Rattle.power_tables.proofs.ColumnLists.{length-push}
use Rattle.power_tables.proofs.LinearParts.{term-picked, term-passed}
use Rattle.power_tables.proofs.making.linear_part.Goals as goal
use Rattle.power_tables.proofs.making.linear_part.Goals.{then-degree+in_ok-push+in_ok-push-2, else-degree}

pub loop-i-preserved : goal.loop-i-preserved
loop-i-preserved c = elim c.if-degree.branch [
  | then-degree+in_ok-push+in_ok-push-2 w ↦
      let v : c.degree.result ≡ degree (term_of (at c.args.u.now c.loop-i.i)).0 = c.degree.ensures.value in
      let q : c.degree.result ≡ c.args.degree = search rules in
      let k : c.if-degree.keys.items ≡ c.loop-i.keys.items ++ (at c.args.u.now c.loop-i.i).0 ∷ [] = rw w.keys-is w.in_ok-push.ensures.items in
      let f : c.if-degree.first.items ≡ c.loop-i.first.items ++ (at c.args.u.now c.loop-i.i).1 ∷ [] = rw w.first-is (w.in_ok-push-2.ensures.items ∙ ap (λ (y : ℤ). c.loop-i.first.items ++ y ∷ []) (to_z-of_z w128 (at c.args.u.now c.loop-i.i).1 (search rules))) in
      record {
        terms = rw (k, f) (term-picked c.args.degree c.degree.result c.args.u.now c.loop-i.i c.loop-i.keys.items c.loop-i.first.items (search rules) v q c.loop-i.invariant.lengths c.loop-i.invariant.terms);
        lengths = rw (k, f) (length-push c.loop-i.keys.items (at c.args.u.now c.loop-i.i).0 ∙ ap (λ n. n + 1) c.loop-i.invariant.lengths ∙ sym (length-push c.loop-i.first.items (at c.args.u.now c.loop-i.i).1));
      }
  | else-degree w ↦
      let v : c.degree.result ≡ degree (term_of (at c.args.u.now c.loop-i.i)).0 = c.degree.ensures.value in
      let o : c.degree.result ≢ c.args.degree = search rules in
      record {
        terms = rw (w.keys-is, w.first-is) (term-passed c.args.degree c.degree.result c.args.u.now c.loop-i.i (column_sum c.loop-i.keys.items c.loop-i.first.items) (search rules) v o c.loop-i.invariant.terms);
        lengths = rw (w.keys-is, w.first-is) c.loop-i.invariant.lengths;
      }
]
