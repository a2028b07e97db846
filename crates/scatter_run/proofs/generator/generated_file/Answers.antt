-- One line more, and then all, which are those of a file within the limits.
use Rattle.std.proofs.Common.{◌∙◌, refl, sym, subst, arith, List}
use Rattle.std.specs.Prelude.{pos, All}
use Rattle.std.proofs.lemmas.Int.{ints}
use Rattle.std.proofs.lemmas.List.Elements.{All-nil}
use Rattle.scatter_text.specs.declared.file.LineRow.{LineRow}
use Rattle.scatter_text.specs.Values.{AreLineRows, IsAsk}
use Rattle.scatter_run.proofs.GeneratedFile.{lines-more, lines-all, valid-lines, within}
use Rattle.scatter_run.proofs.generator.generated_file.Goals as goal

pub loop-variable-preserved : goal.loop-variable-preserved
loop-variable-preserved c =
    let i = c.loop-variable.variable in
    let more = lines-more c.args.number i c.loop-variable.draws.state c.line.new.self.state c.loop-variable.lines.items c.in_ok-line.field-0 c.loop-variable-test.true
    c.loop-variable.invariant.1 c.loop-variable.invariant.0 c.in_ok-line.ensures.state c.in_ok-line.ensures.line in
    (c.in_ok-push.ensures.items ∙ more.0, more.1)

pub invariant_of-result : goal.invariant_of-result
invariant_of-result c = record {
  variables = omega (arith, ints);
  valid =
      subst (λ (rows : List LineRow). AreLineRows (pos 6) rows)
      (sym (lines-all c.args.number c.loop-variable.variable c.from_vec.result c.loop-variable.lines.items c.from_vec.ensures c.loop-variable.invariant.0 c.loop-variable-test.false))
      (valid-lines c.args.number);
  valid_asks = subst (All IsAsk) (sym c.new.ensures) (All-nil IsAsk);
  settled = λ n e. absurd (cc);
}

pub returns-clause-lines : goal.returns-clause-lines
returns-clause-lines c = lines-all c.args.number c.loop-variable.variable c.from_vec.result c.loop-variable.lines.items c.from_vec.ensures c.loop-variable.invariant.0 c.loop-variable-test.false

pub returns-clause-within : goal.returns-clause-within
returns-clause-within c =
    within c.args.number _ refl
    (lines-all c.args.number c.loop-variable.variable c.from_vec.result c.loop-variable.lines.items c.from_vec.ensures c.loop-variable.invariant.0 c.loop-variable-test.false)
