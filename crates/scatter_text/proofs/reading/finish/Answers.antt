use Rattle.std.proofs.Common.{inr, rules, ◌≡◌, subst, FitsSigned}
use Rattle.std.specs.Int.{w64}
use Rattle.std.proofs.lemmas.Int.{to_z-of_z}
use Rattle.scatter_text.specs.declared.fault.TextKind.TheVariants.{Missing}
use Rattle.scatter_text.proofs.Tokens.{empty_from_test}
use Rattle.scatter_text.proofs.StageRows.{not_whole}
use Rattle.scatter_text.specs.Stages.{rows_of, AreRead}
use Rattle.scatter_text.specs.declared.stage.Stage.{Stage}
use Rattle.scatter_text.proofs.Validity.{file_from_good}
use Rattle.scatter_text.proofs.reading.finish.Goals as goal

pub invariant_of-result : goal.invariant_of-result
invariant_of-result c =
    let fits : FitsSigned w64 c.in-Whole.vars = search rules in
    let P : Stage → Type 0 = λ s. AreRead (rows_of s) in
    let read = subst P c.in-Whole.is c.requires in
    let list = c.in-Whole.asks in
    let file = file_from_good read.0 read.1 c.in-Whole.vars c.in-Whole.lines.items list.asks.items list.settle read.2 in
    record { variables = rw to_z-of_z file.variables; valid = rw (to_z-of_z, c.from_vec.ensures) file.valid; valid_asks = rw c.from_vec-in-Whole.ensures file.valid_asks; settled = rw c.from_vec-in-Whole.ensures list.settled }

pub returns : goal.returns
returns c = record {
  ok = tt;
  bad = λ at kind is.
      let here : at ≡ c.args.line = cc in
      let missing : kind ≡ Missing = cc in
      (here, inr (empty_from_test c.args.rest.now c.is_empty.result c.if-not-is_empty.false c.is_empty.ensures, not_whole c.args.stage c.in_default.not-Whole, missing));
}
