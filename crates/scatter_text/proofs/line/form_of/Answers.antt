use Rattle.std.proofs.Common.{map}
use Rattle.scatter_text.proofs.RowForms.{no-form}
use Rattle.scatter_text.proofs.line.form_of.Goals as goal

pub returns : goal.returns
returns c = no-form c.args.variables c.args.keyword (map (λ t. t.now) c.args.tokens.now) c.forms-forms.result.now c.loop-form.form-index c.forms-forms.ensures c.loop-form-test.false c.loop-form.invariant
