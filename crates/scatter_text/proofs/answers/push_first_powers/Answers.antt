-- The powers are eight.
use Rattle.std.proofs.Common.{rules}
use Rattle.std.specs.Prelude.{string_bytes}
use Rattle.std.proofs.lemmas.Result.{on_ok_weaker}
use Rattle.scatter_text.proofs.AnswerLines.{powers_taken}
use Rattle.scatter_text.proofs.answers.push_first_powers.Goals as goal

pub returns : goal.returns
returns c =
    on_ok_weaker c.push_powers.result
    (λ e. powers_taken c.args.key.now.powers c.args.vars (string_bytes c.args.text.now) (string_bytes c.push_powers.new.text) (search rules) e)
    c.push_powers.ensures
