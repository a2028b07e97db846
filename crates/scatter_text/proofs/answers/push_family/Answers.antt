-- One theta more.
use Rattle.std.proofs.Common.{◌∙◌, ◌++◌, ap}
use Rattle.std.specs.Prelude.{string_bytes}
use Rattle.trunc_series.specs.declared.key.Exp.{Exp as CodeExp}
use Rattle.trunc_series.specs.Shown.{Seen}
use Rattle.scatter_text.specs.AnswersText.{theta_text}
use Rattle.scatter_text.proofs.AnswerLines.{piece_more}
use Rattle.scatter_text.proofs.answers.push_family.Goals as goal

pub loop-theta-preserved : goal.loop-theta-preserved
loop-theta-preserved c =
    piece_more (theta_text c.args.vars) c.args.family.now c.loop-theta.theta-index c.theta-item.result (string_bytes c.args.text.now) (string_bytes c.loop-theta.text) (string_bytes c.push_theta.new.text) c.loop-theta-test.true c.loop-theta.invariant
    (c.in_ok-push_theta.ensures ∙ ap (λ (p : CodeExp × Seen). string_bytes c.loop-theta.text ++ theta_text c.args.vars p) c.theta-item.is)
