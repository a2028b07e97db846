-- A session is held over a file within the limits, and a refusal is the answer.
use Rattle.std.proofs.Common.{subst}
use Rattle.std.proofs.lemmas.Result.{IfOk-weaker}
use Rattle.scatter_run.specs.declared.answer.Checked.TheVariants.{File}
use Rattle.scatter_run.specs.Checked.{IsChecked}
use Rattle.scatter_run.specs.declared.form.Form.TheVariants.{Asks}
use Rattle.scatter_run.specs.Held.{IsSessionText}
use Rattle.scatter_run.proofs.CompletedText.{ended-outcome, refused-outcome}
use Rattle.scatter_run.proofs.answer.answer_in_session.Goals as goal

pub returns-in-File : goal.returns-in-File
returns-in-File g c =
    let bytes = c.args.bytes.now in
    let h : IsChecked Asks c.args.order c.args.readers bytes (File c.in-File.file) = subst (IsChecked Asks c.args.order c.args.readers bytes) c.in-File.is c.in_ok-file.ensures in
    IfOk-weaker c.hold.result _ _
    (λ a e. ended-outcome Asks c.args.order c.args.readers (IsSessionText c.args.order) bytes c.in-File.file a.status a.text.items c.requires.short h.0 h.1 e) c.hold.ensures

pub returns-in-Refused : goal.returns-in-Refused
returns-in-Refused g c =
    let bytes = c.args.bytes.now in
    refused-outcome Asks c.args.order c.args.readers (IsSessionText c.args.order) bytes c.in-Refused.answer.status c.in-Refused.answer.text.items
    (subst (IsChecked Asks c.args.order c.args.readers bytes) c.in-Refused.is c.in_ok-file.ensures)
