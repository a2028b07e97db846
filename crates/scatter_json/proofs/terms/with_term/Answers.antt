use Rattle.std.proofs.Common.{subst}
use Rattle.std.proofs.lemmas.Bool.Decides.{not_from_Decides}
use Rattle.serde_json.specs.View.{view}
use Rattle.scatter_json.specs.Parts.{MayFollow}
use Rattle.scatter_json.proofs.OneReading.{term-one}
use Rattle.scatter_json.proofs.terms.with_term.Goals as goal

pub returns-in_default : goal.returns-in_default
returns-in_default c = λ t h m. (rw c.in_default.is at c.in_ok-term.ensures) t h

pub returns-then-not-branch : goal.returns-then-not-branch
returns-then-not-branch c = λ t h m.
    not_from_Decides c.in_ok-may_follow.field-0 c.in_ok-may_follow.ensures c.if-not-branch.true
    (subst (MayFollow c.args.vars c.args.line.row.terms) (term-one (view c.args.value.now) t c.in-Some.term h (rw c.in-Some.is at c.in_ok-term.ensures)) m)
