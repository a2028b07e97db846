use Rattle.scatter_step.proofs.Uniqueness.{completed-is-unique, completion-is-one}
use Rattle.scatter_step.proofs.laws.completions_are_unique.Goals as goal

pub returns-clause-completed : goal.returns-clause-completed
returns-clause-completed c = completed-is-unique

pub returns-clause-diagrams : goal.returns-clause-diagrams
returns-clause-diagrams c = completion-is-one
