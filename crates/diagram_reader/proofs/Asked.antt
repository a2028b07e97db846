-- An answer in the diagram of a completion is one among its lines.
use Rattle.std.proofs.Common.{◌≡◌, ℕ, sym, subst}
use Rattle.scattering.specs.Wall.{Diagram, walls}
use Rattle.scattering.specs.Completion.{IsCompletion}
use Rattle.scatter_diagram.specs.Listed.{SeenInitial, SeenDiagram}
use Rattle.scatter_step.specs.Completed.{SeenCompleted, IsCompleted}
use Rattle.scatter_step.proofs.Uniqueness.{completion-is-one}
use Rattle.theta_algebra.specs.declared.query.Query.{Query}
use Rattle.theta_algebra.specs.declared.query.Answer.{Answer}
use Rattle.theta_algebra.specs.Answering.{IsAnswer}
use Rattle.diagram_reader.specs.Asked.{IsAnswerAmong}

of_completion : (c : SeenCompleted) (q : Query) (a : Answer) → IsCompleted c → IsAnswer (walls c.diagram) c.order q a → IsAnswerAmong c.initial q a
of_completion c q a h is = record {
  diagram = c.diagram;
  completed = subst (λ (n : ℕ). IsCompleted (record { initial = c.initial; order = n; diagram = c.diagram })) (sym is.order) h;
  only = subst (λ (n : ℕ). (e : Diagram) → IsCompletion c.initial.lines n e → e ≡ c.diagram) (sym is.order) (λ e k. completion-is-one c e h k);
  answer = subst (λ (n : ℕ). IsAnswer (walls c.diagram) n q a) (sym is.order) is;
}

-- e is the diagram that the completion lends
pub among : (c : SeenCompleted) (e : SeenDiagram) (lines : SeenInitial) (q : Query) (a : Answer) → IsCompleted c → c.initial ≡ lines → e ≡ record { order = c.order; diagram = c.diagram } → IsAnswer (walls e.diagram) e.order q a → IsAnswerAmong lines q a
among c e lines q a h own lent is = subst (λ (i : SeenInitial). IsAnswerAmong i q a) own (of_completion c q a h (subst (λ (x : SeenDiagram). IsAnswer (walls x.diagram) x.order q a) lent is))
