-- What a reader answers in the pinned order is the answer in the completion that it lends.
use Rattle.std.proofs.Common.{◌≡◌, ◌≤◌, ℕ, sym, ap, ◌∙◌, subst, inl}
use Rattle.scattering.specs.Wall.{walls}
use Rattle.order_epochs.specs.Seen.{SeenEpoch}
use Rattle.theta_algebra.specs.Answering.{IsAnswer}
use Rattle.diagram_reader.proofs.Asked.{among}
use Rattle.diagram_reader.proofs.Machine.{asks}
use Rattle.diagram_reader.proofs.reader.DiagramReader.ask.Goals as goal

pub returns-in-Ok-clause-answer : goal.returns-in-Ok-clause-answer
returns-in-Ok-clause-answer c =
    let own = ap (λ s. s.lines) c.completed.ensures.order ∙ (c.in-Ok.ensures.0 ∙ ap (λ s. s.lines) c.self.view_is) in
    inl (among c.completed.result.now c.diagram.result.now c.args.self.lines c.args.query.now c.answer-found.result c.completed.ensures.completed own c.diagram.ensures.value c.answer-found.ensures)

pub returns-in-Ok-clause-machine : goal.returns-in-Ok-clause-machine
returns-in-Ok-clause-machine c =
    let lent = c.diagram.result.now in
    let found = c.answer-found.result in
    let pinned = ap (λ s. s.order) c.completed.ensures.order in
    let same : found.order ≡ c.in-Ok.pinned.order = c.answer-found.ensures.order ∙ (ap (λ s. s.order) c.diagram.ensures.value ∙ pinned) in
    let up : c.args.self.order ≤ found.order = subst (λ (e : SeenEpoch). e.order ≤ found.order) c.self.view_is (subst (λ (n : ℕ). c.self.inside.reader.order ≤ n) (sym same) c.in-Ok.ensures.1) in
    let is : IsAnswer (walls lent.diagram) found.order c.args.query.now found = subst (λ (n : ℕ). IsAnswer (walls lent.diagram) n c.args.query.now found) (sym c.answer-found.ensures.order) c.answer-found.ensures in
    asks (walls lent.diagram) c.args.self.order c.args.query.now found up is
