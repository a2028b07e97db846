use Rattle.std.proofs.Common.{◌≡◌, ◌∙◌, List, ℕ, [], ◌∷◌, ◌++◌, ap}
use Rattle.serde_json.specs.View.{view}
use Rattle.scatter_diagram.specs.Stopped.{stop_of}
use Rattle.scatter_json.proofs.WrittenValues.{diagram-whole}
use Rattle.scatter_json.proofs.writing.write_json.Goals as goal

pub returns : goal.returns
returns c =
    let d = c.in_ok-value.ensures in
    (view c.in_ok-value.value, d, c.in_ok-push.ensures.items ∙ ap (λ (t : List ℕ). t ++ 10 ∷ []) (c.in_ok-text.ensures.text (diagram-whole c.args.vars c.args.e.now.order c.args.e.now.diagram (stop_of c.args.stop) _ d)))
