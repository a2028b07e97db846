use Rattle.std.proofs.Common.{◌∙◌, ap, true}
use Rattle.std.specs.List.{list_any}
use Rattle.scattering.specs.Series.{Term, rest}
use Rattle.scatter_diagram.proofs.Degrees.{any-rest}
use Rattle.scatter_diagram.proofs.wall.Wall.is_live.Goals as goal

pub returns : goal.returns
returns c = c.has_other_terms.ensures ∙ any-rest c.terms.result.now ∙ ap (λ f. list_any (λ (t : Term). true) (rest f)) c.terms.ensures.terms
