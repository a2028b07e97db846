use Rattle.std.proofs.Common.{◌≡◌, ◌≢◌, sym, subst, ap, ◌∙◌}
use Rattle.std.proofs.lemmas.Result.{IfOk-weaker}
use Rattle.scattering.specs.Collections.{Every, EveryPair}
use Rattle.scattering.specs.Series.{Sum, Exp, Key, Term, coef}
use Rattle.trunc_series.specs.Shown.{sum_of}
use Rattle.ray_merge.specs.Additions.{IsRayTerm}
use Rattle.ray_merge.specs.RayTerms.{AreRayTerms, terms_of}
use Rattle.ray_merge.specs.Rays.{mass_along}
use Rattle.ray_merge.proofs.Sorting.{sorted-terms, sorted-coef, sorted-mass}
use Rattle.ray_merge.proofs.ray_term.ray_terms.Goals as goal

pub returns-clause-terms : goal.returns-clause-terms
returns-clause-terms c =
    let n = c.args.order in
    let ts = c.in_ok-with_directions.field-0.items in
    let same = sym c.in_ok-with_directions.ensures.terms in
    IfOk-weaker c.by_direction.result _ (λ r. AreRayTerms n r.items)
    (λ r e. rw e (sorted-terms n ts (subst (Every (IsRayTerm n)) same c.requires.each) c.in_ok-with_directions.ensures.along (subst (EveryPair (λ (t u : Term). t.0 ≢ u.0)) same c.requires.distinct))) c.by_direction.ensures

pub returns-clause-values : goal.returns-clause-values
returns-clause-values c =
    let ts = c.in_ok-with_directions.field-0.items in
    IfOk-weaker c.by_direction.result _ (λ r. (k : Key) → coef (terms_of r.items) k ≡ coef (sum_of c.args.terms.now) k)
    (λ r e k. rw e (sorted-coef ts k ∙ ap (λ (f : Sum). coef f k) c.in_ok-with_directions.ensures.terms)) c.by_direction.ensures

pub returns-clause-masses : goal.returns-clause-masses
returns-clause-masses c =
    let n = c.args.order in
    let ts = c.in_ok-with_directions.field-0.items in
    IfOk-weaker c.by_direction.result _ (λ r. (d : Exp) → mass_along n (terms_of r.items) d ≡ mass_along n (sum_of c.args.terms.now) d)
    (λ r e d. rw e (sorted-mass n ts d ∙ ap (λ (f : Sum). mass_along n f d) c.in_ok-with_directions.ensures.terms)) c.by_direction.ensures
