use Rattle.std.proofs.Common.{◌≡◌, ℕ, ◌≤◌, List, [], ◌∷◌, cond, subst, ap, ◌∙◌}
use Rattle.std.specs.Prelude.{pos, IfOk}
use Rattle.std.proofs.lemmas.Result.{IfOk-weaker}
use Rattle.scattering.specs.Collections.{Every}
use Rattle.scattering.specs.Series.{Exp, Key, Sum, coef, degree}
use Rattle.scattering.specs.Plane.{Point, point_eq}
use Rattle.scattering.specs.Wall.{Wall}
use Rattle.scattering.proofs.Lists.{Every-implies}
use Rattle.plane_geom.specs.Shown.{point_of}
use Rattle.trunc_series.specs.Shown.{sum_of}
use Rattle.scatter_diagram.specs.declared.wall.Wall.{Wall as CodeWall}
use Rattle.scatter_diagram.specs.Shown.{walls_of}
use Rattle.scatter_diagram.specs.Listed.{AreRays}
use Rattle.ray_merge.specs.Rays.{load, AreLoads, HasNewTerms, mass_along}
use Rattle.ray_merge.specs.RayTerms.{terms_of}
use Rattle.ray_merge.specs.Additions.{corrections_of}
use Rattle.ray_merge.proofs.Along.{light-as}
use Rattle.ray_merge.proofs.Values.{added-keys, added-distinct, added-each}
use Rattle.ray_merge.proofs.Terms.{CountsTerms, HasTerms, has-terms, all-start}
use Rattle.ray_merge.proofs.Together.{if-all}
use Rattle.ray_merge.proofs.Collecting.{AddsAt, adds-at, new-terms}
use Rattle.ray_merge.proofs.merge.rays_at.Goals as goal
use Rattle.ray_merge.proofs.merge.rays_at.Goals.{After-drop-terms-2}

pub ray_terms-requires-clause-each : goal.ray_terms-requires-clause-each
ray_terms-requires-clause-each c = rw c.as_slice.ensures.value (added-each c.args.order c.args.correction.now.1 (sum_of c.in_ok-terms.terms.items) c.in_ok-terms.ensures.added c.requires.addable c.requires.tame c.in_ok-terms.ensures.nonzero c.requires.light)

pub ray_terms-requires-clause-distinct : goal.ray_terms-requires-clause-distinct
ray_terms-requires-clause-distinct c = rw c.as_slice.ensures.value (added-distinct c.args.correction.now.1 (sum_of c.in_ok-terms.terms.items) c.in_ok-terms.ensures.added c.requires.addable.distinct)

pub rays_of-requires-clause-light : goal.rays_of-requires-clause-light
rays_of-requires-clause-light c =
    rw c.as_slice-2.ensures.value (light-as c.args.order (sum_of c.as_slice.result.now) (terms_of c.in_ok-sorted.sorted.items) c.in_ok-sorted.ensures.masses (rw c.as_slice.ensures.value (c.requires.within (sum_of c.in_ok-terms.terms.items) c.in_ok-terms.ensures.added)))

-- what the rays have of the terms in their order, they have of the terms
as-given : (n : ℕ) (p : Point) (f g : Sum) (ws : List CodeWall) → ((k : Key) → coef f k ≡ coef g k) → ((d : Exp) → mass_along n f d ≡ mass_along n g d) → AreRays n ws → CountsTerms p f (walls_of ws) → AreLoads n (mass_along n f) (walls_of ws) → HasTerms n p g (walls_of ws)
as-given n p f g ws same masses r t l =
    has-terms n p g ws r (λ q d k id mk. t q d k id mk ∙ ap (λ x. cond (point_eq p q) x (pos 0)) (same k))
    (Every-implies (λ (w : Wall). load n w ≤ mass_along n f w.dir) (λ w. load n w ≤ mass_along n g w.dir) (walls_of ws) (λ w h. subst (λ (m : ℕ). load n w ≤ m) (masses w.dir) h) l)

has : (c : After-drop-terms-2) → IfOk c.rays_of.result (λ r. HasTerms c.args.order (point_of c.args.correction.now.0) (sum_of c.in_ok-terms.terms.items) (walls_of r.items))
has c =
    let n = c.args.order in
    let p = point_of c.args.correction.now.0 in
    let f = terms_of c.as_slice-2.result.now in
    let g = sum_of c.in_ok-terms.terms.items in
    let same = λ (k : Key). ap (λ ts. coef (terms_of ts) k) c.as_slice-2.ensures.value ∙ c.in_ok-sorted.ensures.values k ∙ ap (λ ts. coef (sum_of ts) k) c.as_slice.ensures.value in
    let masses = λ (d : Exp). ap (λ ts. mass_along n (terms_of ts) d) c.as_slice-2.ensures.value ∙ c.in_ok-sorted.ensures.masses d ∙ ap (λ ts. mass_along n (sum_of ts) d) c.as_slice.ensures.value in
    if-all c.rays_of.result (λ r. AreRays n r.items) (λ r. CountsTerms p f (walls_of r.items)) (λ r. AreLoads n (mass_along n f) (walls_of r.items)) _
    (λ r a t l. as-given n p f g r.items same masses a t l) c.rays_of.ensures.rays c.rays_of.ensures.terms c.rays_of.ensures.loads

pub returns-clause-starts : goal.returns-clause-starts
returns-clause-starts c =
    IfOk-weaker c.rays_of.result _ (λ r. Every (λ w. w.at ≡ point_of c.args.correction.now.0) (walls_of r.items))
    (λ r h. all-start c.args.order (point_of c.args.correction.now.0) (sum_of c.in_ok-terms.terms.items) (walls_of r.items) h) (has c)

pub returns-clause-added : goal.returns-clause-added
returns-clause-added c =
    IfOk-weaker c.rays_of.result _ (λ r. AddsAt (point_of c.args.correction.now.0, c.args.correction.now.1) (walls_of r.items))
    (λ r h. adds-at (point_of c.args.correction.now.0) c.args.correction.now.1 (sum_of c.in_ok-terms.terms.items) (walls_of r.items) c.in_ok-terms.ensures.added c.requires.addable.distinct h.terms) (has c)

pub returns-clause-terms : goal.returns-clause-terms
returns-clause-terms c =
    let f = sum_of c.in_ok-terms.terms.items in
    let degrees = added-keys (λ k. degree k ≡ c.args.order) c.args.correction.now.1 f c.in_ok-terms.ensures.added (Every-implies _ _ c.args.correction.now.1 (λ t q. q.0) c.requires.addable.degrees) in
    IfOk-weaker c.rays_of.result _ (λ r. Every (HasNewTerms c.args.order (corrections_of (c.args.correction.now ∷ []))) (walls_of r.items))
    (λ r h. new-terms c.args.order (point_of c.args.correction.now.0) c.args.correction.now.1 f (walls_of r.items) h degrees c.in_ok-terms.ensures.added c.in_ok-terms.ensures.ratios) (has c)
