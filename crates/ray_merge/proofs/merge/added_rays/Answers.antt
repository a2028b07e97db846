use Rattle.std.proofs.Common.{◌≡◌, ◌≢◌, ◌+◌, ◌++◌, List, ◌∷◌, drop, sym, subst, ap, ◌∙◌}
use Rattle.std.proofs.lemmas.List.{drop_all}
use Rattle.scattering.specs.Collections.{Every, EveryPair}
use Rattle.scattering.specs.Series.{Sum, degree, origin}
use Rattle.scattering.specs.Wall.{Wall}
use Rattle.scattering.specs.Plane.{Point}
use Rattle.scattering.specs.Correction.{Lie, Corrections, IsWhole}
use Rattle.scattering.proofs.Lists.{Every-at, Every-append, map-append}
use Rattle.plane_geom.specs.Shown.{point_of}
use Rattle.scatter_diagram.specs.Shown.{wall_of, walls_of}
use Rattle.ray_merge.specs.Additions.{AreAdded, IsTameElement, IsLight, IsLightAlong, corrections_of}
use Rattle.ray_merge.specs.Rays.{HasNewTerms}
use Rattle.ray_merge.proofs.Collecting.{AddsUp, AreBefore, adds-more, adds-all, before-others, corrections-drop, sorted-after, correction-in, new-among, rays-more}
use Rattle.ray_merge.proofs.merge.added_rays.Goals as goal

pub rays_at-requires-clause-addable : goal.rays_at-requires-clause-addable
rays_at-requires-clause-addable c =
    let i = correction-in c.args.corrections.now c.loop-correction.correction-index c.correction-item.result c.loop-correction-test.true c.correction-item.is in
    record {
      distinct = Every-at (λ c. EveryPair (λ t u. t.0 ≢ u.0) c.1) (corrections_of c.args.corrections.now) _ c.requires.mergeable.distinct i;
      degrees = Every-at (λ b. Every (λ t. (degree t.0 ≡ c.args.order) × (t.0.exp ≢ origin)) b.1) (corrections_of c.args.corrections.now) _ c.requires.mergeable.degrees i;
      whole = Every-at (λ c. Every IsWhole c.1) (corrections_of c.args.corrections.now) _ c.requires.mergeable.whole i;
    }

pub rays_at-requires-clause-tame : goal.rays_at-requires-clause-tame
rays_at-requires-clause-tame c =
    Every-at (λ b. IsTameElement c.args.order b.1) (corrections_of c.args.corrections.now) _ c.requires.tame (correction-in c.args.corrections.now c.loop-correction.correction-index c.correction-item.result c.loop-correction-test.true c.correction-item.is)

pub rays_at-requires-clause-light : goal.rays_at-requires-clause-light
rays_at-requires-clause-light c =
    Every-at (λ b. IsLight b.1) (corrections_of c.args.corrections.now) _ c.requires.light (correction-in c.args.corrections.now c.loop-correction.correction-index c.correction-item.result c.loop-correction-test.true c.correction-item.is)

pub rays_at-requires-clause-within : goal.rays_at-requires-clause-within
rays_at-requires-clause-within c =
    Every-at (λ b. (f : Sum) → AreAdded b.1 f → IsLightAlong c.args.order f) (corrections_of c.args.corrections.now) _ c.requires.within
    (correction-in c.args.corrections.now c.loop-correction.correction-index c.correction-item.result c.loop-correction-test.true c.correction-item.is)

pub loop-correction-preserved : goal.loop-correction-preserved
loop-correction-preserved c =
    let cs = corrections_of c.args.corrections.now in
    let after = corrections_of (drop (c.loop-correction.correction-index + 1) c.args.corrections.now) in
    let here : Point × Lie = (point_of c.correction-item.result.0, c.correction-item.result.1) in
    let split = corrections-drop c.args.corrections.now c.loop-correction.correction-index c.correction-item.result c.loop-correction-test.true c.correction-item.is in
    let sorted = sorted-after c.args.corrections.now c.loop-correction.correction-index c.correction-item.result c.loop-correction-test.true c.correction-item.is c.requires.mergeable.sorted in
    let i = correction-in c.args.corrections.now c.loop-correction.correction-index c.correction-item.result c.loop-correction-test.true c.correction-item.is in
    let before : AreBefore (walls_of c.loop-correction.out.items) (here ∷ after) = subst (AreBefore (walls_of c.loop-correction.out.items)) split c.loop-correction.invariant.before in
    let all : walls_of c.append.new.self.items ≡ walls_of c.loop-correction.out.items ++ walls_of c.in_ok-rays.rays.items = ap walls_of c.in_ok-append.ensures.items ∙ map-append wall_of c.loop-correction.out.items c.in_ok-rays.rays.items in
    record {
      rays = rays-more c.args.order c.loop-correction.out.items c.in_ok-rays.rays.items _ here after c.in_ok-append.ensures.items c.loop-correction.invariant.rays c.in_ok-rays.ensures.rays before c.in_ok-rays.ensures.starts;
      before = subst (λ (ws : List Wall). AreBefore ws after) (sym all) (before-others here after (walls_of c.loop-correction.out.items) (walls_of c.in_ok-rays.rays.items) before c.in_ok-rays.ensures.starts sorted);
      added = subst (AddsUp cs after) (sym all) (adds-more cs here after (walls_of c.loop-correction.out.items) (walls_of c.in_ok-rays.rays.items) sorted
          (subst (λ (others : Corrections). AddsUp cs others (walls_of c.loop-correction.out.items)) split c.loop-correction.invariant.added) c.in_ok-rays.ensures.added);
      terms = subst (Every (HasNewTerms c.args.order cs)) (sym all)
          (Every-append (HasNewTerms c.args.order cs) (walls_of c.loop-correction.out.items) (walls_of c.in_ok-rays.rays.items) c.loop-correction.invariant.terms (new-among c.args.order here cs (walls_of c.in_ok-rays.rays.items) i c.in_ok-rays.ensures.terms));
    }

pub returns-clause-added : goal.returns-clause-added
returns-clause-added c =
    adds-all (corrections_of c.args.corrections.now) (walls_of c.loop-correction.out.items)
    (subst (λ (others : Corrections). AddsUp (corrections_of c.args.corrections.now) others (walls_of c.loop-correction.out.items)) (ap corrections_of (drop_all c.loop-correction.correction-index c.args.corrections.now c.loop-correction-test.false)) c.loop-correction.invariant.added)
