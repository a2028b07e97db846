use Rattle.std.proofs.Common.{◌≡◌, ◌∙◌, ◌<◌, ◌≤◌, ◌⊎◌, inl, inr, ℕ, sym, ap, subst, arith, List, map}
use Rattle.limits.specs.Limits.{largest_weight}
use Rattle.scattering.specs.Collections.{In}
use Rattle.scattering.specs.Series.{Exp, degree}
use Rattle.scattering.specs.Plane.{Point}
use Rattle.scattering.specs.Wall.{Wall}
use Rattle.scattering.proofs.Lists.{Every-at, In-mapped}
use Rattle.plane_geom.specs.Shown.{point_of}
use Rattle.trunc_series.specs.Shown.{exp_of}
use Rattle.joint_finder.proofs.Lists.{In-get}
use Rattle.bend_finder.specs.declared.bend.Bend.{Bend as CodeBend}
use Rattle.bend_finder.specs.Ahead.{SeenFinder, SeenAhead, IsAhead, IsBendAhead, IsToldAs, bend_of, bends_of, bend_weight}
use Rattle.broken_line_tests.proofs.values.values.Goals as goal

module _ (ws : List Wall) (b : ℕ) (p : Point) (x : Exp) (most : ℕ) (a : SeenAhead) (h : IsAhead ws b p x most a) (bs : List (CodeBend × ℕ)) (e : a.bends ≡ bends_of bs) (c : CodeBend × ℕ) (i : In c bs) where
  listed : In (bend_of c.0, c.1) a.bends
  listed = subst (In (bend_of c.0, c.1)) (sym e) (In-mapped (λ (d : CodeBend × ℕ). (bend_of d.0, d.1)) bs c i)

  low : degree (bend_of c.0).key ≤ most
  low = (Every-at (IsBendAhead ws b p x most) (map (λ d. d.0) a.bends) (bend_of c.0) h.bends.each (In-mapped (λ d. d.0) a.bends (bend_of c.0, c.1) listed)).1

  low-at : (n : ℕ) → most ≤ n → degree (bend_of c.0).key ≤ n
  low-at n m = go (degree (bend_of c.0).key) low
    where
      go : (d : ℕ) → d ≤ most → d ≤ n
      go d l = omega (arith, l, m)

  light : c.1 ≤ largest_weight → bend_weight ws b x (bend_of c.0) ≤ largest_weight
  light l = go (bend_weight ws b x (bend_of c.0)) c.1 largest_weight l (Every-at (λ d. IsToldAs (bend_weight ws b x d.0) d.1) a.bends (bend_of c.0, c.1) h.weights listed)
    where
      go : (mass told most : ℕ) → told ≤ most → (told ≡ mass) ⊎ ((most < mass) × (most < told)) → mass ≤ most
      go mass told most l (inl e) = omega (arith, l, e)
      go mass told most l (inr r) = absurd (let t = r.1 in omega (arith, l, t))

pub value-requires-clause-degree : goal.value-requires-clause-degree
value-requires-clause-degree c =
    let f = c.args.finder.now in
    let i = In-get c.as_slice-b-items.result.now c.loop-b.b-index c.b-item.result c.loop-b-test.true c.b-item.is in
    subst (λ (g : SeenFinder). degree (bend_of c.b-item.result.0).key ≤ g.limit) (sym (c.loop-b.invariant ∙ c.ahead.ensures.same))
    (low-at f.walls f.limit (point_of c.args.p.now) (exp_of c.args.x) c.args.most c.in_ok-found.found c.in_ok-found.ensures.ahead c.as_slice-b-items.result.now (ap (λ (s : SeenAhead). s.bends) (sym c.found.view_is) ∙ ap bends_of (sym c.as_slice-b-items.ensures.value)) c.b-item.result i f.limit c.requires.most)

pub value-requires-clause-light : goal.value-requires-clause-light
value-requires-clause-light c =
    let f = c.args.finder.now in
    let i = In-get c.as_slice-b-items.result.now c.loop-b.b-index c.b-item.result c.loop-b-test.true c.b-item.is in
    let l = light f.walls f.limit (point_of c.args.p.now) (exp_of c.args.x) c.args.most c.in_ok-found.found c.in_ok-found.ensures.ahead c.as_slice-b-items.result.now (ap (λ (s : SeenAhead). s.bends) (sym c.found.view_is) ∙ ap bends_of (sym c.as_slice-b-items.ensures.value)) c.b-item.result i c.if-b-le-LARGEST_WEIGHT.true in
    subst (λ (g : SeenFinder). bend_weight g.walls g.limit (exp_of c.args.x) (bend_of c.b-item.result.0) ≤ largest_weight) (sym (c.loop-b.invariant ∙ c.ahead.ensures.same)) l
