use Rattle.std.proofs.Common.{◌≡◌, ◌≤◌, ◌∙◌, ℕ, sym, ap, subst, [], ◌∷◌, ◌++◌, arith}
use Rattle.std.proofs.lemmas.List.{append-nil, drop_all}
use Rattle.scattering.specs.Series.{degree}
use Rattle.scattering.proofs.Lists.{map-append}
use Rattle.plane_geom.specs.Shown.{point_of}
use Rattle.trunc_series.specs.Shown.{sum_of, term_of}
use Rattle.trunc_series.proofs.Terms.{at}
use Rattle.bend_finder.specs.declared.bend.Bend.{Bend as CodeBend}
use Rattle.bend_finder.specs.Ahead.{bend_of, bends_of}
use Rattle.bend_finder.specs.Bends.{AreCapped, bends_among, told_mass}
use Rattle.bend_finder.proofs.TermMasses.{bend-more, bend-none, told-at, degree-at}
use Rattle.bend_finder.proofs.turns.add_bends.Goals as goal
use Rattle.bend_finder.proofs.turns.add_bends.Goals.{then-degree-gt0+in_ok-push, else-degree-gt0}

pub masses-requires : goal.masses-requires
masses-requires c = record {
  most = rw c.order.ensures c.terms-terms.ensures.majorant.order;
  terms = subst AreCapped (sym c.terms-terms.ensures.terms) c.terms-terms.ensures.majorant.range;
}

pub loop-t-init : goal.loop-t-init
loop-t-init c = ap (λ f. bends_of c.args.bends.now.items ++ bends_among (point_of c.args.at.now) c.args.power.now.terms f) c.terms-terms.ensures.terms

pub index-requires : goal.index-requires
index-requires c =
    let l = degree-at c.args.power.now.order c.args.power.now.terms c.terms-terms.result.now c.loop-t.t-index c.loop-t-test.true c.terms-terms.ensures.terms c.terms-terms.ensures.majorant.series.low in
    let d = c.degree-degree.ensures.value in
    let n = c.in_ok-masses.ensures.count in
    let o = c.order.ensures in
    let k = c.in_ok-masses.masses.ok in
    omega (arith, l, d, n, o, k)

pub loop-t-preserved : goal.loop-t-preserved
loop-t-preserved c =
    let q = point_of c.args.at.now in
    let f = c.args.power.now.terms in
    let ts = c.terms-terms.result.now in
    let i = c.loop-t.t-index in
    let bs = bends_of c.loop-t.bends.items in
    let d = c.degree-degree.ensures.value in
    elim c.if-degree-gt0.branch [
      | then-degree-gt0+in_ok-push w ↦
          let bend : CodeBend × ℕ = (record { at = c.args.at.now; key = (at ts i).0 }, w.index.result.now) in
          let some : 1 ≤ degree (term_of (at ts i)).0 = (let t = w.if-degree-gt0.true in omega (arith, d, t)) in
          let e : w.index.result.now ≡ told_mass (degree (term_of (at ts i)).0) f =
          (let l = degree-at c.args.power.now.order f ts i c.loop-t-test.true c.terms-terms.ensures.terms c.terms-terms.ensures.majorant.series.low in
          let o = c.order.ensures in
          told-at c.order.result c.degree-degree.result w.index.result.now f (sum_of ts) c.in_ok-masses.masses.items c.in_ok-masses.ensures c.terms-terms.ensures.terms (omega (arith, l, o, d)) w.index.ensures ∙ ap (λ k. told_mass k f) d) in
          bend-more q f ts i c.loop-t-test.true bs (bends_of c.if-degree-gt0.bends.items) some (bend_of bend.0, bend.1) (λ j. (bend_of bend.0, e j))
          (ap (λ v. bends_of v.items) w.bends-is ∙ ap bends_of w.in_ok-push.ensures.items ∙ map-append (λ (b : CodeBend × ℕ). (bend_of b.0, b.1)) c.loop-t.bends.items (bend ∷ []))
          ∙ c.loop-t.invariant
      | else-degree-gt0 w ↦
          bend-none q f ts i c.loop-t-test.true bs (bends_of c.if-degree-gt0.bends.items) (let t = w.if-degree-gt0.false in omega (arith, d, t)) (ap (λ v. bends_of v.items) w.bends-is) ∙ c.loop-t.invariant
    ]

pub returns : goal.returns
returns c =
    let q = point_of c.args.at.now in
    let f = c.args.power.now.terms in
    let ts = c.terms-terms.result.now in
    sym (append-nil (bends_of c.loop-t.bends.items)) ∙ ap (λ us. bends_of c.loop-t.bends.items ++ bends_among q f (sum_of us)) (sym (drop_all c.loop-t.t-index ts c.loop-t-test.false)) ∙ c.loop-t.invariant
