use Rattle.std.proofs.Common.{◌∙◌, ◌≢◌, sym, ap}
use Rattle.std.specs.Prelude.{pos, neg_ℤ}
use Rattle.scattering.specs.Series.{det}
use Rattle.scattering.specs.Plane.{difference}
use Rattle.plane_geom.specs.Shown.{support_dir, point_of}
use Rattle.plane_geom.proofs.Casts.{bits-zero64, back25, back94, neg25}
use Rattle.plane_geom.proofs.Meets.{not-both, met-on, far-on, met-found, met-far, holds-along, common-along}
use Rattle.plane_geom.proofs.crossing.meet.Goals as goal
use Rattle.plane_geom.proofs.crossing.meet.Goals.{then-not-holds-via-then-not-holds, then-not-holds-via-else-not-holds+then-not-holds-2}

pub returns-then-not-holds : goal.returns-then-not-holds
returns-then-not-holds c =
    let turn = back25 c.det-turn.result c.det-turn.ensures.bound ∙ c.det-turn.ensures.value ∙ (λ i. det (c.whole_line.ensures.dir i) (c.whole_line-2.ensures.dir i)) in
    let crossing : det (support_dir c.args.s.now) (support_dir c.args.t.now) ≢ pos 0 = (λ e. c.if-turn-eq0.false (bits-zero64 c.det-turn.result (c.det-turn.ensures.value ∙ (λ i. det (c.whole_line.ensures.dir i) (c.whole_line-2.ensures.dir i)) ∙ e))) in
    let along = back94 c.numerator-along.result c.numerator-along.ensures.bound ∙ c.numerator-along.ensures.value ∙ (λ i. det (difference (c.whole_line.ensures.at i) (c.whole_line-2.ensures.at i)) (c.whole_line-2.ensures.dir i)) in
    let back = neg25 c.det-turn.result c.det-turn.ensures.bound ∙ ap neg_ℤ (c.det-turn.ensures.value ∙ (λ i. det (c.whole_line.ensures.dir i) (c.whole_line-2.ensures.dir i))) in (
      crossing,
      not-both c.args.s.now c.args.t.now crossing (λ a b. elim c.then-not-holds.branch [
        | then-not-holds-via-then-not-holds w ↦ let h = w.if-not-holds.true in let i = c.holds.ensures.1 (holds-along c.args.s.now _ _ _ _ (sym along) (sym turn) a) in absurd (cc)
        | then-not-holds-via-else-not-holds+then-not-holds-2 w ↦
            let other = back94 w.numerator.result w.numerator.ensures.bound ∙ w.numerator.ensures.value ∙ (λ i. det (difference (c.whole_line-2.ensures.at i) (c.whole_line.ensures.at i)) (c.whole_line.ensures.dir i)) in
            let h = w.if-not-holds-2.true in let i = w.holds-else-not-holds.ensures.1 (holds-along c.args.t.now _ _ _ _ (sym other) (sym back) b) in absurd (cc)
      ]),
    )

pub returns-in-Some : goal.returns-in-Some
returns-in-Some c =
    let turn = back25 c.det-turn.result c.det-turn.ensures.bound ∙ c.det-turn.ensures.value ∙ (λ i. det (c.whole_line.ensures.dir i) (c.whole_line-2.ensures.dir i)) in
    let crossing : det (support_dir c.args.s.now) (support_dir c.args.t.now) ≢ pos 0 = (λ e. c.if-turn-eq0.false (bits-zero64 c.det-turn.result (c.det-turn.ensures.value ∙ (λ i. det (c.whole_line.ensures.dir i) (c.whole_line-2.ensures.dir i)) ∙ e))) in
    let along = back94 c.numerator-along.result c.numerator-along.ensures.bound ∙ c.numerator-along.ensures.value ∙ (λ i. det (difference (c.whole_line.ensures.at i) (c.whole_line-2.ensures.at i)) (c.whole_line-2.ensures.dir i)) in
    let other = back94 c.numerator.result c.numerator.ensures.bound ∙ c.numerator.ensures.value ∙ (λ i. det (difference (c.whole_line-2.ensures.at i) (c.whole_line.ensures.at i)) (c.whole_line.ensures.dir i)) in
    let back = neg25 c.det-turn.result c.det-turn.ensures.bound ∙ ap neg_ℤ (c.det-turn.ensures.value ∙ (λ i. det (c.whole_line.ensures.dir i) (c.whole_line-2.ensures.dir i))) in
    let met = met-found c.args.s.now c.args.t.now crossing c.common_point.result c.in-Some.q c.in-Some.is (common-along _ _ _ _ _ _ _ _ _ _ c.common_point.result c.whole_line.ensures.at c.whole_line.ensures.dir c.whole_line-2.ensures.at along turn c.common_point.ensures) in
    let on = met-on c.args.s.now c.args.t.now crossing (point_of c.in-Some.q) met (holds-along c.args.s.now _ _ _ _ along turn (c.holds.ensures.0 c.if-not-holds.false)) (holds-along c.args.t.now _ _ _ _ other back (c.holds-else-not-holds.ensures.0 c.if-not-holds-2.false)) in
    (crossing, on.0, on.1)

pub returns-in-None : goal.returns-in-None
returns-in-None c =
    let turn = back25 c.det-turn.result c.det-turn.ensures.bound ∙ c.det-turn.ensures.value ∙ (λ i. det (c.whole_line.ensures.dir i) (c.whole_line-2.ensures.dir i)) in
    let crossing : det (support_dir c.args.s.now) (support_dir c.args.t.now) ≢ pos 0 = (λ e. c.if-turn-eq0.false (bits-zero64 c.det-turn.result (c.det-turn.ensures.value ∙ (λ i. det (c.whole_line.ensures.dir i) (c.whole_line-2.ensures.dir i)) ∙ e))) in
    let along = back94 c.numerator-along.result c.numerator-along.ensures.bound ∙ c.numerator-along.ensures.value ∙ (λ i. det (difference (c.whole_line.ensures.at i) (c.whole_line-2.ensures.at i)) (c.whole_line-2.ensures.dir i)) in
    let other = back94 c.numerator.result c.numerator.ensures.bound ∙ c.numerator.ensures.value ∙ (λ i. det (difference (c.whole_line-2.ensures.at i) (c.whole_line.ensures.at i)) (c.whole_line.ensures.dir i)) in
    let back = neg25 c.det-turn.result c.det-turn.ensures.bound ∙ ap neg_ℤ (c.det-turn.ensures.value ∙ (λ i. det (c.whole_line.ensures.dir i) (c.whole_line-2.ensures.dir i))) in
    let far = met-far c.args.s.now c.args.t.now crossing c.common_point.result c.in-None.is (common-along _ _ _ _ _ _ _ _ _ _ c.common_point.result c.whole_line.ensures.at c.whole_line.ensures.dir c.whole_line-2.ensures.at along turn c.common_point.ensures) in
    (crossing, far-on c.args.s.now c.args.t.now crossing far (holds-along c.args.s.now _ _ _ _ along turn (c.holds.ensures.0 c.if-not-holds.false)) (holds-along c.args.t.now _ _ _ _ other back (c.holds-else-not-holds.ensures.0 c.if-not-holds-2.false)))
