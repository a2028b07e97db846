use Rattle.std.proofs.Common.{◌∙◌, ◌≢◌, sym, ap}
use Rattle.std.specs.Prelude.{pos, neg_ℤ}
use Rattle.scattering.specs.Series.{det}
use Rattle.scattering.specs.Plane.{difference}
use Rattle.plane_geom.specs.Shown.{support_dir}
use Rattle.plane_geom.proofs.Casts.{bits-zero64, back25, back94, neg25}
use Rattle.plane_geom.proofs.Meets.{first-holds, second-holds, met-somewhere, holds-along}
use Rattle.plane_geom.proofs.crossing.do_meet.Goals as goal

pub returns-then-holds : goal.returns-then-holds
returns-then-holds c =
    let turn = back25 c.det-turn.result c.det-turn.ensures.bound ∙ c.det-turn.ensures.value ∙ (λ i. det (c.whole_line.ensures.dir i) (c.whole_line-2.ensures.dir i)) in
    let crossing : det (support_dir c.args.s.now) (support_dir c.args.t.now) ≢ pos 0 = (λ e. c.if-turn-eq0.false (bits-zero64 c.det-turn.result (c.det-turn.ensures.value ∙ (λ i. det (c.whole_line.ensures.dir i) (c.whole_line-2.ensures.dir i)) ∙ e))) in
    let along = back94 c.numerator.result c.numerator.ensures.bound ∙ c.numerator.ensures.value ∙ (λ i. det (difference (c.whole_line.ensures.at i) (c.whole_line-2.ensures.at i)) (c.whole_line-2.ensures.dir i)) in
    let back = neg25 c.det-turn.result c.det-turn.ensures.bound ∙ ap neg_ℤ (c.det-turn.ensures.value ∙ (λ i. det (c.whole_line.ensures.dir i) (c.whole_line-2.ensures.dir i))) in
    let other = back94 c.numerator-then-holds.result c.numerator-then-holds.ensures.bound ∙ c.numerator-then-holds.ensures.value ∙ (λ i. det (difference (c.whole_line-2.ensures.at i) (c.whole_line.ensures.at i)) (c.whole_line.ensures.dir i)) in (
      (λ h. (crossing, met-somewhere c.args.s.now c.args.t.now crossing (holds-along c.args.s.now _ _ _ _ along turn (c.holds.ensures.0 c.if-holds.true)) (holds-along c.args.t.now _ _ _ _ other back (c.holds-then-holds.ensures.0 h)))),
      (λ m. c.holds-then-holds.ensures.1 (holds-along c.args.t.now _ _ _ _ (sym other) (sym back) (second-holds c.args.s.now c.args.t.now crossing m.1.0 m.1.1 m.1.2 m.1.3))),
    )

pub returns-else-holds : goal.returns-else-holds
returns-else-holds c =
    let turn = back25 c.det-turn.result c.det-turn.ensures.bound ∙ c.det-turn.ensures.value ∙ (λ i. det (c.whole_line.ensures.dir i) (c.whole_line-2.ensures.dir i)) in
    let along = back94 c.numerator.result c.numerator.ensures.bound ∙ c.numerator.ensures.value ∙ (λ i. det (difference (c.whole_line.ensures.at i) (c.whole_line-2.ensures.at i)) (c.whole_line-2.ensures.dir i)) in (
      (λ h. let n = c.if-holds.false in absurd (cc)),
      (λ m. c.holds.ensures.1 (holds-along c.args.s.now _ _ _ _ (sym along) (sym turn) (first-holds c.args.s.now c.args.t.now m.0 m.1.0 m.1.1 m.1.2 m.1.3))),
    )
