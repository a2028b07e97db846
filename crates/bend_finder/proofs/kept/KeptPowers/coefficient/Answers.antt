use Rattle.std.proofs.Common.{rules, ◌≤◌, ◌∙◌, ℕ, ap, arith}
use Rattle.std.proofs.lemmas.Int.{to_z-of_z}
use mir.Syntax.{w128}
use Rattle.scattering.specs.Series.{degree, coef}
use Rattle.scattering.specs.BrokenLine.{across}
use Rattle.plane_geom.specs.Shown.{point_of}
use Rattle.trunc_series.specs.Shown.{exp_of, key_of}
use Rattle.bend_finder.specs.Powers.{power_series}
use Rattle.bend_finder.specs.Kept.{IsSeriesAt, key_point}
use Rattle.bend_finder.proofs.ExactPowers.{series-lower}
use Rattle.bend_finder.proofs.KeptEntries.{put-has, part-has, unchanged-part}
use Rattle.bend_finder.proofs.kept.KeptPowers.coefficient.Goals as goal

pub returns-in_err-insert-clause-kept : goal.returns-in_err-insert-clause-kept
returns-in_err-insert-clause-kept c = λ ls s kept.
    let P = IsSeriesAt ls in
    let was = c.args.self.now.series in
    let rest = c.take_series.new.kept in
    record {
      majorants = kept.majorants;
      series = part-has rest c.insert.new.self P (unchanged-part rest c.insert.new.self c.in_err-insert.ensures.err) (part-has was rest P c.in_ok-power.ensures.part kept.series);
    }

itself : (n : ℕ) → n ≤ n
itself n = omega arith

pub returns-clause-value : goal.returns-clause-value
returns-clause-value c = λ ls live kept.
    let q = point_of c.args.q.now in
    let x = exp_of c.args.x in
    let key = key_of c.args.key.now in
    let d = degree key in
    let k = c.key_at-place.result in
    let s = c.in_ok-power.power in
    let taken = c.in_ok-power.ensures.power ls live in
    let h = taken.1 kept.series in
    let l : d ≤ s.order = let a = taken.0 in let e = c.degree.ensures.value in omega (arith, a, e) in
    to_z-of_z w128 c.coefficient-value.result (search rules) ∙ c.coefficient-value.ensures ∙ h.same key ∙ series-lower d s.order l ls (key_point k) k.times key (itself d)
    ∙ ap (λ p. coef (power_series d ls p k.times) key) c.key_at-place.ensures.point
    ∙ ap (λ i. coef (power_series d ls q i) key) (c.key_at-place.ensures.times ∙ c.across.ensures.value ∙ ap (λ us. across us x) live)

pub returns-clause-kept : goal.returns-clause-kept
returns-clause-kept c = λ ls s kept.
    let P = IsSeriesAt ls in
    let was = c.args.self.now.series in
    let rest = c.take_series.new.kept in
    record {
      majorants = kept.majorants;
      series = put-has rest c.insert.new.self c.key_at-place.result P c.in_ok-power.power c.in_ok-insert.ensures.updates ((c.in_ok-power.ensures.power ls s).1 kept.series) (part-has was rest P c.in_ok-power.ensures.part kept.series);
    }
