use Rattle.std.proofs.Common.{◌∙◌, ℕ, ap, subst}
use Rattle.scattering.specs.Plane.{Point}
use Rattle.scattering.specs.BrokenLine.{live_on, across}
use Rattle.plane_geom.specs.Shown.{point_of}
use Rattle.trunc_series.specs.Shown.{exp_of}
use Rattle.trunc_series.specs.Capped.{IsMajorantOf}
use Rattle.bend_finder.specs.Powers.{power_majorant}
use Rattle.bend_finder.specs.Kept.{IsMajorantAt, key_point}
use Rattle.bend_finder.proofs.PowerMajorants.{lower-majorant}
use Rattle.bend_finder.proofs.KeptEntries.{put-has, part-has, unchanged-part}
use Rattle.bend_finder.proofs.kept.KeptPowers.majorant.Goals as goal

pub returns-clause-power : goal.returns-clause-power
returns-clause-power c = λ ls s kept.
    let n = c.args.most in
    let q = point_of c.args.q.now in
    let k = c.key_at-key.result in
    let m = c.in_ok-power.power in
    let l = c.in_ok-low.low in
    let taken = c.in_ok-power.ensures.power ls s in
    let low : IsMajorantOf l n (power_majorant n ls (key_point k) k.times) = lower-majorant n m l ls (key_point k) k.times taken.0 (taken.1 kept.majorants) c.in_ok-low.ensures.order c.in_ok-low.ensures.terms in
    subst (λ (p : Point). IsMajorantOf l n (power_majorant n ls p (across (live_on ls q) (exp_of c.args.x)))) c.key_at-key.ensures.point
    (subst (λ (i : ℕ). IsMajorantOf l n (power_majorant n ls (key_point k) i)) (c.key_at-key.ensures.times ∙ c.across.ensures.value ∙ ap (λ us. across us (exp_of c.args.x)) s) low)

pub returns-in_err-low-clause-kept : goal.returns-in_err-low-clause-kept
returns-in_err-low-clause-kept c = λ ls s kept. record {
  majorants = part-has c.args.self.now.majorants c.take_majorant.new.kept (IsMajorantAt ls) c.in_ok-power.ensures.part kept.majorants;
  series = kept.series;
}

pub returns-in_err-insert-clause-kept : goal.returns-in_err-insert-clause-kept
returns-in_err-insert-clause-kept c = λ ls s kept.
    let P = IsMajorantAt ls in
    let was = c.args.self.now.majorants in
    let rest = c.take_majorant.new.kept in
    record {
      majorants = part-has rest c.insert.new.self P (unchanged-part rest c.insert.new.self c.in_err-insert.ensures.err) (part-has was rest P c.in_ok-power.ensures.part kept.majorants);
      series = kept.series;
    }

pub returns-clause-kept : goal.returns-clause-kept
returns-clause-kept c = λ ls s kept.
    let P = IsMajorantAt ls in
    let was = c.args.self.now.majorants in
    let rest = c.take_majorant.new.kept in
    record {
      majorants = put-has rest c.insert.new.self c.key_at-key.result P c.in_ok-power.power c.in_ok-insert.ensures.updates ((c.in_ok-power.ensures.power ls s).1 kept.majorants) (part-has was rest P c.in_ok-power.ensures.part kept.majorants);
      series = kept.series;
    }
