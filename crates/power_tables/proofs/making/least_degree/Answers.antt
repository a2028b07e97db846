use Rattle.std.proofs.Common.{rules, ◌≡◌, ◌≤◌, arith}
use Rattle.scattering.specs.Series.{degree}
use Rattle.trunc_series.specs.Shown.{term_of}
use Rattle.trunc_series.proofs.Terms.{at, Every-at}
use Rattle.power_tables.proofs.Powers.{least-more}
use Rattle.power_tables.proofs.making.least_degree.Goals as goal

pub loop-i-preserved : goal.loop-i-preserved
loop-i-preserved c =
    let m = c.min-least.ensures in
    let v : c.degree.result ≡ degree (term_of (at c.args.terms.now c.loop-i.i)).0 = c.degree.ensures.value in
    let p = c.loop-i.invariant.positive in
    let w = c.loop-i.invariant.within in
    let q : 1 ≤ degree (term_of (at c.args.terms.now c.loop-i.i)).0 = Every-at (λ t. 1 ≤ degree t.0) c.args.terms.now c.loop-i.i (search rules) c.requires.positive in
    record {
      positive = omega (arith, m, v, p, q);
      within = omega (arith, m, v, w);
      least = least-more c.args.terms.now c.loop-i.i c.loop-i.least c.min-least.result (search rules) (omega (arith, m)) (omega (arith, m, v)) c.loop-i.invariant.least;
    }
