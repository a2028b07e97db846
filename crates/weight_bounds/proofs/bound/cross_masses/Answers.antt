use Rattle.std.proofs.Common.{◌≤◌, rules, arith}
use Rattle.weight_bounds.proofs.Crossed.{crossed-none, crossed-same, crossed-more, crossed-all}
use Rattle.weight_bounds.proofs.bound.cross_masses.Goals as goal
use Rattle.weight_bounds.proofs.bound.cross_masses.Goals.{then-c-ne0, else-c-ne0}

pub loop-i-init : goal.loop-i-init
loop-i-init c = record {
  length = search rules;
  bounds = λ d f v is h e l. rw c.least-i.ensures.value (crossed-none c.args.order d f c.args.table.now is c.args.reach.now v c.args.masses.now h e l);
}

pub loop-i-preserved : goal.loop-i-preserved
loop-i-preserved c =
    let low : c.args.table.now.least ≤ c.loop-i.i = omega (arith, c.least-i.ensures.value, c.loop-i.auto.i) in
    let high : c.loop-i.i ≤ c.args.order = omega arith in
    record {
      length = c.if-c-ne0.array_long;
      bounds = λ d f v is h e l.
          elim c.if-c-ne0.branch [
            | then-c-ne0 w ↦
                rw w.masses-is
                (crossed-more c.args.order d f c.args.table.now is c.args.reach.now v c.loop-i.i c.loop-i.masses low high
                (c.loop-i.invariant.bounds d f v is h) w.multipliers-row.result w.add_times.new.target w.multipliers-row.ensures.low
                (λ j p q. rw (← w.size.ensures.value) (w.multipliers-row.ensures.masses c.args.order d f j is p q)) (rw (← w.least.ensures.value) w.add_times.ensures) e l)
            | else-c-ne0 w ↦
                rw w.masses-is (crossed-same c.args.order d f c.args.table.now is c.args.reach.now v c.loop-i.i c.loop-i.masses low high (c.loop-i.invariant.bounds d f v is h) w.if-c-ne0.false e l)
          ];
    }

pub returns : goal.returns
returns c d f v is h = crossed-all c.args.order d f c.args.table.now is c.args.reach.now v c.loop-i.i c.loop-i.masses c.loop-i-test.false (c.loop-i.invariant.bounds d f v is h)
