use Rattle.std.proofs.Common.{refl, sym, subst, ◌-◌, ◌+◌, List, take, drop, length}
use Rattle.trunc_series.specs.Shown.{exp_of, Seen}
use Rattle.trunc_series.specs.declared.key.Exp.{Exp as CodeExp}
use Rattle.trunc_series.proofs.Terms.{at}
use Rattle.theta_algebra.proofs.FamilyParts.{ArePartsTo}
use Rattle.theta_algebra.proofs.FamilyRuns.{whole-rest, some-rest, rest-fits, piece-series, piece-small, run-more}
use Rattle.theta_algebra.proofs.family.parts.Goals as goal

pub part-requires-clause-series : goal.part-requires-clause-series
part-requires-clause-series c =
    let ts = c.args.family.now in
    let i = c.loop-start.start in
    piece-series ts (take (length ts - i) (drop i ts)) i c.run_of-count.result (whole-rest ts i) c.args.limit c.requires.series

pub part-requires-clause-small : goal.part-requires-clause-small
part-requires-clause-small c =
    let ts = c.args.family.now in
    let i = c.loop-start.start in
    piece-small ts (take (length ts - i) (drop i ts)) i c.run_of-count.result (whole-rest ts i) c.requires.small

pub part-requires-clause-same : goal.part-requires-clause-same
part-requires-clause-same c =
    let ts = c.args.family.now in
    let i = c.loop-start.start in
    (exp_of (at (take (length ts - i) (drop i ts)) 0).0.exp, c.run_of-count.ensures.own)

pub loop-start-preserved : goal.loop-start-preserved
loop-start-preserved c =
    let ts = c.args.family.now in
    let i = c.loop-start.start in
    let rest = take (length ts - i) (drop i ts) in
    let r = (at rest 0).0.exp in
    let n = c.run_of-count.result in (
      subst (λ (ps : List (CodeExp × Seen)). ArePartsTo c.args.limit ts (i + n) ps) (sym {A = List (CodeExp × Seen)} c.in_ok-push.ensures.items)
          (run-more c.args.limit ts i c.loop-start.out.items rest r n c.in_ok-part.field-0 c.requires.series c.loop-start.invariant.0
          (whole-rest ts i) (some-rest ts rest i (whole-rest ts i) c.loop-start-test.true) refl c.run_of-count.ensures c.in_ok-part.ensures),
      rest-fits ts rest i n (whole-rest ts i) c.loop-start.invariant.1 c.run_of-count.ensures.bound,
    )
