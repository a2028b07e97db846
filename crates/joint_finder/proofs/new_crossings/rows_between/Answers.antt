use Rattle.std.proofs.lemmas.Result.{IfOk-weaker, IfErr-weaker}
use Rattle.std.proofs.Common.{[]}
use Rattle.joint_finder.specs.Crossings.{Adds, StopsFar}
use Rattle.joint_finder.specs.Strands.{MeetsPairs, joined}
use Rattle.joint_finder.proofs.FacingStrands.{facing-turned, pairs-turned}
use Rattle.joint_finder.proofs.Meetings.{adds-same, stops-with}
use Rattle.joint_finder.proofs.new_crossings.rows_between.Goals as goal

pub rows-requires-clause-facing : goal.rows-requires-clause-facing
rows-requires-clause-facing g c κs o = facing-turned c.args.order c.args.ss.now c.args.ts.now c.requires.facing

pub returns-then-ss-ts-clause-points : goal.returns-then-ss-ts-clause-points
returns-then-ss-ts-clause-points g c =
    let n = c.args.order in
    let ss = c.args.ss.now in
    let ts = c.args.ts.now in
    IfOk-weaker c.rows.result (λ r. Adds (MeetsPairs n ts ss) [] (joined r.items)) (λ r. Adds (MeetsPairs n ss ts) [] (joined r.items))
    (λ r h. adds-same (MeetsPairs n ts ss) (MeetsPairs n ss ts) [] (joined r.items) (λ p x. pairs-turned n ts ss p x) (λ p x. pairs-turned n ss ts p x) h) c.rows.ensures.points

pub returns-then-ss-ts-clause-far : goal.returns-then-ss-ts-clause-far
returns-then-ss-ts-clause-far g c =
    let n = c.args.order in
    let ss = c.args.ss.now in
    let ts = c.args.ts.now in
    IfErr-weaker c.rows.result (StopsFar n (MeetsPairs n ts ss)) (StopsFar n (MeetsPairs n ss ts)) (λ e h. stops-with n (MeetsPairs n ts ss) (MeetsPairs n ss ts) e (λ p i x. pairs-turned n ts ss p x) h) c.rows.ensures.far
