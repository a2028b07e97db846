use Rattle.std.proofs.Common.{ap, ◌∙◌, take, get_or, []}
use Rattle.std.proofs.lemmas.Result.{err_from_is_err_and}
use Rattle.trunc_series.specs.Shown.{exp_of}
use Rattle.joint_finder.proofs.Lists.{In-get, In-take}
use Rattle.broken_lines.specs.Growth.{IsShifted}
use Rattle.broken_lines.proofs.Growths.{gains-none, shifted-more, too-many-later, own-place}
use Rattle.broken_lines.proofs.growth.Growth.add_shifted.Goals as goal

pub loop-x-init : goal.loop-x-init
loop-x-init c = gains-none (IsShifted c.args.step []) c.args.self.now (λ x r. r.1)

pub returns-in_err-add-clause-fault : goal.returns-in_err-add-clause-fault
returns-in_err-add-clause-fault c =
    let p = err_from_is_err_and c.from_residual.result c.from_residual.ensures.1 in
    let xs = c.args.from.now in
    let i = c.loop-x.x-index in
    let lt = c.loop-x-test.true in
    rw (p.1, p.2)
    (too-many-later (IsShifted c.args.step (take i xs)) _ (IsShifted c.args.step xs) c.args.self.now c.loop-x.self _
    (λ z r. (r.0, In-take xs i r.0 r.1, r.2)) (λ z q. (get_or xs i _, In-get xs i (get_or xs i _) lt (own-place xs i _ lt), ap exp_of q ∙ c.sum.ensures)) c.loop-x.invariant c.in_err-add.ensures.fault)

pub loop-x-preserved : goal.loop-x-preserved
loop-x-preserved c = shifted-more c.args.step _ c.args.from.now c.loop-x.x-index c.sum.result c.args.self.now c.loop-x.self c.add.new.self c.loop-x-test.true (own-place c.args.from.now c.loop-x.x-index _ c.loop-x-test.true) c.sum.ensures c.loop-x.invariant c.in_ok-add.ensures.gains

pub sum-requires-clause-second : goal.sum-requires-clause-second
sum-requires-clause-second c = c.requires.from c.loop-x.x-index _ c.loop-x-test.true
