use Rattle.std.specs.Prelude.{Result, Ok, Err, OnOk, IfErr}
use Rattle.std.proofs.lemmas.Result.{err_from_is_err_and}
use Rattle.scattering.specs.Wall.{walls}
use Rattle.broken_lines.specs.Growth.{IsTermOfSome}
use Rattle.broken_lines.proofs.Growths.{too-many-with, joined-old, both-more, both-steps, both-fault}
use Rattle.broken_lines.specs.declared.fault.AskFault.{AskFault}
use Rattle.broken_lines.proofs.growth.Growth.add_walls.Goals as goal

ok-implies : {P Q : Type 0} (r : Result (Unit {0}) AskFault) → (P → Q) → OnOk r P → OnOk r Q
ok-implies (Ok x) f h = f h
ok-implies (Err q) f h = h

err-implies : {P Q : AskFault → Type 0} (r : Result (Unit {0}) AskFault) → ((q : AskFault) → P q → Q q) → IfErr r P → IfErr r Q
err-implies (Ok x) f h = h
err-implies (Err q) f h = f q h

pub returns-in_err-add_lines-clause-fault : goal.returns-in_err-add_lines-clause-fault
returns-in_err-add_lines-clause-fault c =
    let p = err_from_is_err_and c.from_residual.result c.from_residual.ensures.1 in
    let e = c.args.e.now.diagram in
    let n = c.args.self.now.degree in
    rw (p.1, p.2) (too-many-with (IsTermOfSome n e.initial) (IsTermOfSome n (walls e)) c.args.self.now _ (λ z r. joined-old n e.initial e.rays z r) c.in_err-add_lines.ensures.fault)

pub returns-clause-gains : goal.returns-clause-gains
returns-clause-gains c =
    let e = c.args.e.now.diagram in
    ok-implies c.add_rays.result (λ h. both-more e.initial e.rays c.args.self.now c.add_lines.new.self c.add_rays.new.self c.in_ok-add_lines.ensures.gains h) c.add_rays.ensures.gains

pub returns-clause-steps : goal.returns-clause-steps
returns-clause-steps c =
    let e = c.args.e.now.diagram in
    ok-implies c.add_rays.result (λ h. both-steps e.initial e.rays c.args.self.now c.add_lines.new.self c.add_rays.new.self c.args.steps.now.items c.add_lines.new.steps.items c.add_rays.new.steps.items c.in_ok-add_lines.ensures.gains.degree c.in_ok-add_lines.ensures.steps h) c.add_rays.ensures.steps

pub returns-clause-fault : goal.returns-clause-fault
returns-clause-fault c =
    let e = c.args.e.now.diagram in
    err-implies c.add_rays.result (λ q h. both-fault e.initial e.rays c.args.self.now c.add_lines.new.self q c.in_ok-add_lines.ensures.gains h) c.add_rays.ensures.fault
