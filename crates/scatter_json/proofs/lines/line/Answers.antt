use Rattle.std.proofs.Common.{rules, FitsSigned, ◌≡◌, []}
use Rattle.std.specs.Int.{w64}
use Rattle.std.proofs.lemmas.Int.{to_z-of_z}
use Rattle.serde_json.specs.View.{view}
use Rattle.scatter_json.proofs.OneReading.{none-at, none-along, none-with, valid-line}
use Rattle.scatter_json.proofs.lines.line.Goals as goal

pub returns-in_default : goal.returns-in_default
returns-in_default c = λ l k. c.in_default.ensures k.says.at k.says.dir k.says.terms k.says.members

pub returns-in_default-point : goal.returns-in_default-point
returns-in_default-point c = none-at c.args.vars (view c.args.value.now) _ _ _ c.in-Some.ensures c.in_default-point.ensures

pub returns-in_default-direction : goal.returns-in_default-direction
returns-in_default-direction c = none-along c.args.vars (view c.args.value.now) _ _ _ c.in-Some.ensures c.in_default-direction.ensures

pub returns-in-Some-2 : goal.returns-in-Some-2
returns-in-Some-2 c =
    let dx : FitsSigned w64 c.in-Some-direction.dx = search rules in
    let dy : FitsSigned w64 c.in-Some-direction.dy = search rules in
    let is : c.new-line.result.row ≡ record { dx = c.in-Some-direction.dx; dy = c.in-Some-direction.dy; x = c.in-Some-point.x; y = c.in-Some-point.y; terms = [] } = simp to_z-of_z at c.new-line.ensures in
    valid-line c.args.vars (view c.args.value.now) _ _ _ c.in-Some-items.terms.now c.in-Some-direction.dx c.in-Some-direction.dy c.in-Some-point.x c.in-Some-point.y c.new-line.result.row c.in-Some-2.line.row
    c.in-Some.ensures c.in-Some-items.ensures c.in-Some-point.ensures c.in-Some-direction.ensures is (rw c.in-Some-2.is at c.in_ok-line.ensures)

pub returns-in-None : goal.returns-in-None
returns-in-None c = none-with c.args.vars (view c.args.value.now) _ _ _ c.in-Some-items.terms.now c.in-Some.ensures c.in-Some-items.ensures (rw c.in-None.is at c.in_ok-line.ensures)
