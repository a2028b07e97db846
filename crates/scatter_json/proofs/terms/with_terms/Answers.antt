use Rattle.std.proofs.Common.{◌≡◌, List, [], ◌∷◌, ◌++◌, ◌+◌, take, refl, sym, subst}
use Rattle.scatter_json.specs.Parts.{AddsTerms}
use Rattle.scatter_json.proofs.LineTerms.{terms-begin, terms-next, terms-end, terms-none}
use Rattle.scatter_json.proofs.terms.with_terms.Goals as goal

pub loop-value-init : goal.loop-value-init
loop-value-init c = terms-begin c.args.vars c.args.line.row c.requires

pub returns-in-None : goal.returns-in-None
returns-in-None c = λ ts say. terms-none c.args.vars c.args.line.row c.loop-value.line.row c.args.values.now c.loop-value.value-index c.value-item.result ts c.loop-value-test.true c.value-item.is c.loop-value.invariant say (rw c.in-None.is at c.in_ok-more.ensures)

pub loop-value-preserved : goal.loop-value-preserved
loop-value-preserved c =
    terms-next c.args.vars c.args.line.row c.loop-value.line.row c.in-Some.more.row c.args.values.now c.loop-value.value-index c.value-item.result c.loop-value-test.true c.value-item.is c.loop-value.invariant (rw c.in-Some.is at c.in_ok-more.ensures)

pub returns : goal.returns
returns c = terms-end c.args.vars c.args.line.row c.loop-value.line.row c.args.values.now c.loop-value.value-index c.loop-value-test.false c.loop-value.invariant
