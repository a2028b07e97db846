use Rattle.std.proofs.Common.{◌≡◌, sym, subst}
use Rattle.scattering.specs.Correction.{Lie}
use Rattle.vertex_lie.specs.Shown.{lie_of}
use Rattle.ray_merge.specs.Additions.{IsAddable, IsTameElement, IsLight}
use Rattle.order_tests.proofs.WorkedRows.{worked-distinct, worked-exponents, worked-nonzero, worked-addable, worked-tame, worked-light, worked-values, element-is}
use Rattle.order_tests.specs.Rows.{HasSmallValues}
use Rattle.order_tests.proofs.merges.correction.Goals as goal

pub from_terms-requires-clause-distinct : goal.from_terms-requires-clause-distinct
from_terms-requires-clause-distinct c = worked-distinct c.args.order (lie_of c.args.terms.now) c.requires.terms

pub from_terms-requires-clause-exponents : goal.from_terms-requires-clause-exponents
from_terms-requires-clause-exponents c = worked-exponents c.args.order (lie_of c.args.terms.now) c.requires.terms

pub from_terms-requires-clause-nonzero : goal.from_terms-requires-clause-nonzero
from_terms-requires-clause-nonzero c = worked-nonzero c.args.order (lie_of c.args.terms.now) c.requires.terms

pub returns-clause-addable : goal.returns-clause-addable
returns-clause-addable c =
    subst (IsAddable c.args.order) (sym (element-is c.args.order c.in_ok-from_terms.field-0 (lie_of c.args.terms.now) c.in_ok-from_terms.ensures c.requires.terms)) (worked-addable c.args.order (lie_of c.args.terms.now) c.requires.terms)

pub returns-clause-tame : goal.returns-clause-tame
returns-clause-tame c =
    subst (IsTameElement c.args.order) (sym (element-is c.args.order c.in_ok-from_terms.field-0 (lie_of c.args.terms.now) c.in_ok-from_terms.ensures c.requires.terms)) (worked-tame c.args.order (lie_of c.args.terms.now) c.requires.terms)

pub returns-clause-light : goal.returns-clause-light
returns-clause-light c =
    let light : (h : Lie) → h ≡ lie_of c.args.terms.now → IsLight h = λ h e. subst IsLight (sym e) (worked-light c.args.order (lie_of c.args.terms.now) c.requires.terms) in
    light c.in_ok-from_terms.field-0 (element-is c.args.order c.in_ok-from_terms.field-0 (lie_of c.args.terms.now) c.in_ok-from_terms.ensures c.requires.terms)

pub returns-clause-values : goal.returns-clause-values
returns-clause-values c =
    subst HasSmallValues (sym (element-is c.args.order c.in_ok-from_terms.field-0 (lie_of c.args.terms.now) c.in_ok-from_terms.ensures c.requires.terms)) (worked-values c.args.order (lie_of c.args.terms.now) c.requires.terms)
