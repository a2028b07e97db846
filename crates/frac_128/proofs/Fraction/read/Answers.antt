use Rattle.std.proofs.Common.{sym, ◌∙◌, subst}
use Rattle.std.specs.Str.{IsUtf8}
use Rattle.frac_128.proofs.Decimal.{utf8-fraction, by_form, whole-text, pair-text}
use Rattle.frac_128.proofs.Reading.{nothing, whole-lowest, not-utf8, same-bytes, no-pair, pair-read}
use Rattle.frac_128.proofs.Fraction.read.Goals as goal

pub returns-in_err-text : goal.returns-in_err-text
returns-in_err-text c =
    nothing _ _ _ c.from_residual.ensures (λ num den l f g e. not-utf8 c.args.text.now c.from_utf8.result _ c.in_err-text.ensures.value c.from_utf8.ensures.cases (subst IsUtf8 (sym e) (utf8-fraction num den f g)))

pub returns-in_err-num-in-None : goal.returns-in_err-num-in-None
returns-in_err-num-in-None c =
    let s = same-bytes c.args.text.now c.in_ok-text.text c.from_utf8.result _ c.in_ok-text.ensures.value c.from_utf8.ensures.cases in
    nothing _ _ _ c.from_residual-in_err-num-in-None.ensures (λ num den l f g e.
    by_form ⊥ den l.positive (λ o. c.in_err-num-in-None.ensures num f (s ∙ e ∙ whole-text num den o))
    (λ o. no-pair c.in_ok-text.text.now c.split_once.result c.split_once.ensures.cases c.in-None.is num den f (s ∙ e ∙ pair-text num den o)))

pub invariant_of-result : goal.invariant_of-result
invariant_of-result c = record { lowest = whole-lowest _ }

pub returns-in-Some : goal.returns-in-Some
returns-in-Some c =
    let s = same-bytes c.args.text.now c.in_ok-text.text c.from_utf8.result _ c.in_ok-text.ensures.value c.from_utf8.ensures.cases in
    pair-read c.in_ok-text.text.now c.split_once.result c.split_once.ensures.cases c.in-Some.num c.in-Some.den c.in-Some.is c.args.text.now s c.read_pair.result c.read_pair.ensures
