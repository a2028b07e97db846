use Rattle.std.proofs.Common.{◌∙◌, sym, rules, true, false}
use Rattle.trunc_series.specs.Shown.{key_of}
use Rattle.vertex_lie.proofs.AddedTerms.{tested, step-after, fits-after, step-onto, fits-onto, needs-onto}
use Rattle.vertex_lie.proofs.Faults.{unfit, fit, value-of, refused}
use Rattle.vertex_lie.specs.declared.fault.LieFault.TheVariants.{Range}
use Rattle.scattering.proofs.KeyOrder.{key_before-same}
use Rattle.vertex_lie.proofs.bracket.added.Goals as goal

pub returns-then-is_lt-clause-added : goal.returns-then-is_lt-clause-added
returns-then-is_lt-clause-added c =
    let b = tested (key_of c.args.sum.0) (key_of c.args.t.0) c.compare.result c.is_lt.result true c.compare.ensures c.is_lt.ensures c.if-is_lt.true in
    rw c.in_ok-push.ensures.items (step-after c.args.out.now.items c.args.sum c.args.t c.requires.rises b)

pub returns-then-is_lt-clause-range : goal.returns-then-is_lt-clause-range
returns-then-is_lt-clause-range c =
    let b = tested (key_of c.args.sum.0) (key_of c.args.t.0) c.compare.result c.is_lt.result true c.compare.ensures c.is_lt.ensures c.if-is_lt.true in
    fits-after c.args.out.now.items c.args.sum c.args.t c.requires.rises b (search rules) (search rules) (search rules)

pub returns-in_err-total-clause-range : goal.returns-in_err-total-clause-range
returns-in_err-total-clause-range c =
    let b = tested (key_of c.args.sum.0) (key_of c.args.t.0) c.compare.result c.is_lt.result false c.compare.ensures c.is_lt.ensures c.if-is_lt.false in
    let e = key_before-same (key_of c.args.sum.0) (key_of c.args.t.0) b c.requires.later in
    refused c.from_residual-in_err-total.result _ _ _ c.from_residual-in_err-total.ensures.1
    (λ q. unfit Range c.checked_add.result _ _ (sym c.ok_or.ensures.value ∙ c.in_err-total.was) c.checked_add.ensures.fits (needs-onto c.args.out.now.items c.args.sum c.args.t c.requires.rises e q))

pub returns-clause-added : goal.returns-clause-added
returns-clause-added c =
    let b = tested (key_of c.args.sum.0) (key_of c.args.t.0) c.compare.result c.is_lt.result false c.compare.ensures c.is_lt.ensures c.if-is_lt.false in
    let e = key_before-same (key_of c.args.sum.0) (key_of c.args.t.0) b c.requires.later in
    step-onto c.args.out.now.items c.args.sum c.args.t c.requires.rises e c.in_ok-total.total (value-of Range c.checked_add.result c.in_ok-total.total _ (sym c.ok_or.ensures.value ∙ c.in_ok-total.was) c.checked_add.ensures.sum)

pub returns-clause-key : goal.returns-clause-key
returns-clause-key c =
    let b = tested (key_of c.args.sum.0) (key_of c.args.t.0) c.compare.result c.is_lt.result false c.compare.ensures c.is_lt.ensures c.if-is_lt.false in
    key_before-same (key_of c.args.sum.0) (key_of c.args.t.0) b c.requires.later

pub returns-clause-range : goal.returns-clause-range
returns-clause-range c =
    let b = tested (key_of c.args.sum.0) (key_of c.args.t.0) c.compare.result c.is_lt.result false c.compare.ensures c.is_lt.ensures c.if-is_lt.false in
    let e = key_before-same (key_of c.args.sum.0) (key_of c.args.t.0) b c.requires.later in
    fits-onto c.args.out.now.items c.args.sum c.args.t c.requires.rises e (fit Range c.checked_add.result c.in_ok-total.total _ (sym c.ok_or.ensures.value ∙ c.in_ok-total.was) c.checked_add.ensures.fits)
