use Rattle.std.proofs.Common.{◌≡◌, ℕ, ◌+◌, sym, subst, ◌∙◌, true, List, length}
use Rattle.std.proofs.lemmas.Result.{err_from_is_err_and}
use Rattle.scattering.specs.Series.{Exp, degree}
use Rattle.trunc_series.specs.Shown.{exp_of, key_of}
use Rattle.bend_finder.specs.Ahead.{bend_of}
use Rattle.broken_lines.specs.Tracing.{SeenNode, seen_node, goes_on, is_within, IsPastMost}
use Rattle.broken_lines.proofs.Pushes.{one-child}
use Rattle.broken_lines.proofs.tracer.Tracing.push_child.Goals as goal

pub returns-in_err-push-clause-fault : goal.returns-in_err-push-clause-fault
returns-in_err-push-clause-fault c =
    let p = err_from_is_err_and c.from_residual-in_err-push.result c.from_residual-in_err-push.ensures.1 in
    let k = c.args.ask.now in
    let n = seen_node c.args.node.now in
    let used = c.args.node.now.tail.used in
    let e : is_within k (exp_of c.difference-left.result) (used + c.degree.result) ≡ true = sym c.is_within.ensures ∙ c.if-is_within.true in
    let within : goes_on k n (bend_of c.args.bend.now, c.args.weight) ≡ true =
    subst (λ (x : Exp). is_within k x (used + degree (key_of c.args.bend.now.key)) ≡ true) c.difference-left.ensures (subst (λ (d : ℕ). is_within k (exp_of c.difference-left.result) (used + d) ≡ true) c.degree.ensures.value e) in
    rw (p.1, p.2) (subst (λ (ns : List SeenNode). IsPastMost (c.args.self.now.found + length ns) c.in_err-push.field-0.0) (sym (one-child k n (bend_of c.args.bend.now, c.args.weight) within)) c.in_err-push.ensures.fault)
