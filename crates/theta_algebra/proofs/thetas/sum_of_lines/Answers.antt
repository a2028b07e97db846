use Rattle.std.proofs.Common.{ℕ, ◌≤◌, sym, subst}
use Rattle.limits.specs.Limits.{highest_order}
use Rattle.trunc_series.specs.Shown.{exp_of, sum_of, IsValid}
use Rattle.theta_algebra.specs.LineValues.{traced_sum}
use Rattle.theta_algebra.proofs.TracedSums.{all-light, made-sum, series-of}
use Rattle.theta_algebra.proofs.thetas.sum_of_lines.Goals as goal

pub sum_of_values-requires : goal.sum_of_values-requires
sum_of_values-requires c =
    let t = c.args.tracer.now in
    let l = c.limit-limit.ensures in
    let low = subst (λ (n : ℕ). n ≤ highest_order) l.value l.bound in
    record { tails = all-light t.walls t.limit l.proper.0 (exp_of c.args.m) c.args.tails.now low l.tame l.proper.1 c.requires.asked c.requires.tails }

pub from_sorted-requires : goal.from_sorted-requires
from_sorted-requires c =
    let t = c.args.tracer.now in
    let l = c.limit-limit.ensures in
    let low = subst (λ (n : ℕ). n ≤ highest_order) l.value l.bound in
    let v = made-sum t.walls t.limit l.proper.0 (exp_of c.args.m) c.args.tails.now c.in_ok-sum.sum (sum_of c.in_ok-terms.terms.items) low l.proper.1 c.requires.tails c.in_ok-sum.ensures.sum c.in_ok-terms.ensures in
    subst (λ (n : ℕ). IsValid n (sum_of c.in_ok-terms.terms.items)) (sym l.value) v.0

pub returns-clause-sum : goal.returns-clause-sum
returns-clause-sum c =
    let t = c.args.tracer.now in
    let l = c.limit-limit.ensures in
    let low = subst (λ (n : ℕ). n ≤ highest_order) l.value l.bound in
    let v = made-sum t.walls t.limit l.proper.0 (exp_of c.args.m) c.args.tails.now c.in_ok-sum.sum (sum_of c.in_ok-terms.terms.items) low l.proper.1 c.requires.tails c.in_ok-sum.ensures.sum c.in_ok-terms.ensures in
    series-of c.from_sorted.result c.limit-limit.result t.limit (sum_of c.in_ok-terms.terms.items) (traced_sum t.walls t.limit (exp_of c.args.m) c.args.tails.now) c.from_sorted.ensures.order l.value c.from_sorted.ensures.terms v
