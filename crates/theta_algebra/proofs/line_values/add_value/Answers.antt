use Rattle.std.proofs.Common.{sym, subst, ◌∙◌, ◌++◌}
use Rattle.std.specs.Prelude.{OnOk}
use Rattle.scattering.specs.Series.{Sum}
use Rattle.trunc_series.specs.Shown.{exp_of, term_of}
use Rattle.trunc_series.specs.Sums.{StandsFor}
use Rattle.trunc_series.specs.declared.arithmetic.Arithmetic.TheVariants.{Wrapping}
use Rattle.trunc_series.proofs.TermLists.{stands-itself}
use Rattle.broken_lines.specs.Traced.{seen_tail, plain}
use Rattle.theta_algebra.proofs.TracedSums.{is-incomplete, is-whole, sum-none, sum-term}
use Rattle.theta_algebra.proofs.line_values.add_value.Goals as goal

pub returns-then-ne-clause-added : goal.returns-then-ne-clause-added
returns-then-ne-clause-added c =
    let f = c.args.tracer.now in
    let t = seen_tail c.args.tail.now in
    let e = is-incomplete t (exp_of c.args.m) c.requires.tail.told (sym c.ne.ensures ∙ c.if-ne.true) in
    subst (λ (g : Sum). StandsFor Wrapping c.args.sum.now (g ++ c.args.sum.now)) (sym (sum-none f.walls f.limit (exp_of c.args.m) (plain t) e)) (stands-itself Wrapping c.args.sum.now c.requires.terms)

pub returns-clause-added : goal.returns-clause-added
returns-clause-added c =
    let f = c.args.tracer.now in
    let t = seen_tail c.args.tail.now in
    let e = is-whole t (exp_of c.args.m) c.requires.tail.told (sym c.ne.ensures ∙ c.if-ne.false) in
    subst (λ (g : Sum). OnOk c.add.result (StandsFor Wrapping c.add.new.self g))
    (sum-term f.walls f.limit (exp_of c.args.m) t (term_of c.in_ok-line.line) c.args.sum.now c.requires.tail e c.in_ok-line.ensures.value) c.add.ensures
