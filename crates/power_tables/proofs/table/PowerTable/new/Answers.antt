use Rattle.std.proofs.Common.{◌≡◌, refl, ◌≤◌, subst}
use Rattle.scattering.specs.Collections.{Every}
use Rattle.scattering.specs.Series.{Sum, degree, rest}
use Rattle.trunc_series.specs.Shown.{sum_of}
use Rattle.power_tables.specs.Made.{code_others}
use Rattle.power_tables.proofs.MadeParts.{others-alike}
use Rattle.power_tables.proofs.Prepared.{others-of, positive}
use Rattle.power_tables.proofs.TableLaws.{table-sound, table-law, least-rest, least-others, near-grows}
use Rattle.power_tables.proofs.table.PowerTable.new.Goals as goal

pub least_degree-least-requires-clause-positive : goal.least_degree-least-requires-clause-positive
least_degree-least-requires-clause-positive c =
    rw (c.as_slice-u.ensures.value, c.in_ok-u.ensures, c.terms.ensures.terms)
    (others-of c.args.rule c.args.function.now.order c.requires.wall.0 c.args.function.now.terms c.terms.ensures.valid c.requires.wall.1 c.requires.near).positive

pub made_parts-requires-clause-others : goal.made_parts-requires-clause-others
made_parts-requires-clause-others c =
    rw (c.order.ensures.value, c.as_slice-u.ensures.value, c.in_ok-u.ensures, c.terms.ensures.terms)
    (others-of c.args.rule c.args.function.now.order c.requires.wall.0 c.args.function.now.terms c.terms.ensures.valid c.requires.wall.1 c.requires.near)

pub invariant_of-result : goal.invariant_of-result
invariant_of-result c =
    let e : sum_of c.as_slice-u.result.now ≡ code_others c.args.rule c.args.function.now.terms = rw (c.as_slice-u.ensures.value, c.in_ok-u.ensures, c.terms.ensures.terms) refl in
    table-sound c.args.rule c.args.function.now.terms c.args.order c.least_degree-least.result c.in_ok-parts.parts.items c.requires.order c.least_degree-least.ensures.positive c.least_degree-least.ensures.within c.in_ok-parts.ensures.count
    (c.in_ok-parts.ensures.parts c.args.function.now.terms (rw c.order.ensures.value c.terms.ensures.valid) e)

pub returns : goal.returns
returns c =
    let rule = c.args.rule in
    let f = c.args.function.now.terms in
    let e : sum_of c.as_slice-u.result.now ≡ code_others c.args.rule c.args.function.now.terms = rw (c.as_slice-u.ensures.value, c.in_ok-u.ensures, c.terms.ensures.terms) refl in
    let l : Every (λ t. c.least_degree-least.result ≤ degree t.0) (rest c.args.function.now.terms) =
    least-rest c.args.rule c.least_degree-least.result c.args.function.now.terms (subst (λ (u : Sum). Every (λ t. c.least_degree-least.result ≤ degree t.0) u) e c.least_degree-least.ensures.least) in
    let p = positive c.args.function.now.order c.requires.wall.0 c.args.function.now.terms c.terms.ensures.valid c.requires.wall.1 c.requires.near in
    table-law c.args.rule c.args.order c.args.function.now.order c.least_degree-least.result c.requires.wall.0 c.args.function.now.terms c.requires.wall.1 p
    (others-alike c.args.rule c.args.function.now.order c.args.function.now.terms c.terms.ensures.valid).right
    (near-grows c.args.function.now.terms c.requires.near p) c.requires.order c.least_degree-least.ensures.positive l (least-others c.args.rule c.least_degree-least.result c.args.function.now.terms l) c.in_ok-parts.parts.items
    (c.in_ok-parts.ensures.parts c.args.function.now.terms (rw c.order.ensures.value c.terms.ensures.valid) e) c.in_ok-parts.ensures.count
