use Rattle.std.proofs.Common.{◌≡◌, refl, subst, ◌∙◌, List, map, arith}
use Rattle.scattering.specs.Series.{coef, degree, pow}
use Rattle.scattering.specs.BrokenLine.{product, across}
use Rattle.scattering.specs.Wall.{Wall}
use Rattle.trunc_series.specs.Shown.{exp_of, key_of}
use Rattle.scatter_diagram.specs.Shown.{walls_of}
use Rattle.bend_finder.specs.KeptRuns.{run_key_cmp, IsNamedRun, IsSomeRun, AreKeptFor}
use Rattle.bend_finder.proofs.KeptMaps.{put-has, same-has}
use Rattle.bend_finder.proofs.KeptRuns.{exact-name, first-names, name-proper, kept-named}
use Rattle.bend_finder.proofs.Outcomes.{if-ok}
use Rattle.bend_finder.proofs.kept_runs.KeptRuns.coefficient.Goals as goal

pub returns-then-walls-eq0-clause-value : goal.returns-then-walls-eq0-clause-value
returns-then-walls-eq0-clause-value c =
    if-ok _ _ c.coefficient.result (λ v h ls s some all. h ls s (c.new.ensures ls)) c.coefficient.ensures.value

pub returns-in_err-insert-clause-kept : goal.returns-in_err-insert-clause-kept
returns-in_err-insert-clause-kept c = λ ls some all. same-has run_key_cmp (AreKeptFor ls) c.taken_powers-kept.new.runs c.insert.new.self c.in_err-insert.ensures.err (c.taken_powers-kept.ensures.rest ls all)

pub returns-clause-value : goal.returns-clause-value
returns-clause-value c =
    let g = walls_of c.args.walls.now in
    let k = c.run_key-name.result in
    let n = c.if-walls-eq0.false in
    let named : (ls : List Wall) → IsSomeRun ls g → IsNamedRun ls k g = λ ls some. first-names ls c.args.walls.now c.index-walls-0.result k (λ e. omega (arith, n, e)) c.index-walls-0.is c.run_key-name.ensures some in
    if-ok _ _ c.coefficient-value.result
    (λ v h ls s some all.
    let d = degree (key_of c.args.key.now) in
    subst (λ (us : List Wall). v ≡ coef (pow d (product d (map (λ w. w.function) us)) (across us (exp_of c.args.x))) (key_of c.args.key.now)) (c.place_on-place.ensures ∙ s) (h g refl (c.taken_powers-kept.ensures.powers ls g all (named ls some))))
    c.coefficient-value.ensures.value

pub returns-clause-kept : goal.returns-clause-kept
returns-clause-kept c = λ ls some all.
    let g = walls_of c.args.walls.now in
    let k = c.run_key-name.result in
    let n = c.if-walls-eq0.false in
    let named = first-names ls c.args.walls.now c.index-walls-0.result k (λ e. omega (arith, n, e)) c.index-walls-0.is c.run_key-name.ensures some in
    put-has run_key_cmp (AreKeptFor ls) c.taken_powers-kept.new.runs c.insert.new.self exact-name k c.coefficient-value.new.self c.in_ok-insert.ensures.updates
    (kept-named ls g k c.coefficient-value.new.self (name-proper c.index-walls-0.result k c.run_key-name.ensures) named (c.coefficient-value.ensures.kept g refl (c.taken_powers-kept.ensures.powers ls g all named)))
    (c.taken_powers-kept.ensures.rest ls all)
