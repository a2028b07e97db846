use Rattle.std.proofs.Common.{refl, subst, ◌∙◌, List, map, arith}
use Rattle.scattering.specs.Series.{absolute, pow}
use Rattle.scattering.specs.BrokenLine.{product, across}
use Rattle.scattering.specs.Wall.{Wall}
use Rattle.trunc_series.specs.Shown.{exp_of}
use Rattle.trunc_series.specs.Capped.{IsMajorantOf}
use Rattle.scatter_diagram.specs.Shown.{walls_of}
use Rattle.bend_finder.specs.KeptRuns.{run_key_cmp, IsNamedRun, IsSomeRun, AreKeptFor}
use Rattle.bend_finder.proofs.KeptMaps.{put-has, same-has}
use Rattle.bend_finder.proofs.KeptRuns.{exact-name, first-names, name-proper, kept-named}
use Rattle.bend_finder.proofs.Outcomes.{if-ok}
use Rattle.bend_finder.proofs.kept_runs.KeptRuns.majorant.Goals as goal

pub returns-then-walls-eq0-clause-power : goal.returns-then-walls-eq0-clause-power
returns-then-walls-eq0-clause-power c =
    if-ok _ _ c.majorant.result (λ m h ls s some all. h ls s (c.new.ensures ls)) c.majorant.ensures.power

pub returns-in_err-insert-clause-kept : goal.returns-in_err-insert-clause-kept
returns-in_err-insert-clause-kept c = λ ls some all. same-has run_key_cmp (AreKeptFor ls) c.taken_powers-kept.new.runs c.insert.new.self c.in_err-insert.ensures.err (c.taken_powers-kept.ensures.rest ls all)

pub returns-clause-power : goal.returns-clause-power
returns-clause-power c =
    let g = walls_of c.args.walls.now in
    let k = c.run_key-key.result in
    let n = c.if-walls-eq0.false in
    let named : (ls : List Wall) → IsSomeRun ls g → IsNamedRun ls k g = λ ls some. first-names ls c.args.walls.now c.index-walls-0.result k (λ e. omega (arith, n, e)) c.index-walls-0.is c.run_key-key.ensures some in
    if-ok _ _ c.majorant-power.result
    (λ m h ls s some all.
    let b = c.args.most in
    subst (λ (us : List Wall). IsMajorantOf m b (pow b (product b (map (λ w. absolute w.function) us)) (across us (exp_of c.args.x)))) (c.place_on-place.ensures ∙ s) (h g refl (c.taken_powers-kept.ensures.powers ls g all (named ls some))))
    c.majorant-power.ensures.power

pub returns-clause-kept : goal.returns-clause-kept
returns-clause-kept c = λ ls some all.
    let g = walls_of c.args.walls.now in
    let k = c.run_key-key.result in
    let n = c.if-walls-eq0.false in
    let named = first-names ls c.args.walls.now c.index-walls-0.result k (λ e. omega (arith, n, e)) c.index-walls-0.is c.run_key-key.ensures some in
    put-has run_key_cmp (AreKeptFor ls) c.taken_powers-kept.new.runs c.insert.new.self exact-name k c.majorant-power.new.self c.in_ok-insert.ensures.updates
    (kept-named ls g k c.majorant-power.new.self (name-proper c.index-walls-0.result k c.run_key-key.ensures) named (c.majorant-power.ensures.kept g refl (c.taken_powers-kept.ensures.powers ls g all named)))
    (c.taken_powers-kept.ensures.rest ls all)
