use Rattle.std.proofs.Common.{◌≡◌, sym, subst, drop, length, arith, List}
use Rattle.std.specs.Prelude.{OnOk}
use Rattle.std.proofs.lemmas.Result.{on_ok_weaker}
use Rattle.scattering.specs.Series.{Sum}
use Rattle.trunc_series.specs.Shown.{sum_of}
use Rattle.wall_auto.specs.ByDegree.{TakesWithin, AreKept}
use Rattle.wall_auto.proofs.Outcomes.{written-back}
use Rattle.wall_auto.proofs.TakenTerms.{takes-kept}
use Rattle.wall_auto.proofs.by_degree.SumByDegree.start_with.Goals as goal

pub returns-clause-within : goal.returns-clause-within
returns-clause-within c =
    let o = c.begin_with.ensures.order in
    let n : c.self.inside.parts.len ≡ length c.begin_with.new.parts = omega (arith, o, c.self.inside.parts.ok.0) in
    subst (λ (ps : List Sum). OnOk c.begin_with.result (TakesWithin (sum_of c.args.terms.now) ps)) (sym (written-back c.begin_with.new.parts (drop (length c.begin_with.new.parts) c.self.inside.parts.items) c.self.inside.parts.len n)) c.begin_with.ensures.within

pub returns-clause-kept : goal.returns-clause-kept
returns-clause-kept c =
    let o = c.begin_with.ensures.order in
    let n : c.self.inside.parts.len ≡ length c.begin_with.new.parts = omega (arith, o, c.self.inside.parts.ok.0) in
    subst (λ (ps : List Sum). OnOk c.begin_with.result (AreKept c.args.rule ps)) (sym (written-back c.begin_with.new.parts (drop (length c.begin_with.new.parts) c.self.inside.parts.items) c.self.inside.parts.len n))
    (on_ok_weaker c.begin_with.result (takes-kept c.args.rule (sum_of c.args.terms.now) c.begin_with.new.parts) c.begin_with.ensures.parts)
