use Rattle.std.proofs.Common.{rules, ◌≡◌, ◌+◌, ◌++◌, ◌∷◌, [], List, get_or, take, sym, subst, ap, ◌∙◌}
use Rattle.std.specs.Prelude.{◌==◌}
use Rattle.std.proofs.lemmas.List.{take_more}
use Rattle.scattering.specs.Series.{degree}
use Rattle.scattering.specs.ThetaProduct.{of_degree}
use Rattle.trunc_series.specs.Shown.{sum_of}
use Rattle.trunc_series.specs.Reduced.{Terms}
use Rattle.trunc_series.proofs.Terms.{sum_of-where}
use Rattle.power_tables.specs.Made.{TermVec, AreLevels}
use Rattle.power_tables.proofs.Powers.{levels-push}
use Rattle.power_tables.proofs.making.levels_of.Goals as goal

pub loop-r-preserved : goal.loop-r-preserved
loop-r-preserved c =
    let e : sum_of c.in_ok-level.field-0.items ≡ of_degree c.args.degree (sum_of c.index-lists-r.result.items) =
    ap sum_of c.in_ok-level.ensures ∙ sum_of-where (λ t. degree t.0 == c.args.degree) c.as_slice.result.now ∙ ap (λ (ts : Terms). of_degree c.args.degree (sum_of ts)) c.as_slice.ensures.value in
    subst (λ (qs : List TermVec). AreLevels c.args.degree (take (c.loop-r.r + 1) c.args.lists.now) qs) (sym c.in_ok-push.ensures.items)
    (subst (λ (ps : List TermVec). AreLevels c.args.degree ps (c.loop-r.levels.items ++ c.in_ok-level.field-0 ∷ [])) (sym (take_more c.args.lists.now c.loop-r.r c.index-lists-r.result (search rules)))
    (levels-push c.args.degree (take c.loop-r.r c.args.lists.now) c.loop-r.levels.items (get_or c.args.lists.now c.loop-r.r c.index-lists-r.result) c.in_ok-level.field-0 c.loop-r.invariant
    (subst (λ (p : TermVec). sum_of c.in_ok-level.field-0.items ≡ of_degree c.args.degree (sum_of p.items)) c.index-lists-r.is e)))
