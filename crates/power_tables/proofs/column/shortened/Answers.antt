use Rattle.std.proofs.Common.{rules, ◌≡◌, ◌++◌, ◌∷◌, [], ◌<◌, ℤ, List, take, length, get_or, pos, to_z, of_z, FitsSigned, sym, ap, ◌∙◌}
use Rattle.std.proofs.lemmas.Int.{to_z-of_z}
use Rattle.std.proofs.lemmas.List.{take_more}
use mir.Syntax.{w64}
use Rattle.power_tables.proofs.column.shortened.Goals as goal

pub loop-i-preserved : goal.loop-i-preserved
loop-i-preserved c =
    let h : c.loop-i.i < length c.args.numbers.now = search rules in
    let e : c.in-Ok.x ≡ get_or c.args.numbers.now c.loop-i.i (pos 0) = search rules in
    let f : FitsSigned w64 c.in-Ok.x = search rules in
    c.in_ok-push.ensures.items ∙ ap (λ (ys : List ℤ). ys ++ to_z w64 (of_z w64 c.in-Ok.x) ∷ []) c.loop-i.invariant
    ∙ ap (λ (y : ℤ). take c.loop-i.i c.args.numbers.now ++ y ∷ []) (to_z-of_z w64 c.in-Ok.x f ∙ e)
    ∙ sym (take_more c.args.numbers.now c.loop-i.i (pos 0) h)
