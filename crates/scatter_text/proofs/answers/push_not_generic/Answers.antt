-- The word and the coordinates.
use Rattle.std.proofs.Common.{rules, refl, ◌++◌, ◌∷◌}
use Rattle.std.specs.Prelude.{codes}
use Rattle.std.proofs.lemmas.Int.{to_z-of_z}
use Rattle.std.proofs.lemmas.Result.{on_ok_weaker}
use mir.Syntax.{w64}
use Rattle.scatter_text.specs.Grammar.{coordinate_text}
use Rattle.scatter_text.proofs.Fractions.{ratio-along}
use Rattle.scatter_text.proofs.AnswerLines.{point_written}
use Rattle.scatter_text.proofs.answers.push_not_generic.Goals as goal

pub returns : goal.returns
returns c =
    let p = c.args.at.now in
    let x = c.in_ok-push_coordinate.ensures in
    let w = to_z-of_z w64 p.w (search rules) in
    let lowest-x = ratio-along _ p.x _ p.w x.0 (to_z-of_z w64 p.x (search rules)) w x.1 in
    on_ok_weaker c.push_coordinate-2.result
    (λ y. (
      codes "not-generic" ++ 32 ∷ coordinate_text x.0 ++ 32 ∷ coordinate_text y.0,
      (x.0, y.0, lowest-x, ratio-along _ p.y _ p.w y.0 (to_z-of_z w64 p.y (search rules)) w y.1, refl),
      point_written _ _ _ _ x.0 y.0 c.in_ok-push_str.ensures.bytes x.2 y.2,
    ))
    c.push_coordinate-2.ensures
