-- The pieces make up the heading.
use Rattle.std.proofs.Common.{rules, refl, [], ◌∷◌, ◌∙◌}
use Rattle.std.specs.Prelude.{string_bytes}
use Rattle.std.proofs.lemmas.Int.{to_z-of_z}
use Rattle.std.proofs.lemmas.Result.{on_ok_weaker}
use mir.Syntax.{w32, w64, w128}
use Rattle.plane_geom.specs.Shown.{vector_of}
use Rattle.scatter_text.specs.DiagramText.{heading_text}
use Rattle.scatter_text.proofs.Fractions.{ratio-along}
use Rattle.scatter_text.proofs.TokenLines.{heading_written, ends}
use Rattle.scatter_text.proofs.printing.push_heading.Goals as goal

pub returns : goal.returns
returns c =
    let d = vector_of c.args.dir.now in
    let x = c.in_ok-push_coordinate.ensures in
    let y = c.in_ok-push_coordinate-2.ensures in
    let w = to_z-of_z w64 c.args.at.now.w (search rules) in
    let lowest-x = ratio-along _ c.args.at.now.x _ c.args.at.now.w x.0 (to_z-of_z w64 c.args.at.now.x (search rules)) w x.1 in
    let lowest-y = ratio-along _ c.args.at.now.y _ c.args.at.now.w y.0 (to_z-of_z w64 c.args.at.now.y (search rules)) w y.1 in
    on_ok_weaker c.push_str-3.result (λ e. (heading_text c.args.word.now d x.0 y.0, (x.0, y.0, lowest-x, lowest-y, refl), e))
    (ends _ (string_bytes c.push_coordinate-2.new.text) _ (10 ∷ []) _ c.push_str-3.ensures.bytes
    (heading_written _ _ _ _ _ _ _ _ _ _ d x.0 y.0 (to_z-of_z w128 c.from.result (search rules) ∙ c.from.ensures ∙ to_z-of_z w32 c.args.dir.now.a (search rules)) (to_z-of_z w128 c.from-2.result (search rules) ∙ c.from-2.ensures ∙ to_z-of_z w32 c.args.dir.now.b (search rules))
    c.in_ok-push_str.ensures.bytes c.in_ok-push_signed.ensures c.in_ok-push_signed-2.ensures c.in_ok-push_str-2.ensures.bytes x.2 y.2))
