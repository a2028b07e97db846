-- A space and the spelling are appended.
use Rattle.std.proofs.Common.{◌∙◌, ap, ◌++◌, [], ◌∷◌, List, ℕ, append_assoc}
use Rattle.std.specs.Prelude.{string_bytes}
use mir.Syntax.{w64}
use Rattle.std.proofs.lemmas.Int.{to_z-of_z}
use Rattle.std.proofs.lemmas.Result.{on_ok_weaker}
use Rattle.scatter_text.specs.Grammar.{coordinate_text}
use Rattle.scatter_text.proofs.Fractions.{ratio-along}
use Rattle.scatter_text.proofs.TokenLines.{ends}
use Rattle.scatter_text.proofs.printing.push_coordinate.Goals as goal

pub returns : goal.returns
returns c =
    let spelled = c.in_ok-spelled.ensures in
    let x = to_z-of_z w64 c.args.x c.ranges.x in
    let w = to_z-of_z w64 c.args.w c.ranges.w in
    on_ok_weaker c.push_str-2.result (λ e. (spelled.0, ratio-along _ c.args.x _ c.args.w spelled.0 x w spelled.1, e))
    (ends _ (string_bytes c.push_str.new.self) _ _ _ c.push_str-2.ensures.bytes
    (ap (λ (t : List ℕ). string_bytes c.push_str.new.self ++ t) (c.as_str.ensures.value ∙ spelled.2) ∙ ap (λ (t : List ℕ). t ++ coordinate_text spelled.0) c.in_ok-push_str.ensures.bytes ∙ append_assoc (string_bytes c.args.text.now) (32 ∷ []) _))
