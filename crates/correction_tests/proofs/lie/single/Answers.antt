use Rattle.std.proofs.Common.{◌∙◌, ap, sym}
use Rattle.std.specs.Prelude.{pos, ◌*ℤ◌}
use Rattle.std.specs.Int.{w128}
use Rattle.std.proofs.lemmas.Int.{to_z-of_z}
use Rattle.std.proofs.lemmas.Result.{IfOk-weaker}
use Rattle.trunc_series.specs.Shown.{key_of}
use Rattle.vertex_lie.specs.Shown.{ratio_of}
use Rattle.vertex_lie.proofs.AddedTerms.{fraction-ratio}
use Rattle.vertex_lie.proofs.Divided.{zero-left}
use Rattle.vertex_lie.proofs.UniqueElement.{single-is}
use Rattle.correction_tests.proofs.lie.single.Goals as goal

pub returns : goal.returns
returns c =
    IfOk-weaker c.from_terms.result _ _ (λ h e.
    rw (single-is h (key_of c.args.key, ratio_of c.new.result) e c.requires.moves
    (λ z. c.requires.nonzero (zero-left (pos 1) c.args.c c.new.result.den c.new.result.lowest.positive (ap (λ x. x *ℤ pos 1) (sym z) ∙ (rw (to_z-of_z w128 c.args.c c.ranges.c) at c.new.ensures))))
    (fraction-ratio c.new.result)) (c.requires.near, tt)) c.from_terms.ensures
