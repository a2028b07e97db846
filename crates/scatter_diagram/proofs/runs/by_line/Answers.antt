use Rattle.std.proofs.Common.{rules, ap, ◌∙◌, ◌≡◌}
use Rattle.std.specs.Ordering.{is_lt}
use Rattle.std.proofs.lemmas.List.Sorted.{answers_always}
use Rattle.scattering.specs.Collections.{in_order}
use Rattle.scattering.specs.SupportingLine.{supporting_line}
use Rattle.crossing_theory.proofs.StableSorting.{stable-in_order}
use Rattle.scatter_diagram.specs.Shown.{wall_of}
use Rattle.scatter_diagram.specs.Ordered.{placed_before, line_order}
use Rattle.scatter_diagram.proofs.Lines.{placed-ordered, less-is}
use Rattle.scatter_diagram.proofs.runs.by_line.Goals as goal

pub returns : goal.returns
returns c =
    let s = c.in_ok-sort_by.ensures in
    stable-in_order placed_before placed-ordered c.in_ok-placed.placed.items c.sort_by.new.self.items
    (s.sorted placed_before placed-ordered (answers_always _ _ _ (λ f a r g h. let e : r ≡ line_order (supporting_line (wall_of a.0.now.1)) (supporting_line (wall_of a.1.0.now.1)) = search rules in ap is_lt e ∙ less-is (supporting_line (wall_of a.0.now.1)) (supporting_line (wall_of a.1.0.now.1)))))
    (s.stable placed_before placed-ordered (answers_always _ _ _ (λ f a r g h. let e : r ≡ line_order (supporting_line (wall_of a.0.now.1)) (supporting_line (wall_of a.1.0.now.1)) = search rules in ap is_lt e ∙ less-is (supporting_line (wall_of a.0.now.1)) (supporting_line (wall_of a.1.0.now.1)))))
    ∙ ap (in_order placed_before) c.in_ok-placed.ensures
