use Rattle.std.proofs.Common.{rules, ap, ◌∙◌, ◌≡◌}
use Rattle.std.specs.Ordering.{is_lt}
use Rattle.std.proofs.lemmas.List.Sorted.{answers_always}
use Rattle.plane_geom.specs.Shown.{turn_order}
use Rattle.scattering.specs.LocalProduct.{along}
use Rattle.local_product.specs.Shown.{half_of, half_before}
use Rattle.local_product.proofs.Sides.{halves-ordered, halves-in_order, less-is}
use Rattle.local_product.proofs.half_walls.arrange.Goals as goal

pub returns : goal.returns
returns c =
    let s = c.in_ok-sort_by.ensures in
    halves-in_order c.args.halves.now.items c.sort_by.new.self.items
    (s.sorted half_before halves-ordered (answers_always _ _ _ (λ f a r g h. let e : r ≡ turn_order (along (half_of a.0.now)) (along (half_of a.1.0.now)) = search rules in ap is_lt e ∙ less-is (along (half_of a.0.now)) (along (half_of a.1.0.now)))))
    (s.stable half_before halves-ordered (answers_always _ _ _ (λ f a r g h. let e : r ≡ turn_order (along (half_of a.0.now)) (along (half_of a.1.0.now)) = search rules in ap is_lt e ∙ less-is (along (half_of a.0.now)) (along (half_of a.1.0.now)))))
