use Rattle.std.proofs.Common.{◌≡◌, rules, ap, ◌∙◌, is_lt}
use Rattle.std.proofs.lemmas.List.Sorted.{answers_always}
use Rattle.crossing_theory.proofs.StableSorting.{stable-in_order}
use Rattle.scatter_diagram.specs.Ordered.{exp_order}
use Rattle.ray_merge.specs.RayTerms.{dir_of, term_before}
use Rattle.ray_merge.proofs.Runs.{terms-ordered}
use Rattle.ray_merge.proofs.Sorting.{less-is}
use Rattle.ray_merge.proofs.ray_term.by_direction.Goals as goal

pub returns : goal.returns
returns c =
    let s = c.in_ok-sort_by.ensures in
    stable-in_order term_before terms-ordered c.args.terms.items c.sort_by.new.self.items
    (s.sorted term_before terms-ordered (answers_always _ _ _ (λ f a r g h. let e : r ≡ exp_order (dir_of a.0.now) (dir_of a.1.0.now) = search rules in ap is_lt e ∙ less-is (dir_of a.0.now) (dir_of a.1.0.now))))
    (s.stable term_before terms-ordered (answers_always _ _ _ (λ f a r g h. let e : r ≡ exp_order (dir_of a.0.now) (dir_of a.1.0.now) = search rules in ap is_lt e ∙ less-is (dir_of a.0.now) (dir_of a.1.0.now))))
