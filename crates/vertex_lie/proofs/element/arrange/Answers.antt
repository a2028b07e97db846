use Rattle.std.proofs.Common.{rules, ap, ◌∙◌, ◌≡◌, arith}
use Rattle.std.specs.Prelude.{not}
use Rattle.std.specs.Ordering.{is_lt, is_le}
use Rattle.std.proofs.lemmas.List.Sorted.{answers_always}
use Rattle.trunc_series.specs.Shown.{key_of}
use Rattle.trunc_series.specs.Reduced.{key_order}
use Rattle.vertex_lie.proofs.Arranged.{item_before, items-ordered, less-is, not-greater, found-arranged, sorted-arranged}
use Rattle.vertex_lie.proofs.element.arrange.Goals as goal

pub returns-then-is_sorted_by : goal.returns-then-is_sorted_by
returns-then-is_sorted_by c =
    found-arranged c.deref.result.now c.args.terms.now.items c.is_sorted_by.result c.deref.ensures.value
    (c.is_sorted_by.ensures.cases (λ t u. not (item_before u t)) (answers_always _ _ _ (λ f a r g h. let e : r ≡ is_le (key_order (key_of a.0.now.0) (key_of a.1.0.now.0)) = search rules in e ∙ not-greater (key_of a.0.now.0) (key_of a.1.0.now.0)))) c.if-is_sorted_by.true

pub returns : goal.returns
returns c =
    let s = c.in_ok-sort_by.ensures in
    sorted-arranged _ _
    (λ k d. s.sorted item_before items-ordered (answers_always _ _ _ (λ f a r g h. let e : r ≡ key_order (key_of a.0.now.0) (key_of a.1.0.now.0) = search rules in ap is_lt e ∙ less-is (key_of a.0.now.0) (key_of a.1.0.now.0))) k d (omega arith))
    (s.stable item_before items-ordered (answers_always _ _ _ (λ f a r g h. let e : r ≡ key_order (key_of a.0.now.0) (key_of a.1.0.now.0) = search rules in ap is_lt e ∙ less-is (key_of a.0.now.0) (key_of a.1.0.now.0))))
