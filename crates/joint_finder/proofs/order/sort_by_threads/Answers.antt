use Rattle.std.proofs.Common.{◌≡◌, sym, subst, rules, is_lt, length, drop, take_at, arith}
use Rattle.std.specs.List.Sorted.{IsSorted}
use Rattle.std.proofs.lemmas.List.Sorted.{ranks_by, answers_always}
use Rattle.plane_geom.proofs.Ordered.{points-ordered}
use Rattle.plane_geom.specs.Shown.{position_order}
use Rattle.joint_finder.proofs.order.sort_by_threads.Goals as goal

pub returns-clause-sorted : goal.returns-clause-sorted
returns-clause-sorted g c =
    let s = c.par_sort_unstable_by.new.s in
    let same = c.par_sort_unstable_by.ensures.len in
    let long = c.as_mut_slice.ensures.len in
    let whole : length s ≡ c.args.points.now.len = omega (arith, same, long) in
    subst (IsSorted position_order) (sym (take_at s (drop (length s) c.args.points.now.items) c.args.points.now.len whole))
    (c.par_sort_unstable_by.ensures.sorted (λ p q. is_lt (position_order p q)) (ranks_by points-ordered (λ p. p)) (answers_always _ _ _ (λ f a r g k. search rules)))
