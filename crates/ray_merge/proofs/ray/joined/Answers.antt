use Rattle.std.proofs.Common.{◌≡◌, ℕ, ◌++◌, List, sym, subst, ap, ◌∙◌}
use Rattle.std.specs.Prelude.{ℤ, filter, not}
use Rattle.scattering.specs.Series.{Sum, key_eq, rest, unit}
use Rattle.trunc_series.specs.declared.arithmetic.Arithmetic.TheVariants.{Wrapping}
use Rattle.trunc_series.specs.declared.key.Key.{Key as CodeKey}
use Rattle.trunc_series.specs.Reduced.{IsKeptAs}
use Rattle.trunc_series.specs.Shown.{key_of, sum_of}
use Rattle.ray_merge.proofs.Walls.{others-rest, joined-made, joined-series, sorted-series, joined-proper, joined-wall}
use Rattle.ray_merge.proofs.ray.joined.Goals as goal

-- the others of the second ray, as they are passed
passed : (slice items ts : List (CodeKey × ℤ)) (g : Sum) → slice ≡ items → items ≡ filter (λ t. not (key_eq (key_of t.0) unit)) ts → sum_of ts ≡ g → sum_of slice ≡ rest g
passed slice items ts g e h p = ap sum_of (e ∙ h) ∙ others-rest ts ∙ ap rest p

-- the merge of the lists that are passed
merged-of : (a b : Sum) (f g : Sum) (r : Sum) → a ≡ f → b ≡ g → ((m : ℕ) (u v : Sum) → IsKeptAs Wrapping m a u → IsKeptAs Wrapping m b v → IsKeptAs Wrapping m r (u ++ v)) → (m : ℕ) (u v : Sum) → IsKeptAs Wrapping m f u → IsKeptAs Wrapping m g v → IsKeptAs Wrapping m r (u ++ v)
merged-of a b f g r e q h m u v x y = h m u v (subst (λ (s : Sum). IsKeptAs Wrapping m s u) (sym e) x) (subst (λ (s : Sum). IsKeptAs Wrapping m s v) (sym q) y)

pub from_sorted-function-requires : goal.from_sorted-function-requires
from_sorted-function-requires c = (joined-made c.args.r.now c.args.s.now c.args.order c.requires.left c.requires.right c.requires.dir c.requires.joinable (sum_of c.in_ok-terms.terms.items) c.requires.order c.terms-2.ensures.valid c.terms.ensures.valid
    (merged-of _ _ _ _ _ c.terms-2.ensures.terms (passed _ _ _ _ c.as_slice.ensures.value c.in_ok-more.ensures c.terms.ensures.terms) c.in_ok-terms.ensures)).0

pub invariant_of-result : goal.invariant_of-result
invariant_of-result c =
    let m = (joined-made c.args.r.now c.args.s.now c.args.order c.requires.left c.requires.right c.requires.dir c.requires.joinable (sum_of c.in_ok-terms.terms.items) c.requires.order c.terms-2.ensures.valid c.terms.ensures.valid
    (merged-of _ _ _ _ _ c.terms-2.ensures.terms (passed _ _ _ _ c.as_slice.ensures.value c.in_ok-more.ensures c.terms.ensures.terms) c.in_ok-terms.ensures)) in
    let h = joined-series c.args.r.now c.args.s.now c.args.order c.requires.left c.requires.right c.requires.dir c.requires.joinable c.from_sorted-function.result (sum_of c.in_ok-terms.terms.items) (sorted-series _ _ _ c.from_sorted-function.ensures.order c.from_sorted-function.ensures.terms m.0) m in
    record { proper = joined-proper c.args.r.now c.args.s.now c.args.order c.requires.left c.requires.right c.requires.dir c.requires.joinable c.from_sorted-function.result h }

pub returns-clause-wall : goal.returns-clause-wall
returns-clause-wall c =
    let m = (joined-made c.args.r.now c.args.s.now c.args.order c.requires.left c.requires.right c.requires.dir c.requires.joinable (sum_of c.in_ok-terms.terms.items) c.requires.order c.terms-2.ensures.valid c.terms.ensures.valid
    (merged-of _ _ _ _ _ c.terms-2.ensures.terms (passed _ _ _ _ c.as_slice.ensures.value c.in_ok-more.ensures c.terms.ensures.terms) c.in_ok-terms.ensures)) in
    let h = joined-series c.args.r.now c.args.s.now c.args.order c.requires.left c.requires.right c.requires.dir c.requires.joinable c.from_sorted-function.result (sum_of c.in_ok-terms.terms.items) (sorted-series _ _ _ c.from_sorted-function.ensures.order c.from_sorted-function.ensures.terms m.0) m in
    joined-wall c.args.r.now c.args.s.now c.args.order c.requires.left c.requires.right c.requires.dir c.requires.joinable c.from_sorted-function.result h
