use Rattle.std.proofs.Common.{◌≡◌, ◌∙◌, refl, Bool, true, false, ◌&&◌, arith}
use Rattle.std.specs.Prelude.{ℤ}
use Rattle.std.specs.Ordering as S
use Rattle.std.specs.List.{dedup}
use Rattle.std.proofs.lemmas.Int.{ints}
use Rattle.std.proofs.lemmas.List.Filters.{dedup_is}
use Rattle.scattering.specs.Series.{int_eq}
use Rattle.plane_geom.specs.declared.Point.{Point as CodePoint}
use Rattle.plane_geom.specs.contracts.PointPartialEq.TheImpl.{ghosts}
use Rattle.joint_finder.specs.Joints.{same_point}
use Rattle.joint_finder.proofs.order.drop_repeats.Goals as goal

one-test : (a b : ℤ) → S.int_eq a b ≡ int_eq a b
one-test a b = grind (arith, ints)

grouped : (a b c : Bool) → (a && (b && c)) ≡ ((a && b) && c)
grouped true b c = refl
grouped false b c = refl

same : (x y : CodePoint) → ghosts.eq x y ≡ same_point x y
same x y = (λ i. one-test x.x y.x i && (one-test x.y y.y i && one-test x.w y.w i)) ∙ grouped (int_eq x.x y.x) (int_eq x.y y.y) (int_eq x.w y.w)

pub returns : goal.returns
returns c = dedup_is _ _ _ c.dedup.ensures.filtered ∙ (λ i. dedup (λ x y. same x y i) c.args.points.now.items)
