use Rattle.std.proofs.Common.{inl, inr, to_z, of_z, ◌∙◌}
use mir.Syntax.{w64, w128}
use Rattle.std.proofs.lemmas.Int.{to_z-of_z}
use Rattle.frac_128.proofs.Reading.{nothing}
use Rattle.plane_geom.specs.Places.{point}
use Rattle.plane_geom.proofs.Casts.{back64}
use Rattle.plane_geom.proofs.Made.{Passed, divisor, far, found, is-quotient, is-near, bounded}
use Rattle.plane_geom.proofs.Point.new.Goals as goal

pub shrunk-requires : goal.shrunk-requires
shrunk-requires c =
    let p : Passed c.args.x c.args.y c.args.w c.gcd-both.result c.gcd-g.result (to_z w128 (of_z w128 c.args.x)) (to_z w128 (of_z w128 c.args.y)) (to_z w128 (of_z w128 c.args.w)) c.unsigned_abs.result c.unsigned_abs-2.result c.unsigned_abs-3.result =
    record { below = c.requires; x_is = to_z-of_z w128 c.args.x c.ranges.x; y_is = to_z-of_z w128 c.args.y c.ranges.y; w_is = to_z-of_z w128 c.args.w c.ranges.w; u_is = c.unsigned_abs.ensures.value; v_is = c.unsigned_abs-2.ensures.value; t_is = c.unsigned_abs-3.ensures.value; both = c.gcd-both.ensures; all = c.gcd-g.ensures } in
    divisor c.args.x c.args.y c.args.w c.gcd-both.result c.gcd-g.result _ _ _ c.unsigned_abs.result c.unsigned_abs-2.result c.unsigned_abs-3.result p

pub shrunk-requires-2 : goal.shrunk-requires-2
shrunk-requires-2 c =
    let p : Passed c.args.x c.args.y c.args.w c.gcd-both.result c.gcd-g.result (to_z w128 (of_z w128 c.args.x)) (to_z w128 (of_z w128 c.args.y)) (to_z w128 (of_z w128 c.args.w)) c.unsigned_abs.result c.unsigned_abs-2.result c.unsigned_abs-3.result =
    record { below = c.requires; x_is = to_z-of_z w128 c.args.x c.ranges.x; y_is = to_z-of_z w128 c.args.y c.ranges.y; w_is = to_z-of_z w128 c.args.w c.ranges.w; u_is = c.unsigned_abs.ensures.value; v_is = c.unsigned_abs-2.ensures.value; t_is = c.unsigned_abs-3.ensures.value; both = c.gcd-both.ensures; all = c.gcd-g.ensures } in
    divisor c.args.x c.args.y c.args.w c.gcd-both.result c.gcd-g.result _ _ _ c.unsigned_abs.result c.unsigned_abs-2.result c.unsigned_abs-3.result p

pub shrunk-requires-3 : goal.shrunk-requires-3
shrunk-requires-3 c =
    let p : Passed c.args.x c.args.y c.args.w c.gcd-both.result c.gcd-g.result (to_z w128 (of_z w128 c.args.x)) (to_z w128 (of_z w128 c.args.y)) (to_z w128 (of_z w128 c.args.w)) c.unsigned_abs.result c.unsigned_abs-2.result c.unsigned_abs-3.result =
    record { below = c.requires; x_is = to_z-of_z w128 c.args.x c.ranges.x; y_is = to_z-of_z w128 c.args.y c.ranges.y; w_is = to_z-of_z w128 c.args.w c.ranges.w; u_is = c.unsigned_abs.ensures.value; v_is = c.unsigned_abs-2.ensures.value; t_is = c.unsigned_abs-3.ensures.value; both = c.gcd-both.ensures; all = c.gcd-g.ensures } in
    divisor c.args.x c.args.y c.args.w c.gcd-both.result c.gcd-g.result _ _ _ c.unsigned_abs.result c.unsigned_abs-2.result c.unsigned_abs-3.result p

pub returns-in_err-small_x-clause-far : goal.returns-in_err-small_x-clause-far
returns-in_err-small_x-clause-far c =
    let p : Passed c.args.x c.args.y c.args.w c.gcd-both.result c.gcd-g.result (to_z w128 (of_z w128 c.args.x)) (to_z w128 (of_z w128 c.args.y)) (to_z w128 (of_z w128 c.args.w)) c.unsigned_abs.result c.unsigned_abs-2.result c.unsigned_abs-3.result =
    record { below = c.requires; x_is = to_z-of_z w128 c.args.x c.ranges.x; y_is = to_z-of_z w128 c.args.y c.ranges.y; w_is = to_z-of_z w128 c.args.w c.ranges.w; u_is = c.unsigned_abs.ensures.value; v_is = c.unsigned_abs-2.ensures.value; t_is = c.unsigned_abs-3.ensures.value; both = c.gcd-both.ensures; all = c.gcd-g.ensures } in
    nothing _ _ _ c.from_residual.ensures (far c.args.x c.args.y c.args.w c.gcd-both.result c.gcd-g.result _ _ _ c.unsigned_abs.result c.unsigned_abs-2.result c.unsigned_abs-3.result p (inl c.in_err-small_x.ensures.near))

pub returns-in_err-small_y-clause-far : goal.returns-in_err-small_y-clause-far
returns-in_err-small_y-clause-far c =
    let p : Passed c.args.x c.args.y c.args.w c.gcd-both.result c.gcd-g.result (to_z w128 (of_z w128 c.args.x)) (to_z w128 (of_z w128 c.args.y)) (to_z w128 (of_z w128 c.args.w)) c.unsigned_abs.result c.unsigned_abs-2.result c.unsigned_abs-3.result =
    record { below = c.requires; x_is = to_z-of_z w128 c.args.x c.ranges.x; y_is = to_z-of_z w128 c.args.y c.ranges.y; w_is = to_z-of_z w128 c.args.w c.ranges.w; u_is = c.unsigned_abs.ensures.value; v_is = c.unsigned_abs-2.ensures.value; t_is = c.unsigned_abs-3.ensures.value; both = c.gcd-both.ensures; all = c.gcd-g.ensures } in
    nothing _ _ _ c.from_residual-in_err-small_y.ensures (far c.args.x c.args.y c.args.w c.gcd-both.result c.gcd-g.result _ _ _ c.unsigned_abs.result c.unsigned_abs-2.result c.unsigned_abs-3.result p (inr (inl c.in_err-small_y.ensures.near)))

pub returns-in_err-small_w-clause-far : goal.returns-in_err-small_w-clause-far
returns-in_err-small_w-clause-far c =
    let p : Passed c.args.x c.args.y c.args.w c.gcd-both.result c.gcd-g.result (to_z w128 (of_z w128 c.args.x)) (to_z w128 (of_z w128 c.args.y)) (to_z w128 (of_z w128 c.args.w)) c.unsigned_abs.result c.unsigned_abs-2.result c.unsigned_abs-3.result =
    record { below = c.requires; x_is = to_z-of_z w128 c.args.x c.ranges.x; y_is = to_z-of_z w128 c.args.y c.ranges.y; w_is = to_z-of_z w128 c.args.w c.ranges.w; u_is = c.unsigned_abs.ensures.value; v_is = c.unsigned_abs-2.ensures.value; t_is = c.unsigned_abs-3.ensures.value; both = c.gcd-both.ensures; all = c.gcd-g.ensures } in
    nothing _ _ _ c.from_residual-in_err-small_w.ensures (far c.args.x c.args.y c.args.w c.gcd-both.result c.gcd-g.result _ _ _ c.unsigned_abs.result c.unsigned_abs-2.result c.unsigned_abs-3.result p (inr (inr c.in_err-small_w.ensures.near)))

pub returns-clause-point : goal.returns-clause-point
returns-clause-point c =
    let p : Passed c.args.x c.args.y c.args.w c.gcd-both.result c.gcd-g.result (to_z w128 (of_z w128 c.args.x)) (to_z w128 (of_z w128 c.args.y)) (to_z w128 (of_z w128 c.args.w)) c.unsigned_abs.result c.unsigned_abs-2.result c.unsigned_abs-3.result =
    record { below = c.requires; x_is = to_z-of_z w128 c.args.x c.ranges.x; y_is = to_z-of_z w128 c.args.y c.ranges.y; w_is = to_z-of_z w128 c.args.w c.ranges.w; u_is = c.unsigned_abs.ensures.value; v_is = c.unsigned_abs-2.ensures.value; t_is = c.unsigned_abs-3.ensures.value; both = c.gcd-both.ensures; all = c.gcd-g.ensures } in
    let q = point (to_z w64 (of_z w64 c.in_ok-small_x.small_x)) (to_z w64 (of_z w64 c.in_ok-small_y.small_y)) (to_z w64 (of_z w64 c.in_ok-small_w.small_w)) in
    let e = found _ _ _ _ _ _ _ _ _ _ _ p _ _ _
    (back64 c.in_ok-small_x.small_x (bounded c.gcd-g.result _ c.in_ok-small_x.small_x c.in_ok-small_x.ensures.value c.in_ok-small_x.ensures.near) ∙ c.in_ok-small_x.ensures.value)
    (back64 c.in_ok-small_y.small_y (bounded c.gcd-g.result _ c.in_ok-small_y.small_y c.in_ok-small_y.ensures.value c.in_ok-small_y.ensures.near) ∙ c.in_ok-small_y.ensures.value)
    (back64 c.in_ok-small_w.small_w (bounded c.gcd-g.result _ c.in_ok-small_w.small_w c.in_ok-small_w.ensures.value c.in_ok-small_w.ensures.near) ∙ c.in_ok-small_w.ensures.value) in
    is-quotient _ _ _ _ _ _ _ _ _ _ _ p q e

pub returns-clause-far : goal.returns-clause-far
returns-clause-far c =
    let p : Passed c.args.x c.args.y c.args.w c.gcd-both.result c.gcd-g.result (to_z w128 (of_z w128 c.args.x)) (to_z w128 (of_z w128 c.args.y)) (to_z w128 (of_z w128 c.args.w)) c.unsigned_abs.result c.unsigned_abs-2.result c.unsigned_abs-3.result =
    record { below = c.requires; x_is = to_z-of_z w128 c.args.x c.ranges.x; y_is = to_z-of_z w128 c.args.y c.ranges.y; w_is = to_z-of_z w128 c.args.w c.ranges.w; u_is = c.unsigned_abs.ensures.value; v_is = c.unsigned_abs-2.ensures.value; t_is = c.unsigned_abs-3.ensures.value; both = c.gcd-both.ensures; all = c.gcd-g.ensures } in
    let q = point (to_z w64 (of_z w64 c.in_ok-small_x.small_x)) (to_z w64 (of_z w64 c.in_ok-small_y.small_y)) (to_z w64 (of_z w64 c.in_ok-small_w.small_w)) in
    let e = found _ _ _ _ _ _ _ _ _ _ _ p _ _ _
    (back64 c.in_ok-small_x.small_x (bounded c.gcd-g.result _ c.in_ok-small_x.small_x c.in_ok-small_x.ensures.value c.in_ok-small_x.ensures.near) ∙ c.in_ok-small_x.ensures.value)
    (back64 c.in_ok-small_y.small_y (bounded c.gcd-g.result _ c.in_ok-small_y.small_y c.in_ok-small_y.ensures.value c.in_ok-small_y.ensures.near) ∙ c.in_ok-small_y.ensures.value)
    (back64 c.in_ok-small_w.small_w (bounded c.gcd-g.result _ c.in_ok-small_w.small_w c.in_ok-small_w.ensures.value c.in_ok-small_w.ensures.near) ∙ c.in_ok-small_w.ensures.value) in
    is-near _ _ _ _ _ _ _ _ _ _ _ p q e c.in_ok-small_x.ensures.near c.in_ok-small_y.ensures.near c.in_ok-small_w.ensures.near

pub invariant_of-result : goal.invariant_of-result
invariant_of-result c =
    let p : Passed c.args.x c.args.y c.args.w c.gcd-both.result c.gcd-g.result (to_z w128 (of_z w128 c.args.x)) (to_z w128 (of_z w128 c.args.y)) (to_z w128 (of_z w128 c.args.w)) c.unsigned_abs.result c.unsigned_abs-2.result c.unsigned_abs-3.result =
    record { below = c.requires; x_is = to_z-of_z w128 c.args.x c.ranges.x; y_is = to_z-of_z w128 c.args.y c.ranges.y; w_is = to_z-of_z w128 c.args.w c.ranges.w; u_is = c.unsigned_abs.ensures.value; v_is = c.unsigned_abs-2.ensures.value; t_is = c.unsigned_abs-3.ensures.value; both = c.gcd-both.ensures; all = c.gcd-g.ensures } in
    let q = point (to_z w64 (of_z w64 c.in_ok-small_x.small_x)) (to_z w64 (of_z w64 c.in_ok-small_y.small_y)) (to_z w64 (of_z w64 c.in_ok-small_w.small_w)) in
    let e = found _ _ _ _ _ _ _ _ _ _ _ p _ _ _
    (back64 c.in_ok-small_x.small_x (bounded c.gcd-g.result _ c.in_ok-small_x.small_x c.in_ok-small_x.ensures.value c.in_ok-small_x.ensures.near) ∙ c.in_ok-small_x.ensures.value)
    (back64 c.in_ok-small_y.small_y (bounded c.gcd-g.result _ c.in_ok-small_y.small_y c.in_ok-small_y.ensures.value c.in_ok-small_y.ensures.near) ∙ c.in_ok-small_y.ensures.value)
    (back64 c.in_ok-small_w.small_w (bounded c.gcd-g.result _ c.in_ok-small_w.small_w c.in_ok-small_w.ensures.value c.in_ok-small_w.ensures.near) ∙ c.in_ok-small_w.ensures.value) in
    record {
      reduced = (is-quotient _ _ _ _ _ _ _ _ _ _ _ p q e).0;
      near = is-near _ _ _ _ _ _ _ _ _ _ _ p q e c.in_ok-small_x.ensures.near c.in_ok-small_y.ensures.near c.in_ok-small_w.ensures.near;
    }
