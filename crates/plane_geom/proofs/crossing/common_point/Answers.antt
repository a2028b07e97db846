use Rattle.std.proofs.Common.{arith, to_z, of_z, ◌∙◌, sym}
use mir.Syntax.{w128}
use Rattle.std.specs.Prelude.{ℤ, pos, ◌-ℤ◌, ◌≤ℤ◌}
use Rattle.std.proofs.lemmas.Int.{ints}
use Rattle.plane_theory.proofs.PointOrder.{lt-out}
use Rattle.plane_geom.specs.Shown.{point_of, vector_of}
use Rattle.plane_geom.proofs.Casts.{neg-fits, neg-is, back107, larger107, below-zero, near-passed, small-passed, turn-passed, product-passed, numerator-passed, grown-seen, shifted-seen}
use Rattle.plane_geom.proofs.Quotients.{answered, answer-along, answer-turned, common, not-zero}
use Rattle.plane_geom.proofs.crossing.common_point.Goals as goal

pub overflow_sub-x : goal.overflow_sub-x
overflow_sub-x c = neg-fits c.shifted-x.result c.shifted-x.ensures.bound

pub overflow_sub-y : goal.overflow_sub-y
overflow_sub-y c = neg-fits c.shifted-y.result c.shifted-y.ensures.bound

pub returns-then-w-gt0 : goal.returns-then-w-gt0
returns-then-w-gt0 c =
    let w = grown-seen c.grown-w.result c.args.p.now.w c.args.r.now.w c.args.turn c.product.result c.args.p.now.near.2 c.args.r.now.near.2 c.requires.turn c.product.ensures.value c.product.ensures.bound c.grown-w.ensures.value in
    let x = shifted-seen c.shifted-x.result c.args.p.now.x c.args.r.now.w c.args.turn c.args.n c.args.d.now.a c.product-2.result c.args.p.now.near.0 c.args.r.now.near.2 c.requires.turn c.requires.n c.args.d.now.small.0 c.product-2.ensures.value c.product-2.ensures.bound c.shifted-x.ensures.value in
    let y = shifted-seen c.shifted-y.result c.args.p.now.y c.args.r.now.w c.args.turn c.args.n c.args.d.now.b c.product-3.result c.args.p.now.near.1 c.args.r.now.near.2 c.requires.turn c.requires.n c.args.d.now.small.1 c.product-3.ensures.value c.product-3.ensures.bound c.shifted-y.ensures.value in
    common (point_of c.args.p.now) (vector_of c.args.d.now) (point_of c.args.r.now) c.args.n c.args.turn c.new.result
    (answer-along _ _ _ _ _ _ c.new.result (back107 c.shifted-x.result c.shifted-x.ensures.bound ∙ x) (back107 c.shifted-y.result c.shifted-y.ensures.bound ∙ y) (back107 c.grown-w.result (larger107 c.grown-w.result c.grown-w.ensures.bound) ∙ w)
    (answered _ _ _ c.new.result c.new.ensures.point c.new.ensures.far))

pub new-requires-else-w-gt0 : goal.new-requires-else-w-gt0
new-requires-else-w-gt0 c =
    let w = grown-seen c.grown-w.result c.args.p.now.w c.args.r.now.w c.args.turn c.product.result c.args.p.now.near.2 c.args.r.now.near.2 c.requires.turn c.product.ensures.value c.product.ensures.bound c.grown-w.ensures.value in
    below-zero c.grown-w.result (larger107 c.grown-w.result c.grown-w.ensures.bound) (λ e. not-zero _ _ _ c.args.p.now.reduced.below c.args.r.now.reduced.below c.requires.crossing (sym w ∙ e)) c.if-w-gt0.false

pub returns-else-w-gt0 : goal.returns-else-w-gt0
returns-else-w-gt0 c =
    let w = grown-seen c.grown-w.result c.args.p.now.w c.args.r.now.w c.args.turn c.product.result c.args.p.now.near.2 c.args.r.now.near.2 c.requires.turn c.product.ensures.value c.product.ensures.bound c.grown-w.ensures.value in
    let x = shifted-seen c.shifted-x.result c.args.p.now.x c.args.r.now.w c.args.turn c.args.n c.args.d.now.a c.product-2.result c.args.p.now.near.0 c.args.r.now.near.2 c.requires.turn c.requires.n c.args.d.now.small.0 c.product-2.ensures.value c.product-2.ensures.bound c.shifted-x.ensures.value in
    let y = shifted-seen c.shifted-y.result c.args.p.now.y c.args.r.now.w c.args.turn c.args.n c.args.d.now.b c.product-3.result c.args.p.now.near.1 c.args.r.now.near.2 c.requires.turn c.requires.n c.args.d.now.small.1 c.product-3.ensures.value c.product-3.ensures.bound c.shifted-y.ensures.value in
    common (point_of c.args.p.now) (vector_of c.args.d.now) (point_of c.args.r.now) c.args.n c.args.turn c.new-else-w-gt0.result
    (answer-along _ _ _ _ _ _ c.new-else-w-gt0.result x y w
    (answer-turned c.shifted-x.result c.shifted-y.result c.grown-w.result c.new-else-w-gt0.result
    (answer-along _ _ _ _ _ _ c.new-else-w-gt0.result (neg-is c.shifted-x.result c.shifted-x.ensures.bound) (neg-is c.shifted-y.result c.shifted-y.ensures.bound) (neg-is c.grown-w.result (larger107 c.grown-w.result c.grown-w.ensures.bound))
    (answered _ _ _ c.new-else-w-gt0.result c.new-else-w-gt0.ensures.point c.new-else-w-gt0.ensures.far))))

pub product-requires-clause-a : goal.product-requires-clause-a
product-requires-clause-a c = near-passed c.args.p.now.w c.args.p.now.near.2

pub product-requires-clause-b : goal.product-requires-clause-b
product-requires-clause-b c = near-passed c.args.r.now.w c.args.r.now.near.2

pub product-requires-2-clause-a : goal.product-requires-2-clause-a
product-requires-2-clause-a c = near-passed c.args.p.now.x c.args.p.now.near.0

pub product-requires-2-clause-b : goal.product-requires-2-clause-b
product-requires-2-clause-b c = near-passed c.args.r.now.w c.args.r.now.near.2

pub product-requires-3-clause-a : goal.product-requires-3-clause-a
product-requires-3-clause-a c = near-passed c.args.p.now.y c.args.p.now.near.1

pub product-requires-3-clause-b : goal.product-requires-3-clause-b
product-requires-3-clause-b c = near-passed c.args.r.now.w c.args.r.now.near.2

pub grown-w-requires-clause-a : goal.grown-w-requires-clause-a
grown-w-requires-clause-a c = product-passed c.product.result c.product.ensures.bound

pub grown-w-requires-clause-t : goal.grown-w-requires-clause-t
grown-w-requires-clause-t c = turn-passed c.args.turn c.requires.turn

pub shifted-x-requires-clause-a : goal.shifted-x-requires-clause-a
shifted-x-requires-clause-a c = product-passed c.product-2.result c.product-2.ensures.bound

pub shifted-x-requires-clause-t : goal.shifted-x-requires-clause-t
shifted-x-requires-clause-t c = turn-passed c.args.turn c.requires.turn

pub shifted-x-requires-clause-n : goal.shifted-x-requires-clause-n
shifted-x-requires-clause-n c = numerator-passed c.args.n c.requires.n

pub shifted-x-requires-clause-d : goal.shifted-x-requires-clause-d
shifted-x-requires-clause-d c = small-passed c.args.d.now.a c.args.d.now.small.0

pub shifted-y-requires-clause-a : goal.shifted-y-requires-clause-a
shifted-y-requires-clause-a c = product-passed c.product-3.result c.product-3.ensures.bound

pub shifted-y-requires-clause-t : goal.shifted-y-requires-clause-t
shifted-y-requires-clause-t c = turn-passed c.args.turn c.requires.turn

pub shifted-y-requires-clause-n : goal.shifted-y-requires-clause-n
shifted-y-requires-clause-n c = numerator-passed c.args.n c.requires.n

pub shifted-y-requires-clause-d : goal.shifted-y-requires-clause-d
shifted-y-requires-clause-d c = small-passed c.args.d.now.b c.args.d.now.small.1

pub overflow_sub-w : goal.overflow_sub-w
overflow_sub-w c = neg-fits c.grown-w.result (larger107 c.grown-w.result c.grown-w.ensures.bound)

positive : (x : ℤ) → pos 1 ≤ℤ (x -ℤ pos 0) → pos 1 ≤ℤ x
positive x h = omega (arith, ints, h)

pub new-requires : goal.new-requires
new-requires c = positive (to_z w128 (of_z w128 c.grown-w.result)) (lt-out (pos 0) (to_z w128 (of_z w128 c.grown-w.result)) c.if-w-gt0.true)
