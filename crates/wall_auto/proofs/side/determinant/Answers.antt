use Rattle.std.proofs.Common.{◌≡◌, ◌≤◌, ◌<◌, ◌^◌, ◌∙◌, FitsSigned, arith, to_z, of_z, ℤ, ℕ, ◌-ℤ◌, ◌*ℤ◌}
use Rattle.std.specs.Prelude.{nat_abs}
use Rattle.std.proofs.lemmas.Int.{ints, to_z-of_z}
use mir.Syntax.{w32, w64}
use Rattle.frac_128.proofs.SignedProducts.{within}
use Rattle.wall_auto.proofs.side.determinant.Goals as goal

own : (x : ℤ) → nat_abs x ≤ 2 ^ 29 → to_z w64 (of_z w64 x) ≡ x
own x h = to_z-of_z w64 x (within w64 x (2 ^ 29) h (omega arith))

difference : (x y : ℤ) → nat_abs x ≤ 2 ^ 28 → nat_abs y ≤ 2 ^ 28 → nat_abs (x -ℤ y) ≤ 2 ^ 29
difference x y h i = omega (arith, ints, h, i)

larger : (x : ℤ) → nat_abs x ≤ 2 ^ 28 → nat_abs x ≤ 2 ^ 29
larger x h = omega (arith, h)

minus : (x y : ℤ) → nat_abs x ≤ 2 ^ 28 → nat_abs y ≤ 2 ^ 28 → to_z w64 (of_z w64 (to_z w64 (of_z w64 x) -ℤ to_z w64 (of_z w64 y))) ≡ x -ℤ y
minus x y h i = rw (own x (larger x h), own y (larger y i)) (own (x -ℤ y) (difference x y h i))

minus-fits : (x y : ℤ) → nat_abs x ≤ 2 ^ 28 → nat_abs y ≤ 2 ^ 28 → FitsSigned w64 (to_z w64 (of_z w64 x) -ℤ to_z w64 (of_z w64 y))
minus-fits x y h i = rw (own x (larger x h), own y (larger y i)) (within w64 (x -ℤ y) (2 ^ 29) (difference x y h i) (omega arith))

-- a number that is passed
back : (x : ℤ) (m : ℕ) → nat_abs x ≤ m → m < 2 ^ 31 → to_z w32 (of_z w32 x) ≡ x
back x m h k = to_z-of_z w32 x (within w32 x m h k)

bounded : (x : ℤ) (m : ℕ) → nat_abs x ≤ m → m < 2 ^ 31 → nat_abs (to_z w32 (of_z w32 x)) ≤ m
bounded x m h k = rw (back x m h k) h

pub product-requires-clause-left : goal.product-requires-clause-left
product-requires-clause-left c = bounded c.args.dir.now.a (2 ^ 12) c.args.dir.now.small.0 (omega arith)

pub product-requires-clause-right : goal.product-requires-clause-right
product-requires-clause-right c = bounded c.args.m.now.b (2 ^ 16) c.requires.b (omega arith)

pub product-requires-2-clause-left : goal.product-requires-2-clause-left
product-requires-2-clause-left c = bounded c.args.dir.now.b (2 ^ 12) c.args.dir.now.small.1 (omega arith)

pub product-requires-2-clause-right : goal.product-requires-2-clause-right
product-requires-2-clause-right c = bounded c.args.m.now.a (2 ^ 16) c.requires.a (omega arith)

pub overflow_sub-result : goal.overflow_sub-result
overflow_sub-result c = minus-fits c.product.result c.product-2.result c.product.ensures.bound c.product-2.ensures.bound

pub returns-clause-value : goal.returns-clause-value
returns-clause-value c =
    let x : c.product.result ≡ c.args.dir.now.a *ℤ c.args.m.now.b =
    rw (back c.args.dir.now.a (2 ^ 12) c.args.dir.now.small.0 (omega arith), back c.args.m.now.b (2 ^ 16) c.requires.b (omega arith)) at c.product.ensures.value in
    let y : c.product-2.result ≡ c.args.dir.now.b *ℤ c.args.m.now.a =
    rw (back c.args.dir.now.b (2 ^ 12) c.args.dir.now.small.1 (omega arith), back c.args.m.now.a (2 ^ 16) c.requires.a (omega arith)) at c.product-2.ensures.value in
    minus c.product.result c.product-2.result c.product.ensures.bound c.product-2.ensures.bound ∙ (λ i. x i -ℤ y i)

pub returns-clause-bound : goal.returns-clause-bound
returns-clause-bound c = rw (minus c.product.result c.product-2.result c.product.ensures.bound c.product-2.ensures.bound) (difference c.product.result c.product-2.result c.product.ensures.bound c.product-2.ensures.bound)
