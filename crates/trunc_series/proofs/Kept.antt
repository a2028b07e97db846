-- Numbers as they are kept: to keep them on the way changes nothing.
use Rattle.std.proofs.Math.Decide.{dec_le}
use Rattle.std.proofs.Common.{ℕ, suc, zero, min, ◌*◌, ◌≤◌, ◌+◌, ◌^◌, ◌≡◌, refl, sym, ap, ◌∙◌, arith}
use Rattle.std.specs.Prelude.{ℤ, pos, negsuc, ◌+ℤ◌, ◌*ℤ◌}
use Rattle.std.specs.Int.{int_wrap, int_min}
use Rattle.std.proofs.lemmas.Int.{ints, clamps, int_wrap-add_left, int_wrap-add_right, int_wrap-mul_left, int_wrap_fits, SFits-int_wrap, fits_signed_from_abs}
use mir.Syntax.{w128}
use Rattle.trunc_series.specs.declared.arithmetic.Arithmetic.{Arithmetic}
use Rattle.trunc_series.specs.declared.arithmetic.Arithmetic.TheVariants.{Wrapping, Saturating}
use Rattle.trunc_series.specs.Arithmetic.{kept, IsKeepable, limit}

pub keepable-zero : (rule : Arithmetic) → IsKeepable rule (pos 0)
keepable-zero Wrapping = tt
keepable-zero Saturating = omega (arith, ints)

pub keepable-one : (rule : Arithmetic) → IsKeepable rule (pos 1)
keepable-one Wrapping = tt
keepable-one Saturating = omega (arith, ints)

pub keepable-add : (rule : Arithmetic) (x y : ℤ) → IsKeepable rule x → IsKeepable rule y → IsKeepable rule (x +ℤ y)
keepable-add Wrapping x y h k = tt
keepable-add Saturating x y h k = omega (arith, ints)

pub keepable-kept : (rule : Arithmetic) (x : ℤ) → IsKeepable rule x → IsKeepable rule (kept rule x)
keepable-kept Wrapping x h = tt
keepable-kept Saturating x h = let l : ℤ = limit in omega (arith, ints, clamps)

pub kept-zero : (rule : Arithmetic) → kept rule (pos 0) ≡ pos 0
kept-zero Wrapping = int_wrap_fits w128 (pos 0) (fits_signed_from_abs w128 (pos 0) (omega arith))
kept-zero Saturating = refl

pub kept-one : (rule : Arithmetic) → kept rule (pos 1) ≡ pos 1
kept-one Wrapping = int_wrap_fits w128 (pos 1) (fits_signed_from_abs w128 (pos 1) (omega arith))
kept-one Saturating = refl

pub kept-kept : (rule : Arithmetic) (x : ℤ) → kept rule (kept rule x) ≡ kept rule x
kept-kept Wrapping x = int_wrap_fits w128 (int_wrap w128 x) (SFits-int_wrap w128 x)
kept-kept Saturating x = omega (arith, ints, clamps)

pub kept-add_left : (rule : Arithmetic) (x y : ℤ) → IsKeepable rule x → IsKeepable rule y → kept rule (kept rule x +ℤ y) ≡ kept rule (x +ℤ y)
kept-add_left Wrapping x y h k = int_wrap-add_left w128 x y
kept-add_left Saturating x y h k = omega (arith, ints, clamps)

pub kept-add_right : (rule : Arithmetic) (x y : ℤ) → IsKeepable rule x → IsKeepable rule y → kept rule (x +ℤ kept rule y) ≡ kept rule (x +ℤ y)
kept-add_right Wrapping x y h k = int_wrap-add_right w128 x y
kept-add_right Saturating x y h k = omega (arith, ints, clamps)

-- what is kept of a sum depends on what is kept of its parts
pub kept-same_right : (rule : Arithmetic) (x y z : ℤ) → IsKeepable rule x → IsKeepable rule y → IsKeepable rule z → kept rule y ≡ kept rule z → kept rule (x +ℤ y) ≡ kept rule (x +ℤ z)
kept-same_right rule x y z h k l e = sym (kept-add_right rule x y h k) ∙ ap (λ w. kept rule (x +ℤ w)) e ∙ kept-add_right rule x z h l

pub kept-same_left : (rule : Arithmetic) (x y z : ℤ) → IsKeepable rule x → IsKeepable rule y → IsKeepable rule z → kept rule x ≡ kept rule y → kept rule (x +ℤ z) ≡ kept rule (y +ℤ z)
kept-same_left rule x y z h k l e = sym (kept-add_left rule x z h l) ∙ ap (λ w. kept rule (w +ℤ z)) e ∙ kept-add_left rule y z k l

pub keepable-mul : (rule : Arithmetic) (x y : ℤ) → IsKeepable rule x → IsKeepable rule y → IsKeepable rule (x *ℤ y)
keepable-mul Wrapping x y h k = tt
keepable-mul Saturating (pos m) (pos n) h k = omega (arith, ints)
keepable-mul Saturating (negsuc m) y h k = absurd (omega (arith, ints))
keepable-mul Saturating (pos m) (negsuc n) h k = absurd (omega (arith, ints))

capped-product : (a b : ℕ) → min (min a (2 ^ 126 + 1) * b) (2 ^ 126 + 1) ≡ min (a * b) (2 ^ 126 + 1)
capped-product a zero = omega arith
capped-product a (suc b) = go (dec_le a (2 ^ 126 + 1))
  where
    go : Dec (a ≤ 2 ^ 126 + 1) → min (min a (2 ^ 126 + 1) * suc b) (2 ^ 126 + 1) ≡ min (a * suc b) (2 ^ 126 + 1)
    go (yes l) = let e : min a (2 ^ 126 + 1) ≡ a = omega (arith, l) in rw e refl
    go (no l) =
        let e : min a (2 ^ 126 + 1) ≡ 2 ^ 126 + 1 = omega (arith, l) in
        let p : (2 ^ 126 + 1) ≤ (2 ^ 126 + 1) * suc b = omega arith in
        let q : (2 ^ 126 + 1) ≤ a * suc b = omega (arith, l) in
        rw e (omega (arith, p, q))

int_min-pos : (a b : ℕ) → int_min (pos a) (pos b) ≡ pos (min a b)
int_min-pos a b = omega (arith, ints, clamps)

pub kept-mul_left : (rule : Arithmetic) (x y : ℤ) → IsKeepable rule x → IsKeepable rule y → kept rule (kept rule x *ℤ y) ≡ kept rule (x *ℤ y)
kept-mul_left Wrapping x y h k = int_wrap-mul_left w128 x y
kept-mul_left Saturating (pos a) (pos b) h k = rw (int_min-pos a (2 ^ 126 + 1)) (int_min-pos (min a (2 ^ 126 + 1) * b) (2 ^ 126 + 1) ∙ ap pos (capped-product a b) ∙ sym (int_min-pos (a * b) (2 ^ 126 + 1)))
kept-mul_left Saturating (negsuc a) y h k = absurd (omega (arith, ints))
kept-mul_left Saturating (pos a) (negsuc b) h k = absurd (omega (arith, ints))

pub kept-same_mul : (rule : Arithmetic) (x y z : ℤ) → IsKeepable rule x → IsKeepable rule y → IsKeepable rule z → kept rule x ≡ kept rule y → kept rule (x *ℤ z) ≡ kept rule (y *ℤ z)
kept-same_mul rule x y z h k l e = sym (kept-mul_left rule x z h l) ∙ ap (λ w. kept rule (w *ℤ z)) e ∙ kept-mul_left rule y z k l
