-- What holds of a call's result, from two facts of it; and numbers whose bits are 0.
use Rattle.std.proofs.Common.{◌≡◌, ℕ, zero, suc, ap, sym, ◌∙◌, List, [], ◌∷◌, ◌++◌, take, length, FitsSigned, to_z, of_z, arith}
use Rattle.std.specs.Prelude.{ℤ, pos, OnOk}
use Rattle.std.specs.declared.result.Result.{Result}
use Rattle.std.proofs.lemmas.Int.{to_z-of_z}
use mir.Syntax.{w64, w128}
use Rattle.std.specs.declared.result.Result.TheVariants.{Ok, Err}

pub on_both : {T E P Q R : Type 0} (r : Result T E) → (P → Q → R) → OnOk r P → OnOk r Q → OnOk r R
on_both (Ok x) f p q = f p q
on_both (Err y) f p q = tt

pub zero-i64 : (x : ℤ) → FitsSigned w64 x → of_z w64 x ≡ 0 → x ≡ pos 0
zero-i64 x f e = sym (to_z-of_z w64 x f) ∙ ap (to_z w64) e

pub zero-i128 : (x : ℤ) → FitsSigned w128 x → of_z w128 x ≡ 0 → x ≡ pos 0
zero-i128 x f e = sym (to_z-of_z w128 x f) ∙ ap (to_z w128) e

-- a list written back into the first places of another is what the other is then
pub written-back : {A : Type 0} (xs zs : List A) (n : ℕ) → n ≡ length xs → take n (xs ++ zs) ≡ xs
written-back [] zs n e = ap (λ (k : ℕ). take k zs) e
written-back (x ∷ xs) zs zero e = absurd (omega (arith, e))
written-back (x ∷ xs) zs (suc n) e = ap (λ ys. x ∷ ys) (written-back xs zs n (omega (arith, e)))
