-- Facts of one result, taken together.
use Rattle.std.proofs.Common.{Result, Ok, Err}
use Rattle.std.specs.Prelude.{IfOk}

pub if-all : {T E : Type 0} (r : Result T E) (P Q R S : T → Type 0) → ((x : T) → P x → Q x → R x → S x) → IfOk r P → IfOk r Q → IfOk r R → IfOk r S
if-all (Ok x) P Q R S f p q s = f x p q s
if-all (Err e) P Q R S f p q s = p
