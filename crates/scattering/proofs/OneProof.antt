-- What may stand as a fact of a type has one proof at most.
use Rattle.std.proofs.Common.{◌≡◌, ℕ, List, [], ◌∷◌}
use Rattle.std.specs.Prelude.{ℤ}
use mathlib.Core.HLevel.{Unit-prop}
use lib.IntN.{ℤ_set}
use Rattle.scattering.specs.Collections.{Every, EveryPair}
use Rattle.scattering.specs.Wall.{Wall}
use Rattle.scattering.specs.Completion.{IsConsistent}

pub Every-prop : {A : Type 0} (P : A → Type 0) → ((x : A) → IsProp (P x)) → (xs : List A) → IsProp (Every P xs)
Every-prop P h [] = Unit-prop
Every-prop P h (x ∷ xs) = let p : IsProp (P x) = h x in let q : IsProp (Every P xs) = Every-prop P h xs in hlevel (p, q)

pub EveryPair-prop : {A : Type 0} (R : A → A → Type 0) → ((x y : A) → IsProp (R x y)) → (xs : List A) → IsProp (EveryPair R xs)
EveryPair-prop R h [] = Unit-prop
EveryPair-prop R h (x ∷ xs) = let p : IsProp (Every (R x) xs) = Every-prop (R x) (h x) xs in let q : IsProp (EveryPair R xs) = EveryPair-prop R h xs in hlevel (p, q)

set : (x y : ℤ) → IsProp (x ≡ y)
set x y = ℤ_set x y

consistent : (k : ℕ) (ws : List Wall) → IsProp (IsConsistent k ws)
consistent k ws = hlevel (ℤ_set)
