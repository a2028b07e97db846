-- The first items of two lists that are merged.
use Rattle.std.specs.Prelude.{◌≡◌, List, ◌∷◌, drop}
use Rattle.std.specs.declared.cmp.Ordering.{Ordering}
use Rattle.std.specs.declared.cmp.Ordering.TheVariants.{Less, Equal, Greater}

-- x is the first item of the list
abbrev pub IsFirst : {A : Type 0} → A → List A → Type 0
IsFirst {A} x xs = (rest : List A) × (xs ≡ x ∷ rest)

-- what is left of the first list after an item of each was compared, and what of the second
abbrev pub first_after : {A : Type 0} → Ordering → List A → List A
first_after Less xs = drop 1 xs
first_after Equal xs = drop 1 xs
first_after Greater xs = xs

abbrev pub second_after : {A : Type 0} → Ordering → List A → List A
second_after Less xs = xs
second_after Equal xs = drop 1 xs
second_after Greater xs = drop 1 xs
