-- The order that is derived for keys is that of the definitions.
use Rattle.std.proofs.Common.{◌≡◌, ℕ, refl, ap, ◌∙◌, Bool, true, false, cond, List, [], ◌∷◌, length, get_or, arith}
use Rattle.std.specs.Prelude.{ℤ, ◌&&◌, ◌||◌, nat_lt, ◌==◌, int_lt}
use Rattle.std.proofs.lemmas.Int.{ints}
use Rattle.std.proofs.lemmas.Bool.Decides.{nat_tests}
use Rattle.std.specs.declared.cmp.Ordering.{Ordering}
use Rattle.std.specs.declared.cmp.Ordering.TheVariants.{Less, Equal, Greater}
use Rattle.std.specs.Ordering.{nat_cmp, int_cmp, ordering_then}
use Rattle.std.specs.Cmp.Lexicographic.{slice_cmp}
use Rattle.scattering.specs.Series.{Exp, int_eq, exp_eq, exp_before, powers_before}
use Rattle.trunc_series.specs.declared.key.Key.{Key as CodeKey}
use Rattle.trunc_series.specs.Shown.{exp_of, powers_of, key_of}
use Rattle.trunc_series.specs.Reduced.{key_order}

abbrev order : Bool → Bool → Ordering
order b c = cond b Less (cond c Greater Equal)

nat-step : (x y : ℕ) (o : Ordering) (b c : Bool) → o ≡ order b c → ordering_then (nat_cmp x y) o ≡ order (nat_lt x y || ((x == y) && b)) (nat_lt y x || ((y == x) && c))
nat-step x y o b c e = grind (arith, nat_tests, e)

int-last : (x y : ℤ) → int_cmp x y ≡ order (int_lt x y) (int_lt y x)
int-last x y = grind (arith, ints)

nat-last : (x y : ℕ) → ordering_then (nat_cmp x y) Equal ≡ order (nat_lt x y) (nat_lt y x)
nat-last x y = grind (arith, nat_tests)

-- an order with its two tests
abbrev Tested : Ordering → Type 0
Tested o = (b : Bool) × (c : Bool) × (o ≡ order b c)

abbrev step : (x y : ℕ) (o : Ordering) → Tested o → Tested (ordering_then (nat_cmp x y) o)
step x y o s = (nat_lt x y || ((x == y) && s.0), nat_lt y x || ((y == x) && s.1), nat-step x y o s.0 s.1 s.2)

-- a list of eight is its elements
eight : (p : List ℕ) → length p ≡ 8 → p ≡ get_or p 0 0 ∷ get_or p 1 0 ∷ get_or p 2 0 ∷ get_or p 3 0 ∷ get_or p 4 0 ∷ get_or p 5 0 ∷ get_or p 6 0 ∷ get_or p 7 0 ∷ []
eight (a ∷ b ∷ c ∷ d ∷ e ∷ f ∷ g ∷ h ∷ []) l = refl
eight [] l = absurd (omega arith)
eight _ l = absurd (omega arith)

powers-order : (p q : List ℕ) → length p ≡ 8 → length q ≡ 8 → slice_cmp nat_cmp p q ≡ order (powers_before (powers_of p) (powers_of q)) (powers_before (powers_of q) (powers_of p))
powers-order p q h k =
    ap (λ r. slice_cmp nat_cmp r q) (eight p h) ∙ ap (slice_cmp nat_cmp (get_or p 0 0 ∷ get_or p 1 0 ∷ get_or p 2 0 ∷ get_or p 3 0 ∷ get_or p 4 0 ∷ get_or p 5 0 ∷ get_or p 6 0 ∷ get_or p 7 0 ∷ [])) (eight q k)
    ∙ (step (get_or p 0 0) (get_or q 0 0) _ (step (get_or p 1 0) (get_or q 1 0) _ (step (get_or p 2 0) (get_or q 2 0) _ (step (get_or p 3 0) (get_or q 3 0) _ (step (get_or p 4 0) (get_or q 4 0) _ (step (get_or p 5 0) (get_or q 5 0) _ (step (get_or p 6 0) (get_or q 6 0) _ (nat_lt (get_or p 7 0) (get_or q 7 0), nat_lt (get_or q 7 0) (get_or p 7 0), nat-last (get_or p 7 0) (get_or q 7 0))))))))).2

exp-order : (a a' b b' : ℤ) → ordering_then (int_cmp a a') (int_cmp b b') ≡ order (int_lt a a' || (int_eq a a' && int_lt b b')) (int_lt a' a || (int_eq a' a && int_lt b' b))
exp-order a a' b b' = grind (arith, ints)

not-equal : (u v : Exp) → exp_before v u ≡ true → exp_eq u v ≡ false
not-equal u v h = grind (arith, ints)

equal : (u v : Exp) → exp_before u v ≡ false → exp_before v u ≡ false → (exp_eq u v ≡ true) × (exp_eq v u ≡ true)
equal u v h k = (grind (arith, ints), grind (arith, ints))

then-order : (o : Ordering) (b c d e p q : Bool) → o ≡ order p q → (c ≡ true → d ≡ false) → (b ≡ false → c ≡ false → (d ≡ true) × (e ≡ true)) → ordering_then (order b c) o ≡ order (b || (d && p)) (c || (e && q))
then-order o true c d e p q h k l = refl
then-order o false true d e p q h k l = rw (k refl) refl
then-order o false false d e p q h k l = let r = l refl refl in rw (r.0, r.1) h

pub cmp-order : (k l : CodeKey) → length k.powers ≡ 8 → length l.powers ≡ 8 → ordering_then (ordering_then (int_cmp k.exp.a l.exp.a) (int_cmp k.exp.b l.exp.b)) (slice_cmp nat_cmp k.powers l.powers) ≡ key_order (key_of k) (key_of l)
cmp-order k l h i =
    let u : Exp = exp_of k.exp in
    let v : Exp = exp_of l.exp in
    ap (λ o. ordering_then o (slice_cmp nat_cmp k.powers l.powers)) (exp-order k.exp.a l.exp.a k.exp.b l.exp.b)
    ∙ then-order _ _ _ (exp_eq u v) (exp_eq v u) _ _ (powers-order k.powers l.powers h i) (not-equal u v) (equal u v)
