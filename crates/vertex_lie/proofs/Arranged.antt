-- Terms of the program arranged by their keys.
use Rattle.std.proofs.Common.{◌≡◌, ◌≢◌, ℕ, suc, ◌+◌, ◌<◌, refl, sym, subst, ap, ◌∙◌, Bool, true, false, cond, List, [], ◌∷◌, length, get_or, arith, add-one}
use Rattle.std.specs.Prelude.{filter, pos, not, ◌&&◌}
use Rattle.std.specs.Cmp.{IsStrictWeakOrder}
use Rattle.std.specs.Ordering.{is_lt, is_le}
use Rattle.std.specs.List.{IsAllAdjacentAnswer}
use Rattle.std.specs.List.Sorted.{IsStableBy}
use Rattle.std.proofs.lemmas.Int.{ints}
use Rattle.std.proofs.lemmas.Nat.Gcd.{dvd_refl, dvd-zero}
use Rattle.std.specs.declared.cmp.Ordering.TheVariants.{Less, Equal, Greater}
use Rattle.scattering.specs.Collections.{Every, EveryPair}
use Rattle.scattering.specs.Series.{Key, origin, key_eq, key_before}
use Rattle.scattering.specs.Correction.{IsRatio}
use Rattle.scattering.proofs.Keys.{key_eq-same, key_eq-refl}
use Rattle.frac_128.specs.declared.Fraction.{Fraction}
use Rattle.trunc_series.specs.declared.key.Key.{Key as CodeKey}
use Rattle.trunc_series.specs.Shown.{key_of}
use Rattle.trunc_series.specs.Reduced.{key_order}
use Rattle.scattering.proofs.KeyOrder.{key_before-same, key_before-trans, key_before-irrefl}
use Rattle.scattering.proofs.Lists.{not-out}
use Rattle.scattering.proofs.StrictOrders.{apart}
use Rattle.vertex_lie.specs.Shown.{coefficient_of, lie_of, of_key, Ascends, IsElement, IsElementOf, IsArranged}
use Rattle.vertex_lie.proofs.OfKey.{Every-same, one-of_key, rises-ascending, ratio_at-same}

abbrev pub Item : Type 0
Item = CodeKey × Fraction

-- ---- the order of terms by their keys

abbrev pub item_before : Item → Item → Bool
item_before t u = key_before (key_of t.0) (key_of u.0)

not-after : (k l : Key) → key_before k l ≡ true → key_before l k ≡ false
not-after k l h = go (key_before l k) refl
  where
    go : (b : Bool) → key_before l k ≡ b → b ≡ false
    go false e = refl
    go true e = let c = key_before-trans k l k h e in let d = key_before-irrefl k in absurd (cc)

chained : (k l m : Key) → key_before k l ≡ false → key_before l m ≡ false → key_before k m ≡ false
chained k l m p q = go (key_before k m) (key_before l k) refl refl
  where
    go : (b c : Bool) → key_before k m ≡ b → key_before l k ≡ c → b ≡ false
    go false c d e = refl
    go true true d e = let f = key_before-trans l k m e d in absurd (cc)
    go true false d e = let f : key_before l m ≡ true = subst (λ (n : Key). key_before n m ≡ true) (key_before-same k l p e) d in absurd (cc)

pub items-ordered : IsStrictWeakOrder item_before
items-ordered = record { one_way = λ t u. not-after (key_of t.0) (key_of u.0); chain = λ t u v. chained (key_of t.0) (key_of u.0) (key_of v.0) }

pub less-is : (k l : Key) → is_lt (key_order k l) ≡ key_before k l
less-is k l = go (key_before k l) (key_before l k)
  where
    go : (b c : Bool) → is_lt (cond b Less (cond c Greater Equal)) ≡ b
    go true c = refl
    go false true = refl
    go false false = refl

pub not-greater : (k l : Key) → is_le (key_order k l) ≡ not (key_before l k)
not-greater k l = go (key_before k l) (key_before l k) refl refl
  where
    go : (b c : Bool) → key_before k l ≡ b → key_before l k ≡ c → is_le (cond b Less (cond c Greater Equal)) ≡ not c
    go true true d e = let f = not-after k l d in absurd (cc)
    go true false d e = refl
    go false true d e = refl
    go false false d e = refl

-- ---- ties are equal keys

tied : (k l : Key) → (not (key_before k l) && not (key_before l k)) ≡ key_eq l k
tied k l = go (key_before k l) (key_before l k) (key_eq l k) refl refl refl
  where
    go : (b c d : Bool) → key_before k l ≡ b → key_before l k ≡ c → key_eq l k ≡ d → (not b && not c) ≡ d
    go true c true e f g = let h = apart k l e in absurd (cc)
    go true c false e f g = refl
    go false true true e f g = let h : key_before l l ≡ true = subst (λ (m : Key). key_before l m ≡ true) (sym (key_eq-same l k g)) f in let i = key_before-irrefl l in absurd (cc)
    go false true false e f g = refl
    go false false true e f g = refl
    go false false false e f g = let h : key_eq l l ≡ false = subst (λ (m : Key). key_eq l m ≡ false) (key_before-same k l e f) g in let i = key_eq-refl l in absurd (cc)

abbrev nought : Fraction
nought = record { num = pos 0; den = pos 1; lowest = record { positive = omega (arith, ints); coprime = (dvd-zero 1, dvd_refl 1, λ d p q. q) } }

abbrev code_of : Key → CodeKey
code_of k = record { exp = record { a = k.exp.a; b = k.exp.b }; powers = k.powers.t1 ∷ k.powers.t2 ∷ k.powers.t3 ∷ k.powers.t4 ∷ k.powers.t5 ∷ k.powers.t6 ∷ k.powers.t7 ∷ k.powers.t8 ∷ [] }

stable-keys : (xs ys : List Item) → IsStableBy item_before xs ys → (k : Key) → filter (λ (t : Item). key_eq (key_of t.0) k) ys ≡ filter (λ (t : Item). key_eq (key_of t.0) k) xs
stable-keys xs ys s k = subst (λ (p : Item → Bool). filter p ys ≡ filter p xs) (λ i t. tied k (key_of t.0) i) (s (code_of k, nought))

-- ---- lists of the program as lists of coefficients

of_key-lie : (k : Key) (xs : List Item) → of_key k (lie_of xs) ≡ lie_of (filter (λ t. key_eq (key_of t.0) k) xs)
of_key-lie k [] = refl
of_key-lie k (t ∷ xs) = go (key_eq (key_of t.0) k) (of_key-lie k xs)
  where
    go : (b : Bool) → of_key k (lie_of xs) ≡ lie_of (filter (λ t. key_eq (key_of t.0) k) xs)
        → cond b (coefficient_of t ∷ of_key k (lie_of xs)) (of_key k (lie_of xs)) ≡ lie_of (cond b (t ∷ filter (λ t. key_eq (key_of t.0) k) xs) (filter (λ t. key_eq (key_of t.0) k) xs))
    go true i = ap (λ h. coefficient_of t ∷ h) i
    go false i = i

ascends-next : (xs : List Item) → ((k : ℕ) (d : Item) → suc k < length xs → item_before (get_or xs (suc k) d) (get_or xs k d) ≡ false) → Ascends (lie_of xs)
ascends-next [] h = tt
ascends-next (t ∷ []) h = (tt, tt)
ascends-next (t ∷ u ∷ xs) h = (h 0 t (omega arith), ascends-next (u ∷ xs) (λ k d l. h (suc k) d (omega (arith, l))))

ascends-all : (xs : List Item) → ((k : ℕ) (d : Item) → k + 1 < length xs → item_before (get_or xs (k + 1) d) (get_or xs k d) ≡ false) → Ascends (lie_of xs)
ascends-all xs h = ascends-next xs (λ k d l. subst (λ (n : ℕ). item_before (get_or xs n d) (get_or xs k d) ≡ false) (add-one k) (h k d (omega (arith, l))))

pub ratios-lowest : (xs : List Item) → Every (λ t. IsRatio t.1) (lie_of xs)
ratios-lowest [] = tt
ratios-lowest (t ∷ xs) = (record { below = t.1.lowest.positive; lowest = t.1.lowest.coprime }, ratios-lowest xs)

-- terms found in order are arranged
pub found-arranged : (xs ys : List Item) (r : Bool) → xs ≡ ys → IsAllAdjacentAnswer (λ t u b. b ≡ not (item_before u t)) xs r → r ≡ true → IsArranged (lie_of ys) (lie_of ys)
found-arranged xs ys false e h q = absurd (cc)
found-arranged xs ys true e h q = subst (λ (s : List Item). IsArranged (lie_of s) (lie_of s)) e (record { ascends = ascends-all xs (λ k d l. not-out (item_before (get_or xs (k + 1) d) (get_or xs k d)) (sym (h k d l))); stable = λ k. refl })

-- terms that were sorted are arranged
pub sorted-arranged : (xs ys : List Item) → ((k : ℕ) (d : Item) → k + 1 < length ys → item_before (get_or ys (k + 1) d) (get_or ys k d) ≡ false) → IsStableBy item_before xs ys → IsArranged (lie_of ys) (lie_of xs)
sorted-arranged xs ys a s = record { ascends = ascends-all ys a; stable = λ k. of_key-lie k ys ∙ ap lie_of (stable-keys xs ys s k) ∙ sym (of_key-lie k xs) }

-- ---- the element of distinct terms

module _ (r s : List Item) (a : IsArranged (lie_of r) (lie_of s)) (d : EveryPair (λ t u. t.0 ≢ u.0) (lie_of s)) (e : Every (λ t. t.0.exp ≢ origin) (lie_of s)) (n : Every (λ t. t.1.num ≢ pos 0) (lie_of s)) where
  pub arranged-element : IsElement (lie_of r)
  arranged-element = record {
    rises = rises-ascending (lie_of r) a.ascends (λ k. rw (a.stable k) (one-of_key k (lie_of s) d));
    exponents = Every-same (λ t. t.0.exp ≢ origin) (lie_of s) (lie_of r) a.stable e;
    nonzero = Every-same (λ t. t.1.num ≢ pos 0) (lie_of s) (lie_of r) a.stable n;
    ratios = ratios-lowest r;
  }

  pub arranged-of : IsElementOf (lie_of r) (lie_of s)
  arranged-of = record { element = arranged-element; same = ratio_at-same (lie_of s) (lie_of r) a.stable }
