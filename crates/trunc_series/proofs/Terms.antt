-- The steps of the program's merge, over lists of its terms.
use Rattle.std.proofs.Common.{◌≡◌, ℕ, ◌+◌, ◌<◌, ◌≤◌, refl, sym, subst, ap, ◌∙◌, Bool, true, false, cond, List, [], ◌∷◌, ◌++◌, length, get_or, take, drop, ◌-◌, add-one, drop-cons, arith, zero, suc, append_assoc, ◌⊎◌, inl, inr}
use Rattle.std.specs.Prelude.{ℤ, pos, ◌+ℤ◌, ◌==◌, not, IsTrue, filter}
use Rattle.std.proofs.lemmas.List.{take-append-drop, append-nil}
use Rattle.std.proofs.Math.Decide.{dec_le}
use Rattle.std.specs.Ordering.{ordering_index}
use Rattle.std.specs.declared.cmp.Ordering.{Ordering}
use Rattle.std.specs.declared.cmp.Ordering.TheVariants.{Less, Equal, Greater}
use Rattle.scattering.specs.Collections.{Every, EveryPair}
use Rattle.scattering.specs.Series.{Key, Term, Sum, degree, int_eq, key_before}
use Rattle.trunc_series.specs.declared.key.Key.{Key as CodeKey}
use Rattle.trunc_series.specs.declared.arithmetic.Arithmetic.{Arithmetic}
use Rattle.trunc_series.specs.Shown.{key_of, term_of, sum_of, IsTerm, IsValid}
use Rattle.trunc_series.specs.Arithmetic.{kept}
use Rattle.trunc_series.specs.Fronts.{IsFirst, first_after, second_after}
use Rattle.trunc_series.specs.Reduced.{unless_zero, first_terms, key_order}
use Rattle.scattering.proofs.KeyOrder.{key_before-trans}
use Rattle.scattering.proofs.Lists.{Every-from_In, Every-at as of-every, Every-implies}
use Rattle.trunc_series.proofs.Merging.{merge, merge-nil}

abbrev pub no_term : CodeKey × ℤ
no_term = (record { exp = record { a = pos 0; b = pos 0 }; powers = [] }, pos 0)

abbrev pub at : List (CodeKey × ℤ) → ℕ → CodeKey × ℤ
at a i = get_or a i no_term

pub sum_of-append : (s t : List (CodeKey × ℤ)) → sum_of (s ++ t) ≡ sum_of s ++ sum_of t
sum_of-append [] t = refl
sum_of-append (u ∷ s) t = ap (λ r. term_of u ∷ r) (sum_of-append s t)

pub sum_of-drop : (a : List (CodeKey × ℤ)) (i : ℕ) → i < length a → sum_of (drop i a) ≡ term_of (at a i) ∷ sum_of (drop (i + 1) a)
sum_of-drop a i h = rw (add-one, drop-cons a i no_term)

pub sum_of-push : (s : List (CodeKey × ℤ)) (u : CodeKey × ℤ) (f : Sum) → sum_of (s ++ u ∷ []) ++ f ≡ sum_of s ++ term_of u ∷ f
sum_of-push s u f = rw (sum_of-append s (u ∷ [])) (append_assoc (sum_of s) (term_of u ∷ []) f)

pub Every-at : (P : Term → Type 0) (a : List (CodeKey × ℤ)) (i : ℕ) → i < length a → Every P (sum_of a) → P (term_of (at a i))
Every-at P [] i h e = absurd (omega arith)
Every-at P (u ∷ a) zero h e = e.0
Every-at P (u ∷ a) (suc i) h e = Every-at P a i (omega arith) e.1

-- ---- the order of two keys

pub is-less : (b c : Bool) → cond b Less (cond c Greater Equal) ≡ Less → b ≡ true
is-less true c e = refl
is-less false true e = absurd (cc)
is-less false false e = absurd (cc)

pub is-greater : (b c : Bool) → cond b Less (cond c Greater Equal) ≡ Greater → (b ≡ false) × (c ≡ true)
is-greater true c e = absurd (cc)
is-greater false true e = (refl, refl)
is-greater false false e = absurd (cc)

pub is-equal : (b c : Bool) → cond b Less (cond c Greater Equal) ≡ Equal → (b ≡ false) × (c ≡ false)
is-equal true c e = absurd (cc)
is-equal false true e = absurd (cc)
is-equal false false e = (refl, refl)

module _ (rule : Arithmetic) (t u : Term) (f g : Sum) where
  merge-less : key_order t.0 u.0 ≡ Less → merge rule (t ∷ f) (u ∷ g) ≡ t ∷ merge rule f (u ∷ g)
  merge-less e = rw (is-less _ _ e) refl

  merge-greater : key_order t.0 u.0 ≡ Greater → merge rule (t ∷ f) (u ∷ g) ≡ u ∷ merge rule (t ∷ f) g
  merge-greater e = let s = is-greater _ _ e in rw (s.0, s.1) refl

  merge-equal : key_order t.0 u.0 ≡ Equal → (c : ℤ) → c ≡ kept rule (t.1 +ℤ u.1) → merge rule (t ∷ f) (u ∷ g) ≡ cond (int_eq c (pos 0)) (merge rule f g) ((t.0, c) ∷ merge rule f g)
  merge-equal e c k = let s = is-equal _ _ e in rw (k, s.0, s.1) refl

pub sum_of-unless_zero : (out : List (CodeKey × ℤ)) (t : CodeKey × ℤ) (r : Sum) → sum_of (out ++ unless_zero t) ++ r ≡ sum_of out ++ cond (int_eq t.1 (pos 0)) r (term_of t ∷ r)
sum_of-unless_zero out t r = go (int_eq t.1 (pos 0))
  where
    go : (d : Bool) → sum_of (out ++ cond d [] (t ∷ [])) ++ r ≡ sum_of out ++ cond d r (term_of t ∷ r)
    go true = ap (λ xs. sum_of xs ++ r) (append-nil out)
    go false = sum_of-push out t r

-- ---- the steps of the loop

module _ (rule : Arithmetic) (out a b : List (CodeKey × ℤ)) where
  one-step : (t u : CodeKey × ℤ) (o : Ordering) → o ≡ key_order (key_of t.0) (key_of u.0)
      → sum_of (out ++ first_terms rule o t u) ++ merge rule (sum_of (first_after o (t ∷ a))) (sum_of (second_after o (u ∷ b))) ≡ sum_of out ++ merge rule (sum_of (t ∷ a)) (sum_of (u ∷ b))
  one-step t u Less e = sum_of-push out t _ ∙ ap (λ r. sum_of out ++ r) (sym (merge-less rule (term_of t) (term_of u) (sum_of a) (sum_of b) (sym e)))
  one-step t u Greater e = sum_of-push out u _ ∙ ap (λ r. sum_of out ++ r) (sym (merge-greater rule (term_of t) (term_of u) (sum_of a) (sum_of b) (sym e)))
  one-step t u Equal e =
      sum_of-unless_zero out (t.0, kept rule (t.1 +ℤ u.1)) _
      ∙ ap (λ r. sum_of out ++ r) (sym (merge-equal rule (term_of t) (term_of u) (sum_of a) (sum_of b) (sym e) (kept rule (t.1 +ℤ u.1)) refl))

-- the first of two terms is taken
pub merge-step : (rule : Arithmetic) (out a b : List (CodeKey × ℤ)) (t u : CodeKey × ℤ) (o : Ordering) → IsFirst t a → IsFirst u b → o ≡ key_order (key_of t.0) (key_of u.0)
    → sum_of (out ++ first_terms rule o t u) ++ merge rule (sum_of (first_after o a)) (sum_of (second_after o b)) ≡ sum_of out ++ merge rule (sum_of a) (sum_of b)
merge-step rule out a b t u o f g e = rw (f.1, g.1) (one-step rule out f.0 g.0 t u o e)

pub merge-ended : (rule : Arithmetic) (out a b : List (CodeKey × ℤ)) → (a ≡ []) ⊎ (b ≡ []) → sum_of ((out ++ a) ++ b) ≡ sum_of out ++ merge rule (sum_of a) (sum_of b)
merge-ended rule out a b (inl e) = rw e (rw (append-nil out) (sum_of-append out b))
merge-ended rule out a b (inr e) = rw e (rw (append-nil (out ++ a), merge-nil rule (sum_of a)) (sum_of-append out a))

pub sum_of-halves : (a : List (CodeKey × ℤ)) (n : ℕ) → sum_of a ≡ sum_of (take n a) ++ sum_of (drop n a)
sum_of-halves a n = ap sum_of (sym (take-append-drop n a)) ∙ sum_of-append (take n a) (drop n a)

pub sum_of-where : (p : Term → Bool) (a : List (CodeKey × ℤ)) → sum_of (filter (λ t. p (term_of t)) a) ≡ filter p (sum_of a)
sum_of-where p [] = refl
sum_of-where p (t ∷ a) = go (p (term_of t)) (sum_of-where p a)
  where
    go : (b : Bool) → sum_of (filter (λ t. p (term_of t)) a) ≡ filter p (sum_of a) → sum_of (cond b (t ∷ filter (λ t. p (term_of t)) a) (filter (λ t. p (term_of t)) a)) ≡ cond b (term_of t ∷ filter p (sum_of a)) (filter p (sum_of a))
    go true e = ap (λ r. term_of t ∷ r) e
    go false e = e

-- a list of one term
pub alone : (a : List (CodeKey × ℤ)) → 1 ≤ length a → length a < 2 → sum_of a ≡ term_of (at a 0) ∷ []
alone [] h k = absurd (omega arith)
alone (t ∷ []) h k = refl
alone (t ∷ u ∷ a) h k = absurd (omega arith)

-- at most one term is a sorted list
pub rises-short : (a : List (CodeKey × ℤ)) → length a < 2 → EveryPair (λ t u. IsTrue (key_before t.0 u.0)) (sum_of a)
rises-short [] h = tt
rises-short (t ∷ []) h = (tt, tt)
rises-short (t ∷ u ∷ a) h = absurd (omega arith)

-- each key before the next
pub rises-adjacent : (a : List (CodeKey × ℤ)) → ((k : ℕ) → suc k < length a → IsTrue (key_before (key_of (at a k).0) (key_of (at a (suc k)).0))) → EveryPair (λ t u. IsTrue (key_before t.0 u.0)) (sum_of a)
rises-adjacent [] h = tt
rises-adjacent (t ∷ []) h = (tt, tt)
rises-adjacent (t ∷ u ∷ a) h =
    let r = rises-adjacent (u ∷ a) (λ k l. h (suc k) (omega arith)) in
    let first : key_before (key_of t.0) (key_of u.0) ≡ true = h 0 (omega arith) in
    ((first, Every-implies (λ (v : Term). IsTrue (key_before (key_of u.0) v.0)) (λ v. IsTrue (key_before (key_of t.0) v.0)) (sum_of a) (λ v b. key_before-trans (key_of t.0) (key_of u.0) v.0 first b) r.0), r)

pub less-before : (k l : Key) → key_order k l ≡ Less → key_before k l ≡ true
less-before k l e = is-less _ _ e

pub index-less : (o : Ordering) → not (ordering_index o == 0) ≡ false → o ≡ Less
index-less Less e = refl
index-less Equal e = absurd (cc)
index-less Greater e = absurd (cc)

-- one index more
pub adjacent-more : (a : List (CodeKey × ℤ)) (i : ℕ) → 1 ≤ i → ((k : ℕ) → suc k < i → IsTrue (key_before (key_of (at a k).0) (key_of (at a (suc k)).0))) → key_order (key_of (at a (i - 1)).0) (key_of (at a i).0) ≡ Less
    → (k : ℕ) → suc k < i + 1 → IsTrue (key_before (key_of (at a k).0) (key_of (at a (suc k)).0))
adjacent-more a i one h e k l = go (dec_le (suc (suc k)) i)
  where
    go : Dec (suc (suc k) ≤ i) → IsTrue (key_before (key_of (at a k).0) (key_of (at a (suc k)).0))
    go (yes y) = h k (omega (arith, y))
    go (no n) =
        let p : i ≡ suc k = omega (arith, n) in
        let q : i - 1 ≡ k = omega (arith, n) in
        less-before (key_of (at a k).0) (key_of (at a (suc k)).0) (subst (λ (m : ℕ). key_order (key_of (at a k).0) (key_of (at a m).0) ≡ Less) p (subst (λ (m : ℕ). key_order (key_of (at a m).0) (key_of (at a i).0) ≡ Less) q e))

-- ---- what the terms of a series keep

pub terms-raised : (m n : ℕ) (f : Sum) → m ≤ n → IsValid m f → Every (IsTerm n) f
terms-raised m n f l v = Every-from_In _ f (λ t i. (of-every _ f t v.series.nonzero i, of-every _ f t v.small i, let d = of-every (λ (u : Term). degree u.0 ≤ m) f t v.series.low i in omega (arith, d, l)))

pub terms-own : (n : ℕ) (f : Sum) → IsValid n f → Every (IsTerm n) f
terms-own n f v = terms-raised n n f (omega arith) v
