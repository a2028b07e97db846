-- The least degree of the terms of a list, one term after another.
use Rattle.std.proofs.Common.{◌≡◌, ℕ, ◌+◌, ◌<◌, ◌≤◌, refl, sym, ap, subst, ◌∙◌, Bool, true, false, not, ◌||◌, cond, List, [], ◌∷◌, ◌++◌, take, min, length, append-nil, arith, Option, Some, None, ◌⊎◌, inl, inr}
use Rattle.std.specs.Prelude.{ℤ, nat_le, nat_lt}
use Rattle.std.specs.List.{list_any}
use Rattle.std.proofs.lemmas.List.{take_more}
use Rattle.std.proofs.lemmas.List.Folds.{list_any-append}
use Rattle.std.proofs.lemmas.List.Elements.{filter-append}
use Rattle.scattering.specs.Series.{Term, Sum, degree, rest, key_eq, unit}
use Rattle.scattering.proofs.Lists.{any-weaken, or-first}
use Rattle.trunc_series.specs.declared.key.Key.{Key as CodeKey}
use Rattle.trunc_series.specs.Shown.{key_of, term_of, sum_of}
use Rattle.trunc_series.proofs.Terms.{at, no_term, sum_of-append}
use Rattle.scatter_diagram.specs.Degrees.{IsLeastDegree, lesser_of}

-- some term's key is another than 1 where some term is left without the constant one
pub any-rest : (ts : List (CodeKey × ℤ)) → list_any (λ t. not (key_eq (key_of t.0) unit)) ts ≡ list_any (λ (t : Term). true) (rest (sum_of ts))
any-rest [] = refl
any-rest (t ∷ ts) = go (key_eq (key_of t.0) unit) refl (any-rest ts)
  where
    go : (b : Bool) → key_eq (key_of t.0) unit ≡ b → list_any (λ t. not (key_eq (key_of t.0) unit)) ts ≡ list_any (λ (t : Term). true) (rest (sum_of ts))
        → list_any (λ t. not (key_eq (key_of t.0) unit)) (t ∷ ts) ≡ list_any (λ (t : Term). true) (rest (sum_of (t ∷ ts)))
    go true e h = rw e h
    go false e h = rw e refl

-- ---- one more term

none-empty : (f : Sum) → list_any (λ (t : Term). true) f ≡ false → f ≡ []
none-empty [] e = refl
none-empty (t ∷ f) e = absurd (cc)

le-self : (d : ℕ) → nat_le d d ≡ true
le-self d = grind arith

lt-self : (d : ℕ) → nat_lt d d ≡ false
lt-self d = grind arith

at-most : (f : Sum) (n m : ℕ) → m ≤ n → list_any (λ (t : Term). nat_lt (degree t.0) n) f ≡ false → list_any (λ (t : Term). nat_lt (degree t.0) m) f ≡ false
at-most f n m h e = any-weaken (λ (t : Term). nat_lt (degree t.0) n) (λ (t : Term). nat_lt (degree t.0) m) f (λ t q. less (degree t.0) q) e
  where
    less : (d : ℕ) → nat_lt d n ≡ false → nat_lt d m ≡ false
    less d q = grind (arith, h)

or-none : (a b : Bool) → a ≡ false → b ≡ false → (a || (b || false)) ≡ false
or-none a b e q = rw (e, q) refl

or-second : (a b : Bool) → b ≡ true → (a || (b || false)) ≡ true
or-second true b e = refl
or-second false b e = rw e refl

pub least-push : (f : Sum) (t : Term) (o : Option ℕ) → IsLeastDegree f o → IsLeastDegree (f ++ t ∷ []) (Some (lesser_of o (degree t.0)))
least-push f t None h = let e = none-empty f h in rw e (rw (le-self (degree t.0)) refl, rw (lt-self (degree t.0)) refl)
least-push f t (Some m) h = go (order m (degree t.0))
  where
    order : (m d : ℕ) → ((m ≤ d) × (min m d ≡ m)) ⊎ ((d ≤ m) × (min m d ≡ d))
    order m d = side (nat_le m d) refl
      where
        side : (b : Bool) → nat_le m d ≡ b → ((m ≤ d) × (min m d ≡ m)) ⊎ ((d ≤ m) × (min m d ≡ d))
        side true e = inl (grind arith, grind arith)
        side false e = inr (grind arith, grind arith)

    go : ((m ≤ degree t.0) × (min m (degree t.0) ≡ m)) ⊎ ((degree t.0 ≤ m) × (min m (degree t.0) ≡ degree t.0)) → IsLeastDegree (f ++ t ∷ []) (Some (min m (degree t.0)))
    go (inl c) = rw (c.1, list_any-append (λ (t : Term). nat_le (degree t.0) m) f (t ∷ []), list_any-append (λ (t : Term). nat_lt (degree t.0) m) f (t ∷ [])) (or-first _ _ h.0, or-none _ _ h.1 (grind (arith, c.0)))
    go (inr c) =
        rw (c.1, list_any-append (λ (u : Term). nat_le (degree u.0) (degree t.0)) f (t ∷ []), list_any-append (λ (u : Term). nat_lt (degree u.0) (degree t.0)) f (t ∷ []))
        (or-second _ _ (le-self (degree t.0)), or-none _ _ (at-most f m (degree t.0) c.0 h.1) (lt-self (degree t.0)))

rest-more : (ts : List (CodeKey × ℤ)) (i : ℕ) → i < length ts → rest (sum_of (take (i + 1) ts)) ≡ rest (sum_of (take i ts)) ++ cond (not (key_eq (key_of (at ts i).0) unit)) (term_of (at ts i) ∷ []) []
rest-more ts i h =
    ap (λ r. rest (sum_of r)) (take_more ts i no_term h) ∙ ap rest (sum_of-append (take i ts) (at ts i ∷ []))
    ∙ filter-append (λ (t : Term). not (key_eq t.0 unit)) (sum_of (take i ts)) (term_of (at ts i) ∷ [])

pub least-constant : (ts : List (CodeKey × ℤ)) (i : ℕ) (o : Option ℕ) → i < length ts → key_eq (key_of (at ts i).0) unit ≡ true → IsLeastDegree (rest (sum_of (take i ts))) o → IsLeastDegree (rest (sum_of (take (i + 1) ts))) o
least-constant ts i o l e h = subst (λ (f : Sum). IsLeastDegree f o) (sym (rest-more ts i l ∙ rw e (append-nil _))) h

pub least-other : (ts : List (CodeKey × ℤ)) (i : ℕ) (o p : Option ℕ) → i < length ts → key_eq (key_of (at ts i).0) unit ≡ false → IsLeastDegree (rest (sum_of (take i ts))) o
    → p ≡ Some (lesser_of o (degree (key_of (at ts i).0))) → IsLeastDegree (rest (sum_of (take (i + 1) ts))) p
least-other ts i o p l e h q =
    subst (λ (f : Sum). IsLeastDegree f p) (sym (rest-more ts i l ∙ rw e refl))
    (subst (IsLeastDegree (rest (sum_of (take i ts)) ++ term_of (at ts i) ∷ [])) (sym q) (least-push (rest (sum_of (take i ts))) (term_of (at ts i)) o h))
