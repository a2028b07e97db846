-- Facts of the terms of a wall's function but 1, of those of the program's list.
use Rattle.std.proofs.Common.{◌≡◌, ◌≢◌, ℕ, zero, suc, refl, sym, subst, ◌∙◌, ◌+◌, ◌<◌, ◌≤◌, Bool, true, false, cond, List, [], ◌∷◌, length, take, slice_index, slice_index_or, slice_set, arith}
use Rattle.std.specs.Prelude.{ℤ, pos, nat_abs, nat_lt, ◌==◌}
use Rattle.std.proofs.lemmas.Bool.Decides.{nat_tests}
use Rattle.std.proofs.lemmas.List.{get_or_default}
use Rattle.scattering.specs.Collections.{Every}
use Rattle.scattering.specs.Series.{Key, degree, unit, key_eq, absolute, rest}
use Rattle.trunc_series.specs.declared.key.Key.{Key as CodeKey}
use Rattle.trunc_series.specs.Shown.{key_of, sum_of}
use Rattle.weight_bounds.specs.Masses.{mass_at, IsBound, IsReached}
use Rattle.weight_bounds.specs.Rows.{HasOthers}
use Rattle.weight_bounds.proofs.Totals.{at_place}
use Rattle.weight_bounds.proofs.Masses.{mass-cons}
use Rattle.weight_bounds.proofs.Rows.{bound-less, set-at, set-cases}

pub rest-each : (Q : Key → Type 0) (xs : List (CodeKey × ℤ)) → ((j : ℕ) (d : CodeKey × ℤ) → j < length xs → 1 ≤ degree (key_of (slice_index_or xs j d).0) → Q (key_of (slice_index_or xs j d).0))
    → HasOthers (sum_of xs) → Every (λ t. Q t.0) (rest (sum_of xs))
rest-each Q [] h o = tt
rest-each Q (x ∷ xs) h o = go (key_eq (key_of x.0) unit) refl o (λ p. rest-each Q xs (λ j d l. h (suc j) d (omega (arith, l))) p)
  where
    go : (b : Bool) → key_eq (key_of x.0) unit ≡ b → HasOthers (sum_of (x ∷ xs)) → (HasOthers (sum_of xs) → Every (λ t. Q t.0) (rest (sum_of xs))) → Every (λ t. Q t.0) (rest (sum_of (x ∷ xs)))
    go true e p r = rw e (r (rw e at p))
    go false e p r = let q : (1 ≤ degree (key_of x.0)) × HasOthers (sum_of xs) = rw e at p in rw e (h 0 x (omega arith) q.0, r q.1)

-- what a term adds to the mass of degree i
abbrev pub share_of : ℕ → CodeKey × ℤ → ℕ
share_of i x = cond (nat_lt 0 (degree (key_of x.0))) (at_place i (degree (key_of x.0)) (nat_abs x.1)) 0

abbrev pub mass_so_far : ℕ → List (CodeKey × ℤ) → ℕ
mass_so_far i xs = mass_at i (absolute (rest (sum_of xs)))

mass-front : (i : ℕ) (x : CodeKey × ℤ) (xs ys : List (CodeKey × ℤ)) → HasOthers (sum_of (x ∷ ys)) → mass_so_far i (x ∷ xs) ≤ share_of i x + mass_so_far i xs
mass-front i x xs ys o = go (key_eq (key_of x.0) unit) refl o
  where
    positive : (d : ℕ) → 1 ≤ d → nat_lt 0 d ≡ true
    positive d p = grind (arith, nat_tests)

    go : (b : Bool) → key_eq (key_of x.0) unit ≡ b → HasOthers (sum_of (x ∷ ys)) → mass_so_far i (x ∷ xs) ≤ share_of i x + mass_so_far i xs
    go true e p = rw e (omega arith)
    go false e p =
        let q : (1 ≤ degree (key_of x.0)) × HasOthers (sum_of ys) = rw e at p in
        let a = mass-cons i (key_of x.0, pos (nat_abs x.1)) (absolute (rest (sum_of xs))) in
        let b = positive (degree (key_of x.0)) q.0 in
        rw (e, b) (omega (arith, a))

later : (x : CodeKey × ℤ) (xs : List (CodeKey × ℤ)) → HasOthers (sum_of (x ∷ xs)) → HasOthers (sum_of xs)
later x xs o = go (key_eq (key_of x.0) unit) refl o
  where
    go : (b : Bool) → key_eq (key_of x.0) unit ≡ b → HasOthers (sum_of (x ∷ xs)) → HasOthers (sum_of xs)
    go true e p = rw e at p
    go false e p = let q : (1 ≤ degree (key_of x.0)) × HasOthers (sum_of xs) = rw e at p in q.1

-- the order in which terms are added makes no difference
mass-swap : (i : ℕ) (x : CodeKey × ℤ) (xs : List (CodeKey × ℤ)) (c : ℕ) (ys : List (CodeKey × ℤ)) → mass_so_far i ys ≤ mass_so_far i xs + c → mass_so_far i (x ∷ ys) ≤ mass_so_far i (x ∷ xs) + c
mass-swap i x xs c ys h = go (key_eq (key_of x.0) unit) refl
  where
    go : (b : Bool) → key_eq (key_of x.0) unit ≡ b → mass_so_far i (x ∷ ys) ≤ mass_so_far i (x ∷ xs) + c
    go true e = rw e h
    go false e =
        let a = mass-cons i (key_of x.0, pos (nat_abs x.1)) (absolute (rest (sum_of xs))) in
        let b = mass-cons i (key_of x.0, pos (nat_abs x.1)) (absolute (rest (sum_of ys))) in
        rw e (omega (arith, a, b, h))

pub mass-next : (i j : ℕ) (d : CodeKey × ℤ) (xs : List (CodeKey × ℤ)) → j < length xs → HasOthers (sum_of xs) → mass_so_far i (take (j + 1) xs) ≤ mass_so_far i (take j xs) + share_of i (slice_index_or xs j d)
mass-next i j d xs l o = let e : suc j ≡ j + 1 = omega arith in subst (λ (n : ℕ). mass_so_far i (take n xs) ≤ mass_so_far i (take j xs) + share_of i (slice_index_or xs j d)) e (go j xs l o)
  where
    go : (j : ℕ) (xs : List (CodeKey × ℤ)) → j < length xs → HasOthers (sum_of xs) → mass_so_far i (take (suc j) xs) ≤ mass_so_far i (take j xs) + share_of i (slice_index_or xs j d)
    go j [] l o = absurd (omega (arith, l))
    go zero (x ∷ xs) l o = let a = mass-front i x [] xs o in omega (arith, a)
    go (suc j) (x ∷ xs) l o = mass-swap i x (take j xs) (share_of i (slice_index_or xs j d)) (take (suc j) xs) (go j xs (omega (arith, l)) (later x xs o))

share-most : (i : ℕ) (x : CodeKey × ℤ) → share_of i x ≤ nat_abs x.1
share-most i x = go (degree (key_of x.0)) (nat_abs x.1)
  where
    go : (d c : ℕ) → cond (nat_lt 0 d) (cond (d == i) c 0) 0 ≤ c
    go d c = grind (arith, nat_tests)

share-none : (i d c : ℕ) → d ≢ i → cond (nat_lt 0 d) (cond (d == i) c 0) 0 ≡ 0
share-none i d c o = grind (arith, nat_tests)

share-zero : (i c : ℕ) → cond (nat_lt 0 0) (cond (0 == i) c 0) 0 ≡ 0
share-zero i c = refl

-- one more term, added at its degree
pub masses-more : (k j x e : ℕ) (d : CodeKey × ℤ) (xs : List (CodeKey × ℤ)) (masses : List ℕ) → e ≡ degree (key_of (slice_index_or xs j d).0) → e < length masses → j < length xs → HasOthers (sum_of xs)
    → ((v : ℕ) → IsBound (slice_index masses e) v → IsBound x (v + nat_abs (slice_index_or xs j d).1))
    → ((i : ℕ) → i ≤ k → IsBound (slice_index masses i) (mass_so_far i (take j xs))) → (i : ℕ) → i ≤ k → IsBound (slice_index (slice_set masses e x) i) (mass_so_far i (take (j + 1) xs))
masses-more k j x e d xs masses is low l o step h i q =
    let n = mass-next i j d xs l o in
    set-cases (λ i y. i ≤ k → mass_so_far i (take (j + 1) xs) ≤ mass_so_far i (take j xs) + share_of i (slice_index_or xs j d) → IsBound y (mass_so_far i (take (j + 1) xs))) masses e x i low
    (λ s p m. let a = share-most i (slice_index_or xs j d) in bound-less x (mass_so_far i (take j xs) + nat_abs (slice_index_or xs j d).1) _ (omega (arith, m, a))
    (step (mass_so_far i (take j xs)) (subst (λ (n : ℕ). IsBound (slice_index masses n) (mass_so_far i (take j xs))) s (h i p))))
    (λ s p m. let a = share-none i (degree (key_of (slice_index_or xs j d).0)) (nat_abs (slice_index_or xs j d).1) (λ r. s (sym r ∙ sym is)) in bound-less (slice_index masses i)
    (mass_so_far i (take j xs)) _ (omega (arith, m, a)) (h i p))
    q n

-- one that adds nothing
pub masses-same : (k j : ℕ) (d : CodeKey × ℤ) (xs : List (CodeKey × ℤ)) (masses : List ℕ) → j < length xs → HasOthers (sum_of xs)
    → ((i : ℕ) → i ≤ k → share_of i (slice_index_or xs j d) ≡ 0)
    → ((i : ℕ) → i ≤ k → IsBound (slice_index masses i) (mass_so_far i (take j xs))) → (i : ℕ) → i ≤ k → IsBound (slice_index masses i) (mass_so_far i (take (j + 1) xs))
masses-same k j d xs masses l o none h i q =
    let n = mass-next i j d xs l o in
    let z = none i q in
    bound-less (slice_index masses i) (mass_so_far i (take j xs)) _ (omega (arith, n, z)) (h i q)

-- one of degree 0 or of a degree above the order
pub share-outside : (k i : ℕ) (x : CodeKey × ℤ) → i ≤ k → (0 < degree (key_of x.0) → degree (key_of x.0) ≤ k → ⊥) → share_of i x ≡ 0
share-outside k i x l h = go (degree (key_of x.0)) (nat_abs x.1) h
  where
    go : (d c : ℕ) → (0 < d → d ≤ k → ⊥) → cond (nat_lt 0 d) (cond (d == i) c 0) 0 ≡ 0
    go zero c h = refl
    go (suc d) c h = let n : suc d ≢ i = (λ e. h (omega arith) (omega (arith, e, l))) in share-none i (suc d) c n

-- ---- exponents

-- what a term's exponents are within, at its degree
abbrev pub IsReachedAt : ℕ → List ℕ → CodeKey × ℤ → Type 0
IsReachedAt k reach x = 1 ≤ degree (key_of x.0) → degree (key_of x.0) ≤ k → (nat_abs x.0.exp.a ≤ slice_index reach (degree (key_of x.0))) × (nat_abs x.0.exp.b ≤ slice_index reach (degree (key_of x.0)))

abbrev pub AreReached : ℕ → List ℕ → ℕ → List (CodeKey × ℤ) → Type 0
AreReached k reach n xs = (j : ℕ) (d : CodeKey × ℤ) → j < n → n ≤ length xs → IsReachedAt k reach (slice_index_or xs j d)

reached-more : (k : ℕ) (old new : List ℕ) (x : CodeKey × ℤ) → ((i : ℕ) → slice_index old i ≤ slice_index new i) → IsReachedAt k old x → IsReachedAt k new x
reached-more k old new x h r p q = let a = r p q in let m = h (degree (key_of x.0)) in let a' = a.0 in let b' = a.1 in (omega (arith, a', m), omega (arith, b', m))

-- one more term
pub reached-next : (k n : ℕ) (d : CodeKey × ℤ) (xs : List (CodeKey × ℤ)) (old new : List ℕ) → n < length xs → ((i : ℕ) → slice_index old i ≤ slice_index new i) → AreReached k old n xs
    → IsReachedAt k new (slice_index_or xs n d) → AreReached k new (n + 1) xs
reached-next k n d xs old new l h r o j d' p q = go (j == n) refl
  where
    go : (b : Bool) → (j == n) ≡ b → IsReachedAt k new (slice_index_or xs j d')
    go true e = let s : j ≡ n = grind (arith, nat_tests) in rw (s, get_or_default xs n d' d l) o
    go false e = reached-more k old new (slice_index_or xs j d') h (r j d' (below j n p e) (omega (arith, l)))
      where
        below : (j n : ℕ) → j < n + 1 → (j == n) ≡ false → j < n
        below j n p e = grind (arith, nat_tests)

-- a term at its degree
pub reach-set : (k e m : ℕ) (x : CodeKey × ℤ) (reach : List ℕ) → e ≡ degree (key_of x.0) → e < length reach → nat_abs x.0.exp.a ≤ m → nat_abs x.0.exp.b ≤ m → IsReachedAt k (slice_set reach e m) x
reach-set k e m x reach is l a b p q = let s = (set-at reach e (degree (key_of x.0)) m l).0 (sym is) in rw s (a, b)

pub all-reached : (k : ℕ) (reach : List ℕ) (n : ℕ) (xs : List (CodeKey × ℤ)) → n ≡ length xs → AreReached k reach n xs → HasOthers (sum_of xs) → IsReached k reach (sum_of xs)
all-reached k reach n xs e h o =
    rest-each (λ x. degree x ≤ k → (nat_abs x.exp.a ≤ slice_index reach (degree x)) × (nat_abs x.exp.b ≤ slice_index reach (degree x))) xs
    (λ j d l p q. h j d (omega (arith, e, l)) (omega (arith, e)) p q) o
