-- A stable sort gives the list in order.
use Rattle.std.proofs.Common.{◌≡◌, ℕ, suc, ◌<◌, refl, sym, subst, ap, ◌∙◌, List, [], ◌∷◌, length, get_or, Bool, true, false, cond, inl, inr, arith, add-one}
use Rattle.std.specs.Prelude.{filter, not}
use Rattle.std.specs.Cmp.{IsStrictWeakOrder}
use Rattle.std.specs.List.Sorted.{IsSortedBy, IsStableBy, ties}
use Rattle.scattering.specs.Collections.{In, Every, EveryPair, in_order, put}
use Rattle.scattering.proofs.Lists.{Every-at, filter-from, and-left, and-right, not-out}
use Rattle.crossing_theory.proofs.SortingByAngle.{in_order-sorted, in_order-filter, put-first}

module _ {A : Type 0} (before : A → A → Bool) (order : IsStrictWeakOrder before) where
  pub after : (x y z : A) → Unit {0} → Unit {0} → Unit {0} → before y x ≡ false → before z y ≡ false → before z x ≡ false
  after x y z _ _ _ p q = order.chain z y x q p

  pub any : (xs : List A) → Every (λ (x : A). Unit {0}) xs
  any [] = tt
  any (x ∷ xs) = (tt, any xs)

  itself : (x : A) → before x x ≡ false
  itself x = go (before x x) refl
    where
      go : (b : Bool) → before x x ≡ b → b ≡ false
      go true e = let f = order.one_way x x e in absurd (cc)
      go false e = refl

  -- ---- sorted by neighbours, sorted by pairs

  abbrev InSequence : List A → Type 0
  InSequence xs = EveryPair (λ y z. before z y ≡ false) xs

  after-all : (x y : A) (ys : List A) → before y x ≡ false → Every (λ z. before z y ≡ false) ys → Every (λ z. before z x ≡ false) ys
  after-all x y [] e h = tt
  after-all x y (z ∷ ys) e h = (order.chain z y x h.0 e, after-all x y ys e h.1)

  pairs-from : (xs : List A) → ((k : ℕ) (d : A) → suc k < length xs → before (get_or xs (suc k) d) (get_or xs k d) ≡ false) → InSequence xs
  pairs-from [] h = tt
  pairs-from (x ∷ []) h = (tt, tt)
  pairs-from (x ∷ y ∷ ys) h =
      let s : InSequence (y ∷ ys) = pairs-from (y ∷ ys) (λ k d l. h (suc k) d (omega (arith, l))) in
      let e : before y x ≡ false = h 0 x (omega arith) in
      ((e, after-all x y ys e s.0), s)

  sorted-pairs : (xs : List A) → IsSortedBy before xs → InSequence xs
  sorted-pairs xs h = pairs-from xs (λ k d l. subst (λ (n : ℕ). before (get_or xs n d) (get_or xs k d) ≡ false) (add-one k) (h k d (omega arith) (omega (arith, l))))

  -- ---- sorted lists with the same ties are one list

  tied-itself : (x : A) → ties before x x ≡ true
  tied-itself x = rw (itself x) refl

  first-least : (y z : A) (ys : List A) → InSequence (y ∷ ys) → In z (y ∷ ys) → before z y ≡ false
  first-least y z ys p (inl e) = subst (λ (w : A). before w y ≡ false) (sym e) (itself y)
  first-least y z ys p (inr i) = Every-at (λ (w : A). before w y ≡ false) ys z p.0 i

  own-first : (z : A) (zs : List A) → In z (filter (ties before z) (z ∷ zs))
  own-first z zs = rw (tied-itself z) (inl refl)

  stands-in : (z : A) (zs ys : List A) → filter (ties before z) ys ≡ filter (ties before z) (z ∷ zs) → In z ys
  stands-in z zs ys e = (filter-from (ties before z) ys z (subst (λ (l : List A). In z l) (sym e) (own-first z zs))).0

  tied : (y z : A) → before y z ≡ false → before z y ≡ false → ties before y z ≡ true
  tied y z p q = rw (p, q) refl

  dropped : (b : Bool) (y : A) (ys zs : List A) → cond b (y ∷ ys) ys ≡ cond b (y ∷ zs) zs → ys ≡ zs
  dropped true y ys zs e = cc
  dropped false y ys zs e = e

  sorted-same : (ys zs : List A) → InSequence ys → InSequence zs → ((x : A) → filter (ties before x) ys ≡ filter (ties before x) zs) → ys ≡ zs
  sorted-same [] [] p q s = refl
  sorted-same [] (z ∷ zs) p q s = absurd (stands-in z zs [] (s z))
  sorted-same (y ∷ ys) [] p q s = absurd (stands-in y ys [] (sym (s y)))
  sorted-same (y ∷ ys) (z ∷ zs) p q s =
      joined first (sorted-same ys zs p.1 q.1 (λ x. dropped (ties before x y) y (filter (ties before x) ys) (filter (ties before x) zs) (s x ∙ ap (λ (w : A). filter (ties before x) (w ∷ zs)) (sym first))))
    where
      both : ties before y z ≡ true
      both = tied y z (first-least z y zs q (stands-in y ys (z ∷ zs) (sym (s y)))) (first-least y z ys p (stands-in z zs (y ∷ ys) (s z)))

      first : y ≡ z
      first =
          let e : y ∷ filter (ties before y) ys ≡ z ∷ filter (ties before y) zs = ap (λ (b : Bool). cond b (y ∷ filter (ties before y) ys) (filter (ties before y) ys)) (sym (tied-itself y)) ∙ s y ∙ ap (λ (b : Bool). cond b (z ∷ filter (ties before y) zs) (filter (ties before y) zs)) both in
          cc

      joined : y ≡ z → ys ≡ zs → y ∷ ys ≡ z ∷ zs
      joined e f = cc

  -- ---- ties keep their order

  tied-in_order : (x : A) (zs : List A) → Every (λ z. ties before x z ≡ true) zs → in_order before zs ≡ zs
  tied-in_order x [] h = refl
  tied-in_order x (z ∷ zs) h = ap (put before z) (tied-in_order x zs h.1) ∙ put-first before (λ _. Unit {0}) after order.one_way z zs (not-before zs h.1)
    where
      not-before : (ws : List A) → Every (λ w. ties before x w ≡ true) ws → Every (λ w. before w z ≡ false) ws
      not-before [] k = tt
      not-before (w ∷ ws) k = (order.chain w x z (not-out (before w x) (and-right (not (before x w)) (not (before w x)) k.0)) (not-out (before x z) (and-left (not (before x z)) (not (before z x)) h.0)), not-before ws k.1)

  all-pass : (b : A → Bool) (xs : List A) → Every (λ x. b x ≡ true) (filter b xs)
  all-pass b [] = tt
  all-pass b (x ∷ xs) = go (b x) refl (all-pass b xs)
    where
      go : (c : Bool) → b x ≡ c → Every (λ x. b x ≡ true) (filter b xs) → Every (λ x. b x ≡ true) (cond c (x ∷ filter b xs) (filter b xs))
      go true e h = (e, h)
      go false e h = h

  pub in_order-ties : (x : A) (xs : List A) → filter (ties before x) (in_order before xs) ≡ filter (ties before x) xs
  in_order-ties x xs =
      in_order-filter before (λ _. Unit {0}) after order.one_way (ties before x) xs (any xs)
      ∙ tied-in_order x (filter (ties before x) xs) (all-pass (ties before x) xs)

  pub stable-in_order : (xs ys : List A) → IsSortedBy before ys → IsStableBy before xs ys → ys ≡ in_order before xs
  stable-in_order xs ys p s =
      sorted-same ys (in_order before xs) (sorted-pairs ys p) (in_order-sorted before (λ _. Unit {0}) after order.one_way xs (any xs))
      (λ x. s x ∙ sym (in_order-ties x xs))
