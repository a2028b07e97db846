-- Facts that only the elements of some list have: such lists are put together, and what they have is decided.
use Rattle.std.proofs.Common.{◌≡◌, ◌≢◌, ℕ, zero, suc, refl, sym, subst, ◌≤◌, ◌⊎◌, inl, inr, arith, Bool, true, false, List, [], ◌∷◌, ◌++◌, map, length}
use Rattle.std.specs.Prelude.{IsTrue, flat_map}
use native.Mathlib.Decide.{dec_le}
use Rattle.scattering.specs.Collections.{In, Every, Distinct, Lists, MoreThan, AtMost, IsLeast}
use Rattle.scattering.proofs.Lists.{Every-append, Every-flat_map, Every-implies, pairs-append, In-flat_map, Every-from_In, Every-at, In-left, In-map, In-mapped, In-right}

-- a list of exactly the elements with P, some maybe more than once
pub record Listing {A : Type 0} (P : A → Type 0) : Type 0 where
  pub list : List A
  pub each : Every P list
  pub all : (x : A) → P x → In x list

-- ---- decisions

pub both : {P Q : Type 0} → Dec P → Dec Q → Dec (P × Q)
both (yes p) (yes q) = yes (p, q)
both (yes p) (no n) = no (λ h. n h.1)
both (no n) d = no (λ h. n h.0)

pub denied : {P : Type 0} → Dec P → Dec (P → ⊥)
denied (yes p) = no (λ n. n p)
denied (no n) = yes n

pub decided-as : (P Q : Type 0) → (P → Q) → (Q → P) → Dec P → Dec Q
decided-as P Q f g (yes p) = yes (f p)
decided-as P Q f g (no n) = no (λ q. n (g q))

pub is-or-not : (b : Bool) → Dec (b ≡ true)
is-or-not true = yes refl
is-or-not false = no (λ e. cc)

-- equality, where a test decides it
pub tested : {A : Type 0} (b : A → A → Bool) → ((x y : A) → b x y ≡ true → x ≡ y) → ((x : A) → b x x ≡ true) → (x y : A) → Dec (x ≡ y)
tested b same itself x y = decided-as (b x y ≡ true) (x ≡ y) (same x y) (λ e. subst (λ z. b x z ≡ true) e (itself x)) (is-or-not (b x y))

pub same-lists : {A : Type 0} → ((x y : A) → Dec (x ≡ y)) → (xs ys : List A) → Dec (xs ≡ ys)
same-lists d [] [] = yes refl
same-lists d [] (y ∷ ys) = no (λ e. cc)
same-lists d (x ∷ xs) [] = no (λ e. cc)
same-lists {A} d (x ∷ xs) (y ∷ ys) = decided-as ((x ≡ y) × (xs ≡ ys)) (x ∷ xs ≡ y ∷ ys) (λ h. λ i. h.0 i ∷ h.1 i) (λ e. both-same e) (both (d x y) (same-lists d xs ys))
  where
    both-same : (x ∷ xs ≡ y ∷ ys) → (x ≡ y) × (xs ≡ ys)
    both-same e = (cc, cc)

-- ---- lists of what has a fact

module _ {A : Type 0} where
  pub elements : (xs : List A) → Listing (λ x. In x xs)
  elements xs = record { list = xs; each = Every-from_In (λ x. In x xs) xs (λ x i. i); all = λ x i. i }

  pub none : (P : A → Type 0) → ((x : A) → P x → ⊥) → Listing P
  none P n = record { list = []; each = tt; all = λ x p. n x p }

  pub only : (P : A → Type 0) (x : A) → P x → ((y : A) → P y → y ≡ x) → Listing P
  only P x p u = record { list = x ∷ []; each = (p, tt); all = λ y q. inl (u y q) }

  pub listed-as : (P Q : A → Type 0) → ((x : A) → P x → Q x) → ((x : A) → Q x → P x) → Listing P → Listing Q
  listed-as P Q f g l = record { list = l.list; each = Every-from_In Q l.list (λ x i. f x (Every-at P l.list x l.each i)); all = λ x q. l.all x (g x q) }

  pub either : (P Q : A → Type 0) → Listing P → Listing Q → Listing (λ x. P x ⊎ Q x)
  either P Q l r = record {
    list = l.list ++ r.list;
    each = Every-append (λ x. P x ⊎ Q x) l.list r.list (Every-from_In _ l.list (λ x i. inl (Every-at P l.list x l.each i))) (Every-from_In _ r.list (λ x i. inr (Every-at Q r.list x r.each i)));
    all = all;
  }
    where
      all : (x : A) → P x ⊎ Q x → In x (l.list ++ r.list)
      all x (inl p) = In-left l.list r.list x (l.all x p)
      all x (inr q) = In-right l.list r.list x (r.all x q)

  -- those that have a fact that is decided
  chosen : (P Q : A → Type 0) → ((x : A) → P x → Dec (Q x)) → (xs : List A) → Every P xs → Listing (λ x. In x xs × P x × Q x)
  chosen P Q d [] h = none _ (λ x i. i.0)
  chosen P Q d (x ∷ xs) h = go (d x h.0) (chosen P Q d xs h.1)
    where
      later : (y : A) → In y xs × P y × Q y → In y (x ∷ xs) × P y × Q y
      later y i = (inr i.0, i.1, i.2)

      go : Dec (Q x) → Listing (λ y. In y xs × P y × Q y) → Listing (λ y. In y (x ∷ xs) × P y × Q y)
      go (yes q) l = record {
        list = x ∷ l.list;
        each = ((inl refl, h.0, q), Every-from_In _ l.list (λ y i. later y (Every-at (λ y. In y xs × P y × Q y) l.list y l.each i)));
        all = λ y i. found y i i.0;
      }
        where
          found : (y : A) → In y (x ∷ xs) × P y × Q y → In y (x ∷ xs) → In y (x ∷ l.list)
          found y i (inl e) = inl e
          found y i (inr j) = inr (l.all y (j, i.1, i.2))
      go (no n) l = record {
        list = l.list;
        each = Every-from_In _ l.list (λ y i. later y (Every-at (λ y. In y xs × P y × Q y) l.list y l.each i));
        all = λ y i. found y i i.0;
      }
        where
          found : (y : A) → In y (x ∷ xs) × P y × Q y → In y (x ∷ xs) → In y l.list
          found y i (inl e) = absurd (n (subst Q e i.2))
          found y i (inr j) = l.all y (j, i.1, i.2)

  pub choose : (P Q : A → Type 0) → ((x : A) → P x → Dec (Q x)) → Listing P → Listing (λ x. P x × Q x)
  choose P Q d l = listed-as (λ x. In x l.list × P x × Q x) (λ x. P x × Q x) (λ x h. (h.1, h.2)) (λ x h. (l.all x h.0, h.0, h.1)) (chosen P Q d l.list l.each)

  -- whether some have it, and whether all have it
  pub some-or-none : (P : A → Type 0) → Listing P → Dec ((x : A) × P x)
  some-or-none P l = go l.list l.each l.all
    where
      go : (xs : List A) → Every P xs → ((x : A) → P x → In x xs) → Dec ((x : A) × P x)
      go [] h a = no (λ p. a p.0 p.1)
      go (x ∷ xs) h a = yes (x, h.0)

  pub all-or-not : (P Q : A → Type 0) → ((x : A) → P x → Dec (Q x)) → Listing P → ((x : A) × P x × (Q x → ⊥)) ⊎ ((x : A) → P x → Q x)
  all-or-not P Q d l = go (some-or-none _ (choose P (λ x. Q x → ⊥) (λ x p. denied (d x p)) l))
    where
      sure : (x : A) → Dec (Q x) → ((Q x → ⊥) → ⊥) → Q x
      sure x (yes q) n = q
      sure x (no m) n = absurd (n m)

      go : Dec ((x : A) × (P x × (Q x → ⊥))) → ((x : A) × P x × (Q x → ⊥)) ⊎ ((x : A) → P x → Q x)
      go (yes h) = inl (h.0, h.1.0, h.1.1)
      go (no n) = inr (λ x p. sure x (d x p) (λ m. n (x, (p, m))))

  -- ---- without doubles
  in-or-not : ((x y : A) → Dec (x ≡ y)) → (x : A) (xs : List A) → Dec (In x xs)
  in-or-not d x [] = no (λ i. i)
  in-or-not d x (y ∷ ys) = go (d x y) (in-or-not d x ys)
    where
      other : (x ≡ y → ⊥) → (In x ys → ⊥) → In x (y ∷ ys) → ⊥
      other n m (inl e) = n e
      other n m (inr i) = m i

      go : Dec (x ≡ y) → Dec (In x ys) → Dec (In x (y ∷ ys))
      go (yes e) i = yes (inl e)
      go (no n) (yes i) = yes (inr i)
      go (no n) (no m) = no (other n m)

  pub record Once (xs : List A) : Type 0 where
    pub list : List A
    pub from : (x : A) → In x list → In x xs
    pub all : (x : A) → In x xs → In x list
    pub once : Distinct list

  pub without-doubles : ((x y : A) → Dec (x ≡ y)) → (xs : List A) → Once xs
  without-doubles d [] = record { list = []; from = λ x i. i; all = λ x i. i; once = tt }
  without-doubles d (x ∷ xs) = (let r = without-doubles d xs in go r (in-or-not d x r.list))
    where
      go : (r : Once xs) → Dec (In x r.list) → Once (x ∷ xs)
      go r (yes i) = record { list = r.list; from = λ y j. inr (r.from y j); all = all; once = r.once }
        where
          all : (y : A) → In y (x ∷ xs) → In y r.list
          all y (inl e) = subst (λ z. In z r.list) (sym e) i
          all y (inr j) = r.all y j
      go r (no n) = record { list = x ∷ r.list; from = from; all = all; once = (Every-from_In (λ y. x ≢ y) r.list (λ y j e. n (subst (λ z. In z r.list) (sym e) j)), r.once) }
        where
          from : (y : A) → In y (x ∷ r.list) → In y (x ∷ xs)
          from y (inl e) = inl e
          from y (inr j) = inr (r.from y j)

          all : (y : A) → In y (x ∷ xs) → In y (x ∷ r.list)
          all y (inl e) = inl e
          all y (inr j) = inr (r.all y j)

  pub lists-once : ((x y : A) → Dec (x ≡ y)) → (P : A → Type 0) → Listing P → (xs : List A) × Lists P xs
  lists-once d P l =
      let r = without-doubles d l.list in
      (r.list, record { each = Every-from_In P r.list (λ x i. Every-at P l.list x l.each (r.from x i)); all = λ x p. r.all x (l.all x p); once = r.once })

  -- more than so many have the fact, or at most so many
  pub more-or-most : (n : ℕ) (P : A → Type 0) (xs : List A) → Lists P xs → MoreThan n P ⊎ AtMost n P
  more-or-most n P xs l = go (dec_le (length xs) n)
    where
      go : Dec (length xs ≤ n) → MoreThan n P ⊎ AtMost n P
      go (yes h) = inr (xs, l.all, h)
      go (no h) = inl (xs, l.each, l.once, omega (arith, h))

  -- ---- the least
  module _ (before : A → A → Bool) (P : A → Type 0)
      (total : (x y : A) → P x → P y → (x ≡ y) ⊎ (IsTrue (before x y) ⊎ IsTrue (before y x)))
      (trans : (x y z : A) → P x → P y → P z → IsTrue (before x y) → IsTrue (before y z) → IsTrue (before x z)) where
    record Lowest (xs : List A) : Type 0 where
      low : A
      has : P low
      least : (y : A) → In y xs → (y ≡ low) ⊎ IsTrue (before low y)

    lowest : (x : A) (xs : List A) → P x → Every P xs → Lowest (x ∷ xs)
    lowest x [] p h = record { low = x; has = p; least = least }
      where
        least : (y : A) → In y (x ∷ []) → (y ≡ x) ⊎ IsTrue (before x y)
        least y (inl e) = inl e
        least y (inr i) = absurd i
    lowest x (z ∷ zs) p h = (let r = lowest z zs h.0 h.1 in go r (total x r.low p r.has))
      where
        go : (r : Lowest (z ∷ zs)) → (x ≡ r.low) ⊎ (IsTrue (before x r.low) ⊎ IsTrue (before r.low x)) → Lowest (x ∷ z ∷ zs)
        go r (inl e) = record { low = r.low; has = r.has; least = least }
          where
            least : (y : A) → In y (x ∷ z ∷ zs) → (y ≡ r.low) ⊎ IsTrue (before r.low y)
            least y (inl f) = inl (cc)
            least y (inr i) = r.least y i
        go r (inr (inl b)) = record { low = x; has = p; least = least }
          where
            after : (y : A) → P y → (y ≡ r.low) ⊎ IsTrue (before r.low y) → (y ≡ x) ⊎ IsTrue (before x y)
            after y q (inl f) = inr (subst (λ (w : A). IsTrue (before x w)) (sym f) b)
            after y q (inr c) = inr (trans x r.low y p r.has q b c)

            least : (y : A) → In y (x ∷ z ∷ zs) → (y ≡ x) ⊎ IsTrue (before x y)
            least y (inl f) = inl f
            least y (inr i) = after y (Every-at P (z ∷ zs) y h i) (r.least y i)
        go r (inr (inr b)) = record { low = r.low; has = r.has; least = least }
          where
            least : (y : A) → In y (x ∷ z ∷ zs) → (y ≡ r.low) ⊎ IsTrue (before r.low y)
            least y (inl f) = inr (subst (λ (w : A). IsTrue (before r.low w)) (sym f) b)
            least y (inr i) = r.least y i

    -- one is before all others, or there is none
    pub least-or-none : Listing P → ((x : A) × IsLeast before P x) ⊎ ((x : A) → P x → ⊥)
    least-or-none l = go l.list l.each l.all
      where
        go : (xs : List A) → Every P xs → ((x : A) → P x → In x xs) → ((x : A) × IsLeast before P x) ⊎ ((x : A) → P x → ⊥)
        go [] h a = inr a
        go (x ∷ xs) h a = inl (let r = lowest x xs h.0 h.1 in (r.low, (r.has, λ y q. r.least y (a y q))))

-- ---- lists of images, of pairs, and of lists

module _ {A B : Type 0} where
  pub images : (P : A → Type 0) (f : A → B) → Listing P → Listing (λ y. (x : A) × P x × (y ≡ f x))
  images P f l = record {
    list = map f l.list;
    each = Every-from_In _ (map f l.list) (λ y i. let r = In-map f l.list y i in (r.0, Every-at P l.list r.0 l.each r.1, r.2));
    all = λ y h. subst (λ z. In z (map f l.list)) (sym h.2) (In-mapped f l.list h.0 (l.all h.0 h.1));
  }

  joined : (P : A → Type 0) (Q : A → B → Type 0) → ((x : A) → P x → Listing (Q x)) → (xs : List A) → Every P xs → Listing (λ y. (x : A) × In x xs × P x × Q x y)
  joined P Q f [] h = none _ (λ y i. i.1)
  joined P Q f (x ∷ xs) h = (let l = f x h.0 in let r = joined P Q f xs h.1 in go l r)
    where
      go : Listing (Q x) → Listing (λ y. (z : A) × In z xs × P z × Q z y) → Listing (λ y. (z : A) × In z (x ∷ xs) × P z × Q z y)
      go l r = listed-as (λ y. Q x y ⊎ ((z : A) × In z xs × P z × Q z y)) (λ y. (z : A) × In z (x ∷ xs) × P z × Q z y) out back (either (Q x) (λ y. (z : A) × In z xs × P z × Q z y) l r)
        where
          out : (y : B) → Q x y ⊎ ((z : A) × In z xs × P z × Q z y) → (z : A) × In z (x ∷ xs) × P z × Q z y
          out y (inl q) = (x, inl refl, h.0, q)
          out y (inr i) = (i.0, inr i.1, i.2, i.3)

          at : (y : B) (z : A) → In z (x ∷ xs) → P z → Q z y → Q x y ⊎ ((z : A) × In z xs × P z × Q z y)
          at y z (inl e) p q = inl (subst (λ w. Q w y) e q)
          at y z (inr i) p q = inr (z, i, p, q)

          back : (y : B) → ((z : A) × In z (x ∷ xs) × P z × Q z y) → Q x y ⊎ ((z : A) × In z xs × P z × Q z y)
          back y i = at y i.0 i.1 i.2 i.3

  -- what belongs to some element of a list
  pub joins : (P : A → Type 0) (Q : A → B → Type 0) → ((x : A) → P x → Listing (Q x)) → Listing P → Listing (λ y. (x : A) × P x × Q x y)
  joins P Q f l =
      listed-as (λ y. (x : A) × In x l.list × P x × Q x y) (λ y. (x : A) × P x × Q x y) (λ y h. (h.0, h.2, h.3)) (λ y h. (h.0, l.all h.0 h.1, h.1, h.2)) (joined P Q f l.list l.each)

module _ {A : Type 0} (P : A → Type 0) where
  abbrev AreUpTo : ℕ → List A → Type 0
  AreUpTo n xs = Every P xs × (length xs ≤ n)

  -- none, or one before at most n
  abbrev AreOneBefore : ℕ → List A → Type 0
  AreOneBefore n xs = (xs ≡ []) ⊎ ((x : A) × P x × ((ys : List A) × AreUpTo n ys × (xs ≡ x ∷ ys)))

  one-more : (n : ℕ) → Listing P → Listing (AreUpTo n) → Listing (AreUpTo (suc n))
  one-more n l r =
      listed-as (AreOneBefore n) (AreUpTo (suc n)) out back
      (either (λ xs. xs ≡ []) (λ xs. (x : A) × P x × ((ys : List A) × AreUpTo n ys × (xs ≡ x ∷ ys)))
      (only (λ xs. xs ≡ []) [] refl (λ xs e. e))
      (joins P (λ x xs. (ys : List A) × AreUpTo n ys × (xs ≡ x ∷ ys)) (λ x p. images (AreUpTo n) (λ ys. x ∷ ys) r) l))
    where
      out : (xs : List A) → AreOneBefore n xs → AreUpTo (suc n) xs
      out xs (inl e) = subst (AreUpTo (suc n)) (sym e) (tt, omega arith)
      out xs (inr h) = let k = h.2.1.1 in subst (AreUpTo (suc n)) (sym h.2.2) ((h.1, h.2.1.0), omega (arith, k))

      back : (xs : List A) → AreUpTo (suc n) xs → AreOneBefore n xs
      back [] h = inl refl
      back (x ∷ xs) h = inr (x, h.0.0, (xs, (h.0.1, (let k = h.1 in omega (arith, k))), refl))

  -- the lists of at most n of the elements
  pub lists-to : Listing P → (n : ℕ) → Listing (λ xs. Every P xs × (length xs ≤ n))
  lists-to l zero = only (AreUpTo 0) [] (tt, omega arith) empty
    where
      empty : (xs : List A) → AreUpTo 0 xs → xs ≡ []
      empty [] h = refl
      empty (x ∷ xs) h = absurd (let k = h.1 in omega (arith, k))
  lists-to l (suc n) = one-more n l (lists-to l n)

-- ---- lists of what belongs to the elements of a list, each once

module _ {A B : Type 0} (Q : A → B → Type 0) (g : A → List B) (same : (x y : A) (z : B) → Q x z → Q y z → x ≡ y) where
  abbrev AreListed : List A → Type 0
  AreListed xs = Every (λ x. Lists (Q x) (g x)) xs

  -- what belongs to x isn't in the lists of others
  other : (x : A) (z : B) → Q x z → (xs : List A) → Every (λ y. x ≢ y) xs → AreListed xs → Every (λ w. z ≢ w) (flat_map g xs)
  other x z q [] n h = tt
  other x z q (y ∷ ys) n h =
      Every-append (λ w. z ≢ w) (g y) (flat_map g ys)
      (Every-implies (Q y) (λ w. z ≢ w) (g y) (λ w r e. n.0 (same x y w (subst (Q x) e q) r)) h.0.each)
      (other x z q ys n.1 h.1)

  joined-once : (xs : List A) → AreListed xs → Distinct xs → Distinct (flat_map g xs)
  joined-once [] h d = tt
  joined-once (x ∷ xs) h d =
      pairs-append (λ z w. z ≢ w) (g x) (flat_map g xs) h.0.once (joined-once xs h.1 d.1)
      (Every-implies (Q x) (λ z. Every (λ w. z ≢ w) (flat_map g xs)) (g x) (λ z q. other x z q xs d.0 h.1) h.0.each)

  -- the lists of what belongs to each, one after another
  pub Lists-joined : (P : A → Type 0) (xs : List A) → Lists P xs → Every (λ x. Lists (Q x) (g x)) xs → Lists (λ z. (x : A) × P x × Q x z) (flat_map g xs)
  Lists-joined P xs l h = record {
    each = Every-flat_map (λ x. P x × Lists (Q x) (g x)) (λ z. (x : A) × P x × Q x z) g xs
        (λ x k. Every-implies (Q x) (λ z. (x : A) × P x × Q x z) (g x) (λ z q. (x, k.0, q)) k.1.each)
        (Every-from_In (λ x. P x × Lists (Q x) (g x)) xs (λ x i. (Every-at P xs x l.each i, Every-at (λ x. Lists (Q x) (g x)) xs x h i)));
    all = λ z k. let i = l.all k.0 k.1 in In-flat_map g xs k.0 z i ((Every-at (λ x. Lists (Q x) (g x)) xs k.0 h i).all z k.2);
    once = joined-once xs h l.once;
  }

-- the same list, of what has another fact
pub Lists-as : {A : Type 0} (P Q : A → Type 0) (xs : List A) → ((x : A) → P x → Q x) → ((x : A) → Q x → P x) → Lists P xs → Lists Q xs
Lists-as P Q xs f g l = record { each = Every-implies P Q xs f l.each; all = λ x q. l.all x (g x q); once = l.once }
