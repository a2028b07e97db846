-- Lists: what holds of every element, of every pair, and which elements a list has.
use Rattle.std.proofs.Common.{◌≡◌, refl, subst, sym, ◌∙◌, ap, List, [], ◌∷◌, ◌++◌, map, Bool, true, false, inl, inr, ◌⊎◌, not, ℕ, zero, suc, ◌<◌, length, get_or, arith}
use Rattle.std.specs.Prelude.{filter, flat_map, ◌||◌, ◌&&◌}
use Rattle.std.specs.List.{list_any, list_all}
use Rattle.scattering.specs.Collections.{In, Every, EveryPair, put, in_order}

pub or-left : (a b : Bool) → (a || b) ≡ false → a ≡ false
or-left true b e = e
or-left false b e = refl

pub or-right : (a b : Bool) → (a || b) ≡ false → b ≡ false
or-right true b e = absurd (cc)
or-right false b e = e

pub and-left : (a b : Bool) → (a && b) ≡ true → a ≡ true
and-left true b e = refl
and-left false b e = e

pub and-right : (a b : Bool) → (a && b) ≡ true → b ≡ true
and-right true b e = e
and-right false b e = absurd (cc)

pub or-false : (a b : Bool) → (a || b) ≡ false → (a ≡ false) × (b ≡ false)
or-false true b e = absurd (cc)
or-false false b e = (refl, e)

pub and-both : (a b : Bool) → (a && b) ≡ true → (a ≡ true) × (b ≡ true)
and-both true b e = (refl, e)
and-both false b e = absurd (cc)

pub Every-implies : {A : Type 0} (P Q : A → Type 0) (xs : List A) → ((x : A) → P x → Q x) → Every P xs → Every Q xs
Every-implies P Q [] i h = tt
Every-implies P Q (x ∷ xs) i h = (i x h.0, Every-implies P Q xs i h.1)

pub Every-put : {A : Type 0} (P : A → Type 0) (before : A → A → Bool) (h : A) (hs : List A) → P h → Every P hs → Every P (put before h hs)
Every-put P before h [] p ps = (p, tt)
Every-put P before h (g ∷ gs) p ps =
    elim (before g h) as (λ b. Every P (elim b [ true ↦ g ∷ put before h gs | false ↦ h ∷ g ∷ gs ])) [
      | true ↦ (ps.0, Every-put P before h gs p ps.1)
      | false ↦ (p, ps)
    ]

pub Every-in_order : {A : Type 0} (P : A → Type 0) (before : A → A → Bool) (hs : List A) → Every P hs → Every P (in_order before hs)
Every-in_order P before [] ps = tt
Every-in_order P before (h ∷ hs) ps = Every-put P before h (in_order before hs) ps.0 (Every-in_order P before hs ps.1)

pub Every-append : {A : Type 0} (P : A → Type 0) (xs ys : List A) → Every P xs → Every P ys → Every P (xs ++ ys)
Every-append P [] ys h i = i
Every-append P (x ∷ xs) ys h i = (h.0, Every-append P xs ys h.1 i)

pub Every-left : {A : Type 0} (P : A → Type 0) (xs ys : List A) → Every P (xs ++ ys) → Every P xs
Every-left P [] ys h = tt
Every-left P (x ∷ xs) ys h = (h.0, Every-left P xs ys h.1)

pub Every-right : {A : Type 0} (P : A → Type 0) (xs ys : List A) → Every P (xs ++ ys) → Every P ys
Every-right P [] ys h = h
Every-right P (x ∷ xs) ys h = Every-right P xs ys h.1

pub Every-filter : {A : Type 0} (P : A → Type 0) (b : A → Bool) (xs : List A) → Every P xs → Every P (filter b xs)
Every-filter P b [] h = tt
Every-filter P b (x ∷ xs) h = go (b x) refl (Every-filter P b xs h.1)
  where
    go : (c : Bool) → b x ≡ c → Every P (filter b xs) → Every P (filter b (x ∷ xs))
    go true e i = rw e (h.0, i)
    go false e i = rw e i

pub Every-flat_map : {A B : Type 0} (P : A → Type 0) (Q : B → Type 0) (f : A → List B) (xs : List A) → ((x : A) → P x → Every Q (f x)) → Every P xs → Every Q (flat_map f xs)
Every-flat_map P Q f [] i h = tt
Every-flat_map P Q f (x ∷ xs) i h = Every-append Q (f x) (flat_map f xs) (i x h.0) (Every-flat_map P Q f xs i h.1)

pub Every-map : {A B : Type 0} (P : B → Type 0) (g : A → B) (xs : List A) → ((x : A) → P (g x)) → Every P (map g xs)
Every-map P g [] h = tt
Every-map P g (x ∷ xs) h = (h x, Every-map P g xs h)

pub pairs-append : {A : Type 0} (R : A → A → Type 0) (xs ys : List A) → EveryPair R xs → EveryPair R ys → Every (λ x. Every (R x) ys) xs → EveryPair R (xs ++ ys)
pairs-append R [] ys h i c = i
pairs-append R (x ∷ xs) ys h i c = (Every-append (R x) xs ys h.0 c.0, pairs-append R xs ys h.1 i c.1)

-- any two elements of a list with Q are related
pub pairs-all : {A : Type 0} (Q : A → Type 0) (R : A → A → Type 0) (xs : List A) → ((x y : A) → Q x → Q y → R x y) → Every Q xs → EveryPair R xs
pairs-all Q R [] r h = tt
pairs-all Q R (x ∷ xs) r h = (Every-implies Q (R x) xs (λ y q. r x y h.0 q) h.1, pairs-all Q R xs r h.1)

pub pairs-implies : {A : Type 0} (R S : A → A → Type 0) (xs : List A) → ((x y : A) → R x y → S x y) → EveryPair R xs → EveryPair S xs
pairs-implies R S [] i h = tt
pairs-implies R S (x ∷ xs) i h = (Every-implies (R x) (S x) xs (i x) h.0, pairs-implies R S xs i h.1)

-- what a test that all elements pass says of each
pub all-every : {A : Type 0} (b : A → Bool) (P : A → Type 0) (xs : List A) → ((x : A) → b x ≡ true → P x) → list_all b xs ≡ true → Every P xs
all-every b P [] f h = tt
all-every b P (x ∷ xs) f h = (f x (and-left (b x) _ h), all-every b P xs f (and-right (b x) _ h))

pub any-weaken : {A : Type 0} (P Q : A → Bool) (xs : List A) → ((x : A) → P x ≡ false → Q x ≡ false) → list_any P xs ≡ false → list_any Q xs ≡ false
any-weaken P Q [] i e = refl
any-weaken P Q (x ∷ xs) i e = rw (i x (or-left (P x) _ e), any-weaken P Q xs i (or-right (P x) _ e)) refl

pub any-none : {A : Type 0} (P : A → Bool) (xs : List A) → list_any P xs ≡ false → (x : A) → In x xs → P x ≡ false
any-none P [] e x h = absurd h
any-none P (y ∷ ys) e x (inl p) = ap P p ∙ or-left (P y) _ e
any-none P (y ∷ ys) e x (inr h) = any-none P ys (or-right (P y) _ e) x h

pub filter-keeps : {A : Type 0} (b : A → Bool) (xs : List A) (x : A) → In x xs → b x ≡ true → In x (filter b xs)
filter-keeps b [] x h e = absurd h
filter-keeps b (y ∷ ys) x (inl p) e = rw (sym (ap b p) ∙ e) (inl p)
filter-keeps b (y ∷ ys) x (inr h) e = go (b y) refl (filter-keeps b ys x h e)
  where
    go : (c : Bool) → b y ≡ c → In x (filter b ys) → In x (filter b (y ∷ ys))
    go true q i = rw q (inr i)
    go false q i = rw q i

pub Every-from_In : {A : Type 0} (P : A → Type 0) (xs : List A) → ((x : A) → In x xs → P x) → Every P xs
Every-from_In P [] h = tt
Every-from_In P (x ∷ xs) h = (h x (inl refl), Every-from_In P xs (λ y i. h y (inr i)))

pub Every-at : {A : Type 0} (P : A → Type 0) (xs : List A) (x : A) → Every P xs → In x xs → P x
Every-at P [] x h i = absurd i
Every-at P (y ∷ ys) x h (inl p) = subst P (sym p) h.0
Every-at P (y ∷ ys) x h (inr i) = Every-at P ys x h.1 i

pub any-false : {A : Type 0} (P : A → Bool) (xs : List A) → ((x : A) → In x xs → P x ≡ false) → list_any P xs ≡ false
any-false P [] h = refl
any-false P (x ∷ xs) h = rw (h x (inl refl), any-false P xs (λ y i. h y (inr i))) refl

pub In-map : {A B : Type 0} (f : A → B) (xs : List A) (y : B) → In y (map f xs) → (x : A) × In x xs × (y ≡ f x)
In-map f [] y i = absurd i
In-map f (x ∷ xs) y (inl e) = (x, inl refl, e)
In-map f (x ∷ xs) y (inr i) = let r = In-map f xs y i in (r.0, inr r.1, r.2)

pub In-append : {A : Type 0} (xs ys : List A) (x : A) → In x (xs ++ ys) → In x xs ⊎ In x ys
In-append [] ys x i = inr i
In-append (y ∷ xs) ys x (inl e) = inl (inl e)
In-append (y ∷ xs) ys x (inr i) = go (In-append xs ys x i)
  where
    go : In x xs ⊎ In x ys → In x (y ∷ xs) ⊎ In x ys
    go (inl j) = inl (inr j)
    go (inr j) = inr j

pub pairs-filter : {A : Type 0} (R : A → A → Type 0) (b : A → Bool) (xs : List A) → EveryPair R xs → EveryPair R (filter b xs)
pairs-filter R b [] h = tt
pairs-filter R b (x ∷ xs) h = go (b x) refl (pairs-filter R b xs h.1)
  where
    go : (c : Bool) → b x ≡ c → EveryPair R (filter b xs) → EveryPair R (filter b (x ∷ xs))
    go true e i = rw e (Every-filter (R x) b xs h.0, i)
    go false e i = rw e i

pub filter-from : {A : Type 0} (b : A → Bool) (xs : List A) (x : A) → In x (filter b xs) → In x xs × (b x ≡ true)
filter-from b [] x i = absurd i
filter-from b (y ∷ ys) x i = go (b y) refl (filter-from b ys x)
  where
    go : (c : Bool) → b y ≡ c → (In x (filter b ys) → In x ys × (b x ≡ true)) → In x (y ∷ ys) × (b x ≡ true)
    go true e f = head (rw e at i)
      where
        head : In x (y ∷ filter b ys) → In x (y ∷ ys) × (b x ≡ true)
        head (inl p) = (inl p, ap b p ∙ e)
        head (inr j) = let r = f j in (inr r.0, r.1)
    go false e f = let r = f (rw e at i) in (inr r.0, r.1)

pub map-append : {A B : Type 0} (f : A → B) (xs ys : List A) → map f (xs ++ ys) ≡ map f xs ++ map f ys
map-append f [] ys = refl
map-append f (x ∷ xs) ys = ap (λ r. f x ∷ r) (map-append f xs ys)

-- a filter of a filter
pub filters-every : {A : Type 0} (P : A → Type 0) (a b : A → Bool) (xs : List A) → Every P (filter a xs) → Every P (filter a (filter b xs))
filters-every P a b [] h = tt
filters-every P a b (x ∷ xs) h = go (filters-every P a b xs) (a x) refl (b x) refl
  where
    go : (Every P (filter a xs) → Every P (filter a (filter b xs))) → (c : Bool) → a x ≡ c → (d : Bool) → b x ≡ d → Every P (filter a (filter b (x ∷ xs)))
    go ih true e true q = let h' : P x × Every P (filter a xs) = rw e at h in rw (q, e) (h'.0, ih h'.1)
    go ih true e false q = let h' : P x × Every P (filter a xs) = rw e at h in rw q (ih h'.1)
    go ih false e true q = let h' : Every P (filter a xs) = rw e at h in rw (q, e) (ih h')
    go ih false e false q = let h' : Every P (filter a xs) = rw e at h in rw q (ih h')

pub Every-mapped : {A : Type 0} (P : A → Type 0) (f : A → A) (xs : List A) → ((x : A) → P x → P (f x)) → Every P xs → Every P (map f xs)
Every-mapped P f [] i h = tt
Every-mapped P f (x ∷ xs) i h = (i x h.0, Every-mapped P f xs i h.1)

pub or-second : (a b : Bool) → b ≡ true → (a || b) ≡ true
or-second true b e = refl
or-second false b e = e

pub or-first : (a b : Bool) → a ≡ true → (a || b) ≡ true
or-first true b e = refl
or-first false b e = absurd (cc)

pub bool_iff : (a b : Bool) → (a ≡ true → b ≡ true) → (b ≡ true → a ≡ true) → a ≡ b
bool_iff true b f g = sym (f refl)
bool_iff false true f g = g refl
bool_iff false false f g = refl

pub not-true : (b : Bool) → (b ≡ true → ⊥) → b ≡ false
not-true true h = absurd (h refl)
not-true false h = refl

-- a test that some element passes
pub any-true : {A : Type 0} (P : A → Bool) (xs : List A) (x : A) → In x xs → P x ≡ true → list_any P xs ≡ true
any-true P [] x i e = absurd i
any-true P (y ∷ ys) x (inl q) e = ap (λ (b : Bool). b || list_any P ys) (sym (ap P q) ∙ e)
any-true P (y ∷ ys) x (inr i) e = or-second (P y) (list_any P ys) (any-true P ys x i e)

pub any-some : {A : Type 0} (P : A → Bool) (xs : List A) → list_any P xs ≡ true → (x : A) × In x xs × (P x ≡ true)
any-some {A = A} P [] e = absurd (cc)
any-some {A = A} P (y ∷ ys) e = go (P y) refl (any-some P ys)
  where
    go : (b : Bool) → P y ≡ b → (list_any P ys ≡ true → (x : A) × In x ys × (P x ≡ true)) → (x : A) × In x (y ∷ ys) × (P x ≡ true)
    go true q f = (y, inl refl, q)
    go false q f = let r = f (rw q at e) in (r.0, inr r.1, r.2)

pub or-out : (a b : Bool) → (a || b) ≡ true → (a ≡ true) ⊎ (b ≡ true)
or-out true b e = inl refl
or-out false b e = inr e

pub and-in : (a b : Bool) → a ≡ true → b ≡ true → (a && b) ≡ true
and-in true b e f = f
and-in false b e f = absurd (cc)

pub not-out : (b : Bool) → not b ≡ true → b ≡ false
not-out true e = absurd (cc)
not-out false e = refl

pub In-mapped : {A B : Type 0} (f : A → B) (xs : List A) (x : A) → In x xs → In (f x) (map f xs)
In-mapped f [] x i = absurd i
In-mapped f (y ∷ ys) x (inl e) = inl (ap f e)
In-mapped f (y ∷ ys) x (inr i) = inr (In-mapped f ys x i)

pub In-left : {A : Type 0} (xs ys : List A) (x : A) → In x xs → In x (xs ++ ys)
In-left [] ys x i = absurd i
In-left (z ∷ xs) ys x (inl e) = inl e
In-left (z ∷ xs) ys x (inr i) = inr (In-left xs ys x i)

pub In-right : {A : Type 0} (xs ys : List A) (x : A) → In x ys → In x (xs ++ ys)
In-right [] ys x i = i
In-right (z ∷ xs) ys x i = inr (In-right xs ys x i)

pub In-flat_map : {A B : Type 0} (f : A → List B) (xs : List A) (x : A) (y : B) → In x xs → In y (f x) → In y (flat_map f xs)
In-flat_map f [] x y i j = absurd i
In-flat_map f (z ∷ xs) x y (inl e) j = In-left (f z) (flat_map f xs) y (subst (λ w. In y (f w)) e j)
In-flat_map f (z ∷ xs) x y (inr i) j = In-right (f z) (flat_map f xs) y (In-flat_map f xs x y i j)

In-put : {A : Type 0} (before : A → A → Bool) (x y : A) (ys : List A) → (y ≡ x) ⊎ In y ys → In y (put before x ys)
In-put before x y [] i = i
In-put before x y (z ∷ ys) i =
    elim (before z x) as (λ b. In y (elim b [ true ↦ z ∷ put before x ys | false ↦ x ∷ z ∷ ys ])) [
      | true ↦ later i (In-put before x y ys)
      | false ↦ i
    ]
  where
    later : (y ≡ x) ⊎ In y (z ∷ ys) → ((y ≡ x) ⊎ In y ys → In y (put before x ys)) → In y (z ∷ put before x ys)
    later (inl e) ih = inr (ih (inl e))
    later (inr (inl e)) ih = inl e
    later (inr (inr j)) ih = inr (ih (inr j))

pub In-in_order : {A : Type 0} (before : A → A → Bool) (xs : List A) (y : A) → In y xs → In y (in_order before xs)
In-in_order before [] y i = absurd i
In-in_order before (x ∷ xs) y (inl e) = In-put before x y (in_order before xs) (inl e)
In-in_order before (x ∷ xs) y (inr i) = In-put before x y (in_order before xs) (inr (In-in_order before xs y i))

-- what holds of the images of all elements
pub Every-images : {A B : Type 0} (P : B → Type 0) (f : A → B) (xs : List A) → Every (λ x. P (f x)) xs → Every P (map f xs)
Every-images P f [] h = tt
Every-images P f (x ∷ xs) h = (h.0, Every-images P f xs h.1)

pub pairs-images : {A B : Type 0} (R : B → B → Type 0) (f : A → B) (xs : List A) → EveryPair (λ x y. R (f x) (f y)) xs → EveryPair R (map f xs)
pairs-images R f [] h = tt
pairs-images R f (x ∷ xs) h = (Every-images (R (f x)) f xs h.0, pairs-images R f xs h.1)

-- one more at the end
pub Every-push : {A : Type 0} (P : A → Type 0) (xs : List A) (x : A) → Every P xs → P x → Every P (xs ++ x ∷ [])
Every-push P xs x h p = Every-append P xs (x ∷ []) h (p, tt)

pub pairs-push : {A : Type 0} (R : A → A → Type 0) (xs : List A) (y : A) → EveryPair R xs → Every (λ x. R x y) xs → EveryPair R (xs ++ y ∷ [])
pairs-push R [] y h k = (tt, tt)
pairs-push R (x ∷ xs) y h k = (Every-push (R x) xs y h.0 k.0, pairs-push R xs y h.1 k.1)

-- what holds of each element holds of that at an index
pub Every-get : {A : Type 0} (P : A → Type 0) (xs : List A) (i : ℕ) (d : A) → i < length xs → Every P xs → P (get_or xs i d)
Every-get P [] i d l h = absurd (omega (arith, l))
Every-get P (x ∷ xs) zero d l h = h.0
Every-get P (x ∷ xs) (suc i) d l h = Every-get P xs i d (omega (arith, l)) h.1

pub Every-place : {A : Type 0} (P : A → Type 0) (xs : List A) (i : ℕ) (x : A) → i < length xs → x ≡ get_or xs i x → Every P xs → P x
Every-place P xs i x l e h = subst P (sym e) (Every-get P xs i x l h)
