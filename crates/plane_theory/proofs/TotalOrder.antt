-- The orders of exponents, keys and rays: any two are comparable, and what is before what is before is before.
use Rattle.std.proofs.Common.{◌≡◌, ℕ, refl, subst, sym, ◌∙◌, Bool, true, false, arith, inl, inr, ◌⊎◌}
use Rattle.std.specs.Prelude.{ℤ, ◌&&◌, ◌||◌, nat_lt, ◌==◌, int_lt}
use Rattle.std.proofs.lemmas.Int.{ints}
use Rattle.scattering.specs.Series.{Exp, Powers, Key, int_eq, exp_eq, exp_before, powers_before, key_before}
use Rattle.scattering.specs.Plane.{Point, IsPoint, point_eq, point_before}
use Rattle.scattering.proofs.Lists.{or-first, or-second, or-out, and-in, and-left, and-right}
use Rattle.scattering.proofs.Keys.{exp_eq-refl, point_eq-refl, int_eq-refl, point_eq-same}
use Rattle.scattering.proofs.KeyOrder.{exp_before-trans}
use Rattle.plane_theory.proofs.PointOrder.{before-trans, before-total}

-- one is before the other, or they are equal
abbrev pub Compared : Bool → Bool → Type 0 → Type 0
Compared l g E = (l ≡ true) ⊎ ((g ≡ true) ⊎ E)

pub compared-as : {l g : Bool} (E F : Type 0) → (E → F) → Compared l g E → Compared l g F
compared-as E F f (inl a) = inl a
compared-as E F f (inr (inl b)) = inr (inl b)
compared-as E F f (inr (inr e)) = inr (inr (f e))

-- ---- of two orders one after the other

pub two-total : {A : Type 0} (before same : A → A → Bool) → ((x : A) → same x x ≡ true) → (x y : A) (l g : Bool) (E : Type 0) → Compared (before x y) (before y x) (x ≡ y) → Compared l g E
    → Compared (before x y || (same x y && l)) (before y x || (same y x && g)) ((x ≡ y) × E)
two-total before same itself x y l g E (inl a) c = inl (or-first (before x y) _ a)
two-total before same itself x y l g E (inr (inl b)) c = inr (inl (or-first (before y x) _ b))
two-total before same itself x y l g E (inr (inr e)) (inl a) = inl (or-second (before x y) _ (and-in (same x y) l (subst (λ z. same x z ≡ true) e (itself x)) a))
two-total before same itself x y l g E (inr (inr e)) (inr (inl b)) = inr (inl (or-second (before y x) _ (and-in (same y x) g (subst (λ z. same z x ≡ true) e (itself x)) b)))
two-total before same itself x y l g E (inr (inr e)) (inr (inr f)) = inr (inr (e, f))

pub two-trans : {A : Type 0} (before same : A → A → Bool) → ((x y : A) → same x y ≡ true → x ≡ y) → ((x : A) → same x x ≡ true) → (x y z : A) (l m n : Bool)
    → (before x y ≡ true → before y z ≡ true → before x z ≡ true) → (l ≡ true → m ≡ true → n ≡ true)
    → (before x y || (same x y && l)) ≡ true → (before y z || (same y z && m)) ≡ true → (before x z || (same x z && n)) ≡ true
two-trans before same sure itself x y z l m n first second p q = go (or-out (before x y) _ p) (or-out (before y z) _ q)
  where
    go : (before x y ≡ true) ⊎ ((same x y && l) ≡ true) → (before y z ≡ true) ⊎ ((same y z && m) ≡ true) → (before x z || (same x z && n)) ≡ true
    go (inl a) (inl b) = or-first (before x z) _ (first a b)
    go (inl a) (inr b) = or-first (before x z) _ (subst (λ w. before x w ≡ true) (sure y z (and-left (same y z) m b)) a)
    go (inr a) (inl b) = or-first (before x z) _ (subst (λ w. before w z ≡ true) (sym (sure x y (and-left (same x y) l a))) b)
    go (inr a) (inr b) =
        let e : x ≡ z = sure x y (and-left (same x y) l a) ∙ sure y z (and-left (same y z) m b) in
        or-second (before x z) _ (and-in (same x z) n (subst (λ w. same x w ≡ true) e (itself x)) (second (and-right (same x y) l a) (and-right (same y z) m b)))

-- ---- numbers

nat-total : (x y : ℕ) → Compared (nat_lt x y) (nat_lt y x) (x ≡ y)
nat-total x y = go (nat_lt x y) refl (nat_lt y x) refl
  where
    go : (a : Bool) → nat_lt x y ≡ a → (b : Bool) → nat_lt y x ≡ b → Compared (nat_lt x y) (nat_lt y x) (x ≡ y)
    go true p b q = inl p
    go false p true q = inr (inl q)
    go false p false q = inr (inr (grind arith))

nat-itself : (x : ℕ) → (x == x) ≡ true
nat-itself x = grind arith

int-total : (x y : ℤ) → Compared (int_lt x y) (int_lt y x) (x ≡ y)
int-total x y = go (int_lt x y) refl (int_lt y x) refl
  where
    go : (a : Bool) → int_lt x y ≡ a → (b : Bool) → int_lt y x ≡ b → Compared (int_lt x y) (int_lt y x) (x ≡ y)
    go true p b q = inl p
    go false p true q = inr (inl q)
    go false p false q = inr (inr (grind (arith, ints)))

int-trans : (x y z : ℤ) → int_lt x y ≡ true → int_lt y z ≡ true → int_lt x z ≡ true
int-trans x y z p q = grind (arith, ints)

-- ---- exponents, powers, keys

pub exp-total : (u v : Exp) → Compared (exp_before u v) (exp_before v u) (u ≡ v)
exp-total u v =
    compared-as ((u.a ≡ v.a) × (u.b ≡ v.b)) (u ≡ v) (λ e. λ i. record { a = e.0 i; b = e.1 i })
    (two-total int_lt int_eq int_eq-refl u.a v.a (int_lt u.b v.b) (int_lt v.b u.b) (u.b ≡ v.b) (int-total u.a v.a) (int-total u.b v.b))

first-total : (x y : ℕ) (l g : Bool) (E : Type 0) → Compared l g E → Compared (nat_lt x y || ((x == y) && l)) (nat_lt y x || ((y == x) && g)) ((x ≡ y) × E)
first-total x y l g E c = two-total nat_lt (λ x y. x == y) nat-itself x y l g E (nat-total x y) c

pub powers-total : (p q : Powers) → Compared (powers_before p q) (powers_before q p) (p ≡ q)
powers-total p q =
    compared-as _ (p ≡ q) (λ e. λ i. record {
      t1 = e.0 i;
      t2 = e.1.0 i;
      t3 = e.1.1.0 i;
      t4 = e.1.1.1.0 i;
      t5 = e.1.1.1.1.0 i;
      t6 = e.1.1.1.1.1.0 i;
      t7 = e.1.1.1.1.1.1.0 i;
      t8 = e.1.1.1.1.1.1.1 i;
    })
    (first-total p.t1 q.t1 _ _ _ (first-total p.t2 q.t2 _ _ _ (first-total p.t3 q.t3 _ _ _ (first-total p.t4 q.t4 _ _ _
    (first-total p.t5 q.t5 _ _ _ (first-total p.t6 q.t6 _ _ _ (first-total p.t7 q.t7 _ _ _ (nat-total p.t8 q.t8))))))))

pub key-total : (k l : Key) → Compared (key_before k l) (key_before l k) (k ≡ l)
key-total k l =
    compared-as ((k.exp ≡ l.exp) × (k.powers ≡ l.powers)) (k ≡ l) (λ e. λ i. record { powers = e.1 i; exp = e.0 i })
    (two-total exp_before exp_eq exp_eq-refl k.exp l.exp (powers_before k.powers l.powers) (powers_before l.powers k.powers) (k.powers ≡ l.powers) (exp-total k.exp l.exp) (powers-total k.powers l.powers))

-- ---- the place of a ray: its start, then its direction

abbrev pub Place : Type 0
Place = Point × Exp

abbrev pub place_before : Place → Place → Bool
place_before p q = point_before p.0 q.0 || (point_eq p.0 q.0 && exp_before p.1 q.1)

point-total : (p q : Point) → IsPoint p → IsPoint q → Compared (point_before p q) (point_before q p) (p ≡ q)
point-total p q h k = go (before-total p q h k)
  where
    go : (p ≡ q) ⊎ ((point_before p q ≡ true) ⊎ (point_before q p ≡ true)) → Compared (point_before p q) (point_before q p) (p ≡ q)
    go (inl e) = inr (inr e)
    go (inr (inl a)) = inl a
    go (inr (inr b)) = inr (inl b)

pub place-total : (p q : Place) → IsPoint p.0 → IsPoint q.0 → Compared (place_before p q) (place_before q p) (p ≡ q)
place-total p q h k =
    compared-as ((p.0 ≡ q.0) × (p.1 ≡ q.1)) (p ≡ q) (λ e. λ i. (e.0 i, e.1 i))
    (two-total point_before point_eq point_eq-refl p.0 q.0 (exp_before p.1 q.1) (exp_before q.1 p.1) (p.1 ≡ q.1) (point-total p.0 q.0 h k) (exp-total p.1 q.1))

pub place-trans : (p q r : Place) → IsPoint p.0 → IsPoint q.0 → IsPoint r.0 → place_before p q ≡ true → place_before q r ≡ true → place_before p r ≡ true
place-trans p q r h k l =
    two-trans point_before point_eq point_eq-same point_eq-refl p.0 q.0 r.0 (exp_before p.1 q.1) (exp_before q.1 r.1) (exp_before p.1 r.1)
    (λ a b. before-trans p.0 q.0 r.0 h.below k.below l.below a b) (exp_before-trans p.1 q.1 r.1)
