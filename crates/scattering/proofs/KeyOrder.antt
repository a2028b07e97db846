-- Keys are in a strict order, which products keep.
use Rattle.std.proofs.Common.{◌≡◌, ℕ, ◌+◌, refl, sym, subst, ap, ◌∙◌, Bool, true, false, arith, ◌⊎◌, inl, inr}
use Rattle.std.specs.Prelude.{ℤ, ◌&&◌, ◌||◌, nat_lt, ◌==◌, ◌+ℤ◌, int_lt}
use Rattle.std.proofs.lemmas.Int.{ints}
use Rattle.scattering.specs.Series.{Key, Exp, Powers, key_before, exp_before, exp_eq, powers_before, int_eq, key_mul, powers_add}
use Rattle.scattering.proofs.Keys.{exp_eq-same, exp_eq-refl, same-powers}
use Rattle.scattering.proofs.Lists.{or-false, and-both}
use Rattle.scattering.proofs.Tests.{nat_lt-asym, nat_lt-trans}

-- ---- one place of a lexicographic order

pub same-step : (x y : ℕ) (l k : Bool) → (nat_lt x y || ((x == y) && l)) ≡ false → (nat_lt y x || ((y == x) && k)) ≡ false → (x ≡ y) × (l ≡ false) × (k ≡ false)
same-step x y true true p q = absurd (grind arith)
same-step x y true false p q = absurd (grind arith)
same-step x y false true p q = absurd (grind arith)
same-step x y false false p q = (grind arith, refl, refl)

same-last : (x y : ℕ) → nat_lt x y ≡ false → nat_lt y x ≡ false → x ≡ y
same-last x y p q = grind arith

pub trans-step : (x y z : ℕ) (l k m : Bool) → (nat_lt x y || ((x == y) && l)) ≡ true → (nat_lt y z || ((y == z) && k)) ≡ true → (l ≡ true → k ≡ true → m ≡ true) → (nat_lt x z || ((x == z) && m)) ≡ true
trans-step x y z true true m p q h = rw (h refl refl) (grind arith)
trans-step x y z true false m p q h = grind arith
trans-step x y z false true m p q h = grind arith
trans-step x y z false false m p q h = grind arith

lt-add : (a x y : ℕ) → nat_lt (a + x) (a + y) ≡ nat_lt x y
lt-add a x y = grind arith

eq-add : (a x y : ℕ) → ((a + x) == (a + y)) ≡ (x == y)
eq-add a x y = grind arith

-- ---- powers

pub powers_before-same : (p q : Powers) → powers_before p q ≡ false → powers_before q p ≡ false → p ≡ q
powers_before-same p q h i =
    let a = same-step p.t1 q.t1 _ _ h i in let b = same-step p.t2 q.t2 _ _ a.1 a.2 in let c = same-step p.t3 q.t3 _ _ b.1 b.2 in let d = same-step p.t4 q.t4 _ _ c.1 c.2 in
    let e = same-step p.t5 q.t5 _ _ d.1 d.2 in let f = same-step p.t6 q.t6 _ _ e.1 e.2 in let g = same-step p.t7 q.t7 _ _ f.1 f.2 in
    same-powers p q a.0 b.0 c.0 d.0 e.0 f.0 g.0 (same-last p.t8 q.t8 g.1 g.2)

pub asym-step : (x y : ℕ) (l k : Bool) → (nat_lt x y || ((x == y) && l)) ≡ true → (nat_lt y x || ((y == x) && k)) ≡ true → (l ≡ true) × (k ≡ true)
asym-step x y true true p q = (refl, refl)
asym-step x y true false p q = absurd (grind arith)
asym-step x y false true p q = absurd (grind arith)
asym-step x y false false p q = absurd (grind arith)

pub powers_before-asym : (p q : Powers) → powers_before p q ≡ true → powers_before q p ≡ true → ⊥
powers_before-asym p q h i =
    let a = asym-step p.t1 q.t1 _ _ h i in let b = asym-step p.t2 q.t2 _ _ a.0 a.1 in
    let c = asym-step p.t3 q.t3 _ _ b.0 b.1 in let d = asym-step p.t4 q.t4 _ _ c.0 c.1 in
    let e = asym-step p.t5 q.t5 _ _ d.0 d.1 in let f = asym-step p.t6 q.t6 _ _ e.0 e.1 in
    let g = asym-step p.t7 q.t7 _ _ f.0 f.1 in nat_lt-asym p.t8 q.t8 g.0 g.1

pub powers_before-trans : (p q r : Powers) → powers_before p q ≡ true → powers_before q r ≡ true → powers_before p r ≡ true
powers_before-trans p q r h i =
    trans-step p.t1 q.t1 r.t1 _ _ _ h i (λ h i.
    trans-step p.t2 q.t2 r.t2 _ _ _ h i (λ h i.
    trans-step p.t3 q.t3 r.t3 _ _ _ h i (λ h i.
    trans-step p.t4 q.t4 r.t4 _ _ _ h i (λ h i.
    trans-step p.t5 q.t5 r.t5 _ _ _ h i (λ h i.
    trans-step p.t6 q.t6 r.t6 _ _ _ h i (λ h i.
    trans-step p.t7 q.t7 r.t7 _ _ _ h i (λ h i.
    nat_lt-trans p.t8 q.t8 r.t8 h i)))))))

powers_before-add : (x p q : Powers) → powers_before (powers_add x p) (powers_add x q) ≡ powers_before p q
powers_before-add x p q =
    simp (lt-add, eq-add)

-- ---- exponents

exp_before-same : (u v : Exp) → exp_before u v ≡ false → exp_before v u ≡ false → u ≡ v
exp_before-same u v p q = same-exp (grind (arith, ints)) (grind (arith, ints))
  where
    same-exp : u.a ≡ v.a → u.b ≡ v.b → u ≡ v
    same-exp a b = λ i. record { a = a i; b = b i }

pub exp_before-trans : (u v w : Exp) → exp_before u v ≡ true → exp_before v w ≡ true → exp_before u w ≡ true
exp_before-trans u v w p q = grind (arith, ints)

int_lt-add : (a x y : ℤ) → int_lt (a +ℤ x) (a +ℤ y) ≡ int_lt x y
int_lt-add a x y = grind (arith, ints)

int_eq-add : (a x y : ℤ) → int_eq (a +ℤ x) (a +ℤ y) ≡ int_eq x y
int_eq-add a x y = grind (arith, ints)

-- ---- keys

or-cases : (a b : Bool) → (a || b) ≡ true → (a ≡ true) ⊎ ((a ≡ false) × (b ≡ true))
or-cases true b e = inl refl
or-cases false b e = inr (refl, e)

pub key_before-same : (k l : Key) → key_before k l ≡ false → key_before l k ≡ false → k ≡ l
key_before-same k l p q =
    let a = or-false (exp_before k.exp l.exp) _ p in
    let b = or-false (exp_before l.exp k.exp) _ q in
    let e : k.exp ≡ l.exp = exp_before-same k.exp l.exp a.0 b.0 in
    let f : powers_before k.powers l.powers ≡ false = powers-left k.exp l.exp (powers_before k.powers l.powers) e a.1 in
    let g : powers_before l.powers k.powers ≡ false = powers-left l.exp k.exp (powers_before l.powers k.powers) (sym e) b.1 in
    let h : k.powers ≡ l.powers = powers_before-same k.powers l.powers f g in
    λ i. record { powers = h i; exp = e i }
  where
    powers-left : (u v : Exp) (b : Bool) → u ≡ v → (exp_eq u v && b) ≡ false → b ≡ false
    powers-left u v b e h = ap (λ (t : Bool). t && b) (sym (subst (λ (w : Exp). exp_eq u w ≡ true) e (exp_eq-refl u))) ∙ h

pub key_before-trans : (k l m : Key) → key_before k l ≡ true → key_before l m ≡ true → key_before k m ≡ true
key_before-trans k l m p q = go (or-cases (exp_before k.exp l.exp) _ p) (or-cases (exp_before l.exp m.exp) _ q)
  where
    go : (exp_before k.exp l.exp ≡ true) ⊎ ((exp_before k.exp l.exp ≡ false) × ((exp_eq k.exp l.exp && powers_before k.powers l.powers) ≡ true))
        → (exp_before l.exp m.exp ≡ true) ⊎ ((exp_before l.exp m.exp ≡ false) × ((exp_eq l.exp m.exp && powers_before l.powers m.powers) ≡ true)) → key_before k m ≡ true
    go (inl a) (inl b) = rw (exp_before-trans k.exp l.exp m.exp a b) refl
    go (inl a) (inr b) = let e = exp_eq-same l.exp m.exp (and-both (exp_eq l.exp m.exp) _ b.1).0 in rw (← e, a) refl
    go (inr a) (inl b) = let e = exp_eq-same k.exp l.exp (and-both (exp_eq k.exp l.exp) _ a.1).0 in rw (e, b) refl
    go (inr a) (inr b) =
        let s = and-both (exp_eq k.exp l.exp) _ a.1 in
        let t = and-both (exp_eq l.exp m.exp) _ b.1 in
        let e = exp_eq-same k.exp l.exp s.0 in
        let f = exp_eq-same l.exp m.exp t.0 in
        rw (e, b.0, t.0, powers_before-trans k.powers l.powers m.powers s.1 t.1) refl

-- a key is not before itself
pub key_before-irrefl : (k : Key) → key_before k k ≡ false
key_before-irrefl k = rw (exp-irrefl k.exp, exp_eq-refl k.exp, powers-irrefl k.powers) refl
  where
    exp-irrefl : (u : Exp) → exp_before u u ≡ false
    exp-irrefl u = grind (arith, ints)

    lt-irrefl : (n : ℕ) → nat_lt n n ≡ false
    lt-irrefl n = grind arith

    eq-refl : (n : ℕ) → (n == n) ≡ true
    eq-refl n = grind arith

    powers-irrefl : (p : Powers) → powers_before p p ≡ false
    powers-irrefl p = simp (lt-irrefl, eq-refl)

pub key_before-mul : (x k l : Key) → key_before (key_mul x k) (key_mul x l) ≡ key_before k l
key_before-mul x k l = simp (int_lt-add, int_eq-add, powers_before-add)
