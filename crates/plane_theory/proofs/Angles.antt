-- The order of angles: strict, and its ties are positive-mul multiples.
use Rattle.std.proofs.Common.{◌≡◌, ◌≢◌, refl, sym, ◌∙◌, ◌⊎◌, inl, inr, arith, Bool, true, false}
use Rattle.std.specs.Prelude.{ℤ, pos, ◌+ℤ◌, ◌-ℤ◌, ◌*ℤ◌, neg_ℤ, ◌≤ℤ◌, IsTrue, int_lt, ◌&&◌, ◌||◌, not}
use Rattle.std.proofs.lemmas.Int.{ints}
use Rattle.scattering.proofs.Ring.{dif-up, dif-pos, dif-add, dif-neg, dif-mul, dif-same}
use Rattle.scattering.specs.Series.{Exp, origin, det, int_eq}
use Rattle.scattering.specs.Plane.{is_upper, turns_before}
use Rattle.plane_theory.proofs.WholeNumbers.{positive_of, sign}
use Rattle.plane_theory.proofs.PointOrder.{or-and}
use Rattle.sum_algebra.proofs.Integers.{positive-mul}

-- upper: the second number is above 0, or 0 with the first above 0;  else both are turned
abbrev pub IsUpper : Exp → Type 0
IsUpper d = (pos 1 ≤ℤ d.b) ⊎ ((d.b ≡ pos 0) × (pos 1 ≤ℤ d.a))

pub upper-out : (d : Exp) → is_upper d ≡ true → IsUpper d
upper-out d h = go (or-and (int_lt (pos 0) d.b) (int_eq d.b (pos 0)) (int_lt (pos 0) d.a) h)
  where
    go : (int_lt (pos 0) d.b ≡ true) ⊎ ((int_eq d.b (pos 0) ≡ true) × (int_lt (pos 0) d.a ≡ true)) → IsUpper d
    go (inl l) = inl (omega (arith, ints, l))
    go (inr l) = let e = l.0 in let f = l.1 in inr (grind (arith, ints), omega (arith, ints, f))

-- (det d f)·e = (det d e)·f + (det e f)·d, in both numbers
three : (da db ea eb fa fb : ℤ) → eb *ℤ (da *ℤ fb -ℤ db *ℤ fa) ≡ fb *ℤ (da *ℤ eb -ℤ db *ℤ ea) +ℤ db *ℤ (ea *ℤ fb -ℤ eb *ℤ fa)
three da db ea eb fa fb = rw (dif-up da, dif-up db, dif-up ea, dif-up eb, dif-up fa, dif-up fb) (simp (dif-mul, dif-add, dif-neg) (dif-same _ _ _ _ (omega arith)))

flat-left : (da ea eb : ℤ) → da *ℤ eb -ℤ pos 0 *ℤ ea ≡ da *ℤ eb
flat-left da ea eb = omega (arith, ints)

flat-right : (da db ea : ℤ) → da *ℤ pos 0 -ℤ db *ℤ ea ≡ neg_ℤ (db *ℤ ea)
flat-right da db ea = omega (arith, ints)

-- in the upper half
pub upper-trans : (d e f : Exp) → IsUpper d → IsUpper e → IsUpper f → pos 1 ≤ℤ det d e → pos 1 ≤ℤ det e f → pos 1 ≤ℤ det d f
upper-trans d e f (inl h) (inl i) (inl j) k l =
    positive_of e.b (det d f) i (let x = positive-mul f.b (det d e) j k in let y = positive-mul d.b (det e f) h l in let t = three d.a d.b e.a e.b f.a f.b in omega (arith, ints, x, y, t))
upper-trans d e f (inl h) (inl i) (inr j) k l =
    positive_of e.b (det d f) i (let x : f.b *ℤ det d e ≡ pos 0 = rw j.0 (omega (arith, ints)) in let y = positive-mul d.b (det e f) h l in let t = three d.a d.b e.a e.b f.a f.b in omega (arith, ints, x, y, t))
upper-trans d e f (inr h) (inl i) (inl j) k l =
    positive_of e.b (det d f) i (let x = positive-mul f.b (det d e) j k in let y : d.b *ℤ det e f ≡ pos 0 = rw h.0 (omega (arith, ints)) in let t = three d.a d.b e.a e.b f.a f.b in omega (arith, ints, x, y, t))
upper-trans d e f (inr h) (inl i) (inr j) k l =
    let n : det e f ≡ neg_ℤ (e.b *ℤ f.a) = rw j.0 (flat-right e.a e.b f.a) in
    let m = positive-mul e.b f.a i j.1 in absurd (omega (arith, ints, n, m, l))
upper-trans d e f h (inr i) j k l =
    let n : det d e ≡ neg_ℤ (d.b *ℤ e.a) = rw i.0 (flat-right d.a d.b e.a) in absurd (none h n)
  where
    none : IsUpper d → det d e ≡ neg_ℤ (d.b *ℤ e.a) → ⊥
    none (inl h) n = let m = positive-mul d.b e.a h i.1 in omega (arith, ints, n, m, k)
    none (inr h) n = let m : d.b *ℤ e.a ≡ pos 0 = rw h.0 (omega (arith, ints)) in omega (arith, ints, n, m, k)

-- ---- the lower half, turned
abbrev pub turned : Exp → Exp
turned d = record { a = neg_ℤ d.a; b = neg_ℤ d.b }

det-turned1 : (a b c d : ℤ) → neg_ℤ a *ℤ neg_ℤ d -ℤ neg_ℤ b *ℤ neg_ℤ c ≡ a *ℤ d -ℤ b *ℤ c
det-turned1 a b c d = rw (dif-up a, dif-up b, dif-up c, dif-up d) (simp (dif-mul, dif-add, dif-neg) (dif-same _ _ _ _ (omega arith)))

pub det-turned : (d e : Exp) → det (turned d) (turned e) ≡ det d e
det-turned d e = det-turned1 d.a d.b e.a e.b

or-none : (x y z : Bool) → (x || (y && z)) ≡ false → (x ≡ false) × ((y ≡ false) ⊎ (z ≡ false))
or-none true y z h = absurd (cc)
or-none false true z h = (refl, inr h)
or-none false false z h = (refl, inl refl)

pub lt-not : (a b : ℤ) → int_lt a b ≡ false → b ≤ℤ a
lt-not a b h = omega (arith, ints, h)

eq-not : (a : ℤ) → int_eq a (pos 0) ≡ false → a ≢ pos 0
eq-not a h e = let f : int_eq a (pos 0) ≡ true = rw e in absurd (cc)

pub lower-out : (d : Exp) → d ≢ origin → is_upper d ≡ false → IsUpper (turned d)
lower-out d n h = go (or-none (int_lt (pos 0) d.b) (int_eq d.b (pos 0)) (int_lt (pos 0) d.a) h) (sign d.a) (sign d.b)
  where
    go : (int_lt (pos 0) d.b ≡ false) × ((int_eq d.b (pos 0) ≡ false) ⊎ (int_lt (pos 0) d.a ≡ false)) → (d.a ≡ pos 0) ⊎ ((pos 1 ≤ℤ d.a) ⊎ (pos 1 ≤ℤ neg_ℤ d.a)) → (d.b ≡ pos 0) ⊎ ((pos 1 ≤ℤ d.b) ⊎ (pos 1 ≤ℤ neg_ℤ d.b)) → IsUpper (turned d)
    go h a (inr (inr b)) = inl b
    go h a (inr (inl b)) = let l = lt-not (pos 0) d.b h.0 in absurd (omega (arith, ints, l, b))
    go h (inl a) (inl b) = absurd (n (λ i. record { a = a i; b = b i }))
    go h (inr (inr a)) (inl b) = inr (omega (arith, ints, b), a)
    go h (inr (inl a)) (inl b) = right h.1
      where
        right : (int_eq d.b (pos 0) ≡ false) ⊎ (int_lt (pos 0) d.a ≡ false) → IsUpper (turned d)
        right (inl e) = absurd (eq-not d.b e b)
        right (inr l) = let m = lt-not (pos 0) d.a l in absurd (omega (arith, ints, m, a))

-- ---- the test

turns-out1 : (u v t : Bool) → ((u && not v) || ((not v || u) && (not u || v) && t)) ≡ true → ((u ≡ true) × (v ≡ false)) ⊎ ((u ≡ v) × (t ≡ true))
turns-out1 true true t h = inr (refl, h)
turns-out1 true false t h = inl (refl, refl)
turns-out1 false true t h = absurd (cc)
turns-out1 false false t h = inr (refl, h)

turns-in1 : (u v t : Bool) → ((u ≡ true) × (v ≡ false)) ⊎ ((u ≡ v) × (t ≡ true)) → ((u && not v) || ((not v || u) && (not u || v) && t)) ≡ true
turns-in1 true true t (inl h) = let e = h.1 in absurd (cc)
turns-in1 true false t h = refl
turns-in1 false true t (inl h) = let e = h.0 in absurd (cc)
turns-in1 false false t (inl h) = let e = h.0 in absurd (cc)
turns-in1 true true t (inr h) = h.1
turns-in1 false true t (inr h) = let e = h.0 in absurd (cc)
turns-in1 false false t (inr h) = h.1

lt-in : (a : ℤ) → pos 1 ≤ℤ a → int_lt (pos 0) a ≡ true
lt-in a h = grind (arith, ints)

-- d comes first: it is upper and e isn't, or both are of one half and e is to the left of d
abbrev pub IsTurned : Exp → Exp → Type 0
IsTurned d e = ((is_upper d ≡ true) × (is_upper e ≡ false)) ⊎ ((is_upper d ≡ is_upper e) × (pos 1 ≤ℤ det d e))

pub turns-out : (d e : Exp) → IsTrue (turns_before d e) → IsTurned d e
turns-out d e h = go (turns-out1 (is_upper d) (is_upper e) (int_lt (pos 0) (det d e)) h)
  where
    go : ((is_upper d ≡ true) × (is_upper e ≡ false)) ⊎ ((is_upper d ≡ is_upper e) × (int_lt (pos 0) (det d e) ≡ true)) → IsTurned d e
    go (inl h) = inl h
    go (inr h) = inr (h.0, let l = h.1 in omega (arith, ints, l))

pub turns-in : (d e : Exp) → IsTurned d e → IsTrue (turns_before d e)
turns-in d e (inl h) = turns-in1 (is_upper d) (is_upper e) (int_lt (pos 0) (det d e)) (inl h)
turns-in d e (inr h) = turns-in1 (is_upper d) (is_upper e) (int_lt (pos 0) (det d e)) (inr (h.0, lt-in (det d e) h.1))

same-half : (d e f : Exp) → d ≢ origin → e ≢ origin → f ≢ origin → (u : Bool) → is_upper d ≡ u → is_upper e ≡ u → is_upper f ≡ u → pos 1 ≤ℤ det d e → pos 1 ≤ℤ det e f → pos 1 ≤ℤ det d f
same-half d e f l m n true p q r h k = upper-trans d e f (upper-out d p) (upper-out e q) (upper-out f r) h k
same-half d e f l m n false p q r h k =
    let a = det-turned d e in let b = det-turned e f in let c = det-turned d f in
    let t = upper-trans (turned d) (turned e) (turned f) (lower-out d l p) (lower-out e m q) (lower-out f n r) (omega (arith, ints, a, h)) (omega (arith, ints, b, k)) in
    omega (arith, ints, t, c)

pub turned-trans : (d e f : Exp) → d ≢ origin → e ≢ origin → f ≢ origin → IsTurned d e → IsTurned e f → IsTurned d f
turned-trans d e f l m n (inl h) (inl k) = let a = h.1 in let b = k.0 in absurd (cc)
turned-trans d e f l m n (inl h) (inr k) = inl (h.0, sym k.0 ∙ h.1)
turned-trans d e f l m n (inr h) (inl k) = inl (h.0 ∙ k.0, k.1)
turned-trans d e f l m n (inr h) (inr k) = inr (h.0 ∙ k.0, same-half d e f l m n (is_upper f) (h.0 ∙ k.0) k.0 refl h.1 k.1)

det-self : (a b : ℤ) → a *ℤ b -ℤ b *ℤ a ≡ pos 0
det-self a b = rw (dif-up a, dif-up b) (simp (dif-mul, dif-add, dif-neg, dif-pos) (dif-same _ _ _ _ (omega arith)))

pub turned-irrefl : (d : Exp) → IsTurned d d → ⊥
turned-irrefl d (inl h) = let a = h.0 in let b = h.1 in absurd (cc)
turned-irrefl d (inr h) = let s = det-self d.a d.b in let l = h.1 in omega (arith, ints, s, l)

pub turns-trans : (d e f : Exp) → d ≢ origin → e ≢ origin → f ≢ origin → IsTrue (turns_before d e) → IsTrue (turns_before e f) → IsTrue (turns_before d f)
turns-trans d e f l m n h k = turns-in d f (turned-trans d e f l m n (turns-out d e h) (turns-out e f k))

-- ---- ties
det-back : (a b c d : ℤ) → c *ℤ b -ℤ d *ℤ a ≡ neg_ℤ (a *ℤ d -ℤ b *ℤ c)
det-back a b c d = rw (dif-up a, dif-up b, dif-up c, dif-up d) (simp (dif-mul, dif-add, dif-neg) (dif-same _ _ _ _ (omega arith)))

bool-cases : (u v : Bool) → (u ≡ v) ⊎ (((u ≡ true) × (v ≡ false)) ⊎ ((v ≡ true) × (u ≡ false)))
bool-cases true true = inl refl
bool-cases true false = inr (inl (refl, refl))
bool-cases false true = inr (inr (refl, refl))
bool-cases false false = inl refl

-- neither comes first: one half, and a determinant of 0
pub tie : (d e : Exp) → (IsTurned d e → ⊥) → (IsTurned e d → ⊥) → (is_upper d ≡ is_upper e) × (det d e ≡ pos 0)
tie d e h k = go (bool-cases (is_upper d) (is_upper e)) (sign (det d e))
  where
    go : (is_upper d ≡ is_upper e) ⊎ (((is_upper d ≡ true) × (is_upper e ≡ false)) ⊎ ((is_upper e ≡ true) × (is_upper d ≡ false))) → (det d e ≡ pos 0) ⊎ ((pos 1 ≤ℤ det d e) ⊎ (pos 1 ≤ℤ neg_ℤ (det d e))) → (is_upper d ≡ is_upper e) × (det d e ≡ pos 0)
    go (inr (inl u)) s = absurd (h (inl u))
    go (inr (inr u)) s = absurd (k (inl u))
    go (inl u) (inl s) = (u, s)
    go (inl u) (inr (inl s)) = absurd (h (inr (u, s)))
    go (inl u) (inr (inr s)) = absurd (k (inr (sym u, let t = det-back d.a d.b e.a e.b in omega (arith, ints, s, t))))
