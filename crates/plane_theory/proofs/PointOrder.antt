-- The order of points: a strict total order.
use Rattle.std.proofs.Common.{◌≡◌, refl, ◌⊎◌, inl, inr, arith, Bool, true, false}
use Rattle.std.specs.Prelude.{ℤ, pos, ◌+ℤ◌, ◌-ℤ◌, ◌*ℤ◌, neg_ℤ, ◌≤ℤ◌, IsTrue, int_lt, ◌&&◌, ◌||◌}
use Rattle.std.proofs.lemmas.Int.{ints}
use Rattle.scattering.proofs.Ring.{dif-up, dif-add, dif-neg, dif-mul, dif-same}
use Rattle.scattering.specs.Series.{Exp, int_eq}
use Rattle.scattering.specs.Plane.{Point, IsPoint, difference, point_before}
use Rattle.plane_theory.proofs.WholeNumbers.{positive_of, sign, zero_of}
use Rattle.plane_theory.proofs.LowestTerms.{no-difference}
use Rattle.sum_algebra.proofs.Integers.{positive-mul, times-zero}

-- the first number of q - p is above 0, or it is 0 and the second is above 0
abbrev pub IsAbove : Exp → Type 0
IsAbove v = (pos 1 ≤ℤ v.a) ⊎ ((v.a ≡ pos 0) × (pos 1 ≤ℤ v.b))

abbrev IsZeroOrMore : ℤ → Type 0
IsZeroOrMore a = (pos 1 ≤ℤ a) ⊎ (a ≡ pos 0)

pub or-and : (x y z : Bool) → (x || (y && z)) ≡ true → (x ≡ true) ⊎ ((y ≡ true) × (z ≡ true))
or-and true y z h = inl refl
or-and false true z h = inr (refl, h)
or-and false false z h = cc

and-or : (x y z : Bool) → (x ≡ true) ⊎ ((y ≡ true) × (z ≡ true)) → (x || (y && z)) ≡ true
and-or true y z h = refl
and-or false y z (inl h) = cc
and-or false true z (inr h) = h.1
and-or false false z (inr h) = h.0

pub lt-out : (a b : ℤ) → int_lt a b ≡ true → pos 1 ≤ℤ (b -ℤ a)
lt-out a b h = omega (arith, ints, h)

lt-in : (a b : ℤ) → pos 1 ≤ℤ (b -ℤ a) → int_lt a b ≡ true
lt-in a b h = grind (arith, ints)

eq-out : (a b : ℤ) → int_eq a b ≡ true → b -ℤ a ≡ pos 0
eq-out a b h = grind (arith, ints)

eq-in : (a b : ℤ) → b -ℤ a ≡ pos 0 → int_eq a b ≡ true
eq-in a b h = grind (arith, ints)

before-out : (a b c d : ℤ) → (int_lt a b || (int_eq a b && int_lt c d)) ≡ true → (pos 1 ≤ℤ (b -ℤ a)) ⊎ ((b -ℤ a ≡ pos 0) × (pos 1 ≤ℤ (d -ℤ c)))
before-out a b c d h = go (or-and (int_lt a b) (int_eq a b) (int_lt c d) h)
  where
    go : (int_lt a b ≡ true) ⊎ ((int_eq a b ≡ true) × (int_lt c d ≡ true)) → (pos 1 ≤ℤ (b -ℤ a)) ⊎ ((b -ℤ a ≡ pos 0) × (pos 1 ≤ℤ (d -ℤ c)))
    go (inl l) = inl (lt-out a b l)
    go (inr l) = inr (eq-out a b l.0, lt-out c d l.1)

before-in : (a b c d : ℤ) → (pos 1 ≤ℤ (b -ℤ a)) ⊎ ((b -ℤ a ≡ pos 0) × (pos 1 ≤ℤ (d -ℤ c))) → (int_lt a b || (int_eq a b && int_lt c d)) ≡ true
before-in a b c d (inl l) = and-or (int_lt a b) (int_eq a b) (int_lt c d) (inl (lt-in a b l))
before-in a b c d (inr l) = and-or (int_lt a b) (int_eq a b) (int_lt c d) (inr (eq-in a b l.0, lt-in c d l.1))

pub before-above : (p q : Point) → IsTrue (point_before p q) → IsAbove (difference p q)
before-above p q h = before-out (p.x *ℤ q.w) (q.x *ℤ p.w) (p.y *ℤ q.w) (q.y *ℤ p.w) h

pub above-before : (p q : Point) → IsAbove (difference p q) → IsTrue (point_before p q)
above-before p q h = before-in (p.x *ℤ q.w) (q.x *ℤ p.w) (p.y *ℤ q.w) (q.y *ℤ p.w) h

-- the differences along three points
chain : (px pw qx qw rx rw' : ℤ) → pw *ℤ (rx *ℤ qw -ℤ qx *ℤ rw') +ℤ rw' *ℤ (qx *ℤ pw -ℤ px *ℤ qw) ≡ qw *ℤ (rx *ℤ pw -ℤ px *ℤ rw')
chain px pw qx qw rx rw' = rw (dif-up px, dif-up pw, dif-up qx, dif-up qw, dif-up rx, dif-up rw') (simp (dif-mul, dif-add, dif-neg) (dif-same _ _ _ _ (omega arith)))

sum-positive : (u v w a b c : ℤ) → pos 1 ≤ℤ u → pos 1 ≤ℤ v → pos 1 ≤ℤ w → u *ℤ a +ℤ v *ℤ b ≡ w *ℤ c → IsZeroOrMore a → IsZeroOrMore b → ((pos 1 ≤ℤ a) ⊎ (pos 1 ≤ℤ b)) → pos 1 ≤ℤ c
sum-positive u v w a b c l m n e (inl h) (inl k) o = positive_of w c n (let x = positive-mul u a l h in let y = positive-mul v b m k in omega (arith, ints, x, y, e))
sum-positive u v w a b c l m n e (inl h) (inr k) o = positive_of w c n (let x = positive-mul u a l h in let y = times-zero v b k in omega (arith, ints, x, y, e))
sum-positive u v w a b c l m n e (inr h) (inl k) o = positive_of w c n (let x = times-zero u a h in let y = positive-mul v b m k in omega (arith, ints, x, y, e))
sum-positive u v w a b c l m n e (inr h) (inr k) (inl o) = absurd (omega (arith, ints, h, o))
sum-positive u v w a b c l m n e (inr h) (inr k) (inr o) = absurd (omega (arith, ints, k, o))

sum-zero : (u v w a b c : ℤ) → pos 1 ≤ℤ w → u *ℤ a +ℤ v *ℤ b ≡ w *ℤ c → a ≡ pos 0 → b ≡ pos 0 → c ≡ pos 0
sum-zero u v w a b c n e h k = zero_of w c n (let x = times-zero u a h in let y = times-zero v b k in omega (arith, ints, x, y, e))

above-trans : (p q r : Point) → pos 1 ≤ℤ p.w → pos 1 ≤ℤ q.w → pos 1 ≤ℤ r.w → IsAbove (difference p q) → IsAbove (difference q r) → IsAbove (difference p r)
above-trans p q r l m n (inl h) (inl k) = inl (sum-positive p.w r.w q.w _ _ _ l n m (chain p.x p.w q.x q.w r.x r.w) (inl k) (inl h) (inl k))
above-trans p q r l m n (inl h) (inr k) = inl (sum-positive p.w r.w q.w _ _ _ l n m (chain p.x p.w q.x q.w r.x r.w) (inr k.0) (inl h) (inr h))
above-trans p q r l m n (inr h) (inl k) = inl (sum-positive p.w r.w q.w _ _ _ l n m (chain p.x p.w q.x q.w r.x r.w) (inl k) (inr h.0) (inl k))
above-trans p q r l m n (inr h) (inr k) = inr (sum-zero p.w r.w q.w _ _ _ m (chain p.x p.w q.x q.w r.x r.w) k.0 h.0, sum-positive p.w r.w q.w _ _ _ l n m (chain p.y p.w q.y q.w r.y r.w) (inl k.1) (inl h.1) (inl k.1))

pub before-trans : (p q r : Point) → pos 1 ≤ℤ p.w → pos 1 ≤ℤ q.w → pos 1 ≤ℤ r.w → IsTrue (point_before p q) → IsTrue (point_before q r) → IsTrue (point_before p r)
before-trans p q r l m n h k = above-before p r (above-trans p q r l m n (before-above p q h) (before-above q r k))

pub before-irrefl : (p : Point) → IsTrue (point_before p p) → ⊥
before-irrefl p h = go (before-above p p h)
  where
    go : IsAbove (difference p p) → ⊥
    go (inl l) = omega (arith, ints, l)
    go (inr l) = let m = l.1 in omega (arith, ints, m)

back : (x w x' w' : ℤ) → x *ℤ w -ℤ x' *ℤ w' ≡ neg_ℤ (x' *ℤ w' -ℤ x *ℤ w)
back x w x' w' = omega (arith, ints)

pub before-total : (p q : Point) → IsPoint p → IsPoint q → (p ≡ q) ⊎ (IsTrue (point_before p q) ⊎ IsTrue (point_before q p))
before-total p q h k = go (sign (difference p q).a) (sign (difference p q).b)
  where
    go : ((difference p q).a ≡ pos 0) ⊎ ((pos 1 ≤ℤ (difference p q).a) ⊎ (pos 1 ≤ℤ neg_ℤ (difference p q).a)) → ((difference p q).b ≡ pos 0) ⊎ ((pos 1 ≤ℤ (difference p q).b) ⊎ (pos 1 ≤ℤ neg_ℤ (difference p q).b))
        → (p ≡ q) ⊎ (IsTrue (point_before p q) ⊎ IsTrue (point_before q p))
    go (inl a) (inl b) = inl (no-difference p q h k a b)
    go (inl a) (inr (inl b)) = inr (inl (above-before p q (inr (a, b))))
    go (inl a) (inr (inr b)) = inr (inr (above-before q p (inr (omega (arith, ints, a), omega (arith, ints, b)))))
    go (inr (inl a)) b = inr (inl (above-before p q (inl a)))
    go (inr (inr a)) b = inr (inr (above-before q p (inl (omega (arith, ints, a)))))
