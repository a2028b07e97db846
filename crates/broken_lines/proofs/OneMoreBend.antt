-- Tails with one more bend: what is left to trace, weights that are told, and the least special point.
use Rattle.std.proofs.Common.{◌≡◌, ℕ, refl, sym, ap, subst, ◌∙◌, ◌+◌, ◌*◌, ◌-◌, ◌^◌, ◌≤◌, ◌<◌, ◌⊎◌, inl, inr, arith, Bool, true, false, cond, List, [], ◌∷◌, ◌++◌, min}
use Rattle.std.specs.Prelude.{IsTrue, Option, Some, None, MatchOption}
use Rattle.std.proofs.Math.Nat.{mul_assoc}
use native.Mathlib.Decide.{dec_le}
use Rattle.limits.specs.Limits.{largest_weight}
use Rattle.scattering.specs.Collections.{IsLeast}
use Rattle.scattering.specs.Series.{Exp, exp_sub, degree}
use Rattle.scattering.specs.Plane.{Point, IsPoint, point_before}
use Rattle.scattering.specs.Wall.{Wall}
use Rattle.scattering.specs.BrokenLine.{Bend, degrees}
use Rattle.scattering.specs.Tail.{IsInReach, IsTraced, Tail, last, last_point, tail_weight}
use Rattle.scattering.specs.Theta.{weights}
use Rattle.plane_theory.proofs.PointOrder.{before-total, before-trans}
use Rattle.bend_finder.specs.Ahead.{IsToldAs, bend_weight}
use Rattle.broken_lines.specs.Tracing.{lesser_point}

-- ---- what is traced

module _ (ws : List Wall) (b : ℕ) (m : Exp) where
  -- after the first bends
  pub traced-rest : (p : Point) (x : Exp) (used : ℕ) (cs ds : List Bend) (u : ℕ) → used + degrees cs ≡ u → IsTraced ws b m p x used (cs ++ ds) → IsTraced ws b m (last_point p cs) (last x cs) u ds
  traced-rest p x used [] ds u e h = subst (λ (n : ℕ). IsTraced ws b m p x n ds) (omega (arith, e)) h
  traced-rest p x used (c ∷ cs) ds u e h = traced-rest c.at (exp_sub x c.key.exp) (used + degree c.key) cs ds u (omega (arith, e)) h.2

  -- m is in reach to the end
  pub traced-end : (p : Point) (x : Exp) (used : ℕ) (cs : List Bend) (u : ℕ) → used + degrees cs ≡ u → IsTraced ws b m p x used cs → IsInReach ws b m (last x cs) u
  traced-end p x used [] u e h = subst (λ (n : ℕ). IsInReach ws b m x n) (omega (arith, e)) h
  traced-end p x used (c ∷ cs) u e h = traced-end c.at (exp_sub x c.key.exp) (used + degree c.key) cs u (omega (arith, e)) h.2

-- ---- weights

module _ (ws : List Wall) (b : ℕ) where
  one-times : (w : ℕ) → w * 1 ≡ 1 * w
  one-times w = omega arith

  pub weight-snoc : (x : Exp) (cs : List Bend) (c : Bend) → tail_weight ws b x (cs ++ c ∷ []) ≡ tail_weight ws b x cs * bend_weight ws b (last x cs) c
  weight-snoc x [] c = one-times (bend_weight ws b x c)
  weight-snoc x (d ∷ cs) c =
      ap (λ (w : ℕ). bend_weight ws b x d * w) (weight-snoc (exp_sub x d.key.exp) cs c)
      ∙ sym (mul_assoc (bend_weight ws b x d) (tail_weight ws b (exp_sub x d.key.exp) cs) (bend_weight ws b (last (exp_sub x d.key.exp) cs) c))

  pub weights-snoc : (ts : List Tail) (t : Tail) → weights ws b (ts ++ t ∷ []) ≡ weights ws b ts + tail_weight ws b t.root t.bends
  weights-snoc [] t = plus-none (tail_weight ws b t.root t.bends)
    where
      plus-none : (w : ℕ) → w + 0 ≡ 0 + w
      plus-none w = omega arith
  weights-snoc (u ∷ ts) t =
      ap (λ (w : ℕ). tail_weight ws b u.root u.bends + w) (weights-snoc ts t) ∙ plus_assoc (tail_weight ws b u.root u.bends) (weights ws b ts) (tail_weight ws b t.root t.bends)
    where
      plus_assoc : (u v w : ℕ) → u + (v + w) ≡ u + v + w
      plus_assoc u v w = omega arith

-- a product with a number above 2^126 is 0 or above that too
more-than : (x y : ℕ) → 1 ≤ x → 2 ^ 126 < y → 2 ^ 126 < x * y
more-than x y one h = grind (arith, one, h)

pub told-plus : (x y u v : ℕ) → IsToldAs x u → IsToldAs y v → IsToldAs (x + y) (min (u + v) (2 ^ 128 - 1))
told-plus x y u v (inl e) (inl f) = go (dec_le (u + v) (2 ^ 128 - 1))
  where
    go : Dec (u + v ≤ 2 ^ 128 - 1) → IsToldAs (x + y) (min (u + v) (2 ^ 128 - 1))
    go (yes l) = inl (omega (arith, e, f, l))
    go (no n) = inr (omega (arith, e, f, n), omega (arith, n))
told-plus x y u v (inl e) (inr f) = let a = f.0 in let c = f.1 in inr (omega (arith, a), omega (arith, c))
told-plus x y u v (inr e) k = told x y u v e
  where
    told : (x y u v : ℕ) → (largest_weight < x) × (largest_weight < u) → IsToldAs (x + y) (min (u + v) (2 ^ 128 - 1))
    told x y u v e = let a = e.0 in let c = e.1 in inr (omega (arith, a), omega (arith, c))

capped : (n : ℕ) → 2 ^ 126 < n → 2 ^ 126 < min n (2 ^ 128 - 1)
capped n h = omega (arith, h)

pub told-times : (x y u v : ℕ) → IsToldAs x u → IsToldAs y v → IsToldAs (x * y) (min (u * v) (2 ^ 128 - 1))
told-times x y u v (inl e) (inl f) = go (dec_le (u * v) (2 ^ 128 - 1))
  where
    same : u * v ≡ x * y
    same = ap (λ (w : ℕ). w * v) e ∙ ap (λ (w : ℕ). x * w) f

    exact : (n p : ℕ) → n ≤ 2 ^ 128 - 1 → n ≡ p → min n (2 ^ 128 - 1) ≡ p
    exact n p l i = omega (arith, l, i)

    above : (n p : ℕ) → (n ≤ 2 ^ 128 - 1 → ⊥) → n ≡ p → (2 ^ 126 < p) × (2 ^ 126 < min n (2 ^ 128 - 1))
    above n p l i = (omega (arith, l, i), omega (arith, l))

    go : Dec (u * v ≤ 2 ^ 128 - 1) → IsToldAs (x * y) (min (u * v) (2 ^ 128 - 1))
    go (yes l) = inl (exact (u * v) (x * y) l same)
    go (no n) = inr (above (u * v) (x * y) n same)
told-times x y u v (inl e) (inr f) = go (dec_le 1 x)
  where
    go : Dec (1 ≤ x) → IsToldAs (x * y) (min (u * v) (2 ^ 128 - 1))
    go (yes l) = inr (more-than x y l f.0, capped (u * v) (more-than u v (omega (arith, l, e)) f.1))
    go (no n) = inl (nothing x y u v (omega (arith, n)) (omega (arith, n, e)))
      where
        nothing : (x y u v : ℕ) → x ≡ 0 → u ≡ 0 → min (u * v) (2 ^ 128 - 1) ≡ x * y
        nothing x y u v z w = rw (z, w) (omega arith)
told-times x y u v (inr e) (inl f) = go (dec_le 1 y)
  where
    other : (x y : ℕ) → 1 ≤ y → 2 ^ 126 < x → 2 ^ 126 < x * y
    other x y one h = grind (arith, one, h)

    go : Dec (1 ≤ y) → IsToldAs (x * y) (min (u * v) (2 ^ 128 - 1))
    go (yes l) = inr (other x y l e.0, capped (u * v) (other u v (omega (arith, l, f)) e.1))
    go (no n) = inl (nothing x y u v (omega (arith, n)) (omega (arith, n, f)))
      where
        nothing : (x y u v : ℕ) → y ≡ 0 → v ≡ 0 → min (u * v) (2 ^ 128 - 1) ≡ x * y
        nothing x y u v z w = rw (z, w) (omega arith)
told-times x y u v (inr e) (inr f) = let a = e.0 in let b = e.1 in inr (more-than x y (omega (arith, a)) f.0, capped (u * v) (more-than u v (omega (arith, b)) f.1))

-- ---- the least of the points of two facts

module _ (P Q : Point → Type 0) (from_first : (p : Point) → P p → IsPoint p) (from_second : (p : Point) → Q p → IsPoint p) where
  neither : ((p : Point) → P p → ⊥) → ((p : Point) → Q p → ⊥) → (p : Point) → P p ⊎ Q p → ⊥
  neither f g p (inl h) = f p h
  neither f g p (inr h) = g p h

  after-lesser : (p q y : Point) → IsPoint p → IsPoint q → IsPoint y → IsTrue (point_before p q) → (y ≡ q) ⊎ IsTrue (point_before q y) → (y ≡ p) ⊎ IsTrue (point_before p y)
  after-lesser p q y i j k h (inl e) = inr (subst (λ (r : Point). IsTrue (point_before p r)) (sym e) h)
  after-lesser p q y i j k h (inr l) = inr (before-trans p q y i.below j.below k.below h l)

  not-after : (p q : Point) → IsPoint p → IsPoint q → point_before q p ≡ false → (q ≡ p) ⊎ IsTrue (point_before p q)
  not-after p q i j f = go (before-total p q i j)
    where
      go : (p ≡ q) ⊎ (IsTrue (point_before p q) ⊎ IsTrue (point_before q p)) → (q ≡ p) ⊎ IsTrue (point_before p q)
      go (inl e) = inl (sym e)
      go (inr (inl h)) = inr h
      go (inr (inr h)) = absurd (cc)

  pub least-joined : (o r : Option Point) → MatchOption o ((p : Point) → P p → ⊥) (IsLeast point_before P) → MatchOption r ((p : Point) → Q p → ⊥) (IsLeast point_before Q)
      → MatchOption (lesser_point o r) ((p : Point) → P p ⊎ Q p → ⊥) (IsLeast point_before (λ p. P p ⊎ Q p))
  least-joined None None h k = neither h k
  least-joined None (Some q) h k = (inr k.0, least)
    where
      least : (y : Point) → P y ⊎ Q y → (y ≡ q) ⊎ IsTrue (point_before q y)
      least y (inl i) = absurd (h y i)
      least y (inr i) = k.1 y i
  least-joined (Some p) None h k = (inl h.0, least)
    where
      least : (y : Point) → P y ⊎ Q y → (y ≡ p) ⊎ IsTrue (point_before p y)
      least y (inl i) = h.1 y i
      least y (inr i) = absurd (k y i)
  least-joined (Some p) (Some q) h k = go (point_before q p) refl
    where
      second : IsTrue (point_before q p) → (y : Point) → P y ⊎ Q y → (y ≡ q) ⊎ IsTrue (point_before q y)
      second e y (inl i) = after-lesser q p y (from_second q k.0) (from_first p h.0) (from_first y i) e (h.1 y i)
      second e y (inr i) = k.1 y i

      later : (q ≡ p) ⊎ IsTrue (point_before p q) → (y : Point) → IsPoint y → (y ≡ q) ⊎ IsTrue (point_before q y) → (y ≡ p) ⊎ IsTrue (point_before p y)
      later (inl e) y i l = subst (λ (r : Point). (y ≡ r) ⊎ IsTrue (point_before r y)) e l
      later (inr e) y i l = after-lesser p q y (from_first p h.0) (from_second q k.0) i e l

      first : point_before q p ≡ false → (y : Point) → P y ⊎ Q y → (y ≡ p) ⊎ IsTrue (point_before p y)
      first e y (inl i) = h.1 y i
      first e y (inr i) = later (not-after p q (from_first p h.0) (from_second q k.0) e) y (from_second y i) (k.1 y i)

      go : (t : Bool) → point_before q p ≡ t → MatchOption (cond t (Some q) (Some p)) ((p : Point) → P p ⊎ Q p → ⊥) (IsLeast point_before (λ p. P p ⊎ Q p))
      go true e = (inr k.0, second e)
      go false e = (inl h.0, first e)

-- the least, of another fact that the same points have
pub least-as : (P Q : Point → Type 0) → ((p : Point) → P p → Q p) → ((p : Point) → Q p → P p) → (o : Option Point) → MatchOption o ((p : Point) → P p → ⊥) (IsLeast point_before P) → MatchOption o ((p : Point) → Q p → ⊥) (IsLeast point_before Q)
least-as P Q f g None h = λ p i. h p (g p i)
least-as P Q f g (Some q) h = (f q h.0, λ y i. h.1 y (g y i))
