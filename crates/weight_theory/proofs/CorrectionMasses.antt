-- The whole values of a correction are no heavier than the point: each is bounded by a coefficient of either image.
use Rattle.std.proofs.Common.{◌≡◌, ◌≢◌, ℕ, zero, suc, ◌+◌, ◌*◌, ◌≤◌, refl, sym, subst, ap, ◌∙◌, List, [], ◌∷◌, map, true, inl, inr, ◌⊎◌, le_of_mul-le-mul_right, mul-le-mul_left, arith}
use Rattle.std.specs.Prelude.{ℤ, pos, ◌+ℤ◌, ◌*ℤ◌, ◌≤ℤ◌, nat_abs, nat_le}
use Rattle.std.specs.List.{sum_by}
use Rattle.std.specs.Int.{IsGcd}
use Rattle.std.proofs.lemmas.Int.{ints, unsigned_abs-mul}
use Rattle.std.proofs.lemmas.Bool.{le-leb}
use Rattle.std.proofs.lemmas.List.Sums.{sum_by-cons}
use Rattle.std.proofs.lemmas.Nat.Gcd.{le_of_dvd}
use Rattle.scattering.specs.Collections.{In, Every, EveryPair}
use Rattle.scattering.specs.Series.{Exp, Key, Sum, origin, degree, key_mul, coef, det, monomial, z, mass_to}
use Rattle.scattering.specs.Plane.{Point}
use Rattle.scattering.specs.Wall.{Wall}
use Rattle.scattering.specs.LocalProduct.{half_walls, carry_majorant, image, axis_x, axis_y}
use Rattle.scattering.specs.Correction.{Ratio, Lie, IsRatio, IsCorrection}
use Rattle.scattering.proofs.Keys.{same-exp, same-powers}
use Rattle.scattering.proofs.DistinctKeys.{HasDistinctKeys, some-terms}
use Rattle.scattering.proofs.Lists.{Every-at, Every-from_In}
use Rattle.scattering.proofs.Ratios.{ratio-own}
use Rattle.weight_theory.specs.Laws.{IsBelow, HaveFunctions, IsWholeValue, AreWhole, CorrectionIsLight, CorrectionTermIsLight}
use Rattle.weight_theory.proofs.Readings.{to_Bounds}
use Rattle.weight_theory.proofs.Masses.{mass-bounded, coefficient-is-below}
use Rattle.weight_theory.proofs.Stages.{halves-have-functions, image-is-below}

-- ---- one value

abs-same : (a b c d : ℤ) → a *ℤ b ≡ c *ℤ d → nat_abs a * nat_abs b ≡ nat_abs c * nat_abs d
abs-same a b c d e = sym (unsigned_abs-mul a b) ∙ ap nat_abs e ∙ unsigned_abs-mul c d

-- the gcd of an exponent is at most the sum of its numbers
gcd-small : (e : Exp) → e ≢ origin → (g : ℕ) → IsGcd (nat_abs e.a) (nat_abs e.b) g → g ≤ nat_abs e.a + nat_abs e.b
gcd-small e n g h = go (nat_abs e.a) refl (nat_abs e.b) refl
  where
    none : (x : ℤ) → nat_abs x ≡ 0 → x ≡ pos 0
    none x q = omega (arith, ints, q)

    go : (a : ℕ) → nat_abs e.a ≡ a → (b : ℕ) → nat_abs e.b ≡ b → g ≤ nat_abs e.a + nat_abs e.b
    go (suc a) p b q = let l : g ≤ nat_abs e.a = le_of_dvd (omega (arith, p)) h.0 in omega (arith, l)
    go zero p (suc b) q = let l : g ≤ nat_abs e.b = le_of_dvd (omega (arith, q)) h.1 in omega (arith, l)
    go zero p zero q = absurd (n (same-exp e origin (none e.a p) (none e.b q)))

-- v·d = n·g, x·d = n·b and y·d = n·a, where g is at most a + b
value-small : (v n d a b x y g : ℕ) → 1 ≤ d → v * d ≡ n * g → x * d ≡ n * b → y * d ≡ n * a → g ≤ a + b → v ≤ x + y
value-small v n d a b x y g l e p q h =
    le_of_mul-le-mul_right {k = d}
    (let m : n * g ≤ n * (a + b) = mul-le-mul_left n h in
    let s = distribute n a b in
    let t = gather x y d in
    omega (arith, e, p, q, m, s, t))
    (omega (arith, l))
  where
    distribute : (n a b : ℕ) → n * (a + b) ≡ n * a + n * b
    distribute n a b = omega arith

    gather : (x y d : ℕ) → (x + y) * d ≡ x * d + y * d
    gather x y d = omega arith

module _ (ws : List Wall) (p : Point) (n : ℕ) (h : Lie) (c : IsCorrection ws p n h) where
  -- the coefficient of the image of z^o at the key k·z^o
  abbrev seen : Exp → Key → ℤ
  seen o k = coef (image ws p n o) (key_mul k (z o))

  term-degree : (t : Key × Ratio) → In t h → degree t.0 ≡ n
  term-degree t i = (Every-at (λ (t : Key × Ratio). (degree t.0 ≡ n) × (t.0.exp ≢ origin)) h t c.degrees i).0

  read : (o : Exp) → In o (axis_x ∷ axis_y ∷ []) → (t : Key × Ratio) → In t h → seen o t.0 *ℤ t.1.den ≡ t.1.num *ℤ det t.0.exp o
  read o j t i = subst (λ (r : Ratio). seen o t.0 *ℤ r.den ≡ r.num *ℤ det t.0.exp o) (ratio-own h c.distinct t i) (c.bracket o t.0 j (term-degree t i))

  term-small : (t : Key × Ratio) → In t h → (v : ℤ) → IsWholeValue t v → nat_abs v ≤ nat_abs (seen axis_x t.0) + nat_abs (seen axis_y t.0)
  term-small t i v w =
      let r : IsRatio t.1 = Every-at (λ (t : Key × Ratio). IsRatio t.1) h t c.ratios i in
      let not_origin : t.0.exp ≢ origin = (Every-at (λ (t : Key × Ratio). (degree t.0 ≡ n) × (t.0.exp ≢ origin)) h t c.degrees i).1 in
      value-small (nat_abs v) (nat_abs t.1.num) (nat_abs t.1.den) (nat_abs t.0.exp.a) (nat_abs t.0.exp.b) (nat_abs (seen axis_x t.0)) (nat_abs (seen axis_y t.0)) w.0
      (above t.1.den r.below) (abs-same v t.1.den t.1.num (pos w.0) w.2)
      (abs-same (seen axis_x t.0) t.1.den t.1.num (det t.0.exp axis_x) (read axis_x (inl refl) t i) ∙ ap (λ y. nat_abs t.1.num * y) (on-x t.0.exp))
      (abs-same (seen axis_y t.0) t.1.den t.1.num (det t.0.exp axis_y) (read axis_y (inr (inl refl)) t i) ∙ ap (λ y. nat_abs t.1.num * y) (on-y t.0.exp))
      (gcd-small t.0.exp not_origin w.0 w.1)
    where
      above : (d : ℤ) → pos 1 ≤ℤ d → 1 ≤ nat_abs d
      above d l = omega (arith, ints, l)

      on-x : (e : Exp) → nat_abs (det e axis_x) ≡ nat_abs e.b
      on-x e = omega (arith, ints)

      on-y : (e : Exp) → nat_abs (det e axis_y) ≡ nat_abs e.a
      on-y e = omega (arith, ints)

-- ---- some of the terms of a sum

move-apart : (o : Exp) (x y : Key) → x ≢ y → key_mul x (z o) ≢ key_mul y (z o)
move-apart o x y n e =
    n
    (same-key x y
    (same-powers x.powers y.powers (back _ _ (ap (λ (k : Key). k.powers.t1) e)) (back _ _ (ap (λ (k : Key). k.powers.t2) e)) (back _ _ (ap (λ (k : Key). k.powers.t3) e)) (back _ _ (ap (λ (k : Key). k.powers.t4) e))
    (back _ _ (ap (λ (k : Key). k.powers.t5) e)) (back _ _ (ap (λ (k : Key). k.powers.t6) e)) (back _ _ (ap (λ (k : Key). k.powers.t7) e)) (back _ _ (ap (λ (k : Key). k.powers.t8) e)))
    (same-exp x.exp y.exp (less _ _ _ (ap (λ (k : Key). k.exp.a) e)) (less _ _ _ (ap (λ (k : Key). k.exp.b) e))))
  where
    back : (a b : ℕ) → a + 0 ≡ b + 0 → a ≡ b
    back a b q = omega (arith, q)

    less : (a b m : ℤ) → a +ℤ m ≡ b +ℤ m → a ≡ b
    less a b m q = omega (arith, ints, q)

    same-key : (k l : Key) → k.powers ≡ l.powers → k.exp ≡ l.exp → k ≡ l
    same-key k l p q = λ i. record { powers = p i; exp = q i }

some-below : (k : ℕ) (F H s : Sum) → HasDistinctKeys s → Every (λ t. coef F t.0 ≡ t.1) s → IsBelow k F H → IsBelow k s H
some-below k F H s d o b y l = go (some-terms F s d o y) (b y l)
  where
    go : (coef s y ≡ pos 0) ⊎ (coef s y ≡ coef F y) → pos (nat_abs (coef F y)) ≤ℤ coef H y → pos (nat_abs (coef s y)) ≤ℤ coef H y
    go (inl q) i = rw q (omega (arith, ints, i))
    go (inr q) i = rw q i

-- ---- all values

module _ (ws : List Wall) (p : Point) (n : ℕ) (o : Exp) where
  -- the terms of the image of z^o that a correction makes
  abbrev made : Lie → Sum
  made h = map (λ t. (key_mul t.0 (z o), coef (image ws p n o) (key_mul t.0 (z o)))) h

  made-distinct : (h : Lie) → EveryPair (λ t u. t.0 ≢ u.0) h → HasDistinctKeys (made h)
  made-distinct [] d = tt
  made-distinct (t ∷ h) d = (each h d.0, made-distinct h d.1)
    where
      each : (g : Lie) → Every (λ u. t.0 ≢ u.0) g → Every (λ u. key_mul t.0 (z o) ≢ u.0) (made g)
      each [] q = tt
      each (u ∷ g) q = (move-apart o t.0 u.0 q.0, each g q.1)

  made-own : (h : Lie) → Every (λ t. coef (image ws p n o) t.0 ≡ t.1) (made h)
  made-own [] = tt
  made-own (t ∷ h) = (refl, made-own h)

  made-light : (h : Lie) → HaveFunctions ws → EveryPair (λ t u. t.0 ≢ u.0) h → mass_to n (made h) ≤ mass_to n (carry_majorant n (half_walls ws p) (monomial (z o)))
  made-light h f d =
      mass-bounded n (made h) (carry_majorant n (half_walls ws p) (monomial (z o))) (made-distinct h d)
      (to_Bounds n _ _
      (some-below n (image ws p n o) (carry_majorant n (half_walls ws p) (monomial (z o))) (made h) (made-distinct h d) (made-own h)
      (image-is-below n (half_walls ws p) o (halves-have-functions ws p f))))

low : (n : ℕ) (o : Exp) (x : Key) → degree x ≡ n → degree (key_mul x (z o)) ≤ n
low n o x e = let q : degree (key_mul x (z o)) ≡ degree x = omega arith in omega (arith, q, e)

module _ (ws : List Wall) (p : Point) (n : ℕ) where
  -- a term of the correction
  abbrev Small : Key × Ratio → Type 0
  Small t = (degree t.0 ≡ n) × ((v : ℤ) → IsWholeValue t v → nat_abs v ≤ nat_abs (coef (image ws p n axis_x) (key_mul t.0 (z axis_x))) + nat_abs (coef (image ws p n axis_y) (key_mul t.0 (z axis_y))))

  values-small : (h : Lie) (vs : List ℤ) → Every Small h → AreWhole h vs → sum_by nat_abs vs ≤ mass_to n (made ws p n axis_x h) + mass_to n (made ws p n axis_y h)
  values-small [] [] s w = omega arith
  values-small [] (v ∷ vs) s w = absurd w
  values-small (t ∷ h) [] s w = absurd w
  values-small (t ∷ h) (v ∷ vs) s w =
      let a : nat_le (degree (key_mul t.0 (z axis_x))) n ≡ true = le-leb _ n (low n axis_x t.0 s.0.0) in
      let l = s.0.1 v w.0 in
      let i = values-small h vs s.1 w.1 in
      rw (sum_by-cons nat_abs v vs, a) (omega (arith, l, i))

pub correction-is-light : CorrectionIsLight
correction-is-light ws p n h vs f c w =
    let s = values-small ws p n h vs (Every-from_In (Small ws p n) h (λ t i. (term-degree ws p n h c t i, term-small ws p n h c t i))) w in
    let x = made-light ws p n axis_x h f c.distinct in
    let y = made-light ws p n axis_y h f c.distinct in
    omega (arith, s, x, y)

pub correction-term-is-light : CorrectionTermIsLight
correction-term-is-light ws p n h t v f c i w =
    let q = halves-have-functions ws p f in
    let d = term-degree ws p n h c t i in
    let s = term-small ws p n h c t i v w in
    let x = coefficient-is-below n (image ws p n axis_x) _ (key_mul t.0 (z axis_x)) (low n axis_x t.0 d) (image-is-below n (half_walls ws p) axis_x q) in
    let y = coefficient-is-below n (image ws p n axis_y) _ (key_mul t.0 (z axis_y)) (low n axis_y t.0 d) (image-is-below n (half_walls ws p) axis_y q) in
    omega (arith, s, x, y)
