-- 1/f times f is 1 modulo degree n + 1, so powers of either sign add up.
use Rattle.std.proofs.Common.{◌≡◌, ℕ, zero, suc, ◌+◌, ◌≤◌, refl, sym, subst, ap, ◌∙◌, Bool, true, false, cond, [], ◌∷◌, ◌++◌, arith}
use Rattle.std.specs.Prelude.{ℤ, pos, negsuc, neg_ℤ, ◌+ℤ◌}
use Rattle.std.proofs.lemmas.Int.{ints}
use lib.IntN.{+ℤ_invr}
use Rattle.scattering.specs.Collections.{Every}
use Rattle.scattering.specs.Series.{Key, Sum, IsSeries, Same, degree, key_eq, coef, unit, one, rest, minus, inverse, cut, mul, pow, power, powers_to}
use Rattle.scattering.proofs.Keys.{key_eq-same}
use Rattle.scattering.proofs.Pairing.{coef-without, coef-minus, coef-append}
use Rattle.scattering.proofs.Lists.{Every-append, Every-filter}
use Rattle.scattering.proofs.ShiftedSums.{degree-mul}
use Rattle.trunc_series.specs.Laws.{InverseCancels, SignedExponentsAdd}
use Rattle.trunc_series.proofs.Congruence.{mul-comm}
use Rattle.trunc_series.proofs.Associate.{mul-assoc}
use Rattle.trunc_series.proofs.PowerLaws.{mul-one, mul-same_left, mul-same_right, pow-add, pow-low}
use Rattle.trunc_series.proofs.RingLaws.{distributes-left, multiplication-distributes, multiplication-keeps}
use Rattle.trunc_series.proofs.Rows.{row_sum}
use Rattle.trunc_series.proofs.Products.{low-mul}

-- ---- degrees of products

mul-from : (n a b : ℕ) (f g : Sum) → Every (λ t. a ≤ degree t.0) f → Every (λ t. b ≤ degree t.0) g → Every (λ t. a + b ≤ degree t.0) (mul n f g)
mul-from n a b [] g h k = tt
mul-from n a b (t ∷ f) g h k = Every-append (λ u. a + b ≤ degree u.0) (cut n (row_sum t g)) (mul n f g) (Every-filter (λ u. a + b ≤ degree u.0) _ (row_sum t g) (row g k)) (mul-from n a b f g h.1 k)
  where
    row : (g : Sum) → Every (λ u. b ≤ degree u.0) g → Every (λ u. a + b ≤ degree u.0) (row_sum t g)
    row [] e = tt
    row (u ∷ g) e = let p = h.0 in let q = e.0 in let d = degree-mul t.0 u.0 in (omega (arith, p, q, d), row g e.1)

pub pow-from : (n : ℕ) (f : Sum) (i : ℕ) → Every (λ t. 1 ≤ degree t.0) f → Every (λ t. i ≤ degree t.0) (pow n f i)
pow-from n f zero h = (omega arith, tt)
pow-from n f (suc i) h = subst (λ (a : ℕ). Every (λ t. a ≤ degree t.0) (mul n f (pow n f i))) (let e : 1 + i ≡ suc i = omega arith in e) (mul-from n 1 i f (pow n f i) h (pow-from n f i h))

pub too-high : (n : ℕ) (f : Sum) (k : Key) → Every (λ t. suc n ≤ degree t.0) f → Every (λ t. degree t.0 ≤ n) f → coef f k ≡ pos 0
too-high n [] k h l = refl
too-high n (t ∷ f) k h l = let p = h.0 in let q = l.0 in absurd (omega (arith, p, q))

pub every-minus : (P : Key → Type 0) (f : Sum) → Every (λ t. P t.0) f → Every (λ t. P t.0) (minus f)
every-minus P [] h = tt
every-minus P (t ∷ f) h = (h.0, every-minus P f h.1)

-- ---- the inverse

module _ (n : ℕ) (f : Sum) (v : IsSeries n f) (c : coef f unit ≡ pos 1) (o : Every (λ t. 1 ≤ degree t.0) (rest f)) where
  abbrev opposite : Sum
  opposite = minus (rest f)

  opposite-low : Every (λ t. degree t.0 ≤ n) opposite
  opposite-low = every-minus (λ k. degree k ≤ n) (rest f) (Every-filter (λ t. degree t.0 ≤ n) _ f v.low)

  leaves-one : Same (f ++ opposite) one
  leaves-one k = coef-append f opposite k ∙ rw (coef-minus (rest f) k, coef-without unit k f) (go (key_eq unit k) refl)
    where
      go : (b : Bool) → key_eq unit k ≡ b → coef f k +ℤ neg_ℤ (cond b (pos 0) (coef f k)) ≡ cond b (pos 1) (pos 0) +ℤ pos 0
      go true e = let d : coef f k ≡ pos 1 = subst (λ (l : Key). coef f l ≡ pos 1) (key_eq-same unit k e) c in rw d refl
      go false e = +ℤ_invr (coef f k)

  mul-one_right : (g : Sum) → Every (λ t. degree t.0 ≤ n) g → Same (mul n g one) g
  mul-one_right g h k = mul-comm n g one k ∙ ap (λ r. coef r k) (mul-one n g h)

  splits : (q : Sum) (k : Key) → Every (λ t. degree t.0 ≤ n) q → coef (mul n f q) k +ℤ coef (mul n opposite q) k ≡ coef q k
  splits q k h = sym (distributes-left n f opposite q k) ∙ mul-same_left n (f ++ opposite) one q leaves-one k ∙ ap (λ r. coef r k) (mul-one n q h)

  telescoped : (i : ℕ) (k : Key) → coef (mul n f (powers_to n opposite i)) k +ℤ coef (pow n opposite (suc i)) k ≡ coef one k
  telescoped zero k = splits one k (omega arith, tt)
  telescoped (suc i) k =
      let q : Sum = pow n opposite (suc i) in
      let e = multiplication-distributes n f (powers_to n opposite i) q k ∙ coef-append (mul n f (powers_to n opposite i)) (mul n f q) k in
      let h = telescoped i k in
      let s = splits q k (pow-low n opposite (suc i)) in
      rw e (three (coef (mul n f (powers_to n opposite i)) k) (coef (mul n f q) k) (coef (mul n opposite q) k) (coef q k) (coef one k) h s)
    where
      three : (a x y q z : ℤ) → a +ℤ q ≡ z → x +ℤ y ≡ q → (a +ℤ x) +ℤ y ≡ z
      three a x y q z h s = omega (arith, ints, h, s)

  cancels : Same (mul n f (inverse n f)) one
  cancels k =
      let e = telescoped n k in
      let z = too-high n (pow n opposite (suc n)) k (pow-from n opposite (suc n) (every-minus (λ l. 1 ≤ degree l) (rest f) o)) (pow-low n opposite (suc n)) in
      drop-zero (coef (mul n f (inverse n f)) k) (coef (pow n opposite (suc n)) k) (coef one k) z e
    where
      drop-zero : (a b d : ℤ) → b ≡ pos 0 → a +ℤ b ≡ d → a ≡ d
      drop-zero a b d z e = omega (arith, ints, z, e)

  -- ---- powers of either sign

  abbrev over : Sum
  over = inverse n f

  -- (f·p)·(g·q) is p·q, where f·g is 1
  middle : (p q : Sum) → Same (mul n (mul n f p) (mul n over q)) (mul n p q)
  middle p q k =
      multiplication-keeps n (mul n f p) (mul n p f) (mul n over q) (mul n over q) (mul-comm n f p) (λ l. refl) k
      ∙ mul-assoc n p f (mul n over q) k
      ∙ mul-same_right n p (mul n f (mul n over q)) (mul n one q) (λ l. sym (mul-assoc n f over q l) ∙ mul-same_left n (mul n f over) one q cancels l) k
      ∙ sym (mul-assoc n p one q k)
      ∙ mul-same_left n (mul n p one) (mul n one p) q (mul-comm n p one) k
      ∙ mul-assoc n one p q k
      ∙ ap (λ r. coef r k) (mul-one n (mul n p q) (low-mul n p q))

  quotient : (i j : ℕ) (z : ℤ) → pos i ≡ z +ℤ pos j → Same (mul n (pow n f i) (pow n over j)) (power n f z)
  quotient zero j (pos m) e k = let a : m ≡ 0 = omega (arith, ints, e) in let b : j ≡ 0 = omega (arith, ints, e) in rw (a, b) (ap (λ r. coef r k) (mul-one n one (omega arith, tt)))
  quotient zero j (negsuc m) e k = let b : j ≡ suc m = omega (arith, ints, e) in rw b (ap (λ r. coef r k) (mul-one n (pow n over (suc m)) (pow-low n over (suc m))))
  quotient (suc i) zero z e k = let b : z ≡ pos (suc i) = omega (arith, ints, e) in rw b (mul-one_right (pow n f (suc i)) (pow-low n f (suc i)) k)
  quotient (suc i) (suc j) z e k = middle (pow n f i) (pow n over j) k ∙ quotient i j z (omega (arith, ints, e)) k

  signed : (i j : ℤ) → Same (mul n (power n f i) (power n f j)) (power n f (i +ℤ j))
  signed (pos i) (pos j) k = pow-add n f i j k
  signed (pos i) (negsuc j) k = quotient i (suc j) (pos i +ℤ negsuc j) (omega (arith, ints)) k
  signed (negsuc i) (pos j) k = mul-comm n (pow n over (suc i)) (pow n f j) k ∙ quotient j (suc i) (negsuc i +ℤ pos j) (omega (arith, ints)) k
  signed (negsuc i) (negsuc j) k =
      let e : negsuc i +ℤ negsuc j ≡ negsuc (suc (i + j)) = omega (arith, ints) in
      let d : suc i + suc j ≡ suc (suc (i + j)) = omega arith in
      pow-add n over (suc i) (suc j) k ∙ ap (λ (l : ℕ). coef (pow n over l) k) d ∙ ap (λ (z : ℤ). coef (power n f z) k) (sym e)

pub inverse-cancels : InverseCancels
inverse-cancels n f v c o = cancels n f v c o

pub signed-add : SignedExponentsAdd
signed-add n f i j v c o = signed n f v c o i j
