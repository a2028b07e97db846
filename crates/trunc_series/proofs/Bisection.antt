-- A key in a sorted list: what stands before it, after it, and at it.
use Rattle.std.proofs.Common.{◌≡◌, ℕ, zero, suc, ◌+◌, ◌<◌, refl, ◌∙◌, List, [], ◌∷◌, length, take, drop, add-one, arith, true, false}
use Rattle.std.specs.Prelude.{ℤ, pos, IsTrue}
use Rattle.std.specs.declared.cmp.Ordering.TheVariants.{Equal, Greater}
use Rattle.scattering.specs.Collections.{EveryPair}
use Rattle.scattering.specs.Series.{Key, Term, Sum, key_before, key_eq, coef}
use Rattle.scattering.proofs.Keys.{key_eq-refl}
use Rattle.trunc_series.specs.declared.key.Key.{Key as CodeKey}
use Rattle.trunc_series.specs.Shown.{key_of, sum_of}
use Rattle.trunc_series.specs.Reduced.{key_order}
use Rattle.scattering.proofs.KeyOrder.{key_before-trans, key_before-same}
use Rattle.scattering.proofs.Lists.{Every-implies}
use Rattle.scattering.proofs.Pairing.{coef-append, skip-zero}
use Rattle.scattering.proofs.Coefficients.{coef-none}
use Rattle.scattering.proofs.StrictOrders.{apart, apart-back}
use Rattle.trunc_series.proofs.Coefficients.{add-zero}
use Rattle.trunc_series.proofs.Terms.{at, Every-at, sum_of-halves, is-greater, is-equal}

abbrev pub Rises : Sum → Type 0
Rises f = EveryPair (λ t u. IsTrue (key_before t.0 u.0)) f

none-to : (a : List (CodeKey × ℤ)) (m : ℕ) (k : Key) → Rises (sum_of a) → m < length a → key_before (key_of (at a m).0) k ≡ true → coef (sum_of (take (suc m) a)) k ≡ pos 0
none-to [] m k r h b = absurd (omega arith)
none-to (t ∷ a) zero k r h b = rw (apart-back (key_of t.0) k b) refl
none-to (t ∷ a) (suc m) k r h b =
    let l : m < length a = omega arith in
    let f : key_before (key_of t.0) k ≡ true = key_before-trans (key_of t.0) (key_of (at a m).0) k (Every-at (λ u. IsTrue (key_before (key_of t.0) u.0)) a m l r.0) b in
    rw (apart-back (key_of t.0) k f) (skip-zero _ ∙ none-to a m k r.1 l b)

pub none-before : (a : List (CodeKey × ℤ)) (m : ℕ) (k : Key) → Rises (sum_of a) → m < length a → key_before (key_of (at a m).0) k ≡ true → coef (sum_of (take (m + 1) a)) k ≡ pos 0
none-before a m k r h b = rw add-one (none-to a m k r h b)

pub none-after : (a : List (CodeKey × ℤ)) (m : ℕ) (k : Key) → Rises (sum_of a) → m < length a → key_before k (key_of (at a m).0) ≡ true → coef (sum_of (drop m a)) k ≡ pos 0
none-after [] m k r h b = absurd (omega arith)
none-after (t ∷ a) zero k r h b =
    coef-none (sum_of (t ∷ a)) k (apart k (key_of t.0) b, Every-implies (λ (u : Term). IsTrue (key_before (key_of t.0) u.0)) (λ u. key_eq u.0 k ≡ false) (sum_of a) (λ u c. apart k u.0 (key_before-trans k (key_of t.0) u.0 b c)) r.0)
none-after (t ∷ a) (suc m) k r h b = none-after a m k r.1 (omega arith) b

pub found : (a : List (CodeKey × ℤ)) (m : ℕ) → Rises (sum_of a) → m < length a → coef (sum_of a) (key_of (at a m).0) ≡ (at a m).1
found [] m r h = absurd (omega arith)
found (t ∷ a) zero r h =
    rw (key_eq-refl (key_of t.0), coef-none (sum_of a) (key_of t.0) (Every-implies (λ (u : Term). IsTrue (key_before (key_of t.0) u.0)) (λ u. key_eq u.0 (key_of t.0) ≡ false) (sum_of a) (λ u c. apart (key_of t.0) u.0 c) r.0)) (add-zero t.1)
found (t ∷ a) (suc m) r h =
    let l : m < length a = omega arith in
    rw (apart-back (key_of t.0) (key_of (at a m).0) (Every-at (λ u. IsTrue (key_before (key_of t.0) u.0)) a m l r.0)) (skip-zero _ ∙ found a m r.1 l)

pub nowhere : (a : List (CodeKey × ℤ)) (n : ℕ) (k : Key) → coef (sum_of (take n a)) k ≡ pos 0 → coef (sum_of (drop n a)) k ≡ pos 0 → coef (sum_of a) k ≡ pos 0
nowhere a n k p q = rw (sum_of-halves a n, coef-append (sum_of (take n a)) (sum_of (drop n a)) k, p, q) refl

pub order-greater : (k l : Key) → key_order k l ≡ Greater → key_before l k ≡ true
order-greater k l e = (is-greater _ _ e).1

pub order-equal : (k l : Key) → key_order k l ≡ Equal → k ≡ l
order-equal k l e = let s = is-equal _ _ e in key_before-same k l s.0 s.1
