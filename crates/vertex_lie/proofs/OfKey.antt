-- The terms of one key in a list of keys and values. Lists with the same terms of each key have the same elements.
use Rattle.std.proofs.Common.{◌≡◌, ◌≢◌, ◌≤◌, refl, sym, subst, ap, ◌∙◌, Bool, true, false, cond, List, [], ◌∷◌, length, arith}
use Rattle.std.specs.Prelude.{IsTrue, pos}
use Rattle.scattering.specs.Collections.{Every, EveryPair}
use Rattle.scattering.specs.Series.{Key, key_eq, key_before}
use Rattle.scattering.specs.Correction.{Ratio, Lie, ratio_at}
use Rattle.scattering.proofs.Keys.{key_eq-same, key_eq-refl}
use Rattle.scattering.proofs.KeyOrder.{key_before-same, key_before-trans, key_before-irrefl}
use Rattle.scattering.proofs.Lists.{Every-implies}
use Rattle.vertex_lie.specs.Shown.{of_key, Ascends}

module _ {A : Type 0} where
  of_key-own : (t : Key × A) (h : List (Key × A)) → of_key t.0 (t ∷ h) ≡ t ∷ of_key t.0 h
  of_key-own t h = rw (key_eq-refl t.0) refl

  -- ---- what all elements have

  pub Every-of_key : (P : Key × A → Type 0) (k : Key) (h : List (Key × A)) → Every P h → Every P (of_key k h)
  Every-of_key P k [] e = tt
  Every-of_key P k (t ∷ h) e = go (key_eq t.0 k) (Every-of_key P k h e.1)
    where
      go : (b : Bool) → Every P (of_key k h) → Every P (cond b (t ∷ of_key k h) (of_key k h))
      go true i = (e.0, i)
      go false i = i

  pub Every-from_keys : (P : Key × A → Type 0) (h : List (Key × A)) → ((k : Key) → Every P (of_key k h)) → Every P h
  Every-from_keys P [] f = tt
  Every-from_keys P (t ∷ h) f = (first, Every-from_keys P h (λ k. go k (key_eq t.0 k) (f k)))
    where
      first : P t
      first = let e : Every P (t ∷ of_key t.0 h) = subst (Every P) (of_key-own t h) (f t.0) in e.0

      go : (k : Key) (b : Bool) → Every P (cond b (t ∷ of_key k h) (of_key k h)) → Every P (of_key k h)
      go k true e = e.1
      go k false e = e

  pub Every-same : (P : Key × A → Type 0) (g h : List (Key × A)) → ((k : Key) → of_key k h ≡ of_key k g) → Every P g → Every P h
  Every-same P g h s e = Every-from_keys P h (λ k. rw (s k) (Every-of_key P k g e))

  -- ---- where keys are distinct, at most one

  none-of_key : (k : Key) (h : List (Key × A)) → Every (λ u. k ≢ u.0) h → of_key k h ≡ []
  none-of_key k [] e = refl
  none-of_key k (t ∷ h) e = go (key_eq t.0 k) refl (none-of_key k h e.1)
    where
      go : (b : Bool) → key_eq t.0 k ≡ b → of_key k h ≡ [] → cond b (t ∷ of_key k h) (of_key k h) ≡ []
      go true q i = absurd (e.0 (sym (key_eq-same t.0 k q)))
      go false q i = i

  pub one-of_key : (k : Key) (h : List (Key × A)) → EveryPair (λ t u. t.0 ≢ u.0) h → length (of_key k h) ≤ 1
  one-of_key k [] d = omega arith
  one-of_key k (t ∷ h) d = go (key_eq t.0 k) refl (one-of_key k h d.1)
    where
      go : (b : Bool) → key_eq t.0 k ≡ b → length (of_key k h) ≤ 1 → length (cond b (t ∷ of_key k h) (of_key k h)) ≤ 1
      go true q i =
          let e : of_key k h ≡ [] = none-of_key k h (subst (λ (l : Key). Every (λ u. l ≢ u.0) h) (key_eq-same t.0 k q) d.0) in
          rw e (omega arith)
      go false q i = i

  -- ---- in order

  fewer : (b : Bool) (t : Key × A) (h : List (Key × A)) → length (cond b (t ∷ h) h) ≤ 1 → length h ≤ 1
  fewer true t h l = omega (arith, l)
  fewer false t h l = l

  pub rises-ascending : (h : List (Key × A)) → Ascends h → ((k : Key) → length (of_key k h) ≤ 1) → EveryPair (λ t u. IsTrue (key_before t.0 u.0)) h
  rises-ascending [] a s = tt
  rises-ascending (t ∷ []) a s = (tt, tt)
  rises-ascending (t ∷ u ∷ h) a s = joined (rises-ascending (u ∷ h) a.1 (λ k. fewer (key_eq t.0 k) t (of_key k (u ∷ h)) (s k)))
    where
      twice : u.0 ≡ t.0 → ⊥
      twice e =
          let c : key_eq u.0 t.0 ≡ true = rw e (key_eq-refl t.0) in
          let x : of_key t.0 (t ∷ u ∷ h) ≡ t ∷ u ∷ of_key t.0 h = of_key-own t (u ∷ h) ∙ ap (λ (b : Bool). t ∷ cond b (u ∷ of_key t.0 h) (of_key t.0 h)) c in
          let l : length (t ∷ u ∷ of_key t.0 h) ≤ 1 = subst (λ (f : List (Key × A)). length f ≤ 1) x (s t.0) in
          absurd (omega (arith, l))

      go : (b : Bool) → key_before t.0 u.0 ≡ b → b ≡ true
      go true e = refl
      go false e = absurd (twice (sym (key_before-same t.0 u.0 e a.0)))

      first : key_before t.0 u.0 ≡ true
      first = go (key_before t.0 u.0) refl

      joined : EveryPair (λ v w. IsTrue (key_before v.0 w.0)) (u ∷ h) → EveryPair (λ v w. IsTrue (key_before v.0 w.0)) (t ∷ u ∷ h)
      joined r = ((first, Every-implies (λ (v : Key × A). IsTrue (key_before u.0 v.0)) (λ v. IsTrue (key_before t.0 v.0)) h (λ v b. key_before-trans t.0 u.0 v.0 first b) r.0), r)

  pub distinct-rising : (h : List (Key × A)) → EveryPair (λ t u. IsTrue (key_before t.0 u.0)) h → EveryPair (λ t u. t.0 ≢ u.0) h
  distinct-rising [] r = tt
  distinct-rising (t ∷ h) r = (Every-implies (λ (u : Key × A). IsTrue (key_before t.0 u.0)) (λ u. t.0 ≢ u.0) h (λ u b e. later u b e) r.0, distinct-rising h r.1)
    where
      later : (u : Key × A) → key_before t.0 u.0 ≡ true → t.0 ≢ u.0
      later u b e = let c : key_before t.0 t.0 ≡ true = subst (λ (l : Key). key_before t.0 l ≡ true) (sym e) b in let d = key_before-irrefl t.0 in absurd (cc)

-- ---- coefficients

abbrev first_ratio : Lie → Ratio
first_ratio [] = record { num = pos 0; den = pos 1 }
first_ratio (t ∷ h) = t.1

pub ratio_at-first : (h : Lie) (k : Key) → ratio_at h k ≡ first_ratio (of_key k h)
ratio_at-first [] k = refl
ratio_at-first (t ∷ h) k = go (key_eq t.0 k) (ratio_at-first h k)
  where
    go : (b : Bool) → ratio_at h k ≡ first_ratio (of_key k h) → cond b t.1 (ratio_at h k) ≡ first_ratio (cond b (t ∷ of_key k h) (of_key k h))
    go true i = refl
    go false i = i

pub ratio_at-same : (g h : Lie) → ((k : Key) → of_key k h ≡ of_key k g) → (k : Key) → ratio_at h k ≡ ratio_at g k
ratio_at-same g h s k = ratio_at-first h k ∙ ap first_ratio (s k) ∙ sym (ratio_at-first g k)
