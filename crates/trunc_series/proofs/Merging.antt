-- The terms of two sorted lists as one sorted list, like terms added.
use Rattle.std.proofs.Common.{◌≡◌, ◌≢◌, ℕ, refl, sym, subst, ap, ◌∙◌, Bool, true, false, cond, [], ◌∷◌, ◌++◌, arith}
use Rattle.std.specs.Prelude.{ℤ, pos, ◌+ℤ◌, IsTrue, ◌≤◌}
use Rattle.std.proofs.lemmas.Int.{ints}
use Rattle.scattering.specs.Collections.{Every, EveryPair}
use Rattle.scattering.specs.Series.{Key, Term, Sum, degree, int_eq, key_eq, key_before, coef, coef_at}
use Rattle.trunc_series.specs.declared.arithmetic.Arithmetic.{Arithmetic}
use Rattle.trunc_series.specs.Arithmetic.{kept, IsKeepable}
use Rattle.trunc_series.specs.Reduced.{IsKeptAs}
use Rattle.scattering.proofs.KeyOrder.{key_before-same, key_before-trans}
use Rattle.scattering.proofs.Lists.{Every-implies, Every-append}
use Rattle.scattering.proofs.Pairing.{coef-append, skip-zero}
use Rattle.trunc_series.proofs.Kept.{keepable-add, keepable-kept, kept-kept, kept-same_right, kept-same_left}
use Rattle.trunc_series.proofs.Coefficients.{add-zero, keepable-at, keepable-coef}

module _ (rule : Arithmetic) where
  abbrev pub like_sum : Term → Term → Term
  like_sum t u = (t.0, kept rule (t.1 +ℤ u.1))

  abbrev pub add_term : Term → Sum → Sum
  add_term t f = cond (int_eq t.1 (pos 0)) f (t ∷ f)

  -- t ∷ f and a list merged, where f is merged with one by `rest`
  abbrev pub onto : (Sum → Sum) → Term → Sum → Sum → Sum
  onto rest t f [] = t ∷ f
  onto rest t f (u ∷ g) = cond (key_before t.0 u.0) (t ∷ rest (u ∷ g)) (cond (key_before u.0 t.0) (u ∷ onto rest t f g) (add_term (like_sum t u) (rest g)))

  abbrev pub merge : Sum → Sum → Sum
  merge [] g = g
  merge (t ∷ f) g = onto (λ h. merge f h) t f g

  pub merge-nil : (f : Sum) → merge f [] ≡ f
  merge-nil [] = refl
  merge-nil (t ∷ f) = refl

  -- ---- what each term of both lists has, and each sum of like terms
  module _ (P : Term → Type 0) (closed : (t u : Term) → P t → P u → (kept rule (t.1 +ℤ u.1) ≢ pos 0) → P (like_sum t u)) where
    onto-every : (rest : Sum → Sum) (t : Term) (f g : Sum) → ((h : Sum) → Every P h → Every P (rest h)) → P t → Every P f → Every P g → Every P (onto rest t f g)
    onto-every rest t f [] r p hf hg = (p, hf)
    onto-every rest t f (u ∷ g) r p hf hg = go (key_before t.0 u.0) (key_before u.0 t.0) (int_eq (kept rule (t.1 +ℤ u.1)) (pos 0)) refl (onto-every rest t f g r p hf hg.1)
      where
        nonzero : (c : ℤ) → int_eq c (pos 0) ≡ false → c ≢ pos 0
        nonzero c e z = absurd (let q : int_eq (pos 0) (pos 0) ≡ false = subst (λ (w : ℤ). int_eq w (pos 0) ≡ false) z e in cc)

        go : (b c d : Bool) → int_eq (kept rule (t.1 +ℤ u.1)) (pos 0) ≡ d → Every P (onto rest t f g) → Every P (cond b (t ∷ rest (u ∷ g)) (cond c (u ∷ onto rest t f g) (cond d (rest g) (like_sum t u ∷ rest g))))
        go true c d e i = (p, r (u ∷ g) hg)
        go false true d e i = (hg.0, i)
        go false false true e i = r g hg.1
        go false false false e i = (closed t u p hg.0 (nonzero _ e), r g hg.1)

    pub merge-every : (f g : Sum) → Every P f → Every P g → Every P (merge f g)
    merge-every [] g hf hg = hg
    merge-every (t ∷ f) g hf hg = onto-every (λ h. merge f h) t f g (λ h k. merge-every f h hf.1 k) hf.0 hf.1 hg

  -- ---- coefficients
  abbrev pub Keepable : Sum → Type 0
  Keepable f = Every (λ t. IsKeepable rule t.1) f

  closed-keepable : (t u : Term) → IsKeepable rule t.1 → IsKeepable rule u.1 → (kept rule (t.1 +ℤ u.1) ≢ pos 0) → IsKeepable rule (like_sum t u).1
  closed-keepable t u h k n = keepable-kept rule (t.1 +ℤ u.1) (keepable-add rule t.1 u.1 h k)

  pub merge-keepable : (f g : Sum) → Keepable f → Keepable g → Keepable (merge f g)
  merge-keepable f g hf hg = merge-every (λ t. IsKeepable rule t.1) closed-keepable f g hf hg

  shift : (x y z : ℤ) → (x +ℤ y) +ℤ z ≡ x +ℤ (y +ℤ z)
  shift x y z = omega (arith, ints)

  swap : (x y z : ℤ) → x +ℤ (y +ℤ z) ≡ y +ℤ (x +ℤ z)
  swap x y z = omega (arith, ints)

  swap4 : (x y z w : ℤ) → (x +ℤ y) +ℤ (z +ℤ w) ≡ (x +ℤ z) +ℤ (y +ℤ w)
  swap4 x y z w = omega (arith, ints)

  coef_at-same : (k : Key) (t u : Term) → t.0 ≡ u.0 → kept rule (coef_at k (like_sum t u)) ≡ kept rule (coef_at k t +ℤ coef_at k u)
  coef_at-same k t u e = rw (← e) (go (key_eq t.0 k))
    where
      go : (b : Bool) → kept rule (cond b (kept rule (t.1 +ℤ u.1)) (pos 0)) ≡ kept rule (cond b t.1 (pos 0) +ℤ cond b u.1 (pos 0))
      go true = kept-kept rule (t.1 +ℤ u.1)
      go false = refl

  -- a term that is 0 counts for nothing
  pub add_term-coef : (k : Key) (t : Term) (f : Sum) → coef (add_term t f) k ≡ coef_at k t +ℤ coef f k
  add_term-coef k t f = go (int_eq t.1 (pos 0)) refl
    where
      go : (b : Bool) → int_eq t.1 (pos 0) ≡ b → coef (cond b f (t ∷ f)) k ≡ coef_at k t +ℤ coef f k
      go false e = refl
      go true e = let z : t.1 ≡ pos 0 = grind (arith, ints) in sym (ap (λ c. c +ℤ coef f k) (no_part z (key_eq t.0 k)) ∙ skip-zero (coef f k))
        where
          no_part : t.1 ≡ pos 0 → (b : Bool) → cond b t.1 (pos 0) ≡ pos 0
          no_part z true = z
          no_part z false = refl

  module _ (k : Key) where
    onto-coef : (rest : Sum → Sum) (t : Term) (f g : Sum) → ((h : Sum) → Keepable h → Keepable (rest h)) → ((h : Sum) → Keepable h → kept rule (coef (rest h) k) ≡ kept rule (coef f k +ℤ coef h k))
        → IsKeepable rule t.1 → Keepable f → Keepable g → kept rule (coef (onto rest t f g) k) ≡ kept rule ((coef_at k t +ℤ coef f k) +ℤ coef g k)
    onto-coef rest t f [] rk r p hf hg = ap (kept rule) (sym (add-zero (coef_at k t +ℤ coef f k)))
    onto-coef rest t f (u ∷ g) rk r p hf hg = go (key_before t.0 u.0) (key_before u.0 t.0) refl refl (onto-coef rest t f g rk r p hf hg.1)
      where
        T : ℤ
        T = coef_at k t

        go : (b c : Bool) → key_before t.0 u.0 ≡ b → key_before u.0 t.0 ≡ c → kept rule (coef (onto rest t f g) k) ≡ kept rule ((coef_at k t +ℤ coef f k) +ℤ coef g k)
            → kept rule (coef (cond b (t ∷ rest (u ∷ g)) (cond c (u ∷ onto rest t f g) (add_term (like_sum t u) (rest g)))) k) ≡ kept rule ((coef_at k t +ℤ coef f k) +ℤ coef (u ∷ g) k)
        go true c d e i =
            kept-same_right rule (coef_at k t) (coef (rest (u ∷ g)) k) (coef f k +ℤ coef (u ∷ g) k) (keepable-at rule k t p) (keepable-coef rule (rest (u ∷ g)) k (rk (u ∷ g) hg)) (keepable-add rule _ _ (keepable-coef rule f k hf) (keepable-coef rule (u ∷ g) k hg)) (r (u ∷ g) hg)
            ∙ ap (kept rule) (sym (shift (coef_at k t) (coef f k) (coef (u ∷ g) k)))
        go false true d e i =
            kept-same_right rule (coef_at k u) (coef (onto rest t f g) k) ((coef_at k t +ℤ coef f k) +ℤ coef g k) (keepable-at rule k u hg.0) (keepable-coef rule (onto rest t f g) k (onto-every (λ t. IsKeepable rule t.1) closed-keepable rest t f g rk p hf hg.1))
            (keepable-add rule _ _ (keepable-add rule _ _ (keepable-at rule k t p) (keepable-coef rule f k hf)) (keepable-coef rule g k hg.1)) i
            ∙ ap (kept rule) (swap (coef_at k u) (coef_at k t +ℤ coef f k) (coef g k))
        go false false d e i =
            ap (kept rule) (add_term-coef k (like_sum t u) (rest g))
            ∙ kept-same_left rule (coef_at k (like_sum t u)) (coef_at k t +ℤ coef_at k u) (coef (rest g) k) (keepable-at rule k (like_sum t u) (keepable-kept rule _ (keepable-add rule t.1 u.1 p hg.0))) (keepable-add rule _ _ (keepable-at rule k t p) (keepable-at rule k u hg.0)) (keepable-coef rule (rest g) k (rk g hg.1)) (coef_at-same k t u (key_before-same t.0 u.0 d e))
            ∙ kept-same_right rule (coef_at k t +ℤ coef_at k u) (coef (rest g) k) (coef f k +ℤ coef g k) (keepable-add rule _ _ (keepable-at rule k t p) (keepable-at rule k u hg.0)) (keepable-coef rule (rest g) k (rk g hg.1)) (keepable-add rule _ _ (keepable-coef rule f k hf) (keepable-coef rule g k hg.1)) (r g hg.1)
            ∙ ap (kept rule) (swap4 (coef_at k t) (coef_at k u) (coef f k) (coef g k))

    pub merge-coef : (f g : Sum) → Keepable f → Keepable g → kept rule (coef (merge f g) k) ≡ kept rule (coef f k +ℤ coef g k)
    merge-coef [] g hf hg = ap (kept rule) (sym (skip-zero (coef g k)))
    merge-coef (t ∷ f) g hf hg = onto-coef (λ h. merge f h) t f g (λ h i. merge-keepable f h hf.1 i) (λ h i. merge-coef f h hf.1 i) hf.0 hf.1 hg

  -- ---- order
  abbrev pub Rises : Sum → Type 0
  Rises f = EveryPair (λ t u. IsTrue (key_before t.0 u.0)) f

  abbrev pub After : Key → Sum → Type 0
  After k f = Every (λ u. IsTrue (key_before k u.0)) f

  after-more : (k l : Key) (f : Sum) → key_before k l ≡ true → After l f → After k f
  after-more k l f h a = Every-implies (λ (u : Term). IsTrue (key_before l u.0)) (λ (u : Term). IsTrue (key_before k u.0)) f (λ u b. key_before-trans k l u.0 h b) a

  onto-rises : (rest : Sum → Sum) (t : Term) (f g : Sum) → ((h : Sum) → Rises h → Rises (rest h)) → ((k : Key) (h : Sum) → After k f → After k h → After k (rest h)) → After t.0 f → Rises f → Rises g → Rises (onto rest t f g)
  onto-rises rest t f [] r a p hf hg = (p, hf)
  onto-rises rest t f (u ∷ g) r a p hf hg = go (key_before t.0 u.0) (key_before u.0 t.0) (int_eq (kept rule (t.1 +ℤ u.1)) (pos 0)) refl refl (onto-rises rest t f g r a p hf hg.1)
    where
      go : (b c d : Bool) → key_before t.0 u.0 ≡ b → key_before u.0 t.0 ≡ c → Rises (onto rest t f g) → Rises (cond b (t ∷ rest (u ∷ g)) (cond c (u ∷ onto rest t f g) (cond d (rest g) (like_sum t u ∷ rest g))))
      go true c d e q i = (a t.0 (u ∷ g) p (e, after-more t.0 u.0 g e hg.0), r (u ∷ g) hg)
      go false true d e q i = (onto-every (λ v. IsTrue (key_before u.0 v.0)) (λ v w h k n. h) rest t f g (λ h k. a u.0 h (after-more u.0 t.0 f q p) k) q (after-more u.0 t.0 f q p) hg.0, i)
      go false false true e q i = r g hg.1
      go false false false e q i = (a t.0 g p (subst (λ (k : Key). After k g) (sym (key_before-same t.0 u.0 e q)) hg.0), r g hg.1)

  pub merge-rises : (f g : Sum) → Rises f → Rises g → Rises (merge f g)
  merge-rises [] g hf hg = hg
  merge-rises (t ∷ f) g hf hg = onto-rises (λ h. merge f h) t f g (λ h k. merge-rises f h hf.1 k) (λ k h x y. merge-every (λ u. IsTrue (key_before k u.0)) (λ v w h k n. h) f h x y) hf.0 hf.1 hg

  -- ---- all of it
  pub whole : (c : Sum) → Every (λ t. (kept rule t.1 ≡ t.1) × IsKeepable rule t.1) c → Keepable c
  whole c e = Every-implies (λ (t : Term). (kept rule t.1 ≡ t.1) × IsKeepable rule t.1) (λ t. IsKeepable rule t.1) c (λ t i. i.1) e

  pub merge-reduced : (n : ℕ) (a b f g : Sum) → IsKeptAs rule n a f → IsKeptAs rule n b g → IsKeptAs rule n (merge a b) (f ++ g)
  merge-reduced n a b f g h k = record {
    series = record {
      rises = merge-rises a b h.series.rises k.series.rises;
      nonzero = merge-every (λ t. t.1 ≢ pos 0) (λ t u p q z. z) a b h.series.nonzero k.series.nonzero;
      low = merge-every (λ t. degree t.0 ≤ n) (λ t u p q z. p) a b h.series.low k.series.low;
    };
    keeps = merge-every (λ t. (kept rule t.1 ≡ t.1) × IsKeepable rule t.1) (λ t u p q z. (kept-kept rule (t.1 +ℤ u.1), keepable-kept rule _ (keepable-add rule t.1 u.1 p.1 q.1))) a b h.keeps k.keeps;
    keepable = Every-append (λ t. IsKeepable rule t.1) f g h.keepable k.keepable;
    same = λ l.
        merge-coef l a b (whole a h.keeps) (whole b k.keeps)
        ∙ kept-same_left rule (coef a l) (coef f l) (coef b l) (keepable-coef rule a l (whole a h.keeps)) (keepable-coef rule f l h.keepable) (keepable-coef rule b l (whole b k.keeps)) (h.same l)
        ∙ kept-same_right rule (coef f l) (coef b l) (coef g l) (keepable-coef rule f l h.keepable) (keepable-coef rule b l (whole b k.keeps)) (keepable-coef rule g l k.keepable) (k.same l)
        ∙ ap (kept rule) (sym (coef-append f g l));
  }
