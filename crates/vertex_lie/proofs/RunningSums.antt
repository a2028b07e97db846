-- The terms of one key added along a sorted list.
use Rattle.std.proofs.Common.{◌≡◌, ◌≢◌, refl, sym, subst, ap, ◌∙◌, Bool, true, false, cond, [], ◌∷◌, ◌++◌}
use Rattle.std.specs.Prelude.{IsTrue, map}
use Rattle.scattering.specs.Collections.{Every, EveryPair}
use Rattle.scattering.specs.Series.{Key, origin, key_eq, key_before}
use Rattle.scattering.specs.Correction.{Ratio, IsRatio, Lie, ratio_at}
use Rattle.scattering.proofs.Keys.{key_eq-same, key_eq-refl}
use Rattle.completion_theory.proofs.UniqueCorrection.{ratio-is}
use Rattle.scattering.proofs.KeyOrder.{key_before-trans}
use Rattle.scattering.proofs.Lists.{Every-implies, Every-append, Every-left, Every-right, pairs-push}
use Rattle.scattering.proofs.StrictOrders.{apart-back}
use Rattle.vertex_lie.specs.Shown.{of_key}
use Rattle.vertex_lie.specs.RationalBracket.{AreSame, plus, zero_ratio, sum_from, AddFits, SumsFit, values_at, IsSummed, IsSumWith}
use Rattle.vertex_lie.proofs.EqualRatios.{Positive, AllPositive, same-trans, sum-same, sum-positive, sums-same, all-same, plus-positive, plus-zero}

abbrev Coefficient : Type 0
Coefficient = Key × Ratio

abbrev pub Rises : Lie → Type 0
Rises f = EveryPair (λ t u. IsTrue (key_before t.0 u.0)) f

-- ---- a list and one more

pairs-last : (R : Coefficient → Coefficient → Type 0) (f : Lie) (s : Coefficient) → EveryPair R (f ++ s ∷ []) → Every (λ u. R u s) f
pairs-last R [] s r = tt
pairs-last R (u ∷ f) s r = ((Every-right (R u) f (s ∷ []) r.0).0, pairs-last R f s r.1)

pairs-front : (R : Coefficient → Coefficient → Type 0) (f : Lie) (s : Coefficient) → EveryPair R (f ++ s ∷ []) → EveryPair R f
pairs-front R [] s r = tt
pairs-front R (u ∷ f) s r = (Every-left (R u) f (s ∷ []) r.0, pairs-front R f s r.1)

ratio_at-after : (f g : Lie) (k : Key) → Every (λ u. key_eq u.0 k ≡ false) f → ratio_at (f ++ g) k ≡ ratio_at g k
ratio_at-after [] g k e = refl
ratio_at-after (u ∷ f) g k e = rw e.0 (ratio_at-after f g k e.1)

pub ratio_at-absent : (f : Lie) (k : Key) → Every (λ u. key_eq u.0 k ≡ false) f → ratio_at f k ≡ zero_ratio
ratio_at-absent [] k e = refl
ratio_at-absent (u ∷ f) k e = rw e.0 (ratio_at-absent f k e.1)

ratio_at-other : (f : Lie) (s : Coefficient) (k : Key) → key_eq s.0 k ≡ false → ratio_at (f ++ s ∷ []) k ≡ ratio_at f k
ratio_at-other [] s k e = rw e refl
ratio_at-other (u ∷ f) s k e = go (key_eq u.0 k) (ratio_at-other f s k e)
  where
    go : (b : Bool) → ratio_at (f ++ s ∷ []) k ≡ ratio_at f k → cond b u.1 (ratio_at (f ++ s ∷ []) k) ≡ cond b u.1 (ratio_at f k)
    go true i = refl
    go false i = i

absent : (f : Lie) (s : Coefficient) (k : Key) → s.0 ≡ k → Every (λ u. IsTrue (key_before u.0 s.0)) f → Every (λ u. key_eq u.0 k ≡ false) f
absent f s k e h = Every-implies (λ (u : Coefficient). IsTrue (key_before u.0 s.0)) (λ u. key_eq u.0 k ≡ false) f (λ u b. apart-back u.0 k (subst (λ (l : Key). key_before u.0 l ≡ true) e b)) h

last-own : (f : Lie) (s : Coefficient) (k : Key) → s.0 ≡ k → Every (λ u. IsTrue (key_before u.0 s.0)) f → ratio_at (f ++ s ∷ []) k ≡ s.1
last-own f s k e h = ratio_at-after f (s ∷ []) k (absent f s k e h) ∙ ap (λ (b : Bool). cond b s.1 zero_ratio) (subst (λ (l : Key). key_eq s.0 l ≡ true) e (key_eq-refl s.0))

-- ---- one step

module _ (f : Lie) (s t : Coefficient) (r : Rises (f ++ s ∷ [])) where
  -- a term after all others
  module _ (b : key_before s.0 t.0 ≡ true) where
    earlier : Every (λ u. IsTrue (key_before u.0 t.0)) (f ++ s ∷ [])
    earlier = Every-append (λ u. IsTrue (key_before u.0 t.0)) f (s ∷ []) (Every-implies (λ (u : Coefficient). IsTrue (key_before u.0 s.0)) (λ u. IsTrue (key_before u.0 t.0)) f (λ u c. key_before-trans u.0 s.0 t.0 c b) (pairs-last (λ t u. IsTrue (key_before t.0 u.0)) f s r)) (b, tt)

    pub none-yet : ratio_at (f ++ s ∷ []) t.0 ≡ zero_ratio
    none-yet = ratio_at-absent (f ++ s ∷ []) t.0 (absent (f ++ s ∷ []) t t.0 refl earlier)

    pub added-after : IsSumWith t (f ++ s ∷ []) ((f ++ s ∷ []) ++ t ∷ [])
    added-after = record {
      rises = pairs-push (λ t u. IsTrue (key_before t.0 u.0)) (f ++ s ∷ []) t r earlier;
      exponents = λ x e. Every-append (λ u. u.0.exp ≢ origin) (f ++ s ∷ []) (t ∷ []) e (x, tt);
      own = rw (none-yet, last-own (f ++ s ∷ []) t t.0 refl earlier) (sym (plus-zero t.1));
      other = λ k e. ratio_at-other (f ++ s ∷ []) t k e;
    }

  -- a term of the last key
  module _ (e : s.0 ≡ t.0) where
    before_last : Every (λ u. IsTrue (key_before u.0 s.0)) f
    before_last = pairs-last (λ t u. IsTrue (key_before t.0 u.0)) f s r

    pub last-is : ratio_at (f ++ s ∷ []) t.0 ≡ s.1
    last-is = last-own f s t.0 e before_last

    pub added-to_last : (total : Ratio) → AreSame total (plus s.1 t.1) → IsSumWith t (f ++ s ∷ []) (f ++ (s.0, total) ∷ [])
    added-to_last total a = record {
      rises = pairs-push (λ t u. IsTrue (key_before t.0 u.0)) f (s.0, total) (pairs-front (λ t u. IsTrue (key_before t.0 u.0)) f s r) before_last;
      exponents = λ x h. Every-append (λ u. u.0.exp ≢ origin) f ((s.0, total) ∷ []) (Every-left (λ u. u.0.exp ≢ origin) f (s ∷ []) h) (Every-right (λ u. u.0.exp ≢ origin) f (s ∷ []) h);
      own = rw (last-is, last-own f (s.0, total) t.0 e before_last) a;
      other = λ k n. let m : key_eq s.0 k ≡ false = subst (λ (l : Key). key_eq l k ≡ false) (sym e) n in ratio_at-other f (s.0, total) k m ∙ sym (ratio_at-other f s k m);
    }

-- ---- along the list

-- h has the sums of what has been added of `all`, where `rest` is left
pub record IsRunning (h rest all : Lie) : Type 0 where
  pub rises : Rises h
  pub exponents : Every (λ t. t.0.exp ≢ origin) all → Every (λ t. t.0.exp ≢ origin) h × Every (λ t. t.0.exp ≢ origin) rest
  pub same : (k : Key) → AreSame (sum_from (ratio_at h k) (values_at k rest)) (sum_from zero_ratio (values_at k all))
  pub onward : (k : Key) → SumsFit zero_ratio (values_at k all) → SumsFit (ratio_at h k) (values_at k rest)
  pub back : (k : Key) → SumsFit (ratio_at h k) (values_at k rest) → SumsFit zero_ratio (values_at k all)

pub positive-values : (h : Lie) → Every (λ t. Positive t.1) h → (k : Key) → AllPositive (values_at k h)
positive-values [] r k = tt
positive-values (t ∷ h) r k = go (key_eq t.0 k) (positive-values h r.1 k)
  where
    go : (b : Bool) → AllPositive (values_at k h) → AllPositive (map (λ t. t.1) (cond b (t ∷ of_key k h) (of_key k h)))
    go true i = (r.0, i)
    go false i = i

pub values-positive : (h : Lie) → Every (λ t. IsRatio t.1) h → (k : Key) → AllPositive (values_at k h)
values-positive h r = positive-values h (Every-implies (λ (t : Coefficient). IsRatio t.1) (λ t. Positive t.1) h (λ t i. i.below) r)

-- with the sum 0 nothing has been added
pub begins-at_zero : (l : Key) (r : Ratio) (all : Lie) → (Every (λ t. t.0.exp ≢ origin) all → l.exp ≢ origin) → r ≡ zero_ratio → IsRunning ((l, r) ∷ []) all all
begins-at_zero l r all m e = record {
  rises = (tt, tt);
  exponents = λ x. ((m x, tt), x);
  same = λ k. subst (λ (s : Ratio). AreSame (sum_from s (values_at k all)) (sum_from zero_ratio (values_at k all))) (sym (none (key_eq l k))) refl;
  onward = λ k h. subst (λ (s : Ratio). SumsFit s (values_at k all)) (sym (none (key_eq l k))) h;
  back = λ k h. subst (λ (s : Ratio). SumsFit s (values_at k all)) (none (key_eq l k)) h;
}
  where
    none : (b : Bool) → cond b r zero_ratio ≡ zero_ratio
    none true = e
    none false = refl

module _ (h h' rest all : Lie) (t : Coefficient) (r : Every (λ t. IsRatio t.1) h) (r' : Every (λ t. IsRatio t.1) h') (s : Every (λ t. IsRatio t.1) (t ∷ rest)) (i : IsRunning h (t ∷ rest) all) where
  values-own : (k : Key) → key_eq t.0 k ≡ true → values_at k (t ∷ rest) ≡ t.1 ∷ values_at k rest
  values-own k e = ap (λ (b : Bool). map (λ t. t.1) (cond b (t ∷ of_key k rest) (of_key k rest))) e

  values-other : (k : Key) → key_eq t.0 k ≡ false → values_at k (t ∷ rest) ≡ values_at k rest
  values-other k e = ap (λ (b : Bool). map (λ t. t.1) (cond b (t ∷ of_key k rest) (of_key k rest))) e

  -- where all sums fit, the next one does
  pub onward-first : ((k : Key) → SumsFit zero_ratio (values_at k all)) → AddFits (ratio_at h t.0) t.1
  onward-first f = (subst (SumsFit (ratio_at h t.0)) (values-own t.0 (key_eq-refl t.0)) (i.onward t.0 (f t.0))).0

  module _ (a : IsSumWith t h h') (fits : AddFits (ratio_at h t.0) t.1) where
    own-at : (k : Key) → t.0 ≡ k → AreSame (ratio_at h' k) (plus (ratio_at h k) t.1)
    own-at k e = subst (λ (l : Key). AreSame (ratio_at h' l) (plus (ratio_at h l) t.1)) e a.own

    fits-at : (k : Key) → t.0 ≡ k → AddFits (ratio_at h k) t.1
    fits-at k e = subst (λ (l : Key). AddFits (ratio_at h l) t.1) e fits

    sum-ok : (k : Key) → Positive (plus (ratio_at h k) t.1)
    sum-ok k = plus-positive (ratio_at h k) t.1 (ratio-is h r k).below s.0.below

    new-ok : (k : Key) → Positive (ratio_at h' k)
    new-ok k = (ratio-is h' r' k).below

    same-next : (k : Key) (b : Bool) → key_eq t.0 k ≡ b → AreSame (sum_from (ratio_at h' k) (values_at k rest)) (sum_from zero_ratio (values_at k all))
    same-next k true e =
        same-trans _ (sum_from (plus (ratio_at h k) t.1) (values_at k rest)) _ (sum-positive (plus (ratio_at h k) t.1) (values_at k rest) (sum-ok k) (values-positive rest s.1 k))
        (sum-same (ratio_at h' k) (plus (ratio_at h k) t.1) (values_at k rest) (values_at k rest) (own-at k (key_eq-same t.0 k e)) (all-same (values_at k rest)))
        (subst (λ vs. AreSame (sum_from (ratio_at h k) vs) (sum_from zero_ratio (values_at k all))) (values-own k e) (i.same k))
    same-next k false e =
        subst (λ (x : Ratio). AreSame (sum_from x (values_at k rest)) (sum_from zero_ratio (values_at k all))) (sym (a.other k e))
        (subst (λ vs. AreSame (sum_from (ratio_at h k) vs) (sum_from zero_ratio (values_at k all))) (values-other k e) (i.same k))

    onward-next : (k : Key) (b : Bool) → key_eq t.0 k ≡ b → SumsFit zero_ratio (values_at k all) → SumsFit (ratio_at h' k) (values_at k rest)
    onward-next k true e f =
        sums-same (plus (ratio_at h k) t.1) (ratio_at h' k) (values_at k rest) (values_at k rest) (new-ok k) (values-positive rest s.1 k) (sym (own-at k (key_eq-same t.0 k e))) (all-same (values_at k rest))
        ((subst (SumsFit (ratio_at h k)) (values-own k e) (i.onward k f)).1)
    onward-next k false e f = subst (λ (x : Ratio). SumsFit x (values_at k rest)) (sym (a.other k e)) (subst (SumsFit (ratio_at h k)) (values-other k e) (i.onward k f))

    back-next : (k : Key) (b : Bool) → key_eq t.0 k ≡ b → SumsFit (ratio_at h' k) (values_at k rest) → SumsFit zero_ratio (values_at k all)
    back-next k true e f =
        i.back k (subst (SumsFit (ratio_at h k)) (sym (values-own k e))
        (fits-at k (key_eq-same t.0 k e), sums-same (ratio_at h' k) (plus (ratio_at h k) t.1) (values_at k rest) (values_at k rest) (sum-ok k) (values-positive rest s.1 k) (own-at k (key_eq-same t.0 k e)) (all-same (values_at k rest)) f))
    back-next k false e f = i.back k (subst (SumsFit (ratio_at h k)) (sym (values-other k e)) (subst (λ (x : Ratio). SumsFit x (values_at k rest)) (a.other k e) f))

    pub runs : IsRunning h' rest all
    runs = record {
      rises = a.rises;
      exponents = λ x. let y = i.exponents x in (a.exponents y.1.0 y.0, y.1.1);
      same = λ k. same-next k (key_eq t.0 k) refl;
      onward = λ k. onward-next k (key_eq t.0 k) refl;
      back = λ k. back-next k (key_eq t.0 k) refl;
    }

pub ends : (h all : Lie) → IsRunning h [] all → IsSummed all h
ends h all i = record { rises = i.rises; exponents = λ e. (i.exponents e).0; same = i.same; fits = λ k. i.back k tt }
