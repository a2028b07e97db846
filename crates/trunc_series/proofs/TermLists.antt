-- Lists of terms for a sum: one term changed, one more at the end, and the products of a row one after the other.
use Rattle.std.proofs.Common.{◌≡◌, ℕ, ◌+◌, ◌<◌, ◌≤◌, ◌⊎◌, inl, inr, refl, sym, subst, ap, ◌∙◌, Bool, true, false, cond, List, [], ◌∷◌, ◌++◌, map, length, get_or, set, take, zip, arith, zero, suc}
use Rattle.std.specs.Prelude.{ℤ, pos, ◌+ℤ◌, ◌*ℤ◌, not, filter}
use Rattle.std.proofs.lemmas.Int.{ints}
use Rattle.std.proofs.lemmas.List.{take_more}
use Rattle.std.proofs.lemmas.Slice.Zip.{length-zip, get_or-zip}
use Rattle.scattering.specs.Collections.{In, Every}
use Rattle.scattering.specs.Series.{Key, Term, Sum, degree, int_eq, key_eq, key_mul, term_mul, coef, coef_at}
use Rattle.scattering.proofs.Keys.{int_eq-same}
use Rattle.scattering.proofs.Lists.{Every-implies, Every-append, Every-left, Every-right, Every-from_In, Every-at, In-map, In-mapped, map-append}
use Rattle.scattering.proofs.Pairing.{skip-zero, coef-append}
use Rattle.trunc_series.specs.declared.key.Key.{Key as CodeKey}
use Rattle.trunc_series.specs.declared.arithmetic.Arithmetic.{Arithmetic}
use Rattle.trunc_series.specs.Shown.{key_of, term_of, sum_of}
use Rattle.trunc_series.specs.Arithmetic.{kept, IsKeepable}
use Rattle.trunc_series.specs.Reduced.{Terms, IsNearKey}
use Rattle.trunc_series.proofs.Coefficients.{keepable-at, keepable-coef}
use Rattle.trunc_series.proofs.Kept.{keepable-add, keepable-mul, keepable-kept, kept-kept, kept-add_left, kept-same_left, kept-same_right}
use Rattle.trunc_series.proofs.Terms.{no_term, at, sum_of-append, Every-at as Every-at_place}
use Rattle.trunc_series.specs.Found.{counts, StandsForOld}
use Rattle.trunc_series.specs.Sums.{IsKeptValue, AreKeptValues, StandsFor, CanMultiply}

-- ---- values and keys

pub keepable-values : (rule : Arithmetic) (f : Sum) → AreKeptValues rule f → Every (λ t. IsKeepable rule t.1) f
keepable-values rule f h = Every-implies (λ t. IsKeptValue rule t.1) (λ t. IsKeepable rule t.1) f (λ t v. v.1) h

pub value-kept : (rule : Arithmetic) (c : ℤ) → IsKeepable rule c → IsKeptValue rule (kept rule c)
value-kept rule c h = (kept-kept rule c, keepable-kept rule c h)

own-keys : (f : Sum) → Every (λ t. In t.0 (map (λ u. u.0) f)) f
own-keys f = Every-from_In (λ t. In t.0 (map (λ u. u.0) f)) f (λ t i. In-mapped (λ u. u.0) f t i)

-- what holds of all keys of a sum holds of those of a list for it
pub stands-every : (rule : Arithmetic) (P : Key → Type 0) (f g : Sum) → StandsFor rule f g → Every (λ t. P t.0) g → Every (λ t. P t.0) f
stands-every rule P f g s h = Every-implies (λ t. In t.0 (map (λ u. u.0) g)) (λ t. P t.0) f (λ t i. of_key t.0 (In-map (λ u. u.0) g t.0 i)) s.keys
  where
    of_key : (x : Key) → (u : Term) × In u g × (x ≡ u.0) → P x
    of_key x w = subst P (sym w.2) (Every-at (λ t. P t.0) g w.0 h w.1)

-- a list stands for its own terms
pub stands-itself : (rule : Arithmetic) (f : Sum) → AreKeptValues rule f → StandsFor rule f f
stands-itself rule f h = record { values = h; keepable = keepable-values rule f h; same = λ k. refl; keys = own-keys f }

-- ---- a term added at its place, and at the end

pub value-at : (rule : Arithmetic) (ts : Terms) (i : ℕ) (d : CodeKey × ℤ) → i < length ts → AreKeptValues rule (sum_of ts) → IsKeptValue rule (get_or ts i d).1
value-at rule [] i d h e = absurd (omega arith)
value-at rule (t ∷ ts) zero d h e = e.0
value-at rule (t ∷ ts) (suc i) d h e = value-at rule ts i d (omega arith) e.1

every-set : (P : Term → Type 0) (ts : Terms) (i : ℕ) (u : CodeKey × ℤ) → Every P (sum_of ts) → P (term_of u) → Every P (sum_of (set ts i u))
every-set P [] i u e h = e
every-set P (t ∷ ts) zero u e h = (h, e.1)
every-set P (t ∷ ts) (suc i) u e h = (e.0, every-set P ts i u e.1 h)

every-pushed : (P : Term → Type 0) (ts : Terms) (u : CodeKey × ℤ) → Every P (sum_of ts) → P (term_of u) → Every P (sum_of (ts ++ u ∷ []))
every-pushed P [] u e h = (h, tt)
every-pushed P (t ∷ ts) u e h = (e.0, every-pushed P ts u e.1 h)

module _ (rule : Arithmetic) (d : CodeKey × ℤ) (k : CodeKey) (c : ℤ) (is : IsKeepable rule c) where
  coef-added : (ts : Terms) (i : ℕ) → i < length ts → (get_or ts i d).0 ≡ k → AreKeptValues rule (sum_of ts) → (l : Key)
      → kept rule (coef (sum_of (set ts i (k, kept rule ((get_or ts i d).1 +ℤ c)))) l) ≡ kept rule (coef_at l (key_of k, c) +ℤ coef (sum_of ts) l)
  coef-added [] i h q e l = absurd (omega arith)
  coef-added (t ∷ ts) zero h q e l =
      subst (λ (w : CodeKey). kept rule (cond (key_eq (key_of w) l) (kept rule (t.1 +ℤ c)) (pos 0) +ℤ coef (sum_of ts) l) ≡ kept rule (cond (key_eq (key_of w) l) c (pos 0) +ℤ (cond (key_eq (key_of t.0) l) t.1 (pos 0) +ℤ coef (sum_of ts) l))) q (go (key_eq (key_of t.0) l))
    where
      go : (b : Bool) → kept rule (cond b (kept rule (t.1 +ℤ c)) (pos 0) +ℤ coef (sum_of ts) l) ≡ kept rule (cond b c (pos 0) +ℤ (cond b t.1 (pos 0) +ℤ coef (sum_of ts) l))
      go true =
          let a : (t.1 +ℤ c) +ℤ coef (sum_of ts) l ≡ c +ℤ (t.1 +ℤ coef (sum_of ts) l) = omega (arith, ints) in
          kept-add_left rule (t.1 +ℤ c) (coef (sum_of ts) l) (keepable-add rule t.1 c e.0.1 is) (keepable-coef rule (sum_of ts) l (keepable-values rule (sum_of ts) e.1))
          ∙ subst (λ (x : ℤ). kept rule ((t.1 +ℤ c) +ℤ coef (sum_of ts) l) ≡ kept rule x) a refl
      go false = subst (λ (x : ℤ). kept rule (pos 0 +ℤ coef (sum_of ts) l) ≡ kept rule (pos 0 +ℤ x)) (sym (skip-zero (coef (sum_of ts) l))) refl
  coef-added (t ∷ ts) (suc i) h q e l =
      let x : ℤ = (get_or ts i d).1 in
      let new : Sum = sum_of (set ts i (k, kept rule (x +ℤ c))) in
      let p : Every (λ t. IsKeepable rule t.1) (sum_of ts) = keepable-values rule (sum_of ts) e.1 in
      let g : Every (λ t. IsKeepable rule t.1) (sum_of (set ts i (k, kept rule (x +ℤ c)))) = every-set (λ t. IsKeepable rule t.1) ts i (k, kept rule (x +ℤ c)) p (keepable-kept rule (x +ℤ c) (keepable-add rule x c (value-at rule ts i d (omega arith) e.1).1 is)) in
      let T : ℤ = coef_at l (term_of t) in
      let C : ℤ = coef_at l (key_of k, c) in
      let F : ℤ = coef (sum_of ts) l in
      let a : T +ℤ (C +ℤ F) ≡ C +ℤ (T +ℤ F) = omega (arith, ints) in
      kept-same_right rule T (coef (sum_of (set ts i (k, kept rule (x +ℤ c)))) l) (C +ℤ F) (keepable-at rule l (term_of t) e.0.1) (keepable-coef rule (sum_of (set ts i (k, kept rule (x +ℤ c)))) l g)
      (keepable-add rule C F (keepable-at rule l (key_of k, c) is) (keepable-coef rule (sum_of ts) l p)) (coef-added ts i (omega arith) q e.1 l)
      ∙ subst (λ (y : ℤ). kept rule (T +ℤ (C +ℤ F)) ≡ kept rule y) a refl

pub stands-set : (rule : Arithmetic) (ts : Terms) (i : ℕ) (d : CodeKey × ℤ) (k : CodeKey) (c : ℤ) → i < length ts → (get_or ts i d).0 ≡ k → AreKeptValues rule (sum_of ts) → IsKeptValue rule c
    → StandsFor rule (sum_of (set ts i (k, kept rule ((get_or ts i d).1 +ℤ c)))) ((key_of k, c) ∷ sum_of ts)
stands-set rule ts i d k c h q e v = record {
  values = every-set (λ t. IsKeptValue rule t.1) ts i _ e (value-kept rule ((get_or ts i d).1 +ℤ c) (keepable-add rule (get_or ts i d).1 c (value-at rule ts i d h e).1 v.1));
  keepable = (v.1, keepable-values rule (sum_of ts) e);
  same = coef-added rule d k c v.1 ts i h q e;
  keys = every-set (λ t. In t.0 (key_of k ∷ map (λ (u : Term). u.0) (sum_of ts))) ts i _
      (Every-implies (λ t. In t.0 (map (λ (u : Term). u.0) (sum_of ts))) (λ t. In t.0 (key_of k ∷ map (λ (u : Term). u.0) (sum_of ts))) (sum_of ts) (λ t i. inr i) (own-keys (sum_of ts))) (inl refl);
}

pub stands-pushed : (rule : Arithmetic) (ts : Terms) (u : CodeKey × ℤ) → AreKeptValues rule (sum_of ts) → IsKeptValue rule u.1 → StandsFor rule (sum_of (ts ++ u ∷ [])) (term_of u ∷ sum_of ts)
stands-pushed rule ts u e v = record {
  values = every-pushed (λ t. IsKeptValue rule t.1) ts u e v;
  keepable = (v.1, keepable-values rule (sum_of ts) e);
  same = λ k. ap (kept rule) (turned k);
  keys = every-pushed (λ t. In t.0 (key_of u.0 ∷ map (λ (u : Term). u.0) (sum_of ts))) ts u
      (Every-implies (λ t. In t.0 (map (λ (u : Term). u.0) (sum_of ts))) (λ t. In t.0 (key_of u.0 ∷ map (λ (u : Term). u.0) (sum_of ts))) (sum_of ts) (λ t i. inr i) (own-keys (sum_of ts))) (inl refl);
}
  where
    turned : (k : Key) → coef (sum_of (ts ++ u ∷ [])) k ≡ coef_at k (term_of u) +ℤ coef (sum_of ts) k
    turned k =
        rw (sum_of-append ts (u ∷ []), coef-append (sum_of ts) (term_of u ∷ []) k)
        (let a : coef (sum_of ts) k +ℤ (coef_at k (term_of u) +ℤ pos 0) ≡ coef_at k (term_of u) +ℤ coef (sum_of ts) k = omega (arith, ints) in a)

-- ---- one list for another

in-more : (x : Key) (a b : Sum) (p : Term) → In x (map (λ u. u.0) (a ++ b)) → In x (map (λ u. u.0) ((a ++ p ∷ []) ++ b))
in-more x [] b p i = inr i
in-more x (t ∷ a) b p (inl e) = inl e
in-more x (t ∷ a) b p (inr i) = inr (in-more x a b p i)

in-between : (a b : Sum) (p : Term) → In p.0 (map (λ u. u.0) ((a ++ p ∷ []) ++ b))
in-between [] b p = inl refl
in-between (t ∷ a) b p = inr (in-between a b p)

-- where a list for a sum gets one term more, so does the sum
pub stands-more : (rule : Arithmetic) (f f' a b : Sum) (p : Term) → IsKeepable rule p.1 → StandsFor rule f (a ++ b) → StandsFor rule f' ((p.0, kept rule p.1) ∷ f) → StandsFor rule f' ((a ++ p ∷ []) ++ b)
stands-more rule f f' a b p h s s' = record {
  values = s'.values;
  keepable = Every-append (λ t. IsKeepable rule t.1) (a ++ p ∷ []) b (Every-append (λ t. IsKeepable rule t.1) a (p ∷ []) (Every-left (λ t. IsKeepable rule t.1) a b s.keepable) (h, tt)) (Every-right (λ t. IsKeepable rule t.1) a b s.keepable);
  same = same;
  keys = Every-implies (λ t. In t.0 (p.0 ∷ map (λ u. u.0) f)) (λ t. In t.0 (map (λ u. u.0) ((a ++ p ∷ []) ++ b))) f' (λ t i. moved t.0 i) s'.keys;
}
  where
    moved : (x : Key) → (x ≡ p.0) ⊎ In x (map (λ u. u.0) f) → In x (map (λ u. u.0) ((a ++ p ∷ []) ++ b))
    moved x (inl e) = subst (λ (y : Key). In y (map (λ u. u.0) ((a ++ p ∷ []) ++ b))) (sym e) (in-between a b p)
    moved x (inr i) =
        let w = In-map (λ (u : Term). u.0) f x i in
        subst (λ (y : Key). In y (map (λ u. u.0) ((a ++ p ∷ []) ++ b))) (sym w.2) (in-more w.0.0 a b p (Every-at (λ t. In t.0 (map (λ u. u.0) (a ++ b))) f w.0 s.keys w.1))

    at-key : (b : Bool) → kept rule (cond b (kept rule p.1) (pos 0)) ≡ kept rule (cond b p.1 (pos 0))
    at-key true = kept-kept rule p.1
    at-key false = refl

    turned : (k : Key) → coef_at k p +ℤ coef (a ++ b) k ≡ coef ((a ++ p ∷ []) ++ b) k
    turned k =
        rw (coef-append (a ++ p ∷ []) b k, coef-append a (p ∷ []) k, coef-append a b k)
        (let e : coef_at k p +ℤ (coef a k +ℤ coef b k) ≡ (coef a k +ℤ (coef_at k p +ℤ pos 0)) +ℤ coef b k = omega (arith, ints) in e)

    same : (k : Key) → kept rule (coef f' k) ≡ kept rule (coef ((a ++ p ∷ []) ++ b) k)
    same k =
        let F = keepable-coef rule f k (keepable-values rule f before) in
        s'.same k
        ∙ kept-same_left rule (coef_at k (p.0, kept rule p.1)) (coef_at k p) (coef f k) (keepable-at rule k (p.0, kept rule p.1) (keepable-kept rule p.1 h)) (keepable-at rule k p h) F (at-key (key_eq p.0 k))
        ∙ kept-same_right rule (coef_at k p) (coef f k) (coef (a ++ b) k) (keepable-at rule k p h) F (keepable-coef rule (a ++ b) k s.keepable) (s.same k)
        ∙ ap (kept rule) (turned k)
      where
        before : AreKeptValues rule f
        before = s.values

-- a list of more terms, for other terms and a list for the rest
pub stands-trans : (rule : Arithmetic) (f f' g x : Sum) → StandsFor rule f g → StandsFor rule f' (x ++ f) → StandsFor rule f' (x ++ g)
stands-trans rule f f' g x s s' =
    let hx = Every-left (λ t. IsKeepable rule t.1) x f s'.keepable in
    record {
      values = s'.values;
      keepable = Every-append (λ t. IsKeepable rule t.1) x g hx s.keepable;
      same = λ k.
          s'.same k ∙ ap (kept rule) (coef-append x f k)
          ∙ kept-same_right rule (coef x k) (coef f k) (coef g k) (keepable-coef rule x k hx) (keepable-coef rule f k (keepable-values rule f s.values)) (keepable-coef rule g k s.keepable) (s.same k)
          ∙ sym (ap (kept rule) (coef-append x g k));
      keys = Every-implies (λ t. In t.0 (map (λ u. u.0) (x ++ f))) (λ t. In t.0 (map (λ u. u.0) (x ++ g))) f' (λ t i. moved t.0 i) s'.keys;
    }
  where
    right : (x : Key) (a b : Sum) → In x (map (λ u. u.0) b) → In x (map (λ u. u.0) (a ++ b))
    right x [] b i = i
    right x (t ∷ a) b i = inr (right x a b i)

    over : (y : Key) (a : Sum) → In y (map (λ u. u.0) (a ++ f)) → In y (map (λ u. u.0) (a ++ g))
    over y [] i =
        let w = In-map (λ (u : Term). u.0) f y i in
        subst (λ (z : Key). In z (map (λ u. u.0) g)) (sym w.2) (Every-at (λ t. In t.0 (map (λ u. u.0) g)) f w.0 s.keys w.1)
    over y (t ∷ a) (inl e) = inl e
    over y (t ∷ a) (inr i) = inr (over y a i)

    moved : (y : Key) → In y (map (λ u. u.0) (x ++ f)) → In y (map (λ u. u.0) (x ++ g))
    moved y i = over y x i

-- ---- terms without those of coefficient 0

counted-every : (P : Term → Type 0) (ts : Terms) → Every P (sum_of ts) → Every P (sum_of (filter counts ts))
counted-every P [] h = tt
counted-every P (t ∷ ts) h = go (counts t) (counted-every P ts h.1)
  where
    go : (b : Bool) → Every P (sum_of (filter counts ts)) → Every P (sum_of (cond b (t ∷ filter counts ts) (filter counts ts)))
    go true e = (h.0, e)
    go false e = e

nothing-at : (b : Bool) (c d : ℤ) → c ≡ pos 0 → d ≡ cond b c (pos 0) +ℤ d
nothing-at true c d e = rw e (sym (skip-zero d))
nothing-at false c d e = sym (skip-zero d)

counted-coef : (ts : Terms) (k : Key) → coef (sum_of (filter counts ts)) k ≡ coef (sum_of ts) k
counted-coef [] k = refl
counted-coef (t ∷ ts) k = go (int_eq t.1 (pos 0)) refl (counted-coef ts k)
  where
    go : (b : Bool) → int_eq t.1 (pos 0) ≡ b → coef (sum_of (filter counts ts)) k ≡ coef (sum_of ts) k
        → coef (sum_of (cond (not b) (t ∷ filter counts ts) (filter counts ts))) k ≡ coef_at k (term_of t) +ℤ coef (sum_of ts) k
    go true e h = h ∙ nothing-at (key_eq (key_of t.0) k) t.1 (coef (sum_of ts) k) (int_eq-same t.1 (pos 0) e)
    go false e h = ap (λ x. coef_at k (term_of t) +ℤ x) h

-- the others stand for all
pub stands-counted : (ts : Terms) → StandsForOld ts (filter counts ts)
stands-counted ts = λ rule h. record {
  values = counted-every (λ t. IsKeptValue rule t.1) ts h;
  keepable = keepable-values rule (sum_of ts) h;
  same = λ k. ap (kept rule) (counted-coef ts k);
  keys = counted-every (λ t. In t.0 (map (λ u. u.0) (sum_of ts))) ts (own-keys (sum_of ts));
}

-- ---- a row of products

-- t times each term of the row
abbrev pub products : CodeKey × ℤ → Terms → Sum
products t row = map (term_mul (term_of t)) (sum_of row)

pub row-ends : (ks : List CodeKey) (vs : List ℤ) (i : ℕ) → length ks ≡ length vs → length ks ≤ i → length (zip ks vs) ≤ i
row-ends ks vs i same h = let z = length-zip ks vs in omega (arith, z, same, h)

-- the i-th term of a row whose keys and values stand side by side
module _ (rule : Arithmetic) (t : CodeKey × ℤ) (ks : List CodeKey) (vs : List ℤ) (same : length ks ≡ length vs) (row : CanMultiply rule t (zip ks vs)) where
  module _ (i : ℕ) (h : i < length ks) where
    pub row-inside : i < length (zip ks vs)
    row-inside = let z = length-zip ks vs in omega (arith, z, same, h)

    pub row-at : at (zip ks vs) i ≡ (get_or ks i no_term.0, get_or vs i (pos 0))
    row-at = get_or-zip ks vs i no_term h (omega (arith, same, h))

    every-at : (P : Term → Type 0) → Every P (sum_of (zip ks vs)) → P (key_of (get_or ks i no_term.0), get_or vs i (pos 0))
    every-at P e = subst (λ (u : CodeKey × ℤ). P (term_of u)) row-at (Every-at_place P (zip ks vs) i row-inside e)

    pub row-near : IsNearKey (key_of (get_or ks i no_term.0))
    row-near = every-at (λ u. IsNearKey u.0) row.keys

    pub row-degree : degree (key_of t.0) + degree (key_of (get_or ks i no_term.0)) ≤ 24
    row-degree = every-at (λ u. degree (key_of t.0) + degree u.0 ≤ 24) row.degrees

    pub row-keepable : IsKeepable rule (get_or vs i (pos 0))
    row-keepable = every-at (λ u. IsKeepable rule u.1) row.values

    pub row-product : IsKeepable rule (t.1 *ℤ get_or vs i (pos 0))
    row-product = keepable-mul rule t.1 (get_or vs i (pos 0)) row.keepable row-keepable

product-last : (t : CodeKey × ℤ) (row : Terms) (i : ℕ) (u : CodeKey × ℤ) → i < length row → at row i ≡ u → products t (take (i + 1) row) ≡ products t (take i row) ++ term_mul (term_of t) (term_of u) ∷ []
product-last t row i u h e =
    ap (products t) (take_more row i no_term h) ∙ ap (λ (v : CodeKey × ℤ). products t (take i row ++ v ∷ [])) e
    ∙ ap (map (term_mul (term_of t))) (sum_of-append (take i row) (u ∷ [])) ∙ map-append (term_mul (term_of t)) (sum_of (take i row)) (term_of u ∷ [])

-- one product more, by the i-th term u; k and c are the product's key and coefficient, as the code has them
pub stands-step : (rule : Arithmetic) (t : CodeKey × ℤ) (row : Terms) (i : ℕ) (u : CodeKey × ℤ) (k : CodeKey) (c : ℤ) (f f' g : Sum) → i < length row → at row i ≡ u
    → key_of k ≡ key_mul (key_of t.0) (key_of u.0) → c ≡ kept rule (t.1 *ℤ u.1) → IsKeepable rule (t.1 *ℤ u.1)
    → StandsFor rule f (products t (take i row) ++ g) → StandsFor rule f' ((key_of k, c) ∷ f) → StandsFor rule f' (products t (take (i + 1) row) ++ g)
stands-step rule t row i u k c f f' g h a q e v s s' =
    subst (λ (r : Sum). StandsFor rule f' (r ++ g)) (sym (product-last t row i u h a))
    (stands-more rule f f' (products t (take i row)) g (term_mul (term_of t) (term_of u)) v s
    (subst (λ (x : Key). StandsFor rule f' ((x, kept rule (t.1 *ℤ u.1)) ∷ f)) q (subst (λ (y : ℤ). StandsFor rule f' ((key_of k, y) ∷ f)) e s')))
