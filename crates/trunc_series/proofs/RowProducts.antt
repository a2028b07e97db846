-- The product of two sums, added up row by row.
use Rattle.std.proofs.Common.{◌≡◌, ℕ, Bool, true, false, cond, ◌+◌, ◌-◌, ◌<◌, ◌≤◌, ◌⊎◌, inl, inr, refl, sym, subst, ap, ◌∙◌, List, [], ◌∷◌, ◌++◌, append_assoc, map, length, take, zip, arith}
use Rattle.std.specs.Prelude.{nat_le}
use lib.IntN.{+ℤ_comm}
use Rattle.std.proofs.lemmas.List.{take_more, append-nil}
use Rattle.scattering.specs.Collections.{In, Every}
use Rattle.scattering.specs.Series.{Key, Term, Sum, degree, coef, cut, mul, term_mul}
use Rattle.scattering.proofs.Lists.{Every-append, Every-left, Every-right, Every-implies, Every-filter, In-append, In-left, In-right, map-append}
use Rattle.scattering.proofs.Pairing.{coef-append}
use Rattle.scattering.proofs.Coefficients.{low-cut}
use Rattle.trunc_series.specs.declared.arithmetic.Arithmetic.{Arithmetic}
use Rattle.trunc_series.specs.declared.low_rows.Row.{Row}
use Rattle.trunc_series.specs.Arithmetic.{kept, IsKeepable}
use Rattle.trunc_series.specs.Reduced.{Terms, IsNearKey, IsKeptAs}
use Rattle.trunc_series.specs.Shown.{key_of, term_of, sum_of}
use Rattle.trunc_series.specs.Sums.{StandsFor, IsSortedFor, CanMultiply, AddsRow}
use Rattle.trunc_series.specs.LowRows.{IsLowRow, CanBeFactor, row_terms}
use Rattle.trunc_series.proofs.Terms.{no_term, at, sum_of-append, Every-at}
use Rattle.trunc_series.proofs.Rows.{row_sum}
use Rattle.trunc_series.proofs.Products.{low-mul}
use Rattle.trunc_series.proofs.TermLists.{stands-trans, stands-every}
use Rattle.trunc_series.proofs.SortedLists.{stands-sorted}

-- a list stands for two sums in either order
stands-swap : (rule : Arithmetic) (f x g : Sum) → StandsFor rule f (x ++ g) → StandsFor rule f (g ++ x)
stands-swap rule f x g s = record {
  values = s.values;
  keepable = Every-append (λ t. IsKeepable rule t.1) g x (Every-right (λ t. IsKeepable rule t.1) x g s.keepable) (Every-left (λ t. IsKeepable rule t.1) x g s.keepable);
  same = λ k. s.same k ∙ ap (kept rule) (coef-append x g k ∙ +ℤ_comm (coef x k) (coef g k) ∙ sym (coef-append g x k));
  keys = Every-implies (λ t. In t.0 (map (λ (u : Term). u.0) (x ++ g))) (λ t. In t.0 (map (λ (u : Term). u.0) (g ++ x))) f (λ t i. turned t.0 i) s.keys;
}
  where
    either : (y : Key) → In y (map (λ (u : Term). u.0) x) ⊎ In y (map (λ (u : Term). u.0) g) → In y (map (λ (u : Term). u.0) g ++ map (λ (u : Term). u.0) x)
    either y (inl i) = In-right (map (λ (u : Term). u.0) g) (map (λ (u : Term). u.0) x) y i
    either y (inr i) = In-left (map (λ (u : Term). u.0) g) (map (λ (u : Term). u.0) x) y i

    turned : (y : Key) → In y (map (λ (u : Term). u.0) (x ++ g)) → In y (map (λ (u : Term). u.0) (g ++ x))
    turned y i =
        subst (λ (ks : List Key). In y ks) (sym (map-append (λ (u : Term). u.0) g x))
        (either y (In-append (map (λ (u : Term). u.0) x) (map (λ (u : Term). u.0) g) y (subst (λ (ks : List Key). In y ks) (map-append (λ (u : Term). u.0) x g) i)))

-- a row without the terms of degree above n
pub row-cut : (n : ℕ) (t : Term) (g : Sum) → degree t.0 ≤ n → cut n (row_sum t g) ≡ row_sum t (cut (n - degree t.0) g)
row-cut n t [] h = refl
row-cut n t (u ∷ g) h = rw same (go (nat_le (degree u.0) (n - degree t.0)) (row-cut n t g h))
  where
    same : nat_le (degree (term_mul t u).0) n ≡ nat_le (degree u.0) (n - degree t.0)
    same = let e : degree (term_mul t u).0 ≡ degree t.0 + degree u.0 = omega arith in rw e (grind arith)

    go : (b : Bool) → cut n (row_sum t g) ≡ row_sum t (cut (n - degree t.0) g) → cond b (term_mul t u ∷ cut n (row_sum t g)) (cut n (row_sum t g)) ≡ row_sum t (cond b (u ∷ cut (n - degree t.0) g) (cut (n - degree t.0) g))
    go true e = ap (λ r. term_mul t u ∷ r) e
    go false e = e

-- terms above n don't matter to a product to that degree
pub mul-cut : (n : ℕ) (f g : Sum) → mul n f (cut n g) ≡ mul n f g
mul-cut n [] g = refl
mul-cut n (t ∷ f) g = ap (λ (r : Sum). r ++ mul n f (cut n g)) (row g) ∙ ap (λ (r : Sum). cut n (row_sum t g) ++ r) (mul-cut n f g)
  where
    above : (d e : ℕ) → nat_le e n ≡ false → nat_le (d + e) n ≡ false
    above d e q = grind arith

    row : (g : Sum) → cut n (row_sum t (cut n g)) ≡ cut n (row_sum t g)
    row [] = refl
    row (u ∷ g) = go (nat_le (degree u.0) n) refl (row g)
      where
        go : (b : Bool) → nat_le (degree u.0) n ≡ b → cut n (row_sum t (cut n g)) ≡ cut n (row_sum t g) → cut n (row_sum t (cond b (u ∷ cut n g) (cut n g))) ≡ cut n (row_sum t (u ∷ g))
        go true q e = ap (λ (r : Sum). cond (nat_le (degree (term_mul t u).0) n) (term_mul t u ∷ r) r) e
        go false q e =
            let d : degree (term_mul t u).0 ≡ degree t.0 + degree u.0 = omega arith in
            let w : nat_le (degree (term_mul t u).0) n ≡ false = ap (λ (m : ℕ). nat_le m n) d ∙ above (degree t.0) (degree u.0) q in
            e ∙ sym (ap (λ (b : Bool). cond b (term_mul t u ∷ cut n (row_sum t g)) (cut n (row_sum t g))) w)

mul-last : (n : ℕ) (f : Sum) (t : Term) (u : Sum) → mul n (f ++ t ∷ []) u ≡ mul n f u ++ cut n (row_sum t u)
mul-last n [] t u = append-nil (cut n (row_sum t u))
mul-last n (x ∷ f) t u = ap (λ (g : Sum). cut n (row_sum x u) ++ g) (mul-last n f t u) ∙ sym (append_assoc (cut n (row_sum x u)) (mul n f u) (cut n (row_sum t u)))

mul-more : (n : ℕ) (ts : Terms) (i : ℕ) (u : Sum) → i < length ts → mul n (sum_of (take (i + 1) ts)) u ≡ mul n (sum_of (take i ts)) u ++ cut n (row_sum (term_of (at ts i)) u)
mul-more n ts i u h =
    ap (λ (f : Sum). mul n f u) (ap sum_of (take_more ts i no_term h) ∙ sum_of-append (take i ts) (at ts i ∷ []))
    ∙ mul-last n (sum_of (take i ts)) (term_of (at ts i)) u

-- the i-th term, of degree d, times the row of what fits to it
module _ (rule : Arithmetic) (n d : ℕ) (ts : Terms) (i : ℕ) (u : Sum) (r : Row) (inside : i < length ts) (low : degree (term_of (at ts i)).0 ≤ n) (v : d ≡ degree (term_of (at ts i)).0) (q : IsLowRow (n - d) u r) where
  row-terms : row_terms r ≡ cut (n - degree (term_of (at ts i)).0) u
  row-terms = q.terms ∙ ap (λ (e : ℕ). cut (n - e) u) v

  pub row-fits : n ≤ 24 → CanBeFactor rule (sum_of ts) → CanBeFactor rule u → CanMultiply rule (at ts i) (zip r.keys.items r.values.items)
  row-fits high f g = record {
    near = Every-at (λ t. IsNearKey t.0) ts i inside f.near;
    keepable = Every-at (λ t. IsKeepable rule t.1) ts i inside f.keepable;
    keys = subst (λ (s : Sum). Every (λ t. IsNearKey t.0) s) (sym q.terms) (Every-filter (λ (t : Term). IsNearKey t.0) (λ t. nat_le (degree t.0) (n - d)) u g.near);
    values = subst (λ (s : Sum). Every (λ t. IsKeepable rule t.1) s) (sym q.terms) (Every-filter (λ (t : Term). IsKeepable rule t.1) (λ t. nat_le (degree t.0) (n - d)) u g.keepable);
    degrees = subst (λ (s : Sum). Every (λ t. degree (key_of (at ts i).0) + degree t.0 ≤ 24) s) (sym row-terms)
        (Every-implies (λ (t : Term). degree t.0 ≤ n - degree (term_of (at ts i)).0) (λ t. degree (key_of (at ts i).0) + degree t.0 ≤ 24) (cut (n - degree (term_of (at ts i)).0) u) (λ t l. omega (arith, l, high, low)) (low-cut (n - degree (term_of (at ts i)).0) u));
  }

  pub row-added : (old new : Sum) → StandsFor rule old (mul n (sum_of (take i ts)) u) → AddsRow rule old new (at ts i) r.keys.items r.values.items → StandsFor rule new (mul n (sum_of (take (i + 1) ts)) u)
  row-added old new s a =
      let e = ap (map (term_mul (term_of (at ts i)))) row-terms ∙ sym (row-cut n (term_of (at ts i)) u low) in
      subst (λ (g : Sum). StandsFor rule new g) (sym (mul-more n ts i u inside))
      (stands-swap rule new (cut n (row_sum (term_of (at ts i)) u)) (mul n (sum_of (take i ts)) u)
      (stands-trans rule old new (mul n (sum_of (take i ts)) u) (cut n (row_sum (term_of (at ts i)) u)) s
      (subst (λ (x : Sum). StandsFor rule new (x ++ old)) e a)))

-- what fits to a degree is a factor as all terms are, and gives the same product
pub factor-cut : (rule : Arithmetic) (n : ℕ) (f : Sum) → CanBeFactor rule f → CanBeFactor rule (cut n f)
factor-cut rule n f h = record {
  near = Every-filter (λ (t : Term). IsNearKey t.0) (λ t. nat_le (degree t.0) n) f h.near;
  keepable = Every-filter (λ (t : Term). IsKeepable rule t.1) (λ t. nat_le (degree t.0) n) f h.keepable;
}

pub product-stands : (rule : Arithmetic) (n m : ℕ) (f a b c : Sum) → m ≡ n → c ≡ cut n b → StandsFor rule f (mul m a c) → StandsFor rule f (mul n a b)
product-stands rule n m f a b c e q s = subst (λ (g : Sum). StandsFor rule f g) (ap (λ (k : ℕ). mul k a c) e ∙ ap (λ (g : Sum). mul n a g) q ∙ mul-cut n a b) s

-- a sum that stands for a product, put in order, is the product
pub product-sorted : (rule : Arithmetic) (n : ℕ) (r f a b : Sum) → StandsFor rule f (mul n a b) → IsSortedFor rule r f → IsKeptAs rule n r (mul n a b)
product-sorted rule n r f a b s o = stands-sorted rule n r f (mul n a b) (o n (stands-every rule (λ k. degree k ≤ n) f (mul n a b) s (low-mul n a b))) s
