-- What is kept of the parts of a crossing depends on what is kept of the parts before it alone.
use Rattle.std.proofs.Common.{◌≡◌, ℕ, zero, suc, ◌+◌, ◌-◌, ◌≤◌, refl, sym, ap, ◌∙◌, Bool, true, false, cond, [], ◌∷◌, ◌++◌, map, arith}
use Rattle.std.specs.Prelude.{ℤ, pos, ◌+ℤ◌, ◌*ℤ◌, ◌==◌, nat_abs, ◌≢◌}
use native.Mathlib.Decide.{dec_le}
use Rattle.std.proofs.lemmas.Int.{ints}
use Rattle.scattering.specs.Collections.{Every}
use Rattle.scattering.specs.Series.{Key, Term, Sum, degree, key_eq, key_mul, coef, term_mul, cut, mul, geometric}
use Rattle.scattering.specs.ThetaProduct.{of_degree}
use Rattle.scattering.proofs.Keys.{key_eq-same}
use Rattle.scattering.proofs.Lists.{Every-append, Every-implies, Every-filter}
use Rattle.scattering.proofs.Pairing.{coef-append}
use Rattle.scattering.proofs.Coefficients.{coef-none, coef-cut}
use Rattle.trunc_series.specs.declared.arithmetic.Arithmetic.{Arithmetic}
use Rattle.trunc_series.specs.declared.arithmetic.Arithmetic.TheVariants.{Wrapping, Saturating}
use Rattle.trunc_series.specs.Arithmetic.{kept, IsKeepable}
use Rattle.trunc_series.proofs.Coefficients.{add-zero}
use Rattle.trunc_series.proofs.Rows.{sum-keepable}
use Rattle.weight_theory.proofs.Crossings.{geometric-nonnegative}
use Rattle.weight_theory.proofs.Bounds.{pow-nonnegative}
use Rattle.trunc_series.specs.Sums.{AreKeptValues}
use Rattle.trunc_series.proofs.TermLists.{keepable-values}
use Rattle.degree_theory.specs.Parts.{partial_convolution}
use Rattle.degree_theory.specs.Parts as parts_of
use Rattle.degree_theory.proofs.PartLaws.{part-is-read}
use Rattle.power_tables.specs.Parts.{IsPartOf, multiplier}
use Rattle.wall_auto.specs.Gains.{Keeps}
use Rattle.power_tables.proofs.Alike.{Alike, Keepable, alike-refl, alike-append, alike-mul}
use Rattle.wall_auto.proofs.Substituted.{substituted-kept}
use Rattle.wall_auto.proofs.Substituted as low

-- ---- what may be kept

pub all-wrapping : (f : Sum) → Keepable Wrapping f
all-wrapping [] = tt
all-wrapping (t ∷ f) = (tt, all-wrapping f)

pub multiplier-keepable : (rule : Arithmetic) (k : ℕ) (f : Sum) (n : ℤ) → Keepable rule (multiplier rule k f n)
multiplier-keepable Wrapping k f n = all-wrapping (multiplier Wrapping k f n)
multiplier-keepable Saturating k f n = pow-nonnegative k (geometric k f) (nat_abs n) (geometric-nonnegative k f)

pub part-keepable : (rule : Arithmetic) (i : ℕ) (g : Sum) → Keepable rule g → Keepable rule (of_degree i g)
part-keepable rule i g h = Every-filter (λ t. IsKeepable rule t.1) (λ t. degree t.0 == i) g h

-- ---- sums that are kept as others

module _ (rule : Arithmetic) where
  pub keeps-alike : (p x : Sum) → Keeps rule p x → Alike rule p x
  keeps-alike p x h = record { left = keepable-values rule p h.values; right = h.keepable; same = h.same }

  pub alike-keeps : (p x : Sum) → AreKeptValues rule p → Alike rule p x → Keeps rule p x
  alike-keeps p x v h = record { values = v; keepable = h.right; same = h.same }

  pub keeps-itself : (p : Sum) → AreKeptValues rule p → Keeps rule p p
  keeps-itself p v = alike-keeps p p v (alike-refl rule p (keepable-values rule p v))

-- ---- parts

-- where all keys have another degree, there is no coefficient
pub other-degree : (i : ℕ) (p : Sum) (k : Key) → Every (λ t. degree t.0 ≡ i) p → degree k ≢ i → coef p k ≡ pos 0
other-degree i p k h o = coef-none p k (Every-implies (λ (t : Term). degree t.0 ≡ i) (λ t. key_eq t.0 k ≡ false) p (λ t e. go t.0 e (key_eq t.0 k) refl) h)
  where
    go : (x : Key) → degree x ≡ i → (b : Bool) → key_eq x k ≡ b → b ≡ false
    go x e false q = refl
    go x e true q = absurd (o (sym (ap degree (key_eq-same x k q)) ∙ e))

pub part-alike : (rule : Arithmetic) (i : ℕ) (p g : Sum) → IsPartOf rule i p g → Alike rule p (of_degree i g)
part-alike rule i p g h = record {
  left = keepable-values rule p h.values;
  right = part-keepable rule i g h.keepable;
  same = λ k. elim (same_degree (degree k) i) [
    | yes e ↦ h.same k e ∙ ap (kept rule) (sym ((part-is-read i g k).0 e))
    | no o ↦ ap (kept rule) (other-degree i p k h.degrees o ∙ sym ((part-is-read i g k).1 o))
  ];
}
  where
    same_degree : (a b : ℕ) → Dec (a ≡ b)
    same_degree a b = elim (dec_le a b) [
      | yes l ↦ elim (dec_le b a) [ yes m ↦ yes (omega (arith, l, m)) | no m ↦ no (λ e. m (omega (arith, e))) ]
      | no l ↦ no (λ e. l (omega (arith, e)))
    ]

-- ---- rows of products

-- modulo a degree that is high enough, a row is a product
row-product : (x : Term) (g : Sum) (k : Key) → coef (map (term_mul x) g) k ≡ coef (mul (degree k) (x ∷ []) g) k
row-product x g k =
    sym (coef-append (cut (degree k) (map (term_mul x) g)) [] k ∙ add-zero (coef (cut (degree k) (map (term_mul x) g)) k) ∙ coef-cut (degree k) (map (term_mul x) g) k (omega arith))

pub row-alike : (rule : Arithmetic) (x : Term) (f g : Sum) → IsKeepable rule x.1 → Alike rule f g → Alike rule (map (term_mul x) f) (map (term_mul x) g)
row-alike rule x f g h a = record {
  left = sum-keepable rule x f h a.left;
  right = sum-keepable rule x g h a.right;
  same = λ k.
      ap (kept rule) (row-product x f k)
      ∙ (alike-mul rule (degree k) (x ∷ []) (x ∷ []) f g (alike-refl rule (x ∷ []) (h, tt)) a).same k
      ∙ ap (kept rule) (sym (row-product x g k));
}

-- where the term's coefficient is 0, a row adds nothing
pub row-nothing : (rule : Arithmetic) (x : Term) (g : Sum) → x.1 ≡ pos 0 → Keepable rule g → Alike rule [] (map (term_mul x) g)
row-nothing rule x g z h = record {
  left = tt;
  right = sum-keepable rule x g (keepable-at-zero z) h;
  same = λ k. ap (kept rule) (sym (none k g));
}
  where
    keepable-at-zero : x.1 ≡ pos 0 → IsKeepable rule x.1
    keepable-at-zero e = go rule
      where
        go : (r : Arithmetic) → IsKeepable r x.1
        go Wrapping = tt
        go Saturating = omega (arith, ints, e)

    zero-times : (c y : ℤ) → c ≡ pos 0 → c *ℤ y ≡ pos 0
    zero-times c y e = rw e (omega (arith, ints))

    at : (b : Bool) (y : ℤ) → cond b (x.1 *ℤ y) (pos 0) ≡ pos 0
    at true y = zero-times x.1 y z
    at false y = refl

    none : (k : Key) (g : Sum) → coef (map (term_mul x) g) k ≡ pos 0
    none k [] = refl
    none k (u ∷ g) = let a = at (key_eq (key_mul x.0 u.0) k) u.1 in let b = none k g in omega (arith, ints, a, b)

-- ---- sums whose keys are replaced

substituted-product : (E : Key → Sum) (g : Sum) (k : Key) → coef (parts_of.substituted E g) k ≡ coef (low.substituted (degree k) E g) k
substituted-product E [] k = refl
substituted-product E (t ∷ g) k =
    coef-append (map (term_mul t) (E t.0)) (parts_of.substituted E g) k
    ∙ ap (λ c. coef (map (term_mul t) (E t.0)) k +ℤ c) (substituted-product E g k)
    ∙ ap (λ c. c +ℤ coef (low.substituted (degree k) E g) k) (row-product t (E t.0) k)
    ∙ sym (coef-append (mul (degree k) (t ∷ []) (E t.0)) (low.substituted (degree k) E g) k)

pub substituted-keepable : (rule : Arithmetic) (E : Key → Sum) (g : Sum) → ((y : Key) → Keepable rule (E y)) → Keepable rule g → Keepable rule (parts_of.substituted E g)
substituted-keepable rule E [] p h = tt
substituted-keepable rule E (t ∷ g) p h = Every-append (λ u. IsKeepable rule u.1) (map (term_mul t) (E t.0)) (parts_of.substituted E g) (sum-keepable rule t (E t.0) h.0 (p t.0)) (substituted-keepable rule E g p h.1)

pub substituted-alike : (rule : Arithmetic) (E : Key → Sum) (f g : Sum) → ((y : Key) → Keepable rule (E y)) → Alike rule f g → Alike rule (parts_of.substituted E f) (parts_of.substituted E g)
substituted-alike rule E f g p a = record {
  left = substituted-keepable rule E f p a.left;
  right = substituted-keepable rule E g p a.right;
  same = λ k.
      ap (kept rule) (substituted-product E f k)
      ∙ substituted-kept rule (degree k) E f g p a.left a.right a.same k
      ∙ ap (kept rule) (sym (substituted-product E g k));
}

-- one term more
pub substituted-more : (E : Key → Sum) (f : Sum) (t : Term) (k : Key) → coef (parts_of.substituted E (f ++ t ∷ [])) k ≡ coef (map (term_mul t) (E t.0)) k +ℤ coef (parts_of.substituted E f) k
substituted-more E [] t k = coef-append (map (term_mul t) (E t.0)) [] k
substituted-more E (u ∷ f) t k =
    coef-append (map (term_mul u) (E u.0)) (parts_of.substituted E (f ++ t ∷ [])) k
    ∙ ap (λ c. coef (map (term_mul u) (E u.0)) k +ℤ c) (substituted-more E f t k)
    ∙ turned (coef (map (term_mul u) (E u.0)) k) (coef (map (term_mul t) (E t.0)) k) (coef (parts_of.substituted E f) k)
    ∙ ap (λ c. coef (map (term_mul t) (E t.0)) k +ℤ c) (sym (coef-append (map (term_mul u) (E u.0)) (parts_of.substituted E f) k))
  where
    turned : (a b c : ℤ) → a +ℤ (b +ℤ c) ≡ b +ℤ (a +ℤ c)
    turned a b c = omega (arith, ints)

-- ---- convolutions

pub convolution-keepable : (rule : Arithmetic) (F : ℕ → Key → Sum) (P : ℕ → Sum) (e l : ℕ) → ((i : ℕ) (y : Key) → Keepable rule (F i y)) → ((i : ℕ) → Keepable rule (P i)) → (n : ℕ)
    → Keepable rule (partial_convolution F P e l n)
convolution-keepable rule F P e l p q zero = tt
convolution-keepable rule F P e l p q (suc n) =
    Every-append (λ u. IsKeepable rule u.1) (partial_convolution F P e l n) (parts_of.substituted (F (l + n)) (P (e - (l + n)))) (convolution-keepable rule F P e l p q n) (substituted-keepable rule (F (l + n)) (P (e - (l + n))) (p (l + n)) (q (e - (l + n))))

pub convolution-alike : (rule : Arithmetic) (F : ℕ → Key → Sum) (P Q : ℕ → Sum) (e l : ℕ) → ((i : ℕ) (y : Key) → Keepable rule (F i y)) → ((i : ℕ) → i ≤ e → Alike rule (P i) (Q i)) → (n : ℕ)
    → Alike rule (partial_convolution F P e l n) (partial_convolution F Q e l n)
convolution-alike rule F P Q e l p a zero = alike-refl rule [] tt
convolution-alike rule F P Q e l p a (suc n) =
    alike-append rule (partial_convolution F P e l n) (partial_convolution F Q e l n) (parts_of.substituted (F (l + n)) (P (e - (l + n)))) (parts_of.substituted (F (l + n)) (Q (e - (l + n))))
    (convolution-alike rule F P Q e l p a n) (substituted-alike rule (F (l + n)) (P (e - (l + n))) (Q (e - (l + n))) (p (l + n)) (a (e - (l + n)) (omega arith)))
