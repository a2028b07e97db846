-- A majorant in one variable is that of functions in one variable, and has the same mass.
use Rattle.std.proofs.Common.{◌≡◌, ℕ, zero, suc, ◌+◌, ◌*◌, ◌≤◌, refl, sym, subst, ap, ◌∙◌, Bool, true, false, cond, not, [], ◌∷◌, ◌++◌, map, arith}
use Rattle.std.specs.Prelude.{pos, ◌-ℤ◌, nat_abs, nat_le}
use Rattle.scattering.specs.Collections.{Every}
use Rattle.scattering.specs.Series.{Exp, Key, Term, Sum, degree, det, unit, key_eq, key_mul, term_mul, cut, mul, pow, powers_to, rest, absolute, geometric, mass_to}
use Rattle.scattering.specs.LocalProduct.{cross_majorant}
use Rattle.scattering.proofs.Keys.{key_eq-same, key_eq-apart}
use Rattle.scattering.proofs.Lists.{map-append}
use Rattle.weight_theory.specs.Laws.{IsNonnegative}
use Rattle.local_product.specs.OneVariable.{one_variable, in_one_variable}
use Rattle.local_product.proofs.Exponents.{AreAround}

-- ---- keys

pub same-degree : (k : Key) → degree (one_variable k) ≡ degree k
same-degree k = omega arith

multiplies : (k l : Key) → key_mul (one_variable k) (one_variable l) ≡ one_variable (key_mul k l)
multiplies k l = let e : degree k + degree l ≡ degree (key_mul k l) = omega arith in λ i. record { powers = record { t1 = e i; t2 = 0; t3 = 0; t4 = 0; t5 = 0; t6 = 0; t7 = 0; t8 = 0 }; exp = (key_mul k l).exp }

pub stays-unit : (k : Key) → (key_eq k unit ≡ false → 1 ≤ degree k) → key_eq (one_variable k) unit ≡ key_eq k unit
stays-unit k h = go (key_eq k unit) refl
  where
    go : (b : Bool) → key_eq k unit ≡ b → key_eq (one_variable k) unit ≡ b
    go true e = subst (λ (l : Key). key_eq (one_variable l) unit ≡ true) (sym (key_eq-same k unit e)) refl
    go false e = key_eq-apart (one_variable k, pos 0) unit (λ q. let l = h e in absurd (omega (arith, same-degree k, q, l)))

-- ---- products and powers

row : (k : ℕ) (t : Term) (g : Sum) → cut k (map (term_mul (one_variable t.0, t.1)) (in_one_variable g)) ≡ in_one_variable (cut k (map (term_mul t) g))
row k t [] = refl
row k t (u ∷ g) =
    ap (λ (l : Key). cond (nat_le (degree l) k) ((l, (term_mul t u).1) ∷ cut k (map (term_mul (one_variable t.0, t.1)) (in_one_variable g))) (cut k (map (term_mul (one_variable t.0, t.1)) (in_one_variable g)))) (multiplies t.0 u.0)
    ∙ ap (λ b. cond b ((one_variable (key_mul t.0 u.0), (term_mul t u).1) ∷ cut k (map (term_mul (one_variable t.0, t.1)) (in_one_variable g))) (cut k (map (term_mul (one_variable t.0, t.1)) (in_one_variable g)))) (ap (λ d. nat_le d k) (same-degree (key_mul t.0 u.0)))
    ∙ go (nat_le (degree (key_mul t.0 u.0)) k) (row k t g)
  where
    go : (b : Bool) → cut k (map (term_mul (one_variable t.0, t.1)) (in_one_variable g)) ≡ in_one_variable (cut k (map (term_mul t) g))
        → cond b ((one_variable (key_mul t.0 u.0), (term_mul t u).1) ∷ cut k (map (term_mul (one_variable t.0, t.1)) (in_one_variable g))) (cut k (map (term_mul (one_variable t.0, t.1)) (in_one_variable g)))
        ≡ in_one_variable (cond b (term_mul t u ∷ cut k (map (term_mul t) g)) (cut k (map (term_mul t) g)))
    go true e = ap (λ r. (one_variable (key_mul t.0 u.0), (term_mul t u).1) ∷ r) e
    go false e = e

mul-one_variable : (k : ℕ) (f g : Sum) → mul k (in_one_variable f) (in_one_variable g) ≡ in_one_variable (mul k f g)
mul-one_variable k [] g = refl
mul-one_variable k (t ∷ f) g =
    (λ i. row k t g i ++ mul-one_variable k f g i)
    ∙ sym (map-append (λ (t : Term). (one_variable t.0, t.1)) (cut k (map (term_mul t) g)) (mul k f g))

pow-one_variable : (k : ℕ) (f : Sum) (i : ℕ) → pow k (in_one_variable f) i ≡ in_one_variable (pow k f i)
pow-one_variable k f zero = refl
pow-one_variable k f (suc i) = ap (mul k (in_one_variable f)) (pow-one_variable k f i) ∙ mul-one_variable k f (pow k f i)

powers_to-one_variable : (k : ℕ) (f : Sum) (i : ℕ) → powers_to k (in_one_variable f) i ≡ in_one_variable (powers_to k f i)
powers_to-one_variable k f zero = refl
powers_to-one_variable k f (suc i) =
    (λ j. powers_to-one_variable k f i j ++ pow-one_variable k f (suc i) j)
    ∙ sym (map-append (λ (t : Term). (one_variable t.0, t.1)) (powers_to k f i) (pow k f (suc i)))

-- ---- 1/(2 - |f|)

abbrev pub HasOthers : Sum → Type 0
HasOthers f = Every (λ t. 1 ≤ degree t.0) (rest f)

pub first-other : (t : Term) (f : Sum) → HasOthers (t ∷ f) → (key_eq t.0 unit ≡ false → 1 ≤ degree t.0) × HasOthers f
first-other t f h = go (key_eq t.0 unit) h
  where
    go : (b : Bool) → Every (λ t. 1 ≤ degree t.0) (cond (not b) (t ∷ rest f) (rest f)) → (b ≡ false → 1 ≤ degree t.0) × HasOthers f
    go true e = (λ q. absurd (cc), e)
    go false e = (λ q. e.0, e.1)

pub rest-one_variable : (f : Sum) → HasOthers f → rest (in_one_variable f) ≡ in_one_variable (rest f)
rest-one_variable [] h = refl
rest-one_variable (t ∷ f) h =
    let o = first-other t f h in
    ap (λ b. cond (not b) ((one_variable t.0, t.1) ∷ rest (in_one_variable f)) (rest (in_one_variable f))) (stays-unit t.0 o.0)
    ∙ go (key_eq t.0 unit) (rest-one_variable f o.1)
  where
    go : (b : Bool) → rest (in_one_variable f) ≡ in_one_variable (rest f)
        → cond (not b) ((one_variable t.0, t.1) ∷ rest (in_one_variable f)) (rest (in_one_variable f)) ≡ in_one_variable (cond (not b) (t ∷ rest f) (rest f))
    go true e = e
    go false e = ap (λ r. (one_variable t.0, t.1) ∷ r) e

pub absolute-one_variable : (f : Sum) → absolute (in_one_variable f) ≡ in_one_variable (absolute f)
absolute-one_variable [] = refl
absolute-one_variable (t ∷ f) = ap (λ r. (one_variable t.0, pos (nat_abs t.1)) ∷ r) (absolute-one_variable f)

geometric-one_variable : (k : ℕ) (f : Sum) → HasOthers f → geometric k (in_one_variable f) ≡ in_one_variable (geometric k f)
geometric-one_variable k f h =
    ap (λ u. powers_to k (absolute u) k) (rest-one_variable f h) ∙ ap (λ u. powers_to k u k) (absolute-one_variable (rest f)) ∙ powers_to-one_variable k (absolute (rest f)) k

-- ---- crossings

pub majorant-one_variable : (k : ℕ) (d : Exp) (f g : Sum) → HasOthers f → cross_majorant k d (in_one_variable f) (in_one_variable g) ≡ in_one_variable (cross_majorant k d f g)
majorant-one_variable k d f [] h = refl
majorant-one_variable k d f (t ∷ g) h =
    (λ i. first i ++ majorant-one_variable k d f g h i)
    ∙ sym (map-append (λ (t : Term). (one_variable t.0, t.1)) (mul k (t ∷ []) (pow k (geometric k f) (nat_abs (det d t.0.exp)))) (cross_majorant k d f g))
  where
    first : mul k ((one_variable t.0, t.1) ∷ []) (pow k (geometric k (in_one_variable f)) (nat_abs (det d t.0.exp))) ≡ in_one_variable (mul k (t ∷ []) (pow k (geometric k f) (nat_abs (det d t.0.exp))))
    first =
        ap (λ u. mul k ((one_variable t.0, t.1) ∷ []) (pow k u (nat_abs (det d t.0.exp)))) (geometric-one_variable k f h)
        ∙ ap (mul k ((one_variable t.0, t.1) ∷ [])) (pow-one_variable k (geometric k f) (nat_abs (det d t.0.exp)))
        ∙ mul-one_variable k (t ∷ []) (pow k (geometric k f) (nat_abs (det d t.0.exp)))

pub mass-one_variable : (k : ℕ) (f : Sum) → mass_to k (in_one_variable f) ≡ mass_to k f
mass-one_variable k [] = refl
mass-one_variable k (t ∷ f) = λ i. (elim (nat_le (same-degree t.0 i) k) [ true ↦ nat_abs t.1 | false ↦ 0 ]) + mass-one_variable k f i

pub around-one_variable : (m : Exp) (f : Sum) → AreAround m f → AreAround m (in_one_variable f)
around-one_variable m [] h = tt
around-one_variable m (t ∷ f) h = (subst (λ (d : ℕ). (nat_abs (t.0.exp.a -ℤ m.a) ≤ 64 * d) × (nat_abs (t.0.exp.b -ℤ m.b) ≤ 64 * d)) (sym (same-degree t.0)) h.0, around-one_variable m f h.1)

pub nonnegative-one_variable : (f : Sum) → IsNonnegative f → IsNonnegative (in_one_variable f)
nonnegative-one_variable [] h = tt
nonnegative-one_variable (t ∷ f) h = (h.0, nonnegative-one_variable f h.1)
