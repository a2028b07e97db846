-- One term with its theta: the least degree at its exponent, and how far exponents are from the origin.
use Rattle.std.proofs.Common.{◌≡◌, ◌≢◌, ℕ, refl, sym, ap, ◌∙◌, ◌+◌, ◌*◌, ◌<◌, ◌≤◌, ◌^◌, ◌⊎◌, inl, inr, arith, List, [], ◌∷◌, ◌++◌, map, min}
use Rattle.std.specs.Prelude.{ℤ, pos, ◌+ℤ◌, ◌-ℤ◌, nat_abs, None}
use Rattle.std.proofs.lemmas.Int.{ints}
use Rattle.limits.specs.Limits.{highest_order, exponent_per_degree}
use Rattle.scattering.specs.Collections.{In, Every}
use Rattle.scattering.specs.Series.{Exp, Key, Term, Sum, key_mul, term_mul, degree, coef, mul, cut, IsSeries}
use Rattle.scattering.specs.Plane.{Point, IsPoint}
use Rattle.scattering.specs.Wall.{Wall, IsWall, cut_walls}
use Rattle.scattering.specs.Theta.{IsAskFault, IsTheta}
use Rattle.scattering.specs.ThetaProduct.{BeginsAt}
use Rattle.scattering.proofs.Lists.{Every-at, Every-from_In, Every-filter, Every-append, Every-implies, Every-push, In-left, In-right}
use Rattle.scattering.proofs.Determined.{coef-own, coef-find}
use Rattle.scattering.proofs.ShiftedSums.{degree-mul}
use Rattle.trunc_series.specs.Arithmetic.{IsKeepable}
use Rattle.trunc_series.specs.Reduced.{IsKeptAs, IsFactor, IsNearKey}
use Rattle.trunc_series.specs.declared.arithmetic.Arithmetic.TheVariants.{Wrapping}
use Rattle.broken_line_theory.proofs.Reach.{AreTermsWithin}
use Rattle.broken_line_theory.proofs.ThetaWithin.{IsNearby, theta-within}
use Rattle.broken_line_theory.proofs.UniqueFamily.{only}
use Rattle.theta_algebra.specs.Families.{largest_factor}
use Rattle.theta_algebra.specs.Stages.{GrowsFrom, GrowsFromFactors}
use Rattle.theta_algebra.proofs.StepLaws.{kept-keys, Every-both}

-- ---- the least degree at an exponent

-- the least of those that were read, or the limit
pub record IsLeastTo (u : Sum) (r : Exp) (k d : ℕ) : Type 0 where
  pub bound : d ≤ k
  pub low : Every (λ t. t.0.exp ≡ r → d ≤ degree t.0) u
  pub found : (d ≡ k) ⊎ ((t : Term) × In t u × (t.0.exp ≡ r) × (degree t.0 ≡ d))

pub least-none : (r : Exp) (k : ℕ) → IsLeastTo [] r k k
least-none r k = record { bound = omega arith; low = tt; found = inl refl }

pub least-more : (u : Sum) (r : Exp) (k d d' : ℕ) (t : Term) → IsLeastTo u r k d → t.0.exp ≡ r → d' ≡ min d (degree t.0) → IsLeastTo (u ++ t ∷ []) r k d'
least-more u r k d d' t h e m = record {
  bound = at-most d (degree t.0) d' k m h.bound;
  low = Every-push (λ t. t.0.exp ≡ r → d' ≤ degree t.0) u t (Every-implies (λ (v : Term). v.0.exp ≡ r → d ≤ degree v.0) (λ v. v.0.exp ≡ r → d' ≤ degree v.0) u (λ v f g. at-most d (degree t.0) d' (degree v.0) m (f g)) h.low) (λ g. second d (degree t.0) d' m);
  found = either d (degree t.0) d' m h.found refl;
}
  where
    at-most : (d x d' y : ℕ) → d' ≡ min d x → d ≤ y → d' ≤ y
    at-most d x d' y m l = grind arith

    second : (d x d' : ℕ) → d' ≡ min d x → d' ≤ x
    second d x d' m = grind arith

    which : (d x d' : ℕ) → d' ≡ min d x → (d' ≡ d) ⊎ (d' ≡ x)
    which d x d' m = grind arith

    either : (d x d' : ℕ) → d' ≡ min d x → (d ≡ k) ⊎ ((t : Term) × In t u × (t.0.exp ≡ r) × (degree t.0 ≡ d)) → degree t.0 ≡ x → (d' ≡ k) ⊎ ((v : Term) × In v (u ++ t ∷ []) × (v.0.exp ≡ r) × (degree v.0 ≡ d'))
    either d x d' m f g = go (which d x d' m) f
      where
        go : (d' ≡ d) ⊎ (d' ≡ x) → (d ≡ k) ⊎ ((t : Term) × In t u × (t.0.exp ≡ r) × (degree t.0 ≡ d)) → (d' ≡ k) ⊎ ((v : Term) × In v (u ++ t ∷ []) × (v.0.exp ≡ r) × (degree v.0 ≡ d'))
        go (inl a) (inl b) = inl (a ∙ b)
        go (inl a) (inr b) = inr (b.0, In-left u (t ∷ []) b.0 b.1, b.2, b.3 ∙ sym a)
        go (inr a) b = inr (t, In-right u (t ∷ []) t (inl refl), e, g ∙ sym a)

pub least-other : (u : Sum) (r : Exp) (k d : ℕ) (t : Term) → IsLeastTo u r k d → t.0.exp ≢ r → IsLeastTo (u ++ t ∷ []) r k d
least-other u r k d t h n = record {
  bound = h.bound;
  low = Every-push (λ t. t.0.exp ≡ r → d ≤ degree t.0) u t h.low (λ e. absurd (n e));
  found = go h.found;
}
  where
    go : (d ≡ k) ⊎ ((t : Term) × In t u × (t.0.exp ≡ r) × (degree t.0 ≡ d)) → (d ≡ k) ⊎ ((v : Term) × In v (u ++ t ∷ []) × (v.0.exp ≡ r) × (degree v.0 ≡ d))
    go (inl e) = inl e
    go (inr b) = inr (b.0, In-left u (t ∷ []) b.0 b.1, b.2, b.3)

pub least-all : (a : Sum) (r : Exp) (k d : ℕ) → IsLeastTo a r k d → (i : ℕ) → IsSeries k a → BeginsAt a r i → d ≡ i
least-all a r k d h i series begins = go h.found
  where
    at-begin : (d ≤ i) × (i ≤ k)
    at-begin =
        let t = coef-find a begins.found.0 begins.found.1 in
        let e : degree t.0.0 ≡ i = ap degree t.2 ∙ begins.found.3 in
        let l = Every-at (λ (t : Term). t.0.exp ≡ r → d ≤ degree t.0) a t.0 h.low t.1 (ap (λ (x : Key). x.exp) t.2 ∙ begins.found.2) in
        let m = Every-at (λ (t : Term). degree t.0 ≤ k) a t.0 series.low t.1 in
        (omega (arith, e, l), omega (arith, e, m))

    go : (d ≡ k) ⊎ ((t : Term) × In t a × (t.0.exp ≡ r) × (degree t.0 ≡ d)) → d ≡ i
    go (inl e) = let p = at-begin.0 in let q = at-begin.1 in omega (arith, e, p, q)
    go (inr t) =
        let n : coef a t.0.0 ≢ pos 0 = λ z. Every-at (λ (t : Term). t.1 ≢ pos 0) a t.0 series.nonzero t.1 (sym (coef-own a series.rises t.0 t.1) ∙ z) in
        let l = begins.least t.0.0 n t.2 in
        let p = at-begin.0 in let e = t.3 in omega (arith, e, l, p)

-- ---- exponents

module _ (ws : List Wall) (n k : ℕ) (r : Exp) (q : Point) (walls : Every (IsWall k) ws) (point : IsPoint q) (within : AreTermsWithin exponent_per_degree (cut_walls n ws)) where
  pub theta-nearby : (theta : Sum) (o : ℕ) → IsSeries o theta → IsAskFault ws n r q None → IsTheta ws n r q theta → Every (λ t. IsNearby exponent_per_degree r t.0.exp (degree t.0)) theta
  theta-nearby theta o series free is =
      Every-from_In (λ t. IsNearby exponent_per_degree r t.0.exp (degree t.0)) theta
      (λ t i. theta-within ws n k r q walls point exponent_per_degree within theta free is t.0 (λ z. Every-at (λ (t : Term). t.1 ≢ pos 0) theta t series.nonzero i (sym (coef-own theta series.rises t i) ∙ z)))

-- the products of a term with a theta
product-within : (k : ℕ) (x : Key) (c : ℤ) (theta : Sum) → GrowsFrom (2 * largest_factor) x → Every (λ t. IsNearby exponent_per_degree x.exp t.0.exp (degree t.0)) theta → Every GrowsFromFactors (mul k ((only x, c) ∷ []) theta)
product-within k x c theta g h =
    Every-append GrowsFromFactors (cut k (map (term_mul (only x, c)) theta)) [] (Every-filter GrowsFromFactors _ (map (term_mul (only x, c)) theta) (each theta h)) tt
  where
    near : (a r : ℤ) (d e o : ℕ) → nat_abs (a -ℤ r) ≤ exponent_per_degree * e → nat_abs r ≤ 2 * largest_factor + exponent_per_degree * d → o ≡ d + e → nat_abs (pos 0 +ℤ a) ≤ 2 * largest_factor + exponent_per_degree * o
    near a r d e o h g s = omega (arith, ints, h, g, s)

    each : (theta : Sum) → Every (λ t. IsNearby exponent_per_degree x.exp t.0.exp (degree t.0)) theta → Every GrowsFromFactors (map (term_mul (only x, c)) theta)
    each [] h = tt
    each (t ∷ theta) h =
        let d = degree-mul (only x) t.0 in
        ((near t.0.exp.a x.exp.a (degree x) (degree t.0) (degree (key_mul (only x) t.0)) h.0.0 g.0 d, near t.0.exp.b x.exp.b (degree x) (degree t.0) (degree (key_mul (only x) t.0)) h.0.1 g.1 d), each theta h.1)

pub taken-within : (k : ℕ) (x : Key) (c : ℤ) (theta left after : Sum) → GrowsFrom (2 * largest_factor) x → Every (λ t. IsNearby exponent_per_degree x.exp t.0.exp (degree t.0)) theta
    → Every GrowsFromFactors left → IsKeptAs Wrapping k after (left ++ mul k ((only x, c) ∷ []) theta) → Every GrowsFromFactors after
taken-within k x c theta left after g h near kept =
    kept-keys (λ x. GrowsFromFactors (x, pos 0)) k after (left ++ mul k ((only x, c) ∷ []) theta) kept (Every-both GrowsFromFactors left (mul k ((only x, c) ∷ []) theta) near (product-within k x c theta g h))

-- a theta can be multiplied
pub theta-factor : (o k : ℕ) (x : Key) (theta : Sum) → k ≤ highest_order → degree x ≤ k → o ≤ highest_order → IsSeries o theta → GrowsFrom (2 * largest_factor) x → Every (λ t. IsNearby exponent_per_degree x.exp t.0.exp (degree t.0)) theta → IsFactor Wrapping theta
theta-factor o k x theta low d low' series g h = record {
  rises = series.rises;
  keepable = all theta;
  near = near theta series.low h;
}
  where
    all : (f : Sum) → Every (λ t. IsKeepable Wrapping t.1) f
    all [] = tt
    all (t ∷ f) = (tt, all f)

    small : (a r : ℤ) (i e : ℕ) → nat_abs (a -ℤ r) ≤ exponent_per_degree * e → nat_abs r ≤ 2 * largest_factor + exponent_per_degree * i → i ≤ highest_order → e ≤ highest_order → nat_abs a < 2 ^ 29
    small a r i e h g l m = omega (arith, ints, h, g, l, m)

    near : (f : Sum) → Every (λ t. degree t.0 ≤ o) f → Every (λ t. IsNearby exponent_per_degree x.exp t.0.exp (degree t.0)) f → Every (λ t. IsNearKey t.0) f
    near [] l h = tt
    near (t ∷ f) l h =
        let i = bound d low in let e = bound l.0 low' in
        ((small t.0.exp.a x.exp.a (degree x) (degree t.0) h.0.0 g.0 i e, small t.0.exp.b x.exp.b (degree x) (degree t.0) h.0.1 g.1 i e), near f l.1 h.1)
      where
        bound : {p q : ℕ} → p ≤ q → q ≤ highest_order → p ≤ highest_order
        bound l m = omega (arith, l, m)

pub askable : (k : ℕ) (x : Key) → k ≤ highest_order → degree x ≤ k → GrowsFrom (2 * largest_factor) x → (nat_abs x.exp.a ≤ 2048) × (nat_abs x.exp.b ≤ 2048)
askable k x low d g = (small x.exp.a (degree x) g.0 d, small x.exp.b (degree x) g.1 d)
  where
    small : (a : ℤ) (i : ℕ) → nat_abs a ≤ 2 * largest_factor + exponent_per_degree * i → i ≤ k → nat_abs a ≤ 2048
    small a i h l = omega (arith, h, l, low)
