-- Parts put together: the sorted terms of all, and the mass.
use Rattle.std.proofs.Common.{◌≡◌, ◌≢◌, ℕ, zero, suc, ◌+◌, ◌<◌, ◌≤◌, ◌^◌, refl, sym, subst, ap, ◌∙◌, Bool, true, false, cond, List, [], ◌∷◌, ◌++◌, append_assoc, append-nil, le-leb, drop, take, length, get_or, min, arith}
use Rattle.std.specs.Prelude.{ℤ, pos, ◌+ℤ◌, nat_abs, nat_le}
use Rattle.std.proofs.lemmas.Int.{ints}
use Rattle.std.proofs.lemmas.List.{drop_more, take_more, take_all}
use native.Mathlib.Decide.{dec_le}
use Rattle.scattering.specs.Collections.{Every}
use Rattle.scattering.specs.Series.{Key, Term, Sum, degree, coef, cut, mass_to}
use Rattle.scattering.specs.ThetaProduct.{of_degree}
use Rattle.scattering.proofs.Lists.{Every-append, Every-implies, Every-left, Every-right, Every-filter}
use Rattle.scattering.proofs.Pairing.{coef-append, skip-zero}
use Rattle.scattering.proofs.Coefficients.{coef-cut, coef-above, low-cut}
use Rattle.trunc_series.specs.declared.arithmetic.Arithmetic.{Arithmetic}
use Rattle.trunc_series.specs.declared.arithmetic.Arithmetic.TheVariants.{Saturating}
use Rattle.trunc_series.specs.declared.key.Key.{Key as CodeKey}
use Rattle.trunc_series.specs.Arithmetic.{kept, IsKeepable}
use Rattle.trunc_series.specs.Shown.{sum_of}
use Rattle.trunc_series.specs.Reduced.{Terms, IsKeptAs, AddsUp}
use Rattle.trunc_series.proofs.Terms.{at, sum_of-drop}
use Rattle.trunc_series.proofs.Coefficients.{add-zero}
use Rattle.trunc_series.proofs.Merging.{whole}
use Rattle.trunc_series.specs.Sums.{IsSortedFor}
use Rattle.trunc_series.proofs.TermLists.{keepable-values}
use Rattle.trunc_series.proofs.SortedLists.{none-sorted as nothing-sorted}
use Rattle.wall_auto.specs.ByDegree.{part, StandsByDegree, IsSortedPart, IsSortedWhole, IsMass}
use Rattle.wall_auto.specs.Gains.{size, sizes}
use Rattle.power_tables.proofs.Alike.{Alike, alike-reduced}
use Rattle.wall_auto.proofs.PartSums.{other-degree, part-alike}
use Rattle.wall_auto.proofs.Saturated.{same-mass}

-- all terms of all parts
abbrev pub together : List Sum → Sum
together [] = []
together (p ∷ parts) = p ++ together parts

abbrev pub IsSortedOf : Arithmetic → List Sum → Sum → Type 0
IsSortedOf rule parts r = (k : ℕ) → Every (λ t. degree t.0 ≤ k) (together parts) → IsKeptAs rule k r (together parts)

-- ---- masses

pub size-step : (m : ℕ) (a : List (CodeKey × ℤ)) (i : ℕ) → i < length a
    → min (min (m + nat_abs (at a i).1) (2 ^ 126 + 1) + size (sum_of (drop (i + 1) a))) (2 ^ 126 + 1) ≡ min (m + size (sum_of (drop i a))) (2 ^ 126 + 1)
size-step m a i h = rw (sum_of-drop a i h) (omega arith)

pub sizes-step : (m m' : ℕ) (ps : List Sum) (i : ℕ) (p : Sum) → i < length ps → get_or ps i p ≡ p → m' ≡ min (m + size p) (2 ^ 126 + 1)
    → min (m' + sizes (drop (i + 1) ps)) (2 ^ 126 + 1) ≡ min (m + sizes (drop i ps)) (2 ^ 126 + 1)
sizes-step m m' ps i p h q e =
    let d : sizes (drop i ps) ≡ size p + sizes (drop (i + 1) ps) = ap sizes (drop_more ps i p h) ∙ ap (λ r. size r + sizes (drop (i + 1) ps)) q in
    omega (arith, d, e)

-- ---- all parts together

pub together-every : (P : Term → Type 0) (ps : List Sum) → ((e : ℕ) → e < length ps → Every P (part ps e)) → Every P (together ps)
together-every P [] h = tt
together-every P (p ∷ ps) h = Every-append P p (together ps) (h 0 (omega arith)) (together-every P ps (λ e l. h (suc e) (omega (arith, l))))

pub together-append : (ps qs : List Sum) → together (ps ++ qs) ≡ together ps ++ together qs
together-append [] qs = refl
together-append (p ∷ ps) qs = ap (λ r. p ++ r) (together-append ps qs) ∙ sym (append_assoc p (together ps) (together qs))

together-size : (ps : List Sum) → size (together ps) ≡ sizes ps
together-size [] = refl
together-size (p ∷ ps) = size-append p (together ps) ∙ ap (λ r. size p + r) (together-size ps)
  where
    size-append : (f g : Sum) → size (f ++ g) ≡ size f + size g
    size-append [] g = omega arith
    size-append (t ∷ f) g = let e = size-append f g in omega (arith, e)

-- the parts have the degrees from e on
abbrev DegreesFrom : ℕ → List Sum → Type 0
DegreesFrom e ps = (j : ℕ) → j < length ps → Every (λ t. degree t.0 ≡ e + j) (part ps j)

degrees-after : (e : ℕ) (p : Sum) (ps : List Sum) → DegreesFrom e (p ∷ ps) → DegreesFrom (suc e) ps
degrees-after e p ps h j l = Every-implies (λ (t : Term). degree t.0 ≡ e + suc j) (λ t. degree t.0 ≡ suc e + j) (part ps j) (λ t q. omega (arith, q)) (h (suc j) (omega (arith, l)))

first-degree : (e : ℕ) (p : Sum) (ps : List Sum) → DegreesFrom e (p ∷ ps) → Every (λ t. degree t.0 ≡ e) p
first-degree e p ps h = Every-implies (λ (t : Term). degree t.0 ≡ e + 0) (λ t. degree t.0 ≡ e) p (λ t q. omega (arith, q)) (h 0 (omega arith))

together-none : (e : ℕ) (ps : List Sum) (x : Key) → DegreesFrom e ps → ((j : ℕ) → j < length ps → e + j ≢ degree x) → coef (together ps) x ≡ pos 0
together-none e [] x h o = refl
together-none e (p ∷ ps) x h o =
    let a = other-degree e p x (first-degree e p ps h) (λ q. o 0 (omega arith) (omega (arith, q))) in
    let b = together-none (suc e) ps x (degrees-after e p ps h) (λ j l q. o (suc j) (omega (arith, l)) (omega (arith, q))) in
    coef-append p (together ps) x ∙ sum_zero (coef p x) (coef (together ps) x) a b
  where
    sum_zero : (a b : ℤ) → a ≡ pos 0 → b ≡ pos 0 → a +ℤ b ≡ pos 0
    sum_zero a b p q = omega (arith, ints, p, q)

together-at : (e : ℕ) (ps : List Sum) (x : Key) (j : ℕ) → DegreesFrom e ps → j < length ps → degree x ≡ e + j → coef (together ps) x ≡ coef (part ps j) x
together-at e [] x j h l q = absurd (omega (arith, l))
together-at e (p ∷ ps) x zero h l q =
    let b = together-none (suc e) ps x (degrees-after e p ps h) (λ j l r. omega (arith, q, r)) in
    coef-append p (together ps) x ∙ ap (λ c. coef p x +ℤ c) b ∙ add-zero (coef p x)
together-at e (p ∷ ps) x (suc j) h l q =
    let a = other-degree e p x (first-degree e p ps h) (λ r. omega (arith, q, r)) in
    coef-append p (together ps) x ∙ ap (λ c. c +ℤ coef (together ps) x) a ∙ skip-zero (coef (together ps) x) ∙ together-at (suc e) ps x j (degrees-after e p ps h) (omega (arith, l)) (omega (arith, q))

module _ (rule : Arithmetic) (k : ℕ) (ps : List Sum) (g : Sum) (h : StandsByDegree rule k ps g) where
  low-index : (e : ℕ) → e < length ps → e ≤ k
  low-index e l = let n = h.lengths in omega (arith, l, n)

  parts-degrees : DegreesFrom 0 ps
  parts-degrees j l = Every-implies (λ (t : Term). degree t.0 ≡ j) (λ t. degree t.0 ≡ 0 + j) (part ps j) (λ t q. omega (arith, q)) (h.each j (low-index j l)).degrees

  pub together-alike : Alike rule (together ps) (cut k g)
  together-alike = record {
    left = together-every (λ t. IsKeepable rule t.1) ps (λ e l. keepable-values rule (part ps e) (h.each e (low-index e l)).values);
    right = Every-filter (λ t. IsKeepable rule t.1) (λ t. nat_le (degree t.0) k) g (h.each 0 (omega arith)).keepable;
    same = λ x. elim (dec_le (degree x) k) [
      | yes l ↦
          let n = h.lengths in
          ap (kept rule) (together-at 0 ps x (degree x) parts-degrees (omega (arith, l, n)) (omega arith))
          ∙ (h.each (degree x) l).same x refl ∙ ap (kept rule) (sym (coef-cut k g x l))
      | no o ↦
          let n = h.lengths in
          ap (kept rule) (together-none 0 ps x parts-degrees (λ j l q. omega (arith, l, n, q, o)) ∙ sym (coef-above k (cut k g) x (low-cut k g) (omega (arith, o))))
    ];
  }

  pub together-low : Every (λ t. degree t.0 ≤ k) (together ps)
  together-low = together-every (λ t. degree t.0 ≤ k) ps (λ e l. Every-implies (λ (t : Term). degree t.0 ≡ e) (λ t. degree t.0 ≤ k) (part ps e) (λ t q. let m = low-index e l in omega (arith, q, m)) (h.each e (low-index e l)).degrees)

-- ---- sorted lists

pub sorted-part : (rule : Arithmetic) (ps : List Sum) (e : ℕ) (r : Sum) → e < length ps → IsSortedFor rule r (part ps e) → IsSortedPart rule e ps r
sorted-part rule ps e r l s k g h =
    let n = h.lengths in
    let p = h.each e (omega (arith, l, n)) in
    alike-reduced rule e r (part ps e) (of_degree e g) (s e (Every-implies (λ (t : Term). degree t.0 ≡ e) (λ t. degree t.0 ≤ e) (part ps e) (λ t q. omega (arith, q)) p.degrees)) (part-alike rule e (part ps e) g p)

pub none-sorted : (rule : Arithmetic) → IsSortedOf rule [] []
none-sorted rule k h = nothing-sorted rule k h

pub one-more-sorted : (rule : Arithmetic) (ps : List Sum) (i : ℕ) (p : Sum) (a b r : Terms) → i < length ps → get_or ps i p ≡ p → IsSortedOf rule (take i ps) (sum_of a)
    → IsSortedFor rule (sum_of b) p → AddsUp rule a b r → IsSortedOf rule (take (i + 1) ps) (sum_of r)
one-more-sorted rule ps i p a b r l q h s m =
    let e : together (take (i + 1) ps) ≡ together (take i ps) ++ p =
    ap together (take_more ps i p l) ∙ together-append (take i ps) (get_or ps i p ∷ []) ∙ ap (λ x. together (take i ps) ++ x) (append-nil (get_or ps i p) ∙ q) in
    λ k low. let both = subst (λ (f : Sum). Every (λ t. degree t.0 ≤ k) f) e low in
    subst (λ (f : Sum). IsKeptAs rule k (sum_of r) f) (sym e)
    (m k (together (take i ps)) p (h k (Every-left (λ t. degree t.0 ≤ k) (together (take i ps)) p both)) (s k (Every-right (λ t. degree t.0 ≤ k) (together (take i ps)) p both)))

pub all-sorted : (rule : Arithmetic) (ps : List Sum) (i : ℕ) (r : Sum) → length ps ≤ i → IsSortedOf rule (take i ps) r → IsSortedWhole rule ps r
all-sorted rule ps i r l s k g h =
    let a : IsSortedOf rule ps r = subst (λ (q : List Sum). IsSortedOf rule q r) (take_all i ps l) s in
    alike-reduced rule k r (together ps) (cut k g) (a k (together-low rule k ps g h)) (together-alike rule k ps g h)

-- a sorted list may be kept
pub sorted-whole : (rule : Arithmetic) (ps : List Sum) (r : Sum) → IsSortedOf rule ps r → Every (λ t. IsKeepable rule t.1) r
sorted-whole rule ps r s = let b = bound (together ps) in whole rule r (s b.0 b.1).keeps
  where
    raised : (m n : ℕ) (f : Sum) → m ≤ n → Every (λ t. degree t.0 ≤ m) f → Every (λ t. degree t.0 ≤ n) f
    raised m n f l h = Every-implies (λ (t : Term). degree t.0 ≤ m) (λ t. degree t.0 ≤ n) f (λ t q. omega (arith, q, l)) h

    bound : (f : Sum) → (n : ℕ) × Every (λ t. degree t.0 ≤ n) f
    bound [] = (0, tt)
    bound (t ∷ f) = let b = bound f in (degree t.0 + b.0, (omega arith, raised b.0 (degree t.0 + b.0) f (omega arith) b.1))

-- ---- the mass

pub mass-of-parts : (ps : List Sum) (m : ℕ) → m ≡ min (sizes ps) (2 ^ 126 + 1) → IsMass ps m
mass-of-parts ps m e k g h =
    let a = together-alike Saturating k ps g h in
    let s = same-mass k (together ps) (cut k g) a.left a.right a.same in
    let f : mass_to k (together ps) ≡ sizes ps = mass-low k (together ps) (together-low Saturating k ps g h) ∙ together-size ps in
    let c : mass_to k (cut k g) ≡ mass_to k g = mass-cut g in
    omega (arith, e, s, f, c)
  where
    mass-low : (k : ℕ) (f : Sum) → Every (λ t. degree t.0 ≤ k) f → mass_to k f ≡ size f
    mass-low k [] h = refl
    mass-low k (t ∷ f) h = let a = mass-low k f h.1 in rw (le-leb (degree t.0) k h.0) (omega (arith, a))

    mass-cut : (g : Sum) → mass_to k (cut k g) ≡ mass_to k g
    mass-cut [] = refl
    mass-cut (t ∷ g) = go (nat_le (degree t.0) k) refl (mass-cut g)
      where
        go : (b : Bool) → nat_le (degree t.0) k ≡ b → mass_to k (cut k g) ≡ mass_to k g → mass_to k (cond b (t ∷ cut k g) (cut k g)) ≡ (elim b [ true ↦ nat_abs t.1 | false ↦ 0 ]) + mass_to k g
        go true q h = rw q (omega (arith, h))
        go false q h = omega (arith, h)
