-- At most one family fits.
use Rattle.std.proofs.Common.{◌≡◌, ◌≢◌, ℕ, zero, suc, refl, sym, ap, subst, ◌∙◌, ◌-◌, ◌<◌, ◌≤◌, ◌⊎◌, inl, inr, arith, Bool, true, false, cond, List, [], ◌∷◌, length}
use Rattle.std.specs.Prelude.{ℤ, pos, ◌+ℤ◌, ◌-ℤ◌, ◌*ℤ◌, nat_le}
use Rattle.std.proofs.lemmas.Int.{ints}
use native.Mathlib.Decide.{dec_le}
use Rattle.scattering.proofs.Pairing.{pairing, pairing-zero, coef-append}
use Rattle.scattering.proofs.CrossingChanges.{moved}
use Rattle.scattering.proofs.ShiftedSums.{moved-pairing, shift, moved-respects, degree-mul}
use Rattle.scattering.specs.Collections.{In, Every}
use Rattle.scattering.specs.Series.{Exp, Key, Term, Sum, origin, key_eq, key_mul, degree, coef, mul, z, monomial, Same, SameTo, IsSeries}
use Rattle.scattering.specs.Plane.{Point, IsPoint}
use Rattle.scattering.specs.Wall.{Wall, IsWall}
use Rattle.scattering.specs.ThetaProduct.{BeginsAt, combined, AreThetas, IsFamily}
use Rattle.scattering.proofs.Lists.{Every-at}
use Rattle.scattering.proofs.Keys.{key_eq-same, same-or-not, same-powers}
use Rattle.scattering.proofs.Determined.{coef-find}
use Rattle.broken_line_theory.proofs.EqualSums.{agree, pairing-minus, at_key, pairing-at, coef-mul, moved-same, mul-same}
use Rattle.broken_line_theory.proofs.LeadingMonomial.{theta-unique, theta-leading}
use Rattle.broken_line_theory.specs.Laws.{FamilyIsUnique}
use Rattle.sum_algebra.proofs.Integers.{minus-same, zero-or-not, times-zero, times-same}

-- ---- the least degree at an exponent

abbrev pub Below : Sum → Exp → ℕ → Sum → Type 0
Below a r d g = (t : Term) × In t g × (coef a t.0 ≢ pos 0) × (t.0.exp ≡ r) × (degree t.0 < d)

abbrev pub AboveAll : Sum → Exp → ℕ → Sum → Type 0
AboveAll a r d g = (t : Term) → In t g → coef a t.0 ≢ pos 0 → t.0.exp ≡ r → d ≤ degree t.0

pub find : (a : Sum) (r : Exp) (d : ℕ) (g : Sum) → Below a r d g ⊎ AboveAll a r d g
find a r d [] = inr (λ t i. absurd i)
find a r d (t ∷ g) = go (find a r d g) (zero-or-not (coef a t.0)) (same-or-not t.0.exp r) (dec_le d (degree t.0))
  where
    head : (coef a t.0 ≢ pos 0 → t.0.exp ≡ r → d ≤ degree t.0) → AboveAll a r d g → AboveAll a r d (t ∷ g)
    head h k u (inl e) n s = subst (λ (w : Term). d ≤ degree w.0) (sym e) (h (subst (λ (w : Term). coef a w.0 ≢ pos 0) e n) (subst (λ (w : Term). w.0.exp ≡ r) e s))
    head h k u (inr i) n s = k u i n s

    go : Below a r d g ⊎ AboveAll a r d g → (coef a t.0 ≡ pos 0) ⊎ (coef a t.0 ≢ pos 0) → (t.0.exp ≡ r) ⊎ (t.0.exp ≢ r) → Dec (d ≤ degree t.0) → Below a r d (t ∷ g) ⊎ AboveAll a r d (t ∷ g)
    go (inl b) c e l = inl (b.0, inr b.1, b.2, b.3, b.4)
    go (inr k) (inl z) e l = inr (head (λ n s. absurd (n z)) k)
    go (inr k) (inr n) (inr e) l = inr (head (λ m s. absurd (e s)) k)
    go (inr k) (inr n) (inl e) (yes l) = inr (head (λ m s. l) k)
    go (inr k) (inr n) (inl e) (no l) = inl (t, inl refl, n, e, omega (arith, l))

least-of : (a : Sum) (x : Key) → coef a x ≢ pos 0 → AboveAll a x.exp (degree x) a → BeginsAt a x.exp (degree x)
least-of a x n h = record {
  found = (x, n, refl, refl);
  least = λ y m e. let t = coef-find a y m in
      subst (λ (w : Key). degree x ≤ degree w) t.2 (h t.0 t.1 (subst (λ (w : Key). coef a w ≢ pos 0) (sym t.2) m) (ap (λ (w : Key). w.exp) t.2 ∙ e));
}

begins-by : (fuel : ℕ) (a : Sum) (x : Key) → degree x ≤ fuel → coef a x ≢ pos 0 → (d : ℕ) × (d ≤ degree x) × BeginsAt a x.exp d
begins-by zero a x le n = go (find a x.exp (degree x) a)
  where
    go : Below a x.exp (degree x) a ⊎ AboveAll a x.exp (degree x) a → (d : ℕ) × (d ≤ degree x) × BeginsAt a x.exp d
    go (inl b) = let l = b.4 in absurd (omega (arith, le, l))
    go (inr h) = (degree x, omega arith, least-of a x n h)
begins-by (suc fuel) a x le n = go (find a x.exp (degree x) a) (λ y l m. begins-by fuel a y l m)
  where
    go : Below a x.exp (degree x) a ⊎ AboveAll a x.exp (degree x) a → ((y : Key) → degree y ≤ fuel → coef a y ≢ pos 0 → (d : ℕ) × (d ≤ degree y) × BeginsAt a y.exp d) → (d : ℕ) × (d ≤ degree x) × BeginsAt a x.exp d
    go (inl b) r =
        let l = b.4 in
        let s = r b.0.0 (omega (arith, le, l)) b.2 in
        (s.0, let k = s.1 in omega (arith, k, l), subst (λ (e : Exp). BeginsAt a e s.0) b.3 s.2)
    go (inr h) r = (degree x, omega arith, least-of a x n h)

pub begins : (a : Sum) (x : Key) → coef a x ≢ pos 0 → (d : ℕ) × (d ≤ degree x) × BeginsAt a x.exp d
begins a x n = begins-by (degree x) a x (omega arith) n

abbrev pub AgreeBelow : ℕ → Sum → Sum → Type 0
AgreeBelow d a b = (x : Key) → degree x < d → coef a x ≡ coef b x

pub shared-begin : (a b : Sum) (r : Exp) (d i : ℕ) → AgreeBelow d a b → i < d → BeginsAt a r i → BeginsAt b r i
shared-begin a b r d i same lt h = record {
  found = (h.found.0, λ e. h.found.1 (same h.found.0 (let k = h.found.3 in omega (arith, k, lt)) ∙ e), h.found.2, h.found.3);
  least = λ x n e. go x n e (dec_le i (degree x));
}
  where
    go : (x : Key) → coef b x ≢ pos 0 → x.exp ≡ r → Dec (i ≤ degree x) → i ≤ degree x
    go x n e (yes l) = l
    go x n e (no l) = h.least x (λ z. n (sym (same x (omega (arith, l, lt))) ∙ z)) e

-- ---- the sum of all read as a pairing
abbrev pub only : Key → Key
only x = record { powers = x.powers; exp = origin }

abbrev pub reading : ℕ → (Exp → Sum) → Key → Key → ℤ
reading k thetas y x = coef (moved k (only x) (pos 1) (thetas x.exp)) y

plus-zero : (c d e r : ℤ) → d ≡ r → (c *ℤ e +ℤ pos 0) +ℤ d ≡ c *ℤ e +ℤ r
plus-zero c d e r h = rw h (omega (arith, ints))

pub coef-combined : (k : ℕ) (thetas : Exp → Sum) (a : Sum) (y : Key) → coef (combined k thetas a) y ≡ pairing (reading k thetas y) a
coef-combined k thetas [] y = refl
coef-combined k thetas (t ∷ a) y =
    coef-append (mul k ((only t.0, t.1) ∷ []) (thetas t.0.exp)) (combined k thetas a) y
    ∙ ap (λ c. c +ℤ coef (combined k thetas a) y) (coef-mul k ((only t.0, t.1) ∷ []) (thetas t.0.exp) y)
    ∙ plus-zero t.1 (coef (combined k thetas a) y) (reading k thetas y t.0) (pairing (reading k thetas y) a) (coef-combined k thetas a y)

shift-above : (k : ℕ) (x y u : Key) → degree y < degree x → shift k x y u ≡ pos 0
shift-above k x y u lt = go (nat_le (degree (key_mul x u)) k) refl (key_eq (key_mul x u) y) refl
  where
    go : (a : Bool) → nat_le (degree (key_mul x u)) k ≡ a → (b : Bool) → key_eq (key_mul x u) y ≡ b → shift k x y u ≡ pos 0
    go true e true q = absurd (let d : degree (key_mul x u) ≡ degree y = ap degree (key_eq-same (key_mul x u) y q) in let m = degree-mul x u in omega (arith, d, m, lt))
    go true e false q = rw (e, q) refl
    go false e b q = rw e refl

zero-times : (c d : ℤ) → c ≡ pos 0 → c *ℤ d ≡ pos 0
zero-times c d e = rw e (omega (arith, ints))

reading-above : (k : ℕ) (thetas : Exp → Sum) (y x : Key) → degree y < degree x → reading k thetas y x ≡ pos 0
reading-above k thetas y x lt =
    moved-pairing k (only x) y (thetas x.exp)
    ∙ pairing-zero (shift k (only x) y) (length (thetas x.exp)) (thetas x.exp) (omega arith) (λ u. times-zero (coef (thetas x.exp) u) (shift k (only x) y u) (shift-above k (only x) y u lt))

only-mul : (x : Key) → key_mul (only x) (z x.exp) ≡ x
only-mul x =
    let p : (key_mul (only x) (z x.exp)).powers ≡ x.powers = same-powers _ x.powers (omega arith) (omega arith) (omega arith) (omega arith) (omega arith) (omega arith) (omega arith) (omega arith) in
    let a : pos 0 +ℤ x.exp.a ≡ x.exp.a = omega (arith, ints) in
    let b : pos 0 +ℤ x.exp.b ≡ x.exp.b = omega (arith, ints) in
    λ i. record { powers = p i; exp = record { a = a i; b = b i } }

reading-level : (k : ℕ) (thetas : Exp → Sum) (y x : Key) → degree x ≡ degree y → degree y ≤ k → SameTo 0 (thetas x.exp) (monomial (z x.exp)) → reading k thetas y x ≡ at_key y x
reading-level k thetas y x e l s =
    moved-respects k 0 (only x) y (thetas x.exp) (monomial (z x.exp)) s (omega (arith, e)) ∙ at (nat_le (degree (key_mul (only x) (z x.exp))) k) refl
  where
    low : (a : Bool) → nat_le (degree (key_mul (only x) (z x.exp))) k ≡ a → a ≡ false → ⊥
    low a q f = let m = degree-mul (only x) (z x.exp) in let d = ap degree (only-mul x) in let r : nat_le (degree x) k ≡ false = subst (λ (w : Key). nat_le (degree w) k ≡ false) (only-mul x) (q ∙ f) in bad (degree x) (degree y) k e l r
      where
        bad : (a b c : ℕ) → a ≡ b → b ≤ c → nat_le a c ≡ false → ⊥
        bad a b c p q r = grind arith

    done : (b : Bool) → cond b (pos 1 *ℤ pos 1) (pos 0) +ℤ pos 0 ≡ cond b (pos 1) (pos 0)
    done true = refl
    done false = refl

    at : (a : Bool) → nat_le (degree (key_mul (only x) (z x.exp))) k ≡ a → coef (moved k (only x) (pos 1) (monomial (z x.exp))) y ≡ at_key y x
    at true q = rw q (done (key_eq (key_mul (only x) (z x.exp)) y) ∙ ap (λ w. at_key y w) (only-mul x))
    at false q = absurd (low false q refl)

-- ---- one family
at-other : (y x : Key) → degree x ≢ degree y → at_key y x ≡ pos 0
at-other y x n = go (key_eq x y) refl
  where
    go : (b : Bool) → key_eq x y ≡ b → at_key y x ≡ pos 0
    go true e = absurd (n (ap degree (key_eq-same x y e)))
    go false e = rw e refl

abbrev excess : ℕ → (Exp → Sum) → Key → Key → ℤ
excess k thetas y x = reading k thetas y x -ℤ at_key y x

minus-self : (a b : ℤ) → a ≡ b → a -ℤ b ≡ pos 0
minus-self a b e = omega (arith, ints, e)

two-zeros : (a b : ℤ) → a ≡ pos 0 → b ≡ pos 0 → a -ℤ b ≡ pos 0
two-zeros a b e f = omega (arith, ints, e, f)

module _ (ws : List Wall) (k j : ℕ) (q : Point) (walls : Every (IsWall j) ws) (point : IsPoint q) where
  -- at its degree and above a family reads as its own coefficient
  level : (a : Sum) (thetas : Exp → Sum) (y x : Key) → AreThetas ws k q a thetas → degree y ≤ k → degree y ≤ degree x → coef a x *ℤ excess k thetas y x ≡ pos 0
  level a thetas y x are low le = go (zero-or-not (coef a x)) (dec_le (degree x) (degree y))
    where
      go : (coef a x ≡ pos 0) ⊎ (coef a x ≢ pos 0) → Dec (degree x ≤ degree y) → coef a x *ℤ excess k thetas y x ≡ pos 0
      go (inl e) l = zero-times (coef a x) (excess k thetas y x) e
      go (inr n) (no l) = times-zero (coef a x) (excess k thetas y x) (two-zeros (reading k thetas y x) (at_key y x) (reading-above k thetas y x (omega (arith, l))) (at-other y x (λ e. omega (arith, l, e))))
      go (inr n) (yes l) =
          let b = begins a x n in
          let t = are x.exp b.0 b.2 in
          times-zero (coef a x) (excess k thetas y x)
          (minus-self (reading k thetas y x) (at_key y x) (reading-level k thetas y x (omega (arith, l, le)) low (theta-leading ws (k - b.0) j x.exp q (thetas x.exp) walls point t.0 t.1)))

  -- below it both read the same
  under : (a b : Sum) (thetas others : Exp → Sum) (d : ℕ) (y x : Key) → AgreeBelow d a b → AreThetas ws k q a thetas → AreThetas ws k q b others → degree x < d → coef a x *ℤ excess k thetas y x ≡ coef b x *ℤ excess k others y x
  under a b thetas others d y x same are are' lt = go (zero-or-not (coef a x))
    where
      go : (coef a x ≡ pos 0) ⊎ (coef a x ≢ pos 0) → coef a x *ℤ excess k thetas y x ≡ coef b x *ℤ excess k others y x
      go (inl e) = zero-times (coef a x) (excess k thetas y x) e ∙ sym (zero-times (coef b x) (excess k others y x) (sym (same x lt) ∙ e))
      go (inr n) =
          let i = begins a x n in
          let t = are x.exp i.0 i.2 in
          let u = are' x.exp i.0 (shared-begin a b x.exp d i.0 same (let l = i.1 in omega (arith, l, lt)) i.2) in
          let s = theta-unique ws (k - i.0) x.exp q (thetas x.exp) (others x.exp) t.1 u.1 in
          times-same (coef a x) (excess k thetas y x) (coef b x) (excess k others y x) (same x lt)
          (minus-same (reading k thetas y x) (at_key y x) (reading k others y x) (at_key y x) (moved-same k (only x) y (thetas x.exp) (others x.exp) s) refl)

  -- what a family reads at a degree, less its own coefficient there, depends on what is below
  pub excess-same : (a b : Sum) (thetas others : Exp → Sum) (y : Key) → AreThetas ws k q a thetas → AreThetas ws k q b others → degree y ≤ k → AgreeBelow (degree y) a b
      → coef (combined k thetas a) y -ℤ coef a y ≡ coef (combined k others b) y -ℤ coef b y
  excess-same a b thetas others y are are' low same =
      let e : pairing (excess k thetas y) a ≡ pairing (excess k others y) b = agree (excess k thetas y) (excess k others y) (length a) a b (omega arith) (λ x. go x (dec_le (degree y) (degree x))) in
      finish (pairing (excess k thetas y) a) (pairing (excess k others y) b) (pairing (reading k thetas y) a) (pairing (reading k others y) b) (pairing (at_key y) a) (pairing (at_key y) b) (coef a y) (coef b y)
      (coef (combined k thetas a) y) (coef (combined k others b) y)
      e (pairing-minus (reading k thetas y) (at_key y) a) (pairing-minus (reading k others y) (at_key y) b) (pairing-at y a) (pairing-at y b) (coef-combined k thetas a y) (coef-combined k others b y)
    where
      go : (x : Key) → Dec (degree y ≤ degree x) → coef a x *ℤ excess k thetas y x ≡ coef b x *ℤ excess k others y x
      go x (yes l) = level a thetas y x are low l ∙ sym (level b others y x are' low l)
      go x (no l) = under a b thetas others (degree y) y x same are are' (omega (arith, l))

      finish : (p r u v s t c d m n : ℤ) → p ≡ r → p ≡ u -ℤ s → r ≡ v -ℤ t → s ≡ c → t ≡ d → m ≡ u → n ≡ v → m -ℤ c ≡ n -ℤ d
      finish p r u v s t c d m n e f g h i l o = omega (arith, ints, e, f, g, h, i, l, o)

  step : (a b : Sum) (thetas others : Exp → Sum) (y : Key) → AreThetas ws k q a thetas → AreThetas ws k q b others → degree y ≤ k → AgreeBelow (degree y) a b
      → coef (combined k thetas a) y ≡ coef (combined k others b) y → coef a y ≡ coef b y
  step a b thetas others y are are' low same sums = let e = excess-same a b thetas others y are are' low same in omega (arith, ints, e, sums)

  all-below : (a b : Sum) (thetas others : Exp → Sum) → AreThetas ws k q a thetas → AreThetas ws k q b others → SameTo k (combined k thetas a) (combined k others b) → (d : ℕ) → d ≤ suc k → AgreeBelow d a b
  all-below a b thetas others are are' sums zero le y lt = absurd (omega (arith, lt))
  all-below a b thetas others are are' sums (suc d) le y lt =
      step a b thetas others y are are' (omega (arith, le, lt)) (λ x l. all-below a b thetas others are are' sums d (omega (arith, le)) x (omega (arith, l, lt))) (sums y (omega (arith, le, lt)))

  none-above : (a : Sum) → IsSeries k a → (y : Key) → suc k ≤ degree y → coef a y ≡ pos 0
  none-above a s y h = go (zero-or-not (coef a y))
    where
      go : (coef a y ≡ pos 0) ⊎ (coef a y ≢ pos 0) → coef a y ≡ pos 0
      go (inl e) = e
      go (inr n) = let t = coef-find a y n in let l = Every-at (λ t. degree t.0 ≤ k) a t.0 s.low t.1 in let d = ap degree t.2 in absurd (omega (arith, l, d, h))

  -- where a family fits it is the only one
  pub family-unique : (l r : Exp) (a b : Sum) → IsFamily ws k l r q a → IsFamily ws k l r q b → Same a b
  family-unique l r a b f g y = go (dec_le (degree y) k)
    where
      sums : SameTo k (combined k f.1.0 a) (combined k g.1.0 b)
      sums x low =
          let s = f.1.2 in let t = g.1.2 in
          s.4 x low
          ∙ mul-same k s.0 t.0 s.1 t.1 (theta-unique ws k l q s.0 t.0 s.2 t.2) (theta-unique ws k r q s.1 t.1 s.3 t.3) x
          ∙ sym (t.4 x low)

      go : Dec (degree y ≤ k) → coef a y ≡ coef b y
      go (yes low) = all-below a b f.1.0 g.1.0 f.1.1 g.1.1 sums (suc k) (omega arith) y (omega (arith, low))
      go (no high) = none-above a f.0 y (omega (arith, high)) ∙ sym (none-above b g.0 y (omega (arith, high)))

pub family_unique : FamilyIsUnique
family_unique ws n k l r q a b walls point = family-unique ws n k q walls point l r a b
