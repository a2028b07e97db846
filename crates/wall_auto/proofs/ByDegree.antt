-- Parts that gained what lower parts add stand for the crossing.
use Rattle.std.proofs.Common.{◌≡◌, ℕ, suc, ◌-◌, ◌*◌, ◌<◌, ◌≤◌, ◌^◌, refl, sym, subst, ap, ◌∙◌, List, ◌++◌, length, arith}
use Rattle.std.specs.Prelude.{ℤ, pos, negsuc, ◌+ℤ◌, ◌*ℤ◌, nat_abs}
use Rattle.std.proofs.lemmas.Int.{ints}
use Rattle.scattering.specs.Collections.{Every}
use Rattle.scattering.specs.Series.{Exp, Key, Term, Sum, IsWallFunction, coef, degree, det, rest, pow, geometric}
use Rattle.scattering.specs.ThetaProduct.{of_degree}
use Rattle.scattering.specs.LocalProduct.{cross}
use Rattle.scattering.proofs.Lists.{Every-implies}
use Rattle.scattering.proofs.Pairing.{coef-append}
use Rattle.trunc_series.specs.declared.arithmetic.Arithmetic.{Arithmetic}
use Rattle.trunc_series.specs.declared.arithmetic.Arithmetic.TheVariants.{Wrapping, Saturating}
use Rattle.trunc_series.specs.declared.key.Key.{Key as CodeKey}
use Rattle.trunc_series.specs.Reduced.{IsNearKey}
use Rattle.trunc_series.specs.Shown.{key_of}
use Rattle.trunc_series.specs.Arithmetic.{kept}
use Rattle.weight_theory.proofs.Crossings.{majorant-stays-nonnegative}
use Rattle.degree_theory.specs.Parts.{convolution}
use Rattle.degree_theory.proofs.PartLaws.{part-is-read, part-after-crossing, part-after-majorant}
use Rattle.power_tables.specs.Parts.{IsPartOf, multiplier}
use Rattle.power_tables.specs.Tables.{SeenTable, IsTableOf, TableGrowsBy, keys_at}
use Rattle.wall_auto.specs.declared.side.Side.{Side}
use Rattle.wall_auto.specs.declared.side.Side.TheVariants.{Plus, Minus}
use Rattle.wall_auto.specs.Sign.{sign}
use Rattle.wall_auto.specs.ByDegree.{part, KeyGrowsBy, PartsGrowBy, AreNear, crossing_of, CrossesParts, CrossesWithin}
use Rattle.wall_auto.specs.Gains.{factor_at, GainsParts}
use Rattle.power_tables.proofs.Alike.{Keepable, alike-append}
use Rattle.wall_auto.proofs.PartSums.{all-wrapping, multiplier-keepable, part-keepable, part-alike, convolution-alike}

sign-once : (s : Side) (n : ℤ) → nat_abs (sign s *ℤ n) ≡ nat_abs n
sign-once Plus n = ap nat_abs (let e : pos 1 *ℤ n ≡ n = omega (arith, ints) in e)
sign-once Minus n = let e : nat_abs (negsuc 0 *ℤ n) ≡ nat_abs n = omega (arith, ints) in e

-- the part of a crossing, or of its majorant, in the factors that gains are made of
crossing-part : (rule : Arithmetic) (k m e l : ℕ) (d : Exp) (f : Sum) (s : Side) (g : Sum) → IsWallFunction m d f → e ≤ k → 1 ≤ l → Every (λ t. l ≤ degree t.0) (rest f) → (x : Key)
    → coef (of_degree e (crossing_of rule k d f (sign s) g)) x ≡ coef (of_degree e g ++ convolution (factor_at rule f d (sign s)) (λ i. of_degree i g) l e) x
crossing-part Wrapping k m e l d f s g w le p q = part-after-crossing k m l e d f (sign s) g (factor_at Wrapping f d (sign s)) (λ i. of_degree i g) w le p q (λ i x a b y. refl) (λ i a y. refl)
crossing-part Saturating k m e l d f s g w le p q =
    part-after-majorant k l e d f g (factor_at Saturating f d (sign s)) (λ i. of_degree i g) le p q
    (λ i x a b y. ap (λ (n : ℕ). coef (of_degree i (pow i (geometric i f) n)) y) (sign-once s (det d x.exp))) (λ i a y. refl)

crossing-keepable : (rule : Arithmetic) (k : ℕ) (d : Exp) (f : Sum) (s : ℤ) (g : Sum) → Keepable rule g → Keepable rule (crossing_of rule k d f s g)
crossing-keepable Wrapping k d f s g h = all-wrapping (cross k d f s g)
crossing-keepable Saturating k d f s g h = majorant-stays-nonnegative k d f g h

-- exponents that can be added grow by some number a degree
near-growth : (t : SeenTable) (k : ℕ) (f : Sum) → IsTableOf t.rule k f t → 1 ≤ t.least → TableGrowsBy (2 ^ 29) t
near-growth t k f is p i low = Every-implies (λ (x : CodeKey). IsNearKey (key_of x)) (λ x. (nat_abs x.exp.a ≤ 2 ^ 29 * i) × (nat_abs x.exp.b ≤ 2 ^ 29 * i)) (keys_at t i) (λ x h. (let a = h.0 in omega (arith, a, p, low), let b = h.1 in omega (arith, b, p, low))) (is.near i low)

near-within : (parts : List Sum) → AreNear parts → PartsGrowBy 65536 (2 ^ 29) parts
near-within parts h e l =
    Every-implies (λ (t : Term). KeyGrowsBy 65536 0 e t.0) (λ t. KeyGrowsBy 65536 (2 ^ 29) e t.0) (part parts e)
    (λ t w. (w.0, (let a = w.1 in omega (arith, a)), (let b = w.2 in omega (arith, b)))) (h e l)

pub parts-crossed : (t : SeenTable) (d : Exp) (s : Side) (old new : List Sum) → 1 ≤ t.least → length new ≡ length old → AreNear old → GainsParts t d (sign s) old new
    → CrossesWithin t old new → CrossesParts t d (sign s) old new
parts-crossed t d s old new positive order near gains within k m f g w is stands = record { lengths = order ∙ stands.lengths; each = each }
  where
    each : (e : ℕ) → e ≤ k → IsPartOf t.rule e (part new e) (crossing_of t.rule k d f (sign s) g)
    each e le =
        let o : e < length old = (let n = stands.lengths in omega (arith, n, le)) in
        let F : ℕ → Key → Sum = λ i x. factor_at t.rule f d (sign s) i x in
        let K = gains f (subst (λ (n : ℕ). IsTableOf t.rule n f t) (sym is.reach) is) e o in
        let C : Sum = convolution (factor_at t.rule f d (sign s)) (part old) t.least e in
        let G : Sum = convolution (factor_at t.rule f d (sign s)) (λ i. of_degree i g) t.least e in
        let v = within 65536 (2 ^ 29) (near-growth t k f is positive) (near-within old near) in
        let A = alike-append t.rule C G (part old e) (of_degree e g)
        (convolution-alike t.rule (factor_at t.rule f d (sign s)) (part old) (λ i. of_degree i g) e t.least (λ i y. part-keepable t.rule i (multiplier t.rule i f (sign s *ℤ det d y.exp)) (multiplier-keepable t.rule i f (sign s *ℤ det d y.exp)))
        (λ i l. part-alike t.rule i (part old i) g (stands.each i (omega (arith, l, le)))) (suc e - t.least))
        (part-alike t.rule e (part old e) g (stands.each e le)) in
        record {
          values = K.values;
          degrees = Every-implies (λ (u : Term). KeyGrowsBy 65536 (2 ^ 29) e u.0) (λ u. degree u.0 ≡ e) (part new e) (λ u h. h.0) (v e (omega (arith, order, o)));
          keepable = crossing-keepable t.rule k d f (sign s) g (stands.each e le).keepable;
          same = λ x q.
              K.same x ∙ A.same x
              ∙ ap (kept t.rule)
              (coef-append G (of_degree e g) x ∙ turned (coef G x) (coef (of_degree e g) x) ∙ sym (coef-append (of_degree e g) G x)
              ∙ sym (crossing-part t.rule k m e t.least d f s g w le positive is.least x)
              ∙ (part-is-read e (crossing_of t.rule k d f (sign s) g) x).0 q);
        }
      where
        turned : (a b : ℤ) → a +ℤ b ≡ b +ℤ a
        turned a b = omega (arith, ints)
