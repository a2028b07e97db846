-- The parts of products, powers, crossings, images and majorants.
use Rattle.std.proofs.Common.{◌≡◌, ℕ, zero, suc, refl, sym, subst, ap, ◌∙◌, ◌≢◌, ◌<◌, ◌≤◌, Bool, true, false, cond, List, [], ◌∷◌, ◌++◌, map, arith}
use Rattle.std.specs.Prelude.{ℤ, pos, ◌+ℤ◌, ◌*ℤ◌, ◌-ℤ◌, neg_ℤ, nat_abs, nat_le, ◌==◌}
use lib.IntN.{+ℤ_comm}
use Rattle.std.proofs.lemmas.Int.{ints}
use Rattle.std.proofs.lemmas.Bool.Decides.{nat_tests}
use Rattle.sum_algebra.proofs.Ring.{var, nought, unit, ring}
use Rattle.sum_algebra.proofs.IntegerRing.{ints_ring, ◌:+◌, ◌:*◌, ◌:-◌, X, Y, Z}
use Rattle.sum_algebra.proofs.Sums.{pair, pair-append, pair-ext, pair-zero, pair-plus}
use Rattle.sum_algebra.proofs.Support.{Supported, by_every, list_power}
use Rattle.sum_algebra.proofs.Coefficients.{indicator}
use Rattle.scattering.specs.Collections.{Every}
use Rattle.scattering.specs.Series.{Exp, Key, Sum, Term, degree, det, coef, key_eq, key_mul, term_mul, z, one, mul, pow, power, geometric, absolute, rest, minus, Same, SameTo, IsMultiple, IsWallFunction}
use Rattle.scattering.specs.Series as D
use Rattle.scattering.specs.LocalProduct.{cross, cross_half, carry, cross_majorant, carry_majorant}
use Rattle.scattering.specs.ThetaProduct.{of_degree}
use Rattle.scattering.proofs.Lists.{Every-implies}
use Rattle.scattering.proofs.Keys.{key_eq-same}
use Rattle.scattering.proofs.Pairing.{coef-append}
use Rattle.scattering.proofs.ShiftedSums.{degree-mul}
use Rattle.crossing_theory.proofs.Keys.{keys}
use Rattle.crossing_theory.proofs.Translation.{Eq, Eq-refl, Eq-trans, Eq-sym, to_Eq, from_Eq, key_test, coef-is, rest-split, pair-mul, pow-same}
use Rattle.crossing_theory.proofs.HalfWalls.{Proper, every-keys, unseen-cross}
use Rattle.weight_theory.proofs.Bounds.{substitute, pair-substitute}
use Rattle.degree_theory.specs.Parts.{choose, sum_of_parts}
use Rattle.degree_theory.specs.Images.{CrossingParts, gain, gains, ends, keeps, adds}
use Rattle.degree_theory.specs.Laws.{PartIsRead, PartsMakeSum, PartOfProduct, SubstitutionIsDetermined, PascalHolds, PartOfPower, PowerBeginsLate, PowerReadsLowDegrees, PartOfCrossing, PartAfterCrossing, CrossingReadsLowDegrees, PartOfImage, ImageKeepsLowDegrees, PartOfMajorantPower, PartAfterMajorant, MajorantReadsLowDegrees, PartOfMajorantImage}
use Rattle.degree_theory.proofs.Binomials.{choose-zero, pascal, suc-is}
use Rattle.degree_theory.proofs.Parts.{All, to_All, from_All, seen, pair-part, seen-high, proper-wall}
use Rattle.degree_theory.proofs.Convolution.{cond-pair, pair-substituted, convolution-after, convolution-from}
use Rattle.degree_theory.proofs.PowerParts.{wall_of, power-from, combination-near, combination-same, numbers, power-expands, pow-expands, part-combination}

-- ---- parts

-- the test of a key, at degree e
seen-test : (e : ℕ) (x y : Key) → seen e (indicator key_test x) y ≡ cond (degree x == e) (indicator key_test x y) (pos 0)
seen-test e x y = go (key_eq y x) refl
  where
    both : (b : Bool) → cond b (pos 0) (pos 0) ≡ pos 0
    both true = refl
    both false = refl

    go : (b : Bool) → key_eq y x ≡ b → cond (degree y == e) (cond (key_eq y x) (pos 1) (pos 0)) (pos 0) ≡ cond (degree x == e) (cond (key_eq y x) (pos 1) (pos 0)) (pos 0)
    go true q = ap (λ (d : ℕ). cond (d == e) (cond (key_eq y x) (pos 1) (pos 0)) (pos 0)) (ap degree (key_eq-same y x q))
    go false q = ap (λ b. cond (degree y == e) (cond b (pos 1) (pos 0)) (pos 0)) q ∙ both (degree y == e) ∙ sym (ap (λ b. cond (degree x == e) (cond b (pos 1) (pos 0)) (pos 0)) q ∙ both (degree x == e))

coef-part : (e : ℕ) (g : Sum) (x : Key) → coef (of_degree e g) x ≡ cond (degree x == e) (coef g x) (pos 0)
coef-part e g x =
    coef-is (of_degree e g) x ∙ pair-part e (indicator key_test x) g ∙ pair-ext _ _ g (seen-test e x) ∙ sym (cond-pair (degree x == e) (indicator key_test x) g)
    ∙ ap (λ c. cond (degree x == e) c (pos 0)) (sym (coef-is g x))

pub part-is-read : PartIsRead
part-is-read e g x = (λ q. coef-part e g x ∙ at (degree x) e (coef g x) q, λ o. coef-part e g x ∙ off (degree x) e (coef g x) o)
  where
    at : (d e : ℕ) (c : ℤ) → d ≡ e → cond (d == e) c (pos 0) ≡ c
    at d e c q = grind (arith, ints, nat_tests)

    off : (d e : ℕ) (c : ℤ) → d ≢ e → cond (d == e) c (pos 0) ≡ pos 0
    off d e c o = grind (arith, ints, nat_tests)

pub parts-make-sum : PartsMakeSum
parts-make-sum k g parts h x l = go k (omega arith) ∙ low (degree x) k (coef g x) l
  where
    low : (d k : ℕ) (c : ℤ) → d ≤ k → cond (nat_le d k) c (pos 0) ≡ c
    low d k c l = grind (arith, ints, nat_tests)

    first : (d : ℕ) (c : ℤ) → cond (d == 0) c (pos 0) ≡ cond (nat_le d 0) c (pos 0)
    first d c = grind (arith, ints, nat_tests)

    step : (d e : ℕ) (c : ℤ) → cond (nat_le d e) c (pos 0) +ℤ cond (d == suc e) c (pos 0) ≡ cond (nat_le d (suc e)) c (pos 0)
    step d e c = grind (arith, ints, nat_tests)

    go : (e : ℕ) → e ≤ k → coef (sum_of_parts parts e) x ≡ cond (nat_le (degree x) e) (coef g x) (pos 0)
    go zero q = h 0 (omega (arith, q)) x ∙ coef-part 0 g x ∙ first (degree x) (coef g x)
    go (suc e) q =
        coef-append (sum_of_parts parts e) (parts (suc e)) x
        ∙ ap (λ c. c +ℤ coef (parts (suc e)) x) (go e (omega (arith, q))) ∙ ap (λ c. cond (nat_le (degree x) e) (coef g x) (pos 0) +ℤ c) (h (suc e) (omega (arith, q)) x ∙ coef-part (suc e) g x)
        ∙ step (degree x) e (coef g x)

-- ---- sums

pub from-degree : (l : ℕ) (u : Sum) → Every (λ t. l ≤ degree t.0) u → Supported (λ x. l ≤ degree x) u
from-degree l u h = by_every (λ x. l ≤ degree x) u (every-keys (λ x. l ≤ degree x) u h)

pub regroup : (e : ℕ) (c x y d : Sum) → Eq e (c ++ ((x ++ y) ++ d)) (c ++ (x ++ (y ++ d)))
regroup e c x y d = record {
  at = λ φ v.
      pair-append φ c ((x ++ y) ++ d) ∙ ap (λ a. pair φ c +ℤ a) (pair-append φ (x ++ y) d ∙ ap (λ a. a +ℤ pair φ d) (pair-append φ x y))
      ∙ ring ints_ring (pair φ c ∷ pair φ x ∷ pair φ y ∷ pair φ d ∷ []) (X :+ ((Y :+ Z) :+ var 3)) (X :+ (Y :+ (Z :+ var 3))) refl
      ∙ sym (pair-append φ c (x ++ (y ++ d)) ∙ ap (λ a. pair φ c +ℤ a) (pair-append φ x (y ++ d) ∙ ap (λ a. pair φ x +ℤ a) (pair-append φ y d)));
}

-- terms of degree at least e, times a term of degree 0
pub term-high : (e : ℕ) (m : Exp) (c : ℤ) (t : Sum) → Every (λ x. e ≤ degree x.0) t → Supported (λ y. e ≤ degree y) (map (term_mul (z m, c)) t)
term-high e m c t q = from-degree e (map (term_mul (z m, c)) t) (each t q)
  where
    each : (t : Sum) → Every (λ x. e ≤ degree x.0) t → Every (λ x. e ≤ degree x.0) (map (term_mul (z m, c)) t)
    each [] q = tt
    each (x ∷ t) q = (let l = q.0 in let d = degree-mul (z m) x.0 in omega (arith, l, d), each t q.1)

-- ---- products

-- a test of keys of degree i
pub in-part : (i : ℕ) (f g : Sum) → Same (of_degree i f) (of_degree i g) → (φ : Key → ℤ) → pair (seen i φ) f ≡ pair (seen i φ) g
in-part i f g h φ = sym (pair-part i φ f) ∙ to_All (of_degree i f) (of_degree i g) h φ ∙ pair-part i φ g

-- a test of a sum whose parts below l are nothing
below-none : (f : Sum) (l : ℕ) → ((i : ℕ) → i < l → Same (of_degree i f) []) → (φ : Key → ℤ) → ((y : Key) → l ≤ degree y → φ y ≡ pos 0) → pair φ f ≡ pos 0
below-none f zero h φ v = pair-ext φ (λ _. pos 0) f (λ y. v y (omega arith)) ∙ pair-zero f
below-none f (suc l) h φ v =
    pair-ext φ (λ y. seen l φ y +ℤ rest_of y) f (λ y. split (degree y) l (φ y))
    ∙ pair-plus (seen l φ) rest_of f
    ∙ rw (in-part l f [] (λ x. h l (omega arith) x) φ, below-none f l (λ i lt. h i (omega (arith, lt))) rest_of high) refl
  where
    rest_of : Key → ℤ
    rest_of y = cond (degree y == l) (pos 0) (φ y)

    split : (d l : ℕ) (v : ℤ) → v ≡ cond (d == l) v (pos 0) +ℤ cond (d == l) (pos 0) v
    split d l v = grind (arith, ints)

    other : (d l : ℕ) (v : ℤ) → (suc l ≤ d → v ≡ pos 0) → l ≤ d → cond (d == l) (pos 0) v ≡ pos 0
    other d l v h le = grind (arith, ints)

    high : (y : Key) → l ≤ degree y → rest_of y ≡ pos 0
    high y le = other (degree y) l (φ y) (v y) le

pub part-of-product : PartOfProduct
part-of-product k l e g h gs hs le none a b =
    from_All _ _
    (convolution-from k (λ x. h) g (mul k g h) (λ i x. hs i) gs l e (λ φ v. pair-mul k g h φ v) le (λ i p q x. b i p q) a
    (λ x φ v. below-none h l none φ v))

pub substitution-is-determined : SubstitutionIsDetermined
substitution-is-determined E F g h each same = from_All _ _ (λ φ.
    pair-substituted E g φ ∙ by_term φ g each ∙ to_All g h same (λ x. pair (λ y. φ (key_mul x y)) (F x)) ∙ sym (pair-substituted F h φ))
  where
    by_term : (φ : Key → ℤ) (g : Sum) → Every (λ t. Same (E t.0) (F t.0)) g → pair (λ x. pair (λ y. φ (key_mul x y)) (E x)) g ≡ pair (λ x. pair (λ y. φ (key_mul x y)) (F x)) g
    by_term φ [] q = refl
    by_term φ (t ∷ g) q = rw (to_All (E t.0) (F t.0) q.0 (λ y. φ (key_mul t.0 y)), by_term φ g q.1) refl

-- ---- powers

pub pascal-holds : PascalHolds
pascal-holds n r = (choose-zero n, ap (λ (m : ℤ). choose m (suc r)) (sym (suc-is n)) ∙ pascal n r ∙ +ℤ_comm (choose n (suc r)) (choose n r))

pub proper-of : (m : ℕ) (d : Exp) (f : Sum) → IsWallFunction m d f → Proper (wall_of d f)
proper-of m d f w = proper-wall (wall_of d f) (m, w)

-- sums that are equal to degree i have the same part there
pub part-same : (i : ℕ) (f g : Sum) → Eq i f g → All (of_degree i f) (of_degree i g)
part-same i f g h φ = pair-part i φ f ∙ h.at (seen i φ) (seen-high i i φ (omega arith)) ∙ sym (pair-part i φ g)

pub part-of-power : PartOfPower
part-of-power k m e d f n us w le h = from_All _ _ (λ φ.
    pair-part e φ (power k f n)
    ∙ (power-expands k e le d f (proper-of m d f w) n).at (seen e φ) (seen-high e e φ (omega arith))
    ∙ part-combination e (choose n) (rest f) us e h φ)

pub power-begins-late : PowerBeginsLate
power-begins-late k l e r u le h lt = from_All _ [] (λ φ.
    pair-part e φ (pow k u r) ∙ (pow-same k u r).at (seen e φ) (seen-high k e φ le)
    ∙ (power-from l u (from-degree l u h) r).at (seen e φ) (λ _. pos 0) (λ x q. seen-high e e φ (omega arith) x (omega (arith, q, lt)))
    ∙ pair-zero (list_power keys u r))

pub same-rest : (e : ℕ) (f f' : Sum) → coef f D.unit ≡ pos 1 → coef f' D.unit ≡ pos 1 → Eq e f f' → Eq e (rest f) (rest f')
same-rest e f f' c c' h = record { at = λ φ v. left φ f c ∙ ap (λ a. a -ℤ pos 1 *ℤ φ D.unit) (h.at φ v) ∙ sym (left φ f' c') }
  where
    left : (φ : Key → ℤ) (f : Sum) → coef f D.unit ≡ pos 1 → pair φ (rest f) ≡ pair φ f -ℤ pos 1 *ℤ φ D.unit
    left φ f c = sym (ap (λ a. a -ℤ pos 1 *ℤ φ D.unit) (rest-split φ f ∙ ap (λ a. a *ℤ φ D.unit +ℤ pair φ (rest f)) c) ∙ ring ints_ring (φ D.unit ∷ pair φ (rest f) ∷ []) ((unit :* X :+ Y) :- unit :* X) Y refl)

powers-same : (k k' m m' e : ℕ) (d : Exp) (f f' : Sum) → IsWallFunction m d f → IsWallFunction m' d f' → e ≤ k → e ≤ k' → Eq e f f' → (n : ℤ) → Eq e (power k f n) (power k' f' n)
powers-same k k' m m' e d f f' w w' le le' h n =
    Eq-trans e _ _ _ (power-expands k e le d f (proper-of m d f w) n)
    (Eq-trans e _ _ _ (combination-same e (choose n) (rest f) (rest f') e (same-rest e f f' w.constant w'.constant h))
    (Eq-sym e _ _ (power-expands k' e le' d f' (proper-of m' d f' w') n)))

pub power-reads-low_degrees : PowerReadsLowDegrees
power-reads-low_degrees k k' m m' e d f f' n w w' le le' h = from_Eq e _ _ (powers-same k k' m m' e d f f' w w' le le' (to_Eq e f f' h) n)

-- ---- crossings

-- parts of the lowest order that has them are parts of any order
any-order : (k m i : ℕ) (d : Exp) (f p : Sum) (n : ℤ) → IsWallFunction m d f → i ≤ k → Same p (of_degree i (power i f n)) → Same p (of_degree i (power k f n))
any-order k m i d f p n w le h = from_All _ _ (λ φ. to_All _ _ h φ ∙ part-same i _ _ (powers-same i k m m i d f f w w (omega arith) le (Eq-refl i f) n) φ)

-- the power that multiplies a key
module _ (k : ℕ) (d : Exp) (f : Sum) (s : ℤ) where
  abbrev pub power_at : Key → Sum
  power_at x = power k f (s *ℤ det d x.exp)

pub part-of-crossing : PartOfCrossing
part-of-crossing k m e d f s g factors parts w le hp hg =
    from_All _ _
    (convolution-from k (power_at k d f s) g (cross k d f s g) factors parts 0 e (pair-substitute k (power_at k d f s) g) le
    (λ i low up x. any-order k m i d f (factors i x) (s *ℤ det d x.exp) w (omega (arith, up, le)) (hp i x low up)) hg
    (λ x φ v. pair-ext φ (λ _. pos 0) (power_at k d f s x) (λ y. v y (omega arith)) ∙ pair-zero (power_at k d f s x)))

pub part-after-crossing : PartAfterCrossing
part-after-crossing k m l e d f s g factors parts w le positive high hp hg =
    from_All _ _
    (convolution-after k (power_at k d f s) g (cross k d f s g) factors parts l e (pair-substitute k (power_at k d f s) g) le
    (λ i low up x. any-order k m i d f (factors i x) (s *ℤ det d x.exp) w (omega (arith, up, le)) (hp i x low up)) hg positive
    (λ c lt lk x. Eq-trans c _ _ _ (power-expands k c lk d f (proper-of m d f w) (s *ℤ det d x.exp)) (combination-near l c c (choose (s *ℤ det d x.exp)) (rest f) (choose-zero (s *ℤ det d x.exp)) lt (from-degree l (rest f) high))))

-- a substitution respects equality to degree e
pub substitute-same : (k k' e : ℕ) (P P' : Key → Sum) (g g' : Sum) → e ≤ k → e ≤ k' → ((x : Key) → Eq e (P x) (P' x)) → Eq e g g' → Eq e (substitute k P g) (substitute k' P' g')
substitute-same k k' e P P' g g' le le' h q = record {
  at = λ φ v.
      pair-substitute k P g φ (λ x d. v x (omega (arith, d, le)))
      ∙ pair-ext _ _ g (λ x. (h x).at (λ y. φ (key_mul x y)) (λ y d. v (key_mul x y) (let m = degree-mul x y in omega (arith, d, m))))
      ∙ q.at (λ x. pair (λ y. φ (key_mul x y)) (P' x)) (λ x d. pair-ext _ (λ _. pos 0) (P' x) (λ y. v (key_mul x y) (let m = degree-mul x y in omega (arith, d, m))) ∙ pair-zero (P' x))
      ∙ sym (pair-substitute k' P' g' φ (λ x d. v x (omega (arith, d, le'))));
}

pub crossing-reads-low_degrees : CrossingReadsLowDegrees
crossing-reads-low_degrees k k' m m' e d f f' s g g' w w' le le' h q =
    from_Eq e _ _
    (substitute-same k k' e (power_at k d f s) (power_at k' d f' s) g g' le le'
    (λ x. powers-same k k' m m' e d f f' w w' le le' (to_Eq e f f' h) (s *ℤ det d x.exp)) (to_Eq e g g' q))

-- ---- images

-- one gain after another
more-gains : (e : ℕ) (f g g' : Sum) (t : CrossingParts) (ts : List CrossingParts) → Same (of_degree e f) (of_degree e g' ++ gains e ts) → Same (of_degree e g') (of_degree e g ++ gain e t) → Same (of_degree e f) (of_degree e g ++ gains e (t ∷ ts))
more-gains e f g g' t ts a b = from_All _ _ (λ φ.
    to_All _ _ a φ ∙ pair-append φ (of_degree e g') (gains e ts) ∙ ap (λ c. c +ℤ pair φ (gains e ts)) (to_All _ _ b φ ∙ pair-append φ (of_degree e g) (gain e t))
    ∙ ring ints_ring (pair φ (of_degree e g) ∷ pair φ (gain e t) ∷ pair φ (gains e ts) ∷ []) (X :+ Y :+ Z) (X :+ (Y :+ Z)) refl
    ∙ sym (pair-append φ (of_degree e g) (gain e t ++ gains e ts) ∙ ap (λ c. pair φ (of_degree e g) +ℤ c) (pair-append φ (gain e t) (gains e ts))))

no-gains : (e : ℕ) (g : Sum) → Same (of_degree e g) (of_degree e g ++ gains e [])
no-gains e g = from_All _ _ (λ φ. sym (pair-append φ (of_degree e g) [] ∙ ring ints_ring (pair φ (of_degree e g) ∷ []) (X :+ nought) X refl))

pub part-of-image : PartOfImage
part-of-image k e [] g [] w le q = no-gains e g
part-of-image k e [] g (t ∷ ts) w le q = absurd q
part-of-image k e (h ∷ hs) g [] w le q = absurd q
part-of-image k e (h ∷ hs) g (t ∷ ts) w le q =
    more-gains e (carry k hs (cross_half k h g)) g (cross_half k h g) t ts (part-of-image k e hs (cross_half k h g) ts w.1 le q.1)
    (part-after-crossing k w.0.0 t.least e h.wall.dir h.wall.function (neg_ℤ h.side) g t.factors t.before w.0.1 le q.0.positive q.0.least q.0.factors q.0.before)

pub image-keeps-low_degrees : ImageKeepsLowDegrees
image-keeps-low_degrees k k' e hs hs' g g' w w' le le' ends q = q
image-keeps-low_degrees k k' e hs hs' g g' w w' le le' (keeps h h' same_dir same_side same r) q =
    image-keeps-low_degrees k k' e _ _ (cross_half k h g) (cross_half k' h' g') w.1 w'.1 le le' r
    (subst (λ (d : Exp). (m : ℕ) × IsWallFunction m d h'.wall.function → SameTo e (cross_half k h g) (cross k' d h'.wall.function (neg_ℤ h'.side) g')) same_dir
    (λ v. subst (λ (s : ℤ). SameTo e (cross_half k h g) (cross k' h.wall.dir h'.wall.function (neg_ℤ s) g')) same_side
    (crossing-reads-low_degrees k k' w.0.0 v.0 e h.wall.dir h.wall.function h'.wall.function (neg_ℤ h.side) g g' w.0.1 v.1 le le' same q)) w'.0)
image-keeps-low_degrees k k' e hs hs' g g' w w' le le' (adds h near r) q =
    image-keeps-low_degrees k k' e hs _ g (cross_half k' h g') w w'.1 le le' r
    (λ x l. q x l ∙ sym (from_Eq e _ _ (unseen-cross k' e e 0 h (proper-wall h.wall w'.0) (to_Eq e h.wall.function one near) le' le' (omega arith) g' (by_any g')) x l))
  where
    by_any : (g : Sum) → Supported (λ x. 0 ≤ degree x) g
    by_any g = record { at = λ φ ψ h. pair-ext φ ψ g (λ x. h x (omega arith)) }

-- ---- majorants

absolute-from : (l : ℕ) (u : Sum) → Every (λ t. l ≤ degree t.0) u → Every (λ t. l ≤ degree t.0) (absolute u)
absolute-from l [] h = tt
absolute-from l (t ∷ u) h = (h.0, absolute-from l u h.1)

pub absolute-degree : (l : ℕ) (u : Sum) → Every (λ t. l ≤ degree t.0) u → Supported (λ x. l ≤ degree x) (absolute u)
absolute-degree l u h = from-degree l (absolute u) (absolute-from l u h)

pub part-of-majorant_power : PartOfMajorantPower
part-of-majorant_power k e f n us le low h = from_All _ _ (λ φ.
    pair-part e φ (pow k (geometric k f) n)
    ∙ (pow-expands k e le (absolute (rest f)) (absolute-degree 1 (rest f) low) n).at (seen e φ) (seen-high e e φ (omega arith))
    ∙ part-combination e (numbers n) (absolute (rest f)) us e h φ)

pub majorants-same : (k k' e : ℕ) (f : Sum) → Every (λ t. 1 ≤ degree t.0) (rest f) → e ≤ k → e ≤ k' → (n : ℕ) → Eq e (pow k (geometric k f) n) (pow k' (geometric k' f) n)
majorants-same k k' e f low le le' n =
    let v = absolute-degree 1 (rest f) low in
    Eq-trans e _ _ _ (pow-expands k e le (absolute (rest f)) v n) (Eq-sym e _ _ (pow-expands k' e le' (absolute (rest f)) v n))

pub one-up : (l : ℕ) (u : Sum) → 1 ≤ l → Every (λ t. l ≤ degree t.0) u → Every (λ t. 1 ≤ degree t.0) u
one-up l u p h = Every-implies (λ t. l ≤ degree t.0) (λ t. 1 ≤ degree t.0) u (λ t q. omega (arith, p, q)) h

module _ (k : ℕ) (d : Exp) (f : Sum) where
  abbrev pub majorant_at : Key → Sum
  majorant_at x = pow k (geometric k f) (nat_abs (det d x.exp))

pub first-number : (n : ℕ) → numbers n 0 ≡ pos 1
first-number zero = refl
first-number (suc n) = refl

-- to degree 0 the factor of a majorant is 1
pub majorant-near : (k : ℕ) (d : Exp) (f : Sum) → Supported (λ x. 1 ≤ degree x) (absolute (rest f)) → (x : Key) → Eq 0 (majorant_at k d f x) one
majorant-near k d f low x =
    Eq-trans 0 _ _ _ (pow-expands k 0 (omega arith) (absolute (rest f)) low (nat_abs (det d x.exp)))
    (combination-near 1 0 0 (numbers (nat_abs (det d x.exp))) (absolute (rest f)) (first-number (nat_abs (det d x.exp))) (omega arith) low)

pub part-after-majorant : PartAfterMajorant
part-after-majorant k l e d f g factors parts le positive high hp hg =
    let low = one-up l (rest f) positive high in
    from_All _ _
    (convolution-after k (majorant_at k d f) g (cross_majorant k d f g) factors parts l e (pair-substitute k (majorant_at k d f) g) le
    (λ i lo up x. from_All _ _ (λ φ. to_All _ _ (hp i x lo up) φ ∙ part-same i _ _ (majorants-same i k i f low (omega arith) (omega (arith, up, le)) (nat_abs (det d x.exp))) φ)) hg positive
    (λ c lt lk x. Eq-trans c _ _ _ (pow-expands k c lk (absolute (rest f)) (absolute-degree 1 (rest f) low) (nat_abs (det d x.exp)))
    (combination-near l c c (numbers (nat_abs (det d x.exp))) (absolute (rest f)) (first-number (nat_abs (det d x.exp))) lt (absolute-degree l (rest f) high))))

pub part-of-majorant_image : PartOfMajorantImage
part-of-majorant_image k e [] g [] le q = no-gains e g
part-of-majorant_image k e [] g (t ∷ ts) le q = absurd q
part-of-majorant_image k e (h ∷ hs) g [] le q = absurd q
part-of-majorant_image k e (h ∷ hs) g (t ∷ ts) le q =
    let g' : Sum = cross_majorant k h.wall.dir h.wall.function g in
    more-gains e (carry_majorant k hs g') g g' t ts (part-of-majorant_image k e hs g' ts le q.1)
    (part-after-majorant k t.least e h.wall.dir h.wall.function g t.factors t.before le q.0.positive q.0.least q.0.factors q.0.before)

pub majorant-reads-low_degrees : MajorantReadsLowDegrees
majorant-reads-low_degrees k k' e d f g g' le le' low q =
    from_Eq e _ _
    (substitute-same k k' e (majorant_at k d f) (majorant_at k' d f) g g' le le'
    (λ x. majorants-same k k' e f low le le' (nat_abs (det d x.exp))) (to_Eq e g g' q))
