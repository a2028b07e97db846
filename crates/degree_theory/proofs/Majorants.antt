-- Majorants of images keep their low degrees, and their mass is that of their parts.
use Rattle.std.proofs.Common.{◌≡◌, ℕ, zero, suc, refl, sym, subst, ap, ◌∙◌, ◌+◌, ◌≤◌, cond, [], ◌∷◌, arith}
use Rattle.std.specs.Prelude.{ℤ, pos, ◌+ℤ◌, ◌*ℤ◌, nat_abs, nat_le, ◌==◌}
use Rattle.std.proofs.lemmas.Int.{ints}
use Rattle.std.proofs.lemmas.Bool.Decides.{nat_tests}
use Rattle.sum_algebra.proofs.Ring.{nought, unit, ring}
use Rattle.sum_algebra.proofs.IntegerRing.{ints_ring, ◌:+◌, ◌:*◌, X}
use Rattle.sum_algebra.proofs.Sums.{pair, pair-ext, pair-plus}
use Rattle.sum_algebra.proofs.Support.{Supported, by_every}
use Rattle.scattering.specs.Collections.{Every}
use Rattle.scattering.specs.Series.{Exp, Key, Sum, degree, det, coef, key_mul, one, pow, geometric, absolute, rest, mass_to, SameTo, IsMultiple, IsWallFunction}
use Rattle.scattering.specs.Series as D
use Rattle.scattering.specs.LocalProduct.{cross_majorant}
use Rattle.scattering.specs.ThetaProduct.{of_degree}
use Rattle.scattering.proofs.DistinctKeys.{HasDistinctKeys, series-distinct}
use Rattle.scattering.proofs.Lists.{Every-implies, pairs-filter}
use Rattle.crossing_theory.proofs.Keys.{keys}
use Rattle.crossing_theory.proofs.Translation.{Eq, Eq-refl, Eq-trans, Eq-sym, to_Eq, from_Eq}
use Rattle.weight_theory.proofs.Bounds.{substitute, pair-substitute}
use Rattle.weight_theory.proofs.Masses.{counts, counted-exactly, coef-absolute}
use Rattle.degree_theory.specs.Parts.{mass_of_parts}
use Rattle.degree_theory.specs.Images.{ends, keeps, adds}
use Rattle.degree_theory.specs.Laws.{MajorantImageKeepsLowDegrees, MassByParts}
use Rattle.degree_theory.proofs.Parts.{to_All, seen, pair-part}
use Rattle.degree_theory.proofs.PowerParts.{numbers, pow-expands, combination-same, combination-near}
use Rattle.degree_theory.proofs.PartLaws.{same-rest, absolute-degree, substitute-same, majorant_at, first-number}

-- ---- low degrees

absolute-same : (e : ℕ) (u v : Sum) → HasDistinctKeys u → HasDistinctKeys v → Eq e u v → Eq e (absolute u) (absolute v)
absolute-same e u v a b h = to_Eq e _ _ (λ x l. coef-absolute u a x ∙ ap (λ c. pos (nat_abs c)) (from_Eq e u v h x l) ∙ sym (coef-absolute v b x))

rest-distinct : (m : ℕ) (d : Exp) (f : Sum) → IsWallFunction m d f → HasDistinctKeys (rest f)
rest-distinct m d f w = pairs-filter _ _ f (series-distinct m f w.series)

pub rest-low : (m : ℕ) (d : Exp) (f : Sum) → IsWallFunction m d f → Every (λ t. 1 ≤ degree t.0) (rest f)
rest-low m d f w = Every-implies (λ t. (1 ≤ degree t.0) × IsMultiple d t.0.exp) (λ t. 1 ≤ degree t.0) (rest f) (λ t q. q.0) w.others

pub absolute-low : (m : ℕ) (d : Exp) (f : Sum) → IsWallFunction m d f → Supported (λ x. 1 ≤ degree x) (absolute (rest f))
absolute-low m d f w = absolute-degree 1 (rest f) (rest-low m d f w)

majorant-same : (k k' m m' e : ℕ) (d : Exp) (f f' : Sum) → IsWallFunction m d f → IsWallFunction m' d f' → e ≤ k → e ≤ k' → SameTo e f f' → (n : ℕ) → Eq e (pow k (geometric k f) n) (pow k' (geometric k' f') n)
majorant-same k k' m m' e d f f' w w' le le' h n =
    Eq-trans e _ _ _ (pow-expands k e le (absolute (rest f)) (absolute-low m d f w) n)
    (Eq-trans e _ _ _ (combination-same e (numbers n) (absolute (rest f)) (absolute (rest f')) e (absolute-same e (rest f) (rest f') (rest-distinct m d f w) (rest-distinct m' d f' w') (same-rest e f f' w.constant w'.constant (to_Eq e f f' h))))
    (Eq-sym e _ _ (pow-expands k' e le' (absolute (rest f')) (absolute-low m' d f' w') n)))

majorant-one : (k m e : ℕ) (d : Exp) (f : Sum) → IsWallFunction m d f → e ≤ k → SameTo e f one → (n : ℕ) → Eq e (pow k (geometric k f) n) one
majorant-one k m e d f w le h n =
    Eq-trans e _ _ _ (pow-expands k e le (absolute (rest f)) (absolute-low m d f w) n)
    (Eq-trans e _ _ _ (combination-same e (numbers n) (absolute (rest f)) [] e (absolute-same e (rest f) [] (rest-distinct m d f w) tt (same-rest e f one w.constant refl (to_Eq e f one h))))
    (combination-near (suc e) e e (numbers n) [] (first-number n) (omega arith) (by_every (λ x. suc e ≤ degree x) [] tt)))

pub by-one : (k : ℕ) (g : Sum) → Eq k (substitute k (λ _. one) g) g
by-one k g = record {
  at = λ φ v.
      pair-substitute k (λ _. one) g φ v
      ∙ pair-ext _ φ g (λ x. ap (λ y. pos 1 *ℤ φ y +ℤ pos 0) (keys.comm x D.unit ∙ keys.unit_left x) ∙ ring ints_ring (φ x ∷ []) (unit :* X :+ nought) X refl);
}

pub majorant-image-keeps-low_degrees : MajorantImageKeepsLowDegrees
majorant-image-keeps-low_degrees k k' e hs hs' g g' w w' le le' ends q = q
majorant-image-keeps-low_degrees k k' e hs hs' g g' w w' le le' (keeps h h' same_dir same_side same r) q =
    majorant-image-keeps-low_degrees k k' e _ _ (cross_majorant k h.wall.dir h.wall.function g) (cross_majorant k' h'.wall.dir h'.wall.function g') w.1 w'.1 le le' r
    (subst (λ (d : Exp). (m : ℕ) × IsWallFunction m d h'.wall.function → SameTo e (cross_majorant k h.wall.dir h.wall.function g) (cross_majorant k' d h'.wall.function g')) same_dir
    (λ v. from_Eq e _ _
    (substitute-same k k' e (majorant_at k h.wall.dir h.wall.function) (majorant_at k' h.wall.dir h'.wall.function) g g' le le'
    (λ x. majorant-same k k' w.0.0 v.0 e h.wall.dir h.wall.function h'.wall.function w.0.1 v.1 le le' same (nat_abs (det h.wall.dir x.exp))) (to_Eq e g g' q))) w'.0)
majorant-image-keeps-low_degrees k k' e hs hs' g g' w w' le le' (adds h near r) q =
    majorant-image-keeps-low_degrees k k' e hs _ g (cross_majorant k' h.wall.dir h.wall.function g') w w'.1 le le' r
    (from_Eq e _ _
    (Eq-trans e _ _ _ (to_Eq e g g' q)
    (Eq-sym e _ _
    (Eq-trans e _ _ _
    (substitute-same k' e e (majorant_at k' h.wall.dir h.wall.function) (λ _. one) g' g' le' (omega arith)
    (λ x. majorant-one k' w'.0.0 e h.wall.dir h.wall.function w'.0.1 le' near (nat_abs (det h.wall.dir x.exp))) (Eq-refl e g'))
    (by-one e g')))))

-- ---- mass_of_parts

step : (d k : ℕ) → cond (nat_le d (suc k)) (pos 1) (pos 0) ≡ cond (nat_le d k) (pos 1) (pos 0) +ℤ cond (d == suc k) (cond (nat_le d (suc k)) (pos 1) (pos 0)) (pos 0)
step d k = grind (arith, ints, nat_tests)

first : (d : ℕ) → cond (nat_le d 0) (pos 1) (pos 0) ≡ cond (d == 0) (cond (nat_le d 0) (pos 1) (pos 0)) (pos 0)
first d = grind (arith, ints, nat_tests)

pub mass-by-parts : MassByParts
mass-by-parts k g parts p each of = whole (mass_to k g) (mass_of_parts parts k) (sym (counted-exactly k g p) ∙ go k (omega arith))
  where
    whole : (a b : ℕ) → pos a ≡ pos b → a ≡ b
    whole a b e = omega (arith, ints, e)

    one-part : (e : ℕ) → e ≤ k → pair (seen e (counts e)) g ≡ pos (mass_to e (parts e))
    one-part e le = sym (pair-part e (counts e) g) ∙ sym (to_All (parts e) (of_degree e g) (of e (omega (arith, le))) (counts e)) ∙ counted-exactly e (parts e) (each e le)

    added : (a b : ℕ) (x y : ℤ) → x ≡ pos a → y ≡ pos b → x +ℤ y ≡ pos (a + b)
    added a b x y e f = omega (arith, ints, e, f)

    go : (e : ℕ) → e ≤ k → pair (counts e) g ≡ pos (mass_of_parts parts e)
    go zero le = pair-ext _ _ g (λ x. first (degree x)) ∙ one-part 0 le
    go (suc e) le =
        pair-ext _ _ g (λ x. step (degree x) e) ∙ pair-plus (counts e) (seen (suc e) (counts (suc e))) g
        ∙ added (mass_of_parts parts e) (mass_to (suc e) (parts (suc e))) _ _ (go e (omega (arith, le))) (one-part (suc e) le)
