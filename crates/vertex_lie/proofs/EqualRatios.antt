-- Ratios that are one number, in lowest terms or not: their sums, and that what fits depends on the number alone.
use Rattle.std.proofs.Common.{◌≡◌, refl, sym, subst, ap, ◌∙◌, List, [], ◌∷◌, arith}
use Rattle.std.specs.Prelude.{ℤ, pos, ◌+ℤ◌, ◌*ℤ◌, ◌≤ℤ◌, nat_abs, FitsSigned}
use Rattle.std.specs.Int.{w128}
use Rattle.std.proofs.lemmas.Nat.Gcd.{dvd_refl, dvd-zero}
use Rattle.std.proofs.Math.Nat.{one-dvd}
use Rattle.std.proofs.lemmas.Int.{ints}
use Rattle.sum_algebra.proofs.Ring.{var, nought, unit, ring}
use Rattle.sum_algebra.proofs.IntegerRing.{ints_ring, ◌:+◌, ◌:*◌, X, Y, Z, W}
use Rattle.sum_algebra.proofs.Integers.{positive-mul}
use Rattle.scattering.specs.Correction.{Ratio, IsRatio}
use Rattle.plane_theory.proofs.Directions.{cancel, positive-not}
use Rattle.frac_128.specs.Quotient.{IsLowest, AreEqual, SumFits, LowestFits}
use Rattle.frac_128.proofs.Lowest.{lowest-unique}
use Rattle.frac_128.proofs.Sum.{sum-suffices}
use Rattle.vertex_lie.specs.RationalBracket.{AreSame, plus, zero_ratio, sum_from, AddFits, SumsFit}

abbrev pub Positive : Ratio → Type 0
Positive r = pos 1 ≤ℤ r.den

pub same-refl : (r : Ratio) → AreSame r r
same-refl r = refl

pub same-sym : (r s : Ratio) → AreSame r s → AreSame s r
same-sym r s e = sym e

pub same-trans : (r s t : Ratio) → Positive s → AreSame r s → AreSame s t → AreSame r t
same-trans r s t p e f =
    cancel s.den (r.num *ℤ t.den) (t.num *ℤ r.den) (positive-not s.den p)
    (ring ints_ring (s.den ∷ r.num ∷ t.den ∷ []) (X :* (Y :* Z)) (Z :* (Y :* X)) refl
    ∙ ap (λ x. t.den *ℤ x) e
    ∙ ring ints_ring (t.den ∷ s.num ∷ r.den ∷ []) (X :* (Y :* Z)) (Z :* (Y :* X)) refl
    ∙ ap (λ x. r.den *ℤ x) f
    ∙ ring ints_ring (r.den ∷ t.num ∷ s.den ∷ []) (X :* (Y :* Z)) (Z :* (Y :* X)) refl)

pub plus-positive : (r s : Ratio) → Positive r → Positive s → Positive (plus r s)
plus-positive r s p q = positive-mul r.den s.den p q

pub plus-same : (r r' s s' : Ratio) → AreSame r r' → AreSame s s' → AreSame (plus r s) (plus r' s')
plus-same r r' s s' e f =
    ring ints_ring (r.num ∷ r.den ∷ s.num ∷ s.den ∷ r'.den ∷ s'.den ∷ []) ((X :* W :+ Z :* Y) :* (var 4 :* var 5)) (W :* var 5 :* (X :* var 4) :+ Y :* var 4 :* (Z :* var 5)) refl
    ∙ ap (λ x. s.den *ℤ s'.den *ℤ x +ℤ r.den *ℤ r'.den *ℤ (s.num *ℤ s'.den)) e
    ∙ ap (λ x. s.den *ℤ s'.den *ℤ (r'.num *ℤ r.den) +ℤ r.den *ℤ r'.den *ℤ x) f
    ∙ ring ints_ring (r'.num ∷ r.den ∷ s'.num ∷ s.den ∷ r'.den ∷ s'.den ∷ []) (W :* var 5 :* (X :* Y) :+ Y :* var 4 :* (Z :* W)) ((X :* var 5 :+ Z :* var 4) :* (Y :* W)) refl

pub plus-zero : (r : Ratio) → AreSame (plus zero_ratio r) r
plus-zero r = ring ints_ring (r.num ∷ r.den ∷ []) ((nought :* Y :+ X :* unit) :* Y) (X :* (unit :* Y)) refl

-- ---- lists

abbrev pub AllPositive : List Ratio → Type 0
AllPositive [] = Unit {0}
AllPositive (r ∷ rs) = Positive r × AllPositive rs

abbrev pub AllSame : List Ratio → List Ratio → Type 0
AllSame [] [] = Unit {0}
AllSame [] (s ∷ ss) = ⊥
AllSame (r ∷ rs) [] = ⊥
AllSame (r ∷ rs) (s ∷ ss) = AreSame r s × AllSame rs ss

pub all-same : (rs : List Ratio) → AllSame rs rs
all-same [] = tt
all-same (r ∷ rs) = (refl, all-same rs)

pub sum-same : (r s : Ratio) (rs ss : List Ratio) → AreSame r s → AllSame rs ss → AreSame (sum_from r rs) (sum_from s ss)
sum-same r s [] [] e f = e
sum-same r s [] (u ∷ ss) e f = absurd f
sum-same r s (t ∷ rs) [] e f = absurd f
sum-same r s (t ∷ rs) (u ∷ ss) e f = sum-same (plus r t) (plus s u) rs ss (plus-same r s t u e f.0) f.1

pub sum-positive : (r : Ratio) (rs : List Ratio) → Positive r → AllPositive rs → Positive (sum_from r rs)
sum-positive r [] p q = p
sum-positive r (s ∷ rs) p q = sum-positive (plus r s) rs (plus-positive r s p q.0) q.1

-- ---- what fits

pub equal-through : (a b : ℤ) (r s : Ratio) → Positive s → AreEqual a b s.num s.den → AreSame s r → AreEqual a b r.num r.den
equal-through a b r s p e f = same-trans (record { num = a; den = b }) s r p e f

pub lowest-same : (r s : Ratio) → Positive s → AreSame r s → LowestFits r.num r.den → LowestFits s.num s.den
lowest-same r s p e h num den l f = h num den l (equal-through num den r s p f (sym e))

pub add-same : (r r' s s' : Ratio) → Positive r' → Positive s' → AreSame r r' → AreSame s s' → AddFits r s → AddFits r' s'
add-same r r' s s' p q e f h a b c d l i m j = h a b c d l (equal-through a b r r' p i (sym e)) m (equal-through c d s s' q j (sym f))

pub sums-same : (r s : Ratio) (rs ss : List Ratio) → Positive s → AllPositive ss → AreSame r s → AllSame rs ss → SumsFit r rs → SumsFit s ss
sums-same r s [] [] p q e f h = tt
sums-same r s [] (u ∷ ss) p q e f h = absurd f
sums-same r s (t ∷ rs) [] p q e f h = absurd f
sums-same r s (t ∷ rs) (u ∷ ss) p q e f h = (add-same r s t u p q.0 e f.0 h.0, sums-same (plus r t) (plus s u) rs ss (plus-positive s u p q.0) q.1 (plus-same r s t u e f.0) f.1 h.1)

-- ---- what fits of ratios in lowest terms

pub lowest_of : (r : Ratio) → IsRatio r → IsLowest r.num r.den
lowest_of r i = record { positive = i.below; coprime = i.lowest }

pub add-from : (r s : Ratio) → IsRatio r → IsRatio s → SumFits r.num r.den s.num s.den → AddFits r s
add-from r s i j h a b c d l e m f =
    let p = lowest-unique r.num r.den a b (lowest_of r i) l (sym e) in
    let q = lowest-unique s.num s.den c d (lowest_of s j) m (sym f) in
    along a b c d p.num p.den q.num q.den
  where
    along : (a b c d : ℤ) → r.num ≡ a → r.den ≡ b → s.num ≡ c → s.den ≡ d → SumFits a b c d
    along a b c d p q u v =
        subst (λ (x : ℤ). SumFits x b c d) p (subst (λ (x : ℤ). SumFits r.num x c d) q (subst (λ (x : ℤ). SumFits r.num r.den x d) u (subst (λ (x : ℤ). SumFits r.num r.den s.num x) v h)))

pub add-gives : (r s : Ratio) → IsRatio r → IsRatio s → AddFits r s → SumFits r.num r.den s.num s.den
add-gives r s i j h = h r.num r.den s.num s.den (lowest_of r i) refl (lowest_of s j) refl

pub zero-lowest : IsRatio zero_ratio
zero-lowest = record { below = omega (arith, ints); lowest = (dvd-zero 1, dvd_refl 1, λ d p q. q) }

fits-same : (x y : ℤ) → x ≡ y → FitsSigned w128 y → FitsSigned w128 x
fits-same x y e f = subst (FitsSigned w128) (sym e) f

pub add-zero : (s : Ratio) → IsRatio s → FitsSigned w128 s.num → FitsSigned w128 s.den → FitsSigned w128 (pos 0) → AddFits zero_ratio s
add-zero s i f g h =
    add-from zero_ratio s zero-lowest i
    (sum-suffices (pos 0) (pos 1) s.num s.den (pos 1) s.den (lowest_of zero_ratio zero-lowest) (lowest_of s i)
    (record { g = 1; gcd = (one-dvd 1, one-dvd (nat_abs s.den), λ d p q. p); first = refl; second = ring ints_ring (s.den ∷ []) X (X :* unit) refl })
    (record {
      left = fits-same _ _ (ring ints_ring (s.den ∷ []) (nought :* X) nought refl) h;
      right = fits-same _ _ (ring ints_ring (s.num ∷ []) (X :* unit) X refl) f;
      numerator = fits-same _ _ (ring ints_ring (s.num ∷ s.den ∷ []) (nought :* Y :+ X :* unit) X refl) f;
      denominator = fits-same _ _ (ring ints_ring (s.den ∷ []) (unit :* X) X refl) g;
    }))
