-- What is proved here of Lie elements, their bracket and leading parts.
use Rattle.std.specs.Prelude.{◌≡◌, ◌↔◌, ℕ, ◌≤◌, List, [], ◌∷◌, ℤ, pos, neg_ℤ, ◌*ℤ◌, ◌≤ℤ◌}
use Rattle.scattering.specs.Series.{Key, Sum, degree, coef}
use Rattle.scattering.specs.Bracket.{bracket}
use Rattle.scattering.specs.Plane.{Point}
use Rattle.scattering.specs.Wall.{Wall}
use Rattle.scattering.specs.LocalProduct.{image, axis_x, axis_y}
use Rattle.scattering.specs.Correction.{Lie, IsCorrection, ratio_at}
use Rattle.vertex_lie.specs.Shown.{IsElement}
use Rattle.vertex_lie.specs.Leading.{IsLeading}
use Rattle.vertex_lie.specs.RationalBracket.{IsBracketOf}

-- an element is told by its coefficients
abbrev pub ElementIsDetermined : Type 0
ElementIsDetermined = (g h : Lie) → IsElement g → IsElement h → ((k : Key) → ratio_at g k ≡ ratio_at h k) → g ≡ h

-- the leading part of the images under a local product is its correction
abbrev pub LeadingIsCorrection : Type 0
LeadingIsCorrection = (ws : List Wall) (p : Point) (n : ℕ) (h : Lie) → IsLeading (image ws p n axis_x) (image ws p n axis_y) n h ↔ IsCorrection ws p n h

-- ---- over a common denominator

-- each coefficient is the number over n
abbrev pub IsOver : ℤ → Lie → List ℤ → Type 0
IsOver n [] [] = Unit {0}
IsOver n [] (v ∷ vs) = ⊥
IsOver n (t ∷ f) [] = ⊥
IsOver n (t ∷ f) (v ∷ vs) = (t.1.num *ℤ n ≡ v *ℤ t.1.den) × IsOver n f vs

-- the sum with these numbers at the element's keys
abbrev pub sum_over : Lie → List ℤ → Sum
sum_over [] vs = []
sum_over (t ∷ f) [] = []
sum_over (t ∷ f) (v ∷ vs) = (t.0, v) ∷ sum_over f vs

-- each element is such over some denominator
abbrev pub CommonDenominatorExists : Type 0
CommonDenominatorExists = (f : Lie) → IsElement f → (n : ℤ) × (vs : List ℤ) × (pos 1 ≤ℤ n) × IsOver n f vs

-- the bracket of elements over n and m is the bracket of sums over n·m, so all laws of the bracket of sums hold of it
abbrev pub BracketIsOfSums : Type 0
BracketIsOfSums = (k : ℕ) (n m : ℤ) (f g h : Lie) (vs ws : List ℤ) → IsElement f → IsElement g → IsOver n f vs → IsOver m g ws → IsBracketOf k f g h
    → (x : Key) → (ratio_at h x).num *ℤ (n *ℤ m) ≡ coef (bracket k (sum_over f vs) (sum_over g ws)) x *ℤ (ratio_at h x).den

-- the bracket the other way round has the opposite coefficients
abbrev pub BracketOfElementsIsAntisymmetric : Type 0
BracketOfElementsIsAntisymmetric = (k : ℕ) (f g h l : Lie) → IsElement f → IsElement g → IsBracketOf k f g h → IsBracketOf k g f l
    → (x : Key) → degree x ≤ k → (ratio_at l x).num *ℤ (ratio_at h x).den ≡ neg_ℤ (ratio_at h x).num *ℤ (ratio_at l x).den
