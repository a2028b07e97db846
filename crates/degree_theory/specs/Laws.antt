-- What is proved here of sums taken apart by degree: the part of degree e of a product, a power, a crossing or an image
-- is made of parts of lower degree, so that an order needs what is new at its degree alone.
-- A crossing is that of a wall function f of direction d, of any order, with any whole number s as its sign.
use Rattle.std.specs.Prelude.{◌≡◌, ◌≢◌, ℕ, suc, ◌+◌, ◌*◌, ◌<◌, ◌≤◌, List, [], ◌++◌, nat_abs, ℤ, pos, ◌+ℤ◌, ◌-ℤ◌, ◌*ℤ◌}
use Rattle.scattering.specs.Collections.{Every}
use Rattle.scattering.specs.Series.{Exp, Key, Sum, origin, det, degree, z, monomial, coef, mul, pow, power, rest, absolute, geometric, mass_to, Same, SameTo, IsWallFunction}
use Rattle.scattering.specs.Plane.{Point}
use Rattle.scattering.specs.Wall.{Wall}
use Rattle.scattering.specs.LocalProduct.{Half, cross, carry, image, cross_majorant, carry_majorant, IsConsistentAt}
use Rattle.scattering.specs.Correction.{Lie, IsCorrection, IsWhole}
use Rattle.scattering.specs.ThetaProduct.{of_degree}
use Rattle.weight_theory.specs.Laws.{IsNonnegative, HasFunction, HaveFunctions}
use Rattle.degree_theory.specs.Parts.{substituted, convolution, choose, multichoose, linear_combination, AreParts, ArePartsFrom, ArePartsOfPowers, AreFactors, AreMajorantFactors, sum_of_parts, mass_of_parts}
use Rattle.degree_theory.specs.Images.{CrossingParts, AreImageParts, AreMajorantImageParts, gains, AgreesTo, FunctionsGrow, MajorantsGrow}
use Rattle.degree_theory.specs.OneSide.{IsOneSided, IsReadOf}

-- ---- parts

-- at its own degree a part has the sum's coefficients, and elsewhere none
abbrev pub PartIsRead : Type 0
PartIsRead = (e : ℕ) (g : Sum) (x : Key) → (degree x ≡ e → coef (of_degree e g) x ≡ coef g x) × (degree x ≢ e → coef (of_degree e g) x ≡ pos 0)

-- the parts of degrees from 0 to k are the sum to degree k
abbrev pub PartsMakeSum : Type 0
PartsMakeSum = (k : ℕ) (g : Sum) (parts : ℕ → Sum) → AreParts 0 k g parts → SameTo k (sum_of_parts parts k) g

-- the part of a product g·h, where h has no terms of degree below l
abbrev pub PartOfProduct : Type 0
PartOfProduct = (k l e : ℕ) (g h : Sum) (gs hs : ℕ → Sum) → e ≤ k → ((i : ℕ) → i < l → Same (of_degree i h) []) → AreParts l e g gs → ArePartsFrom l e h hs
    → Same (of_degree e (mul k g h)) (convolution (λ i x. hs i) gs l e)

-- other factors and another sum with the same coefficients give the same
abbrev pub SubstitutionIsDetermined : Type 0
SubstitutionIsDetermined = (E F : Key → Sum) (g h : Sum) → Every (λ t. Same (E t.0) (F t.0)) g → Same g h → Same (substituted E g) (substituted F h)

-- ---- powers of a wall function

-- Pascal's rule, for numbers below 0 too
abbrev pub PascalHolds : Type 0
PascalHolds = (n : ℤ) (r : ℕ) → (choose n 0 ≡ pos 1) × (choose (n +ℤ pos 1) (suc r) ≡ choose n r +ℤ choose n (suc r))

-- each binomial coefficient of a row from the one before it
abbrev pub RowIsProducts : Type 0
RowIsProducts = (n : ℤ) (r : ℕ) → pos (suc r) *ℤ choose n (suc r) ≡ (n -ℤ pos r) *ℤ choose n r

-- the binomial series: f^n, for any whole number n, is the sum of C(n, r)·(f - 1)^r
abbrev pub PartOfPower : Type 0
PartOfPower = (k m e : ℕ) (d : Exp) (f : Sum) (n : ℤ) (us : ℕ → Sum) → IsWallFunction m d f → e ≤ k → ArePartsOfPowers e (rest f) us
    → Same (of_degree e (power k f n)) (linear_combination (choose n) us e)

-- the r-th power of terms of degree at least l begins at degree r·l
abbrev pub PowerBeginsLate : Type 0
PowerBeginsLate = (k l e r : ℕ) (u : Sum) → e ≤ k → Every (λ t. l ≤ degree t.0) u → e < r * l → Same (of_degree e (pow k u r)) []

-- a power to degree e, modulo any higher degree, depends on f to degree e alone
abbrev pub PowerReadsLowDegrees : Type 0
PowerReadsLowDegrees = (k k' m m' e : ℕ) (d : Exp) (f f' : Sum) (n : ℤ) → IsWallFunction m d f → IsWallFunction m' d f' → e ≤ k → e ≤ k' → SameTo e f f' → SameTo e (power k f n) (power k' f' n)

-- ---- crossings

-- the part of a crossing, from all parts up to its degree
abbrev pub PartOfCrossing : Type 0
PartOfCrossing = (k m e : ℕ) (d : Exp) (f : Sum) (s : ℤ) (g : Sum) (factors : ℕ → Key → Sum) (parts : ℕ → Sum) → IsWallFunction m d f → e ≤ k → AreFactors 0 e d f s factors → AreParts 0 e g parts
    → Same (of_degree e (cross k d f s g)) (convolution factors parts 0 e)

-- where f is 1 and terms of degree at least l, it is the part of g and what the parts up to degree e - l add
abbrev pub PartAfterCrossing : Type 0
PartAfterCrossing = (k m l e : ℕ) (d : Exp) (f : Sum) (s : ℤ) (g : Sum) (factors : ℕ → Key → Sum) (parts : ℕ → Sum) → IsWallFunction m d f → e ≤ k → 1 ≤ l → Every (λ t. l ≤ degree t.0) (rest f)
    → AreFactors l e d f s factors → AreParts l e g parts → Same (of_degree e (cross k d f s g)) (of_degree e g ++ convolution factors parts l e)

-- a crossing to degree e, modulo any higher degree, depends on f and g to degree e alone
abbrev pub CrossingReadsLowDegrees : Type 0
CrossingReadsLowDegrees = (k k' m m' e : ℕ) (d : Exp) (f f' : Sum) (s : ℤ) (g g' : Sum) → IsWallFunction m d f → IsWallFunction m' d f' → e ≤ k → e ≤ k' → SameTo e f f' → SameTo e g g'
    → SameTo e (cross k d f s g) (cross k' d f' s g')

-- ---- images

-- the part of an image is the part that was there, and what each half-wall adds
abbrev pub PartOfImage : Type 0
PartOfImage = (k e : ℕ) (hs : List Half) (g : Sum) (ts : List CrossingParts) → Every (λ h. HasFunction h.wall) hs → e ≤ k → AreImageParts k e hs g ts → Same (of_degree e (carry k hs g)) (of_degree e g ++ gains e ts)

-- where functions agree to degree e, images do, also modulo a higher degree
abbrev pub ImageKeepsLowDegrees : Type 0
ImageKeepsLowDegrees = (k k' e : ℕ) (hs hs' : List Half) (g g' : Sum) → Every (λ h. HasFunction h.wall) hs → Every (λ h. HasFunction h.wall) hs' → e ≤ k → e ≤ k' → AgreesTo e hs hs' → SameTo e g g'
    → SameTo e (carry k hs g) (carry k' hs' g')

-- where functions grow by terms of degree e, the image of z^m to degree e changes by what these add to z^m
abbrev pub ImageGrows : Type 0
ImageGrows = (k k' e : ℕ) (m : Exp) (hs hs' : List Half) (added : Sum) → Every (λ h. HasFunction h.wall) hs → Every (λ h. HasFunction h.wall) hs' → 1 ≤ e → e ≤ k → e ≤ k' → FunctionsGrow e m hs hs' added
    → SameTo e (carry k' hs' (monomial (z m))) (carry k hs (monomial (z m)) ++ added)

-- ---- majorants

-- the n-th power of 1/(2 - |f|) is the sum of multiset coefficients of n and r times (|f| - 1)^r
abbrev pub PartOfMajorantPower : Type 0
PartOfMajorantPower = (k e : ℕ) (f : Sum) (n : ℕ) (us : ℕ → Sum) → e ≤ k → Every (λ t. 1 ≤ degree t.0) (rest f) → ArePartsOfPowers e (absolute (rest f)) us
    → Same (of_degree e (pow k (geometric k f) n)) (linear_combination (λ r. pos (multichoose n r)) us e)

-- the part of the majorant of a crossing is the part of g and what the parts up to degree e - l add
abbrev pub PartAfterMajorant : Type 0
PartAfterMajorant = (k l e : ℕ) (d : Exp) (f g : Sum) (factors : ℕ → Key → Sum) (parts : ℕ → Sum) → e ≤ k → 1 ≤ l → Every (λ t. l ≤ degree t.0) (rest f)
    → AreMajorantFactors l e d f factors → AreParts l e g parts → Same (of_degree e (cross_majorant k d f g)) (of_degree e g ++ convolution factors parts l e)

-- the majorant of a crossing to degree e, modulo any higher degree, depends on g to degree e alone
abbrev pub MajorantReadsLowDegrees : Type 0
MajorantReadsLowDegrees = (k k' e : ℕ) (d : Exp) (f g g' : Sum) → e ≤ k → e ≤ k' → Every (λ t. 1 ≤ degree t.0) (rest f) → SameTo e g g' → SameTo e (cross_majorant k d f g) (cross_majorant k' d f g')

-- the part of the majorant of an image is the part that was there, and what each half-wall adds
abbrev pub PartOfMajorantImage : Type 0
PartOfMajorantImage = (k e : ℕ) (hs : List Half) (g : Sum) (ts : List CrossingParts) → e ≤ k → AreMajorantImageParts k e hs g ts → Same (of_degree e (carry_majorant k hs g)) (of_degree e g ++ gains e ts)

-- where functions agree to degree e, majorants of images do, also modulo a higher degree
abbrev pub MajorantImageKeepsLowDegrees : Type 0
MajorantImageKeepsLowDegrees = (k k' e : ℕ) (hs hs' : List Half) (g g' : Sum) → Every (λ h. HasFunction h.wall) hs → Every (λ h. HasFunction h.wall) hs' → e ≤ k → e ≤ k' → AgreesTo e hs hs' → SameTo e g g'
    → SameTo e (carry_majorant k hs g) (carry_majorant k' hs' g')

-- where absolute values of functions grow by terms of degree e, the majorant of z^m's image changes by what these add
abbrev pub MajorantImageGrows : Type 0
MajorantImageGrows = (k k' e : ℕ) (m : Exp) (hs hs' : List Half) (added : Sum) → Every (λ h. HasFunction h.wall) hs → Every (λ h. HasFunction h.wall) hs' → 1 ≤ e → e ≤ k → e ≤ k' → MajorantsGrow e m hs hs' added
    → SameTo e (carry_majorant k' hs' (monomial (z m))) (carry_majorant k hs (monomial (z m)) ++ added)

-- the mass is that of all parts, where no coefficient is below 0
abbrev pub MassByParts : Type 0
MassByParts = (k : ℕ) (g : Sum) (parts : ℕ → Sum) → IsNonnegative g → ((e : ℕ) → e ≤ k → IsNonnegative (parts e)) → AreParts 0 k g parts → mass_to k g ≡ mass_of_parts parts k

-- ---- one image is enough

-- where all live walls turn to one side of u, an image has no terms along u but that with which it began
abbrev pub ImageKeepsEdge : Type 0
ImageKeepsEdge = (ws : List Wall) (p : Point) (k : ℕ) (σ : ℤ) (u m : Exp) (x : Key) → HaveFunctions ws → u ≢ origin → nat_abs σ ≡ 1 → IsOneSided ws p σ u → degree x ≤ k → det u x.exp ≡ det u m
    → coef (image ws p k m) x ≡ coef (monomial (z m)) x

-- nor has the correction any
abbrev pub CorrectionLeavesEdge : Type 0
CorrectionLeavesEdge = (ws : List Wall) (p : Point) (n : ℕ) (σ : ℤ) (u : Exp) (h : Lie) → HaveFunctions ws → u ≢ origin → nat_abs σ ≡ 1 → IsOneSided ws p σ u → 1 ≤ n → IsCorrection ws p n h
    → Every (λ t. det u t.0.exp ≢ pos 0) h

-- so what is read of the image of z^u alone is the correction, and whole, at a point that is consistent at the order before
abbrev pub OneImageIsEnough : Type 0
OneImageIsEnough = (ws : List Wall) (p : Point) (n : ℕ) (σ : ℤ) (u : Exp) (h : Lie) → HaveFunctions ws → u ≢ origin → nat_abs σ ≡ 1 → IsOneSided ws p σ u → IsConsistentAt ws n p
    → IsReadOf ws p (n + 1) u h → IsCorrection ws p (n + 1) h × Every IsWhole h
