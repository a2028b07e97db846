-- Images degree by degree: what each half-wall adds to the part of one degree, and which half-walls give images that
-- agree to a degree, or differ at it alone.
--     CrossingParts, gain, gains        what is kept of each half-wall, and what all of them add at one degree
--     AreImageParts                     that it is kept of each half-wall, for the sum before it
--     AgreesTo e hs hs'                 hs' are hs with the same functions to degree e
--     FunctionsGrow, MajorantsGrow      hs' are hs with terms of degree e more in their functions
use Rattle.std.specs.Prelude.{◌≡◌, ℕ, ◌≤◌, List, [], ◌∷◌, ◌++◌, map, flat_map, nat_abs, pos, ◌*ℤ◌, neg_ℤ}
use Rattle.scattering.specs.Collections.{Every}
use Rattle.scattering.specs.Series.{Exp, Key, Sum, det, degree, z, term_mul, one, rest, absolute, SameTo}
use Rattle.scattering.specs.LocalProduct.{Half, cross_half, cross_majorant}
use Rattle.degree_theory.specs.Parts.{convolution, AreParts, AreFactors, AreMajorantFactors}

-- ---- parts of crossings

-- of a half-wall: a degree below which its function has no term but 1, the parts of the powers by which it multiplies,
-- and the parts of the sum before it
pub record CrossingParts : Type 0 where
  pub least : ℕ
  pub factors : ℕ → Key → Sum
  pub before : ℕ → Sum

-- t is that of the half-wall h and the sum g, as far as the part of degree e needs it
pub record AreCrossingParts (e : ℕ) (h : Half) (g : Sum) (t : CrossingParts) : Type 0 where
  pub positive : 1 ≤ t.least
  pub least : Every (λ u. t.least ≤ degree u.0) (rest h.wall.function)
  pub factors : AreFactors t.least e h.wall.dir h.wall.function (neg_ℤ h.side) t.factors
  pub before : AreParts t.least e g t.before

-- ts are those of half-walls that are crossed one after the other, modulo degree k + 1
abbrev pub AreImageParts : ℕ → ℕ → List Half → Sum → List CrossingParts → Type 0
AreImageParts k e [] g [] = Unit {0}
AreImageParts k e [] g (t ∷ ts) = ⊥
AreImageParts k e (h ∷ hs) g [] = ⊥
AreImageParts k e (h ∷ hs) g (t ∷ ts) = AreCrossingParts e h g t × AreImageParts k e hs (cross_half k h g) ts

-- the same for majorants
pub record AreMajorantCrossingParts (e : ℕ) (h : Half) (g : Sum) (t : CrossingParts) : Type 0 where
  pub positive : 1 ≤ t.least
  pub least : Every (λ u. t.least ≤ degree u.0) (rest h.wall.function)
  pub factors : AreMajorantFactors t.least e h.wall.dir h.wall.function t.factors
  pub before : AreParts t.least e g t.before

abbrev pub AreMajorantImageParts : ℕ → ℕ → List Half → Sum → List CrossingParts → Type 0
AreMajorantImageParts k e [] g [] = Unit {0}
AreMajorantImageParts k e [] g (t ∷ ts) = ⊥
AreMajorantImageParts k e (h ∷ hs) g [] = ⊥
AreMajorantImageParts k e (h ∷ hs) g (t ∷ ts) = AreMajorantCrossingParts e h g t × AreMajorantImageParts k e hs (cross_majorant k h.wall.dir h.wall.function g) ts

-- what one half-wall adds to the part of degree e, from parts of lower degree alone
abbrev pub gain : ℕ → CrossingParts → Sum
gain e t = convolution t.factors t.before t.least e

-- what all half-walls add to it
abbrev pub gains : ℕ → List CrossingParts → Sum
gains e ts = flat_map (gain e) ts

-- ---- half-walls with other functions

-- hs' are hs with the same functions to degree e, and half-walls between them whose functions are 1 to degree e
pub data AgreesTo (e : ℕ) : List Half → List Half → Type 0 where
  ends : AgreesTo e [] []
  keeps : {hs hs' : List Half} (h h' : Half) → h.wall.dir ≡ h'.wall.dir → h.side ≡ h'.side → SameTo e h.wall.function h'.wall.function → AgreesTo e hs hs' → AgreesTo e (h ∷ hs) (h' ∷ hs')
  adds : {hs hs' : List Half} (h : Half) → SameTo e h.wall.function one → AgreesTo e hs hs' → AgreesTo e hs (h ∷ hs')

-- what terms t in the function of a half-wall add to z^m, to first order in t
abbrev pub growth : Exp → Half → Sum → Sum
growth m h t = map (term_mul (z m, neg_ℤ h.side *ℤ det h.wall.dir m)) t

-- hs' are hs with terms of degree e more in their functions, and half-walls between them whose functions are 1 and such
-- terms; to z^m they add `added`
pub data FunctionsGrow (e : ℕ) (m : Exp) : List Half → List Half → Sum → Type 0 where
  empty : FunctionsGrow e m [] [] []
  more : {hs hs' : List Half} {added : Sum} (h h' : Half) (t : Sum) → h.wall.dir ≡ h'.wall.dir → h.side ≡ h'.side → Every (λ x. e ≤ degree x.0) t → SameTo e h'.wall.function (h.wall.function ++ t)
      → FunctionsGrow e m hs hs' added → FunctionsGrow e m (h ∷ hs) (h' ∷ hs') (growth m h' t ++ added)
  new : {hs hs' : List Half} {added : Sum} (h : Half) (t : Sum) → Every (λ x. e ≤ degree x.0) t → SameTo e h.wall.function (one ++ t) → FunctionsGrow e m hs hs' added → FunctionsGrow e m hs (h ∷ hs') (growth m h t ++ added)

-- what terms t in the absolute value of a half-wall's function add to the majorant of z^m, to first order in t
abbrev pub majorant_growth : Exp → Half → Sum → Sum
majorant_growth m h t = map (term_mul (z m, pos (nat_abs (det h.wall.dir m)))) t

-- hs' are hs with terms of degree e more in the absolute values of their functions, and half-walls between them whose
-- functions have such terms alone beside 1; to the majorant of z^m they add `added`
pub data MajorantsGrow (e : ℕ) (m : Exp) : List Half → List Half → Sum → Type 0 where
  empty_majorant : MajorantsGrow e m [] [] []
  more_majorant : {hs hs' : List Half} {added : Sum} (h h' : Half) (t : Sum) → h.wall.dir ≡ h'.wall.dir → Every (λ x. e ≤ degree x.0) t → SameTo e (absolute (rest h'.wall.function)) (absolute (rest h.wall.function) ++ t)
      → MajorantsGrow e m hs hs' added → MajorantsGrow e m (h ∷ hs) (h' ∷ hs') (majorant_growth m h' t ++ added)
  new_majorant : {hs hs' : List Half} {added : Sum} (h : Half) (t : Sum) → Every (λ x. e ≤ degree x.0) t → SameTo e (absolute (rest h.wall.function)) t
      → MajorantsGrow e m hs hs' added → MajorantsGrow e m hs (h ∷ hs') (majorant_growth m h t ++ added)
