-- An element is told by its coefficients.
use Rattle.std.proofs.Common.{◌≡◌, ◌≢◌, refl, sym, ap, false, []}
use Rattle.std.specs.Prelude.{pos, ◌∷◌}
use Rattle.scattering.specs.Collections.{Every}
use Rattle.scattering.specs.Series.{Key, origin, key_eq}
use Rattle.scattering.specs.Correction.{Ratio, IsRatio, Lie, ratio_at}
use Rattle.scattering.proofs.Keys.{key_eq-refl}
use Rattle.scattering.proofs.Lists.{Every-implies}
use Rattle.scattering.proofs.Determined.{KeysRise, rows-unique}
use Rattle.vertex_lie.specs.Shown.{IsElement, IsElementOf}
use Rattle.vertex_lie.specs.RationalBracket.{zero_ratio}

head-ratio : (t : Key × Ratio) (h : Lie) → ratio_at h t.0 ≡ zero_ratio → ratio_at (t ∷ h) t.0 ≡ t.1
head-ratio t h e = rw (key_eq-refl t.0) refl

other-ratio : (t : Key × Ratio) (h : Lie) (k : Key) → key_eq t.0 k ≡ false → ratio_at (t ∷ h) k ≡ ratio_at h k
other-ratio t h k e = rw e refl

counts : (h : Lie) → Every (λ t. t.1.num ≢ pos 0) h → Every (λ t. t.1 ≢ zero_ratio) h
counts h n = Every-implies (λ (t : Key × Ratio). t.1.num ≢ pos 0) (λ t. t.1 ≢ zero_ratio) h (λ t m e. m (ap (λ (r : Ratio). r.num) e)) n

pub elements-unique : (g h : Lie) → KeysRise g → KeysRise h → Every (λ t. t.1.num ≢ pos 0) g → Every (λ t. t.1.num ≢ pos 0) h → ((k : Key) → ratio_at g k ≡ ratio_at h k) → g ≡ h
elements-unique g h r q m n s =
    rows-unique zero_ratio ratio_at (λ k. refl) head-ratio other-ratio g h r q (counts g m) (counts h n) (λ t i. s t.0) (λ t i. sym (s t.0))

pub element-is : (h g : Lie) → IsElementOf h g → IsElement g → h ≡ g
element-is h g e i = elements-unique h g e.element.rises i.rises e.element.nonzero i.nonzero e.same

-- the element with one term
pub single-is : (h : Lie) (t : Key × Ratio) → IsElementOf h (t ∷ []) → t.0.exp ≢ origin → t.1.num ≢ pos 0 → IsRatio t.1 → h ≡ t ∷ []
single-is h t e o n r = element-is h (t ∷ []) e (record { rises = (tt, tt); exponents = (o, tt); nonzero = (n, tt); ratios = (r, tt) })
