-- The laws that are stated of elements and of leading parts.
use Rattle.std.proofs.Common.{◌≡◌, refl, sym, subst, inl, inr}
use Rattle.std.specs.Prelude.{◌*ℤ◌, [], ◌∷◌}
use Rattle.scattering.specs.Collections.{In}
use Rattle.scattering.specs.Series.{Exp, Key, degree, det, key_mul, z, coef}
use Rattle.scattering.specs.LocalProduct.{image, axis_x, axis_y}
use Rattle.scattering.specs.Correction.{ratio_at}
use Rattle.vertex_lie.specs.Leading.{IsLeading}
use Rattle.vertex_lie.specs.Laws.{ElementIsDetermined, LeadingIsCorrection}
use Rattle.vertex_lie.proofs.UniqueElement.{elements-unique}

pub element-determined : ElementIsDetermined
element-determined g h a b s = elements-unique g h a.rises b.rises a.nonzero b.nonzero s

pub leading-correction : LeadingIsCorrection
leading-correction ws p n h = (
  λ l. record { ratios = l.ratios; nonzero = l.nonzero; distinct = l.distinct; degrees = l.degrees; bracket = λ m k i d. at_axis l m k i d },
  λ c. record { ratios = c.ratios; nonzero = c.nonzero; distinct = c.distinct; degrees = c.degrees; at_x = λ k d. c.bracket axis_x k (inl refl) d; at_y = λ k d. c.bracket axis_y k (inr (inl refl)) d },
)
  where
    at_axis : IsLeading (image ws p n axis_x) (image ws p n axis_y) n h → (m : Exp) (k : Key) → In m (axis_x ∷ axis_y ∷ []) → degree k ≡ n
        → coef (image ws p n m) (key_mul k (z m)) *ℤ (ratio_at h k).den ≡ (ratio_at h k).num *ℤ det k.exp m
    at_axis l m k (inl i) d = subst (λ (o : Exp). coef (image ws p n o) (key_mul k (z o)) *ℤ (ratio_at h k).den ≡ (ratio_at h k).num *ℤ det k.exp o) (sym i) (l.at_x k d)
    at_axis l m k (inr (inl i)) d = subst (λ (o : Exp). coef (image ws p n o) (key_mul k (z o)) *ℤ (ratio_at h k).den ≡ (ratio_at h k).num *ℤ det k.exp o) (sym i) (l.at_y k d)
    at_axis l m k (inr (inr i)) d = absurd i
