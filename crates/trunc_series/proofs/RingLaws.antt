-- The laws of a commutative ring, of sums modulo a degree, and that a series is told by its coefficients.
use Rattle.std.proofs.Common.{◌≡◌, ℕ, zero, suc, refl, sym, ap, ◌∙◌, ◌++◌}
use Rattle.std.specs.Prelude.{◌+ℤ◌}
use lib.IntN.{+ℤ_assoc, +ℤ_comm, +ℤ_invr}
use Rattle.scattering.specs.Series.{Key, Sum, coef, minus, mul, pow}
use Rattle.scattering.proofs.Pairing.{pairing-append, coef-minus, coef-append}
use Rattle.scattering.proofs.Determined.{terms-unique}
use Rattle.trunc_series.specs.Laws.{SeriesIsDetermined, AdditionCommutes, AdditionIsAssociative, ZeroIsNeutral, NegativeCancels, MultiplicationDistributes, AdditionKeepsSame, MultiplicationKeepsSame, PowersKeepSame, OneIsNeutral}
use Rattle.trunc_series.proofs.Congruence.{weight, mul-weight, mul-comm}
use Rattle.trunc_series.proofs.PowerLaws.{mul-one, mul-same_left, mul-same_right}

pub series-determined : SeriesIsDetermined
series-determined s s' n f f' h h' e =
    let o : s.order ≡ s'.order = h.order ∙ sym h'.order in
    let t : s.terms ≡ s'.terms = terms-unique s.terms s'.terms h.series.rises h'.series.rises h.series.nonzero h'.series.nonzero (λ k. h.same k ∙ e k ∙ sym (h'.same k)) in
    λ i. record { order = o i; terms = t i }

pub addition-commutes : AdditionCommutes
addition-commutes f g k = coef-append f g k ∙ +ℤ_comm (coef f k) (coef g k) ∙ sym (coef-append g f k)

pub addition-associates : AdditionIsAssociative
addition-associates f g h k =
    coef-append (f ++ g) h k ∙ ap (λ c. c +ℤ coef h k) (coef-append f g k) ∙ +ℤ_assoc (coef f k) (coef g k) (coef h k)
    ∙ sym (coef-append f (g ++ h) k ∙ ap (λ c. coef f k +ℤ c) (coef-append g h k))

pub zero-neutral : ZeroIsNeutral
zero-neutral f k = refl

pub negative-cancels : NegativeCancels
negative-cancels f k = coef-append f (minus f) k ∙ rw (coef-minus f k) (+ℤ_invr (coef f k))

pub one-neutral : OneIsNeutral
one-neutral n f h k = ap (λ g. coef g k) (mul-one n f h)

pub distributes-left : (n : ℕ) (f g h : Sum) (k : Key) → coef (mul n (f ++ g) h) k ≡ coef (mul n f h) k +ℤ coef (mul n g h) k
distributes-left n f g h k = mul-weight n (f ++ g) h k ∙ pairing-append (weight n h k) f g ∙ rw (mul-weight n f h k, mul-weight n g h k) refl

pub multiplication-distributes : MultiplicationDistributes
multiplication-distributes n f g h k =
    mul-comm n f (g ++ h) k ∙ distributes-left n g h f k ∙ rw (mul-comm n g f k, mul-comm n h f k) (sym (coef-append (mul n f g) (mul n f h) k))

pub addition-keeps : AdditionKeepsSame
addition-keeps f f' g g' s t k = coef-append f g k ∙ rw (s k, t k) (sym (coef-append f' g' k))

pub multiplication-keeps : MultiplicationKeepsSame
multiplication-keeps n f f' g g' s t k = mul-same_left n f f' g s k ∙ mul-same_right n f' g g' t k

pub powers-keep : PowersKeepSame
powers-keep n f f' zero s k = refl
powers-keep n f f' (suc i) s k = multiplication-keeps n f f' (pow n f i) (pow n f' i) s (powers-keep n f f' i s) k
