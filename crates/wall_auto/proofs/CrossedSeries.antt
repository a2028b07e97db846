-- The laws of crossings, of series: a crossing and a bracket depend on coefficients alone.
use Rattle.std.proofs.Common.{◌≡◌, ℕ, refl, sym, ap, ◌∙◌, [], ◌∷◌, arith}
use Rattle.std.specs.Prelude.{ℤ, pos, ◌+ℤ◌, ◌*ℤ◌, neg_ℤ}
use Rattle.std.proofs.Math.Decide.{dec_le}
use Rattle.std.proofs.lemmas.Int.{ints}
use Rattle.scattering.specs.Series.{Exp, Key, Sum, Same, SameTo, degree, coef, det, key_mul, mul, power}
use Rattle.scattering.specs.Bracket.{bracket}
use Rattle.scattering.specs.LocalProduct.{cross}
use Rattle.scattering.proofs.Pairing.{pairing, pairing-same, coef-append}
use Rattle.scattering.proofs.Coefficients.{coef-above}
use Rattle.scattering.proofs.ShiftedSums.{degree-mul}
use Rattle.scattering.proofs.Determined.{terms-unique}
use Rattle.crossing_theory.proofs.CrossingLaws as theory
use Rattle.crossing_theory.proofs.Translation.{from_Eq, to_Eq}
use Rattle.crossing_theory.proofs.BracketLaws.{pair-brace}
use Rattle.sum_algebra.proofs.Sums.{pair, pair-ext, pair-zero}
use Rattle.trunc_series.specs.Shown.{Seen, IsSeriesOf}
use Rattle.trunc_series.proofs.Coefficients.{add-zero}
use Rattle.trunc_series.proofs.Congruence.{weight, mul-weight}
use Rattle.trunc_series.proofs.PowerLaws.{row-above, mul-same_right, mul-same_left}
use Rattle.wall_auto.specs.Laws.{CrossedSeriesKeepProducts, CrossedSeriesKeepBrackets, CrossedSeriesKeepCenter, CrossedSeriesAreUndone}

-- ---- a crossing is read of its sum term by term

module _ (k : ℕ) (d : Exp) (f : Sum) (s : ℤ) where
  reading : Key → Key → ℤ
  reading x y = weight k (power k f (s *ℤ det d y.exp)) x y

  cross-reading : (x : Key) (g : Sum) → coef (cross k d f s g) x ≡ pairing (reading x) g
  unfolding reading
  cross-reading x [] = refl
  cross-reading x (t ∷ g) =
      let F : Sum = power k f (s *ℤ det d t.0.exp) in
      coef-append (mul k (t ∷ []) F) (cross k d f s g) x
      ∙ ap (λ c. c +ℤ coef (cross k d f s g) x) (mul-weight k (t ∷ []) F x ∙ add-zero (t.1 *ℤ weight k F x t.0))
      ∙ ap (λ c. t.1 *ℤ weight k F x t.0 +ℤ c) (cross-reading x g)

  pub cross-respects : (g h : Sum) → SameTo k g h → Same (cross k d f s g) (cross k d f s h)
  unfolding reading
  cross-respects g h e x = cross-reading x g ∙ pairing-same (reading x) k g h e (λ y l. ap (λ r. coef r x) (row-above k (y, pos 1) (power k f (s *ℤ det d y.exp)) (omega (arith, l)))) ∙ sym (cross-reading x h)

-- series that are the same up to their order are one
pub same-series : (x y : Seen) (k : ℕ) (f g : Sum) → IsSeriesOf x k f → IsSeriesOf y k g → SameTo k f g → x ≡ y
same-series x y k f g h i e =
    let o : x.order ≡ y.order = h.order ∙ sym i.order in
    let t : x.terms ≡ y.terms = terms-unique x.terms y.terms h.series.rises i.series.rises h.series.nonzero i.series.nonzero all in
    λ j. record { order = o j; terms = t j }
  where
    all : (l : Key) → coef x.terms l ≡ coef y.terms l
    all l = elim (dec_le (degree l) k) [
      | yes b ↦ h.same l ∙ e l b ∙ sym (i.same l)
      | no b ↦ coef-above k x.terms l h.series.low (omega (arith, b)) ∙ sym (coef-above k y.terms l i.series.low (omega (arith, b)))
    ]

pub products : CrossedSeriesKeepProducts
products k m d f s g h p x y q r w hp hx hy hq hr =
    same-series q r k (cross k d f s p.terms) (mul k x.terms y.terms) hq hr
    (λ l b.
    cross-respects k d f s p.terms (mul k g.terms h.terms) (λ z c. hp.same z) l
    ∙ theory.keeps-products k m d f s w g.terms h.terms l b
    ∙ sym (mul-same_left k x.terms (cross k d f s g.terms) y.terms hx.same l ∙ mul-same_right k (cross k d f s g.terms) y.terms (cross k d f s h.terms) hy.same l))

-- ---- the bracket

bracket-respects : (k : ℕ) (f f' g g' : Sum) → Same f f' → Same g g' → SameTo k (bracket k f g) (bracket k f' g')
bracket-respects k f f' g g' a b =
    from_Eq k (bracket k f g) (bracket k f' g')
    record {
      at = λ φ v.
          pair-brace k f g φ v
          ∙ (to_Eq k f f' (λ l c. a l)).at (λ u. pair (λ w. det u.exp w.exp *ℤ φ (key_mul u w)) g) (λ u l. pair-ext _ (λ _. pos 0) g (λ w. nought (det u.exp w.exp) _ (v (key_mul u w) (let m = degree-mul u w in omega (arith, m, l)))) ∙ pair-zero g)
          ∙ pair-ext _ _ f' (λ u. (to_Eq k g g' (λ l c. b l)).at (λ w. det u.exp w.exp *ℤ φ (key_mul u w)) (λ w l. nought (det u.exp w.exp) _ (v (key_mul u w) (let m = degree-mul u w in omega (arith, m, l)))))
          ∙ sym (pair-brace k f' g' φ v);
    }
  where
    nought : (c x : ℤ) → x ≡ pos 0 → c *ℤ x ≡ pos 0
    nought c x e = rw e (omega (arith, ints))

pub brackets : CrossedSeriesKeepBrackets
brackets k m d f s g h p x y q r w hp hx hy hq hr =
    same-series q r k (cross k d f s p.terms) (bracket k x.terms y.terms) hq hr
    (λ l b.
    cross-respects k d f s p.terms (bracket k g.terms h.terms) (λ z c. hp.same z) l
    ∙ theory.keeps-brackets k m d f s w g.terms h.terms l b
    ∙ sym (bracket-respects k x.terms (cross k d f s g.terms) y.terms (cross k d f s h.terms) hx.same hy.same l b))

pub center : CrossedSeriesKeepCenter
center k m d f s g x l w hg hx o = elim (dec_le (degree l) k) [
  | yes b ↦ hx.same l ∙ theory.keeps-center k m d f s w g.terms l b o
  | no b ↦ coef-above k x.terms l hx.series.low (omega (arith, b)) ∙ sym (coef-above k g.terms l hg.series.low (omega (arith, b)))
]

pub undone : CrossedSeriesAreUndone
undone k m d f s g x y w hg hx hy =
    same-series y g k (cross k d f (neg_ℤ s) x.terms) g.terms hy hg
    (λ l b. cross-respects k d f (neg_ℤ s) x.terms (cross k d f s g.terms) (λ z c. hx.same z) l ∙ theory.is-undone k m d f s w g.terms l b)
