use Rattle.std.proofs.Common.{◌∙◌, ◌≡◌, ◌<◌, ℕ, zero, suc, [], ◌∷◌, refl, subst, ap, length, arith, slice_index_or}
use Rattle.scattering.specs.Series.{Sum, Term}
use Rattle.trunc_series.specs.Shown.{key_of, sum_of}
use Rattle.trunc_series.specs.Reduced.{Terms}
use Rattle.trunc_series.specs.declared.key.Key.{Key as CodeKey}
use Rattle.trunc_series.proofs.Terms.{no_term}
use Rattle.trunc_series.specs.Found.{IsFound}
use Rattle.trunc_series.specs.Sums.{IsPlaceOf}
use Rattle.trunc_series.proofs.term_sum.TermSum.place.Goals as goal

length-sum : (ts : Terms) → length (sum_of ts) ≡ length ts
length-sum [] = refl
length-sum (t ∷ ts) = ap suc (length-sum ts)

key-at : (ts : Terms) (i : ℕ) (d : Term) → i < length ts → (slice_index_or (sum_of ts) i d).0 ≡ key_of (slice_index_or ts i no_term).0
key-at [] i d h = absurd (omega (arith, h))
key-at (t ∷ ts) zero d h = refl
key-at (t ∷ ts) (suc i) d h = key-at ts i d (omega (arith, h))

seen : (ts : Terms) (k : CodeKey) (i : ℕ) → IsFound ts k i → IsPlaceOf (sum_of ts) (key_of k) i
seen ts k i f =
    let e = length-sum ts in
    let l = f.0 in (
      omega (arith, e, l),
      λ d h.
          let h' : i < length ts = omega (arith, e, h) in
          key-at ts i d h' ∙ ap key_of (f.1 no_term h'),
    )

pub returns : goal.returns
returns c =
    subst (λ (f : Sum). IsPlaceOf f (key_of c.args.key.now) c.find.result) c.self.view_is
    (seen c.self.inside.terms.items c.args.key.now c.find.result (subst (λ (ts : Terms). IsFound ts c.args.key.now c.find.result) c.as_slice.ensures.value c.find.ensures))
