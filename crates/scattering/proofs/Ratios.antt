-- A correction's coefficient at the key of one of its terms.
use Rattle.std.proofs.Common.{◌≡◌, ◌≢◌, refl, subst, sym, ap, [], ◌∷◌, Bool, true, false, inl, inr}
use Rattle.scattering.specs.Collections.{In, EveryPair}
use Rattle.scattering.specs.Series.{Key, key_eq}
use Rattle.scattering.specs.Correction.{Lie, Ratio, ratio_at}
use Rattle.scattering.proofs.Lists.{Every-at}
use Rattle.scattering.proofs.Keys.{key_eq-same, key_eq-refl}

pub ratio-own : (h : Lie) → EveryPair (λ t u. t.0 ≢ u.0) h → (t : Key × Ratio) → In t h → ratio_at h t.0 ≡ t.1
ratio-own [] d t i = absurd i
ratio-own (u ∷ h) d t i = go (key_eq u.0 t.0) refl i (ratio-own h d.1 t)
  where
    go : (b : Bool) → key_eq u.0 t.0 ≡ b → In t (u ∷ h) → (In t h → ratio_at h t.0 ≡ t.1) → ratio_at (u ∷ h) t.0 ≡ t.1
    go true e (inl q) ih = rw e (ap (λ (x : Key × Ratio). x.1) (sym q))
    go true e (inr j) ih = absurd (Every-at (λ (x : Key × Ratio). u.0 ≢ x.0) h t d.0 j (key_eq-same u.0 t.0 e))
    go false e (inl q) ih = let f : key_eq u.0 t.0 ≡ true = subst (λ (x : Key × Ratio). key_eq u.0 x.0 ≡ true) (sym q) (key_eq-refl u.0) in absurd (cc)
    go false e (inr j) ih = rw e (ih j)
