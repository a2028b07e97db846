-- Sums in which no key stands twice: each term has the coefficient at its key.
use Rattle.std.proofs.Common.{◌≡◌, ◌≢◌, ℕ, refl, sym, subst, ap, ◌∙◌, Bool, true, false, [], ◌∷◌, inl, inr, ◌⊎◌}
use Rattle.std.specs.Prelude.{pos, ◌+ℤ◌, IsTrue}
use lib.IntN.{+ℤ_idr}
use Rattle.scattering.specs.Collections.{Every, EveryPair}
use Rattle.scattering.specs.Series.{Key, Term, Sum, key_eq, key_before, coef, IsSeries}
use Rattle.scattering.proofs.Keys.{key_eq-same, key_eq-refl}
use Rattle.scattering.proofs.KeyOrder.{key_before-irrefl}
use Rattle.scattering.proofs.Lists.{Every-implies}
use Rattle.scattering.proofs.Pairing.{skip-zero}

abbrev pub HasDistinctKeys : Sum → Type 0
HasDistinctKeys s = EveryPair (λ t u. t.0 ≢ u.0) s

pub absent : (s : Sum) (x : Key) → Every (λ u. x ≢ u.0) s → coef s x ≡ pos 0
absent [] x h = refl
absent (u ∷ s) x h = rw (go (key_eq u.0 x) refl, absent s x h.1) refl
  where
    go : (b : Bool) → key_eq u.0 x ≡ b → b ≡ false
    go true e = absurd (h.0 (sym (key_eq-same u.0 x e)))
    go false e = refl

pub own-coefficients : (s : Sum) → HasDistinctKeys s → Every (λ t. coef s t.0 ≡ t.1) s
own-coefficients [] h = tt
own-coefficients (t ∷ s) h = (rw (key_eq-refl t.0, absent s t.0 h.0) (+ℤ_idr t.1), later s h.0 (own-coefficients s h.1))
  where
    apart : (x : Key) → t.0 ≢ x → (b : Bool) → key_eq t.0 x ≡ b → b ≡ false
    apart x n true e = absurd (n (key_eq-same t.0 x e))
    apart x n false e = refl

    later : (g : Sum) → Every (λ u. t.0 ≢ u.0) g → Every (λ u. coef s u.0 ≡ u.1) g → Every (λ u. coef (t ∷ s) u.0 ≡ u.1) g
    later [] n o = tt
    later (u ∷ g) n o = (rw (apart u.0 n.0 (key_eq t.0 u.0) refl) (skip-zero (coef s u.0) ∙ o.0), later g n.1 o.1)

-- keys that rise are distinct
pub rising-distinct : (s : Sum) → EveryPair (λ t u. IsTrue (key_before t.0 u.0)) s → HasDistinctKeys s
rising-distinct [] r = tt
rising-distinct (t ∷ s) r = (Every-implies (λ u. IsTrue (key_before t.0 u.0)) (λ u. t.0 ≢ u.0) s differ r.0, rising-distinct s r.1)
  where
    differ : (u : Term) → IsTrue (key_before t.0 u.0) → t.0 ≢ u.0
    differ u b e = let c : IsTrue (key_before t.0 t.0) = subst (λ (x : Key). IsTrue (key_before t.0 x)) (sym e) b in let d = key_before-irrefl t.0 in absurd (cc)

pub series-distinct : (m : ℕ) (s : Sum) → IsSeries m s → HasDistinctKeys s
series-distinct m s h = rising-distinct s h.rises

pub rising-own : (s : Sum) → EveryPair (λ t u. IsTrue (key_before t.0 u.0)) s → Every (λ t. coef s t.0 ≡ t.1) s
rising-own s r = own-coefficients s (rising-distinct s r)

-- where each term stands with its coefficient in F, each coefficient is 0 or that of F
pub some-terms : (F s : Sum) → HasDistinctKeys s → Every (λ t. coef F t.0 ≡ t.1) s → (y : Key) → (coef s y ≡ pos 0) ⊎ (coef s y ≡ coef F y)
some-terms F [] d o y = inl refl
some-terms F (t ∷ s) d o y = go (key_eq t.0 y) refl (some-terms F s d.1 o.1 y)
  where
    skipped : (coef s y ≡ pos 0) ⊎ (coef s y ≡ coef F y) → (pos 0 +ℤ coef s y ≡ pos 0) ⊎ (pos 0 +ℤ coef s y ≡ coef F y)
    skipped (inl q) = inl (skip-zero (coef s y) ∙ q)
    skipped (inr q) = inr (skip-zero (coef s y) ∙ q)

    go : (b : Bool) → key_eq t.0 y ≡ b → (coef s y ≡ pos 0) ⊎ (coef s y ≡ coef F y) → (coef (t ∷ s) y ≡ pos 0) ⊎ (coef (t ∷ s) y ≡ coef F y)
    go true e i =
        let q : t.0 ≡ y = key_eq-same t.0 y e in
        let r : coef s y ≡ pos 0 = subst (λ (x : Key). coef s x ≡ pos 0) q (absent s t.0 d.0) in
        rw (e, r) (inr (+ℤ_idr t.1 ∙ sym o.0 ∙ ap (coef F) q))
    go false e i = rw e (skipped i)
