-- Each step keeps the store's rule.
use Rattle.std.proofs.Common.{◌≡◌, ℕ, ◌≤◌, ◌≢◌, true≢false, List, [], ◌∷◌, ◌++◌, fold, set, refl, sym, ◌∙◌, subst, ⊎_elim, le_refl, le_trans, zero-le}
use mathlib.Core.Option.{some}
use lib.ListN.{get_elem?}
use Rattle.atomic_table.proofs.Lists.{at_set, at_snoc}
use Rattle.order_epochs.specs.declared.view.View.{View}
use Rattle.order_epochs.specs.Seen.{SeenEpoch}
use Rattle.order_epochs.specs.Rule.{IsOfStore, KeepsStore, Shown, knows, newcomer, informed}

newcomer_fits : (e : SeenEpoch) → IsOfStore e newcomer
newcomer_fits e = ((λ n. absurd (true≢false (sym n))), zero-le)

set_keeps : (e : SeenEpoch) (views : List View) (seat : ℕ) (w : View) → KeepsStore e views → IsOfStore e w → KeepsStore e (set views seat w)
set_keeps e views seat w h fits j u at = ⊎_elim (λ (t : (j ≡ seat) × (w ≡ u)). subst (IsOfStore e) t.1 fits) (λ (t : (j ≢ seat) × (get_elem? views j ≡ some u)). h j u t.1) (at_set views seat j w u at)

-- the published order goes up, and the seat that steps knows it
pub steps : (e f : SeenEpoch) → f.lines ≡ e.lines → e.order ≤ f.order → (seat : ℕ) (v : View) (views : List View) → KeepsStore e views → get_elem? views seat ≡ some v → (w : View) × KeepsStore f (set views seat w) × Shown v e f w
steps e f same up seat v views h at = (
  knows f,
  set_keeps f views seat (knows f) (λ j u a. let k = h j u a in ((λ n. k.0 n ∙ sym same), le_trans k.1 up)) ((λ n. refl), le_refl f.order),
  (h seat v at, refl),
)

pub admits : (e : SeenEpoch) (views : List View) → KeepsStore e views → KeepsStore e (views ++ newcomer ∷ [])
admits e views h j u at = ⊎_elim (λ (t : get_elem? views j ≡ some u). h j u t) (λ (t : newcomer ≡ u). subst (IsOfStore e) t (newcomer_fits e)) (at_snoc views newcomer u j at)

pub forks : (e : SeenEpoch) (seat : ℕ) (v : View) (views : List View) → KeepsStore e views → get_elem? views seat ≡ some v → KeepsStore e (set views seat v ++ v ∷ [])
forks e seat v views h at j u there =
    ⊎_elim (λ (t : get_elem? (set views seat v) j ≡ some u). set_keeps e views seat v h (h seat v at) j u t) (λ (t : v ≡ u). subst (IsOfStore e) t (h seat v at)) (at_snoc (set views seat v) v u j there)

pub merges : (e : SeenEpoch) (seat : ℕ) (v : View) (other : ℕ) (w : View) (views : List View) → KeepsStore e views → get_elem? views seat ≡ some v → (other ≡ seat → ⊥) → get_elem? (set views seat (informed v w)) other ≡ some w → KeepsStore e (set (set views seat (informed v w)) other newcomer)
merges e seat v other w views h at apart there =
    let fits : IsOfStore e w = ⊎_elim (λ (t : (other ≡ seat) × (w ≡ w)). absurd (apart t.0)) (λ (t : (other ≢ seat) × (get_elem? views other ≡ some w)). h other w t.1) (at_set views seat other w w there) in
    set_keeps e (set views seat w) other newcomer (set_keeps e views seat w h fits) (newcomer_fits e)

-- of operations that each replace the value the last one counts
pub fold_last : {S O : Type 0} (f : O → S) (s : S) (xs : List O) (x : O) → fold (λ _ y. f y) s (xs ++ x ∷ []) ≡ f x
fold_last f s [] x = refl
fold_last f s (y ∷ ys) x = fold_last f (f y) ys x
