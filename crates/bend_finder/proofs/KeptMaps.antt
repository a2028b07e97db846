-- What a map has after a value is put in, or taken out.
use Rattle.std.proofs.Common.{◌≡◌, refl, sym, ap, subst, ◌∙◌, Bool, true, false, cond}
use Rattle.std.specs.Prelude.{Some, None}
use Rattle.std.specs.BTreeMap.{BTreeMap, get, is_at, Updates, IsUnchanged}
use Rattle.std.specs.Map.{lookup}
use Rattle.std.specs.Ordering.{is_eq, ordering_then}
use Rattle.std.specs.declared.cmp.Ordering.{Ordering}
use Rattle.std.specs.declared.cmp.Ordering.TheVariants.{Less, Equal, Greater}

pub both-equal : (r s : Ordering) → ordering_then r s ≡ Equal → (r ≡ Equal) × (s ≡ Equal)
both-equal Less s e = absurd (cc)
both-equal Equal s e = (refl, e)
both-equal Greater s e = absurd (cc)

is-equal : (o : Ordering) → is_eq o ≡ true → o ≡ Equal
is-equal Less f = absurd (cc)
is-equal Equal f = refl
is-equal Greater f = absurd (cc)

module _ {K V : Type 0} (cmp : K → K → Ordering) (P : K → V → Type 0) (m n : BTreeMap K V) where
  same-value : (u v : V) → Some u ≡ Some v → u ≡ v
  same-value u v e = cc

  pub put-has : ((k l : K) → cmp k l ≡ Equal → k ≡ l) → (k : K) (v : V) → Updates cmp m n k (Some v) → P k v
      → ((l : K) (w : V) → get cmp m l ≡ Some w → P l w) → (l : K) (w : V) → get cmp n l ≡ Some w → P l w
  put-has exact k v u p h l w e = go (is_eq (cmp k l)) refl
    where
      go : (b : Bool) → is_eq (cmp k l) ≡ b → P l w
      go true f =
          let a : Some v ≡ Some w = sym (ap (λ (b : Bool). cond b (Some v) (get cmp m l)) f) ∙ sym (u.0 l) ∙ e in
          subst (λ (j : K). P j w) (exact k l (is-equal (cmp k l) f)) (subst (P k) (same-value v w a) p)
      go false f = h l w (sym (ap (λ (b : Bool). cond b (Some v) (get cmp m l)) f) ∙ sym (u.0 l) ∙ e)

  pub same-has : IsUnchanged m n → ((l : K) (w : V) → get cmp m l ≡ Some w → P l w) → (l : K) (w : V) → get cmp n l ≡ Some w → P l w
  same-has e h l w g = h l w (sym (ap (λ es. lookup (is_at (cmp l)) es) e) ∙ g)

  pub taken-has : (k : K) → Updates cmp m n k None → ((l : K) (w : V) → get cmp m l ≡ Some w → P l w) → (l : K) (w : V) → get cmp n l ≡ Some w → P l w
  taken-has k u h l w e = go (is_eq (cmp k l)) refl
    where
      none : None ≡ Some w → ⊥
      none f = cc

      go : (b : Bool) → is_eq (cmp k l) ≡ b → P l w
      go true f = absurd (none (sym (ap (λ (b : Bool). cond b None (get cmp m l)) f) ∙ sym (u.0 l) ∙ e))
      go false f = h l w (sym (ap (λ (b : Bool). cond b None (get cmp m l)) f) ∙ sym (u.0 l) ∙ e)
