-- Terms put into the parts of their degrees, one after the other.
use Rattle.std.proofs.Common.{◌≡◌, ◌≢◌, ℕ, ◌+◌, ◌<◌, refl, sym, subst, ap, ◌∙◌, Bool, true, false, cond, List, [], ◌∷◌, ◌++◌, length, take, set, arith}
use Rattle.std.specs.Prelude.{ℤ, pos, ◌+ℤ◌}
use Rattle.std.proofs.lemmas.Int.{ints}
use Rattle.std.proofs.lemmas.List.{get_or-set_same, get_or-set_other, take_more, length-set}
use native.Mathlib.Decide.{dec_le}
use Rattle.scattering.specs.Collections.{Every}
use Rattle.scattering.specs.Series.{Exp, Key, Term, Sum, coef, coef_at, degree, key_eq, z}
use Rattle.scattering.proofs.Keys.{key_eq-same}
use Rattle.scattering.proofs.Lists.{Every-append, Every-left, Every-right}
use Rattle.scattering.proofs.Pairing.{coef-append}
use Rattle.trunc_series.specs.declared.arithmetic.Arithmetic.{Arithmetic}
use Rattle.trunc_series.specs.Arithmetic.{kept, IsKeepable}
use Rattle.trunc_series.specs.Shown.{key_of, term_of, sum_of}
use Rattle.trunc_series.specs.Reduced.{Terms}
use Rattle.trunc_series.proofs.Terms.{at, no_term, sum_of-append}
use Rattle.trunc_series.proofs.Coefficients.{keepable-at, keepable-coef}
use Rattle.trunc_series.proofs.Kept.{kept-same_right}
use Rattle.trunc_series.specs.Sums.{StandsFor}
use Rattle.trunc_series.proofs.TermLists.{keepable-values, stands-every}
use Rattle.power_tables.specs.Parts.{IsPartOf}
use Rattle.wall_auto.specs.ByDegree.{part, KeyGrowsBy, AreKept, TakesTerms, TakesWithin, StartsWithin}
use Rattle.wall_auto.specs.Gains.{TakesParts}
use Rattle.wall_auto.proofs.PartRows.{kept-parts}

-- ---- one term

last-coef : (f : Sum) (u : Term) (x : Key) → coef (f ++ u ∷ []) x ≡ coef_at x u +ℤ coef f x
last-coef f u x = coef-append f (u ∷ []) x ∙ turned (coef f x) (coef_at x u)
  where
    turned : (a b : ℤ) → a +ℤ (b +ℤ pos 0) ≡ b +ℤ a
    turned a b = omega (arith, ints)

keepable-last : (rule : Arithmetic) (f : Sum) (u : Term) → Every (λ t. IsKeepable rule t.1) f → IsKeepable rule u.1 → Every (λ t. IsKeepable rule t.1) (f ++ u ∷ [])
keepable-last rule f u h k = Every-append (λ t. IsKeepable rule t.1) f (u ∷ []) h (k, tt)

part-more : (rule : Arithmetic) (e : ℕ) (p p' f : Sum) (u : Term) → IsPartOf rule e p f → degree u.0 ≡ e → IsKeepable rule u.1 → StandsFor rule p' (u ∷ p) → IsPartOf rule e p' (f ++ u ∷ [])
part-more rule e p p' f u h d k s = record {
  values = s.values;
  degrees = stands-every rule (λ x. degree x ≡ e) p' (u ∷ p) s (d, h.degrees);
  keepable = keepable-last rule f u h.keepable k;
  same = λ x q.
      s.same x
      ∙ kept-same_right rule (coef_at x u) (coef p x) (coef f x) (keepable-at rule x u k) (keepable-coef rule p x (keepable-values rule p h.values)) (keepable-coef rule f x h.keepable) (h.same x q)
      ∙ ap (kept rule) (sym (last-coef f u x));
}

part-other : (rule : Arithmetic) (e : ℕ) (p f : Sum) (u : Term) → IsPartOf rule e p f → degree u.0 ≢ e → IsKeepable rule u.1 → IsPartOf rule e p (f ++ u ∷ [])
part-other rule e p f u h o k = record {
  values = h.values;
  degrees = h.degrees;
  keepable = keepable-last rule f u h.keepable k;
  same = λ x q. h.same x q ∙ ap (kept rule) (sym (last-coef f u x ∙ ap (λ c. c +ℤ coef f x) (other x q (key_eq u.0 x) refl) ∙ skip (coef f x)));
}
  where
    other : (x : Key) → degree x ≡ e → (b : Bool) → key_eq u.0 x ≡ b → cond b u.1 (pos 0) ≡ pos 0
    other x q false r = refl
    other x q true r = absurd (o (ap degree (key_eq-same u.0 x r) ∙ q))

    skip : (c : ℤ) → pos 0 +ℤ c ≡ c
    skip c = omega (arith, ints)

-- ---- the i-th of the terms

module _ (rule : Arithmetic) (ts : Terms) (i : ℕ) (l : i < length ts) (parts : List Sum) (g : ℕ) (new : Sum) (own : g ≡ degree (key_of (at ts i).0)) (inside : g < length parts)
    (s : StandsFor rule new (term_of (at ts i) ∷ part parts g)) where
  taken : sum_of (take (i + 1) ts) ≡ sum_of (take i ts) ++ term_of (at ts i) ∷ []
  taken = ap sum_of (take_more ts i no_term l) ∙ sum_of-append (take i ts) (at ts i ∷ [])

  own-part : part (set parts g new) g ≡ new
  own-part = get_or-set_same parts g new [] inside

  other-part : (e : ℕ) → e ≢ g → part (set parts g new) e ≡ part parts e
  other-part e o = get_or-set_other parts g e new [] o

  same_degree : (e : ℕ) → Dec (e ≡ g)
  same_degree e = elim (dec_le e g) [
    | yes a ↦ elim (dec_le g e) [ yes b ↦ yes (omega (arith, a, b)) | no b ↦ no (λ q. b (omega (arith, q))) ]
    | no a ↦ no (λ q. a (omega (arith, q)))
  ]

  pub more-parts : IsKeepable rule (at ts i).1 → TakesParts rule (sum_of (take i ts)) parts → TakesParts rule (sum_of (take (i + 1) ts)) (set parts g new)
  more-parts k h e = subst (λ (f : Sum). IsPartOf rule e (part (set parts g new) e) f) (sym taken) (go (same_degree e))
    where
      go : Dec (e ≡ g) → IsPartOf rule e (part (set parts g new) e) (sum_of (take i ts) ++ term_of (at ts i) ∷ [])
      go (yes q) =
          subst (λ (n : ℕ). IsPartOf rule n (part (set parts g new) n) (sum_of (take i ts) ++ term_of (at ts i) ∷ [])) (sym q)
          (subst (λ (p : Sum). IsPartOf rule g p (sum_of (take i ts) ++ term_of (at ts i) ∷ [])) (sym own-part) (part-more rule g (part parts g) new (sum_of (take i ts)) (term_of (at ts i)) (h g) (sym own) k s))
      go (no o) =
          subst (λ (p : Sum). IsPartOf rule e p (sum_of (take i ts) ++ term_of (at ts i) ∷ [])) (sym (other-part e o)) (part-other rule e (part parts e) (sum_of (take i ts)) (term_of (at ts i)) (h e) (λ q. o (sym q ∙ sym own)) k)

  pub more-taken_within : TakesWithin (sum_of (take i ts)) parts → TakesWithin (sum_of (take (i + 1) ts)) (set parts g new)
  more-taken_within h c b w e o =
      let v = subst (λ (f : Sum). Every (λ t. KeyGrowsBy c b (degree t.0) t.0) f) taken w in
      let last : KeyGrowsBy c b (degree (key_of (at ts i).0)) (key_of (at ts i).0) = (Every-right (λ t. KeyGrowsBy c b (degree t.0) t.0) (sum_of (take i ts)) (term_of (at ts i) ∷ []) v).0 in
      let a = h c b (Every-left (λ t. KeyGrowsBy c b (degree t.0) t.0) (sum_of (take i ts)) (term_of (at ts i) ∷ []) v) in
      let n = length-set parts g new in
      go a last (omega (arith, o, n)) (same_degree e)
    where
      go : ((e : ℕ) → e < length parts → Every (λ t. KeyGrowsBy c b e t.0) (part parts e)) → KeyGrowsBy c b (degree (key_of (at ts i).0)) (key_of (at ts i).0) → e < length parts
          → Dec (e ≡ g) → Every (λ t. KeyGrowsBy c b e t.0) (part (set parts g new) e)
      go a last j (yes q) =
          subst (λ (n : ℕ). Every (λ t. KeyGrowsBy c b n t.0) (part (set parts g new) n)) (sym q)
          (subst (λ (p : Sum). Every (λ t. KeyGrowsBy c b g t.0) p) (sym own-part)
          (stands-every rule (λ x. KeyGrowsBy c b g x) new (term_of (at ts i) ∷ part parts g) s (subst (λ (n : ℕ). KeyGrowsBy c b n (key_of (at ts i).0)) (sym own) last, a g inside)))
      go a last j (no o) = subst (λ (p : Sum). Every (λ t. KeyGrowsBy c b e t.0) p) (sym (other-part e o)) (a e j)

-- ---- before the first, and all

pub none-parts : (rule : Arithmetic) (parts : List Sum) → ((e : ℕ) → part parts e ≡ []) → TakesParts rule [] parts
none-parts rule parts h e = subst (λ (p : Sum). IsPartOf rule e p []) (sym (h e)) record { values = tt; degrees = tt; keepable = tt; same = λ k q. refl }

pub none-taken_within : (parts : List Sum) → ((e : ℕ) → part parts e ≡ []) → TakesWithin [] parts
none-taken_within parts h c s w e l = subst (λ (p : Sum). Every (λ t. KeyGrowsBy c s e t.0) p) (sym (h e)) tt

pub takes-terms : (rule : Arithmetic) (ts : Sum) (parts : List Sum) → TakesParts rule ts parts → TakesTerms rule ts parts
takes-terms rule ts parts h k n = record { lengths = n; each = λ e l. h e }

pub takes-kept : (rule : Arithmetic) (ts : Sum) (parts : List Sum) → TakesParts rule ts parts → AreKept rule parts
takes-kept rule ts parts h = kept-parts rule parts (λ e l. (h e).values)

-- z^m alone
pub starts-within : (m : Exp) (c : ℤ) (parts : List Sum) → TakesWithin ((z m, c) ∷ []) parts → StartsWithin m parts
starts-within m x parts h c s a b = h c s ((refl, omega (arith, a), omega (arith, b)), tt)
