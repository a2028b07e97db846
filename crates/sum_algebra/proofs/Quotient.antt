-- Formal sums modulo degree above k, as a ring with honest equality: the set quotient by Same.
use Rattle.std.specs.Prelude.{◌≡◌, refl, ℕ, List, [], ◌∷◌, ◌++◌, ◌<◌}
use Rattle.std.proofs.Common.{◌∙◌, ap}
use mathlib.Core.HLevel.{Π_prop}
use mathlib.Core.Quot.{Quot, mk, sound, lift, ind, Quot-set}
use mathlib.Mathlib.Data.Quot as Q
use lib.IntN.{ℤ, pos, neg_ℤ, ℤ_set, +ℤ_assoc, +ℤ_comm}
use Rattle.sum_algebra.proofs.Ring.{CommRing, minus, nought, unit, ring}
use Rattle.sum_algebra.proofs.IntegerRing.{ints_ring, ◌:+◌, ◌:*◌, X}
use Rattle.sum_algebra.proofs.Sums as S
use Rattle.sum_algebra.proofs.Sums.{Keys, Same, pair, bind, multiple, pair-append, pair-multiple}

module _ {K : Type 0} (𝓚 : Keys K) (k : ℕ) where
  abbrev pub Modulo : Type 0
  Modulo = Quot (Same 𝓚 k)

  abbrev pub class : List (K × ℤ) → Modulo
  class s = mk s

  pub Same-append_right : (s t t' : List (K × ℤ)) → Same 𝓚 k t t' → Same 𝓚 k (s ++ t) (s ++ t')
  Same-append_right s t t' h = record { at = λ φ v. rw (pair-append φ s t, pair-append φ s t', h.at φ v) }

  pub Same-append_left : (s s' t : List (K × ℤ)) → Same 𝓚 k s s' → Same 𝓚 k (s ++ t) (s' ++ t)
  Same-append_left s s' t h = record { at = λ φ v. rw (pair-append φ s t, pair-append φ s' t, h.at φ v) }

  pub Same-mul_right : (s t t' : List (K × ℤ)) → Same 𝓚 k t t' → Same 𝓚 k (S.mul 𝓚 s t) (S.mul 𝓚 s t')
  Same-mul_right s t t' h = record { at = λ φ v. S.mul_comm 𝓚 φ s t ∙ (S.Same-mul_left 𝓚 k t t' s h).at φ v ∙ S.mul_comm 𝓚 φ t' s }

  pub Same-multiple : (c : ℤ) (s s' : List (K × ℤ)) → Same 𝓚 k s s' → Same 𝓚 k (multiple c s) (multiple c s')
  Same-multiple c s s' h = record { at = λ φ v. rw (pair-multiple φ c s, pair-multiple φ c s', h.at φ v) }

  -- equal pairings are the strongest reason
  pub same : (s t : List (K × ℤ)) → ((φ : K → ℤ) → pair φ s ≡ pair φ t) → ◌≡◌ {A = Modulo} (mk s) (mk t)
  same s t h = sound (record { at = λ φ v. h φ })

  abbrev add : Modulo → Modulo → Modulo
  add = Q.lift₂ Quot-set (λ s t. mk (s ++ t)) (λ s t t' h. sound (Same-append_right s t t' h)) (λ s s' t h. sound (Same-append_left s s' t h))

  abbrev mul : Modulo → Modulo → Modulo
  mul = Q.lift₂ Quot-set (λ s t. mk (S.mul 𝓚 s t)) (λ s t t' h. sound (Same-mul_right s t t' h)) (λ s s' t h. sound (S.Same-mul_left 𝓚 k s s' t h))

  abbrev neg : Modulo → Modulo
  neg = lift Quot-set (λ s. mk (S.neg 𝓚 s)) (λ s s' h. sound (Same-multiple (neg_ℤ (pos 1)) s s' h))

  pub by_one : (P Q : Modulo → Modulo) → ((s : List (K × ℤ)) → P (mk s) ≡ Q (mk s)) → (a : Modulo) → P a ≡ Q a
  by_one P Q h = ind (λ a. Quot-set (P a) (Q a)) h

  pub by_two : (P Q : Modulo → Modulo → Modulo) → ((s t : List (K × ℤ)) → P (mk s) (mk t) ≡ Q (mk s) (mk t)) → (a b : Modulo) → P a b ≡ Q a b
  by_two P Q h = ind (λ a. Π_prop (λ b. Quot-set (P a b) (Q a b))) (λ s. by_one (P (mk s)) (Q (mk s)) (h s))

  pub by_three : (P Q : Modulo → Modulo → Modulo → Modulo) → ((s t u : List (K × ℤ)) → P (mk s) (mk t) (mk u) ≡ Q (mk s) (mk t) (mk u)) → (a b c : Modulo) → P a b c ≡ Q a b c
  by_three P Q h = ind (λ a. Π_prop (λ b. Π_prop (λ c. Quot-set (P a b c) (Q a b c)))) (λ s. by_two (P (mk s)) (Q (mk s)) (h s))

  abbrev pub modulo_ring : CommRing Modulo
  modulo_ring = record {
    ◌⊕◌ = add;
    ◌⊗◌ = mul;
    ⊖◌ = neg;
    𝟘 = mk [];
    𝟙 = mk (S.one 𝓚);
    add_assoc = by_three (λ a b c. add (add a b) c) (λ a b c. add a (add b c)) (λ s t u. same _ _ (λ φ. rw (pair-append φ (s ++ t) u, pair-append φ s t, pair-append φ s (t ++ u), pair-append φ t u, +ℤ_assoc)));
    add_comm = by_two (λ a b. add a b) (λ a b. add b a) (λ s t. same _ _ (λ φ. rw (pair-append φ s t, pair-append φ t s) (+ℤ_comm (pair φ s) (pair φ t))));
    add_zero = by_one (λ a. add a (mk [])) (λ a. a) (λ s. same _ _ (λ φ. pair-append φ s [] ∙ ring ints_ring (pair φ s ∷ []) (X :+ nought) X refl));
    add_neg = by_one (λ a. add a (neg a)) (λ a. mk []) (λ s. same _ _ (λ φ. pair-append φ s (S.neg 𝓚 s) ∙ rw (pair-multiple φ (neg_ℤ (pos 1)) s) (ring ints_ring (pair φ s ∷ []) (X :+ minus unit :* X) nought refl)));
    mul_assoc = by_three (λ a b c. mul (mul a b) c) (λ a b c. mul a (mul b c)) (λ s t u. same _ _ (λ φ. S.mul_assoc 𝓚 φ s t u));
    mul_comm = by_two (λ a b. mul a b) (λ a b. mul b a) (λ s t. same _ _ (λ φ. S.mul_comm 𝓚 φ s t));
    mul_one = by_one (λ a. mul a (mk (S.one 𝓚))) (λ a. a) (λ s. same _ _ (λ φ. S.mul_comm 𝓚 φ s (S.one 𝓚) ∙ S.one_mul 𝓚 φ s));
    dist = by_three (λ a b c. mul (add a b) c) (λ a b c. add (mul a c) (mul b c)) (λ s t u. same _ _ (λ φ. S.mul_append 𝓚 φ s t u));
  }

  -- back from an equation in the ring
  abbrev reads : (φ : K → ℤ) → ((x : K) → k < 𝓚.deg x → φ x ≡ pos 0) → Modulo → ℤ
  reads φ v = lift ℤ_set (λ s. pair φ s) (λ s t h. h.at φ v)

  pub exact : (s t : List (K × ℤ)) → ◌≡◌ {A = Modulo} (mk s) (mk t) → Same 𝓚 k s t
  exact s t h = record { at = λ φ v. ap (reads φ v) h }
