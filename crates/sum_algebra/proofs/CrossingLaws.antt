-- Laws of crossings: well defined, inverted by the opposite sign, commuting.
use Rattle.std.specs.Prelude.{◌≡◌, refl, ℕ, List, [], ◌∷◌, ◌≤◌}
use Rattle.std.proofs.Common.{sym, ◌∙◌, ap, arith, zero, suc}
use lib.IntN.{ℤ, pos, negsuc, ◌+ℤ◌, neg_ℤ, +ℤ_invl}
use Rattle.sum_algebra.proofs.Ring.{CommRing, minus, nought, unit, ring}
use Rattle.sum_algebra.proofs.IntegerRing.{ints_ring, ◌:+◌, ◌:*◌, ◌:-◌, X, Y, Z}
use Rattle.sum_algebra.proofs.Sums as S
use Rattle.sum_algebra.proofs.Sums.{Keys, Same, pair, bind, multiple, pair-append, pair-multiple, pair-bind, pair-zero, pair-ext, pair-swap}
use Rattle.sum_algebra.proofs.Quotient.{Modulo, modulo_ring, same, exact}
use Rattle.sum_algebra.proofs.Support.{Supported, by_every, weaken, Supported-append, bind-same, bind-same_left, Supported-mul, list_power, list_powers, one_minus, inverse}
use Rattle.sum_algebra.proofs.Crossing.{mono, list_int_power, image, cross, cross-mul, power-add}
use mathlib.Core.Quot.{mk, sound}

pub anywhere : {K : Type 0} (s : List (K × ℤ)) → Supported (λ _. Unit {0}) s
anywhere s = record { at = λ φ ψ g. pair-ext φ ψ s (λ x. g x tt) }

pub Supported-multiple : {K : Type 0} (P : K → Type 0) (c : ℤ) (s : List (K × ℤ)) → Supported P s → Supported P (multiple c s)
Supported-multiple P c s h = record { at = λ φ ψ g. rw (pair-multiple φ c s, pair-multiple ψ c s, h.at φ ψ g) }

module _ {K : Type 0} (𝓚 : Keys K) where
  open 𝓚 use {◌·◌, e, deg, deg_mul}

  infixl 7 ◌·◌
  -- a submonoid of keys is kept by powers and by the inverse
  module _ (P : K → Type 0) (at_e : P e) (closed : (x y : K) → P x → P y → P (x · y)) where
    pub on_one : Supported P (S.one 𝓚)
    on_one = by_every P (S.one 𝓚) (at_e, tt)

    pub on_mul : (s t : List (K × ℤ)) → Supported P s → Supported P t → Supported P (S.mul 𝓚 s t)
    on_mul s t h i = Supported-mul 𝓚 P P P s t closed h i

    pub on_power : (s : List (K × ℤ)) → Supported P s → (n : ℕ) → Supported P (list_power 𝓚 s n)
    on_power s h zero = on_one
    on_power s h (suc n) = on_mul s (list_power 𝓚 s n) h (on_power s h n)

    pub on_powers : (s : List (K × ℤ)) → Supported P s → (n : ℕ) → Supported P (list_powers 𝓚 s n)
    on_powers s h zero = by_every P [] tt
    on_powers s h (suc n) = Supported-append P (list_powers 𝓚 s n) (list_power 𝓚 s n) (on_powers s h n) (on_power s h n)

    pub on_inverse : (k : ℕ) (f : List (K × ℤ)) → Supported P f → Supported P (inverse 𝓚 k f)
    on_inverse k f h = on_powers (one_minus 𝓚 f) (Supported-append P (S.one 𝓚) (S.neg 𝓚 f) on_one (Supported-multiple P (neg_ℤ (pos 1)) f h)) (suc k)

    pub on_int_power : (f g : List (K × ℤ)) → Supported P f → Supported P g → (a : ℤ) → Supported P (list_int_power 𝓚 f g a)
    on_int_power f g h i (pos n) = on_power f h n
    on_int_power f g h i (negsuc n) = on_power g i (suc n)

  -- ---- a crossing respects equality modulo degree above k
  module _ (k : ℕ) (f g : List (K × ℤ)) (δ : K → ℤ) where
    pub image-degree : (x : K) → Supported (λ y. deg x ≤ deg y) (image 𝓚 k f g δ x)
    image-degree x =
        Supported-mul 𝓚 (λ y. deg x ≤ deg y) (λ _. Unit {0}) (λ y. deg x ≤ deg y) (mono 𝓚 x) (list_int_power 𝓚 f g (δ x))
        (λ y z p q. omega (arith, deg_mul y z)) (by_every (λ y. deg x ≤ deg y) (mono 𝓚 x) (omega arith, tt)) (anywhere (list_int_power 𝓚 f g (δ x)))

    pub cross-same : (s s' : List (K × ℤ)) → Same 𝓚 k s s' → Same 𝓚 k (cross 𝓚 k f g δ s) (cross 𝓚 k f g δ s')
    cross-same s s' h = bind-same_left 𝓚 𝓚 k s s' (image 𝓚 k f g δ) image-degree h

  pub bind-mono : (φ : K → ℤ) (s : List (K × ℤ)) → pair φ (bind s (mono 𝓚)) ≡ pair φ s
  bind-mono φ s = pair-bind φ s (mono 𝓚) ∙ pair-ext _ _ s (λ x. ring ints_ring (φ x ∷ []) (unit :* X :+ nought) X refl)

  pub bind-bind : (k : ℕ) (s : List (K × ℤ)) (E F G : K → List (K × ℤ)) → ((x : K) → Same 𝓚 k (bind (E x) F) (G x)) → Same 𝓚 k (bind (bind s E) F) (bind s G)
  bind-bind k s E F G h = record {
    at = λ φ v.
        pair-bind φ (bind s E) F ∙ pair-bind (λ y. pair φ (F y)) s E
        ∙ pair-ext _ _ s (λ x. sym (pair-bind φ (E x) F) ∙ (h x).at φ v) ∙ sym (pair-bind φ s G);
  }

  -- ---- what is supported where δ is 0 is fixed
  module _ (k : ℕ) (f g : List (K × ℤ)) (δ : K → ℤ) where
    pub image-fixed : (x : K) → δ x ≡ pos 0 → Same 𝓚 k (image 𝓚 k f g δ x) (mono 𝓚 x)
    image-fixed x z =
        exact 𝓚 k (image 𝓚 k f g δ x) (mono 𝓚 x)
        (ap (λ a. (modulo_ring 𝓚 k).◌⊗◌ (mk (mono 𝓚 x)) (mk (list_int_power 𝓚 f g a))) z
        ∙ ring (modulo_ring 𝓚 k) (mk (mono 𝓚 x) ∷ []) (X :* unit) X refl)

    pub fixes : (s : List (K × ℤ)) → Supported (λ x. δ x ≡ pos 0) s → Same 𝓚 k (cross 𝓚 k f g δ s) s
    fixes s h = record { at = λ φ v. (bind-same 𝓚 k (λ x. δ x ≡ pos 0) s (image 𝓚 k f g δ) (mono 𝓚) h image-fixed).at φ v ∙ bind-mono φ s }

  -- ---- one crossing after another
  module _ (k : ℕ) (f g f' g' : List (K × ℤ)) (δ δ' : K → ℤ) (inv' : Same 𝓚 k (S.mul 𝓚 f' g') (S.one 𝓚)) (additive' : (x y : K) → δ' (x · y) ≡ δ' x +ℤ δ' y) (zero' : (a : ℤ) → Same 𝓚 k (cross 𝓚 k f' g' δ' (list_int_power 𝓚 f g a)) (list_int_power 𝓚 f g a)) where
    abbrev pub R : CommRing (Modulo 𝓚 k)
    R = modulo_ring 𝓚 k

    pub after : (x : K) → ◌≡◌ {A = Modulo 𝓚 k} (mk (cross 𝓚 k f' g' δ' (image 𝓚 k f g δ x))) (R.◌⊗◌ (R.◌⊗◌ (mk (mono 𝓚 x)) (mk (list_int_power 𝓚 f' g' (δ' x)))) (mk (list_int_power 𝓚 f g (δ x))))
    after x =
        sound (cross-mul 𝓚 k f' g' δ' inv' additive' (mono 𝓚 x) (list_int_power 𝓚 f g (δ x)))
        ∙ ap (R.◌⊗◌ (mk (cross 𝓚 k f' g' δ' (mono 𝓚 x)))) (sound (zero' (δ x)))
        ∙ ap (λ y. R.◌⊗◌ y (mk (list_int_power 𝓚 f g (δ x)))) (same 𝓚 k _ _ (λ φ. pair-bind φ (mono 𝓚 x) (image 𝓚 k f' g' δ') ∙ ring ints_ring (pair φ (image 𝓚 k f' g' δ' x) ∷ []) (unit :* X :+ nought) X refl))

  -- ---- the opposite crossing undoes a crossing
  module _ (k : ℕ) (f g : List (K × ℤ)) (δ : K → ℤ) (inv : Same 𝓚 k (S.mul 𝓚 f g) (S.one 𝓚)) (additive : (x y : K) → δ (x · y) ≡ δ x +ℤ δ y) (f_zero : Supported (λ x. δ x ≡ pos 0) f) (g_zero : Supported (λ x. δ x ≡ pos 0) g) where
    abbrev opposite : K → ℤ
    opposite x = neg_ℤ (δ x)

    opposite-additive : (x y : K) → opposite (x · y) ≡ opposite x +ℤ opposite y
    opposite-additive x y = rw (additive x y) (ring ints_ring (δ x ∷ δ y ∷ []) (minus (X :+ Y)) (minus X :+ minus Y) refl)

    δ-e : δ e ≡ pos 0
    δ-e =
        ring ints_ring (δ e ∷ []) X ((X :+ X) :- X) refl
        ∙ (rw (← additive e e, 𝓚.unit_left e) (ring ints_ring (δ e ∷ []) (X :- X) nought refl))

    zero-powers : (a : ℤ) → Supported (λ x. δ x ≡ pos 0) (list_int_power 𝓚 f g a)
    zero-powers a = on_int_power (λ x. δ x ≡ pos 0) δ-e (λ x y p q. rw (additive x y, p, q)) f g f_zero g_zero a

    opposite-zero : (x : K) → δ x ≡ pos 0 → opposite x ≡ pos 0
    opposite-zero x h = rw h

    kept : (a : ℤ) → Same 𝓚 k (cross 𝓚 k f g opposite (list_int_power 𝓚 f g a)) (list_int_power 𝓚 f g a)
    kept a = fixes k f g opposite (list_int_power 𝓚 f g a) (weaken (λ x. δ x ≡ pos 0) (λ x. opposite x ≡ pos 0) (list_int_power 𝓚 f g a) opposite-zero (zero-powers a))

    abbrev pub O : CommRing (Modulo 𝓚 k)
    O = modulo_ring 𝓚 k

    back : (x : K) → Same 𝓚 k (cross 𝓚 k f g opposite (image 𝓚 k f g δ x)) (mono 𝓚 x)
    back x =
        exact 𝓚 k (cross 𝓚 k f g opposite (image 𝓚 k f g δ x)) (mono 𝓚 x)
        (after k f g f g δ opposite inv opposite-additive kept x
        ∙ ring O (mk (mono 𝓚 x) ∷ mk (list_int_power 𝓚 f g (opposite x)) ∷ mk (list_int_power 𝓚 f g (δ x)) ∷ []) ((X :* Y) :* Z) (X :* (Y :* Z)) refl
        ∙ ap (O.◌⊗◌ (mk (mono 𝓚 x))) (sym (power-add 𝓚 k f g δ inv additive (opposite x) (δ x)) ∙ ap (λ a. mk (list_int_power 𝓚 f g a)) (+ℤ_invl (δ x)))
        ∙ ring O (mk (mono 𝓚 x) ∷ []) (X :* unit) X refl)

    pub cross-back : (s : List (K × ℤ)) → Same 𝓚 k (cross 𝓚 k f g (λ x. neg_ℤ (δ x)) (cross 𝓚 k f g δ s)) s
    cross-back s = record { at = λ φ v. (bind-bind k s (image 𝓚 k f g δ) (image 𝓚 k f g opposite) (mono 𝓚) back).at φ v ∙ bind-mono φ s }

  -- ---- two crossings commute where each keeps the other's powers
  module _ (k : ℕ) (f g f' g' : List (K × ℤ)) (δ δ' : K → ℤ)
      (inv : Same 𝓚 k (S.mul 𝓚 f g) (S.one 𝓚)) (additive : (x y : K) → δ (x · y) ≡ δ x +ℤ δ y)
      (inv' : Same 𝓚 k (S.mul 𝓚 f' g') (S.one 𝓚)) (additive' : (x y : K) → δ' (x · y) ≡ δ' x +ℤ δ' y)
      (keeps : (a : ℤ) → Same 𝓚 k (cross 𝓚 k f g δ (list_int_power 𝓚 f' g' a)) (list_int_power 𝓚 f' g' a))
      (keeps' : (a : ℤ) → Same 𝓚 k (cross 𝓚 k f' g' δ' (list_int_power 𝓚 f g a)) (list_int_power 𝓚 f g a)) where
    swapped : (x : K) → Same 𝓚 k (cross 𝓚 k f' g' δ' (image 𝓚 k f g δ x)) (cross 𝓚 k f g δ (image 𝓚 k f' g' δ' x))
    swapped x =
        exact 𝓚 k (cross 𝓚 k f' g' δ' (image 𝓚 k f g δ x)) (cross 𝓚 k f g δ (image 𝓚 k f' g' δ' x))
        (after k f g f' g' δ δ' inv' additive' keeps' x
        ∙ ring (modulo_ring 𝓚 k) (mk (mono 𝓚 x) ∷ mk (list_int_power 𝓚 f' g' (δ' x)) ∷ mk (list_int_power 𝓚 f g (δ x)) ∷ []) ((X :* Y) :* Z) ((X :* Z) :* Y) refl
        ∙ sym (after k f' g' f g δ' δ inv additive keeps x))

    pub crosses-commute : (s : List (K × ℤ)) → Same 𝓚 k (cross 𝓚 k f' g' δ' (cross 𝓚 k f g δ s)) (cross 𝓚 k f g δ (cross 𝓚 k f' g' δ' s))
    crosses-commute s = record {
      at = λ φ v.
          (bind-bind k s (image 𝓚 k f g δ) (image 𝓚 k f' g' δ') (λ x. cross 𝓚 k f' g' δ' (image 𝓚 k f g δ x)) (λ x. record { at = λ φ v. refl })).at φ v
          ∙ (bind-same 𝓚 k (λ _. Unit {0}) s (λ x. cross 𝓚 k f' g' δ' (image 𝓚 k f g δ x)) (λ x. cross 𝓚 k f g δ (image 𝓚 k f' g' δ' x)) (anywhere s) (λ x _. swapped x)).at φ v
          ∙ sym ((bind-bind k s (image 𝓚 k f' g' δ') (image 𝓚 k f g δ) (λ x. cross 𝓚 k f g δ (image 𝓚 k f' g' δ' x)) (λ x. record { at = λ φ v. refl })).at φ v);
    }
