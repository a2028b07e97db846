-- Results in the slots of their tasks.
use Rattle.std.proofs.Common.{◌≡◌, ◌≢◌, ◌⊎◌, ℕ, zero, suc, ◌<◌, List, [], ◌∷◌, ◌++◌, append_assoc, length, length-set, set, map, All, Contains, Option, Some, None, IsSome, option_map, slice_get, unwrap_or, refl, sym, ap, ◌∙◌, subst, ⊎_elim, inl, inr, arith}
use Rattle.std.proofs.lemmas.List.{length-map, map-append}
use Rattle.std.proofs.lemmas.Option.{get_or_from_slice_get, none-some, slice_get-map}
use Rattle.joint_board.specs.Seen.{numbers_of, AreInOrder}
use Rattle.joint_board.specs.Rule.{times_in}
use Rattle.joint_board.specs.Gathering.{placed}
use Rattle.joint_board.proofs.Sums.{here_or_there, times-cons, times_here}

none_or_some : (n : ℕ) → (n ≡ 0) ⊎ (0 < n)
none_or_some zero = inl refl
none_or_some (suc n) = inr (omega arith)

module _ {T : Type 0} where
  -- ---- a result is put into its slot

  pub place_within : (r : ℕ × T) (rs rest : List (ℕ × T)) (slots : List (Option T)) (x : Option T) → rs ≡ r ∷ rest
      → All (λ n. n < length slots) (numbers_of rs) → All (λ n. n < length (set slots r.0 x)) (numbers_of rest)
  place_within r rs rest slots x e h k d l =
      let g = rw e at h in rw (length-set slots r.0 x) (g (suc k) d (omega arith))

  pub placed-length : (rs : List (ℕ × T)) (slots : List (Option T)) → length (placed rs slots) ≡ length slots
  placed-length [] slots = refl
  placed-length (r ∷ rs) slots = placed-length rs (set slots r.0 (Some r.1)) ∙ length-set slots r.0 (Some r.1)

  pub placed-append : (rs ss : List (ℕ × T)) (slots : List (Option T))
      → placed (rs ++ ss) slots ≡ placed ss (placed rs slots)
  placed-append [] ss slots = refl
  placed-append (r ∷ rs) ss slots = placed-append rs ss (set slots r.0 (Some r.1))

  -- ---- what stands in the slots then

  get-set_here : (slots : List (Option T)) (i : ℕ) (o : Option T) → i < length slots → slice_get (set slots i o) i ≡ Some o
  get-set_here [] i o l = absurd (omega arith)
  get-set_here (s ∷ slots) zero o l = refl
  get-set_here (s ∷ slots) (suc i) o l = get-set_here slots i o (omega arith)

  get-set_else : (slots : List (Option T)) (i j : ℕ) (o : Option T) → j ≢ i
      → slice_get (set slots i o) j ≡ slice_get slots j
  get-set_else [] i j o ne = refl
  get-set_else (s ∷ slots) zero zero o ne = absurd (ne refl)
  get-set_else (s ∷ slots) zero (suc j) o ne = refl
  get-set_else (s ∷ slots) (suc i) zero o ne = refl
  get-set_else (s ∷ slots) (suc i) (suc j) o ne = get-set_else slots i j o (λ e. ne (ap suc e))

  placed_else : (rs : List (ℕ × T)) (slots : List (Option T)) (x : ℕ) → times_in x (numbers_of rs) ≡ 0
      → slice_get (placed rs slots) x ≡ slice_get slots x
  placed_else [] slots x none = refl
  placed_else (r ∷ rs) slots x none =
      let c = times-cons x r.0 (numbers_of rs) in
      let apart : x ≢ r.0 = λ e. let h = subst (λ y. 0 < times_in y (r.0 ∷ numbers_of rs)) (sym e) (times_here r.0 (numbers_of rs)) in absurd (omega arith) in
      placed_else rs (set slots r.0 (Some r.1)) x (omega arith) ∙ get-set_else slots r.0 x (Some r.1) apart

  abbrev IsPlaced : List (ℕ × T) → List (Option T) → ℕ → Type 0
  IsPlaced rs slots x = (t : T) × Contains rs (x, t) × (slice_get slots x ≡ Some (Some t))

  contains_more : (r s : ℕ × T) (rs : List (ℕ × T)) → Contains rs s → Contains (r ∷ rs) s
  contains_more r s rs c = let l = c.1 in (suc c.0, omega arith, c.2)

  pub placed_at : (rs : List (ℕ × T)) (slots : List (Option T)) (x : ℕ) → x < length slots
      → 0 < times_in x (numbers_of rs) → IsPlaced rs (placed rs slots) x
  placed_at [] slots x l h = absurd (omega arith)
  placed_at (r ∷ rs) slots x l h =
      let next = set slots r.0 (Some r.1) in
      let long = length-set slots r.0 (Some r.1) in
      ⊎_elim
      (λ (none : times_in x (numbers_of rs) ≡ 0).
      let here : x ≡ r.0 = ⊎_elim (λ e. e) (λ (p : 0 < times_in x (numbers_of rs)). absurd (omega arith)) (here_or_there x r.0 (numbers_of rs) h) in (
        r.1,
        (0, omega arith, ap (λ n. (n, r.1)) (sym here)),
        placed_else rs next x none ∙ subst (λ n. slice_get next n ≡ Some (Some r.1)) (sym here)
            (get-set_here slots r.0 (Some r.1) (subst (λ n. n < length slots) here l)),
      ))
      (λ (some : 0 < times_in x (numbers_of rs)).
      let p = placed_at rs next x (omega arith) some in
      (p.0, contains_more r (x, p.0) rs p.1, p.2))
      (none_or_some (times_in x (numbers_of rs)))

  -- ---- a result is taken out of its slot

  pub all_placed : (n : ℕ) (rs : List (ℕ × T)) (slots : List (Option T)) → length slots ≡ n
      → ((x : ℕ) → x < n → times_in x (numbers_of rs) ≡ 1) → All IsSome (placed rs slots)
  all_placed n rs slots long once x d l =
      let less : x < n = omega (arith, placed-length rs slots, l, long) in
      let p = placed_at rs slots x (omega arith) (omega (arith, once x less)) in
      rw (get_or_from_slice_get (placed rs slots) x (Some p.0) d p.2) refl

  inner : (t : T) (o : Option T) → option_map Some o ≡ Some (Some t) → o ≡ Some t
  inner t None e = absurd (none-some (Some t) e)
  inner t (Some y) e = ap (λ (o : Option (Option T)). unwrap_or o None) e

  pub in_order : (n : ℕ) (rs : List (ℕ × T)) (slots : List (Option T)) (results : List T) → length slots ≡ n
      → ((x : ℕ) → x < n → times_in x (numbers_of rs) ≡ 1) → map Some results ≡ placed rs slots
      → AreInOrder n rs results
  in_order n rs slots results long once e = record {
    all = omega (arith, length-map results (λ (t : T). Some t), ap length e, placed-length rs slots, long);
    each = λ x l.
        let p = placed_at rs slots x (omega (arith, long)) (omega (arith, once x l)) in
        let got = sym (slice_get-map (λ (t : T). Some t) results x) ∙ (ap (λ s. slice_get s x) e ∙ p.2) in
        (p.0, (p.1, inner p.0 (slice_get results x) got));
    once = once;
  }

  pub take_one : (out : List T) (t : T) (slot : Option T) (slots rest all : List (Option T)) → slots ≡ slot ∷ rest
      → slot ≡ Some t → map Some out ++ slots ≡ all → map Some (out ++ t ∷ []) ++ rest ≡ all
  take_one out t slot slots rest all e s h =
      let g : map Some out ++ (Some t ∷ rest) ≡ all = rw (e, s) at h in
      rw (map-append Some out (t ∷ []), append_assoc) g
