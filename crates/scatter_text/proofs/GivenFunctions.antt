-- The terms of a line within the limits: no key stands twice, and their numbers are small.
use Rattle.std.proofs.Common.{◌≡◌, ◌≢◌, ℕ, zero, suc, refl, sym, ap, ◌∙◌, ◌<◌, ◌≤◌, ◌*◌, List, [], ◌∷◌, map, length, get_or, arith, ◌⊎◌, inl, inr, ℤ, nat_abs}
use Rattle.std.specs.Prelude.{pos, ◌≤ℤ◌, All, AllPairs}
use Rattle.std.proofs.lemmas.Int.{ints, unsigned_abs-mul}
use Rattle.std.proofs.lemmas.List.{ext_get_or}
use Rattle.scattering.specs.Collections.{Every, EveryPair}
use Rattle.scattering.specs.Series.{Exp, Powers, Key, Term, IsMultiple, degree, unit}
use Rattle.scattering.specs.Plane.{IsDirection}
use Rattle.scatter_diagram.specs.Proper.{IsTame, same-multiple}
use Rattle.scatter_text.specs.declared.file.TermRow.{TermRow}
use Rattle.scatter_text.specs.Values.{IsTermRow, AreAlike}
use Rattle.scatter_text.specs.GivenWalls.{power_at, powers_at, term_given, sum_given}
use Rattle.scatter_text.proofs.RowPowers.{row-total, some-power}

-- ---- the powers tell the row

abbrev pick : ℕ → Powers → ℕ
pick zero p = p.t1
pick (suc zero) p = p.t2
pick (suc (suc zero)) p = p.t3
pick (suc (suc (suc zero))) p = p.t4
pick (suc (suc (suc (suc zero)))) p = p.t5
pick (suc (suc (suc (suc (suc zero))))) p = p.t6
pick (suc (suc (suc (suc (suc (suc zero)))))) p = p.t7
pick (suc (suc (suc (suc (suc (suc (suc i))))))) p = p.t8

picked : (ps : List ℤ) (i : ℕ) → i < 8 → pick i (powers_at ps) ≡ power_at ps i
picked ps zero l = refl
picked ps (suc zero) l = refl
picked ps (suc (suc zero)) l = refl
picked ps (suc (suc (suc zero))) l = refl
picked ps (suc (suc (suc (suc zero)))) l = refl
picked ps (suc (suc (suc (suc (suc zero))))) l = refl
picked ps (suc (suc (suc (suc (suc (suc zero)))))) l = refl
picked ps (suc (suc (suc (suc (suc (suc (suc zero))))))) l = refl
picked ps (suc (suc (suc (suc (suc (suc (suc (suc i)))))))) l = absurd (omega (arith, l))

same-size : (a b : ℤ) → pos 0 ≤ℤ a → pos 0 ≤ℤ b → nat_abs a ≡ nat_abs b → a ≡ b
same-size a b p q e = omega (arith, ints, p, q, e)

same-rows : (ps qs : List ℤ) → length ps ≡ length qs → length ps ≤ 8 → All (λ a. pos 0 ≤ℤ a) ps → All (λ a. pos 0 ≤ℤ a) qs → powers_at ps ≡ powers_at qs → ps ≡ qs
same-rows ps qs n few hp hq e =
    ext_get_or (pos 0) ps qs n (λ i l. same-size (get_or ps i (pos 0)) (get_or qs i (pos 0)) (hp i (pos 0) l) (hq i (pos 0) (omega (arith, l, n)))
    (sym (picked ps i (omega (arith, l, few))) ∙ ap (pick i) e ∙ picked qs i (omega (arith, l, few))))

-- ---- lists

pub every-from : {A : Type 0} (P : A → Type 0) (xs : List A) → All P xs → Every P xs
every-from P [] h = tt
every-from P (x ∷ xs) h = (h 0 x (omega arith), every-from P xs (λ k d l. h (suc k) d (omega (arith, l))))

later-all : {A : Type 0} (P : A → Type 0) (x : A) (xs : List A) → All P (x ∷ xs) → All P xs
later-all P x xs h = λ k d l. h (suc k) d (omega (arith, l))

later-pairs : {A : Type 0} (R : A → A → Type 0) (x : A) (xs : List A) → AllPairs R (x ∷ xs) → AllPairs R xs
later-pairs R x xs h = λ i j d l m. h (suc i) (suc j) d (omega (arith, l)) (omega (arith, m))

first-pairs : {A : Type 0} (R : A → A → Type 0) (x : A) (xs : List A) → AllPairs R (x ∷ xs) → All (R x) xs
first-pairs R x xs h = λ k d l. h 0 (suc k) d (omega arith) (omega (arith, l))

pub every-map : {A B : Type 0} (P : B → Type 0) (Q : A → Type 0) (f : A → B) (xs : List A) → ((x : A) → Q x → P (f x)) → Every Q xs → Every P (map f xs)
every-map P Q f [] i h = tt
every-map P Q f (x ∷ xs) i h = (i x h.0, every-map P Q f xs i h.1)

-- ---- the terms

-- a term of the function, in eight variables at most, with small numbers
pub record IsSmall (d : Exp) (t : TermRow) : Type 0 where
  pub term : IsTermRow t
  pub count : length t.powers ≤ 8
  pub coefficient : nat_abs t.c ≤ 2147483647
  pub x : nat_abs t.j * nat_abs d.a ≤ 64
  pub y : nat_abs t.j * nat_abs d.b ≤ 64

module _ (d : Exp) (direction : IsDirection d) where
  pub some-degree : (t : TermRow) → IsSmall d t → 1 ≤ degree (term_given d t).0
  some-degree t h = let e = row-total t.powers h.count in let s = some-power t.powers h.term.some_power in omega (arith, e, s)

  not-unit : (t : TermRow) → IsSmall d t → unit ≢ (term_given d t).0
  not-unit t h e = let l = some-degree t h in let z : 0 ≡ degree (term_given d t).0 = ap degree e in omega (arith, l, z)

  apart : (s t : TermRow) → IsSmall d s → IsSmall d t → length s.powers ≡ length t.powers → ¬ AreAlike s t → (term_given d s).0 ≢ (term_given d t).0
  apart s t hs ht n differ e =
      differ (same-multiple d direction s.j t.j (ap (λ (k : Key). k.exp) e), same-rows s.powers t.powers n hs.count hs.term.no_negative_power ht.term.no_negative_power (ap (λ (k : Key). k.powers) e))

  terms-apart : (n : ℕ) (ts : List TermRow) → Every (IsSmall d) ts → All (λ t. length t.powers ≡ n) ts → AllPairs (λ s t. ¬ AreAlike s t) ts → EveryPair (λ t u. t.0 ≢ u.0) (map (term_given d) ts)
  terms-apart n [] h c p = tt
  terms-apart n (t ∷ ts) h c p =
      (first ts h.1 (later-all (λ u. length u.powers ≡ n) t ts c) (first-pairs (λ s u. ¬ AreAlike s u) t ts p), terms-apart n ts h.1 (later-all (λ u. length u.powers ≡ n) t ts c) (later-pairs (λ s u. ¬ AreAlike s u) t ts p))
    where
      first : (us : List TermRow) → Every (IsSmall d) us → All (λ u. length u.powers ≡ n) us → All (λ u. ¬ AreAlike t u) us → Every (λ u. (term_given d t).0 ≢ u.0) (map (term_given d) us)
      first [] k m q = tt
      first (u ∷ us) k m q =
          (apart t u h.0 k.0 (c 0 t (omega arith) ∙ sym (m 0 u (omega arith))) (q 0 u (omega arith)), first us k.1 (later-all (λ v. length v.powers ≡ n) u us m) (later-all (λ v. ¬ AreAlike t v) u us q))

  pub sum-apart : (n : ℕ) (ts : List TermRow) → Every (IsSmall d) ts → All (λ t. length t.powers ≡ n) ts → AllPairs (λ s t. ¬ AreAlike s t) ts → EveryPair (λ t u. t.0 ≢ u.0) (sum_given d ts)
  sum-apart n ts h c p = (every-map (λ u. unit ≢ u.0) (IsSmall d) (term_given d) ts not-unit h, terms-apart n ts h c p)

  -- what each term of the sum has
  pub record IsGiven (t : Term) : Type 0 where
    pub nonzero : t.1 ≢ pos 0
    pub small : nat_abs t.1 ≤ 2147483647
    pub tame : IsTame t
    pub form : (t ≡ (unit, pos 1)) ⊎ ((1 ≤ degree t.0) × IsMultiple d t.0.exp)

  unit-given : IsGiven (unit, pos 1)
  unit-given = record { nonzero = λ e. omega (arith, ints, e); small = omega arith; tame = (omega arith, omega arith); form = inl refl }

  term-given : (t : TermRow) → IsSmall d t → IsGiven (term_given d t)
  term-given t h =
      let l = some-degree t h in
      let a = unsigned_abs-mul t.j d.a in let b = unsigned_abs-mul t.j d.b in let x = h.x in let y = h.y in
      record { nonzero = h.term.coefficient; small = h.coefficient; tame = (omega (arith, l, a, x), omega (arith, l, b, y)); form = inr (l, (t.j, h.term.multiple, refl)) }

  pub sum-each : (ts : List TermRow) → Every (IsSmall d) ts → Every IsGiven (sum_given d ts)
  sum-each ts h = (unit-given, every-map IsGiven (IsSmall d) (term_given d) ts term-given h)
