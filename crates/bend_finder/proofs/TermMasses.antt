-- Masses of a majorant's terms, term by term, and its bends.
use Rattle.std.proofs.Common.{◌≡◌, ℕ, ◌+◌, ◌<◌, ◌≤◌, ◌^◌, refl, sym, ap, subst, ◌∙◌, Bool, true, false, cond, List, [], ◌∷◌, ◌++◌, map, length, get_or, drop, min, arith, append_assoc}
use Rattle.std.specs.Prelude.{ℤ, nat_abs, nat_le, nat_lt, filter}
use Rattle.std.proofs.Math.Seq.{get_or-append_seam}
use Rattle.std.proofs.lemmas.List.{get_or_append_left, get_or_default}
use Rattle.scattering.specs.Collections.{Every}
use Rattle.scattering.specs.Series.{Term, Sum, degree, mass_to}
use Rattle.scattering.specs.Plane.{Point}
use Rattle.scattering.specs.BrokenLine.{Bend}
use Rattle.trunc_series.specs.declared.key.Key.{Key as CodeKey}
use Rattle.trunc_series.specs.Shown.{term_of, sum_of}
use Rattle.trunc_series.proofs.Terms.{at, sum_of-drop, Every-at}
use Rattle.bend_finder.specs.Bends.{told_mass, grown_mass, AreMasses, bends_among}

pub grown-kept : (d m : ℕ) (t : Term) → m ≤ 2 ^ 126 + 1 → grown_mass d m t ≤ 2 ^ 126 + 1
grown-kept d m t l = go (nat_le (degree t.0) d)
  where
    go : (b : Bool) → cond b (min (m + nat_abs t.1) (2 ^ 126 + 1)) m ≤ 2 ^ 126 + 1
    go true = omega arith
    go false = l

-- with what is left, the mass stays the same
pub grown-more : (d m : ℕ) (ts : List (CodeKey × ℤ)) (i : ℕ) → i < length ts
    → min (grown_mass d m (term_of (at ts i)) + mass_to d (sum_of (drop (i + 1) ts))) (2 ^ 126 + 1) ≡ min (m + mass_to d (sum_of (drop i ts))) (2 ^ 126 + 1)
grown-more d m ts i l = go (nat_le (degree (term_of (at ts i)).0) d) refl ∙ ap (λ f. min (m + mass_to d f) (2 ^ 126 + 1)) (sym (sum_of-drop ts i l))
  where
    go : (b : Bool) → nat_le (degree (term_of (at ts i)).0) d ≡ b → min (grown_mass d m (term_of (at ts i)) + mass_to d (sum_of (drop (i + 1) ts))) (2 ^ 126 + 1) ≡ min (m + mass_to d (term_of (at ts i) ∷ sum_of (drop (i + 1) ts))) (2 ^ 126 + 1)
    go true e = rw e (omega arith)
    go false e = rw e (omega arith)

-- a list of masses with one more
pub masses-more : (f : Sum) (ms : List ℕ) (n x : ℕ) → length ms ≡ n → ((d : ℕ) → d < n → get_or ms d 0 ≡ told_mass d f) → x ≡ told_mass n f → (d : ℕ) → d < n + 1 → get_or (ms ++ x ∷ []) d 0 ≡ told_mass d f
masses-more f ms n x e h k d l = go (nat_lt d n) refl
  where
    go : (b : Bool) → nat_lt d n ≡ b → get_or (ms ++ x ∷ []) d 0 ≡ told_mass d f
    go true b = let lt : d < n = grind arith in get_or_append_left ms (x ∷ []) 0 d (omega (arith, lt, e)) ∙ h d lt
    go false b = let s : d ≡ n = grind (arith, l) in ap (λ j. get_or (ms ++ x ∷ []) j 0) (s ∙ sym e) ∙ get_or-append_seam ms x [] 0 ∙ k ∙ ap (λ j. told_mass j f) (sym s)

-- a term's bend, and none by a term of degree 0
module _ (q : Point) (f : Sum) (ts : List (CodeKey × ℤ)) (i : ℕ) (l : i < length ts) (bs cs : List (Bend × ℕ)) where
  pub bend-more : 1 ≤ degree (term_of (at ts i)).0 → (c : Bend × ℕ) → c ≡ (record { at = q; key = (term_of (at ts i)).0 }, told_mass (degree (term_of (at ts i)).0) f) → cs ≡ bs ++ c ∷ []
      → cs ++ bends_among q f (sum_of (drop (i + 1) ts)) ≡ bs ++ bends_among q f (sum_of (drop i ts))
  bend-more some c e s =
      ap (λ us. us ++ bends_among q f (sum_of (drop (i + 1) ts))) s ∙ append_assoc bs (c ∷ []) (bends_among q f (sum_of (drop (i + 1) ts)))
      ∙ ap (λ us. bs ++ us) (ap (λ d. d ∷ bends_among q f (sum_of (drop (i + 1) ts))) e ∙ sym (ap (λ b. map (λ t. (record { at = q; key = t.0 }, told_mass (degree t.0) f)) (cond b (term_of (at ts i) ∷ filter (λ t. nat_le 1 (degree t.0)) (sum_of (drop (i + 1) ts))) (filter (λ t. nat_le 1 (degree t.0)) (sum_of (drop (i + 1) ts))))) (yes-some (degree (term_of (at ts i)).0) some)) ∙ ap (bends_among q f) (sym (sum_of-drop ts i l)))
    where
      yes-some : (d : ℕ) → 1 ≤ d → nat_le 1 d ≡ true
      yes-some d l = grind arith

  pub bend-none : degree (term_of (at ts i)).0 ≤ 0 → cs ≡ bs → cs ++ bends_among q f (sum_of (drop (i + 1) ts)) ≡ bs ++ bends_among q f (sum_of (drop i ts))
  bend-none none s =
      ap (λ us. us ++ bends_among q f (sum_of (drop (i + 1) ts))) s
      ∙ ap (λ us. bs ++ us) (sym (ap (λ b. map (λ t. (record { at = q; key = t.0 }, told_mass (degree t.0) f)) (cond b (term_of (at ts i) ∷ filter (λ t. nat_le 1 (degree t.0)) (sum_of (drop (i + 1) ts))) (filter (λ t. nat_le 1 (degree t.0)) (sum_of (drop (i + 1) ts))))) (not-some (degree (term_of (at ts i)).0) none)) ∙ ap (bends_among q f) (sym (sum_of-drop ts i l)))
    where
      not-some : (d : ℕ) → d ≤ 0 → nat_le 1 d ≡ false
      not-some d l = grind arith

pub told-at : (n d x : ℕ) (f g : Sum) (ms : List ℕ) → AreMasses n g ms → g ≡ f → d ≤ n → x ≡ get_or ms d x → x ≡ told_mass d f
told-at n d x f g ms h e l k = k ∙ get_or_default ms d x 0 (let c = h.count in omega (arith, l, c)) ∙ h.each d l ∙ ap (told_mass d) e

-- a term of degree at most the order
pub degree-at : (n : ℕ) (f : Sum) (ts : List (CodeKey × ℤ)) (i : ℕ) → i < length ts → sum_of ts ≡ f → Every (λ t. degree t.0 ≤ n) f → degree (term_of (at ts i)).0 ≤ n
degree-at n f ts i l e h = Every-at (λ t. degree t.0 ≤ n) ts i l (subst (Every (λ t. degree t.0 ≤ n)) (sym e) h)
