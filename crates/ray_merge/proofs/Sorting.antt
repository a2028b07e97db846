-- The terms of a correction in the order of their directions.
use Rattle.std.proofs.Common.{◌≡◌, ◌≢◌, ℕ, zero, suc, ◌+◌, ◌<◌, ◌≤◌, length, get_or, inl, inr, refl, sym, ap, ◌∙◌, Bool, true, false, cond, List, [], ◌∷◌, arith, is_lt, Less, Equal, Greater}
use Rattle.std.specs.Prelude.{ℤ, ◌+ℤ◌}
use Rattle.std.proofs.lemmas.Int.{ints}
use Rattle.limits.specs.Limits.{highest_order}
use Rattle.scattering.specs.Collections.{In, Every, EveryPair, put, in_order}
use Rattle.scattering.specs.Series.{Exp, Key, Term, coef, exp_before}
use Rattle.scattering.proofs.Lists.{Every-in_order, Every-put}
use Rattle.scattering.proofs.Pairing.{coef-append}
use Rattle.crossing_theory.proofs.SortingByAngle.{in_order-sorted}
use Rattle.crossing_theory.proofs.StableSorting as Stable
use Rattle.trunc_series.specs.Shown.{key_of, term_of, sum_of}
use Rattle.trunc_series.specs.declared.key.Key.{Key as CodeKey}
use Rattle.scatter_diagram.specs.Ordered.{exp_order}
use Rattle.ray_merge.specs.declared.ray_term.RayTerm.{RayTerm}
use Rattle.ray_merge.specs.Additions.{IsRayTerm, IsTameKey}
use Rattle.ray_merge.specs.RayTerms.{terms_of, term_before, IsAlong, AreRayTerms}
use Rattle.ray_merge.specs.Rays.{mass_along}
use Rattle.ray_merge.proofs.Along.{mass_along-append}
use Rattle.ray_merge.proofs.Runs.{terms-ordered}

abbrev seen : RayTerm → Term
seen t = (key_of t.key, t.value)

one-more : (t : RayTerm) (ts : List RayTerm) (k : Key) → coef (terms_of (t ∷ ts)) k ≡ coef (seen t ∷ []) k +ℤ coef (terms_of ts) k
one-more t ts k = coef-append (seen t ∷ []) (terms_of ts) k

put-coef : (t : RayTerm) (ts : List RayTerm) (k : Key) → coef (terms_of (put term_before t ts)) k ≡ coef (seen t ∷ []) k +ℤ coef (terms_of ts) k
put-coef t [] k = one-more t [] k
put-coef t (u ∷ ts) k = go (term_before u t) (put-coef t ts k)
  where
    go : (b : Bool) → coef (terms_of (put term_before t ts)) k ≡ coef (seen t ∷ []) k +ℤ coef (terms_of ts) k
        → coef (terms_of (elim b [ true ↦ u ∷ put term_before t ts | false ↦ t ∷ u ∷ ts ])) k ≡ coef (seen t ∷ []) k +ℤ coef (terms_of (u ∷ ts)) k
    go true h = let a = one-more u (put term_before t ts) k in let b = one-more u ts k in omega (arith, ints, a, b, h)
    go false h = one-more t (u ∷ ts) k

pub sorted-coef : (ts : List RayTerm) (k : Key) → coef (terms_of (in_order term_before ts)) k ≡ coef (terms_of ts) k
sorted-coef [] k = refl
sorted-coef (t ∷ ts) k = put-coef t (in_order term_before ts) k ∙ ap (λ c. coef (seen t ∷ []) k +ℤ c) (sorted-coef ts k) ∙ sym (one-more t ts k)

one-heavier : (n : ℕ) (t : RayTerm) (ts : List RayTerm) (d : Exp) → mass_along n (terms_of (t ∷ ts)) d ≡ mass_along n (seen t ∷ []) d + mass_along n (terms_of ts) d
one-heavier n t ts d = mass_along-append n (seen t ∷ []) (terms_of ts) d

put-mass : (n : ℕ) (t : RayTerm) (ts : List RayTerm) (d : Exp) → mass_along n (terms_of (put term_before t ts)) d ≡ mass_along n (seen t ∷ []) d + mass_along n (terms_of ts) d
put-mass n t [] d = one-heavier n t [] d
put-mass n t (u ∷ ts) d = go (term_before u t) (put-mass n t ts d)
  where
    go : (b : Bool) → mass_along n (terms_of (put term_before t ts)) d ≡ mass_along n (seen t ∷ []) d + mass_along n (terms_of ts) d
        → mass_along n (terms_of (elim b [ true ↦ u ∷ put term_before t ts | false ↦ t ∷ u ∷ ts ])) d ≡ mass_along n (seen t ∷ []) d + mass_along n (terms_of (u ∷ ts)) d
    go true h = let a = one-heavier n u (put term_before t ts) d in let b = one-heavier n u ts d in omega (arith, a, b, h)
    go false h = one-heavier n t (u ∷ ts) d

pub sorted-mass : (n : ℕ) (ts : List RayTerm) (d : Exp) → mass_along n (terms_of (in_order term_before ts)) d ≡ mass_along n (terms_of ts) d
sorted-mass n [] d = refl
sorted-mass n (t ∷ ts) d = put-mass n t (in_order term_before ts) d ∙ ap (λ m. mass_along n (seen t ∷ []) d + m) (sorted-mass n ts d) ∙ sym (one-heavier n t ts d)

-- ---- what terms have in any order

of-each : (P : Term → Type 0) (ts : List RayTerm) → Every P (terms_of ts) → Every (λ t. P (seen t)) ts
of-each P [] h = tt
of-each P (t ∷ ts) h = (h.0, of-each P ts h.1)

to-each : (P : Term → Type 0) (ts : List RayTerm) → Every (λ t. P (seen t)) ts → Every P (terms_of ts)
to-each P [] h = tt
to-each P (t ∷ ts) h = (h.0, to-each P ts h.1)

abbrev Apart : Term → Term → Type 0
Apart t u = t.0 ≢ u.0

put-apart : (t : RayTerm) (ts : List RayTerm) → Every (λ u. Apart (seen t) u) (terms_of ts) → EveryPair Apart (terms_of ts) → EveryPair Apart (terms_of (put term_before t ts))
put-apart t [] a h = (tt, tt)
put-apart t (u ∷ ts) a h = go (term_before u t) (put-apart t ts a.1 h.1)
  where
    go : (b : Bool) → EveryPair Apart (terms_of (put term_before t ts)) → EveryPair Apart (terms_of (elim b [ true ↦ u ∷ put term_before t ts | false ↦ t ∷ u ∷ ts ]))
    go true r = (to-each (Apart (seen u)) (put term_before t ts) (Every-put (λ v. Apart (seen u) (seen v)) term_before t ts (λ e. a.0 (sym e)) (of-each (Apart (seen u)) ts h.0)), r)
    go false r = (a, h)

sorted-apart : (ts : List RayTerm) → EveryPair Apart (terms_of ts) → EveryPair Apart (terms_of (in_order term_before ts))
sorted-apart [] h = tt
sorted-apart (t ∷ ts) h = put-apart t (in_order term_before ts) (to-each (Apart (seen t)) (in_order term_before ts) (Every-in_order (λ u. Apart (seen t) (seen u)) term_before ts (of-each (Apart (seen t)) ts h.0))) (sorted-apart ts h.1)

pub sorted-terms : (n : ℕ) (ts : List RayTerm) → Every (IsRayTerm n) (terms_of ts) → Every IsAlong ts → EveryPair Apart (terms_of ts) → AreRayTerms n (in_order term_before ts)
sorted-terms n ts e a d = record {
  each = to-each (IsRayTerm n) (in_order term_before ts) (Every-in_order (λ t. IsRayTerm n (seen t)) term_before ts (of-each (IsRayTerm n) ts e));
  along = Every-in_order IsAlong term_before ts a;
  distinct = sorted-apart ts d;
  sorted = in_order-sorted term_before (λ _. Unit {0}) (Stable.after term_before terms-ordered) terms-ordered.one_way ts (Stable.any term_before terms-ordered ts);
}

pub less-is : (d e : Exp) → is_lt (exp_order d e) ≡ exp_before d e
less-is d e = go (exp_before d e) (exp_before e d)
  where
    go : (b c : Bool) → is_lt (cond b Less (cond c Greater Equal)) ≡ b
    go true c = refl
    go false true = refl
    go false false = refl

pub term-in : (ts : List (CodeKey × ℤ)) (i : ℕ) (d : CodeKey × ℤ) → i < length ts → In (term_of (get_or ts i d)) (sum_of ts)
term-in [] i d l = absurd (omega (arith, l))
term-in (t ∷ ts) zero d l = inl refl
term-in (t ∷ ts) (suc i) d l = inr (term-in ts i d (omega (arith, l)))

pub tame-to : (n : ℕ) (t : Term) → n ≤ highest_order → IsRayTerm n t → IsTameKey highest_order t.0
tame-to n t l h = let e = h.tame in (omega (arith, e.0, l), omega (arith, e.1, l))
