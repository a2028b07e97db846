-- One source more: the parts above it gain what its terms add, and those below stay.
use Rattle.std.proofs.Common.{◌≡◌, ℕ, suc, ◌+◌, ◌-◌, ◌<◌, ◌≤◌, sym, subst, ap, ◌∙◌, List, [], ◌++◌, length, get_or, arith, length-append}
use Rattle.std.specs.Prelude.{ℤ, ◌+ℤ◌, nat_abs}
use Rattle.std.proofs.lemmas.Int.{ints}
use Rattle.std.proofs.lemmas.List.{get_or_append_left, get_or-append_right}
use native.Mathlib.Decide.{dec_le}
use Rattle.scattering.specs.Collections.{Every}
use Rattle.scattering.specs.Series.{Exp, Term, Sum, coef, degree}
use Rattle.scattering.proofs.Lists.{Every-append, Every-implies, Every-left, Every-right}
use Rattle.scattering.proofs.Pairing.{coef-append}
use Rattle.trunc_series.specs.declared.arithmetic.Arithmetic.{Arithmetic}
use Rattle.trunc_series.specs.Arithmetic.{IsKeepable}
use Rattle.trunc_series.specs.Shown.{HasNearTerms}
use Rattle.trunc_series.specs.Sums.{AreKeptValues}
use Rattle.degree_theory.specs.Parts.{substituted, partial_convolution}
use Rattle.power_tables.specs.Tables.{SeenTable}
use Rattle.wall_auto.specs.ByDegree.{part, KeyGrowsBy, AreNear, AreKept, CrossesWithin}
use Rattle.wall_auto.specs.Gains.{factor_at, Keeps, LowPartsStay, GainsTerms, PartsGrowAbove, KeepsGrowth, GainsParts}
use Rattle.power_tables.proofs.Alike.{alike-refl, alike-trans, alike-append, alike-then}
use Rattle.wall_auto.proofs.PartSums.{keeps-alike, alike-keeps, keeps-itself}
use Rattle.wall_auto.proofs.PartRows.{part-kept, read-part}
use Rattle.wall_auto.proofs.PartGains.{GainsFrom}

-- ---- the terms of a source

pub source-near : (parts : List Sum) (s : ℕ) → AreNear parts → s < length parts → HasNearTerms (part parts s)
source-near parts s h l = Every-implies (λ (t : Term). KeyGrowsBy 65536 0 s t.0) (λ t. (nat_abs t.0.exp.a ≤ 65536) × (nat_abs t.0.exp.b ≤ 65536)) (part parts s) (λ t w. (let a = w.1 in omega (arith, a), let b = w.2 in omega (arith, b))) (h s l)

pub source-degrees : (parts : List Sum) (s n : ℕ) → AreNear parts → s < length parts → s + n ≤ 24 → Every (λ t. degree t.0 + n ≤ 24) (part parts s)
source-degrees parts s n h l fits = Every-implies (λ (t : Term). KeyGrowsBy 65536 0 s t.0) (λ t. degree t.0 + n ≤ 24) (part parts s) (λ t w. let e = w.0 in omega (arith, e, fits)) (h s l)

-- the last of the front parts is the source
pub source-is : (cur front back : List Sum) (s : ℕ) (p : Sum) → cur ≡ front ++ back → length front ≡ suc s → get_or front s p ≡ part cur s
source-is cur front back s p cut e = read-part front s p (omega (arith, e)) ∙ sym (get_or_append_left front back [] s (omega (arith, e))) ∙ ap (λ (ps : List Sum). part ps s) (sym cut)

-- ---- gains one after the other

pub gain-more : (rule : Arithmetic) (p c S X o : Sum) → Keeps rule p (S ++ c) → Keeps rule c (X ++ o) → Keeps rule p ((X ++ S) ++ o)
gain-more rule p c S X o h g =
    let A = keeps-alike rule c (X ++ o) g in
    let B = keeps-alike rule p (S ++ c) h in
    let hS = Every-left (λ v. IsKeepable rule v.1) S c h.keepable in
    let hX = Every-left (λ v. IsKeepable rule v.1) X o g.keepable in
    let ho = Every-right (λ v. IsKeepable rule v.1) X o g.keepable in
    alike-keeps rule p ((X ++ S) ++ o) h.values
    (alike-then rule p (S ++ (X ++ o)) ((X ++ S) ++ o) (alike-trans rule p (S ++ c) (S ++ (X ++ o)) B (alike-append rule S S c (X ++ o) (alike-refl rule S hS) A))
    (Every-append (λ v. IsKeepable rule v.1) (X ++ S) o (Every-append (λ v. IsKeepable rule v.1) X S hX hS) ho)
    (λ k.
    coef-append S (X ++ o) k ∙ ap (λ z. coef S k +ℤ z) (coef-append X o k)
    ∙ turned (coef S k) (coef X k) (coef o k)
    ∙ ap (λ z. z +ℤ coef o k) (sym (coef-append X S k)) ∙ sym (coef-append (X ++ S) o k)))
  where
    turned : (a b c : ℤ) → a +ℤ (b +ℤ c) ≡ (b +ℤ a) +ℤ c
    turned a b c = omega (arith, ints)

-- ---- one step; s is the source, cur are the parts before it, whose front ends with the source

module _ (t : SeenTable) (d : Exp) (sign : ℤ) (old cur front back new : List Sum) (s : ℕ) (xs : Sum) (positive : 1 ≤ t.least) (cut : cur ≡ front ++ back) (front_ends : length front ≡ suc s) (order : length cur ≡ length old) (as_long : length new ≡ length back)
    (same : (e : ℕ) → e < suc s + t.least → part cur e ≡ part old e) (source : xs ≡ part cur s) where
  front-same : (e : ℕ) → e < suc s → part (front ++ new) e ≡ part cur e
  front-same e l =
      get_or_append_left front new [] e (omega (arith, l, front_ends)) ∙ sym (get_or_append_left front back [] e (omega (arith, l, front_ends)))
      ∙ ap (λ (ps : List Sum). part ps e) (sym cut)

  back-at : (e : ℕ) → suc s ≤ e → part cur e ≡ part back (e - suc s)
  back-at e l = ap (λ (ps : List Sum). part ps e) cut ∙ get_or-append_right front back (suc s) e [] front_ends l

  new-at : (e : ℕ) → suc s ≤ e → part (front ++ new) e ≡ part new (e - suc s)
  new-at e l = get_or-append_right front new (suc s) e [] front_ends l

  cut-length : length front + length back ≡ length old
  cut-length = sym (length-append front back) ∙ ap length (sym cut) ∙ order

  pub step-length : length (front ++ new) ≡ length old
  step-length = let c = cut-length in let a = length-append front new in omega (arith, a, as_long, c)

  pub source-old : xs ≡ part old s
  source-old = source ∙ same s (omega (arith, positive))

  module _ (stays : LowPartsStay t back new) where
    pub step-same : (e : ℕ) → e < s + t.least → part (front ++ new) e ≡ part old e
    step-same e l = elim (dec_le (suc s) e) [
      | no o ↦ front-same e (omega (arith, o)) ∙ same e (omega (arith, l))
      | yes m ↦ new-at e m ∙ stays (e - suc s) (omega (arith, l, m)) ∙ sym (back-at e m) ∙ same e (omega (arith, l))
    ]

    pub step-gains : AreKept t.rule old → GainsFrom t d sign (suc s) old cur → GainsTerms t d sign xs back new → GainsFrom t d sign s old (front ++ new)
    step-gains k g h f is e l = elim (dec_le (s + t.least) e) [
      | no o ↦
          let z : suc e - (s + t.least) ≡ 0 = omega (arith, o) in
          subst (λ (n : ℕ). Keeps t.rule (part (front ++ new) e) (partial_convolution (factor_at t.rule f d sign) (part old) e t.least n ++ part old e)) (sym z)
          (subst (λ (p : Sum). Keeps t.rule p (part old e)) (sym (step-same e (omega (arith, o)))) (keeps-itself t.rule (part old e) (part-kept t.rule old e k)))
      | yes m ↦
          let j : ℕ = e - suc s in
          let n : ℕ = suc e - (suc s + t.least) in
          let above : suc s ≤ e = omega (arith, m, positive) in
          let c = cut-length in
          let K = h f is (e - suc s) (omega (arith, l, c, front_ends, above)) (omega (arith, m)) in
          let q : suc (e - suc s) ≡ t.least + (suc e - (suc s + t.least)) = omega (arith, m, positive) in
          let r : s ≡ e - (t.least + (suc e - (suc s + t.least))) = omega (arith, m, positive) in
          let K1 : Keeps t.rule (part (front ++ new) e) (substituted (factor_at t.rule f d sign (suc (e - suc s))) (part old s) ++ part cur e) =
          subst (λ (p : Sum). Keeps t.rule p (substituted (factor_at t.rule f d sign (suc (e - suc s))) (part old s) ++ part cur e)) (sym (new-at e above))
          (subst (λ (p : Sum). Keeps t.rule (part new (e - suc s)) (substituted (factor_at t.rule f d sign (suc (e - suc s))) (part old s) ++ p)) (sym (back-at e above))
          (subst (λ (p : Sum). Keeps t.rule (part new (e - suc s)) (substituted (factor_at t.rule f d sign (suc (e - suc s))) p ++ part back (e - suc s))) source-old K)) in
          let K2 : Keeps t.rule (part (front ++ new) e) (substituted (factor_at t.rule f d sign (t.least + (suc e - (suc s + t.least)))) (part old (e - (t.least + (suc e - (suc s + t.least))))) ++ part cur e) =
          subst (λ (i : ℕ). Keeps t.rule (part (front ++ new) e) (substituted (factor_at t.rule f d sign (t.least + (suc e - (suc s + t.least)))) (part old i) ++ part cur e)) r
          (subst (λ (i : ℕ). Keeps t.rule (part (front ++ new) e) (substituted (factor_at t.rule f d sign i) (part old s) ++ part cur e)) q K1) in
          let G = g f is e l in
          let z : suc e - (s + t.least) ≡ suc (suc e - (suc s + t.least)) = omega (arith, m) in
          subst (λ (n : ℕ). Keeps t.rule (part (front ++ new) e) (partial_convolution (factor_at t.rule f d sign) (part old) e t.least n ++ part old e)) (sym z)
          (gain-more t.rule (part (front ++ new) e) (part cur e) (substituted (factor_at t.rule f d sign (t.least + n)) (part old (e - (t.least + n)))) (partial_convolution (factor_at t.rule f d sign) (part old) e t.least n) (part old e) K2 G)
    ]

  pub step-within : CrossesWithin t old cur → KeepsGrowth t xs back new → CrossesWithin t old (front ++ new)
  step-within g h c b grows w e l =
      let v = g c b grows w in
      let n = step-length in
      elim (dec_le (suc s) e) [
        | no o ↦ subst (λ (p : Sum). Every (λ u. KeyGrowsBy c b e u.0) p) (sym (front-same e (omega (arith, o)))) (v e (omega (arith, l, n, order)))
        | yes m ↦
            let m2 = cut-length in
            let x : Every (λ u. KeyGrowsBy c b s u.0) xs = subst (λ (p : Sum). Every (λ u. KeyGrowsBy c b s u.0) p) (sym source) (v s (omega (arith, l, n, order, m))) in
            let y : PartsGrowAbove c b s back = λ j i. above j i (v (suc s + j) (omega (arith, i, m2, front_ends, order))) in
            let r = h c b s grows x y (e - suc s) (omega (arith, l, n, m, m2, as_long, front_ends)) in
            let q : s + suc (e - suc s) ≡ e = omega (arith, m) in
            subst (λ (p : Sum). Every (λ u. KeyGrowsBy c b e u.0) p) (sym (new-at e m)) (subst (λ (i : ℕ). Every (λ u. KeyGrowsBy c b i u.0) (part new (e - suc s))) q r)
      ]
    where
      above : (j : ℕ) → j < length back → Every (λ u. KeyGrowsBy c b (suc s + j) u.0) (part cur (suc s + j)) → Every (λ u. KeyGrowsBy c b (s + suc j) u.0) (part back j)
      above j i v =
          let q : suc s + j ≡ s + suc j = omega arith in
          let r : (suc s + j) - suc s ≡ j = omega arith in
          subst (λ (i : ℕ). Every (λ u. KeyGrowsBy c b i u.0) (part back j)) q
          (subst (λ (i : ℕ). Every (λ u. KeyGrowsBy c b (suc s + j) u.0) (part back i)) r
          (subst (λ (p : Sum). Every (λ u. KeyGrowsBy c b (suc s + j) u.0) p) (back-at (suc s + j) (omega arith)) v))

  pub step-kept : AreKept t.rule cur → AreKept t.rule new → AreKept t.rule (front ++ new)
  step-kept k h = Every-append (AreKeptValues t.rule) front new (Every-left (AreKeptValues t.rule) front back (subst (λ (ps : List Sum). Every (AreKeptValues t.rule) ps) cut k)) h

  pub back-kept : AreKept t.rule cur → AreKept t.rule back
  back-kept k = Every-right (AreKeptValues t.rule) front back (subst (λ (ps : List Sum). Every (AreKeptValues t.rule) ps) cut k)

-- ---- before the first source, and after the last

pub before-first : (t : SeenTable) (d : Exp) (sign : ℤ) (s : ℕ) (old : List Sum) → AreKept t.rule old → length old ≤ s + t.least → GainsFrom t d sign s old old
before-first t d sign s old k h f is e l =
    let z : suc e - (s + t.least) ≡ 0 = omega (arith, h, l) in
    subst (λ (n : ℕ). Keeps t.rule (part old e) (partial_convolution (factor_at t.rule f d sign) (part old) e t.least n ++ part old e)) (sym z) (keeps-itself t.rule (part old e) (part-kept t.rule old e k))

pub after-last : (t : SeenTable) (d : Exp) (sign : ℤ) (s : ℕ) (old new : List Sum) → s ≡ 0 → GainsFrom t d sign s old new → GainsParts t d sign old new
after-last t d sign s old new z g f is e l =
    let q : suc e - (s + t.least) ≡ suc e - t.least = omega (arith, z) in
    subst (λ (n : ℕ). Keeps t.rule (part new e) (partial_convolution (factor_at t.rule f d sign) (part old) e t.least n ++ part old e)) q (g f is e l)
