-- A family taken apart at its exponents, run by run.
use Rattle.std.proofs.Common.{◌≡◌, ◌≢◌, ℕ, refl, sym, ap, subst, ◌∙◌, ◌<◌, ◌≤◌, ◌^◌, ◌⊎◌, inl, inr, append_assoc, arith, true, List, [], ◌∷◌, ◌++◌, take, drop}
use Rattle.std.specs.Prelude.{pos, nat_abs, ◌&&◌, IsTrue}
use Rattle.std.proofs.lemmas.List.{append-nil}
use Rattle.limits.specs.Limits.{highest_order, largest_weight}
use Rattle.scattering.specs.Collections.{Every, EveryPair}
use Rattle.scattering.specs.Series.{Exp, Key, Term, Sum, origin, exp_before, exp_eq, powers_before, key_before, degree, IsSeries}
use Rattle.scattering.proofs.Keys.{exp_eq-same}
use Rattle.scattering.proofs.KeyOrder.{exp_before-trans}
use Rattle.scattering.proofs.StrictOrders.{exp_before-asym}
use Rattle.scattering.proofs.Lists.{or-out, and-left, and-right, Every-right, Every-push, pairs-push}
use Rattle.trunc_series.specs.Shown.{exp_of, sum_of, Seen, IsValid}
use Rattle.trunc_series.specs.Reduced.{Terms}
use Rattle.trunc_series.specs.declared.key.Exp.{Exp as CodeExp}
use Rattle.theta_algebra.specs.Families.{family_of, at_exp, IsCoefficient}
use Rattle.theta_algebra.specs.Parts.{HasOneExp, without_exp, IsSeriesPart, AreFamilyParts}

-- what is known while the first terms are taken apart
pub record ArePartsTo (k : ℕ) (whole : Terms) (i : ℕ) (ps : List (CodeExp × Seen)) : Type 0 where
  pub family : family_of ps ++ sum_of (drop i whole) ≡ sum_of whole
  pub sorted : EveryPair (λ p p'. IsTrue (exp_before (exp_of p.0) (exp_of p'.0))) ps
  pub each : Every (λ p. IsCoefficient k p.1) ps
  pub before : Every (λ p. Every (λ t. IsTrue (exp_before (exp_of p.0) t.0.exp)) (sum_of (drop i whole))) ps

family_of-push : (ps : List (CodeExp × Seen)) (p : CodeExp × Seen) → family_of (ps ++ p ∷ []) ≡ family_of ps ++ at_exp (exp_of p.0) p.1.terms
family_of-push [] p = append-nil (at_exp (exp_of p.0) p.1.terms)
family_of-push (r ∷ ps) p = ap (λ f. at_exp (exp_of r.0) r.1.terms ++ f) (family_of-push ps p) ∙ sym (append_assoc (at_exp (exp_of r.0) r.1.terms) (family_of ps) (at_exp (exp_of p.0) p.1.terms))

-- the exponent is put back
with-exp : (r : Exp) (f : Sum) → Every (λ t. t.0.exp ≡ r) f → at_exp r (without_exp f) ≡ f
with-exp r [] h = refl
with-exp r (t ∷ f) h = λ i. (record { powers = t.0.powers; exp = sym h.0 i }, t.1) ∷ with-exp r f h.1 i

plain-exp : (f : Sum) → Every (λ t. t.0.exp ≡ origin) (without_exp f)
plain-exp [] = tt
plain-exp (t ∷ f) = (refl, plain-exp f)

-- a key with another exponent that is after one is after it by its exponent
after-exp : (k l : Key) → IsTrue (key_before k l) → (k.exp ≡ l.exp) ⊎ IsTrue (exp_before k.exp l.exp)
after-exp k l h = go (or-out (exp_before k.exp l.exp) (exp_eq k.exp l.exp && powers_before k.powers l.powers) h)
  where
    go : (exp_before k.exp l.exp ≡ true) ⊎ ((exp_eq k.exp l.exp && powers_before k.powers l.powers) ≡ true) → (k.exp ≡ l.exp) ⊎ IsTrue (exp_before k.exp l.exp)
    go (inl e) = inr e
    go (inr e) = inl (exp_eq-same k.exp l.exp (and-left (exp_eq k.exp l.exp) (powers_before k.powers l.powers) e))

-- what follows on a run has later exponents
later : (r : Exp) (t : Term) (f g : Sum) → t.0.exp ≡ r → EveryPair (λ t u. IsTrue (key_before t.0 u.0)) (t ∷ (f ++ g)) → Every (λ t. t.0.exp ≢ r) (take 1 g) → Every (λ u. IsTrue (exp_before r u.0.exp)) g
later r t f [] e h n = tt
later r t f (u ∷ g) e h n = (first, rest g (tail f h.1))
  where
    tail : (f : Sum) → EveryPair (λ t u. IsTrue (key_before t.0 u.0)) (f ++ u ∷ g) → Every (λ v. IsTrue (key_before u.0 v.0)) g
    tail [] h = h.0
    tail (v ∷ f) h = tail f h.1

    first : IsTrue (exp_before r u.0.exp)
    first = go (after-exp t.0 u.0 (Every-right (λ v. IsTrue (key_before t.0 v.0)) f (u ∷ g) h.0).0)
      where
        go : (t.0.exp ≡ u.0.exp) ⊎ IsTrue (exp_before t.0.exp u.0.exp) → IsTrue (exp_before r u.0.exp)
        go (inl s) = absurd (n.0 (sym s ∙ e))
        go (inr l) = subst (λ (y : Exp). IsTrue (exp_before y u.0.exp)) e l

    rest : (g : Sum) → Every (λ v. IsTrue (key_before u.0 v.0)) g → Every (λ v. IsTrue (exp_before r v.0.exp)) g
    rest [] k = tt
    rest (v ∷ g) k = (go (after-exp u.0 v.0 k.0), rest g k.1)
      where
        go : (u.0.exp ≡ v.0.exp) ⊎ IsTrue (exp_before u.0.exp v.0.exp) → IsTrue (exp_before r v.0.exp)
        go (inl s) = subst (λ (y : Exp). IsTrue (exp_before r y)) s first
        go (inr l) = exp_before-trans r u.0.exp v.0.exp first l

pub pairs-right : {A : Type 0} (R : A → A → Type 0) (xs ys : List A) → EveryPair R (xs ++ ys) → EveryPair R ys
pairs-right R [] ys h = h
pairs-right R (x ∷ xs) ys h = pairs-right R xs ys h.1

pub parts-none : (k : ℕ) (family : Terms) → ArePartsTo k family 0 []
parts-none k family = record { family = refl; sorted = tt; each = tt; before = tt }

pub parts-all : (k : ℕ) (family : Terms) (i : ℕ) (ps : List (CodeExp × Seen)) → drop i family ≡ [] → ArePartsTo k family i ps → AreFamilyParts k (sum_of family) ps
parts-all k family i ps e h = record {
  family = sym (ap (λ (ts : Terms). family_of ps ++ sum_of ts) e ∙ append-nil (family_of ps)) ∙ h.family;
  sorted = h.sorted;
  each = h.each;
}

-- one more run: f, after which g is left
module _ (k : ℕ) (family : Terms) (i : ℕ) (ps : List (CodeExp × Seen)) (series : IsSeries k (sum_of family)) (h : ArePartsTo k family i ps) where
  rises : EveryPair (λ t u. IsTrue (key_before t.0 u.0)) (sum_of (drop i family))
  rises = pairs-right (λ t u. IsTrue (key_before t.0 u.0)) (family_of ps) (sum_of (drop i family)) (subst (λ (f : Sum). EveryPair (λ t u. IsTrue (key_before t.0 u.0)) f) (sym h.family) series.rises)

  pub parts-more : (t : Term) (f g : Sum) (i' : ℕ) (r : CodeExp) (s : Seen) → sum_of (drop i family) ≡ t ∷ (f ++ g) → sum_of (drop i' family) ≡ g → t.0.exp ≡ exp_of r → Every (λ t. t.0.exp ≡ exp_of r) f → Every (λ t. t.0.exp ≢ exp_of r) (take 1 g)
      → IsSeriesPart k (t ∷ f) s → ArePartsTo k family i' (ps ++ (r, s) ∷ [])
  parts-more t f g i' r s split rest own same next part = record {
    family =
        ap (λ (x : Sum). x ++ sum_of (drop i' family)) (family_of-push ps (r, s))
        ∙ append_assoc (family_of ps) (at_exp (exp_of r) s.terms) (sum_of (drop i' family))
        ∙ ap (λ (x : Sum). family_of ps ++ x) (ap (λ (x : Sum). at_exp (exp_of r) x ++ sum_of (drop i' family)) part.1 ∙ ap (λ (x : Sum). x ++ sum_of (drop i' family)) (with-exp (exp_of r) (t ∷ f) (own, same)) ∙ ap (λ (x : Sum). (t ∷ f) ++ x) rest ∙ sym split)
        ∙ h.family;
    sorted = pairs-push (λ p p'. IsTrue (exp_before (exp_of p.0) (exp_of p'.0))) ps (r, s) h.sorted (heads ps h.before);
    each = Every-push (λ (p : CodeExp × Seen). IsCoefficient k p.1) ps (r, s) h.each record {
      order = part.0;
      plain = subst (λ (x : Sum). Every (λ t. t.0.exp ≡ origin) x) (sym part.1) (plain-exp (t ∷ f));
      some = λ e. not-none (sym part.1 ∙ e);
    };
    before = Every-push (λ (p : CodeExp × Seen). Every (λ t. IsTrue (exp_before (exp_of p.0) t.0.exp)) (sum_of (drop i' family))) ps (r, s)
        (tails ps h.before)
        (subst (λ (x : Sum). Every (λ u. IsTrue (exp_before (exp_of r) u.0.exp)) x) (sym rest)
        (later (exp_of r) t f g own (subst (λ (x : Sum). EveryPair (λ t u. IsTrue (key_before t.0 u.0)) x) split rises) next));
  }
    where
      not-none : without_exp (t ∷ f) ≡ [] → ⊥
      not-none e = cc

      heads : (ps : List (CodeExp × Seen)) → Every (λ p. Every (λ t. IsTrue (exp_before (exp_of p.0) t.0.exp)) (sum_of (drop i family))) ps → Every (λ p. IsTrue (exp_before (exp_of p.0) (exp_of r))) ps
      heads [] b = tt
      heads (p ∷ ps) b = (
        subst (λ (y : Exp). IsTrue (exp_before (exp_of p.0) y)) own (subst (λ (x : Sum). Every (λ t. IsTrue (exp_before (exp_of p.0) t.0.exp)) x) split b.0).0,
        heads ps b.1,
      )

      tails : (ps : List (CodeExp × Seen)) → Every (λ p. Every (λ t. IsTrue (exp_before (exp_of p.0) t.0.exp)) (sum_of (drop i family))) ps
          → Every (λ p. Every (λ t. IsTrue (exp_before (exp_of p.0) t.0.exp)) (sum_of (drop i' family))) ps
      tails [] b = tt
      tails (p ∷ ps) b = (
        subst (λ (x : Sum). Every (λ t. IsTrue (exp_before (exp_of p.0) t.0.exp)) x) (sym rest)
            (Every-right (λ t. IsTrue (exp_before (exp_of p.0) t.0.exp)) f g (subst (λ (x : Sum). Every (λ t. IsTrue (exp_before (exp_of p.0) t.0.exp)) x) split b.0).1),
        tails ps b.1,
      )

-- ---- one part

pub part-valid : (k : ℕ) (f : Sum) → k ≤ highest_order → IsSeries k f → Every (λ t. nat_abs t.1 ≤ largest_weight) f → HasOneExp f → IsValid k (without_exp f)
part-valid k f low series small same = record {
  order = low;
  series = record { rises = rises f series.rises same.1; nonzero = nonzero f series.nonzero; low = degrees f series.low };
  small = below f small;
}
  where
    before : (t u : Term) → IsTrue (key_before t.0 u.0) → t.0.exp ≡ same.0 → u.0.exp ≡ same.0
        → IsTrue (key_before (record { powers = t.0.powers; exp = origin }) (record { powers = u.0.powers; exp = origin }))
    before t u h e g = go (or-out (exp_before t.0.exp u.0.exp) (exp_eq t.0.exp u.0.exp && powers_before t.0.powers u.0.powers) h)
      where
        go : (exp_before t.0.exp u.0.exp ≡ true) ⊎ ((exp_eq t.0.exp u.0.exp && powers_before t.0.powers u.0.powers) ≡ true)
            → IsTrue (key_before (record { powers = t.0.powers; exp = origin }) (record { powers = u.0.powers; exp = origin }))
        go (inl l) =
            let x : exp_before same.0 same.0 ≡ true = subst (λ (y : Exp). exp_before y same.0 ≡ true) e (subst (λ (y : Exp). exp_before t.0.exp y ≡ true) g l) in
            absurd (exp_before-asym same.0 same.0 x x)
        go (inr l) = and-right (exp_eq t.0.exp u.0.exp) (powers_before t.0.powers u.0.powers) l

    one : (t : Term) (f : Sum) → Every (λ u. IsTrue (key_before t.0 u.0)) f → t.0.exp ≡ same.0 → Every (λ t. t.0.exp ≡ same.0) f
        → Every (λ u. IsTrue (key_before (record { powers = t.0.powers; exp = origin }) u.0)) (without_exp f)
    one t [] h e g = tt
    one t (u ∷ f) h e g = (before t u h.0 e g.0, one t f h.1 e g.1)

    rises : (f : Sum) → EveryPair (λ t u. IsTrue (key_before t.0 u.0)) f → Every (λ t. t.0.exp ≡ same.0) f → EveryPair (λ t u. IsTrue (key_before t.0 u.0)) (without_exp f)
    rises [] h g = tt
    rises (t ∷ f) h g = (one t f h.0 g.0 g.1, rises f h.1 g.1)

    nonzero : (f : Sum) → Every (λ t. t.1 ≢ pos 0) f → Every (λ t. t.1 ≢ pos 0) (without_exp f)
    nonzero [] h = tt
    nonzero (t ∷ f) h = (h.0, nonzero f h.1)

    degrees : (f : Sum) → Every (λ t. degree t.0 ≤ k) f → Every (λ t. degree t.0 ≤ k) (without_exp f)
    degrees [] h = tt
    degrees (t ∷ f) h = (h.0, degrees f h.1)

    below : (f : Sum) → Every (λ t. nat_abs t.1 ≤ largest_weight) f → Every (λ t. nat_abs t.1 < 2 ^ 127) (without_exp f)
    below [] h = tt
    below (t ∷ f) h = (let l = h.0 in omega (arith, l), below f h.1)
