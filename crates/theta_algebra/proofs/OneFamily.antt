-- A family is one list of series: its series at each exponent can be read off its sum.
use Rattle.std.proofs.Common.{◌≡◌, ◌≢◌, ℕ, refl, sym, ap, subst, ◌∙◌, List, [], ◌∷◌, ◌++◌}
use Rattle.std.specs.Prelude.{IsTrue}
use Rattle.scattering.specs.Collections.{Every, EveryPair}
use Rattle.scattering.specs.Series.{Exp, Sum, Term, origin, exp_before}
use Rattle.scattering.proofs.StrictOrders.{exp_before-asym}
use Rattle.scattering.proofs.Lists.{Every-append}
use Rattle.trunc_series.specs.Shown.{exp_of, Seen}
use Rattle.trunc_series.specs.declared.key.Exp.{Exp as CodeExp}
use Rattle.theta_algebra.specs.Families.{family_of, at_exp, IsCoefficient}
use Rattle.theta_algebra.specs.Parts.{without_exp}

-- ---- a run at one exponent, and what follows on it

at-one : (r : Exp) (f : Sum) → Every (λ t. t.0.exp ≡ r) (at_exp r f)
at-one r [] = tt
at-one r (t ∷ f) = (refl, at-one r f)

at-other : (r s : Exp) → s ≢ r → (f : Sum) → Every (λ t. t.0.exp ≢ r) (at_exp s f)
at-other r s h [] = tt
at-other r s h (t ∷ f) = (h, at-other r s h f)

later-other : (r : Exp) (ps : List (CodeExp × Seen)) → Every (λ p. IsTrue (exp_before r (exp_of p.0))) ps → Every (λ t. t.0.exp ≢ r) (family_of ps)
later-other r [] h = tt
later-other r (p ∷ ps) h = Every-append (λ t. t.0.exp ≢ r) (at_exp (exp_of p.0) p.1.terms) (family_of ps) (at-other r (exp_of p.0) differs p.1.terms) (later-other r ps h.1)
  where
    differs : exp_of p.0 ≢ r
    differs e = let l = subst (λ (s : Exp). IsTrue (exp_before r s)) e h.0 in exp_before-asym r r l l

record Split (f f' g g' : Sum) : Type 0 where
  front : f ≡ f'
  back : g ≡ g'

no-front : (r : Exp) (t : Term) (f g : Sum) → t.0.exp ≡ r → Every (λ t. t.0.exp ≢ r) g → g ≡ t ∷ f → ⊥
no-front r t f [] a h e = cc
no-front r t f (u ∷ g) a h e = let s : u ≡ t = cc in h.0 (ap (λ (v : Term). v.0.exp) s ∙ a)

split : (r : Exp) (f f' g g' : Sum) → Every (λ t. t.0.exp ≡ r) f → Every (λ t. t.0.exp ≡ r) f' → Every (λ t. t.0.exp ≢ r) g → Every (λ t. t.0.exp ≢ r) g' → f ++ g ≡ f' ++ g' → Split f f' g g'
split r [] [] g g' a a' h h' e = record { front = refl; back = e }
split r [] (t ∷ f') g g' a a' h h' e = absurd (no-front r t (f' ++ g') g a'.0 h e)
split r (t ∷ f) [] g g' a a' h h' e = absurd (no-front r t (f ++ g) g' a.0 h' (sym e))
split r (t ∷ f) (u ∷ f') g g' a a' h h' e =
    let first : t ≡ u = cc in
    let rest : f ++ g ≡ f' ++ g' = cc in
    let s = split r f f' g g' a.1 a'.1 h h' rest in
    let front = s.front in record { front = λ i. first i ∷ front i; back = s.back }

-- ---- the exponent taken away

plain-again : (r : Exp) (f : Sum) → Every (λ t. t.0.exp ≡ origin) f → without_exp (at_exp r f) ≡ f
plain-again r [] h = refl
plain-again r (t ∷ f) h = let e = h.0 in let more = plain-again r f h.1 in λ i. (record { powers = t.0.powers; exp = sym e i }, t.1) ∷ more i

same-exponent : (r s : Exp) (f f' g g' : Sum) → f ≢ [] → f' ≢ [] → at_exp r f ++ g ≡ at_exp s f' ++ g' → r ≡ s
same-exponent r s [] f' g g' h h' e = absurd (h refl)
same-exponent r s (t ∷ f) [] g g' h h' e = absurd (h' refl)
same-exponent r s (t ∷ f) (u ∷ f') g g' h h' e = ap (λ (k : Sum). exp_at k) e
  where
    exp_at : Sum → Exp
    exp_at [] = origin
    exp_at (v ∷ k) = v.0.exp

not-empty : (r : Exp) (f g : Sum) → f ≢ [] → at_exp r f ++ g ≡ [] → ⊥
not-empty r [] g h e = h refl
not-empty r (t ∷ f) g h e = cc

pub parts-one : (k : ℕ) (ps qs : List (CodeExp × Seen)) → EveryPair (λ p p'. IsTrue (exp_before (exp_of p.0) (exp_of p'.0))) ps → EveryPair (λ p p'. IsTrue (exp_before (exp_of p.0) (exp_of p'.0))) qs
    → Every (λ p. IsCoefficient k p.1) ps → Every (λ p. IsCoefficient k p.1) qs → family_of ps ≡ family_of qs → ps ≡ qs
parts-one k [] [] a b h j e = refl
parts-one k [] (q ∷ qs) a b h j e = absurd (not-empty (exp_of q.0) q.1.terms (family_of qs) j.0.some (sym e))
parts-one k (p ∷ ps) [] a b h j e = absurd (not-empty (exp_of p.0) p.1.terms (family_of ps) h.0.some e)
parts-one k (p ∷ ps) (q ∷ qs) a b h j e =
    let x : exp_of p.0 ≡ exp_of q.0 = same-exponent (exp_of p.0) (exp_of q.0) p.1.terms q.1.terms (family_of ps) (family_of qs) h.0.some j.0.some e in
    let r = exp_of p.0 in
    let others : Every (λ t. t.0.exp ≢ r) (family_of qs) = subst (λ (s : Exp). Every (λ t. t.0.exp ≢ s) (family_of qs)) (sym x) (later-other (exp_of q.0) qs b.0) in
    let both : at_exp r p.1.terms ++ family_of ps ≡ at_exp r q.1.terms ++ family_of qs = subst (λ (s : Exp). at_exp r p.1.terms ++ family_of ps ≡ at_exp s q.1.terms ++ family_of qs) (sym x) e in
    let s = split r (at_exp r p.1.terms) (at_exp r q.1.terms) (family_of ps) (family_of qs) (at-one r p.1.terms) (at-one r q.1.terms) (later-other r ps a.0) others both in
    let terms : p.1.terms ≡ q.1.terms = sym (plain-again r p.1.terms h.0.plain) ∙ ap without_exp s.front ∙ plain-again r q.1.terms j.0.plain in
    let orders : p.1.order ≡ q.1.order = h.0.order ∙ sym j.0.order in
    let more : ps ≡ qs = parts-one k ps qs a.1 b.1 h.1 j.1 s.back in
    λ i. (record { a = (x i).a; b = (x i).b }, record { order = orders i; terms = terms i }) ∷ more i
