-- The test of wall functions for worked examples says what it should.
use Rattle.std.proofs.Common.{◌≡◌, ◌≢◌, ℕ, ◌<◌, ◌≤◌, ◌^◌, ◌*◌, refl, sym, ap, subst, Bool, true, false, not, ◌&&◌, ◌||◌, [], ◌∷◌, arith, inl, inr}
use Rattle.std.specs.Prelude.{ℤ, pos, ◌≤ℤ◌, nat_abs, nat_le, nat_lt, IsTrue, Option, Some, IfSome}
use Rattle.std.specs.List.{list_all}
use Rattle.std.proofs.lemmas.Int.{ints}
use Rattle.scattering.specs.Collections.{In, Every, EveryPair}
use Rattle.scattering.specs.Series.{Exp, Term, Sum, int_eq, exp_eq, key_eq, key_before, unit, degree, coef, rest, scale, mass_to, IsSeries, IsMultiple}
use Rattle.scattering.proofs.Keys.{int_eq-same, exp_eq-same}
use Rattle.scattering.proofs.Lists.{and-left, and-right, any-some, Every-implies, all-every}
use Rattle.plane_theory.proofs.PlacesOnWalls.{zero-in}
use Rattle.trunc_series.specs.Shown.{Seen, IsTerm, IsSeriesOf}
use Rattle.trunc_series.proofs.Unique.{series-terms}
use Rattle.scattering.proofs.DistinctKeys.{HasDistinctKeys, rising-distinct}
use Rattle.scattering.proofs.Tests.{nat_le-yes}
use Rattle.plane_geom.specs.declared.Direction.{Direction}
use Rattle.plane_geom.specs.Shown.{vector_of}
use Rattle.scatter_diagram.specs.Proper.{IsProper, IsTame}
use Rattle.sample_walls.specs.LowFunctions.{is_low_multiple, is_low_term, are_rising, is_low_function}

pub rising : (f : Sum) → are_rising f ≡ true → EveryPair (λ (t u : Term). IsTrue (key_before t.0 u.0)) f
rising [] h = tt
rising (t ∷ f) h = (all-every (λ (u : Term). key_before t.0 u.0) (λ (u : Term). IsTrue (key_before t.0 u.0)) f (λ u e. e) (and-left (list_all (λ (u : Term). key_before t.0 u.0) f) _ h), rising f (and-right (list_all (λ (u : Term). key_before t.0 u.0) f) _ h))

record IsLow (n : ℕ) (d : Exp) (t : Term) : Type 0 where
  nonzero : t.1 ≢ pos 0
  small : nat_abs t.1 < 2 ^ 127
  low : degree t.0 ≤ n
  tame : IsTame t
  other : key_eq t.0 unit ≡ false → (1 ≤ degree t.0) × IsMultiple d t.0.exp

multiple : (d m : Exp) → is_low_multiple d m ≡ true → IsMultiple d m
multiple d m h = let r = any-some (λ j. exp_eq m (scale (pos j) d)) (1 ∷ 2 ∷ 3 ∷ 4 ∷ 64 ∷ []) h in (pos r.0, above r.0 r.1, exp_eq-same m (scale (pos r.0) d) r.2)
  where
    above : (j : ℕ) → In j (1 ∷ 2 ∷ 3 ∷ 4 ∷ 64 ∷ []) → pos 1 ≤ℤ pos j
    above j (inl e) = omega (arith, ints, e)
    above j (inr (inl e)) = omega (arith, ints, e)
    above j (inr (inr (inl e))) = omega (arith, ints, e)
    above j (inr (inr (inr (inl e)))) = omega (arith, ints, e)
    above j (inr (inr (inr (inr (inl e))))) = omega (arith, ints, e)
    above j (inr (inr (inr (inr (inr f))))) = absurd f

pub nonzero : (x : ℤ) → not (int_eq x (pos 0)) ≡ true → x ≢ pos 0
nonzero x e q = let z = zero-in x q in let y = ap not z in absurd (cc)

pub below : (x y : ℕ) → nat_lt x y ≡ true → x < y
below x y e = grind arith

low-term : (n : ℕ) (d : Exp) (t : Term) → is_low_term n d t ≡ true → IsLow n d t
low-term n d t h =
    let a = and-right (not (int_eq t.1 (pos 0))) _ h in
    let b = and-right (nat_lt (nat_abs t.1) (2 ^ 127)) _ a in
    let c = and-right (nat_le (degree t.0) n) _ b in
    let e = and-right (nat_le (nat_abs t.0.exp.a) (64 * degree t.0)) _ c in
    record {
      nonzero = nonzero t.1 (and-left (not (int_eq t.1 (pos 0))) _ h);
      small = below _ _ (and-left (nat_lt (nat_abs t.1) (2 ^ 127)) _ a);
      low = nat_le-yes _ _ (and-left (nat_le (degree t.0) n) _ b);
      tame = (nat_le-yes _ _ (and-left (nat_le (nat_abs t.0.exp.a) (64 * degree t.0)) _ c), nat_le-yes _ _ (and-left (nat_le (nat_abs t.0.exp.b) (64 * degree t.0)) _ e));
      other = other (key_eq t.0 unit) (and-right (nat_le (nat_abs t.0.exp.b) (64 * degree t.0)) _ e);
    }
  where
    other : (b : Bool) → (b || (nat_le 1 (degree t.0) && is_low_multiple d t.0.exp)) ≡ true → b ≡ false → (1 ≤ degree t.0) × IsMultiple d t.0.exp
    other true e f = absurd (cc)
    other false e f = (nat_le-yes _ _ (and-left (nat_le 1 (degree t.0)) _ e), multiple d t.0.exp (and-right (nat_le 1 (degree t.0)) _ e))

each-low : (n : ℕ) (d : Exp) (f : Sum) → is_low_function n d f ≡ true → Every (IsLow n d) f
each-low n d f h = all-every (is_low_term n d) (IsLow n d) f (low-term n d) (and-left (list_all (is_low_term n d) f) _ (and-right (are_rising f) _ h))

others : (n : ℕ) (d : Exp) (f : Sum) → Every (IsLow n d) f → Every (λ (t : Term). (1 ≤ degree t.0) × IsMultiple d t.0.exp) (rest f)
others n d [] h = tt
others n d (t ∷ f) h = go (key_eq t.0 unit) refl (others n d f h.1)
  where
    go : (b : Bool) → key_eq t.0 unit ≡ b → Every (λ (t : Term). (1 ≤ degree t.0) × IsMultiple d t.0.exp) (rest f) → Every (λ (t : Term). (1 ≤ degree t.0) × IsMultiple d t.0.exp) (rest (t ∷ f))
    go true e i = rw e i
    go false e i = rw e (h.0.other e, i)

pub low-series : (n : ℕ) (d : Exp) (f : Sum) → IsTrue (is_low_function n d f) → IsSeries n f
low-series n d f h = record {
  rises = rising f (and-left (are_rising f) _ h);
  nonzero = Every-implies (IsLow n d) (λ (t : Term). t.1 ≢ pos 0) f (λ t l. l.nonzero) (each-low n d f h);
  low = Every-implies (IsLow n d) (λ (t : Term). degree t.0 ≤ n) f (λ t l. l.low) (each-low n d f h);
}

pub low-terms : (n : ℕ) (d : Exp) (f : Sum) → IsTrue (is_low_function n d f) → Every (IsTerm n) f
low-terms n d f h = Every-implies (IsLow n d) (IsTerm n) f (λ t l. (l.nonzero, l.small, l.low)) (each-low n d f h)

pub low-distinct : (n : ℕ) (d : Exp) (f : Sum) → IsTrue (is_low_function n d f) → HasDistinctKeys f
low-distinct n d f h = rising-distinct f (rising f (and-left (are_rising f) _ h))

pub low-proper : (d : Direction) (n : ℕ) (f : Sum) → IsTrue (is_low_function n (vector_of d) f) → IsProper d (record { order = n; terms = f })
low-proper d n f h =
    let a = and-right (list_all (is_low_term n (vector_of d)) f) _ (and-right (are_rising f) _ h) in
    record {
      function = record { series = low-series n (vector_of d) f h; constant = int_eq-same (coef f unit) (pos 1) (and-left (int_eq (coef f unit) (pos 1)) _ a); others = others n (vector_of d) f (each-low n (vector_of d) f h) };
      mass = nat_le-yes (mass_to n f) (2 ^ 127) (and-right (int_eq (coef f unit) (pos 1)) _ a);
      tame = Every-implies (IsLow n (vector_of d)) IsTame f (λ t l. l.tame) (each-low n (vector_of d) f h);
    }

-- the same of a direction and a series that were made of these numbers and terms
pub low-made : (d : Direction) (e : Exp) (n : ℕ) (f : Sum) (s : Seen) → vector_of d ≡ e → IsTrue (is_low_function n e f) → IsSeriesOf s n f → IsProper d s
low-made d e n f s q h k =
    let t = series-terms s n n f k (low-series n e f h) in
    subst (IsProper d) (λ i. record { order = sym k.order i; terms = sym t i }) (low-proper d n f (subst (λ (u : Exp). IsTrue (is_low_function n u f)) (sym q) h))

pub low-direction : (o : Option Direction) (d : Direction) (e : Exp) → o ≡ Some d → IfSome o (λ x. vector_of x ≡ e) → vector_of d ≡ e
low-direction o d e q h = subst (λ (p : Option Direction). IfSome p (λ x. vector_of x ≡ e)) q h
