-- At a passive point all crossings commute, so a diagram without live starts there is consistent there.
use Rattle.std.proofs.Common.{◌≡◌, ℕ, refl, List, [], ◌∷◌, Bool, true, false, ◌≤◌, ◌+◌, ◌-◌, arith}
use Rattle.std.specs.Prelude.{ℤ, pos, flat_map, nat_le}
use Rattle.std.specs.List.{list_any}
use native.Mathlib.Decide.{dec_le}
use Rattle.scattering.specs.Collections.{In, Every, EveryPair}
use Rattle.scattering.specs.Series.{Sum, Exp, Term, degree, rest, det, z, monomial}
use Rattle.scattering.specs.Plane.{Point, turns_before}
use Rattle.scattering.specs.Wall.{Wall, is_on, crosses_to, are_parallel}
use Rattle.scattering.specs.LocalProduct.{Half, along, carry, halves, image}
use Rattle.scattering.proofs.Lists.{Every-flat_map, pairs-all, any-weaken, Every-from_In, Every-at, or-left, or-right, Every-implies}
use Rattle.scattering.proofs.Keys.{int_eq-same}
use Rattle.scattering.proofs.Tests.{nat_le-not, nat_le-no}
use Rattle.crossing_theory.proofs.Translation.{Eq, Eq-trans}
use Rattle.crossing_theory.proofs.HalfWalls.{Proper, Commutes, half, half-parallel, half-high, small}
use Rattle.crossing_theory.proofs.Carrying.{halves-of, proper-halves, carry-in_order, carry-passes, Passes}

-- ---- tests on lists

-- ---- two walls whose least degrees sum to more than k

pub record Degrees (k : ℕ) (f g : Sum) : Type 0 where
  pub c : ℕ
  pub d : ℕ
  pub c_low : c ≤ k
  pub d_low : d ≤ k
  pub enough : k ≤ c + d + 1
  pub f_high : list_any (λ (t : Term). nat_le (degree t.0) c) f ≡ false
  pub g_high : list_any (λ (t : Term). nat_le (degree t.0) d) g ≡ false

pub positive : (g : Sum) → Every (λ t. 1 ≤ degree t.0) g → list_any (λ (t : Term). nat_le (degree t.0) 0) g ≡ false
positive [] h = refl
positive (t ∷ g) h = rw (nat_le-not (degree t.0) 0 h.0, positive g h.1) refl

degrees : (k : ℕ) (f g : Sum) → Every (λ t. 1 ≤ degree t.0) f → Every (λ t. 1 ≤ degree t.0) g
    → list_any (λ (s : Term). list_any (λ (t : Term). nat_le (degree s.0 + degree t.0) k) g) f ≡ false → Degrees k f g
degrees k [] g hf hg e = record { c = k; d = 0; c_low = omega arith; d_low = omega arith; enough = omega arith; f_high = refl; g_high = positive g hg }
degrees k (s ∷ f) g hf hg e = go (degrees k f g hf.1 hg (or-right _ _ e)) (or-left _ _ e)
  where
    go : Degrees k f g → list_any (λ (t : Term). nat_le (degree s.0 + degree t.0) k) g ≡ false → Degrees k (s ∷ f) g
    go r h = elim (dec_le (degree s.0) r.c) [
      | yes le ↦ record {
        c = degree s.0 - 1;
        d = k - degree s.0;
        c_low = let l = r.c_low in omega arith;
        d_low = omega arith;
        enough = let l = r.c_low in let m : 1 ≤ degree s.0 = hf.0 in omega arith;
        f_high = rw (nat_le-not (degree s.0) (degree s.0 - 1) (let m : 1 ≤ degree s.0 = hf.0 in omega arith))
            (any-weaken _ _ f (λ t q. nat_le-not (degree t.0) (degree s.0 - 1) (let m = nat_le-no (degree t.0) r.c q in omega (arith, le, m))) r.f_high);
        g_high = any-weaken _ _ g (λ t q. nat_le-not (degree t.0) (k - degree s.0) (let m = nat_le-no (degree s.0 + degree t.0) k q in let l = r.c_low in omega (arith, le, m))) h;
      }
      | no above ↦ record {
        c = r.c;
        d = r.d;
        c_low = r.c_low;
        d_low = r.d_low;
        enough = r.enough;
        g_high = r.g_high;
        f_high = rw (nat_le-not (degree s.0) r.c (omega (arith, above))) r.f_high;
      }
    ]

pub crosses-commute : (k : ℕ) (g h : Half) → Proper g.wall → Proper h.wall → crosses_to k g.wall h.wall ≡ false → Commutes k g h
crosses-commute k g h p q e = go (are_parallel g.wall h.wall) refl
  where
    go : (b : Bool) → are_parallel g.wall h.wall ≡ b → Commutes k g h
    go true r = half-parallel k g h p q (int_eq-same (det g.wall.dir h.wall.dir) (pos 0) r)
    go false r =
        let d = degrees k (rest g.wall.function) (rest h.wall.function) (Every-implies _ (λ t. 1 ≤ degree t.0) _ (λ t u. u.0) p.others) (Every-implies _ (λ t. 1 ≤ degree t.0) _ (λ t u. u.0) q.others) (rw r at e) in
        half-high k g h p q d.c d.d (small d.c g.wall p d.f_high) (small d.d h.wall q d.g_high) d.c_low d.d_low d.enough

-- any two walls on p that cross have degrees that sum to more than k
pub record Quiet (k : ℕ) (ws : List Wall) (p : Point) : Type 0 where
  pub quiet : (u v : Wall) → In u ws → In v ws → is_on u p ≡ true → is_on v p ≡ true → crosses_to k u v ≡ false

pub halves-on : (P : Half → Type 0) (p : Point) (w : Wall) → (is_on w p ≡ true → (s : ℤ) → P (half w s)) → Every P (halves p w)
halves-on P p w h = go (is_on w p) refl
  where
    go : (b : Bool) → is_on w p ≡ b → Every P (halves p w)
    go true e = halves-of P p w (h e)
    go false e = rw e tt

pub halves-commute : (k : ℕ) (ws : List Wall) (p : Point) → Every Proper ws → Quiet k ws p → EveryPair (Commutes k) (flat_map (halves p) ws)
halves-commute k ws p h q =
    pairs-all (λ (g : Half). In g.wall ws × Proper g.wall × (is_on g.wall p ≡ true)) (Commutes k) (flat_map (halves p) ws)
    (λ g l i j. crosses-commute k g l i.1 j.1 (q.quiet g.wall l.wall i.0 j.0 i.2 j.2))
    (Every-flat_map (λ w. In w ws × Proper w) _ (halves p) ws (λ w i. halves-on _ p w (λ e s. (i.0, i.1, e))) (Every-from_In _ ws (λ w i. (i, Every-at Proper ws w h i))))

-- a passive point where no live wall starts
pub passive : (k : ℕ) (ws : List Wall) (p : Point) → Every (Passes k p) ws → Quiet k ws p → (m : Exp) → Eq k (image ws p k m) (monomial (z m))
passive k ws p h q m =
    let pr : Every Proper ws = Every-implies _ Proper ws (λ w (r : Passes k p w). r.0) h in
    Eq-trans k _ (carry k (flat_map (halves p) ws) (monomial (z m))) _
    (carry-in_order k (λ g h. turns_before (along g) (along h)) (flat_map (halves p) ws) (proper-halves p ws pr) (halves-commute k ws p pr q) (monomial (z m)))
    (carry-passes k p ws h (monomial (z m)))
