-- What the rays at a point add, read by start and direction.
use Rattle.std.proofs.Common.{◌≡◌, ℕ, suc, refl, subst, sym, ◌∙◌, ap, List, [], ◌∷◌, Bool, true, false, cond, not, ◌≤◌, ◌+◌, arith}
use Rattle.std.specs.Prelude.{ℤ, pos, ◌&&◌, nat_le, ◌*ℤ◌, ◌+ℤ◌, ◌-ℤ◌, neg_ℤ}
use Rattle.std.proofs.lemmas.Int.{ints}
use Rattle.sum_algebra.proofs.Ring.{var, plus, times, minus, nought, ring}
use Rattle.sum_algebra.proofs.Ring as E
use Rattle.sum_algebra.proofs.IntegerRing.{ints_ring, ◌:+◌, ◌:*◌, ◌:-◌, X, Y, Z}
use Rattle.sum_algebra.proofs.Sums.{pair, pair-ext}
use Rattle.sum_algebra.proofs.Coefficients.{indicator}
use Rattle.scattering.specs.Collections.{Every}
use Rattle.scattering.specs.Series.{Key, Sum, Exp, Powers, Term, degree, rest, cut, coef, key_eq, key_mul, exp_sub, exp_add, powers_add, scale, origin, z, det, exp_eq, IsSeries, IsMultiple}
use Rattle.scattering.specs.Series as D
use Rattle.scattering.specs.Plane.{Point, point_eq, IsDirection}
use Rattle.scattering.specs.Wall.{WallKind, Outgoing, Wall, starts_at, is_line}
use Rattle.scattering.specs.ActivePoint.{is_incoming}
use Rattle.scattering.specs.Correction.{ray_coef}
use Rattle.scattering.proofs.Pairing.{coef-append}
use Rattle.scattering.proofs.Lists.{bool_iff, Every-implies}
use Rattle.scattering.proofs.Keys.{key_eq-same, key_eq-refl, exp_eq-same}
use Rattle.plane_theory.proofs.Directions.{same-direction}
use Rattle.crossing_theory.proofs.Translation.{key_test, coef-is}
use Rattle.crossing_theory.proofs.HalfWalls.{Proper, half}
use Rattle.crossing_theory.proofs.AddedTerms.{gain, pair-extra, start_side}
use Rattle.crossing_theory.proofs.CutFunctions.{one_le, added, base, tops, above}

-- x divided by z^m
abbrev pub less : Key → Exp → Key
less x m = record { powers = x.powers; exp = exp_sub x.exp m }

powers-less : (p : Powers) → powers_add D.no_powers p ≡ p
powers-less p =
    let a : 0 + p.t1 ≡ p.t1 = omega arith in let b : 0 + p.t2 ≡ p.t2 = omega arith in let c : 0 + p.t3 ≡ p.t3 = omega arith in let d : 0 + p.t4 ≡ p.t4 = omega arith in
    let e : 0 + p.t5 ≡ p.t5 = omega arith in let f : 0 + p.t6 ≡ p.t6 = omega arith in let g : 0 + p.t7 ≡ p.t7 = omega arith in let h : 0 + p.t8 ≡ p.t8 = omega arith in
    λ i. record { t1 = a i; t2 = b i; t3 = c i; t4 = d i; t5 = e i; t6 = f i; t7 = g i; t8 = h i }

back : (m : ℤ) (x : ℤ) → m +ℤ (x -ℤ m) ≡ x
back m x = ring ints_ring (m ∷ x ∷ []) (X :+ (Y :- X)) Y refl

forth : (m : ℤ) (x : ℤ) → (m +ℤ x) -ℤ m ≡ x
forth m x = ring ints_ring (m ∷ x ∷ []) ((X :+ Y) :- X) Y refl

pub less-back : (x : Key) (m : Exp) → key_mul (z m) (less x m) ≡ x
less-back x m = λ i. record { powers = powers-less x.powers i; exp = record { a = back m.a x.exp.a i; b = back m.b x.exp.b i } }

pub less-forth : (y : Key) (m : Exp) → less (key_mul (z m) y) m ≡ y
less-forth y m = λ i. record { powers = powers-less y.powers i; exp = record { a = forth m.a y.exp.a i; b = forth m.b y.exp.b i } }

pub moved-test : (x y : Key) (m : Exp) → key_eq (key_mul (z m) y) x ≡ key_eq y (less x m)
moved-test x y m =
    bool_iff _ _
    (λ e. let q : y ≡ less x m = sym (less-forth y m) ∙ ap (λ (k : Key). less k m) (key_eq-same (key_mul (z m) y) x e) in subst (λ (k : Key). key_eq y k ≡ true) q (key_eq-refl y))
    (λ e. let q : key_mul (z m) y ≡ x = ap (λ (k : Key). key_mul (z m) k) (key_eq-same y (less x m) e) ∙ less-back x m in subst (λ (k : Key). key_eq (key_mul (z m) y) k ≡ true) q (key_eq-refl (key_mul (z m) y)))

moved-coef : (x : Key) (m : Exp) (f : Sum) → pair (λ y. indicator key_test x (key_mul (z m) y)) f ≡ coef f (less x m)
moved-coef x m f = pair-ext _ _ f (λ y. ap (λ (b : Bool). cond b (pos 1) (pos 0)) (moved-test x y m)) ∙ sym (coef-is f (less x m))

module _ (n : ℕ) where
  pub coef-gain : (m : Exp) (w : Wall) → w.kind ≡ Outgoing → (x : Key) → coef (gain (suc n) (one_le n) (base n) (tops n) m w) x ≡ det w.dir m *ℤ coef (tops n w) (less x m)
  coef-gain m w k x =
      coef-is (gain (suc n) (one_le n) (base n) (tops n) m w) x
      ∙ pair-extra (suc n) (one_le n) (base n) (tops n) m (indicator key_test x) (half w (start_side w.kind))
      ∙ ap (λ (q : WallKind). neg_ℤ (start_side q) *ℤ det w.dir m *ℤ pair (λ y. indicator key_test x (key_mul (z m) y)) (tops n w)) k
      ∙ rw (moved-coef x m (tops n w)) (ring ints_ring (det w.dir m ∷ coef (tops n w) (less x m) ∷ []) (E.unit :* X :* Y) (X :* Y) refl)

  -- the terms above n, at a key above n
  pub coef-above : (f : Sum) (k : Key) → suc n ≤ degree k → coef (above n f) k ≡ coef (rest f) k
  coef-above [] k le = refl
  coef-above (t ∷ f) k le = go (key_eq t.0 k) refl (nat_le (degree t.0) n) refl (key_eq t.0 D.unit) refl (coef-above f k le)
    where
      low : (d e : ℕ) → d ≡ e → suc n ≤ d → nat_le e n ≡ true → ⊥
      low d e p l q = grind arith

      go : (a : Bool) → key_eq t.0 k ≡ a → (b : Bool) → nat_le (degree t.0) n ≡ b → (c : Bool) → key_eq t.0 D.unit ≡ c → coef (above n f) k ≡ coef (rest f) k → coef (above n (t ∷ f)) k ≡ coef (rest (t ∷ f)) k
      go true e true q c r h = absurd (low (degree k) (degree t.0) (ap degree (sym (key_eq-same t.0 k e))) le q)
      go true e false q true r h = let d : 0 ≡ degree k = ap degree (sym (key_eq-same t.0 D.unit r)) ∙ ap degree (key_eq-same t.0 k e) in absurd (omega (arith, d, le))
      go true e false q false r h = rw (q, r) (rw e (ap (λ s. t.1 +ℤ s) h))
      go false e true q true r h = rw (q, r) h
      go false e true q false r h = rw (q, r) (rw e (h ∙ ring ints_ring (coef (rest f) k ∷ []) X (nought :+ X) refl))
      go false e false q true r h = rw (q, r) (rw e (ring ints_ring (coef (above n f) k ∷ []) (nought :+ X) X refl ∙ h))
      go false e false q false r h = rw (q, r) (rw e (ap (λ s. pos 0 +ℤ s) h))

  -- a ray's terms stand at positive multiples of its direction
  coef-other : (d e : Exp) → IsDirection d → IsDirection e → exp_eq d e ≡ false → (k : Key) → IsMultiple e k.exp → (f : Sum) → Every (λ t. IsMultiple d t.0.exp) f → coef f k ≡ pos 0
  coef-other d e hd he apart k mk [] h = refl
  coef-other d e hd he apart k mk (t ∷ f) h = go (key_eq t.0 k) refl (coef-other d e hd he apart k mk f h.1)
    where
      refl-exp : (d e : Exp) → d ≡ e → exp_eq d e ≡ true
      refl-exp d e p = subst (λ (x : Exp). exp_eq d x ≡ true) p (self d)
        where
          self : (d : Exp) → exp_eq d d ≡ true
          self d = grind (arith, ints)

      go : (b : Bool) → key_eq t.0 k ≡ b → coef f k ≡ pos 0 → coef (t ∷ f) k ≡ pos 0
      go true q r =
          let s : t.0.exp ≡ k.exp = ap (λ (x : Key). x.exp) (key_eq-same t.0 k q) in
          let same : d ≡ e = same-direction d e hd he h.0.0 mk.0 h.0.1 mk.1 (sym h.0.2 ∙ s ∙ mk.2) in
          let y : exp_eq d e ≡ true = refl-exp d e same in absurd (cc)
      go false q r = rw q (rw r refl)

  pub tops-coef : (r : Wall) → r.kind ≡ Outgoing → (k : Key) → suc n ≤ degree k → coef (tops n r) k ≡ coef (rest r.function) k
  tops-coef r o k le = ap (λ (q : WallKind). coef (cond (is_incoming q) [] (above n r.function)) k) o ∙ coef-above r.function k le

  pub starts-is : (r : Wall) (p : Point) → r.kind ≡ Outgoing → starts_at r p ≡ point_eq r.at p
  starts-is r p o = ap (λ (q : WallKind). not (is_line q) && point_eq r.at p) o

  one-ray : (m : Exp) (p : Point) (d : Exp) (k : Key) → IsDirection d → IsMultiple d k.exp → suc n ≤ degree k → (x : Key) → less x m ≡ k → (r : Wall) → r.kind ≡ Outgoing → IsDirection r.dir → Proper r
      → coef (cond (starts_at r p) (gain (suc n) (one_le n) (base n) (tops n) m r) []) x ≡ det d m *ℤ cond (point_eq r.at p && exp_eq r.dir d) (coef (rest r.function) k) (pos 0)
  one-ray m p d k hd mk le x e r o hr pr =
      ap (λ (b : Bool). coef (cond b (gain (suc n) (one_le n) (base n) (tops n) m r) []) x) (starts-is r p o) ∙ go (point_eq r.at p) (exp_eq r.dir d) refl
    where
      value : coef (gain (suc n) (one_le n) (base n) (tops n) m r) x ≡ det r.dir m *ℤ coef (rest r.function) k
      value = coef-gain m r o x ∙ ap (λ (y : Key). det r.dir m *ℤ coef (tops n r) y) e ∙ ap (λ c. det r.dir m *ℤ c) (tops-coef r o k le)

      go : (a b : Bool) → exp_eq r.dir d ≡ b → coef (cond a (gain (suc n) (one_le n) (base n) (tops n) m r) []) x ≡ det d m *ℤ cond (a && b) (coef (rest r.function) k) (pos 0)
      go false b q = ring ints_ring (det d m ∷ []) nought (X :* nought) refl
      go true true q = value ∙ ap (λ (c : Exp). det c m *ℤ coef (rest r.function) k) (exp_eq-same r.dir d q)
      go true false q =
          value ∙ rw (coef-other r.dir d hr hd q k mk (rest r.function) (Every-implies _ (λ t. IsMultiple r.dir t.0.exp) _ (λ t u. u.1) pr.others))
          (ring ints_ring (det d m ∷ det r.dir m ∷ []) (Y :* nought) (X :* nought) refl)

  -- the rays at p add to z^m at k·z^m their coefficient at k, times the determinant
  pub ray-gains : (m : Exp) (p : Point) (d : Exp) (k : Key) → IsDirection d → IsMultiple d k.exp → suc n ≤ degree k → (x : Key) → less x m ≡ k
      → (rays : List Wall) → Every (λ r. (r.kind ≡ Outgoing) × IsDirection r.dir × Proper r) rays
      → coef (added n m p rays) x ≡ det d m *ℤ ray_coef rays p d k
  ray-gains m p d k hd mk le x e [] h = ring ints_ring (det d m ∷ []) nought (X :* nought) refl
  ray-gains m p d k hd mk le x e (r ∷ rays) h =
      coef-append (cond (starts_at r p) (gain (suc n) (one_le n) (base n) (tops n) m r) []) (added n m p rays) x
      ∙ rw (one-ray m p d k hd mk le x e r h.0.0 h.0.1 h.0.2, ray-gains m p d k hd mk le x e rays h.1)
      (ring ints_ring (det d m ∷ cond (point_eq r.at p && exp_eq r.dir d) (coef (rest r.function) k) (pos 0) ∷ ray_coef rays p d k ∷ []) (X :* Y :+ X :* Z) (X :* (Y :+ Z)) refl)
