-- |F|^n as it is kept: products and powers of majorants, cut to a lower degree, and the masses that they tell.
use Rattle.std.proofs.Common.{◌≡◌, ℕ, zero, suc, ◌+◌, ◌*◌, ◌<◌, ◌≤◌, ◌^◌, refl, sym, ap, subst, ◌∙◌, Bool, true, false, cond, List, [], ◌∷◌, ◌++◌, map, length, get_or, take, drop, ◌-◌, min, arith, zero-add}
use Rattle.std.specs.Prelude.{ℤ, pos, ◌+ℤ◌, ◌*ℤ◌, nat_abs, nat_le, not}
use Rattle.std.specs.Int.{int_min}
use Rattle.std.proofs.lemmas.Int.{ints}
use Rattle.std.proofs.Math.Decide.{dec_le}
use Rattle.std.proofs.Math.Seq.{drop-cons}
use Rattle.scattering.specs.Collections.{In, Every}
use Rattle.scattering.specs.Series.{Exp, Key, Term, Sum, Same, SameTo, degree, key_eq, unit, det, coef, one, cut, mul, pow, absolute, rest, term_mul, mass_to, IsSeries}
use Rattle.scattering.specs.Plane.{Point}
use Rattle.scattering.specs.Wall.{Wall}
use Rattle.scattering.specs.BrokenLine.{live_on, product, across, bend_majorant}
use Rattle.scattering.proofs.Lists.{Every-filter, Every-from_In, filter-from, Every-at, pairs-filter}
use Rattle.scattering.proofs.Keys.{key_eq-refl, same-exp, same-powers}
use Rattle.scattering.proofs.Coefficients.{coef-cut, coef-above, low-cut, cut-cut}
use Rattle.scattering.proofs.Pairing.{pairing, pairing-same}
use Rattle.scattering.proofs.ShiftedSums.{degree-mul}
use Rattle.crossing_theory.proofs.LiveWalls.{filter-append}
use Rattle.broken_line_theory.proofs.Terms.{IsKept, AllKeys, all-product, all-absolute}
use Rattle.trunc_series.specs.declared.arithmetic.Arithmetic.TheVariants.{Saturating}
use Rattle.trunc_series.specs.Shown.{Seen, HasNearTerms, IsSeriesOf}
use Rattle.trunc_series.specs.Arithmetic.{limit}
use Rattle.trunc_series.specs.Capped.{IsMajorant, IsMajorantOf}
use Rattle.trunc_series.proofs.Coefficients.{abs-add}
use Rattle.trunc_series.proofs.Merging.{Keepable, whole}
use Rattle.trunc_series.proofs.Rows.{mul-keepable}
use Rattle.trunc_series.proofs.Congruence.{mul-comm, product-reduced}
use Rattle.trunc_series.proofs.PowerLaws.{mul-same_to, pow-low, pow-keepable, reduced-keys, one-reduced}
use Rattle.trunc_series.proofs.Majorants.{reduced-capped}
use Rattle.trunc_series.proofs.MajorantLaws.{reduced-of, absolute-positive, majorant-mass}
use Rattle.scatter_diagram.specs.Proper.{AreTameWalls}
use Rattle.scatter_diagram.specs.Shown.{wall_of, walls_of}
use Rattle.scatter_diagram.specs.declared.wall.Wall.{Wall as CodeWall}
use Rattle.scatter_diagram.specs.Listed.{AreOfOrder}
use Rattle.scatter_diagram.proofs.Walls.{are-tame, function-cut}
use Rattle.plane_geom.specs.Shown.{vector_of}
use Rattle.joint_finder.proofs.Lists.{In-get}
use Rattle.bend_finder.specs.Special.{live_holds}
use Rattle.bend_finder.specs.Powers.{AreAtLeast, functions_on, IsMultiplied, power_majorant}

-- ---- majorants of products and powers

pub majorant-same : (n : ℕ) (m : Seen) (f g : Sum) → Same f g → IsMajorantOf m n f → IsMajorantOf m n g
majorant-same n m f g s h = record { order = h.order; series = h.series; capped = λ k. h.capped k ∙ ap (λ c. int_min c limit) (s k) }

pub majorant-product : (n : ℕ) (f g : Sum) (a b p : Seen) → Keepable Saturating f → Keepable Saturating g → IsMajorantOf a n f → IsMajorantOf b n g → IsMajorantOf p n (mul n a.terms b.terms) → IsMajorantOf p n (mul n f g)
majorant-product n f g a b p kf kg ha hb hp =
    let ra = reduced-of n a f ha kf in
    let rb = reduced-of n b g hb kg in
    let positive = mul-keepable Saturating n a.terms b.terms (whole Saturating a.terms ra.keeps) (whole Saturating b.terms rb.keeps) in
    let r = product-reduced Saturating n p.terms a.terms b.terms f g ra rb (reduced-of n p (mul n a.terms b.terms) hp positive) in
    record { order = hp.order; series = hp.series; capped = reduced-capped n p.terms (mul n f g) r }

-- ---- the functions of walls

pub functions-keepable : (ls : List Wall) → Every (Keepable Saturating) (map (λ w. absolute w.function) ls)
functions-keepable [] = tt
functions-keepable (w ∷ ls) = (absolute-positive w.function, functions-keepable ls)

pub product-keepable : (n : ℕ) (fs : List Sum) → Every (Keepable Saturating) fs → Keepable Saturating (product n fs)
product-keepable n [] h = (omega (arith, ints), tt)
product-keepable n (f ∷ fs) h = mul-keepable Saturating n f (product n fs) h.0 (product-keepable n fs h.1)

pub bend-keepable : (n : ℕ) (ls : List Wall) (q : Point) (x : Exp) → Keepable Saturating (bend_majorant n ls q x)
bend-keepable n ls q x = pow-keepable Saturating n (product n (functions_on ls q)) (product-keepable n (functions_on ls q) (functions-keepable (live_on ls q))) (across (live_on ls q) x)

-- no exponent is above 64 times its degree
abbrev pub TameKey : Key → Type 0
TameKey k = (nat_abs k.exp.a ≤ 64 * degree k) × (nat_abs k.exp.b ≤ 64 * degree k)

pub tame-kept : IsKept TameKey
tame-kept = record {
  unit = (omega arith, omega arith);
  mul = λ k l h i. let d = degree-mul k l in let a = abs-add k.exp.a l.exp.a in let b = abs-add k.exp.b l.exp.b in (omega (arith, d, a, h, i), omega (arith, d, b, h, i));
}

functions-tame : (ls : List Wall) → AreTameWalls ls → Every (AllKeys TameKey tame-kept) (map (λ w. absolute w.function) ls)
functions-tame [] h = tt
functions-tame (w ∷ ls) h = (all-absolute TameKey tame-kept w.function h.0, functions-tame ls h.1)

-- a tame key of degree 0 is that of 1
tame-constant : (k : Key) → TameKey k → degree k ≡ 0 → k ≡ unit
tame-constant k h z =
    let e = same-exp k.exp unit.exp (none k.exp.a (omega (arith, z, h.0))) (none k.exp.b (omega (arith, z, h.1))) in
    let p = same-powers k.powers unit.powers (omega (arith, z)) (omega (arith, z)) (omega (arith, z)) (omega (arith, z)) (omega (arith, z)) (omega (arith, z)) (omega (arith, z)) (omega (arith, z)) in
    λ i. record { powers = p i; exp = e i }
  where
    none : (a : ℤ) → nat_abs a ≤ 0 → a ≡ pos 0
    none a l = omega (arith, ints, l)

pub tame-rest : (f : Sum) → Every (λ t. TameKey t.0) f → Every (λ t. 1 ≤ degree t.0) (rest f)
tame-rest f h = Every-from_In (λ t. 1 ≤ degree t.0) (rest f) one-by-one
  where
    one-by-one : (t : Term) → In t (rest f) → 1 ≤ degree t.0
    one-by-one t i = go (dec_le 1 (degree t.0))
      where
        o : In t f × (not (key_eq t.0 unit) ≡ true)
        o = filter-from (λ t. not (key_eq t.0 unit)) f t i

        go : Dec (1 ≤ degree t.0) → 1 ≤ degree t.0
        go (yes l) = l
        go (no n) =
            let z : degree t.0 ≡ 0 = below (degree t.0) n in
            let e : key_eq t.0 unit ≡ true = ap (λ (k : Key). key_eq k unit) (tame-constant t.0 (Every-at (λ t. TameKey t.0) f t h o.0) z) ∙ key_eq-refl unit in
            let s = o.1 in absurd (cc)
          where
            below : (d : ℕ) → (1 ≤ d → ⊥) → d ≡ 0
            below zero n = refl
            below (suc d) n = absurd (n (omega arith))

pub near-tame : (n : ℕ) (f : Sum) → n ≤ 24 → Every (λ t. TameKey t.0) f → Every (λ t. degree t.0 ≤ n) f → HasNearTerms f
near-tame n [] l h d = tt
near-tame n (t ∷ f) l h d = (let a = h.0.0 in let b = h.0.1 in let e = d.0 in (omega (arith, a, e, l), omega (arith, b, e, l)), near-tame n f l h.1 d.1)

-- what a majorant of such a product has, as it is multiplied
module _ (n : ℕ) (low : n ≤ 24) (ls : List Wall) (tame : AreTameWalls ls) (m : Seen) (h : IsMajorantOf m n (product n (map (λ w. absolute w.function) ls))) where
  product-tame : Every (λ t. TameKey t.0) m.terms
  product-tame =
      reduced-keys Saturating TameKey n m.terms (product n (map (λ w. absolute w.function) ls))
      (reduced-of n m (product n (map (λ w. absolute w.function) ls)) h (product-keepable n (map (λ w. absolute w.function) ls) (functions-keepable ls)))
      (all-product TameKey tame-kept n (map (λ w. absolute w.function) ls) (functions-tame ls tame))

  pub product-near : HasNearTerms m.terms
  product-near = near-tame n m.terms low product-tame h.series.low

  pub product-others : Every (λ t. 1 ≤ degree t.0) (rest m.terms)
  product-others = tame-rest m.terms product-tame

-- ---- a function cut to the degree of the product

pub absolute-cut : (n : ℕ) (f : Sum) → absolute (cut n f) ≡ cut n (absolute f)
absolute-cut n [] = refl
absolute-cut n (t ∷ f) = go (nat_le (degree t.0) n) (absolute-cut n f)
  where
    go : (b : Bool) → absolute (cut n f) ≡ cut n (absolute f) → absolute (cond b (t ∷ cut n f) (cut n f)) ≡ cond b ((t.0, pos (nat_abs t.1)) ∷ cut n (absolute f)) (cut n (absolute f))
    go true e = ap (λ g. (t.0, pos (nat_abs t.1)) ∷ g) e
    go false e = e

-- so the product has one more wall
pub product-more : (n : ℕ) (w : Wall) (ls : List Wall) (a b p : Seen) → IsMajorantOf a n (absolute (cut n w.function)) → IsMajorantOf b n (product n (map (λ w. absolute w.function) ls)) → IsMajorantOf p n (mul n a.terms b.terms)
    → IsMajorantOf p n (product n (map (λ w. absolute w.function) (w ∷ ls)))
product-more n w ls a b p ha hb hp =
    let g = product n (map (λ w. absolute w.function) ls) in
    majorant-same n p (mul n (absolute (cut n w.function)) g) (mul n (absolute w.function) g)
    (mul-same_to n (absolute (cut n w.function)) (absolute w.function) g (λ k l. ap (λ f. coef f k) (absolute-cut n w.function) ∙ coef-cut n (absolute w.function) k l))
    (majorant-product n (absolute (cut n w.function)) g a b p (absolute-positive (cut n w.function)) (product-keepable n (map (λ w. absolute w.function) ls) (functions-keepable ls)) ha hb hp)

-- ---- the power to a lower degree has the same terms up to there

row-cut_again : (n b : ℕ) → n ≤ b → (f g : Sum) → cut n (mul b f g) ≡ mul n f g
row-cut_again n b l [] g = refl
row-cut_again n b l (t ∷ f) g =
    filter-append (λ _. true) (λ t. nat_le (degree t.0) n) (cut b (map (term_mul t) g)) (mul b f g)
    ∙ (λ i. cut-cut n b l (map (term_mul t) g) i ++ row-cut_again n b l f g i)

pub mul-lower : (n b : ℕ) → n ≤ b → (f g : Sum) → SameTo n (mul b f g) (mul n f g)
mul-lower n b l f g k d = sym (coef-cut n (mul b f g) k d) ∙ ap (λ h. coef h k) (row-cut_again n b l f g)

pub mul-right : (n : ℕ) (f g g' : Sum) → SameTo n g g' → Same (mul n f g) (mul n f g')
mul-right n f g g' s k = mul-comm n f g k ∙ mul-same_to n g g' f s k ∙ mul-comm n g' f k

pub product-lower : (n b : ℕ) → n ≤ b → (fs : List Sum) → SameTo n (product b fs) (product n fs)
product-lower n b l [] k d = refl
product-lower n b l (f ∷ fs) k d = mul-lower n b l f (product b fs) k d ∙ mul-right n f (product b fs) (product n fs) (product-lower n b l fs) k

pub pow-lower : (n b : ℕ) → n ≤ b → (f g : Sum) → SameTo n f g → (i : ℕ) → SameTo n (pow b f i) (pow n g i)
pow-lower n b l f g s zero k d = refl
pow-lower n b l f g s (suc i) k d = mul-lower n b l f (pow b f i) k d ∙ mul-right n f (pow b f i) (pow n g i) (pow-lower n b l f g s i) k ∙ mul-same_to n f g (pow n g i) s k

pub bend-lower : (n b : ℕ) → n ≤ b → (ls : List Wall) (q : Point) (x : Exp) → SameTo n (bend_majorant b ls q x) (bend_majorant n ls q x)
bend-lower n b l ls q x = pow-lower n b l (product b (functions_on ls q)) (product n (functions_on ls q)) (product-lower n b l (functions_on ls q)) (across (live_on ls q) x)

-- ---- masses

abbrev counted : ℕ → Key → ℤ
counted d k = cond (nat_le (degree k) d) (pos 1) (pos 0)

mass-pairing : (d : ℕ) (f : Sum) → Keepable Saturating f → pos (mass_to d f) ≡ pairing (counted d) f
mass-pairing d [] k = refl
mass-pairing d (t ∷ f) k = go (nat_le (degree t.0) d) (mass-pairing d f k.1)
  where
    go : (b : Bool) → pos (mass_to d f) ≡ pairing (counted d) f → pos ((elim b [ true ↦ nat_abs t.1 | false ↦ 0 ]) + mass_to d f) ≡ t.1 *ℤ cond b (pos 1) (pos 0) +ℤ pairing (counted d) f
    go true e = let p = k.0 in omega (arith, ints, e, p)
    go false e = omega (arith, ints, e)

-- sums of coefficients that aren't below 0, with the same terms up to a degree
pub mass-same : (d : ℕ) (f g : Sum) → Keepable Saturating f → Keepable Saturating g → SameTo d f g → mass_to d f ≡ mass_to d g
mass-same d f g kf kg s = whole-numbers (mass_to d f) (mass_to d g) (mass-pairing d f kf ∙ pairing-same (counted d) d f g s above ∙ sym (mass-pairing d g kg))
  where
    whole-numbers : (m n : ℕ) → pos m ≡ pos n → m ≡ n
    whole-numbers m n e = omega (arith, ints, e)

    above : (k : Key) → suc d ≤ degree k → counted d k ≡ pos 0
    above k l = ap (λ b. cond b (pos 1) (pos 0)) (higher (degree k) l)
      where
        higher : (e : ℕ) → suc d ≤ e → nat_le e d ≡ false
        higher e l = grind arith

mass-cut : (d : ℕ) (f : Sum) → mass_to d (cut d f) ≡ mass_to d f
mass-cut d [] = refl
mass-cut d (t ∷ f) = go (nat_le (degree t.0) d) refl (mass-cut d f)
  where
    go : (b : Bool) → nat_le (degree t.0) d ≡ b → mass_to d (cut d f) ≡ mass_to d f → mass_to d (cond b (t ∷ cut d f) (cut d f)) ≡ mass_to d (t ∷ f)
    go true e h = ap (λ m. (elim (nat_le (degree t.0) d) [ true ↦ nat_abs t.1 | false ↦ 0 ]) + m) h
    go false e h = h ∙ sym (zero-add (mass_to d f)) ∙ ap (λ b. (elim b [ true ↦ nat_abs t.1 | false ↦ 0 ]) + mass_to d f) (sym e)

-- the mass of a majorant up to a degree, as it is told
pub told-mass : (n d : ℕ) (m : Seen) (f : Sum) → d ≤ n → Keepable Saturating f → IsMajorantOf m n f → min (mass_to d m.terms) (2 ^ 126 + 1) ≡ min (mass_to d f) (2 ^ 126 + 1)
told-mass n d m f l k h =
    ap (λ s. min s (2 ^ 126 + 1)) (sym (mass-cut d m.terms))
    ∙ majorant-mass d (record { order = d; terms = cut d m.terms }) (cut d f) lower (Every-filter _ (λ t. nat_le (degree t.0) d) f k) (low-cut d f)
    ∙ ap (λ s. min s (2 ^ 126 + 1)) (mass-cut d f)
  where
    capped : (k : Key) → Dec (degree k ≤ d) → coef (cut d m.terms) k ≡ int_min (coef (cut d f) k) limit
    capped k (yes e) = coef-cut d m.terms k e ∙ h.capped k ∙ ap (λ c. int_min c limit) (sym (coef-cut d f k e))
    capped k (no e) =
        let above : d < degree k = higher (degree k) e in
        coef-above d (cut d m.terms) k (low-cut d m.terms) above ∙ ap (λ c. int_min c limit) (sym (coef-above d (cut d f) k (low-cut d f) above))
      where
        higher : (e : ℕ) → (e ≤ d → ⊥) → d < e
        higher e n = omega (arith, n)

    lower : IsMajorantOf (record { order = d; terms = cut d m.terms }) d (cut d f)
    lower = record {
      order = refl;
      series = record {
        rises = pairs-filter _ (λ t. nat_le (degree t.0) d) m.terms h.series.rises;
        nonzero = Every-filter _ (λ t. nat_le (degree t.0) d) m.terms h.series.nonzero;
        low = low-cut d m.terms;
      };
      capped = λ k. capped k (dec_le (degree k) d);
    }

-- ---- a majorant cut to a lower degree

pub cut-is_majorant : (n : ℕ) (m : Seen) → n ≤ m.order → IsMajorant m.order m.terms → IsMajorant n (cut n m.terms)
cut-is_majorant n m l h = record {
  order = let o = h.order in omega (arith, l, o);
  series = record {
    rises = pairs-filter _ (λ t. nat_le (degree t.0) n) m.terms h.series.rises;
    nonzero = Every-filter _ (λ t. nat_le (degree t.0) n) m.terms h.series.nonzero;
    low = low-cut n m.terms;
  };
  range = Every-filter _ (λ t. nat_le (degree t.0) n) m.terms h.range;
}

-- it is one of the power to that degree
pub lower-majorant : (n : ℕ) (m l : Seen) (ls : List Wall) (q : Point) (i : ℕ) → n ≤ m.order → IsMajorantOf m m.order (power_majorant m.order ls q i) → l.order ≡ n → l.terms ≡ cut n m.terms → IsMajorantOf l n (power_majorant n ls q i)
lower-majorant n m l ls q i le h o e = record {
  order = o;
  series = subst (IsSeries n) (sym e) record {
    rises = pairs-filter _ (λ t. nat_le (degree t.0) n) m.terms h.series.rises;
    nonzero = Every-filter _ (λ t. nat_le (degree t.0) n) m.terms h.series.nonzero;
    low = low-cut n m.terms;
  };
  capped = λ k. ap (λ f. coef f k) e ∙ capped k (dec_le (degree k) n);
}
  where
    power : ℕ → Sum
    power d = power_majorant d ls q i

    capped : (k : Key) → Dec (degree k ≤ n) → coef (cut n m.terms) k ≡ int_min (coef (power n) k) limit
    capped k (yes d) =
        coef-cut n m.terms k d ∙ h.capped k ∙ ap (λ c. int_min c limit) (pow-lower n m.order le (product m.order (functions_on ls q)) (product n (functions_on ls q)) (product-lower n m.order le (functions_on ls q)) i k d)
    capped k (no d) =
        let above : n < degree k = higher (degree k) d in
        coef-above n (cut n m.terms) k (low-cut n m.terms) above ∙ ap (λ c. int_min c limit) (sym (coef-above n (power n) k (pow-low n (product n (functions_on ls q)) i) above))
      where
        higher : (e : ℕ) → (e ≤ n → ⊥) → n < e
        higher e f = omega (arith, f)

-- ---- the product, wall by wall, from the last

pub one-majorant : (n : ℕ) (m : Seen) → n ≤ 24 → m.order ≡ n → m.terms ≡ one → IsMajorantOf m n one
one-majorant n m l o e = record { order = o; series = subst (IsSeries n) (sym e) (one-reduced Saturating n).series; capped = λ k. ap (λ f. coef f k) e ∙ reduced-capped n one one (one-reduced Saturating n) k }

module _ (n : ℕ) (w : Wall) (q : Point) (p m : Seen) where
  pub multiplied-same : live_holds w q ≡ false → m ≡ p → IsMultiplied n w q p m
  multiplied-same e s ls h = subst (λ (o : Seen). IsMajorantOf o n (product n (functions_on (w ∷ ls) q))) (sym s) (subst (λ us. IsMajorantOf p n (product n (map (λ w. absolute w.function) us))) (sym (ap (λ b. cond b (w ∷ live_on ls q) (live_on ls q)) e)) h)

  pub multiplied-more : live_holds w q ≡ true → (a : Seen) → IsMajorantOf a n (absolute (cut n w.function)) → IsMajorantOf m n (mul n a.terms p.terms) → IsMultiplied n w q p m
  multiplied-more e a ha hm ls h =
      subst (λ us. IsMajorantOf m n (product n (map (λ w. absolute w.function) us))) (sym (ap (λ b. cond b (w ∷ live_on ls q) (live_on ls q)) e)) (product-more n w (live_on ls q) a p m ha h hm)

-- the walls from a place on
pub walls-from : (ws : List CodeWall) (i : ℕ) (w : CodeWall) → i < length ws → w ≡ get_or ws (length ws - 1 - i) w → walls_of (drop (length ws - (i + 1)) ws) ≡ wall_of w ∷ walls_of (drop (length ws - i) ws)
walls-from ws i w l e =
    ap (λ j. walls_of (drop j ws)) (place (length ws) i l) ∙ ap walls_of (drop-cons ws (length ws - 1 - i) w (below (length ws) i l)) ∙ ap (λ v. wall_of v ∷ walls_of (drop (suc (length ws - 1 - i)) ws)) (sym e)
    ∙ ap (λ j. wall_of w ∷ walls_of (drop j ws)) (next (length ws) i l)
  where
    place : (n i : ℕ) → i < n → n - (i + 1) ≡ n - 1 - i
    place n i l = omega (arith, l)

    below : (n i : ℕ) → i < n → n - 1 - i < n
    below n i l = omega (arith, l)

    next : (n i : ℕ) → i < n → suc (n - 1 - i) ≡ n - i
    next n i l = omega (arith, l)

pub walls-tame : (ws : List CodeWall) (j : ℕ) (q : Point) → AreTameWalls (live_on (walls_of (drop j ws)) q)
walls-tame ws j q = Every-filter _ (λ w. live_holds w q) (walls_of (drop j ws)) (are-tame (drop j ws))

pub walls-tame_all : (ws : List CodeWall) (q : Point) → AreTameWalls (live_on (walls_of ws) q)
walls-tame_all ws q = Every-filter _ (λ w. live_holds w q) (walls_of ws) (are-tame ws)

-- ---- one wall

pub cut-majorant : (w : CodeWall) (n : ℕ) (s m : Seen) → n ≤ w.function.order → IsSeriesOf s n (cut n w.function.terms) → IsMajorantOf m s.order (absolute s.terms) → IsMajorantOf m n (absolute (cut n w.function.terms))
cut-majorant w n s m l h k = subst (λ (f : Sum). IsMajorantOf m n (absolute f)) (function-cut w n s l h).1 (subst (λ (o : ℕ). IsMajorantOf m o (absolute s.terms)) h.order k)

pub cut-near : (w : CodeWall) (n : ℕ) (m : Seen) → n ≤ 24 → IsMajorantOf m n (absolute (cut n w.function.terms)) → HasNearTerms m.terms
cut-near w n m l h =
    near-tame n m.terms l
    (reduced-keys Saturating TameKey n m.terms (absolute (cut n w.function.terms)) (reduced-of n m (absolute (cut n w.function.terms)) h (absolute-positive (cut n w.function.terms)))
    (all-absolute TameKey tame-kept (cut n w.function.terms) (Every-filter _ (λ t. nat_le (degree t.0) n) w.function.terms w.proper.tame)))
    h.series.low

-- the first live wall on a point
pub across-at : (ws : List CodeWall) (i : ℕ) (w : CodeWall) (q : Point) (x : Exp) → i < length ws → w ≡ get_or ws i w → live_on (walls_of (take i ws)) q ≡ [] → live_holds (wall_of w) q ≡ true → nat_abs (det (vector_of w.dir) x) ≡ across (live_on (walls_of ws) q) x
across-at [] i w q x l e n h = absurd (omega (arith, l))
across-at (v ∷ ws) zero w q x l e n h =
    let t : live_holds (wall_of v) q ≡ true = subst (λ (u : CodeWall). live_holds (wall_of u) q ≡ true) e h in
    ap (λ (u : CodeWall). nat_abs (det (vector_of u.dir) x)) e ∙ sym (ap (λ b. across (cond b (wall_of v ∷ live_on (walls_of ws) q) (live_on (walls_of ws) q)) x) t)
across-at (v ∷ ws) (suc i) w q x l e n h = go (live_holds (wall_of v) q) refl (across-at ws i w q x (omega (arith, l)) e)
  where
    go : (b : Bool) → live_holds (wall_of v) q ≡ b → (live_on (walls_of (take i ws)) q ≡ [] → live_holds (wall_of w) q ≡ true → nat_abs (det (vector_of w.dir) x) ≡ across (live_on (walls_of ws) q) x)
        → nat_abs (det (vector_of w.dir) x) ≡ across (live_on (walls_of (v ∷ ws)) q) x
    go true t r = let m : wall_of v ∷ live_on (walls_of (take i ws)) q ≡ [] = sym (ap (λ b. cond b (wall_of v ∷ live_on (walls_of (take i ws)) q) (live_on (walls_of (take i ws)) q)) t) ∙ n in absurd (cc)
    go false t r =
        r (sym (ap (λ b. cond b (wall_of v ∷ live_on (walls_of (take i ws)) q) (live_on (walls_of (take i ws)) q)) t) ∙ n) h
        ∙ sym (ap (λ b. across (cond b (wall_of v ∷ live_on (walls_of ws) q) (live_on (walls_of ws) q)) x) t)

pub order-at : (n : ℕ) (ws : List CodeWall) (i : ℕ) (w : CodeWall) → i < length ws → w ≡ get_or ws i w → AreAtLeast n ws → n ≤ w.function.order
order-at n ws i w l e h = Every-at (λ (u : CodeWall). n ≤ u.function.order) ws w h (In-get ws i w l e)

pub orders-at_least : (n b : ℕ) (ws : List CodeWall) → n ≤ b → AreOfOrder b ws → AreAtLeast n ws
orders-at_least n b [] l h = tt
orders-at_least n b (w ∷ ws) l h = (let e = h.0 in omega (arith, l, e), orders-at_least n b ws l h.1)
