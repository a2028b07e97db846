-- F^n as an exact series: its constant term, and the masses that are below that of |F|^n.
use Rattle.std.proofs.Common.{◌≡◌, ◌≢◌, ℕ, zero, suc, ◌+◌, ◌<◌, ◌≤◌, ◌-◌, refl, sym, ap, subst, ◌∙◌, Bool, true, false, cond, List, [], ◌∷◌, map, length, get_or, drop, arith}
use Rattle.std.specs.Prelude.{ℤ, pos, ◌+ℤ◌, ◌≤ℤ◌, nat_abs}
use Rattle.std.proofs.lemmas.Int.{ints}
use Rattle.std.proofs.Math.Decide.{dec_le}
use Rattle.scattering.specs.Collections.{Every}
use Rattle.scattering.specs.Series.{Exp, Key, Sum, Same, SameTo, degree, key_eq, unit, coef, one, cut, mul, pow, absolute, rest, mass_to, IsWallFunction}
use Rattle.scattering.specs.Plane.{Point}
use Rattle.scattering.specs.Wall.{Wall}
use Rattle.scattering.specs.BrokenLine.{live_on, product}
use Rattle.scattering.proofs.Lists.{Every-implies}
use Rattle.scattering.proofs.Keys.{key_eq-same, key_eq-refl}
use Rattle.scattering.proofs.Coefficients.{coef-none, coef-above, coef-cut, coef-rest, rest-absolute}
use Rattle.scattering.proofs.DistinctKeys.{series-distinct, rising-own}
use Rattle.weight_theory.specs.Laws.{IsNonnegative}
use Rattle.weight_theory.proofs.Readings.{Bounds, to_Bounds, from_Bounds}
use Rattle.weight_theory.proofs.Bounds.{bounds-trans, bounds-same, bounds-itself, bounds-absolute, bounds-mul, bounds-pow, mul-nonnegative, pow-nonnegative, one-nonnegative, absolute-nonnegative}
use Rattle.weight_theory.proofs.Masses.{mass-bounded_list, coef-absolute, series-absolute-is-below}
use Rattle.weight_theory.proofs.Crossings.{mul-one}
use Rattle.broken_line_theory.proofs.Terms.{AllKeys, all-product}
use Rattle.trunc_series.specs.declared.arithmetic.Arithmetic.TheVariants.{Saturating}
use Rattle.trunc_series.specs.Shown.{Seen, HasNearTerms, IsSeriesOf}
use Rattle.trunc_series.proofs.Coefficients.{keepable-coef}
use Rattle.trunc_series.proofs.PowerLaws.{one-mul_cut, mul-same_to, key-from}
use Rattle.scatter_diagram.specs.declared.wall.Wall.{Wall as CodeWall}
use Rattle.scatter_diagram.specs.Shown.{wall_of, walls_of}
use Rattle.scatter_diagram.proofs.Walls.{is-wall}
use Rattle.bend_finder.specs.Special.{live_holds}
use Rattle.bend_finder.specs.Powers.{functions_on, series_on, power_majorant, power_series, IsMultipliedExactly}
use Rattle.bend_finder.proofs.PowerMajorants.{TameKey, tame-kept, tame-rest, near-tame, absolute-cut, mul-lower, mul-right, product-lower, pow-lower, walls-from}

-- ---- degree 0 has 1 alone

abbrev pub StartsWithOne : Sum → Type 0
StartsWithOne f = SameTo 0 f one

coef-one : (k : Key) → key_eq k unit ≡ false → coef one k ≡ pos 0
coef-one k e = go (key_eq unit k) refl
  where
    go : (b : Bool) → key_eq unit k ≡ b → cond b (pos 1) (pos 0) +ℤ pos 0 ≡ pos 0
    go true t = absurd (let r : key_eq k unit ≡ true = subst (λ (l : Key). key_eq l unit ≡ true) (key_eq-same unit k t) (key_eq-refl unit) in cc)
    go false t = refl

starts : (f : Sum) → coef f unit ≡ pos 1 → Every (λ t. 1 ≤ degree t.0) (rest f) → StartsWithOne f
starts f c o k d = go (key_eq k unit) refl
  where
    other : (g : Sum) → Every (λ t. 1 ≤ degree t.0) g → Every (λ t. key_eq t.0 k ≡ false) g
    other [] h = tt
    other (t ∷ g) h = (apart (key_eq t.0 k) refl, other g h.1)
      where
        apart : (b : Bool) → key_eq t.0 k ≡ b → b ≡ false
        apart true e = absurd (let q = ap degree (key_eq-same t.0 k e) in let l = h.0 in omega (arith, q, l, d))
        apart false e = refl

    go : (b : Bool) → key_eq k unit ≡ b → coef f k ≡ coef one k
    go true e = subst (λ (l : Key). coef f l ≡ coef one l) (sym (key_eq-same k unit e)) c
    go false e = sym (coef-rest f k e) ∙ coef-none (rest f) k (other (rest f) o) ∙ sym (coef-one k e)

pub function-starts : (n : ℕ) (d : Exp) (f : Sum) → IsWallFunction n d f → StartsWithOne f
function-starts n d f w = starts f w.constant (Every-implies _ (λ t. 1 ≤ degree t.0) (rest f) (λ t h. h.0) w.others)

absolute-starts : (n : ℕ) (d : Exp) (f : Sum) → IsWallFunction n d f → StartsWithOne (absolute f)
absolute-starts n d f w =
    starts (absolute f) (coef-absolute f (series-distinct n f w.series) unit ∙ ap (λ c. pos (nat_abs c)) w.constant)
    (subst (Every (λ t. 1 ≤ degree t.0)) (sym (rest-absolute f)) (others (rest f) (Every-implies _ (λ t. 1 ≤ degree t.0) (rest f) (λ t h. h.0) w.others)))
  where
    others : (g : Sum) → Every (λ t. 1 ≤ degree t.0) g → Every (λ t. 1 ≤ degree t.0) (absolute g)
    others [] h = tt
    others (t ∷ g) h = (h.0, others g h.1)

mul-starts : (n : ℕ) (f g : Sum) → StartsWithOne f → StartsWithOne g → StartsWithOne (mul n f g)
mul-starts n f g h i k d =
    mul-lower 0 n (omega arith) f g k d ∙ mul-right 0 f g one i k ∙ mul-same_to 0 f one one h k ∙ ap (λ f. coef f k) (one-mul_cut 0 one)

pub product-starts : (n : ℕ) (fs : List Sum) → Every StartsWithOne fs → StartsWithOne (product n fs)
product-starts n [] h = λ k d. refl
product-starts n (f ∷ fs) h = mul-starts n f (product n fs) h.0 (product-starts n fs h.1)

pow-starts : (n : ℕ) (f : Sum) (i : ℕ) → StartsWithOne f → StartsWithOne (pow n f i)
pow-starts n f zero h = λ k d. refl
pow-starts n f (suc i) h = mul-starts n f (pow n f i) h (pow-starts n f i h)

-- ---- more factors make no coefficient less

one-below : (n : ℕ) (g : Sum) → IsNonnegative g → StartsWithOne g → Bounds n one g
one-below n g p s = to_Bounds n one g (λ k d. go k (dec_le (degree k) 0))
  where
    same : (a b : ℤ) → pos 0 ≤ℤ a → b ≡ a → pos (nat_abs a) ≤ℤ b
    same a b l e = omega (arith, ints, l, e)

    none : (a b : ℤ) → pos 0 ≤ℤ b → a ≡ pos 0 → pos (nat_abs a) ≤ℤ b
    none a b l e = omega (arith, ints, l, e)

    low : Every (λ t. degree t.0 ≤ 0) one
    low = (omega arith, tt)

    go : (k : Key) → Dec (degree k ≤ 0) → pos (nat_abs (coef one k)) ≤ℤ coef g k
    go k (yes d) = same (coef one k) (coef g k) (keepable-coef Saturating one k (one-nonnegative n)) (s k d)
    go k (no d) = none (coef one k) (coef g k) (keepable-coef Saturating g k p) (coef-above 0 one k low (higher (degree k) d))
      where
        higher : (e : ℕ) → (e ≤ 0 → ⊥) → 0 < e
        higher e q = omega (arith, q)

-- a sum without coefficients below 0, cut or not
cut-below : (n : ℕ) (f : Sum) → IsNonnegative f → Bounds n f (cut n f)
cut-below n f p = to_Bounds n f (cut n f) (λ k d. same (coef f k) (coef (cut n f) k) (keepable-coef Saturating f k p) (coef-cut n f k d))
  where
    same : (a b : ℤ) → pos 0 ≤ℤ a → b ≡ a → pos (nat_abs a) ≤ℤ b
    same a b l e = omega (arith, ints, l, e)

below-cut : (n : ℕ) (f : Sum) → IsNonnegative f → Bounds n (cut n f) f
below-cut n f p = to_Bounds n (cut n f) f (λ k d. same (coef (cut n f) k) (coef f k) (keepable-coef Saturating f k p) (coef-cut n f k d))
  where
    same : (a b : ℤ) → pos 0 ≤ℤ b → a ≡ b → pos (nat_abs a) ≤ℤ b
    same a b l e = omega (arith, ints, l, e)

factor-more : (n : ℕ) (f g : Sum) → IsNonnegative f → StartsWithOne f → IsNonnegative g → Bounds n g (mul n f g)
factor-more n f g p s q =
    bounds-trans n g (cut n g) (mul n f g) (cut-below n g q)
    (subst (λ h. Bounds n h (mul n f g)) (one-mul_cut n g) (bounds-mul n one f g g (one-below n f p s) (bounds-itself n g q)))

power-more : (n i : ℕ) (f : Sum) → IsNonnegative f → StartsWithOne f → Bounds n f (pow n f (suc i))
power-more n i f p s =
    bounds-same n f (mul n f one) (pow n f (suc i)) (mul-one n f)
    (bounds-mul n f f one (pow n f i) (bounds-itself n f p) (one-below n (pow n f i) (pow-nonnegative n f i p) (pow-starts n f i s)))

-- ---- the functions of the live walls on a point

pub product-nonnegative : (n : ℕ) (ls : List Wall) → IsNonnegative (product n (map (λ w. absolute w.function) ls))
product-nonnegative n [] = one-nonnegative n
product-nonnegative n (w ∷ ls) = mul-nonnegative n (absolute w.function) (product n (map (λ w. absolute w.function) ls)) (absolute-nonnegative n w.function) (product-nonnegative n ls)

-- a fact of all walls' functions, of those that are live on a point
each-on : (P : Sum → Type 0) (F : Wall → Sum) (ws : List CodeWall) (q : Point) → ((w : CodeWall) → P (F (wall_of w))) → Every P (map F (live_on (walls_of ws) q))
each-on P F [] q h = tt
each-on P F (w ∷ ws) q h = go (live_holds (wall_of w) q) (each-on P F ws q h)
  where
    go : (b : Bool) → Every P (map F (live_on (walls_of ws) q)) → Every P (map F (cond b (wall_of w ∷ live_on (walls_of ws) q) (live_on (walls_of ws) q)))
    go true k = (h w, k)
    go false k = k

majorant-starts : (n : ℕ) (ws : List CodeWall) (q : Point) → StartsWithOne (product n (functions_on (walls_of ws) q))
majorant-starts n ws q =
    product-starts n (functions_on (walls_of ws) q) (each-on StartsWithOne (λ w. absolute w.function) ws q (λ w. absolute-starts w.function.order (wall_of w).dir w.function.terms (is-wall w).function))

series-starts : (n : ℕ) (ws : List CodeWall) (q : Point) → StartsWithOne (product n (series_on (walls_of ws) q))
series-starts n ws q =
    product-starts n (series_on (walls_of ws) q) (each-on StartsWithOne (λ w. w.function) ws q (λ w. function-starts w.function.order (wall_of w).dir w.function.terms (is-wall w).function))

-- the product of functions is below that of their absolute values
product-below : (n : ℕ) (us : List Wall) → Bounds n (product n (map (λ w. w.function) us)) (product n (map (λ w. absolute w.function) us))
product-below n [] = bounds-itself n one (one-nonnegative n)
product-below n (u ∷ us) =
    bounds-mul n u.function (absolute u.function) (product n (map (λ w. w.function) us)) (product n (map (λ w. absolute w.function) us)) (bounds-absolute n u.function) (product-below n us)

-- those of the walls from a place on are below all
rest-below : (n : ℕ) (ws : List CodeWall) (j : ℕ) (q : Point) → Bounds n (product n (functions_on (walls_of (drop j ws)) q)) (product n (functions_on (walls_of ws) q))
rest-below n ws zero q = bounds-itself n (product n (functions_on (walls_of ws) q)) (product-nonnegative n (live_on (walls_of ws) q))
rest-below n [] (suc j) q = bounds-itself n one (one-nonnegative n)
rest-below n (w ∷ ws) (suc j) q =
    bounds-trans n (product n (functions_on (walls_of (drop j ws)) q)) (product n (functions_on (walls_of ws) q)) (product n (functions_on (walls_of (w ∷ ws)) q)) (rest-below n ws j q) (go (live_holds (wall_of w) q))
  where
    g : Sum
    g = product n (functions_on (walls_of ws) q)

    go : (b : Bool) → Bounds n g (product n (map (λ w. absolute w.function) (cond b (wall_of w ∷ live_on (walls_of ws) q) (live_on (walls_of ws) q))))
    go true = factor-more n (absolute w.function.terms) g (absolute-nonnegative n w.function.terms) (absolute-starts w.function.order (wall_of w).dir w.function.terms (is-wall w).function) (product-nonnegative n (live_on (walls_of ws) q))
    go false = bounds-itself n g (product-nonnegative n (live_on (walls_of ws) q))

-- ---- masses

-- of the product, where F is multiplied once at least
pub product-light : (n i m : ℕ) (ws : List CodeWall) (q : Point) → 1 ≤ i → mass_to n (power_majorant n (walls_of ws) q i) ≤ m → mass_to n (product n (functions_on (walls_of ws) q)) ≤ m
product-light n zero m ws q l h = absurd (omega (arith, l))
product-light n (suc i) m ws q l h =
    let g = product n (functions_on (walls_of ws) q) in
    let p = product-nonnegative n (live_on (walls_of ws) q) in
    let b = mass-bounded_list n g (pow n g (suc i)) p (power-more n i g p (majorant-starts n ws q)) in
    omega (arith, b, h)

-- of a series that stands for a product
absolute-below : (n : ℕ) (ls : List Wall) (s : Seen) → IsSeriesOf s n (product n (map (λ w. w.function) ls)) → Bounds n (absolute s.terms) (product n (map (λ w. absolute w.function) ls))
absolute-below n ls s h =
    let f = product n (map (λ w. w.function) ls) in
    let g = product n (map (λ w. absolute w.function) ls) in
    to_Bounds n (absolute s.terms) g (series-absolute-is-below n n s.terms f g h.series (λ k d. h.same k) (from_Bounds n f g (product-below n ls)))

pub power-light : (n i m : ℕ) (ls : List Wall) (s : Seen) → IsSeriesOf s n (product n (map (λ w. w.function) ls)) → mass_to n (pow n (product n (map (λ w. absolute w.function) ls)) i) ≤ m → mass_to n (pow n (absolute s.terms) i) ≤ m
power-light n i m ls s h l =
    let g = product n (map (λ w. absolute w.function) ls) in
    let b = mass-bounded_list n (pow n (absolute s.terms) i) (pow n g i) (pow-nonnegative n (absolute s.terms) i (absolute-nonnegative n s.terms)) (bounds-pow n (absolute s.terms) g i (absolute-below n ls s h)) in
    omega (arith, b, l)

-- of the product with one wall more, before it is formed
pub factor-light : (n m i : ℕ) (ws : List CodeWall) (q : Point) (w : CodeWall) (s : Seen) → i < length ws → w ≡ get_or ws (length ws - 1 - i) w → mass_to n (product n (functions_on (walls_of ws) q)) ≤ m
    → IsSeriesOf s n (product n (series_on (walls_of (drop (length ws - i) ws)) q)) → live_holds (wall_of w) q ≡ true → mass_to n (mul n (absolute (cut n w.function.terms)) (absolute s.terms)) ≤ m
factor-light n m i ws q w s l e light h t =
    let later = live_on (walls_of (drop (length ws - i) ws)) q in
    let f = absolute (cut n w.function.terms) in
    let a = absolute w.function.terms in
    let g = product n (map (λ w. absolute w.function) later) in
    let all = product n (functions_on (walls_of ws) q) in
    let pa = absolute-nonnegative n w.function.terms in
    let fa : Bounds n f a = subst (λ h. Bounds n h a) (sym (absolute-cut n w.function.terms)) (below-cut n a pa) in
    let fg : Bounds n (mul n f (absolute s.terms)) (mul n a g) = bounds-mul n f a (absolute s.terms) g fa (absolute-below n later s h) in
    let more : product n (functions_on (walls_of (drop (length ws - (i + 1)) ws)) q) ≡ mul n a g =
    ap (λ us. product n (functions_on us q)) (walls-from ws i w l e) ∙ ap (λ b. product n (map (λ w. absolute w.function) (cond b (wall_of w ∷ later) later))) t in
    let ag : Bounds n (mul n a g) all = subst (λ h. Bounds n h all) more (rest-below n ws (length ws - (i + 1)) q) in
    let b = mass-bounded_list n (mul n f (absolute s.terms)) all (mul-nonnegative n f (absolute s.terms) (absolute-nonnegative n (cut n w.function.terms)) (absolute-nonnegative n s.terms)) (bounds-trans n (mul n f (absolute s.terms)) (mul n a g) all fg ag) in
    omega (arith, b, light)

-- ---- what a series for a product has, as it is multiplied

series-keys : (P : Key → Type 0) (n : ℕ) (s : Seen) (f : Sum) → IsSeriesOf s n f → Every (λ t. P t.0) f → Every (λ t. P t.0) s.terms
series-keys P n s f h e = go s.terms (rising-own s.terms h.series.rises) h.series.nonzero
  where
    go : (g : Sum) → Every (λ t. coef s.terms t.0 ≡ t.1) g → Every (λ t. t.1 ≢ pos 0) g → Every (λ t. P t.0) g
    go [] o z = tt
    go (t ∷ g) o z = (key-from P f t.0 e (λ q. z.0 (sym o.0 ∙ h.same t.0 ∙ q)), go g o.1 z.1)

module _ (n : ℕ) (low : n ≤ 24) (ws : List CodeWall) (q : Point) (s : Seen) (h : IsSeriesOf s n (product n (series_on (walls_of ws) q))) where
  series-tame : Every (λ t. TameKey t.0) s.terms
  series-tame =
      series-keys TameKey n s (product n (series_on (walls_of ws) q)) h
      (all-product TameKey tame-kept n (series_on (walls_of ws) q) (each-on (AllKeys TameKey tame-kept) (λ w. w.function) ws q (λ w. w.proper.tame)))

  pub series-near : HasNearTerms s.terms
  series-near = near-tame n s.terms low series-tame h.series.low

  pub series-others : Every (λ t. 1 ≤ degree t.0) (rest s.terms)
  series-others = tame-rest s.terms series-tame

  pub series-constant : coef s.terms unit ≡ pos 1
  series-constant = h.same unit ∙ series-starts n ws q unit (omega arith)

-- ---- one wall more

pub series-same : (n : ℕ) (s : Seen) (f g : Sum) → Same f g → IsSeriesOf s n f → IsSeriesOf s n g
series-same n s f g e h = record { order = h.order; series = h.series; same = λ k. h.same k ∙ e k }

module _ (n : ℕ) (w : Wall) (q : Point) (p m : Seen) where
  pub exactly-same : live_holds w q ≡ false → m ≡ p → IsMultipliedExactly n w q p m
  exactly-same e s ls h =
      subst (λ (o : Seen). IsSeriesOf o n (product n (series_on (w ∷ ls) q))) (sym s)
      (subst (λ us. IsSeriesOf p n (product n (map (λ w. w.function) us))) (sym (ap (λ b. cond b (w ∷ live_on ls q) (live_on ls q)) e)) h)

  pub exactly-more : live_holds w q ≡ true → (a : Seen) → IsSeriesOf a n (cut n w.function) → IsSeriesOf m n (mul n a.terms p.terms) → IsMultipliedExactly n w q p m
  exactly-more e a ha hm ls h =
      let g = product n (map (λ w. w.function) (live_on ls q)) in
      subst (λ us. IsSeriesOf m n (product n (map (λ w. w.function) us))) (sym (ap (λ b. cond b (w ∷ live_on ls q) (live_on ls q)) e))
      (series-same n m (mul n a.terms p.terms) (mul n w.function g)
      (λ k. mul-right n a.terms p.terms g (λ l d. h.same l) k ∙ mul-same_to n a.terms w.function g (λ l d. ha.same l ∙ coef-cut n w.function l d) k) hm)

-- the power of a series that stands for a product
pub exact-power : (n i : ℕ) (f : Sum) (s p : Seen) → IsSeriesOf s n f → IsSeriesOf p n (pow n s.terms i) → IsSeriesOf p n (pow n f i)
exact-power n i f s p h k = series-same n p (pow n s.terms i) (pow n f i) (pow-same i) k
  where
    pow-same : (i : ℕ) → Same (pow n s.terms i) (pow n f i)
    pow-same zero k = refl
    pow-same (suc i) k = mul-right n s.terms (pow n s.terms i) (pow n f i) (λ l d. pow-same i l) k ∙ mul-same_to n s.terms f (pow n f i) (λ l d. h.same l) k

-- ---- the power to a lower degree

pub series-lower : (n b : ℕ) → n ≤ b → (ls : List Wall) (q : Point) (i : ℕ) → SameTo n (power_series b ls q i) (power_series n ls q i)
series-lower n b l ls q i = pow-lower n b l (product b (series_on ls q)) (product n (series_on ls q)) (product-lower n b l (series_on ls q)) i
