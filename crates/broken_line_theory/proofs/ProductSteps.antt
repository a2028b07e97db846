-- The steps end with the family that fits.
use Rattle.std.proofs.Common.{◌≡◌, ◌≢◌, ℕ, zero, suc, refl, sym, ap, subst, ◌∙◌, ◌-◌, ◌<◌, ◌≤◌, ◌⊎◌, inl, inr, arith, Bool, true, false, List, [], ◌++◌, map, add-one}
use Rattle.std.specs.Prelude.{ℤ, pos, ◌+ℤ◌, ◌-ℤ◌, neg_ℤ, None, filter}
use Rattle.std.proofs.lemmas.Int.{ints}
use native.Mathlib.Decide.{dec_le}
use Rattle.scattering.proofs.Pairing.{coef-append, coef-minus}
use Rattle.scattering.specs.Collections.{Every}
use Rattle.scattering.specs.Series.{Exp, Key, Sum, origin, exp_eq, degree, coef, minus, one, IsSeries}
use Rattle.scattering.specs.Plane.{Point, IsPoint}
use Rattle.scattering.specs.Wall.{Wall, IsWall}
use Rattle.scattering.specs.BrokenLine.{value}
use Rattle.scattering.specs.Theta.{IsAskFault, IsTheta, TooManyReach, TooManyTails, PointTooLarge, WeightTooLarge}
use Rattle.scattering.specs.ThetaProduct.{BeginsAt, combined, AreThetas, IsThetaProduct, IsFamily, IsNext, Runs, begins, goes}
use Rattle.broken_line_theory.proofs.CompleteTails.{free-of, passes, none-some}
use Rattle.broken_line_theory.proofs.ThetaOfTails.{forwards, theta-of-tails}
use Rattle.scattering.specs.Tail.{is_complete}
use Rattle.scattering.proofs.Lists.{Every-at}
use Rattle.scattering.proofs.Determined.{coef-find}
use Rattle.broken_line_theory.proofs.UniqueFamily.{AgreeBelow, shared-begin, excess-same}
use Rattle.broken_line_theory.proofs.UniqueFamily as U
use Rattle.broken_line_theory.specs.Laws.{StepsEndWithFamily}

abbrev Theta : List Wall → ℕ → Exp → Point → Type 0
Theta ws n m q = (s : Sum) × IsTheta ws n m q s

unequal : (m : Exp) → exp_eq m origin ≡ false → m ≢ origin
unequal m e f = let r : exp_eq origin origin ≡ true = refl in let s : exp_eq origin origin ≡ false = subst (λ (u : Exp). exp_eq u origin ≡ false) f e in absurd (cc)

-- where nothing fails there is a theta
pub theta-exists : (ws : List Wall) (n k : ℕ) (m : Exp) (q : Point) → Every (IsWall k) ws → IsPoint q → IsAskFault ws n m q None → Theta ws n m q
theta-exists ws n k m q walls point h = go (exp_eq m origin) refl
  where
    go : (b : Bool) → exp_eq m origin ≡ b → Theta ws n m q
    go true e = (one, rw e (λ y. refl))
    go false e =
        let t = (free-of ws n m q h).tails (unequal m e) in
        let a = passes t (λ e. none-some TooManyReach e.1) in
        let b = passes a.1 (λ e. none-some TooManyTails e.1) in
        let c = passes b.1 (λ e. none-some PointTooLarge e.1) in
        let d = passes c.1 (λ e. none-some WeightTooLarge e.1) in
        let listed = d.0.1.1 in
        (map (value ws n m) (map forwards (filter (is_complete m) d.0.1.0)), theta-of-tails ws n k m q walls point h d.0.1.0 e listed)

-- ---- what holds before step d
pub record IsReady (ws : List Wall) (k : ℕ) (q : Point) (s : Sum) (d : ℕ) (a : Sum) : Type 0 where
  pub series : IsSeries k a
  pub low : (x : Key) → d ≤ degree x → coef a x ≡ pos 0
  pub free : (r : Exp) (i : ℕ) → BeginsAt a r i → IsAskFault ws (k - i) r q None
  pub fits : (thetas : Exp → Sum) → AreThetas ws k q a thetas → (y : Key) → degree y < d → degree y ≤ k → coef (combined k thetas a) y ≡ coef s y

pub next-coef : (a s c : Sum) (y : Key) → coef (a ++ s ++ minus c) y ≡ coef a y +ℤ coef s y -ℤ coef c y
next-coef a s c y = coef-append (a ++ s) (minus c) y ∙ join (coef (a ++ s) y) (coef a y) (coef s y) (coef (minus c) y) (coef c y) (coef-append a s y) (coef-minus c y)
  where
    join : (t u v m n : ℤ) → t ≡ u +ℤ v → m ≡ neg_ℤ n → t +ℤ m ≡ u +ℤ v -ℤ n
    join t u v m n e f = omega (arith, ints, e, f)

module _ (ws : List Wall) (k j : ℕ) (q : Point) (walls : Every (IsWall j) ws) (point : IsPoint q) (s : Sum) where
  ready-none : IsReady ws k q s 0 []
  ready-none = record {
    series = record { rises = tt; nonzero = tt; low = tt };
    low = λ x l. refl;
    free = λ r i h. absurd (h.found.1 refl);
    fits = λ thetas are y l. absurd (omega (arith, l));
  }

  next-same : (d : ℕ) (a b : Sum) → IsNext ws k q s d a b → AgreeBelow d b a
  next-same d a b h x l = h.1.3 x (λ e. omega (arith, l, e))

  ready-next : (d : ℕ) (a b : Sum) → IsReady ws k q s d a → IsNext ws k q s d a b → ((r : Exp) → BeginsAt b r d → IsAskFault ws (k - d) r q None) → IsReady ws k q s (suc d) b
  ready-next d a b h g none = record {
    series = g.0;
    low = λ x l. g.1.3 x (λ e. omega (arith, l, e)) ∙ h.low x (omega (arith, l));
    free = λ r i z. free r i z (dec_le d i) (dec_le i d);
    fits = λ thetas are y l m. fits thetas are y l m (dec_le d (degree y));
  }
    where
      free : (r : Exp) (i : ℕ) → BeginsAt b r i → Dec (d ≤ i) → Dec (i ≤ d) → IsAskFault ws (k - i) r q None
      free r i z (no l) m = h.free r i (shared-begin b a r d i (next-same d a b g) (omega (arith, l)) z)
      free r i z (yes l) (yes m) = let e : d ≡ i = omega (arith, l, m) in subst (λ (n : ℕ). IsAskFault ws (k - n) r q None) e (none r (subst (λ (n : ℕ). BeginsAt b r n) (sym e) z))
      free r i z (yes l) (no m) =
          let f = z.found.3 in
          absurd (z.found.1 (g.1.3 z.found.0 (λ e. omega (arith, e, f, m)) ∙ h.low z.found.0 (omega (arith, f, l))))

      below : (thetas : Exp → Sum) → AreThetas ws k q b thetas → (y : Key) → degree y ≤ d → degree y ≤ k → coef (combined k thetas b) y -ℤ coef b y ≡ coef (combined k g.1.0 a) y -ℤ coef a y
      below thetas are y l m = excess-same ws k j q walls point b a thetas g.1.0 y are g.1.1 m (λ x o. next-same d a b g x (omega (arith, o, l)))

      fits : (thetas : Exp → Sum) → AreThetas ws k q b thetas → (y : Key) → degree y < suc d → degree y ≤ k → Dec (d ≤ degree y) → coef (combined k thetas b) y ≡ coef s y
      fits thetas are y l m (no o) =
          let e = below thetas are y (omega (arith, l)) m in
          let c = next-same d a b g y (omega (arith, o)) in
          let f = h.fits g.1.0 g.1.1 y (omega (arith, o)) m in
          omega (arith, ints, e, c, f)
      fits thetas are y l m (yes o) =
          let e = below thetas are y (omega (arith, l)) m in
          let c = g.1.2 y (omega (arith, l, o)) ∙ next-coef a s (combined k g.1.0 a) y in
          omega (arith, ints, e, c)

  pub runs-ready : (first d : ℕ) (a : Sum) (n : ℕ) → Runs ws k q s first d a n → IsReady ws k q s d a
  runs-ready first zero a n begins = ready-none
  runs-ready first (suc d) a n (goes b w prev next none weights le) = ready-next d _ b (runs-ready first d _ _ prev) next none

  -- thetas of all that a family holds
  pub one-begin : (a : Sum) (r : Exp) (d e : ℕ) → BeginsAt a r d → BeginsAt a r e → d ≡ e
  one-begin a r d e h i =
      let x = h.least i.found.0 i.found.1 i.found.2 in let y = i.least h.found.0 h.found.1 h.found.2 in
      let f = h.found.3 in let g = i.found.3 in omega (arith, x, y, f, g)

  choose : (a : Sum) → IsSeries k a → ((r : Exp) (i : ℕ) → BeginsAt a r i → IsAskFault ws (k - i) r q None) → (r : Exp) → (t : Sum) × ((d : ℕ) → BeginsAt a r d → IsTheta ws (k - d) r q t)
  choose a series free r = go (U.find a r (suc k) a)
    where
      go : U.Below a r (suc k) a ⊎ U.AboveAll a r (suc k) a → (t : Sum) × ((d : ℕ) → BeginsAt a r d → IsTheta ws (k - d) r q t)
      go (inl b) =
          let i = U.begins a b.0.0 b.2 in
          let h : BeginsAt a r i.0 = subst (λ (e : Exp). BeginsAt a e i.0) b.3 i.2 in
          let t = theta-exists ws (k - i.0) j r q walls point (free r i.0 h) in
          (t.0, λ d z. subst (λ (n : ℕ). IsTheta ws (k - n) r q t.0) (one-begin a r i.0 d h z) t.1)
      go (inr h) = (
        [],
        λ d z.
            let t = coef-find a z.found.0 z.found.1 in
            let l = h t.0 t.1 (subst (λ (w : Key). coef a w ≢ pos 0) (sym t.2) z.found.1) (ap (λ (w : Key). w.exp) t.2 ∙ z.found.2) in
            let m = Every-at (λ t. degree t.0 ≤ k) a t.0 series.low t.1 in absurd (omega (arith, l, m)),
      )

  pub thetas-of : (a : Sum) → IsSeries k a → ((r : Exp) (i : ℕ) → BeginsAt a r i → IsAskFault ws (k - i) r q None) → (thetas : Exp → Sum) × AreThetas ws k q a thetas
  thetas-of a series free = (λ r. (choose a series free r).0, λ r d h. (free r d h, (choose a series free r).1 d h))

  -- where the steps end without a fault, they end with the family that fits
  pub runs-end : (l r : Exp) (first : ℕ) (a : Sum) (n : ℕ) → IsThetaProduct ws k l r q s → Runs ws k q s first (suc k) a n → IsFamily ws k l r q a
  runs-end l r first a n product runs =
      let h = runs-ready first (suc k) a n runs in
      let t = thetas-of a h.series h.free in
      (h.series, (t.0, t.1, (product.0, product.1, product.2, product.3, λ y low. h.fits t.0 t.1 y (omega (arith, low)) low ∙ product.4 y low)))

pub steps_end : StepsEndWithFamily
steps_end ws n k l r q s a first w walls point product runs = runs-end ws n k q walls point s l r first a w product (subst (λ (d : ℕ). Runs ws n q s first d a w) (add-one n) runs)
