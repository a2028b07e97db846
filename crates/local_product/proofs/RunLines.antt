-- How lines of runs stand, and which of parallel lines holds a point.
use Rattle.std.proofs.Common.{◌≡◌, ℕ, zero, suc, ◌+◌, ◌<◌, ◌≤◌, ◌^◌, refl, sym, ap, subst, ◌∙◌, Bool, true, false, cond, ◌-◌, Some, None, List, length, get_or, arith, of_z, to_z}
use Rattle.std.specs.Prelude.{ℤ, ◌*ℤ◌, nat_abs, int_lt}
use Rattle.std.specs.Ordering.{int_cmp, is_lt, is_eq}
use Rattle.std.specs.declared.cmp.Ordering.TheVariants.{Less, Equal, Greater}
use native.Mathlib.Decide.{dec_le}
use Rattle.std.proofs.lemmas.Int.{ints}
use Rattle.std.proofs.lemmas.List.{get_or_default}
use mir.Syntax.{w64, w128}
use Rattle.scattering.specs.Series.{origin, int_eq}
use Rattle.scattering.specs.Plane.{Point}
use Rattle.scattering.specs.SupportingLine.{SupportingLine, offset, line_holds}
use Rattle.crossing_theory.proofs.SupportingLines.{line-chain, line-one_way}
use Rattle.plane_geom.proofs.Casts.{back128}
use Rattle.plane_geom.specs.Shown.{vector_of}
use Rattle.frac_128.proofs.SignedProducts.{within, widened, product-is}
use Rattle.local_product.specs.declared.run_line.RunLine.{RunLine}
use Rattle.local_product.specs.RunLines.{seen_line, place_before, place_order, IsThrough, IsBefore, Rise, AreBefore, AreNotBefore, IsOnlyAt}

-- ---- numbers as they are passed

pub near : (r x : ℤ) → r ≡ to_z w64 (of_z w64 x) → nat_abs x ≤ 2 ^ 40 → to_z w128 (of_z w128 r) ≡ x
near r x e h = ap (λ z. to_z w128 (of_z w128 z)) e ∙ widened w64 w128 x (within w64 x (2 ^ 40) h (omega arith)) (within w128 x (2 ^ 40) h (omega arith))

pub raised : (x r a : ℤ) → nat_abs x ≤ 2 ^ 81 → nat_abs a ≤ 2 ^ 40 → r ≡ to_z w64 (of_z w64 a) → to_z w128 (of_z w128 (to_z w128 (of_z w128 x) *ℤ to_z w128 (of_z w128 r))) ≡ x *ℤ a
raised x r a h k e = product-is w128 _ _ x a (2 ^ 81) (2 ^ 40) (back128 x h) (near r a e k) h k (omega arith)

-- ---- the order of parallel lines

-- the places decide, whatever the direction
abbrev placed : RunLine → SupportingLine
placed l = record { dir = origin; over = l.over; under = l.under }

abbrev pub stands_before : RunLine → RunLine → Bool
stands_before l m = place_before (seen_line l) (seen_line m)

chain : (l m n : RunLine) → stands_before l m ≡ false → stands_before m n ≡ false → stands_before l n ≡ false
chain l m n e f = line-chain (placed l) (placed m) (placed n) l.positive m.positive n.positive e f

one-way : (l m : RunLine) → stands_before l m ≡ true → stands_before m l ≡ false
one-way l m e = line-one_way (placed l) (placed m) e

by-contradiction : (b : Bool) → (b ≡ false → ⊥) → b ≡ true
by-contradiction true f = refl
by-contradiction false f = absurd (f refl)

-- l, then m, then n
pub before-before : (l m n : RunLine) → stands_before l m ≡ true → stands_before m n ≡ true → stands_before l n ≡ true
before-before l m n e f = by-contradiction (stands_before l n) (λ g. let a = chain l n m g (one-way m n f) in absurd (cc))

-- l isn't before m, and n is behind l
pub behind-behind : (l m n : RunLine) → stands_before l m ≡ false → stands_before l n ≡ true → stands_before m n ≡ true
behind-behind l m n e f = by-contradiction (stands_before m n) (λ g. let a = chain l m n e g in absurd (cc))

pub less-is : (x y : ℤ) → is_lt (int_cmp x y) ≡ int_lt x y
less-is x y = go (int_lt x y) (int_lt y x)
  where
    go : (b c : Bool) → is_lt (cond b Less (cond c Greater Equal)) ≡ b
    go true c = refl
    go false true = refl
    go false false = refl

-- neither before nor one with it: behind
else-behind : (x y : ℤ) → int_lt x y ≡ false → is_eq (int_cmp x y) ≡ false → int_lt y x ≡ true
else-behind x y e f = go (int_lt x y) (int_lt y x) e f
  where
    go : (b c : Bool) → b ≡ false → is_eq (cond b Less (cond c Greater Equal)) ≡ false → c ≡ true
    go true c e f = absurd (cc)
    go false true e f = refl
    go false false e f = absurd (cc)

-- ---- lines of one class

module _ (b e : ℕ) (ls : List RunLine) (rise : Rise b e ls) (k : RunLine) where
  abbrev pub at : ℕ → RunLine
  at i = get_or ls i k

  rise-by : (d i j : ℕ) → j ≡ i + 1 + d → b ≤ i → j < e → IsBefore (at i) (at j)
  rise-by zero i j q l h = subst (λ (n : ℕ). IsBefore (at i) (at n)) (omega (arith, q)) (rise i k l (omega (arith, q, h)))
  rise-by (suc d) i j q l h =
      let m : ℕ = i + 1 + d in
      let first = rise-by d i (i + 1 + d) refl l (omega (arith, q, h)) in
      let next = subst (λ (n : ℕ). IsBefore (at (i + 1 + d)) (at n)) (omega (arith, q)) (rise (i + 1 + d) k (omega (arith, l)) (omega (arith, q, h))) in
      (first.0 ∙ next.0, before-before (at i) (at (i + 1 + d)) (at j) first.1 next.1)

  pub rises : (i j : ℕ) → b ≤ i → i < j → j < e → IsBefore (at i) (at j)
  rises i j l m h = rise-by (j - (i + 1)) i j (omega (arith, m)) l h

  pub parallel-to : (i : ℕ) → b ≤ i → i < e → vector_of (at b).dir ≡ vector_of (at i).dir
  parallel-to i l h = elim (dec_le i b) [
    | yes m ↦ ap (λ n. vector_of (at n).dir) (omega (arith, l, m))
    | no o ↦ (rises b i (omega arith) (omega (arith, o)) h).0
  ]

  module _ (m : RunLine) where
    -- where one stands before m, those below it do
    pub below-before : (i j : ℕ) → b ≤ j → j ≤ i → i < e → stands_before (at i) m ≡ true → stands_before (at j) m ≡ true
    below-before i j l h u f = elim (dec_le i j) [
      | yes q ↦ subst (λ (n : ℕ). stands_before (at n) m ≡ true) (omega (arith, h, q)) f
      | no o ↦ before-before (at j) (at i) m (rises j i l (omega (arith, o)) u).1 f
    ]

    -- where one doesn't, those above it don't
    pub above-not : (i j : ℕ) → b ≤ i → i ≤ j → j < e → stands_before (at i) m ≡ false → stands_before (at j) m ≡ false
    above-not i j l h u f = go (stands_before (at j) m) refl
      where
        go : (c : Bool) → stands_before (at j) m ≡ c → stands_before (at j) m ≡ false
        go false q = q
        go true q = let a = below-before j i l h u q in absurd (cc)

    -- those above one that isn't before m are behind it
    pub above-behind : (i j : ℕ) → b ≤ i → i < j → j < e → stands_before (at i) m ≡ false → stands_before m (at j) ≡ true
    above-behind i j l h u f = behind-behind (at i) m (at j) f (rises i j l h u).1

-- ---- lines through points

-- a line holds a point where it stands where the parallel line through the point stands
pub holds-through : (k m : RunLine) (p : Point) → IsThrough p m → vector_of m.dir ≡ vector_of k.dir → int_eq (k.over *ℤ m.under) (m.over *ℤ k.under) ≡ line_holds (seen_line k) p
holds-through k m p h v = let o = h.0 ∙ ap (λ d. offset d p) v in (λ i. int_eq (k.over *ℤ h.1 i) (o i *ℤ k.under))

less-unequal : (x y : ℤ) → int_lt x y ≡ true → int_eq x y ≡ false
less-unequal x y e = grind (arith, ints, e)

more-unequal : (x y : ℤ) → int_lt y x ≡ true → int_eq x y ≡ false
more-unequal x y e = grind (arith, ints, e)

before-off : (k m : RunLine) (p : Point) → IsThrough p m → vector_of m.dir ≡ vector_of k.dir → stands_before k m ≡ true → line_holds (seen_line k) p ≡ false
before-off k m p h v e = sym (holds-through k m p h v) ∙ less-unequal (k.over *ℤ m.under) (m.over *ℤ k.under) e

behind-off : (k m : RunLine) (p : Point) → IsThrough p m → vector_of m.dir ≡ vector_of k.dir → stands_before m k ≡ true → line_holds (seen_line k) p ≡ false
behind-off k m p h v e = sym (holds-through k m p h v) ∙ more-unequal (k.over *ℤ m.under) (m.over *ℤ k.under) e

-- what is read at a place, whatever else is read past the end
pub read-as : (ls : List RunLine) (i : ℕ) (r k : RunLine) → i < length ls → r ≡ get_or ls i r → r ≡ get_or ls i k
read-as ls i r k l e = e ∙ get_or_default ls i r k l

-- m goes through the point, parallel to the lines from b to e, of which those below i stand before it, and no others
module _ (b e : ℕ) (ls : List RunLine) (rise : Rise b e ls) (within : e ≤ length ls) (p : Point) (m r : RunLine) (through : IsThrough p m) (first : r ≡ get_or ls b r) (parallel : m.dir ≡ r.dir)
    (i : ℕ) (low : b ≤ i) (before : AreBefore b i m ls) (others : AreNotBefore i e m ls) where
  same-direction : (j : ℕ) (k : RunLine) → b ≤ j → j < e → vector_of m.dir ≡ vector_of (get_or ls j k).dir
  same-direction j k l u = ap vector_of parallel ∙ ap (λ (x : RunLine). vector_of x.dir) (read-as ls b r k (omega (arith, l, u, within)) first) ∙ parallel-to b e ls rise k j l u

  below-off : (j : ℕ) (k : RunLine) → b ≤ j → j < e → j < i → line_holds (seen_line (get_or ls j k)) p ≡ false
  below-off j k l u f = before-off (get_or ls j k) m p through (same-direction j k l u) (before j k l f)

  above-off : (j : ℕ) (k : RunLine) → i < j → j < e → line_holds (seen_line (get_or ls j k)) p ≡ false
  above-off j k f u = behind-off (get_or ls j k) m p through (same-direction j k (omega (arith, f, low)) u) (above-behind b e ls rise k m i j low f u (others i k (omega arith) (omega (arith, f, u))))

  pub one-at : IsOnlyAt b e p ls (Some i)
  one-at j k l u o = elim (dec_le j i) [
    | no n ↦ above-off j k (omega (arith, n)) u
    | yes y ↦ elim (dec_le i j) [
      | no n ↦ below-off j k l u (omega (arith, n))
      | yes z ↦ absurd (o (ap Some (omega (arith, y, z))))
    ]
  ]

  pub none-before-end : e ≤ i → IsOnlyAt b e p ls None
  none-before-end q j k l u o = below-off j k l u (omega (arith, q, u))

  -- that at i is behind the point
  pub none-behind : (n : RunLine) → i < e → n ≡ get_or ls i n → is_eq (place_order (seen_line n) (seen_line m)) ≡ false → IsOnlyAt b e p ls None
  none-behind n q is f j k l u o = elim (dec_le j i) [
    | no d ↦ above-off j k (omega (arith, d)) u
    | yes y ↦ elim (dec_le i j) [
      | no d ↦ below-off j k l u (omega (arith, d))
      | yes z ↦
          let s : i ≡ j = omega (arith, y, z) in
          let t : n ≡ get_or ls j k = read-as ls i n k (omega (arith, q, within)) is ∙ ap (λ x. get_or ls x k) s in
          let not-before : stands_before n m ≡ false = ap (λ x. stands_before x m) t ∙ others j k (omega (arith, s)) u in
          behind-off (get_or ls j k) m p through (same-direction j k l u)
          (ap (λ x. stands_before m x) (sym t) ∙ else-behind (n.over *ℤ m.under) (m.over *ℤ n.under) not-before f)
    ]
  ]
