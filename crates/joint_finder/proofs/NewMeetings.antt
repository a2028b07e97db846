-- Walls whose least degrees sum to an order exactly, by the lower of the two degrees; and that their meetings with
-- the active points of the order before are those of the order.
use Rattle.std.proofs.Common.{◌≡◌, ℕ, ◌+◌, ◌-◌, ◌/◌, ◌<◌, ◌≤◌, refl, List, [], Bool, true, false, eq-eqb, eqb-true, arith, ◌⊎◌, inl, inr}
use Rattle.std.specs.Prelude.{◌==◌, nat_lt, nat_le}
use Rattle.std.specs.Bool.{MatchBool}
use Rattle.scattering.specs.Collections.{In}
use Rattle.scattering.specs.Plane.{Point}
use Rattle.scattering.proofs.Lists.{filter-from, filter-keeps}
use Rattle.scattering.proofs.Tests.{nat_le-yes, nat_le-no}
use Rattle.plane_geom.specs.declared.Point.{Point as CodePoint}
use Rattle.joint_finder.specs.declared.live.LiveWall.{LiveWall}
use Rattle.joint_finder.specs.Joints.{points_of}
use Rattle.joint_finder.specs.Crossings.{Meets, AreMeeting, Adds}
use Rattle.joint_finder.specs.Strands.{level, AreFacing, MeetsAny, IsNewlyMet, IsMetBelow}
use Rattle.joint_finder.proofs.Meetings.{meets-back, adds-then}

level-from : (d : ℕ) (ls : List LiveWall) (l : LiveWall) → In l (level d ls) → In l ls × (l.degree ≡ d)
level-from d ls l i = let r = filter-from (λ (l : LiveWall). l.degree == d) ls l i in (r.0, eqb-true l.degree d r.1)

level-in : (d : ℕ) (ls : List LiveWall) (l : LiveWall) → In l ls → l.degree ≡ d → In l (level d ls)
level-in d ls l i e = filter-keeps (λ (l : LiveWall). l.degree == d) ls l i (eq-eqb l.degree d e)

-- levels that face one another
pub levels-facing : (n k : ℕ) (ls : List LiveWall) → k ≤ n → AreFacing n (level k ls) (level (n - k) ls)
levels-facing n k ls le l m i j = let a = (level-from k ls l i).1 in let b = (level-from (n - k) ls m j).1 in omega (arith, a, b, le)

-- what the test of two degrees tells
lt-means : (a k : ℕ) (b : Bool) → nat_lt a k ≡ b → MatchBool b (a < k) (k ≤ a)
lt-means a k true e = grind arith
lt-means a k false e = grind arith

-- ---- level by level

pub none-below : (n : ℕ) (ls : List LiveWall) → Adds (IsMetBelow n 0 ls) [] []
none-below n ls = record { keeps = λ p i. i; each = λ p i. inl i; all = λ p i x. absurd (let l = x.4 in omega (arith, l)) }

pub level-new : (n k : ℕ) (ls : List LiveWall) (p : Point) → k ≤ n → MeetsAny n (level k ls) (level (n - k) ls) p → IsNewlyMet n ls p
level-new n k ls p le x =
    let l = level-from k ls x.0 x.1 in
    let m = level-from (n - k) ls x.2.0 x.2.1 in
    (x.0, l.0, x.2.0, m.0, levels-facing n k ls le x.0 x.2.0 x.1 x.2.1, x.2.2)

pub below-more : (n k : ℕ) (ls : List LiveWall) (a b c : List CodePoint) → k ≤ n → Adds (IsMetBelow n k ls) a b → Adds (MeetsAny n (level k ls) (level (n - k) ls)) b c → Adds (IsMetBelow n (k + 1) ls) a c
below-more n k ls a b c le h g = adds-then (IsMetBelow n k ls) (MeetsAny n (level k ls) (level (n - k) ls)) (IsMetBelow n (k + 1) ls) a b c lower here parts h g
  where
    lower : (p : Point) → IsMetBelow n k ls p → IsMetBelow n (k + 1) ls p
    lower p x = (x.0, x.1, x.2, x.3, (let l = x.4 in omega (arith, l)), x.5, x.6)

    here : (p : Point) → MeetsAny n (level k ls) (level (n - k) ls) p → IsMetBelow n (k + 1) ls p
    here p x =
        let l = level-from k ls x.0 x.1 in
        let m = level-from (n - k) ls x.2.0 x.2.1 in
        let d = l.1 in
        (x.0, l.0, x.2.0, m.0, omega (arith, d), levels-facing n k ls le x.0 x.2.0 x.1 x.2.1, x.2.2)

    parts : (p : Point) → IsMetBelow n (k + 1) ls p → IsMetBelow n k ls p ⊎ MeetsAny n (level k ls) (level (n - k) ls) p
    parts p x = go (nat_lt x.0.degree k) refl
      where
        go : (b : Bool) → nat_lt x.0.degree k ≡ b → IsMetBelow n k ls p ⊎ MeetsAny n (level k ls) (level (n - k) ls) p
        go true e = inl (x.0, x.1, x.2, x.3, lt-means x.0.degree k true e, x.5, x.6)
        go false e =
            let l = x.4 in
            let s = x.5 in
            let h = lt-means x.0.degree k false e in
            let d : x.0.degree ≡ k = omega (arith, l, h) in
            let q : x.2.degree ≡ n - k = omega (arith, d, s, le) in
            inr (x.0, level-in k ls x.0 x.1 d, (x.2, level-in (n - k) ls x.2 x.3 q, x.6))

-- of two walls one has a least degree of at most half the sum
pub below-all : (n k : ℕ) (ls : List LiveWall) (a b : List CodePoint) → n / 2 < k → Adds (IsMetBelow n k ls) a b → Adds (IsNewlyMet n ls) a b
below-all n k ls a b lt h = record { keeps = h.keeps; each = λ p i. each p (h.each p i); all = λ p i x. h.all p i (half p x) }
  where
    each : (p : Point) → In p (points_of a) ⊎ IsMetBelow n k ls p → In p (points_of a) ⊎ IsNewlyMet n ls p
    each p (inl i) = inl i
    each p (inr x) = inr (x.0, x.1, x.2, x.3, x.5, x.6)

    half : (p : Point) → IsNewlyMet n ls p → IsMetBelow n k ls p
    half p x = go (nat_lt x.0.degree k) refl
      where
        go : (b : Bool) → nat_lt x.0.degree k ≡ b → IsMetBelow n k ls p
        go true e = (x.0, x.1, x.2, x.3, lt-means x.0.degree k true e, x.4, x.5)
        go false e =
            let s = x.4 in
            let high = lt-means x.0.degree k false e in
            (x.2, x.3, x.0, x.1, omega (arith, s, high, lt), omega (arith, s), meets-back n x.0 x.2 p x.5)

-- ---- one order more

pub meets-above : (n k : ℕ) (l m : LiveWall) (p : Point) → n ≤ k → Meets n l m p → Meets k l m p
meets-above n k l m p le h = record { fits = (let f = h.fits in omega (arith, f, le)); crossing = h.crossing; first = h.first; second = h.second }

pub new-meeting : (n : ℕ) (ls : List LiveWall) (p : Point) → IsNewlyMet n ls p → AreMeeting n ls p
new-meeting n ls p x = (x.0, x.1, (x.2, x.3, x.5))

-- walls that meet at an order meet at the order before, or newly
pub meeting-parts : (n k : ℕ) (ls : List LiveWall) (p : Point) → n + 1 ≡ k → AreMeeting k ls p → AreMeeting n ls p ⊎ IsNewlyMet k ls p
meeting-parts n k ls p e x = go (nat_le (x.0.degree + x.2.0.degree) n) refl
  where
    m : Meets k x.0 x.2.0 p
    m = x.2.2

    go : (b : Bool) → nat_le (x.0.degree + x.2.0.degree) n ≡ b → AreMeeting n ls p ⊎ IsNewlyMet k ls p
    go true f = inl (x.0, x.1, (x.2.0, x.2.1, record { fits = nat_le-yes (x.0.degree + x.2.0.degree) n f; crossing = m.crossing; first = m.first; second = m.second }))
    go false f = let h = m.fits in let g = nat_le-no (x.0.degree + x.2.0.degree) n f in inr (x.0, x.1, x.2.0, x.2.1, omega (arith, h, g, e), m)
