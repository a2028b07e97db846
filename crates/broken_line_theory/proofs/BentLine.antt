-- The worked ask: what is in reach, where stretches meet the wall, by which keys they bend, and so all tails.
use Rattle.std.proofs.Common.{◌≡◌, ◌≢◌, ℕ, refl, sym, ap, subst, ◌∙◌, ◌+◌, ◌≤◌, ◌⊎◌, inl, inr, arith, Bool, true, false, List, [], ◌∷◌, length}
use Rattle.std.specs.Prelude.{pos, ◌&&◌}
use Rattle.std.specs.Int.{◌∣◌}
use Rattle.std.proofs.Math.Nat.{eq-one_of_dvd-one, dvd-zero}
use Rattle.std.proofs.lemmas.Int.{ints}
use Rattle.std.proofs.lemmas.Nat.Gcd.{dvd_refl}
use Rattle.limits.specs.Limits.{most_reached}
use Rattle.scattering.specs.Collections.{In, Every, AtMost}
use Rattle.scattering.specs.Series.{Exp, Key, Term, Sum, origin, det, exp_sub, degree, unit, one, rest, coef}
use Rattle.scattering.specs.Plane.{Point, IsPoint, IsNear, Beyond, difference}
use Rattle.scattering.specs.Wall.{Wall, IsWall, is_on, is_live}
use Rattle.scattering.specs.ActivePoint.{is_special}
use Rattle.scattering.specs.BrokenLine.{Bend, IsBend, live_on, bend_majorant}
use Rattle.scattering.specs.Tail.{IsWallTerm, IsReachedBy, IsInReach, ReachTo, Extends, IsTraced, Tail, IsTail, last, last_point, exp_sum, degree_sum}
use Rattle.scattering.specs.Theta.{IsHit, IsMet, IsWeight}
use Rattle.scattering.proofs.ExampleWalls.{center, line_x}
use Rattle.scattering.proofs.Lists.{filter-from, and-left, and-right}
use Rattle.scattering.proofs.Keys.{int_eq-same, same-exp}
use Rattle.scattering.proofs.Determined.{coef-find}
use Rattle.plane_theory.proofs.Points.{beyond-test}
use Rattle.plane_theory.proofs.StatedLaws.{common_point_is_unique}
use Rattle.broken_line_theory.proofs.Bends.{reached-none}
use Rattle.broken_line_theory.proofs.TracedBends.{traced-used}
use Rattle.broken_line_theory.proofs.ThetaOfTails.{same-tail, broken_lines_are_listed, theta_sums_tails}
use Rattle.broken_line_theory.specs.BentLine.{one_wall, upward, below, crossing, wall_key, bend, slanted, tails, AskIsOfWall, AskHasNoFault, TailsAreThree, LinesAreTwo, ThetaHasTwoTerms}

-- ---- points and walls

whole-point : (p : Point) → p.w ≡ pos 1 → IsPoint p
whole-point p e = record { below = omega (arith, ints, e); lowest = λ d x y w. one-divides d (rw e at w) }
  where
    one-divides : (d : ℕ) → d ∣ 1 → d ≡ 1
    one-divides d h = eq-one_of_dvd-one h

is-wall : IsWall 1 line_x
is-wall = record {
  point = whole-point center refl;
  direction = (dvd_refl 1, dvd-zero 1, λ d p q. p);
  function = record {
    series = record { rises = ((refl, tt), (tt, tt)); nonzero = ((λ e. omega (arith, ints, e)), ((λ e. omega (arith, ints, e)), tt)); low = (omega arith, (omega arith, tt)) };
    constant = refl;
    others = ((omega arith, (pos 1, omega (arith, ints), refl)), tt);
  };
}

pub ask_is_of_wall : AskIsOfWall
ask_is_of_wall = ((is-wall, tt), whole-point below refl)

-- one line alone has no special points
plain : (p : Point) → is_special one_wall p ≡ false
plain p = go (is_on line_x p) refl
  where
    go : (b : Bool) → is_on line_x p ≡ b → is_special one_wall p ≡ false
    go true e = rw e refl
    go false e = rw e refl

-- ---- what is in reach

term-is : (t : Term) → IsWallTerm one_wall t → t ≡ (wall_key, pos 1)
term-is t (w, inr i, j) = absurd i
term-is t (w, inl e, j) = go (subst (λ (v : Wall). In t (rest v.function)) e j)
  where
    go : In t (rest line_x.function) → t ≡ (wall_key, pos 1)
    go (inl f) = f
    go (inr f) = absurd f

degree-is : (t : Term) → IsWallTerm one_wall t → degree t.0 ≡ 1
degree-is t h = ap (λ (u : Term). degree u.0) (term-is t h)

reached-is : (d : Exp) (i : ℕ) → i ≤ 1 → IsReachedBy one_wall d i → ((d ≡ origin) × (i ≡ 0)) ⊎ ((d ≡ wall_key.exp) × (i ≡ 1))
reached-is d i l ([], h, e, g) = inl (sym e, sym g)
reached-is d i l (t ∷ [], h, e, g) = inr (sym e ∙ ap (λ (u : Term). exp_sum (u ∷ [])) (term-is t h.0), sym g ∙ ap (λ (u : Term). degree_sum (u ∷ [])) (term-is t h.0))
reached-is d i l (t ∷ u ∷ us, h, e, g) = absurd (let a = degree-is t h.0 in let b = degree-is u h.1.0 in omega (arith, l, g, a, b))

-- within the order only two exponents
few-reached : AtMost most_reached (λ d. ReachTo one_wall 1 d 1)
few-reached = (origin ∷ wall_key.exp ∷ [], (λ d r. in-list d (reached-is d r.0 r.1 r.2)), omega arith)
  where
    in-list : (d : Exp) → {i : ℕ} → ((d ≡ origin) × (i ≡ 0)) ⊎ ((d ≡ wall_key.exp) × (i ≡ 1)) → In d (origin ∷ wall_key.exp ∷ [])
    in-list d (inl e) = inl e.0
    in-list d (inr e) = inr (inl e.0)

up-is : (x : Exp) → exp_sub x upward ≡ origin → x ≡ upward
up-is x e = same-exp x upward (let p = ap (λ (u : Exp). u.a) e in omega (arith, ints, p)) (let p = ap (λ (u : Exp). u.b) e in omega (arith, ints, p))

slanted-is : (x : Exp) → exp_sub x upward ≡ wall_key.exp → x ≡ slanted
slanted-is x e = same-exp x slanted (let p = ap (λ (u : Exp). u.a) e in omega (arith, ints, p)) (let p = ap (λ (u : Exp). u.b) e in omega (arith, ints, p))

in-reach : (x : Exp) → IsInReach one_wall 1 upward x 0 → (x ≡ upward) ⊎ (x ≡ slanted)
in-reach x h = go (reached-is (exp_sub x upward) h.0 (let l = h.1 in omega (arith, l)) h.2)
  where
    go : {i : ℕ} → ((exp_sub x upward ≡ origin) × (i ≡ 0)) ⊎ ((exp_sub x upward ≡ wall_key.exp) × (i ≡ 1)) → (x ≡ upward) ⊎ (x ≡ slanted)
    go (inl e) = inl (up-is x e.0)
    go (inr e) = inr (slanted-is x e.0)

in-reach-after : (x : Exp) (used : ℕ) → used ≡ 1 → IsInReach one_wall 1 upward x used → x ≡ upward
in-reach-after x used u h = go (reached-is (exp_sub x upward) h.0 (let l = h.1 in omega (arith, l)) h.2)
  where
    go : ((exp_sub x upward ≡ origin) × (h.0 ≡ 0)) ⊎ ((exp_sub x upward ≡ wall_key.exp) × (h.0 ≡ 1)) → x ≡ upward
    go (inl e) = up-is x e.0
    go (inr e) = absurd (let l = h.1 in let i = e.1 in omega (arith, l, i, u))

-- ---- where a stretch meets the wall

on-wall : (p : Point) (w : Wall) → In w (live_on one_wall p) → is_on line_x p ≡ true
on-wall p w i = go (filter-from (λ w. is_live w && is_on w p) one_wall w i)
  where
    go : In w one_wall × ((is_live w && is_on w p) ≡ true) → is_on line_x p ≡ true
    go (inl e, t) = subst (λ (v : Wall). is_on v p ≡ true) e (and-right (is_live w) (is_on w p) t)
    go (inr e, t) = absurd e

crossed : (p : Point) → is_on line_x p ≡ true → det line_x.dir (difference center p) ≡ pos 0
crossed p h = int_eq-same (det line_x.dir (difference center p)) (pos 0) (and-left _ true h)

-- from the point o along d only one point of the wall comes
only-meeting : (o : Point) (d : Exp) (s : Point) → IsPoint o → IsPoint s → d ≢ origin → det d line_x.dir ≢ pos 0 → det d (difference o s) ≡ pos 0 → det line_x.dir (difference center s) ≡ pos 0
    → (p : Point) → IsPoint p → Beyond o d p → is_on line_x p ≡ true → p ≡ s
only-meeting o d s i j moves across first second p k b h =
    common_point_is_unique o d center line_x.dir p s i (whole-point center refl) across k j (beyond-test o d p i.below k.below moves b).0 (crossed p h) first second

up-moves : upward ≢ origin
up-moves e = let p = ap (λ (u : Exp). u.b) e in omega (arith, ints, p)

slanted-moves : slanted ≢ origin
slanted-moves e = let p = ap (λ (u : Exp). u.b) e in omega (arith, ints, p)

straight-meets : (p : Point) → IsPoint p → Beyond below upward p → is_on line_x p ≡ true → p ≡ center
straight-meets = only-meeting below upward center (whole-point below refl) (whole-point center refl) up-moves (λ e. omega (arith, ints, e)) refl refl

slanted-meets : (p : Point) → IsPoint p → Beyond below slanted p → is_on line_x p ≡ true → p ≡ crossing
slanted-meets = only-meeting below slanted crossing (whole-point below refl) (whole-point crossing refl) slanted-moves (λ e. omega (arith, ints, e)) refl refl

-- and after the bend none
bent-meets : (p : Point) → IsPoint p → Beyond crossing upward p → is_on line_x p ≡ true → ⊥
bent-meets p i b h =
    let e = only-meeting crossing upward crossing (whole-point crossing refl) (whole-point crossing refl) up-moves (λ e. omega (arith, ints, e)) refl refl p i b h in
    let c = subst (λ (q : Point). Beyond crossing upward q) e b in
    let t = (beyond-test crossing upward crossing (omega (arith, ints)) (omega (arith, ints)) up-moves c).1 in omega (arith, ints, t)

-- ---- by which keys a stretch bends

-- F^2 for F = 1 + t1·x, modulo degree 2
squared : Sum
squared = (unit, pos 1) ∷ (wall_key, pos 1) ∷ (wall_key, pos 1) ∷ []

majorant-off : (p : Point) (x : Exp) → is_on line_x p ≡ false → bend_majorant 1 one_wall p x ≡ one
majorant-off p x e = rw e refl

majorant-on : (p : Point) (x : Exp) → is_on line_x p ≡ true → det line_x.dir x ≡ pos 2 → bend_majorant 1 one_wall p x ≡ squared
unfolding squared
majorant-on p x e d = rw (e, d) refl

-- a bend is on the wall, by t1·x
bend-is : (x : Exp) → det line_x.dir x ≡ pos 2 → (c : Bend) → IsBend 1 one_wall x c → (is_on line_x c.at ≡ true) × (c.key ≡ wall_key)
unfolding squared
bend-is x d c h = go (is_on line_x c.at) refl
  where
    unit-not : (t : Term) → t ≡ (unit, pos 1) → t.0 ≡ c.key → ⊥
    unit-not t e k = let i : degree t.0 ≡ 0 = ap (λ (u : Term). degree u.0) e in let j = ap degree k in let l = h.degree in omega (arith, i, j, l)

    off : (t : Term) → In t one → t.0 ≡ c.key → ⊥
    off t (inl e) k = unit-not t e k
    off t (inr i) k = i

    on : (t : Term) → In t squared → t.0 ≡ c.key → c.key ≡ wall_key
    on t (inl e) k = absurd (unit-not t e k)
    on t (inr (inl e)) k = sym k ∙ ap (λ (u : Term). u.0) e
    on t (inr (inr (inl e))) k = sym k ∙ ap (λ (u : Term). u.0) e
    on t (inr (inr (inr i))) k = absurd i

    go : (b : Bool) → is_on line_x c.at ≡ b → (is_on line_x c.at ≡ true) × (c.key ≡ wall_key)
    go true e = (e, (let f = coef-find squared c.key (λ z. h.key (ap (λ g. coef g c.key) (majorant-on c.at x e d) ∙ z)) in on f.0 f.1 f.2))
    go false e = absurd (let f = coef-find one c.key (λ z. h.key (ap (λ g. coef g c.key) (majorant-off c.at x e) ∙ z)) in off f.0 f.1 f.2)

is-bend : IsBend 1 one_wall slanted bend
is-bend = record { point = whole-point crossing refl; degree = omega arith; key = λ e. omega (arith, ints, e) }

-- ---- the tails

is-extended : Extends one_wall 1 below slanted bend
is-extended = record {
  ahead = (pos 1, pos 1, omega (arith, ints), record { below = omega (arith, ints); x = refl; y = refl });
  near = (omega arith, omega arith, omega arith);
  plain = refl;
  bend = is-bend;
}

by_wall : IsReachedBy one_wall wall_key.exp 1
by_wall = ((wall_key, pos 1) ∷ [], ((line_x, inl refl, inl refl), tt), refl, refl)

each-tail : Every (IsTail one_wall 1 upward below) tails
each-tail = (
  record { moves = up-moves; traced = (0, omega arith, reached-none one_wall) },
  (
    record { moves = slanted-moves; traced = (1, omega arith, by_wall) },
    (record { moves = slanted-moves; traced = ((1, omega arith, by_wall), is-extended, (0, omega arith, reached-none one_wall)) }, tt),
  ),
)

same-bend : (c d : Bend) → c.at ≡ d.at → c.key ≡ d.key → c ≡ d
same-bend c d p q = λ i. record { at = p i; key = q i }

all-tails : (x : Exp) (cs : List Bend) → IsTraced one_wall 1 upward below x 0 cs → In (record { root = x; bends = cs }) tails
all-tails x [] h = go (in-reach x h)
  where
    go : (x ≡ upward) ⊎ (x ≡ slanted) → In (record { root = x; bends = [] }) tails
    go (inl e) = inl (ap (λ (y : Exp). record { root = y; bends = [] }) e)
    go (inr e) = inr (inl (ap (λ (y : Exp). record { root = y; bends = [] }) e))
all-tails x (c ∷ d ∷ ds) h = absurd (let l = traced-used one_wall 1 upward below x 0 (c ∷ d ∷ ds) h in let i = h.1.bend.degree in let j = h.2.1.bend.degree in omega (arith, l, i, j))
all-tails x (c ∷ []) h = go (in-reach x h.0)
  where
    back : (k : Key) → k ≡ wall_key → IsInReach one_wall 1 upward (exp_sub x k.exp) (0 + degree k) → exp_sub x wall_key.exp ≡ upward
    back k e r = in-reach-after (exp_sub x wall_key.exp) 1 refl (subst (λ (l : Key). IsInReach one_wall 1 upward (exp_sub x l.exp) (0 + degree l)) e r)

    go : (x ≡ upward) ⊎ (x ≡ slanted) → In (record { root = x; bends = c ∷ [] }) tails
    go (inl e) =
        let b = bend-is x (ap (det line_x.dir) e) c h.1.bend in
        let r = ap (λ (u : Exp). u.a) (back c.key b.1 h.2) in
        let z = ap (λ (u : Exp). u.a) e in absurd (omega (arith, ints, r, z))
    go (inr e) =
        let b = bend-is x (ap (det line_x.dir) e) c h.1.bend in
        let p = slanted-meets c.at h.1.bend.point (subst (λ (y : Exp). Beyond below y c.at) e h.1.ahead) b.0 in
        inr (inr (inl (same-tail _ _ e (ap (λ (d : Bend). d ∷ []) (same-bend c bend p b.1)))))

pub tails_are_three : TailsAreThree
tails_are_three = record {
  each = each-tail;
  all = λ t h. all-tails t.root t.bends h.traced;
  once = (
    ((λ e. let p = ap (λ (t : Tail). t.root.a) e in omega (arith, ints, p)), ((λ e. let p = ap (λ (t : Tail). t.root.a) e in omega (arith, ints, p)), tt)),
    (((λ e. let p = ap (λ (t : Tail). length t.bends) e in omega (arith, p)), tt), (tt, tt)),
  );
}

-- ---- the ask

near-whole : (p : Point) → (p ≡ center) ⊎ (p ≡ crossing) → IsNear p
near-whole p (inl e) = subst IsNear (sym e) (omega arith, omega arith, omega arith)
near-whole p (inr e) = subst IsNear (sym e) (omega arith, omega arith, omega arith)

-- where a tail goes on it meets the wall at (0, 0), at (1, 0) or nowhere
hits-near : (p : Point) → IsHit one_wall 1 upward below p → IsNear p
hits-near p (i, (t, w, h, b, l, n)) = go (tails_are_three.all t h)
  where
    on : is_on line_x p ≡ true
    on = on-wall p w l

    ahead : (u : Tail) → t ≡ u → Beyond (last_point below u.bends) (last u.root u.bends) p
    ahead u e = subst (λ (u : Tail). Beyond (last_point below u.bends) (last u.root u.bends) p) e b

    go : In t tails → IsNear p
    go (inl e) = near-whole p (inl (straight-meets p i (ahead _ e) on))
    go (inr (inl e)) = near-whole p (inr (slanted-meets p i (ahead _ e) on))
    go (inr (inr (inl e))) = absurd (bent-meets p i (ahead _ e) on)
    go (inr (inr (inr j))) = absurd j

-- the tails weigh 1, 1 and 3
weight_is : IsWeight one_wall 1 upward below 5
weight_is = (tails, tails_are_three, refl)

none-met : (p : Point) → IsMet one_wall 1 upward below p → ⊥
none-met p h = let e = plain p in let t = h.1 in cc

pub ask_has_no_fault : AskHasNoFault
ask_has_no_fault = inr (few-reached, inr ((tails, tails_are_three.all, omega arith), inr (hits-near, inr ((5, weight_is, omega arith), inr (none-met, refl)))))

pub lines_are_two : LinesAreTwo
lines_are_two = broken_lines_are_listed one_wall 1 1 upward below tails ask_is_of_wall.0 ask_is_of_wall.1 ask_has_no_fault tails_are_three

pub theta_has_two_terms : ThetaHasTwoTerms
theta_has_two_terms = theta_sums_tails one_wall 1 1 upward below tails ask_is_of_wall.0 ask_is_of_wall.1 ask_has_no_fault up-moves tails_are_three
