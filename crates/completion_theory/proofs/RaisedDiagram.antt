-- The walls from which the next order is made, and points that aren't active there.
use Rattle.std.proofs.Common.{◌≡◌, ◌≢◌, ℕ, suc, refl, subst, sym, ◌∙◌, ap, List, [], ◌∷◌, ◌++◌, map, Bool, true, false, cond, not, ◌≤◌, ◌+◌, arith, inl, inr, add-one}
use Rattle.std.specs.Prelude.{◌&&◌, IsTrue, IsFalse, nat_le}
use Rattle.std.specs.List.{list_any}
use Rattle.scattering.specs.Collections.{In, Every}
use Rattle.scattering.specs.Series.{Key, Sum, Exp, Term, degree, rest, cut, coef, z, monomial, SameTo}
use Rattle.scattering.specs.Series as D
use Rattle.scattering.specs.Plane.{Point, point_eq}
use Rattle.scattering.specs.Wall.{WallKind, Line, Incoming, Outgoing, Wall, IsWall, is_live, is_on, is_line, starts_at, has_term_to, crosses_to, cut_wall, cut_walls}
use Rattle.scattering.specs.LocalProduct.{image, axis_x, axis_y, IsConsistentAt}
use Rattle.scattering.specs.Completion.{IsReduced}
use Rattle.scattering.specs.ActivePoint.{is_incoming, is_active, walls_on}
use Rattle.scattering.proofs.Lists.{Every-append, any-weaken, any-none, filter-keeps, Every-from_In, Every-at, any-false, In-map, filter-from, map-append, Every-mapped, and-right, or-left, or-right, Every-implies}
use Rattle.scattering.proofs.Coefficients.{cut-low, cut-cut}
use Rattle.crossing_theory.proofs.Translation.{Eq, to_Eq, from_Eq}
use Rattle.crossing_theory.proofs.HalfWalls.{Proper, proper, small}
use Rattle.crossing_theory.proofs.Carrying.{Passes}
use Rattle.crossing_theory.proofs.PassivePoints.{Quiet, passive}
use Rattle.crossing_theory.proofs.OtherFunctions.{refit}
use Rattle.crossing_theory.proofs.CutFunctions.{proper-cut}
use Rattle.completion_theory.proofs.RayStarts.{quiet-refit, no-start}
use Rattle.completion_theory.specs.Laws.{PassivePointsAreConsistent}

-- ---- cuts

pub cut-rays : (n : ℕ) (rays : List Wall) → Every (IsWall n) rays → cut_walls n rays ≡ rays
cut-rays n [] h = refl
cut-rays n (r ∷ rays) h =
    let f : cut n r.function ≡ r.function = cut-low n r.function h.0.function.series.low in
    let t : cut_walls n rays ≡ rays = cut-rays n rays h.1 in
    λ i. record { kind = r.kind; at = r.at; dir = r.dir; function = f i } ∷ t i

-- ---- initial walls for the next order

abbrev pub lift_wall : ℕ → ℕ → Wall → Wall
lift_wall n j w = cond (is_incoming w.kind) (cut_wall j w) (cut_wall n w)

abbrev pub lifted : ℕ → ℕ → List Wall → List Wall → List Wall
lifted n j given rays = map (lift_wall n j) given ++ rays

cut-lift : (n : ℕ) (j : ℕ) → n ≤ j → (w : Wall) → cut_wall n (lift_wall n j w) ≡ cut_wall n w
cut-lift n j le w = go (is_incoming w.kind) refl
  where
    go : (b : Bool) → is_incoming w.kind ≡ b → cut_wall n (lift_wall n j w) ≡ cut_wall n w
    go true e = rw e (ap (λ (f : Sum). record w { function = f }) (cut-cut n j le w.function))
    go false e = rw e (ap (λ (f : Sum). record w { function = f }) (cut-cut n n (omega arith) w.function))

cut-lifts : (n j : ℕ) → n ≤ j → (given : List Wall) → cut_walls n (map (lift_wall n j) given) ≡ cut_walls n given
cut-lifts n j le [] = refl
cut-lifts n j le (w ∷ given) = let a = cut-lift n j le w in let b = cut-lifts n j le given in λ i. a i ∷ b i

pub cut-lifted : (n j : ℕ) → n ≤ j → (given rays : List Wall) → Every (IsWall n) rays → cut_walls n (lifted n j given rays) ≡ cut_walls n given ++ rays
cut-lifted n j le given rays h =
    map-append (cut_wall n) (map (lift_wall n j) given) rays
    ∙ ap (λ xs. xs ++ cut_walls n rays) (cut-lifts n j le given) ∙ ap (λ ys. cut_walls n given ++ ys) (cut-rays n rays h)

-- a wall of the given ones, at an order of its own
pub record Given (w : Wall) : Type 0 where
  pub proper : Proper w
  pub initial : w.kind ≢ Outgoing

pub given-cut : (n : ℕ) (w : Wall) → Given w → Given (cut_wall n w)
given-cut n w g = record { proper = proper-cut n w g.proper; initial = g.initial }

pub given-lift : (n j : ℕ) (w : Wall) → Given w → Given (lift_wall n j w)
given-lift n j w g = go (is_incoming w.kind) refl
  where
    go : (b : Bool) → is_incoming w.kind ≡ b → Given (lift_wall n j w)
    go true e = rw e (given-cut j w g)
    go false e = rw e (given-cut n w g)

pub lifted-proper : (n j : ℕ) (given rays : List Wall) → Every Given given → Every Proper rays → Every Proper (lifted n j given rays)
lifted-proper n j given rays gs pr =
    Every-append Proper (map (lift_wall n j) given) rays
    (Every-implies Given Proper (map (lift_wall n j) given) (λ w g. g.proper) (Every-mapped Given (lift_wall n j) given (given-lift n j) gs)) pr

-- ---- a point that isn't active

pub quiet-of : (k : ℕ) (ws : List Wall) (p : Point) → is_active k ws p ≡ false → Quiet k ws p
quiet-of k ws p e = record {
  quiet = λ u v i j a b.
      any-none (crosses_to k u) (walls_on ws p)
      (any-none (λ u. list_any (crosses_to k u) (walls_on ws p)) (walls_on ws p) (or-left _ _ e) u (filter-keeps (λ w. is_on w p) ws u i a))
      v (filter-keeps (λ w. is_on w p) ws v j b);
}

-- an initial wall that starts there has no term to that order
pub still-of : (k : ℕ) (ws : List Wall) (p : Point) → is_active k ws p ≡ false → (w : Wall) → In w ws → w.kind ≢ Outgoing → starts_at w p ≡ true → has_term_to k w ≡ false
still-of k ws p e w i out s = go w.kind refl
  where
    known : (is_incoming w.kind && point_eq w.at p && has_term_to k w) ≡ false
    known = any-none (λ w. is_incoming w.kind && point_eq w.at p && has_term_to k w) ws (or-right (list_any (λ u. list_any (crosses_to k u) (walls_on ws p)) (walls_on ws p)) _ e) w i

    clash : (not (is_line Line) && point_eq w.at p) ≡ true → ⊥
    clash q = absurd (cc)

    go : (q : WallKind) → w.kind ≡ q → has_term_to k w ≡ false
    go Line q = absurd (clash (subst (λ (x : WallKind). (not (is_line x) && point_eq w.at p) ≡ true) q s))
    go Incoming q = last (and-right (not (is_line w.kind)) (point_eq w.at p) s) (subst (λ (x : WallKind). (is_incoming x && point_eq w.at p && has_term_to k w) ≡ false) q known)
      where
        last : point_eq w.at p ≡ true → (true && point_eq w.at p && has_term_to k w) ≡ false → has_term_to k w ≡ false
        last a b = rw a at b
    go Outgoing q = absurd (out q)

fewer : (n k : ℕ) (f : Sum) → n ≤ k → list_any (λ (t : Term). nat_le (degree t.0) k) f ≡ false → list_any (λ (t : Term). nat_le (degree t.0) n) f ≡ false
fewer n k f le e = any-weaken _ _ f (λ t h. less (degree t.0) h) e
  where
    less : (d : ℕ) → nat_le d k ≡ false → nat_le d n ≡ false
    less d h = grind arith

pub rest-cut-term : (n : ℕ) (w : Wall) (t : Term) → In t (rest (cut n w.function)) → In t (rest w.function)
rest-cut-term n w t i =
    let j = filter-from (λ (t : Term). not (D.key_eq t.0 D.unit)) (cut n w.function) t i in
    let l = filter-from (λ (t : Term). nat_le (degree t.0) n) w.function t j.0 in
    filter-keeps (λ (t : Term). not (D.key_eq t.0 D.unit)) w.function t l.0 j.1

has_term-cut : (n k : ℕ) (w : Wall) → n ≤ k → has_term_to k w ≡ false → has_term_to n (cut_wall n w) ≡ false
has_term-cut n k w le e = any-false _ (rest (cut n w.function)) (λ t i. any-none (λ (t : Term). nat_le (degree t.0) n) (rest w.function) (fewer n k (rest w.function) le e) t (rest-cut-term n w t i))

module _ (given rays : List Wall) (n : ℕ) (hg : Every Given given)
    (outgoing : Every (λ r. r.kind ≡ Outgoing) rays) (wall : Every (IsWall n) rays) (red : IsReduced rays)
    (p : Point) (cons : IsConsistentAt (cut_walls n given ++ rays) n p) where
  abbrev ws : List Wall
  ws = lifted n (suc n) given rays

  module _ (passive_p : is_active (suc n) ws p ≡ false) where
    cut-ws : map (refit (λ w. cut n w.function)) ws ≡ cut_walls n given ++ rays
    cut-ws = cut-lifted n (suc n) (omega arith) given rays wall

    given-lifted : Every Given (map (lift_wall n (suc n)) given)
    given-lifted = Every-mapped Given (lift_wall n (suc n)) given (given-lift n (suc n)) hg

    In-left : (xs ys : List Wall) (x : Wall) → In x xs → In x (xs ++ ys)
    In-left [] ys x i = absurd i
    In-left (y ∷ xs) ys x (inl e) = inl e
    In-left (y ∷ xs) ys x (inr i) = inr (In-left xs ys x i)

    still : Every (λ w. starts_at w p ≡ true → has_term_to n w ≡ false) (cut_walls n given)
    still =
        subst (Every (λ w. starts_at w p ≡ true → has_term_to n w ≡ false)) (cut-lifts n (suc n) (omega arith) given)
        (Every-from_In _ _ (λ w i s. go w s (In-map (cut_wall n) (map (lift_wall n (suc n)) given) w i)))
      where
        go : (w : Wall) → starts_at w p ≡ true → (u : Wall) × In u (map (lift_wall n (suc n)) given) × (w ≡ cut_wall n u) → has_term_to n w ≡ false
        go w s u =
            let e = still-of (suc n) ws p passive_p u.0 (In-left _ rays u.0 u.1) (Every-at Given _ u.0 given-lifted u.1).initial (subst (λ (w : Wall). starts_at w p ≡ true) u.2 s) in
            subst (λ (w : Wall). has_term_to n w ≡ false) (sym u.2) (has_term-cut n (suc n) u.0 (omega arith) e)

    axes : (m : Exp) → In m (axis_x ∷ axis_y ∷ []) → Eq n (image (cut_walls n given ++ rays) p n m) (monomial (z m))
    axes m (inl e) = subst (λ (m : Exp). Eq n (image (cut_walls n given ++ rays) p n m) (monomial (z m))) (sym e) (to_Eq n _ _ cons.x)
    axes m (inr (inl e)) = subst (λ (m : Exp). Eq n (image (cut_walls n given ++ rays) p n m) (monomial (z m))) (sym e) (to_Eq n _ _ cons.y)
    axes m (inr (inr x)) = elim x [ ]

    both : {A : Type 0} (P Q : A → Type 0) (xs : List A) → Every P xs → Every Q xs → Every (λ x. P x × Q x) xs
    both P Q [] h i = tt
    both P Q (x ∷ xs) h i = ((h.0, i.0), both P Q xs h.1 i.1)

    -- a live ray starts only at an active point
    pub no-ray-starts : (r : Wall) → In r rays → starts_at r p ≡ false
    no-ray-starts r i =
        no-start n (cut_walls n given) rays p
        (Every-implies Given _ (cut_walls n given) (λ w g. (g.initial, g.proper)) (Every-mapped Given (cut_wall n) given (given-cut n) hg))
        (both _ _ rays outgoing wall) red.rises
        (subst (λ us. Quiet n us p) cut-ws (quiet-refit (suc n) n (λ w. cut n w.function) ws p (omega arith) (λ w t j. rest-cut-term n w t j) (quiet-of (suc n) ws p passive_p)))
        still axes r i (Every-at (λ r. IsTrue (is_live r)) rays r red.live i)

    pub passive-image : (m : Exp) → Eq (suc n) (image ws p (suc n) m) (monomial (z m))
    passive-image m =
        passive (suc n) ws p
        (Every-append (Passes (suc n) p) (map (lift_wall n (suc n)) given) rays
        (Every-from_In _ _ (λ w i. let g = Every-at Given _ w given-lifted i in (g.proper, λ s. small (suc n) w g.proper (still-of (suc n) ws p passive_p w (In-left _ rays w i) g.initial s))))
        (Every-from_In _ _ (λ r i. (proper n r (Every-at (IsWall n) rays r wall i), λ s. let e = no-ray-starts r i in absurd (cc)))))
        (quiet-of (suc n) ws p passive_p) m

-- ---- the law

pub givens : (m : ℕ) (given : List Wall) → Every (IsWall m) given → Every (λ w. w.kind ≢ Outgoing) given → Every Given given
givens m [] h i = tt
givens m (w ∷ given) h i = (record { proper = proper m w h.0; initial = i.0 }, givens m given h.1 i.1)

at-next : (given rays : List Wall) (n : ℕ) (p : Point) → Every Given given → Every (λ r. r.kind ≡ Outgoing) rays → Every (IsWall n) rays → IsReduced rays → IsConsistentAt (cut_walls n given ++ rays) n p
    → (j : ℕ) → j ≡ suc n → IsFalse (is_active j (lifted n j given rays) p) → IsConsistentAt (lifted n j given rays) j p
at-next given rays n p hg o w r c j e =
    subst (λ j. IsFalse (is_active j (lifted n j given rays) p) → IsConsistentAt (lifted n j given rays) j p) (sym e)
    (λ f. record { x = from_Eq (suc n) _ _ (passive-image given rays n hg o w r p c f axis_x); y = from_Eq (suc n) _ _ (passive-image given rays n hg o w r p c f axis_y) })

pub passive_points_are_consistent : PassivePointsAreConsistent
passive_points_are_consistent given n m e p le hw hk c ip f =
    at-next given e.rays n p (givens m given hw hk) c.outgoing c.proper c.reduced
    (subst (λ xs. IsConsistentAt (xs ++ e.rays) n p) c.initial (c.consistent p ip)) (n + 1) (add-one n) f
