-- What makes a point active, and which points an order makes active.
use Rattle.std.proofs.Common.{◌≡◌, ◌≢◌, ℕ, suc, refl, subst, sym, ◌∙◌, ap, List, map, Bool, true, false, not, ◌≤◌, ◌+◌, arith, add-one, inl, inr, ◌⊎◌, [], ◌∷◌}
use Rattle.std.specs.Prelude.{pos, nat_lt, ◌&&◌, ◌||◌, filter, nat_le}
use Rattle.std.specs.List.{list_any}
use Rattle.scattering.specs.Collections.{In, Every}
use Rattle.scattering.specs.Series.{Sum, Term, degree, rest, cut, key_eq, unit, int_eq, det, dot}
use Rattle.scattering.specs.Plane.{Point, point_eq, difference}
use Rattle.scattering.specs.Wall.{Line, Incoming, Outgoing, Wall, WallKind, allows, is_on, is_live, is_line, are_parallel, crosses_to, has_term_to, cut_wall, cut_walls, Diagram, walls}
use Rattle.scattering.specs.ActivePoint.{is_active, is_incoming, walls_on, begins_at, crosses_at, is_newly_active}
use Rattle.correction_theory.proofs.ReducedRays.{live-term}
use Rattle.crossing_theory.proofs.HalfWalls.{Proper, proper}
use Rattle.completion_theory.proofs.RaisedDiagram.{lift_wall, lifted, lifted-proper, Given, givens}
use Rattle.completion_theory.proofs.LowerOrders.{lower_orders}
use Rattle.completion_theory.proofs.UniqueCompletion.{completion_is_unique}
use Rattle.completion_theory.proofs.UniqueCorrection.{rays_start_at_active_points}
use Rattle.completion_theory.specs.Laws.{ActivePointsGrow, AddedTermsActivateNothing, ActivePointsOfNextOrder, LiveRaysStartAtActivePoints}
use Rattle.scattering.specs.Completion.{lowered}
use Rattle.scattering.specs.Correction.{raised}
use Rattle.scattering.proofs.Lists.{any-true, any-some, filter-keeps, filter-from, In-map, In-append, Every-at, or-first, or-second, or-out, and-in, and-left, and-right, bool_iff, not-out, In-mapped, In-left, In-right, Every-implies}
use Rattle.scattering.proofs.Keys.{point_eq-same}
use Rattle.scattering.proofs.Tests.{nat_le-yes, nat_le-is}

-- ---- the two ways to be active

-- two walls that aren't parallel, with a term each
pub record CrossesAt (k : ℕ) (ws : List Wall) (p : Point) : Type 0 where
  pub u : Wall
  pub v : Wall
  pub u_in : In u ws
  pub v_in : In v ws
  pub u_on : is_on u p ≡ true
  pub v_on : is_on v p ≡ true
  pub across : are_parallel u v ≡ false
  pub s : Term
  pub t : Term
  pub s_in : In s (rest u.function)
  pub t_in : In t (rest v.function)
  pub low : degree s.0 + degree t.0 ≤ k

-- an incoming ray that starts there, with a term
pub record EntersAt (k : ℕ) (ws : List Wall) (p : Point) : Type 0 where
  pub w : Wall
  pub w_in : In w ws
  pub incoming : is_incoming w.kind ≡ true
  pub at : point_eq w.at p ≡ true
  pub t : Term
  pub t_in : In t (rest w.function)
  pub low : degree t.0 ≤ k

pub active-out : (k : ℕ) (ws : List Wall) (p : Point) → is_active k ws p ≡ true → CrossesAt k ws p ⊎ EntersAt k ws p
active-out k ws p e = go (or-out (list_any (λ u. list_any (crosses_to k u) (walls_on ws p)) (walls_on ws p)) (list_any (λ w. is_incoming w.kind && point_eq w.at p && has_term_to k w) ws) e)
  where
    go : (list_any (λ u. list_any (crosses_to k u) (walls_on ws p)) (walls_on ws p) ≡ true) ⊎ (list_any (λ w. is_incoming w.kind && point_eq w.at p && has_term_to k w) ws ≡ true) → CrossesAt k ws p ⊎ EntersAt k ws p
    go (inl h) =
        let u = any-some (λ u. list_any (crosses_to k u) (walls_on ws p)) (walls_on ws p) h in
        let v = any-some (crosses_to k u.0) (walls_on ws p) u.2 in
        let a = filter-from (λ w. is_on w p) ws u.0 u.1 in
        let b = filter-from (λ w. is_on w p) ws v.0 v.1 in
        let s = any-some (λ (s : Term). list_any (λ (t : Term). nat_le (degree s.0 + degree t.0) k) (rest v.0.function)) (rest u.0.function) (and-right (not (are_parallel u.0 v.0)) _ v.2) in
        let t = any-some (λ (t : Term). nat_le (degree s.0.0 + degree t.0) k) (rest v.0.function) s.2 in
        inl (record {
          u = u.0;
          v = v.0;
          u_in = a.0;
          v_in = b.0;
          u_on = a.1;
          v_on = b.1;
          across = not-out (are_parallel u.0 v.0) (and-left (not (are_parallel u.0 v.0)) _ v.2);
          s = s.0;
          t = t.0;
          s_in = s.1;
          t_in = t.1;
          low = nat_le-yes (degree s.0.0 + degree t.0.0) k t.2;
        })
    go (inr h) =
        let w = any-some (λ w. is_incoming w.kind && point_eq w.at p && has_term_to k w) ws h in
        let t = any-some (λ (t : Term). nat_le (degree t.0) k) (rest w.0.function) (and-right (is_incoming w.0.kind && point_eq w.0.at p) (has_term_to k w.0) w.2) in
        let g = and-left (is_incoming w.0.kind && point_eq w.0.at p) (has_term_to k w.0) w.2 in
        inr (record {
          w = w.0;
          w_in = w.1;
          incoming = and-left (is_incoming w.0.kind) (point_eq w.0.at p) g;
          at = and-right (is_incoming w.0.kind) (point_eq w.0.at p) g;
          t = t.0;
          t_in = t.1;
          low = nat_le-yes (degree t.0.0) k t.2;
        })

pub active-in : (k : ℕ) (ws : List Wall) (p : Point) → CrossesAt k ws p ⊎ EntersAt k ws p → is_active k ws p ≡ true
active-in k ws p (inl h) =
    or-first _ (list_any (λ w. is_incoming w.kind && point_eq w.at p && has_term_to k w) ws)
    (any-true (λ u. list_any (crosses_to k u) (walls_on ws p)) (walls_on ws p) h.u (filter-keeps (λ w. is_on w p) ws h.u h.u_in h.u_on)
    (any-true (crosses_to k h.u) (walls_on ws p) h.v (filter-keeps (λ w. is_on w p) ws h.v h.v_in h.v_on)
    (and-in (not (are_parallel h.u h.v)) _ (ap not h.across)
    (any-true (λ (s : Term). list_any (λ (t : Term). nat_le (degree s.0 + degree t.0) k) (rest h.v.function)) (rest h.u.function) h.s h.s_in
    (any-true (λ (t : Term). nat_le (degree h.s.0 + degree t.0) k) (rest h.v.function) h.t h.t_in (nat_le-is (degree h.s.0 + degree h.t.0) k h.low))))))
active-in k ws p (inr h) =
    or-second (list_any (λ u. list_any (crosses_to k u) (walls_on ws p)) (walls_on ws p)) _
    (any-true (λ w. is_incoming w.kind && point_eq w.at p && has_term_to k w) ws h.w h.w_in
    (and-in (is_incoming h.w.kind && point_eq h.w.at p) (has_term_to k h.w) (and-in (is_incoming h.w.kind) (point_eq h.w.at p) h.incoming h.at)
    (any-true (λ (t : Term). nat_le (degree t.0) k) (rest h.w.function) h.t h.t_in (nat_le-is (degree h.t.0) k h.low))))

-- ---- walls whose low terms stand in other walls

-- a wall in the same place, of the same kind, with the term
pub record Cover (ws : List Wall) (w : Wall) (t : Term) : Type 0 where
  pub wall : Wall
  pub listed : In wall ws
  pub kind : wall.kind ≡ w.kind
  pub at : wall.at ≡ w.at
  pub dir : wall.dir ≡ w.dir
  pub term : In t (rest wall.function)

-- the degrees that count for order n + 1: the other wall of a pair has one of at least 1
abbrev pub Counts : ℕ → Wall → Term → Type 0
Counts n w t = (degree t.0 ≤ n) ⊎ ((is_incoming w.kind ≡ true) × (degree t.0 ≤ suc n))

abbrev pub Covers : ℕ → List Wall → List Wall → Type 0
Covers n ws us = (w : Wall) (t : Term) → In w ws → In t (rest w.function) → Counts n w t → Cover us w t

same-place : (w u : Wall) (p : Point) → u.kind ≡ w.kind → u.at ≡ w.at → u.dir ≡ w.dir → is_on u p ≡ is_on w p
same-place w u p k a d = λ i. int_eq (det (d i) (difference (a i) p)) (pos 0) && allows (k i) (dot (d i) (difference (a i) p))

pub active-covered : (n : ℕ) (ws us : List Wall) (p : Point) → Every Proper ws → Covers n ws us → is_active (suc n) ws p ≡ true → is_active (suc n) us p ≡ true
active-covered n ws us p pr cover e = active-in (suc n) us p (go (active-out (suc n) ws p e))
  where
    positive : (w : Wall) (t : Term) → In w ws → In t (rest w.function) → 1 ≤ degree t.0
    positive w t i j = (Every-at _ (rest w.function) t (Every-at Proper ws w pr i).others j).0

    go : CrossesAt (suc n) ws p ⊎ EntersAt (suc n) ws p → CrossesAt (suc n) us p ⊎ EntersAt (suc n) us p
    go (inl h) =
        let l = h.low in
        let a = positive h.u h.s h.u_in h.s_in in
        let b = positive h.v h.t h.v_in h.t_in in
        let c = cover h.u h.s h.u_in h.s_in (inl (omega (arith, l, b))) in
        let d = cover h.v h.t h.v_in h.t_in (inl (omega (arith, l, a))) in
        let x = c.dir in let y = d.dir in
        inl (record {
          u = c.wall;
          v = d.wall;
          u_in = c.listed;
          v_in = d.listed;
          u_on = same-place h.u c.wall p c.kind c.at c.dir ∙ h.u_on;
          v_on = same-place h.v d.wall p d.kind d.at d.dir ∙ h.v_on;
          across = (λ i. int_eq (det (x i) (y i)) (pos 0)) ∙ h.across;
          s = h.s;
          t = h.t;
          s_in = c.term;
          t_in = d.term;
          low = h.low;
        })
    go (inr h) =
        let c = cover h.w h.t h.w_in h.t_in (inr (h.incoming, h.low)) in
        inr (record {
          w = c.wall;
          w_in = c.listed;
          incoming = ap is_incoming c.kind ∙ h.incoming;
          at = ap (λ (q : Point). point_eq q p) c.at ∙ h.at;
          t = h.t;
          t_in = c.term;
          low = h.low;
        })

-- ---- terms of functions that are cut

pub cut-keeps : (n : ℕ) (f : Sum) (t : Term) → In t (rest f) → degree t.0 ≤ n → In t (rest (cut n f))
cut-keeps n f t i le =
    let j = filter-from (λ (t : Term). not (key_eq t.0 unit)) f t i in
    filter-keeps (λ (t : Term). not (key_eq t.0 unit)) (cut n f) t (filter-keeps (λ (t : Term). nat_le (degree t.0) n) f t j.0 (nat_le-is (degree t.0) n le)) j.1

pub cut-from : (n : ℕ) (f : Sum) (t : Term) → In t (rest (cut n f)) → In t (rest f) × (degree t.0 ≤ n)
cut-from n f t i =
    let j = filter-from (λ (t : Term). not (key_eq t.0 unit)) (cut n f) t i in
    let l = filter-from (λ (t : Term). nat_le (degree t.0) n) f t j.0 in
    (filter-keeps (λ (t : Term). not (key_eq t.0 unit)) f t l.0 j.1, nat_le-yes (degree t.0) n l.1)

-- a live wall has a term
live-of : (w : Wall) (t : Term) → In t (rest w.function) → is_live w ≡ true
live-of w t i = any-true (λ (t : Term). true) (rest w.function) t i refl

-- ---- what the rays' terms of degree n + 1 add makes no further point active at that order

-- the walls before: lines to degree n, incoming rays to n + 1, rays cut to n
abbrev pub before : ℕ → List Wall → List Wall → List Wall
before n given rays = lifted n (suc n) given (filter is_live (cut_walls n rays))

-- and after
abbrev pub beyond : ℕ → List Wall → List Wall → List Wall
beyond n given rays = lifted (suc n) (suc (suc n)) given rays

-- a wall of the raised diagram
lift-from : (n j : ℕ) (u : Wall) (t : Term) → In t (rest (lift_wall n j u).function) → In t (rest u.function) × (degree t.0 ≤ n) ⊎ In t (rest u.function) × (is_incoming u.kind ≡ true) × (degree t.0 ≤ j)
lift-from n j u t i = go (is_incoming u.kind) refl
  where
    go : (b : Bool) → is_incoming u.kind ≡ b → In t (rest u.function) × (degree t.0 ≤ n) ⊎ In t (rest u.function) × (is_incoming u.kind ≡ true) × (degree t.0 ≤ j)
    go true e = let r = cut-from j u.function t (rw e at i) in inr (r.0, e, r.1)
    go false e = inl (cut-from n u.function t (rw e at i))

lift-keeps : (n j : ℕ) (u : Wall) (t : Term) → n ≤ j → In t (rest u.function) → (degree t.0 ≤ n) ⊎ ((is_incoming u.kind ≡ true) × (degree t.0 ≤ j)) → In t (rest (lift_wall n j u).function)
lift-keeps n j u t le i c = go (is_incoming u.kind) refl c
  where
    go : (b : Bool) → is_incoming u.kind ≡ b → (degree t.0 ≤ n) ⊎ ((is_incoming u.kind ≡ true) × (degree t.0 ≤ j)) → In t (rest (lift_wall n j u).function)
    go true e (inl l) = rw e (cut-keeps j u.function t i (omega (arith, l, le)))
    go true e (inr l) = rw e (cut-keeps j u.function t i l.1)
    go false e (inl l) = rw e (cut-keeps n u.function t i l)
    go false e (inr l) = let q = l.0 in absurd (cc)

pub record LiftPlace (n j : ℕ) (u : Wall) : Type 0 where
  pub kind : (lift_wall n j u).kind ≡ u.kind
  pub at : (lift_wall n j u).at ≡ u.at
  pub dir : (lift_wall n j u).dir ≡ u.dir

pub lift-place : (n j : ℕ) (u : Wall) → LiftPlace n j u
lift-place n j u = go (is_incoming u.kind) refl
  where
    go : (b : Bool) → is_incoming u.kind ≡ b → LiftPlace n j u
    go true e = record { kind = rw e refl; at = rw e refl; dir = rw e refl }
    go false e = record { kind = rw e refl; at = rw e refl; dir = rw e refl }

module _ (n : ℕ) (given rays : List Wall) (out : Every (λ r. r.kind ≡ Outgoing) rays) where
  earlier-covered : Covers n (before n given rays) (beyond n given rays)
  earlier-covered w t i j c = which (In-append (map (lift_wall n (suc n)) given) (filter is_live (cut_walls n rays)) w i)
    where
      which : In w (map (lift_wall n (suc n)) given) ⊎ In w (filter is_live (cut_walls n rays)) → Cover (beyond n given rays) w t
      which (inl i) =
          let u = In-map (lift_wall n (suc n)) given w i in
          let a = lift-place n (suc n) u.0 in
          let b = lift-place (suc n) (suc (suc n)) u.0 in
          record {
            wall = lift_wall (suc n) (suc (suc n)) u.0;
            listed = In-left (map (lift_wall (suc n) (suc (suc n))) given) rays _ (In-mapped (lift_wall (suc n) (suc (suc n))) given u.0 u.1);
            kind = b.kind ∙ sym a.kind ∙ ap (λ (w : Wall). w.kind) (sym u.2);
            at = b.at ∙ sym a.at ∙ ap (λ (w : Wall). w.at) (sym u.2);
            dir = b.dir ∙ sym a.dir ∙ ap (λ (w : Wall). w.dir) (sym u.2);
            term = more (lift-from n (suc n) u.0 t (subst (λ (w : Wall). In t (rest w.function)) u.2 j));
          }
        where
          more : In t (rest (In-map (lift_wall n (suc n)) given w i).0.function) × (degree t.0 ≤ n) ⊎ In t (rest (In-map (lift_wall n (suc n)) given w i).0.function) × (is_incoming (In-map (lift_wall n (suc n)) given w i).0.kind ≡ true) × (degree t.0 ≤ suc n)
              → In t (rest (lift_wall (suc n) (suc (suc n)) (In-map (lift_wall n (suc n)) given w i).0).function)
          more (inl h) = let l = h.1 in lift-keeps (suc n) (suc (suc n)) _ t (omega arith) h.0 (inl (omega (arith, l)))
          more (inr h) = let l = h.2 in lift-keeps (suc n) (suc (suc n)) _ t (omega arith) h.0 (inl (omega (arith, l)))
      which (inr i) =
          let f = filter-from is_live (cut_walls n rays) w i in
          let r = In-map (cut_wall n) rays w f.0 in
          record {
            wall = r.0;
            listed = In-right (map (lift_wall (suc n) (suc (suc n))) given) rays r.0 r.1;
            kind = ap (λ (w : Wall). w.kind) (sym r.2);
            at = ap (λ (w : Wall). w.at) (sym r.2);
            dir = ap (λ (w : Wall). w.dir) (sym r.2);
            term = (cut-from n r.0.function t (subst (λ (w : Wall). In t (rest w.function)) r.2 j)).0;
          }

  later-covered : Covers n (beyond n given rays) (before n given rays)
  later-covered w t i j c = which (In-append (map (lift_wall (suc n) (suc (suc n))) given) rays w i)
    where
      which : In w (map (lift_wall (suc n) (suc (suc n))) given) ⊎ In w rays → Cover (before n given rays) w t
      which (inl i) =
          let u = In-map (lift_wall (suc n) (suc (suc n))) given w i in
          let a = lift-place n (suc n) u.0 in
          let b = lift-place (suc n) (suc (suc n)) u.0 in
          record {
            wall = lift_wall n (suc n) u.0;
            listed = In-left (map (lift_wall n (suc n)) given) (filter is_live (cut_walls n rays)) _ (In-mapped (lift_wall n (suc n)) given u.0 u.1);
            kind = a.kind ∙ sym b.kind ∙ ap (λ (w : Wall). w.kind) (sym u.2);
            at = a.at ∙ sym b.at ∙ ap (λ (w : Wall). w.at) (sym u.2);
            dir = a.dir ∙ sym b.dir ∙ ap (λ (w : Wall). w.dir) (sym u.2);
            term = lift-keeps n (suc n) u.0 t (omega arith) (given-term (lift-from (suc n) (suc (suc n)) u.0 t (subst (λ (w : Wall). In t (rest w.function)) u.2 j))) (counts c);
          }
        where
          given-term : In t (rest (In-map (lift_wall (suc n) (suc (suc n))) given w i).0.function) × (degree t.0 ≤ suc n) ⊎ In t (rest (In-map (lift_wall (suc n) (suc (suc n))) given w i).0.function) × (is_incoming (In-map (lift_wall (suc n) (suc (suc n))) given w i).0.kind ≡ true) × (degree t.0 ≤ suc (suc n))
              → In t (rest (In-map (lift_wall (suc n) (suc (suc n))) given w i).0.function)
          given-term (inl h) = h.0
          given-term (inr h) = h.0

          counts : Counts n w t → (degree t.0 ≤ n) ⊎ ((is_incoming (In-map (lift_wall (suc n) (suc (suc n))) given w i).0.kind ≡ true) × (degree t.0 ≤ suc n))
          counts (inl l) = inl l
          counts (inr l) =
              let u = In-map (lift_wall (suc n) (suc (suc n))) given w i in
              inr (ap is_incoming (sym (lift-place (suc n) (suc (suc n)) u.0).kind ∙ ap (λ (w : Wall). w.kind) (sym u.2)) ∙ l.0, l.1)
      which (inr i) =
          let k = cut-keeps n w.function t j (low c) in
          record {
            wall = cut_wall n w;
            listed = In-right (map (lift_wall n (suc n)) given) (filter is_live (cut_walls n rays)) _ (filter-keeps is_live (cut_walls n rays) (cut_wall n w) (In-mapped (cut_wall n) rays w i) (live-of (cut_wall n w) t k));
            kind = refl;
            at = refl;
            dir = refl;
            term = k;
          }
        where
          low : Counts n w t → degree t.0 ≤ n
          low (inl l) = l
          low (inr l) = absurd (clash (sym (ap is_incoming (Every-at (λ r. r.kind ≡ Outgoing) rays w out i)) ∙ l.0))
            where
              clash : false ≡ true → ⊥
              clash q = cc

  pub same-active : (p : Point) → Every Proper (before n given rays) → Every Proper (beyond n given rays) → is_active (suc n) (beyond n given rays) p ≡ is_active (suc n) (before n given rays) p
  same-active p a b =
      bool_iff _ _
      (active-covered n (beyond n given rays) (before n given rays) p b later-covered)
      (active-covered n (before n given rays) (beyond n given rays) p a earlier-covered)

-- ---- one order more makes active what has exactly that order

four : (a b c d : Bool) → ((a || b) || (c || d)) ≡ ((a || c) || (b || d))
four true b c d = refl
four false true true d = refl
four false true false d = refl
four false false c d = refl

any-or : {A : Type 0} (P Q : A → Bool) (xs : List A) → list_any (λ x. P x || Q x) xs ≡ (list_any P xs || list_any Q xs)
any-or P Q [] = refl
any-or P Q (x ∷ xs) = ap (λ (b : Bool). (P x || Q x) || b) (any-or P Q xs) ∙ four (P x) (Q x) (list_any P xs) (list_any Q xs)

any-ext : {A : Type 0} (P Q : A → Bool) (xs : List A) → ((x : A) → P x ≡ Q x) → list_any P xs ≡ list_any Q xs
any-ext P Q [] h = refl
any-ext P Q (x ∷ xs) h = rw (h x, any-ext P Q xs h) refl

below-next : (d n : ℕ) → nat_lt d (suc n) ≡ nat_le d n
below-next d n = grind arith

more-next : (d n : ℕ) → nat_le d n ≡ true → nat_le d (suc n) ≡ true
more-next d n e = grind arith

any-weaker : {A : Type 0} (P Q : A → Bool) (xs : List A) → ((x : A) → P x ≡ true → Q x ≡ true) → list_any P xs ≡ true → list_any Q xs ≡ true
any-weaker P Q xs h e = let x = any-some P xs e in any-true Q xs x.0 x.1 (h x.0 x.2)

-- a is kept, b gives c, and l is b
exact : (a b c l : Bool) → (b ≡ true → c ≡ true) → l ≡ b → (a && c) ≡ ((a && b) || ((a && c) && not l))
exact true true c l f e = f refl
exact true false true l f e = rw e refl
exact true false false l f e = refl
exact false b c l f e = refl

crosses-next : (n : ℕ) (u v : Wall) → crosses_to (suc n) u v ≡ (crosses_to n u v || crosses_at (suc n) u v)
crosses-next n u v =
    exact (not (are_parallel u v)) _ _ _
    (any-weaker _ _ (rest u.function) (λ s. any-weaker _ _ (rest v.function) (λ t. more-next (degree s.0 + degree t.0) n)))
    (any-ext _ _ (rest u.function) (λ s. any-ext _ _ (rest v.function) (λ t. below-next (degree s.0 + degree t.0) n)))

enters-next : (n : ℕ) (p : Point) (w : Wall) → (is_incoming w.kind && point_eq w.at p && has_term_to (suc n) w) ≡ ((is_incoming w.kind && point_eq w.at p && has_term_to n w) || (is_incoming w.kind && point_eq w.at p && begins_at (suc n) w))
enters-next n p w =
    exact (is_incoming w.kind && point_eq w.at p) (has_term_to n w) (has_term_to (suc n) w) (list_any (λ (t : Term). nat_lt (degree t.0) (suc n)) (rest w.function))
    (any-weaker _ _ (rest w.function) (λ t. more-next (degree t.0) n))
    (any-ext _ _ (rest w.function) (λ t. below-next (degree t.0) n))
    ∙ ap (λ (b : Bool). (is_incoming w.kind && point_eq w.at p && has_term_to n w) || b) (grouped (is_incoming w.kind && point_eq w.at p) (has_term_to (suc n) w) _)
  where
    grouped : (a b c : Bool) → ((a && b) && c) ≡ (a && (b && c))
    grouped true b c = refl
    grouped false b c = refl

active-next : (n : ℕ) (ws : List Wall) (p : Point) → is_active (suc n) ws p ≡ (is_active n ws p || is_newly_active (suc n) ws p)
active-next n ws p =
    (λ i. crossing i || entering i)
    ∙ four (list_any (λ u. list_any (crosses_to n u) (walls_on ws p)) (walls_on ws p)) (list_any (λ u. list_any (crosses_at (suc n) u) (walls_on ws p)) (walls_on ws p))
    (list_any (λ w. is_incoming w.kind && point_eq w.at p && has_term_to n w) ws) (list_any (λ w. is_incoming w.kind && point_eq w.at p && begins_at (suc n) w) ws)
  where
    crossing : list_any (λ u. list_any (crosses_to (suc n) u) (walls_on ws p)) (walls_on ws p) ≡ (list_any (λ u. list_any (crosses_to n u) (walls_on ws p)) (walls_on ws p) || list_any (λ u. list_any (crosses_at (suc n) u) (walls_on ws p)) (walls_on ws p))
    crossing =
        any-ext _ _ (walls_on ws p) (λ u. any-ext _ _ (walls_on ws p) (crosses-next n u) ∙ any-or (crosses_to n u) (crosses_at (suc n) u) (walls_on ws p))
        ∙ any-or (λ u. list_any (crosses_to n u) (walls_on ws p)) (λ u. list_any (crosses_at (suc n) u) (walls_on ws p)) (walls_on ws p)

    entering : list_any (λ w. is_incoming w.kind && point_eq w.at p && has_term_to (suc n) w) ws ≡ (list_any (λ w. is_incoming w.kind && point_eq w.at p && has_term_to n w) ws || list_any (λ w. is_incoming w.kind && point_eq w.at p && begins_at (suc n) w) ws)
    entering = any-ext _ _ ws (enters-next n p) ∙ any-or (λ w. is_incoming w.kind && point_eq w.at p && has_term_to n w) (λ w. is_incoming w.kind && point_eq w.at p && begins_at (suc n) w) ws

-- ---- the laws

pub active_points_grow : ActivePointsGrow
active_points_grow n ws p = subst (λ j. is_active j ws p ≡ (is_active n ws p || is_newly_active j ws p)) (sym (add-one n)) (active-next n ws p)

pub added_terms_activate_nothing : AddedTermsActivateNothing
added_terms_activate_nothing given n m e e' le hg hk c c' p =
    subst (λ j. is_active j (lifted j (j + 1) given e'.rays) p ≡ is_active j (lifted n j given e.rays) p) (sym (add-one n))
    (subst (λ j. is_active (suc n) (lifted (suc n) j given e'.rays) p ≡ is_active (suc n) (lifted n (suc n) given e.rays) p) (sym (add-one (suc n)))
    (subst (λ rays. is_active (suc n) (beyond n given e'.rays) p ≡ is_active (suc n) (lifted n (suc n) given rays) p) (sym old)
    (same-active n given e'.rays c'.outgoing p
    (subst (λ rays. Every Proper (lifted n (suc n) given rays)) old (lifted-proper n (suc n) given e.rays gs (Every-implies _ Proper e.rays (λ r w. proper n r w) c.proper)))
    (lifted-proper (suc n) (suc (suc n)) given e'.rays gs (Every-implies _ Proper e'.rays (λ r w. proper (n + 1) r w) c'.proper)))))
  where
    gs : Every Given given
    gs = givens m given hg hk

    -- the rays before are those after, cut
    old : e.rays ≡ filter is_live (cut_walls n e'.rays)
    old = ap (λ (d : Diagram). d.rays) (completion_is_unique given n m e (lowered n e') (omega (arith, le)) hg c (lower_orders given n (n + 1) m e' (omega arith) le hg c'))

pub active_points_of_next_order : ActivePointsOfNextOrder
active_points_of_next_order given n m e e' le hg hk c c' p =
    active_points_grow (n + 1) (walls (raised given (n + 1) e')) p
    ∙ ap (λ (b : Bool). b || is_newly_active (n + 1 + 1) (walls (raised given (n + 1) e')) p) (added_terms_activate_nothing given n m e e' le hg hk c c' p)

-- a live ray, incoming ones included
pub live_rays_start_at_active_points : LiveRaysStartAtActivePoints
live_rays_start_at_active_points given n m e r p le hg hk c i live s = which (In-append (map (lift_wall n (n + 1)) given) e.rays r i)
  where
    at : point_eq r.at p ≡ true
    at = and-right (not (is_line r.kind)) (point_eq r.at p) s

    incoming-of : (k : WallKind) → not (is_line k) ≡ true → k ≢ Outgoing → is_incoming k ≡ true
    incoming-of Line a b = absurd (cc)
    incoming-of Incoming a b = refl
    incoming-of Outgoing a b = absurd (b refl)

    which : In r (map (lift_wall n (n + 1)) given) ⊎ In r e.rays → is_active (n + 1) (lifted n (n + 1) given e.rays) p ≡ true
    which (inl j) =
        let u = In-map (lift_wall n (n + 1)) given r j in
        let a = lift-place n (n + 1) u.0 in
        let t = live-term r live in
        let enters : is_incoming u.0.kind ≡ true = incoming-of u.0.kind (ap (λ (k : WallKind). not (is_line k)) (sym a.kind ∙ ap (λ (w : Wall). w.kind) (sym u.2)) ∙ and-left (not (is_line r.kind)) (point_eq r.at p) s) (Every-at _ given u.0 hk u.1) in
        active-in (n + 1) (lifted n (n + 1) given e.rays) p
        (inr (record {
          w = r;
          w_in = i;
          at = at;
          t = t.0;
          t_in = t.1;
          incoming = ap is_incoming (ap (λ (w : Wall). w.kind) u.2 ∙ a.kind) ∙ enters;
          low = low-of u.0 t.0 (lift-from n (n + 1) u.0 t.0 (subst (λ (w : Wall). In t.0 (rest w.function)) u.2 t.1));
        }))
      where
        low-of : (u : Wall) (t : Term) → In t (rest u.function) × (degree t.0 ≤ n) ⊎ In t (rest u.function) × (is_incoming u.kind ≡ true) × (degree t.0 ≤ n + 1) → degree t.0 ≤ n + 1
        low-of u t (inl h) = let l = h.1 in omega (arith, l)
        low-of u t (inr h) = h.2
    which (inr j) = subst (λ (q : Point). is_active (n + 1) (lifted n (n + 1) given e.rays) q ≡ true) (point_eq-same r.at p at) (rays_start_at_active_points given n m e r le hg hk c j)
