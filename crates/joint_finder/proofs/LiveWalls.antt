-- Live walls of the program, and that their meetings are the active points.
use Rattle.std.proofs.Common.{◌≡◌, ℕ, ◌+◌, ◌<◌, ◌≤◌, refl, sym, ap, subst, ◌∙◌, List, [], ◌∷◌, ◌++◌, Bool, true, false, not, append_assoc, length, get_or, take, arith, ◌⊎◌, inl, inr}
use Rattle.std.specs.Prelude.{ℤ, pos, neg_ℤ, IsTrue, nat_le, nat_lt}
use Rattle.std.specs.List.Sorted.{IsPermutation}
use Rattle.std.proofs.lemmas.Int.{ints}
use Rattle.sum_algebra.proofs.Ring.{minus, ring}
use Rattle.sum_algebra.proofs.IntegerRing.{ints_ring, ◌:*◌, ◌:-◌, X, Y, Z}
use Rattle.sum_algebra.proofs.Ring as E
use Rattle.scattering.specs.Collections.{In, Every}
use Rattle.scattering.specs.Series.{Exp, Term, degree, rest, det}
use Rattle.scattering.specs.Plane.{Point, IsPoint}
use Rattle.std.specs.List.{flat_map}
use Rattle.scattering.specs.SupportingLine.{runs}
use Rattle.scattering.specs.Wall.{Wall, IsWall, is_live, are_parallel, has_term_to}
use Rattle.crossing_theory.proofs.SupportingLines.{In-runs, runs-In}
use Rattle.scatter_diagram.specs.Kinds.{kind_of}
use Rattle.scatter_diagram.specs.declared.wall.WallKind.{WallKind as CodeKind}
use Rattle.scatter_diagram.specs.declared.wall.WallKind.TheVariants.{Line as LineKind, Outgoing as OutgoingKind}
use Rattle.scattering.specs.ActivePoint.{is_active, is_incoming, begins_at}
use Rattle.scattering.proofs.Lists.{and-left, and-right, any-none, any-true, any-some, Every-at, In-append, In-left, In-right, map-append}
use Rattle.scattering.proofs.Keys.{int_eq-same}
use Rattle.plane_theory.proofs.PlacesOnWalls.{zero-in}
use Rattle.completion_theory.proofs.ActivePoints.{CrossesAt, EntersAt, active-in, active-out}
use Rattle.plane_geom.specs.declared.Support.{Support}
use Rattle.plane_geom.specs.declared.Support.TheVariants.{Line as WholeLine, Half}
use Rattle.plane_geom.specs.Shown.{support_dir}
use Rattle.scatter_diagram.specs.Degrees.{opposite}
use Rattle.scatter_diagram.specs.Shown.{wall_of, walls_of, IsSupportOf}
use Rattle.scatter_diagram.specs.declared.wall.Wall.{Wall as CodeWall}
use Rattle.std.proofs.lemmas.List.{take_more}
use Rattle.joint_finder.specs.declared.live.LiveWall.{LiveWall}
use Rattle.joint_finder.specs.Live.{Shows, AreLive}
use Rattle.joint_finder.specs.Crossings.{Meets, AreMeeting}
use Rattle.joint_finder.specs.Strands.{IsSameUpToSign}
use Rattle.joint_finder.proofs.Lists.{In-permutation}

pub support-dir : (w : Wall) (s : Support) → IsSupportOf w s → (support_dir s ≡ w.dir) ⊎ (support_dir s ≡ opposite w.dir)
support-dir w (WholeLine p d) h = inl h.2
support-dir w (Half p d) h = inr h.2

-- ---- lists of live walls

pub none-live : AreLive [] []
none-live = record { each = λ l i. absurd i; all = λ w i e. absurd i }

pub live-more : (ls : List LiveWall) (ws : List Wall) (l : LiveWall) (w : Wall) → AreLive ls ws → Shows l w → AreLive (ls ++ l ∷ []) (ws ++ w ∷ [])
live-more ls ws l w h s = record { each = each; all = all }
  where
    last : In w (ws ++ w ∷ [])
    last = In-right ws (w ∷ []) w (inl refl)

    each : (m : LiveWall) → In m (ls ++ l ∷ []) → (v : Wall) × In v (ws ++ w ∷ []) × Shows m v
    each m i = go (In-append ls (l ∷ []) m i)
      where
        go : In m ls ⊎ In m (l ∷ []) → (v : Wall) × In v (ws ++ w ∷ []) × Shows m v
        go (inl j) = let r = h.each m j in (r.0, In-left ws (w ∷ []) r.0 r.1, r.2)
        go (inr (inl e)) = (w, last, subst (λ (k : LiveWall). Shows k w) (sym e) s)
        go (inr (inr f)) = absurd f

    all : (v : Wall) → In v (ws ++ w ∷ []) → IsTrue (is_live v) → (m : LiveWall) × In m (ls ++ l ∷ []) × Shows m v
    all v i e = go (In-append ws (w ∷ []) v i)
      where
        go : In v ws ⊎ In v (w ∷ []) → (m : LiveWall) × In m (ls ++ l ∷ []) × Shows m v
        go (inl j) = let r = h.all v j e in (r.0, In-left ls (l ∷ []) r.0 r.1, r.2)
        go (inr (inl q)) = (l, In-right ls (l ∷ []) l (inl refl), subst (Shows l) (sym q) s)
        go (inr (inr f)) = absurd f

pub live-skip : (ls : List LiveWall) (ws : List Wall) (w : Wall) → AreLive ls ws → is_live w ≡ false → AreLive ls (ws ++ w ∷ [])
live-skip ls ws w h dead = record { each = λ m i. let r = h.each m i in (r.0, In-left ws (w ∷ []) r.0 r.1, r.2); all = all }
  where
    all : (v : Wall) → In v (ws ++ w ∷ []) → IsTrue (is_live v) → (m : LiveWall) × In m ls × Shows m v
    all v i e = go (In-append ws (w ∷ []) v i)
      where
        go : In v ws ⊎ In v (w ∷ []) → (m : LiveWall) × In m ls × Shows m v
        go (inl j) = h.all v j e
        go (inr (inl q)) = let d = ap is_live q ∙ dead in absurd (cc)
        go (inr (inr f)) = absurd f

pub walls-more : (seen : List Wall) (ws : List CodeWall) (i : ℕ) (w : CodeWall) → i < length ws → w ≡ get_or ws i w → seen ++ walls_of (take (i + 1) ws) ≡ (seen ++ walls_of (take i ws)) ++ wall_of w ∷ []
walls-more seen ws i w l e =
    ap (λ vs. seen ++ walls_of vs) (take_more ws i w l ∙ ap (λ v. take i ws ++ v ∷ []) (sym e)) ∙ ap (λ vs. seen ++ vs) (map-append wall_of (take i ws) (w ∷ []))
    ∙ sym (append_assoc seen (walls_of (take i ws)) (wall_of w ∷ []))

pub live-permutation : (ls ms : List LiveWall) (ws : List Wall) → IsPermutation ls ms → IsPermutation ms ls → AreLive ls ws → AreLive ms ws
live-permutation ls ms ws p q h = record {
  each = λ l i. h.each l (In-permutation ms ls l q i);
  all = λ w i e. let r = h.all w i e in (r.0, In-permutation ls ms r.0 p r.1, r.2);
}

-- ---- least degrees

least-term : (n : ℕ) (w : Wall) → IsTrue (begins_at n w) → (t : Term) × In t (rest w.function) × (degree t.0 ≤ n)
least-term n w h =
    let r = any-some (λ (t : Term). nat_le (degree t.0) n) (rest w.function) (and-left (has_term_to n w) _ h) in
    (r.0, r.1, low (degree r.0.0) r.2)
  where
    low : (d : ℕ) → nat_le d n ≡ true → d ≤ n
    low d e = grind arith

least-below : (n : ℕ) (w : Wall) (t : Term) → IsTrue (begins_at n w) → In t (rest w.function) → n ≤ degree t.0
least-below n w t h i =
    let e = not-true _ (and-right (has_term_to n w) _ h) in
    high (degree t.0) (any-none (λ (t : Term). nat_lt (degree t.0) n) (rest w.function) e t i)
  where
    not-true : (b : Bool) → not b ≡ true → b ≡ false
    not-true true e = absurd (cc)
    not-true false e = refl

    high : (d : ℕ) → nat_lt d n ≡ false → n ≤ d
    high d e = grind arith

begins-live : (n : ℕ) (w : Wall) → IsTrue (begins_at n w) → IsTrue (is_live w)
begins-live n w h = let r = least-term n w h in any-true (λ (t : Term). true) (rest w.function) r.0 r.1 refl

term-live : (w : Wall) (t : Term) → In t (rest w.function) → IsTrue (is_live w)
term-live w t i = any-true (λ (t : Term). true) (rest w.function) t i refl

-- ---- directions, up to their signs

first-turned : (d e : Exp) → det (opposite d) e ≡ neg_ℤ (det d e)
first-turned d e = ring ints_ring (d.a ∷ d.b ∷ e.a ∷ e.b ∷ []) (minus X :* E.var 3 :- minus Y :* Z) (minus (X :* E.var 3 :- Y :* Z)) refl

second-turned : (d e : Exp) → det d (opposite e) ≡ neg_ℤ (det d e)
second-turned d e = ring ints_ring (d.a ∷ d.b ∷ e.a ∷ e.b ∷ []) (X :* minus (E.var 3) :- Y :* minus Z) (minus (X :* E.var 3 :- Y :* Z)) refl

negative-zero : (x y : ℤ) → x ≡ neg_ℤ y → x ≡ pos 0 → y ≡ pos 0
negative-zero x y e h = omega (arith, ints, e, h)

pub zero-first : (d d' e : Exp) → IsSameUpToSign d d' → det d e ≡ pos 0 → det d' e ≡ pos 0
zero-first d d' e (inl q) h = sym (ap (λ (u : Exp). det u e) q) ∙ h
zero-first d d' e (inr q) h = negative-zero (det d e) (det d' e) (ap (λ (u : Exp). det u e) q ∙ first-turned d' e) h

zero-second : (d e e' : Exp) → IsSameUpToSign e e' → det d e ≡ pos 0 → det d e' ≡ pos 0
zero-second d e e' (inl q) h = sym (ap (det d) q) ∙ h
zero-second d e e' (inr q) h = negative-zero (det d e) (det d e') (ap (det d) q ∙ second-turned d e') h

pub back : (d e : Exp) → IsSameUpToSign d e → IsSameUpToSign e d
back d e (inl q) = inl (sym q)
back d e (inr q) = inr (twice ∙ ap opposite (sym q))
  where
    two : (a : ℤ) → a ≡ neg_ℤ (neg_ℤ a)
    two a = omega (arith, ints)

    twice : e ≡ opposite (opposite e)
    twice = λ i. record { a = two e.a i; b = two e.b i }

pub zero-both : (d d' e e' : Exp) → IsSameUpToSign d d' → IsSameUpToSign e e' → det d e ≡ pos 0 → det d' e' ≡ pos 0
zero-both d d' e e' p q h = zero-second d' e e' q (zero-first d d' e p h)

-- ---- meetings are active points

pub meeting-active : (n : ℕ) (ls : List LiveWall) (ws : List Wall) (p : Point) → AreLive ls ws → IsPoint p → AreMeeting n ls p → IsTrue (is_active n ws p)
meeting-active n ls ws p h i m =
    let u = h.each m.0 m.1 in
    let v = h.each m.2.0 m.2.1 in
    let at : Meets n m.0 m.2.0 p = m.2.2 in
    let s = least-term m.0.degree u.0 u.2.degree in
    let t = least-term m.2.0.degree v.0 v.2.degree in
    active-in n ws p (inl (record {
      u = u.0;
      v = v.0;
      u_in = u.1;
      v_in = v.1;
      u_on = (u.2.points p i).0 at.first;
      v_on = (v.2.points p i).0 at.second;
      across = across u.0 v.0 (λ e. at.crossing (zero-both u.0.dir (support_dir m.0.support) v.0.dir (support_dir m.2.0.support) (back _ _ u.2.dir) (back _ _ v.2.dir) e));
      s = s.0;
      t = t.0;
      s_in = s.1;
      t_in = t.1;
      low = omega (arith, s.2, t.2, at.fits);
    }))
  where
    across : (u v : Wall) → (det u.dir v.dir ≡ pos 0 → ⊥) → are_parallel u v ≡ false
    across u v f = go (are_parallel u v) refl
      where
        go : (b : Bool) → are_parallel u v ≡ b → are_parallel u v ≡ false
        go true e = absurd (f (int_eq-same _ _ e))
        go false e = e

pub active-meeting : (n : ℕ) (ls : List LiveWall) (ws : List Wall) (p : Point) → AreLive ls ws → Every (λ w. is_incoming w.kind ≡ false) ws → IsPoint p → IsTrue (is_active n ws p) → AreMeeting n ls p
active-meeting n ls ws p h none i a = go (active-out n ws p a)
  where
    crossing : CrossesAt n ws p → AreMeeting n ls p
    crossing c =
        let l = h.all c.u c.u_in (term-live c.u c.s c.s_in) in
        let m = h.all c.v c.v_in (term-live c.v c.t c.t_in) in
        let x = least-below l.0.degree c.u c.s l.2.degree c.s_in in
        let y = least-below m.0.degree c.v c.t m.2.degree c.t_in in (
          l.0,
          l.1,
          (
            m.0,
            m.1,
            record {
              fits = omega (arith, x, y, c.low);
              crossing = λ e. let q = zero-in _ (zero-both (support_dir l.0.support) c.u.dir (support_dir m.0.support) c.v.dir l.2.dir m.2.dir e) in let r = c.across in absurd (cc);
              first = (l.2.points p i).1 c.u_on;
              second = (m.2.points p i).1 c.v_on;
            },
          ),
        )

    go : CrossesAt n ws p ⊎ EntersAt n ws p → AreMeeting n ls p
    go (inl c) = crossing c
    go (inr c) = let e = Every-at (λ (w : Wall). is_incoming w.kind ≡ false) ws c.w none c.w_in in let f = c.incoming in absurd (cc)

-- ---- run by run

-- the live ones of all runs are those of all walls
pub live-runs : (n : ℕ) (ls : List LiveWall) (ws : List Wall) → Every (IsWall n) ws → AreLive ls (flat_map (λ g. g) (runs ws)) → AreLive ls ws
live-runs n ls ws h a = record {
  each = λ l i. let r = a.each l i in (r.0, In-runs n ws r.0 h r.1, r.2);
  all = λ w i e. a.all w (runs-In n ws w h i) e;
}

pub not-incoming : (ws : List CodeWall) → Every (λ (w : Wall). is_incoming w.kind ≡ false) (walls_of ws)
not-incoming [] = tt
not-incoming (w ∷ ws) = (kind w.kind, not-incoming ws)
  where
    kind : (k : CodeKind) → is_incoming (kind_of k) ≡ false
    kind LineKind = refl
    kind OutgoingKind = refl
