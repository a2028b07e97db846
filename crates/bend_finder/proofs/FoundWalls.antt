-- The walls that are found on a point, run by run.
use Rattle.std.proofs.Common.{◌≡◌, ◌<◌, length, arith, refl, sym, ap, subst, ◌∙◌, Bool, true, false, cond, List, [], ◌∷◌, ◌++◌, ◌⊎◌, inl, inr}
use Rattle.std.specs.Prelude.{pos, ◌&&◌, not, filter, IsTrue}
use Rattle.scattering.specs.Collections.{In}
use Rattle.scattering.specs.Series.{det, int_eq}
use Rattle.scattering.specs.Plane.{Point, IsPoint, IsDirection, point_eq}
use Rattle.scattering.specs.SupportingLine.{line_direction, supporting_line, same_line, line_holds}
use Rattle.scattering.specs.Wall.{Wall, is_on, is_live, is_line, starts_at, are_parallel}
use Rattle.scattering.specs.ActivePoint.{is_special}
use Rattle.scattering.specs.BrokenLine.{live_on}
use Rattle.scattering.proofs.Lists.{and-left, and-right, and-in, filter-from, In-append, In-left, In-right, In-map, not-out}
use Rattle.scattering.proofs.Keys.{point_eq-same, int_eq-same, int_eq-refl}
use Rattle.scattering.proofs.WallTests.{not-parallel}
use Rattle.crossing_theory.proofs.LocalRuns.{passes-holds}
use Rattle.broken_line_theory.proofs.GenericPoints.{on-own}
use Rattle.scatter_diagram.specs.Shown.{wall_of, walls_of}
use Rattle.scatter_diagram.specs.declared.wall.Wall.{Wall as CodeWall}
use Rattle.bend_finder.specs.KeptRuns.{IsSomeRun}
use Rattle.bend_finder.specs.Runs.{LiveRun, IsOneLine, IsRunOf, AreAllLive, OnSome, IsFoundOn, IsPlainOn, all_walls}
use Rattle.bend_finder.specs.Special.{live_holds, IsCrossedAt, StartsLive}
use Rattle.bend_finder.proofs.Lines.{line-parallel, parallel-line, all-parallel, same-direction_of, on-same, run-line, run-within, run-has}
use Rattle.bend_finder.proofs.SpecialPoints.{special-out, crossed-special, starts-special}

-- ---- parts of lists

filter-within : {A : Type 0} (P Q : A → Bool) (xs : List A) → ((x : A) → In x xs → P x ≡ true → Q x ≡ true) → filter P (filter Q xs) ≡ filter P xs
filter-within P Q [] h = refl
filter-within P Q (x ∷ xs) h = go (Q x) refl (P x) refl (filter-within P Q xs (λ y i. h y (inr i)))
  where
    go : (a : Bool) → Q x ≡ a → (b : Bool) → P x ≡ b → filter P (filter Q xs) ≡ filter P xs → filter P (filter Q (x ∷ xs)) ≡ filter P (x ∷ xs)
    go true e b f r = rw e (ap (λ us. cond (P x) (x ∷ us) us) r)
    go false e false f r = rw e (rw f r)
    go false e true f r = let t = h x (inl refl) f in absurd (cc)

none-kept : {A : Type 0} (P : A → Bool) (xs : List A) → ((x : A) → In x xs → P x ≡ true → ⊥) → filter P xs ≡ []
none-kept P [] h = refl
none-kept P (x ∷ xs) h = go (P x) refl (none-kept P xs (λ y i. h y (inr i)))
  where
    go : (a : Bool) → P x ≡ a → filter P xs ≡ [] → filter P (x ∷ xs) ≡ []
    go true e r = absurd (h x (inl refl) e)
    go false e r = rw e r

-- ---- walls of the program

pub code-point : (ws : List CodeWall) (w : Wall) → In w (walls_of ws) → IsPoint w.at
code-point ws w i = let r = In-map wall_of ws w i in subst (λ (v : Wall). IsPoint v.at) (sym r.2) r.0.at.reduced

pub code-direction : (ws : List CodeWall) (w : Wall) → In w (walls_of ws) → IsDirection w.dir
code-direction ws w i = let r = In-map wall_of ws w i in subst (λ (v : Wall). IsDirection v.dir) (sym r.2) r.0.dir.primitive

pub some-length : (ws : List CodeWall) (w : Wall) → In w (walls_of ws) → 0 < length ws
some-length [] w i = absurd i
some-length (v ∷ ws) w i = omega arith

pub some-walls : (ws : List CodeWall) → (length ws ≡ 0 → ⊥) → 0 < length ws
some-walls [] n = absurd (n refl)
some-walls (v ∷ ws) n = omega arith

pub no-walls_of : (ws : List CodeWall) → length ws ≡ 0 → walls_of ws ≡ []
no-walls_of [] e = refl
no-walls_of (w ∷ ws) e = absurd (cc)

-- what is on one of the walls along a line is on the line
pub line-held : (ws : List CodeWall) (u : CodeWall) (q : Point) → IsOneLine (walls_of ws) → In (wall_of u) (walls_of ws) → OnSome (walls_of ws) q → line_holds (supporting_line (wall_of u)) q ≡ true
line-held ws u q one i o = passes-holds (supporting_line (wall_of u)) q (on-same (walls_of ws) one (wall_of u) i o.0 o.1 (code-point ws o.0 o.1) q o.2)

-- none of the walls of two lists
pub neither : (us vs : List Wall) (q : Point) → (OnSome us q → ⊥) → (OnSome vs q → ⊥) → OnSome (us ++ vs) q → ⊥
neither us vs q m n o = go (In-append us vs o.0 o.1)
  where
    go : In o.0 us ⊎ In o.0 vs → ⊥
    go (inl i) = m (o.0, i, o.2)
    go (inr i) = n (o.0, i, o.2)

-- the walls of a run are among those of all
pub in-runs : (rs : List LiveRun) (r : LiveRun) (w : Wall) → In r rs → In w (walls_of r.items) → In w (all_walls rs)
in-runs [] r w i j = absurd i
in-runs (s ∷ rs) r w (inl e) j = In-left (walls_of s.items) (all_walls rs) w (subst (λ (t : LiveRun). In w (walls_of t.items)) e j)
in-runs (s ∷ rs) r w (inr i) j = In-right (walls_of s.items) (all_walls rs) w (in-runs rs r w i j)

-- ---- one run more

module _ (ls seen : List Wall) (q : Point) (fs rs : List CodeWall) (h : IsFoundOn ls seen q (walls_of fs)) (r : IsRunOf ls (walls_of rs)) where
  abbrev found : List Wall
  found = walls_of fs

  abbrev run : List Wall
  run = walls_of rs

  -- that isn't on the point
  pub found-old : (OnSome run q → ⊥) → IsFoundOn ls (seen ++ run) q found
  found-old n = record { some = h.some; all = λ w i o. go w o (In-append seen run w i) }
    where
      go : (w : Wall) → IsTrue (is_on w q) → In w seen ⊎ In w run → In w found
      go w o (inl j) = h.all w j o
      go w o (inr j) = absurd (n (w, j, o))

  -- the first that is
  pub found-new : found ≡ [] → OnSome run q → IsFoundOn ls (seen ++ run) q run
  found-new e s = record { some = λ w i. (r, s); all = λ w i o. go w o (In-append seen run w i) }
    where
      go : (w : Wall) → IsTrue (is_on w q) → In w seen ⊎ In w run → In w run
      go w o (inl j) = absurd (subst (In w) e (h.all w j o))
      go w o (inr j) = j

  -- after others
  module _ (k : IsPoint q) (u v : Wall) (i : In u found) (j : In v run) (s : OnSome run q) where
    f : IsRunOf ls found
    f = (h.some u i).0

    o : OnSome found q
    o = (h.some u i).1

    like-found : (w : Wall) → In w found → line_direction u.dir ≡ line_direction w.dir
    like-found w a = same-direction_of found (run-line ls found f) u i w a

    like-run : (w : Wall) → In w run → line_direction v.dir ≡ line_direction w.dir
    like-run w a = same-direction_of run (run-line ls run r) v j w a

    -- along one line with them
    pub found-both : are_parallel u v ≡ true → IsFoundOn ls (seen ++ run) q found
    found-both p = record { some = h.some; all = λ w a b. go w b (In-append seen run w a) }
      where
        one : line_direction u.dir ≡ line_direction v.dir
        one = parallel-line u.dir v.dir (code-direction fs u i) (code-direction rs v j) (int_eq-same (det u.dir v.dir) (pos 0) p)

        go : (w : Wall) → IsTrue (is_on w q) → In w seen ⊎ In w run → In w found
        go w b (inl a) = h.all w a b
        go w b (inr a) = run-has ls found f o.0 w q k o.1 (code-point fs o.0 o.1) o.2 (run-within ls run r w a) b (sym (like-found o.0 o.1) ∙ one ∙ like-run w a)

    -- or along another
    pub found-crossing : AreAllLive ls → are_parallel u v ≡ false → is_special ls q ≡ true
    found-crossing l p =
        let a = run-within ls found f o.0 o.1 in
        let b = run-within ls run r s.0 s.1 in
        crossed-special ls q (o.0, a, (and-in (is_live o.0) (is_on o.0 q) (l o.0 a) o.2, (s.0, b, and-in (live_holds s.0 q) (not (are_parallel o.0 s.0)) (and-in (is_live s.0) (is_on s.0 q) (l s.0 b) s.2) (crossed (are_parallel o.0 s.0) refl))))
      where
        crossed : (c : Bool) → are_parallel o.0 s.0 ≡ c → not (are_parallel o.0 s.0) ≡ true
        crossed false e = ap not e
        crossed true e =
            let z = int_eq-same (det o.0.dir s.0.dir) (pos 0) e in
            let d = parallel-line o.0.dir s.0.dir (code-direction fs o.0 o.1) (code-direction rs s.0 s.1) z in
            let t = line-parallel u.dir v.dir (like-found o.0 o.1 ∙ d ∙ sym (like-run s.0 s.1)) in
            let y : are_parallel u v ≡ true = ap (λ m. int_eq m (pos 0)) t ∙ int_eq-refl (pos 0) in absurd (cc)

-- ---- all walls on the point

pub none-found_on : (ls : List Wall) (q : Point) → IsFoundOn ls [] q []
none-found_on ls q = record { some = λ w i. absurd i; all = λ w i o. absurd i }

module _ (ls seen : List Wall) (q : Point) (fs : List CodeWall) (all : (w : Wall) → In w ls → IsTrue (is_on w q) → In w seen) (h : IsFoundOn ls seen q (walls_of fs)) where
  abbrev g : List Wall
  g = walls_of fs

  within : (w : Wall) → In w g → In w ls
  within w i = run-within ls g (h.some w i).0 w i

  -- a live ray starts there
  pub start-special : StartsLive g q → is_special ls q ≡ true
  start-special s = starts-special ls q (s.0, within s.0 s.1, s.2)

  here : (w : Wall) → In w ls → IsTrue (is_on w q) → In w g
  here w i o = h.all w (all w i o) o

  starts-on : (w : Wall) → starts_at w q ≡ true → is_on w q ≡ true
  starts-on w e = subst (λ (p : Point). is_on w p ≡ true) (point_eq-same w.at q (and-right (not (is_line w.kind)) (point_eq w.at q) e)) (on-own w)

  not-special : (StartsLive g q → ⊥) → is_special ls q ≡ true → ⊥
  not-special n e = go (special-out ls q e)
    where
      go : IsCrossedAt ls q ⊎ StartsLive ls q → ⊥
      go (inr s) = n (s.0, here s.0 s.1 (starts-on s.0 (and-left (starts_at s.0 q) (is_live s.0) s.2)), s.2)
      go (inl c) =
          let u = c.0 in
          let v = c.2.1.0 in
          let l = and-left (live_holds v q) (not (are_parallel u v)) c.2.1.2 in
          let a = here u c.1 (and-right (is_live u) (is_on u q) c.2.0) in
          let b = here v c.2.1.1 (and-right (is_live v) (is_on v q) l) in
          not-parallel u v (not-out (are_parallel u v) (and-right (live_holds v q) (not (are_parallel u v)) c.2.1.2)) (all-parallel g (run-line ls g (h.some u a).0) u a v b)

  -- no live ray starts there
  pub found-plain : (StartsLive g q → ⊥) → IsPlainOn ls q g
  found-plain n = (plain (is_special ls q) refl, live (first fs refl))
    where
      plain : (b : Bool) → is_special ls q ≡ b → is_special ls q ≡ false
      plain false e = e
      plain true e = absurd (not-special n e)

      first : (us : List CodeWall) → us ≡ fs → (g ≡ []) ⊎ ((u : Wall) × In u g)
      first [] e = inl (ap walls_of (sym e))
      first (u ∷ us) e = inr (wall_of u, subst (λ (vs : List CodeWall). In (wall_of u) (walls_of vs)) e (inl refl))

      kept : (w : Wall) → In w ls → (is_live w && is_on w q) ≡ true → In w g
      kept w i t = here w i (and-right (is_live w) (is_on w q) t)

      live : (g ≡ []) ⊎ ((u : Wall) × In u g) → live_on g q ≡ live_on ls q
      live (inl e) = ap (λ us. live_on us q) e ∙ sym (none-kept (λ w. is_live w && is_on w q) ls (λ w i t. absurd (subst (In w) e (kept w i t))))
      live (inr u) =
          let r = (h.some u.0 u.1).0 in
          ap (λ us. live_on us q) r.is
          ∙ filter-within (λ w. is_live w && is_on w q) (λ w. same_line r.line (supporting_line w)) ls (λ w i t. (filter-from (λ w. same_line r.line (supporting_line w)) ls w (subst (In w) r.is (kept w i t))).1)

-- they are those along one line, or none
pub found-run : (ls seen : List Wall) (q : Point) (g : List Wall) → IsFoundOn ls seen q g → IsSomeRun ls g
found-run ls seen q [] h = tt
found-run ls seen q (w ∷ ws) h = (h.some w (inl refl)).0
