-- What is found by the live walls, cut to a degree, is what the stretch finds.
use Rattle.std.proofs.Common.{◌≡◌, ◌≢◌, ℕ, ◌≤◌, refl, sym, ap, subst, ◌∙◌, Bool, true, List, [], ◌∷◌, map, arith}
use Rattle.std.specs.Prelude.{pos, IsTrue, IsFalse, Option, Some, None, MatchOption, option_map, ◌&&◌, ◌↔◌}
use Rattle.scattering.specs.Collections.{In, Every, IsLeast}
use Rattle.scattering.specs.Series.{Exp, Sum, degree, coef, pow, absolute, mass_to, IsMultiple}
use Rattle.scattering.specs.Plane.{Point, IsPoint, IsNear, IsDirection, Beyond, point_before}
use Rattle.scattering.specs.Wall.{Wall, IsWall, is_on, is_live, cut_walls}
use Rattle.scattering.specs.ActivePoint.{is_special}
use Rattle.scattering.specs.BrokenLine.{Bend, live_on, product, across, bend_majorant, bend_series}
use Rattle.scattering.specs.Theta.{is_on_live}
use Rattle.scattering.proofs.Lists.{Every-at, Every-from_In, Every-implies, Every-images, In-map, and-in, filter-keeps, filter-from, any-true, any-some, bool_iff}
use Rattle.broken_line_theory.proofs.Bends.{IsTame}
use Rattle.broken_line_theory.proofs.BendWalls.{bend-wall, live-out}
use Rattle.plane_geom.specs.declared.Point.{Point as CodePoint}
use Rattle.plane_geom.specs.Shown.{point_of}
use Rattle.joint_finder.specs.Joints.{points_of}
use Rattle.bend_finder.specs.Ahead.{IsToldAs, IsHitAhead, IsSpecialAhead, IsBendAhead, bend_weight, seen_ahead, IsAhead, bends_of}
use Rattle.bend_finder.specs.declared.bend.Bend.{Bend as CodeBend}
use Rattle.bend_finder.specs.Live.{live_cut}
use Rattle.bend_finder.specs.Runs.{LiveRun, AreLiveRunsOf, OnSome, HasLiveOn, all_walls}
use Rattle.bend_finder.specs.Crossings.{CrossesSome, AreFoundAhead}
use Rattle.bend_finder.specs.Bends.{IsTurn, AreBends, IsFirstSpecial}
use Rattle.bend_finder.proofs.LiveCut.{live-on_live}
use Rattle.bend_finder.proofs.Lines.{runs-within}
use Rattle.bend_finder.proofs.Directions.{beyond-shorter, beyond-longer, crosses-shorter, crosses-longer}
use Rattle.bend_finder.proofs.SpecialPoints.{special-on_live, least-special}
use Rattle.bend_finder.proofs.PowerMajorants.{bend-keepable, bend-lower, mass-same}
use Rattle.bend_finder.proofs.ExactPowers.{series-lower}
use Rattle.bend_finder.proofs.PointBends.{sorted-distinct}

tame-walls : (n : ℕ) (ls : List Wall) → Every (IsWall n) ls → Every IsTame ls
tame-walls n [] h = tt
tame-walls n (w ∷ ls) h = (h.0.function.others, tame-walls n ls h.1)

abbrev majorant_of : ℕ → List Wall → Exp → Sum
majorant_of n us x = pow n (product n (map (λ w. absolute w.function) us)) (across us x)

-- whether a live wall is on a point
pub on-live : (b : ℕ) (ws : List Wall) (rs : List LiveRun) → AreLiveRunsOf (live_cut b ws) rs → (q : Point) (a : Bool) → IsTrue a ↔ OnSome (all_walls rs) q → a ≡ is_on_live (cut_walls b ws) q
on-live b ws rs r q a h = bool_iff a (is_on_live (cut_walls b ws) q) (λ t. to (h.0 t)) (λ t. h.1 (from t))
  where
    to : OnSome (all_walls rs) q → is_on_live (cut_walls b ws) q ≡ true
    to w =
        let i = runs-within (live_cut b ws) rs r w.0 w.1 in
        let k = filter-keeps (λ w. is_live w && is_on w q) (live_cut b ws) w.0 i (and-in (is_live w.0) (is_on w.0 q) (r.live w.0 i) w.2) in
        any-true (λ (w : Wall). true) (live_on (cut_walls b ws) q) w.0 (subst (In w.0) (live-on_live (cut_walls b ws) q) k) refl

    from : is_on_live (cut_walls b ws) q ≡ true → OnSome (all_walls rs) q
    from t =
        let w = any-some (λ (w : Wall). true) (live_on (cut_walls b ws) q) t in
        let o = live-out (live_cut b ws) q w.0 (subst (In w.0) (sym (live-on_live (cut_walls b ws) q)) w.1) in (w.0, r.all w.0 o.0, o.2)

module _ (ws : List Wall) (b : ℕ) (proper : Every (IsWall b) (live_cut b ws)) where
  abbrev ls : List Wall
  ls = live_cut b ws

  pub same-live : (q : Point) → live_on ls q ≡ live_on (cut_walls b ws) q
  same-live q = live-on_live (cut_walls b ws) q

  same-special : (q : Point) → is_special ls q ≡ is_special (cut_walls b ws) q
  same-special q = special-on_live (cut_walls b ws) q

  same-majorant : (q : Point) (x : Exp) → bend_majorant b ls q x ≡ bend_majorant b (cut_walls b ws) q x
  same-majorant q x = ap (λ us. majorant_of b us x) (same-live q)

  alive : (w : Wall) → In w ls → is_live w ≡ true
  alive w i = (filter-from is_live (cut_walls b ws) w i).1

  tame : Every IsTame ls
  tame = tame-walls b ls proper

  -- the weight and the value of a bend
  pub light-live : (m : ℕ) (x : Exp) (c : Bend) (g : List Wall) → HasLiveOn ls c.at g → degree c.key ≤ b → bend_weight ws b x c ≤ m → mass_to (degree c.key) (bend_majorant (degree c.key) g c.at x) ≤ m
  light-live m x c g s l h =
      let d = degree c.key in
      let e : mass_to d (bend_majorant b (cut_walls b ws) c.at x) ≡ mass_to d (bend_majorant d g c.at x) =
      ap (mass_to d) (sym (same-majorant c.at x))
      ∙ mass-same d (bend_majorant b ls c.at x) (bend_majorant d ls c.at x) (bend-keepable b ls c.at x) (bend-keepable d ls c.at x) (λ k i. bend-lower d b l ls c.at x k i)
      ∙ ap (λ us. mass_to d (majorant_of d us x)) (sym s) in
      subst (λ (k : ℕ). k ≤ m) e h

  pub value-live : (x : Exp) (c : Bend) → degree c.key ≤ b → coef (bend_series (degree c.key) ls c.at x) c.key ≡ coef (bend_series b (cut_walls b ws) c.at x) c.key
  value-live x c l =
      sym (series-lower (degree c.key) b l ls c.at (across (live_on ls c.at) x) c.key (itself (degree c.key)))
      ∙ ap (λ us. coef (pow b (product b (map (λ w. w.function) us)) (across us x)) c.key) (same-live c.at)
    where
      itself : (n : ℕ) → n ≤ n
      itself n = omega arith

  module _ (p : Point) (e x : Exp) (along : IsMultiple e x) (primitive : IsDirection e) (most : ℕ) (low : most ≤ b) (ps : List CodePoint) (far : Bool) (h : AreFoundAhead ls p e ps far) where
    -- crossings
    crossed-hit : (q : Point) → CrossesSome ls p e q → IsHitAhead ws b p x q
    crossed-hit q c = (
      c.2.0,
      beyond-longer p e x q along c.2.1,
      (c.0, subst (In c.0) (same-live q) (filter-keeps (λ w. is_live w && is_on w q) ls c.0 c.1 (and-in (is_live c.0) (is_on c.0 q) (alive c.0 c.1) c.2.2)), crosses-longer c.0.dir e x along c.2.3),
    )

    hit-crossed : (q : Point) → IsHitAhead ws b p x q → CrossesSome ls p e q
    hit-crossed q c =
        let o = live-out ls q c.2.0 (subst (In c.2.0) (sym (same-live q)) c.2.1) in
        (c.2.0, o.0, (c.0, beyond-shorter p e x q along c.1, o.2, crosses-shorter c.2.0.dir e x along c.2.2))

    -- bends
    near-in : (q : Point) → In q (points_of ps) → IsNear q
    near-in q i = let r = In-map point_of ps q i in subst IsNear (sym r.2) r.0.near

    bend-in : (c : Bend) → In c.at (points_of ps) → IsTurn most ls x c → IsBendAhead ws b p x most c
    bend-in c i t = (
      record {
        ahead = beyond-longer p e x c.at along (h.each c.at i).1;
        near = near-in c.at i;
        plain = sym (same-special c.at) ∙ t.plain;
        bend = record {
          point = (h.each c.at i).0;
          degree = t.some;
          key = λ z. t.key (sym (bend-lower most b low ls c.at x c.key t.most) ∙ ap (λ f. coef f c.key) (same-majorant c.at x) ∙ z);
        };
      },
      t.most,
    )

    bend-out : (c : Bend) → IsBendAhead ws b p x most c → In c.at (points_of ps) × IsTurn most ls x c
    bend-out c k =
        let plain : IsFalse (is_special ls c.at) = same-special c.at ∙ k.0.plain in
        let key : coef (bend_majorant b ls c.at x) c.key ≢ pos 0 = λ z. k.0.bend.key (sym (ap (λ f. coef f c.key) (same-majorant c.at x)) ∙ z) in
        let w = bend-wall b ls c.at x c.key tame plain k.0.bend.degree key in
        let o = live-out ls c.at w.wall w.on in (
          h.crossings c.at (w.wall, o.0, (k.0.bend.point, beyond-shorter p e x c.at along k.0.ahead, o.2, crosses-shorter w.wall.dir e x along w.crosses)) k.0.near,
          record { some = k.0.bend.degree; most = k.1; plain = plain; key = λ z. key (bend-lower most b low ls c.at x c.key k.1 ∙ z) },
        )

    weight-same : (c : Bend) → degree c.key ≤ most → mass_to (degree c.key) (bend_majorant most ls c.at x) ≡ bend_weight ws b x c
    weight-same c l =
        sym (mass-same (degree c.key) (bend_majorant b ls c.at x) (bend_majorant most ls c.at x) (bend-keepable b ls c.at x) (bend-keepable most ls c.at x) (λ k d. bend-lower most b low ls c.at x k (omega (arith, l, d))))
        ∙ ap (mass_to (degree c.key)) (same-majorant c.at x)

    -- special points
    special-in : (q : Point) → (IsPoint q × Beyond p e q × IsTrue (is_special ls q)) → IsSpecialAhead ws b p x q
    special-in q s = (s.0, beyond-longer p e x q along s.1, sym (same-special q) ∙ s.2)

    special-back : (q : Point) → IsSpecialAhead ws b p x q → IsPoint q × Beyond p e q × IsTrue (is_special ls q)
    special-back q s = (s.0, beyond-shorter p e x q along s.1, same-special q ∙ s.2)

    special-as : (o : Option CodePoint) → MatchOption (option_map point_of o) ((q : Point) → IsPoint q × Beyond p e q × IsTrue (is_special ls q) → ⊥) (IsLeast point_before (λ q. IsPoint q × Beyond p e q × IsTrue (is_special ls q)))
        → MatchOption (option_map point_of o) ((q : Point) → IsSpecialAhead ws b p x q → ⊥) (IsLeast point_before (IsSpecialAhead ws b p x))
    special-as None f = λ q s. f q (special-back q s)
    special-as (Some r) f = (special-in (point_of r) f.0, λ q s. f.1 q (special-back q s))

    -- all together
    pub found : (bs : List (CodeBend × ℕ)) (o : Option CodePoint) → AreBends most ls x (points_of ps) (bends_of bs) → IsFirstSpecial ls ps o → IsAhead ws b p x most (seen_ahead bs far o)
    found bs o k f = record {
      bends = record {
        each = Every-images (IsBendAhead ws b p x most) (λ (d : Bend × ℕ). d.0) (bends_of bs) (Every-implies _ (λ d. IsBendAhead ws b p x most d.0) (bends_of bs) (λ d t. bend-in d.0 t.0 t.1) k.each);
        all = λ c t. let r = bend-out c t in k.all c r.0 r.1;
        once = sorted-distinct (bends_of bs) k.sorted;
      };
      sorted = k.sorted;
      weights = Every-from_In (λ d. IsToldAs (bend_weight ws b x d.0) d.1) (bends_of bs) weight;
      far = λ t. let c = h.far t in (c.0, crossed-hit c.0 c.1, c.2);
      near = λ t q c. h.near t q (hit-crossed q c);
      special = λ t. special-as o (least-special ls p e ps far primitive h t o f);
    }
      where
        weight : (d : Bend × ℕ) → In d (bends_of bs) → IsToldAs (bend_weight ws b x d.0) d.1
        weight d i =
            let t = Every-at (λ c. In c.0.at (points_of ps) × IsTurn most ls x c.0) (bends_of bs) d k.each i in
            subst (λ m. IsToldAs m d.1) (weight-same d.0 t.1.most) (Every-at (λ c. IsToldAs (mass_to (degree c.0.key) (bend_majorant most ls c.0.at x)) c.1) (bends_of bs) d k.told i)
