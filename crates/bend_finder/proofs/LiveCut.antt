-- The live ones of walls that are cut to a degree: what is live on a point is live among them.
use Rattle.std.proofs.Common.{◌≡◌, ◌<◌, ◌+◌, ℕ, refl, sym, ap, ◌∙◌, Bool, true, false, cond, List, [], ◌∷◌, ◌++◌, length, get_or, take, append_assoc, ◌⊎◌, inl, inr, subst}
use Rattle.std.specs.Prelude.{filter, pos, ◌≤ℤ◌}
use Rattle.std.specs.List.{flat_map}
use Rattle.std.proofs.lemmas.List.{append-nil, take_more}
use Rattle.std.proofs.lemmas.List.Concat.{flat_map-append}
use Rattle.scattering.specs.Collections.{In, Every}
use Rattle.scattering.specs.Plane.{Point}
use Rattle.scattering.specs.SupportingLine.{SupportingLine, supporting_line, supporting_lines, same_line, walls_along, runs}
use Rattle.scattering.specs.Wall.{Wall, IsWall, is_on, is_live, cut_wall, cut_walls}
use Rattle.scattering.specs.BrokenLine.{live_on}
use Rattle.scattering.proofs.Lists.{map-append, Every-at, Every-from_In, filter-from, filter-keeps, In-map, In-mapped, In-append, In-left, In-right}
use Rattle.crossing_theory.proofs.LiveWalls.{filter-append}
use Rattle.completion_theory.proofs.LowerOrders.{wall-cut}
use Rattle.crossing_theory.proofs.SupportingLines.{HasWall, lines-have_walls, runs-more, runs-In}
use Rattle.joint_finder.proofs.Lists.{In-get}
use Rattle.scatter_diagram.specs.Shown.{walls_of}
use Rattle.bend_finder.specs.Live.{live_cut}
use Rattle.bend_finder.specs.Runs.{LiveRun, AreAllLive, IsRunOf, all_walls}

pub live_cut-append : (n : ℕ) (us vs : List Wall) → live_cut n (us ++ vs) ≡ live_cut n us ++ live_cut n vs
live_cut-append n us vs = ap (filter is_live) (map-append (cut_wall n) us vs) ∙ filter-append (λ _. true) is_live (cut_walls n us) (cut_walls n vs)

-- one wall more, after others
pub live_cut-more : (n : ℕ) (first ws : List Wall) (i : ℕ) (w : Wall) → i < length ws → w ≡ get_or ws i w → live_cut n (first ++ take (i + 1) ws) ≡ live_cut n (first ++ take i ws) ++ live_cut n (w ∷ [])
live_cut-more n first ws i w l e =
    ap (λ us. live_cut n (first ++ us)) (take_more ws i w l ∙ ap (λ v. take i ws ++ v ∷ []) (sym e))
    ∙ ap (live_cut n) (sym (append_assoc first (take i ws) (w ∷ []))) ∙ live_cut-append n (first ++ take i ws) (w ∷ [])

-- a wall that is live when it is cut, and one that isn't
pub live_cut-live : (n : ℕ) (w v : Wall) → v ≡ cut_wall n w → is_live v ≡ true → live_cut n (w ∷ []) ≡ v ∷ []
live_cut-live n w v e l = ap (λ b. cond b (cut_wall n w ∷ []) []) (ap is_live (sym e) ∙ l) ∙ ap (λ u. u ∷ []) (sym e)

pub live_cut-dead : (n : ℕ) (w v : Wall) → v ≡ cut_wall n w → is_live v ≡ false → live_cut n (w ∷ []) ≡ []
live_cut-dead n w v e l = ap (λ b. cond b (cut_wall n w ∷ []) []) (ap is_live (sym e) ∙ l)

-- the live walls on a point
pub live-on_live : (ws : List Wall) (q : Point) → live_on (filter is_live ws) q ≡ live_on ws q
live-on_live [] q = refl
live-on_live (w ∷ ws) q = go (is_live w) refl (live-on_live ws q)
  where
    go : (b : Bool) → is_live w ≡ b → live_on (filter is_live ws) q ≡ live_on ws q → live_on (filter is_live (w ∷ ws)) q ≡ live_on (w ∷ ws) q
    go true e h = rw e (rw e (ap (λ us. cond (is_on w q) (w ∷ us) us) h))
    go false e h = rw e h

-- ---- the runs of the live walls

-- those of the walls along a line are those along the line of the live ones
pub cut-along : (n : ℕ) (ws : List Wall) (l : SupportingLine) → live_cut n (walls_along ws l) ≡ walls_along (live_cut n ws) l
cut-along n [] l = refl
cut-along n (w ∷ ws) l = go (same_line l (supporting_line w)) refl (is_live (cut_wall n w)) refl (cut-along n ws l)
  where
    go : (a : Bool) → same_line l (supporting_line w) ≡ a → (b : Bool) → is_live (cut_wall n w) ≡ b → live_cut n (walls_along ws l) ≡ walls_along (live_cut n ws) l → live_cut n (walls_along (w ∷ ws) l) ≡ walls_along (live_cut n (w ∷ ws)) l
    go true e true f h = rw e (rw f (rw e (ap (λ us. cut_wall n w ∷ us) h)))
    go true e false f h = rw e (rw f h)
    go false e true f h = rw e (rw f (rw e h))
    go false e false f h = rw e (rw f h)

-- the members of live_cut
pub cut-from : (n : ℕ) (ws : List Wall) (w : Wall) → In w (live_cut n ws) → (v : Wall) × In v ws × (w ≡ cut_wall n v) × (is_live w ≡ true)
cut-from n ws w i =
    let o = filter-from is_live (cut_walls n ws) w i in
    let r = In-map (cut_wall n) ws w o.0 in
    (r.0, r.1, r.2, o.1)

pub cut-has : (n : ℕ) (ws : List Wall) (w v : Wall) → In v ws → w ≡ cut_wall n v → is_live w ≡ true → In w (live_cut n ws)
cut-has n ws w v i e l = filter-keeps is_live (cut_walls n ws) w (subst (λ (u : Wall). In u (cut_walls n ws)) (sym e) (In-mapped (cut_wall n) ws v i)) l

pub cut-live : (n : ℕ) (ws : List Wall) → AreAllLive (live_cut n ws)
cut-live n ws w i = (cut-from n ws w i).3

pub live-proper : (m n : ℕ) (ws : List Wall) → Every (IsWall m) ws → Every (IsWall n) (live_cut n ws)
live-proper m n ws h = Every-from_In (IsWall n) (live_cut n ws) (λ w i. let r = cut-from n ws w i in subst (IsWall n) (sym r.2) (wall-cut n m r.0 (Every-at (IsWall m) ws r.0 h r.1)))

module _ (m n : ℕ) (ws : List Wall) (h : Every (IsWall m) ws) where
  abbrev ls : List Wall
  ls = live_cut n ws

  -- a run, of which the walls that aren't live are left out
  pub live-run : (i : ℕ) (g : List Wall) → i < length (runs ws) → g ≡ get_or (runs ws) i g → IsRunOf ls (live_cut n g)
  live-run i g l e =
      let r = In-map (walls_along ws) (supporting_lines ws) g (In-get (runs ws) i g l e) in
      let w = Every-at (HasWall ws) (supporting_lines ws) r.0 (lines-have_walls ws) r.1 in
      record {
        line = r.0;
        proper = subst (λ (k : SupportingLine). pos 1 ≤ℤ k.under) (sym w.2) (Every-at (IsWall m) ws w.0 h w.1).point.below;
        is = ap (live_cut n) r.2 ∙ cut-along n ws r.0;
      }

  pub all-cut : (w : Wall) → In w ls → In w (live_cut n (flat_map (λ g. g) (runs ws)))
  all-cut w i = let r = cut-from n ws w i in cut-has n (flat_map (λ g. g) (runs ws)) w r.0 (runs-In m ws r.0 h r.1) r.2 r.3

  -- one run more
  module _ (i : ℕ) (g : List Wall) (l : i < length (runs ws)) (e : g ≡ get_or (runs ws) i g) (rs : List LiveRun) (seen : (w : Wall) → In w (live_cut n (flat_map (λ g. g) (take i (runs ws)))) → In w (all_walls rs)) where
    split : (w : Wall) → In w (live_cut n (flat_map (λ g. g) (take (i + 1) (runs ws)))) → In w (live_cut n (flat_map (λ g. g) (take i (runs ws)))) ⊎ In w (live_cut n g)
    split w j = In-append (live_cut n (flat_map (λ g. g) (take i (runs ws)))) (live_cut n g) w (subst (In w) (ap (live_cut n) (runs-more (runs ws) i g l e) ∙ live_cut-append n (flat_map (λ g. g) (take i (runs ws))) g) j)

    pub run-kept : (r : LiveRun) (new : List LiveRun) → new ≡ rs ++ r ∷ [] → walls_of r.items ≡ live_cut n g → (w : Wall) → In w (live_cut n (flat_map (λ g. g) (take (i + 1) (runs ws)))) → In w (all_walls new)
    run-kept r new q k w j = subst (In w) (sym (ap all_walls q ∙ flat_map-append (λ (x : LiveRun). walls_of x.items) rs (r ∷ []) ∙ ap (λ us. all_walls rs ++ us) (append-nil (walls_of r.items)))) (go (split w j))
      where
        go : In w (live_cut n (flat_map (λ g. g) (take i (runs ws)))) ⊎ In w (live_cut n g) → In w (all_walls rs ++ walls_of r.items)
        go (inl a) = In-left (all_walls rs) (walls_of r.items) w (seen w a)
        go (inr a) = In-right (all_walls rs) (walls_of r.items) w (subst (In w) (sym k) a)

    pub run-left_out : live_cut n g ≡ [] → (w : Wall) → In w (live_cut n (flat_map (λ g. g) (take (i + 1) (runs ws)))) → In w (all_walls rs)
    run-left_out k w j = go (split w j)
      where
        go : In w (live_cut n (flat_map (λ g. g) (take i (runs ws)))) ⊎ In w (live_cut n g) → In w (all_walls rs)
        go (inl a) = seen w a
        go (inr a) = absurd (subst (In w) k a)
