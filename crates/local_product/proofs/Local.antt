-- The half-walls of the walls through a point, run by run: only runs whose line holds the point have any.
use Rattle.std.proofs.Common.{◌≡◌, ◌≢◌, ℕ, zero, suc, ◌+◌, ◌-◌, ◌<◌, ◌≤◌, Some, None, refl, sym, subst, ap, ◌∙◌, Bool, true, false, cond, List, [], ◌∷◌, ◌++◌, length, get_or, take, arith, inl}
use Rattle.std.specs.Prelude.{pos, ◌≤ℤ◌, flat_map}
use Rattle.std.proofs.lemmas.Grind.{flat_map-append}
use Rattle.std.proofs.lemmas.List.{append-nil, length-map, take_more, take_all}
use Rattle.scattering.specs.Collections.{Every}
use Rattle.scattering.specs.Plane.{Point}
use Rattle.scattering.specs.SupportingLine.{by_line, line_holds, runs}
use Rattle.scattering.specs.Wall.{Wall, IsWall, is_on, walls}
use Rattle.scattering.specs.ActivePoint.{walls_on}
use Rattle.scattering.specs.LocalProduct.{Half, halves, half_walls}
use Rattle.crossing_theory.proofs.LocalRuns.{half_walls-sorted, IsRun, runs-are, run-off}
use Rattle.crossing_theory.proofs.SupportingLines.{runs-are_all}
use Rattle.scatter_diagram.specs.Listed.{SeenDiagram}
use Rattle.scatter_diagram.specs.declared.wall.Wall.{Wall as CodeWall}
use Rattle.scatter_diagram.specs.Shown.{wall_of, walls_of}
use Rattle.scattering.proofs.Lists.{Every-append, map-append, Every-place}
use Rattle.local_product.specs.declared.wall_tables.WallTables.{WallTables}
use Rattle.local_product.specs.declared.run_line.RunLine.{RunLine}
use Rattle.local_product.specs.RunLines.{seen_line, IsLineOfFirst, AreLinesOf, IsOnlyAt}
use Rattle.local_product.proofs.LineClasses.{lines-length}
use Rattle.local_product.specs.Tabled.{TabledRun, AreTablesOf, tabled_walls, tabled_runs, HasTables}

-- one more of a list whose parts are put together
pub joined-more : {A B : Type 0} (f : A → List B) (xs : List A) (i : ℕ) (x : A) → i < length xs → x ≡ get_or xs i x → flat_map f (take (i + 1) xs) ≡ flat_map f (take i xs) ++ f x
joined-more f xs i x l e =
    ap (flat_map f) (take_more xs i x l ∙ ap (λ y. take i xs ++ y ∷ []) (sym e))
    ∙ flat_map-append f (take i xs) (x ∷ [])
    ∙ ap (λ r. flat_map f (take i xs) ++ r) (append-nil (f x))

append-assoc : {A : Type 0} (xs ys zs : List A) → (xs ++ ys) ++ zs ≡ xs ++ (ys ++ zs)
append-assoc [] ys zs = refl
append-assoc (x ∷ xs) ys zs = ap (λ r. x ∷ r) (append-assoc xs ys zs)

-- ---- walls and runs off the point

abbrev pub wall_halves : Point → WallTables → List Half
wall_halves p t = halves p (wall_of t.wall.now)

abbrev pub run_halves : Point → TabledRun → List Half
run_halves p r = flat_map (halves p) (tabled_walls r.items)

pub halves-off : (p : Point) (w : Wall) → is_on w p ≡ false → halves p w ≡ []
halves-off p w e = rw e refl

halves-on : (p : Point) (ws : List Wall) → flat_map (halves p) (walls_on ws p) ≡ flat_map (halves p) ws
halves-on p [] = refl
halves-on p (w ∷ ws) = go (is_on w p) refl (halves-on p ws)
  where
    go : (b : Bool) → is_on w p ≡ b → flat_map (halves p) (walls_on ws p) ≡ flat_map (halves p) ws → flat_map (halves p) (cond b (w ∷ walls_on ws p) (walls_on ws p)) ≡ halves p w ++ flat_map (halves p) ws
    go true e h = ap (λ r. halves p w ++ r) h
    go false e h = h ∙ ap (λ r. r ++ flat_map (halves p) ws) (sym (halves-off p w e))

-- ---- one wall more of a run

pub tabled-halves : (p : Point) (ts : List WallTables) → flat_map (halves p) (tabled_walls ts) ≡ flat_map (wall_halves p) ts
tabled-halves p [] = refl
tabled-halves p (t ∷ ts) = ap (λ r. wall_halves p t ++ r) (tabled-halves p ts)

module _ (p : Point) (ts : List WallTables) (i : ℕ) (t : WallTables) (l : i < length ts) (e : t ≡ get_or ts i t) (start old new : List Half) (h : old ≡ start ++ flat_map (wall_halves p) (take i ts)) where
  pub wall-more : new ≡ old ++ wall_halves p t → new ≡ start ++ flat_map (wall_halves p) (take (i + 1) ts)
  wall-more q =
      q ∙ ap (λ r. r ++ wall_halves p t) h ∙ append-assoc start (flat_map (wall_halves p) (take i ts)) (wall_halves p t)
      ∙ ap (λ r. start ++ r) (sym (joined-more (wall_halves p) ts i t l e))

  pub wall-off : is_on (wall_of t.wall.now) p ≡ false → new ≡ old → new ≡ start ++ flat_map (wall_halves p) (take (i + 1) ts)
  wall-off o q = wall-more (q ∙ sym (ap (λ r. old ++ r) (halves-off p (wall_of t.wall.now) o) ∙ append-nil old))

-- ---- one run more

run-at : (P : List Wall → Type 0) (rs : List TabledRun) (i : ℕ) (r : TabledRun) → i < length rs → r ≡ get_or rs i r → Every P (tabled_runs rs) → P (tabled_walls r.items)
run-at P [] i r l e h = absurd (omega (arith, l))
run-at P (q ∷ rs) zero r l e h = subst (λ (x : TabledRun). P (tabled_walls x.items)) (sym e) h.0
run-at P (q ∷ rs) (suc i) r l e h = run-at P rs i r (omega (arith, l)) e h.1

pub run-tables : (e : SeenDiagram) (n : ℕ) (rs : List TabledRun) → AreTablesOf e n rs → (i : ℕ) (r : TabledRun) → i < length rs → r ≡ get_or rs i r → Every (HasTables n) r.items
run-tables e n rs are i r l at = Every-place (λ (x : TabledRun). Every (HasTables n) x.items) rs i r l at are.tables

module _ (e : SeenDiagram) (n : ℕ) (rs : List TabledRun) (are : AreTablesOf e n rs) (p : Point) (i : ℕ) (r : TabledRun) (l : i < length rs) (at : r ≡ get_or rs i r) (old new : List Half) (h : old ≡ flat_map (run_halves p) (take i rs)) where
  pub run-some : 0 < length r.items
  run-some = Every-place (λ (x : TabledRun). 0 < length x.items) rs i r l at are.some

  pub with-run : new ≡ old ++ run_halves p r → new ≡ flat_map (run_halves p) (take (i + 1) rs)
  with-run q = q ∙ ap (λ x. x ++ run_halves p r) h ∙ sym (joined-more (run_halves p) rs i r l at)

  pub without-run : (k : RunLine) → IsLineOfFirst (tabled_walls r.items) k → line_holds (seen_line k) p ≡ false → new ≡ old → new ≡ flat_map (run_halves p) (take (i + 1) rs)
  without-run k s f q = with-run (q ∙ sym (ap (λ x. old ++ x) none ∙ append-nil old))
    where
      off : (ts : List WallTables) → 0 < length ts → IsLineOfFirst (tabled_walls ts) k → IsRun e.order (tabled_walls ts) → walls_on (tabled_walls ts) p ≡ []
      off [] u s h = absurd (omega (arith, u))
      off (v ∷ ts) u s h = run-off e.order (tabled_walls (v ∷ ts)) p (wall_of v.wall.now) h (inl refl) (ap (λ l. line_holds l p) (sym s) ∙ f)

      none : run_halves p r ≡ []
      none =
          sym (halves-on p (tabled_walls r.items))
          ∙ ap (flat_map (halves p)) (off r.items run-some s (run-at (IsRun e.order) rs i r l at (subst (Every (IsRun e.order)) (sym are.runs) (runs-are e.order (walls e.diagram) are.proper))))

-- ---- a class of parallel lines

pub run-there : (rs : List TabledRun) (i : ℕ) → i < length rs → (r : TabledRun) × (r ≡ get_or rs i r)
run-there [] i l = absurd (omega (arith, l))
run-there (r ∷ rs) zero l = (r, refl)
run-there (r ∷ rs) (suc i) l = run-there rs i (omega (arith, l))

-- the line of a run
line-at : (rs : List TabledRun) (ls : List RunLine) (i : ℕ) (r : TabledRun) → AreLinesOf (tabled_runs rs) ls → i < length rs → r ≡ get_or rs i r → (k : RunLine) × (k ≡ get_or ls i k) × IsLineOfFirst (tabled_walls r.items) k
line-at [] ls i r h l e = absurd (omega (arith, l))
line-at (q ∷ rs) [] i r h l e = absurd h
line-at (q ∷ rs) (m ∷ ls) zero r h l e = (m, refl, subst (λ (x : TabledRun). IsLineOfFirst (tabled_walls x.items) m) (sym e) h.0)
line-at (q ∷ rs) (m ∷ ls) (suc i) r h l e = line-at rs ls i r h.1 (omega (arith, l)) e

module _ (e : SeenDiagram) (n : ℕ) (rs : List TabledRun) (are : AreTablesOf e n rs) (p : Point) (ls : List RunLine) (lines : AreLinesOf (runs (walls e.diagram)) ls) where
  pub as-many : length ls ≡ length rs
  as-many = lines-length (tabled_runs rs) ls (subst (λ (gs : List (List Wall)). AreLinesOf gs ls) (sym are.runs) lines) ∙ length-map rs (λ (r : TabledRun). tabled_walls r.items)

  -- runs whose lines don't hold the point add nothing
  skipped : (d i j : ℕ) → j ≡ i + d → j ≤ length rs → ((m : ℕ) (k : RunLine) → i ≤ m → m < j → line_holds (seen_line (get_or ls m k)) p ≡ false) → flat_map (run_halves p) (take j rs) ≡ flat_map (run_halves p) (take i rs)
  skipped zero i j q l f = ap (λ m. flat_map (run_halves p) (take m rs)) (omega (arith, q))
  skipped (suc d) i j q l f =
      let r = run-there rs (i + d) (omega (arith, q, l)) in
      let k = line-at rs ls (i + d) r.0 (subst (λ (gs : List (List Wall)). AreLinesOf gs ls) (sym are.runs) lines) (omega (arith, q, l)) r.1 in
      let h : List Half = flat_map (run_halves p) (take (i + d) rs) in
      let off : line_holds (seen_line k.0) p ≡ false = ap (λ m. line_holds (seen_line m) p) k.1 ∙ f (i + d) k.0 (omega arith) (omega (arith, q)) in
      ap (λ m. flat_map (run_halves p) (take m rs)) (omega (arith, q))
      ∙ sym (without-run e n rs are p (i + d) r.0 (omega (arith, q, l)) r.1 h h refl k.0 k.2 off refl)
      ∙ skipped d i (i + d) refl (omega (arith, q, l)) (λ m k a b. f m k a (omega (arith, b, q)))

  module _ (b c : ℕ) (rise : b < c) (below : c ≤ length ls) (old new : List Half) (h : old ≡ flat_map (run_halves p) (take b rs)) where
    -- none of the lines from b to c holds the point
    pub without-class : IsOnlyAt b c p ls None → new ≡ old → new ≡ flat_map (run_halves p) (take c rs)
    without-class o q = q ∙ h ∙ sym (skipped (c - b) b c (omega (arith, rise)) (omega (arith, below, as-many)) (λ m k l u. o m k l u (λ f. absurd (cc))))

    -- at most that at i
    pub with-class : (i : ℕ) (r : TabledRun) → b ≤ i → i < c → r ≡ get_or rs i r → IsOnlyAt b c p ls (Some i) → new ≡ old ++ run_halves p r → new ≡ flat_map (run_halves p) (take c rs)
    with-class i r l u at o q =
        with-run e n rs are p i r (omega (arith, u, below, as-many)) at old new (h ∙ sym (skipped (i - b) b i (omega (arith, l)) (omega (arith, u, below, as-many)) (λ m k a f. o m k a (omega (arith, f, u)) (apart i m (omega (arith, f)))))) q
        ∙ sym (skipped (c - (i + 1)) (i + 1) c (omega (arith, u)) (omega (arith, below, as-many)) (λ m k a f. o m k (omega (arith, a, l)) f (apart i m (omega (arith, a)))))
      where
        apart : (i m : ℕ) → i ≢ m → Some i ≢ Some m
        apart i m d e = d (cc)

-- ---- all runs

joined-runs : (p : Point) (rs : List TabledRun) → flat_map (run_halves p) rs ≡ flat_map (halves p) (flat_map (λ u. u) (tabled_runs rs))
joined-runs p [] = refl
joined-runs p (r ∷ rs) = ap (λ x. run_halves p r ++ x) (joined-runs p rs) ∙ sym (flat_map-append (halves p) (tabled_walls r.items) (flat_map (λ u. u) (tabled_runs rs)))

pub all-runs : (e : SeenDiagram) (n : ℕ) (rs : List TabledRun) → AreTablesOf e n rs → (p : Point) (i : ℕ) (hs : List Half) → length rs ≤ i → hs ≡ flat_map (run_halves p) (take i rs) → hs ≡ flat_map (halves p) (by_line (walls e.diagram))
all-runs e n rs are p i hs l h =
    h ∙ ap (flat_map (run_halves p)) (take_all i rs l) ∙ joined-runs p rs
    ∙ ap (λ gs. flat_map (halves p) (flat_map (λ u. u) gs)) are.runs
    ∙ ap (flat_map (halves p)) (runs-are_all e.order (walls e.diagram) are.proper)

pub by-angle : (e : SeenDiagram) (p : Point) → pos 1 ≤ℤ p.w → Every (IsWall e.order) (walls e.diagram) → half_walls (by_line (walls e.diagram)) p ≡ half_walls (walls e.diagram) p
by-angle e p one proper = half_walls-sorted e.order p one (walls e.diagram) proper

-- ---- tables of one run more

pub run-added : (gs : List (List Wall)) (rs new : List TabledRun) (i : ℕ) (r : TabledRun) (g : List Wall) → i < length gs → g ≡ get_or gs i g → tabled_walls r.items ≡ g → new ≡ rs ++ r ∷ [] → tabled_runs rs ≡ take i gs
    → tabled_runs new ≡ take (i + 1) gs
run-added gs rs new i r g l e q n h =
    ap tabled_runs n ∙ map-append (λ (x : TabledRun). tabled_walls x.items) rs (r ∷ [])
    ∙ (λ j. h j ++ (q ∙ e) j ∷ [])
    ∙ sym (take_more gs i g l)

pub some-tabled : (ws : List CodeWall) (ts : List WallTables) → tabled_walls ts ≡ walls_of ws → 0 < length ws → 0 < length ts
some-tabled [] ts e l = absurd (omega (arith, l))
some-tabled (w ∷ ws) [] e l = absurd (cc)
some-tabled (w ∷ ws) (t ∷ ts) e l = omega arith

pub Every-added : {A : Type 0} (P : A → Type 0) (xs new : List A) (x : A) → new ≡ xs ++ x ∷ [] → P x → Every P xs → Every P new
Every-added P xs new x e h hs = subst (Every P) (sym e) (Every-append P xs (x ∷ []) hs (h, tt))
