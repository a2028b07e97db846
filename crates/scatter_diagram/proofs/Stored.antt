-- What a diagram keeps is its lines and rays, and its runs.
use Rattle.std.proofs.Common.{◌≡◌, Bool, true, false, cond, ℕ, suc, ◌+◌, ◌-◌, ◌<◌, ◌≤◌, refl, sym, ap, subst, ◌∙◌, List, [], ◌∷◌, ◌++◌, length, get_or, take, drop, inl, inr, arith, length-append}
use Rattle.std.specs.List.{enumerate_from}
use Rattle.std.proofs.lemmas.List.{append-nil, length-map, get_or-map, take_at, drop_at, take-append-drop, same_lists, get_or_default, get_or-take, length-take, take_more}
use Rattle.std.specs.Prelude.{filter}
use Rattle.std.proofs.lemmas.List.FromFn.{length-enumerate_from, get_or-enumerate_from}
use Rattle.scattering.specs.Collections.{In, Every, put, in_order}
use Rattle.scattering.specs.Wall.{Wall, Line, Outgoing, walls, is_live, cut_wall, cut_walls}
use Rattle.scattering.specs.Completion.{IsReduced}
use Rattle.scattering.specs.SupportingLine.{runs, parts, wall_before}
use Rattle.scattering.proofs.Lists.{Every-in_order, Every-at, In-in_order, map-append, Every-append}
use Rattle.crossing_theory.proofs.LiveWalls.{filter-append}
use Rattle.crossing_theory.proofs.OtherFunctions.{in_order-map}
use Rattle.crossing_theory.proofs.Runs.{In-place, length-parts, part-at, bounds-rise, bounds-within}
use Rattle.crossing_theory.proofs.SupportingLines.{runs-some}
use Rattle.limits.specs.Limits.{highest_order}
use Rattle.scatter_diagram.specs.declared.wall.Wall.{Wall as CodeWall}
use Rattle.scatter_diagram.specs.Shown.{wall_of, walls_of}
use Rattle.scatter_diagram.specs.Listed.{AreOfOrder, AreLines, AreRays}
use Rattle.scatter_diagram.specs.Ordered.{Placed, placed_before, places_of, stored_walls, IsInLineOrder, AreRunsOf, ArePositionsOf}
use Rattle.scatter_diagram.specs.Stored.{no_wall, picked, stored_diagram, IsStored}

-- ---- elements by their places

in-place : {A : Type 0} (xs : List A) (x : A) → In x xs → (k : ℕ) × (k < length xs) × (get_or xs k x ≡ x)
in-place [] x i = absurd i
in-place (y ∷ xs) x (inl e) = (0, omega arith, sym e)
in-place (y ∷ xs) x (inr i) = let r = in-place xs x i in (suc r.0, omega (arith, r.1), r.2)

length-put : {A : Type 0} (before : A → A → Bool) (x : A) (xs : List A) → length (put before x xs) ≡ suc (length xs)
length-put {A} before x [] = refl
length-put {A} before x (y ∷ ys) = go (before y x) (length-put before x ys)
  where
    go : (b : Bool) → length (put before x ys) ≡ suc (length ys) → length {A = A} (elim b [ true ↦ y ∷ put before x ys | false ↦ x ∷ y ∷ ys ]) ≡ suc (suc (length ys))
    go true h = ap suc h
    go false h = refl

length-in_order : {A : Type 0} (before : A → A → Bool) (xs : List A) → length (in_order before xs) ≡ length xs
length-in_order before [] = refl
length-in_order before (x ∷ xs) = length-put before x (in_order before xs) ∙ ap suc (length-in_order before xs)

-- ---- walls back in their places

module _ (ws : List CodeWall) (placed : List Placed) (sorted : placed ≡ in_order placed_before (enumerate_from 0 ws)) where
  abbrev IsOwn : Placed → Type 0
  IsOwn p = (p.0 < length ws) × (p.1 ≡ get_or ws p.0 p.1)

  own-from : (n : ℕ) (us vs : List CodeWall) → ((k : ℕ) (d : CodeWall) → k < length vs → (n + k < length us) × (get_or vs k d ≡ get_or us (n + k) d)) → Every (λ (p : Placed). (p.0 < length us) × (p.1 ≡ get_or us p.0 p.1)) (enumerate_from n vs)
  own-from n us [] h = tt
  own-from n us (v ∷ vs) h =
      let f = h 0 v (omega arith) in
      let e : n + 0 ≡ n = omega arith in
      ((omega (arith, f.0), f.1 ∙ ap (λ k. get_or us k v) e), own-from (n + 1) us vs (λ k d l. let g = h (suc k) d (omega (arith, l)) in let s : n + suc k ≡ n + 1 + k = omega arith in (omega (arith, g.0), g.1 ∙ ap (λ m. get_or us m d) s)))

  pub all-own : Every IsOwn placed
  all-own = subst (Every IsOwn) (sym sorted) (Every-in_order IsOwn placed_before (enumerate_from 0 ws) (own-from 0 ws ws (λ k d l. (omega (arith, l), ap (λ m. get_or ws m d) (omega arith)))))

  many : length placed ≡ length ws
  many = ap length sorted ∙ length-in_order placed_before (enumerate_from 0 ws) ∙ length-enumerate_from 0 ws

  pub places-within : Every (λ k. k < length (places_of placed)) (places_of placed)
  places-within = subst (λ n. Every (λ k. k < n) (places_of placed)) (sym (length-map placed (λ (p : Placed). p.0) ∙ many)) (each placed all-own)
    where
      each : (ps : List Placed) → Every IsOwn ps → Every (λ k. k < length ws) (places_of ps)
      each [] h = tt
      each (p ∷ ps) h = (h.0.0, each ps h.1)

  -- each place stands somewhere
  place-stands : (k : ℕ) → k < length ws → (i : ℕ) × (i < length placed) × (get_or (places_of placed) i 0 ≡ k)
  place-stands k l = stands (some ws k l)
    where
      some : (us : List CodeWall) (k : ℕ) → k < length us → CodeWall
      some [] k l = absurd (omega (arith, l))
      some (u ∷ us) k l = u

      stands : CodeWall → (i : ℕ) × (i < length placed) × (get_or (places_of placed) i 0 ≡ k)
      stands d =
          let n : k < length (enumerate_from 0 ws) = omega (arith, l, length-enumerate_from 0 ws) in
          let e : get_or (enumerate_from 0 ws) k (0, d) ≡ (k, get_or ws k d) = get_or-enumerate_from 0 ws k (0, d) l ∙ (λ i. (zero-plus k i, get_or ws k d)) in
          let j : In (k, get_or ws k d) (enumerate_from 0 ws) = subst (λ (p : Placed). In p (enumerate_from 0 ws)) e (In-place (enumerate_from 0 ws) k (0, d) n) in
          let r = in-place placed (k, get_or ws k d) (subst (In (k, get_or ws k d)) (sym sorted) (In-in_order placed_before (enumerate_from 0 ws) (k, get_or ws k d) j)) in
          (r.0, r.1, get_or-map (λ (p : Placed). p.0) placed r.0 (k, get_or ws k d) 0 r.1 ∙ ap (λ (p : Placed). p.0) r.2)
        where
          zero-plus : (k : ℕ) → 0 + k ≡ k
          zero-plus k = omega arith

  module _ (positions : List ℕ) (h : ArePositionsOf (places_of placed) positions) where
    length-places : length (places_of placed) ≡ length ws
    length-places = length-map placed (λ (p : Placed). p.0) ∙ many

    pub positions-many : length positions ≡ length ws
    positions-many = h.many ∙ length-places

    position-found : (k : ℕ) → k < length ws → (get_or positions k 0 < length placed) × (get_or (places_of placed) (get_or positions k 0) 0 ≡ k)
    position-found k l =
        let r = place-stands k l in
        let i : r.0 < length (places_of placed) = omega (arith, r.1, length-map placed (λ (p : Placed). p.0)) in
        let w = h.within r.0 i in
        let f = h.found r.0 i in (
          subst (λ m. get_or positions m 0 < length placed) r.2 (subst (λ n. get_or positions (get_or (places_of placed) r.0 0) 0 < n) (length-map placed (λ (p : Placed). p.0)) w),
          subst (λ m. get_or (places_of placed) (get_or positions m 0) 0 ≡ m) r.2 f,
        )

    pub positions-within : Every (λ j. j < length (stored_walls placed)) positions
    positions-within = every positions (λ k l. subst (λ n. get_or positions k 0 < n) (sym (length-map placed (λ (p : Placed). p.1))) (position-found k (omega (arith, l, positions-many))).0)
      where
        every : (js : List ℕ) → ((k : ℕ) → k < length js → get_or js k 0 < length (stored_walls placed)) → Every (λ j. j < length (stored_walls placed)) js
        every [] f = tt
        every (j ∷ js) f = (f 0 (omega arith), every js (λ k l. f (suc k) (omega (arith, l))))

    -- the walls at the positions are the walls as they were
    pub picked-are : picked (stored_walls placed) positions ≡ walls_of ws
    picked-are = same_lists (picked (stored_walls placed) positions) (walls_of ws) lengths each
      where
        lengths : length (picked (stored_walls placed) positions) ≡ length (walls_of ws)
        lengths = length-map positions (λ j. get_or (walls_of (stored_walls placed)) j no_wall) ∙ positions-many ∙ sym (length-map ws wall_of)

        own-at : (j : ℕ) → j < length placed → (d : Placed) → get_or (walls_of (stored_walls placed)) j no_wall ≡ get_or (walls_of ws) (get_or (places_of placed) j 0) no_wall
        own-at j l d =
            let o = Every-at IsOwn placed (get_or placed j d) all-own (In-place placed j d l) in
            let s : j < length (stored_walls placed) = omega (arith, l, length-map placed (λ (p : Placed). p.1)) in
            get_or-map wall_of (stored_walls placed) j d.1 no_wall s
            ∙ ap wall_of (get_or-map (λ (p : Placed). p.1) placed j d d.1 l ∙ o.1)
            ∙ sym (get_or-map wall_of ws (get_or placed j d).0 (get_or placed j d).1 no_wall o.0)
            ∙ ap (λ k. get_or (walls_of ws) k no_wall) (sym (get_or-map (λ (p : Placed). p.0) placed j d 0 l))

        each : (k : ℕ) (d : Wall) → k < length (picked (stored_walls placed) positions) → get_or (picked (stored_walls placed) positions) k d ≡ get_or (walls_of ws) k d
        each k d l =
            let m : k < length positions = omega (arith, l, length-map positions (λ j. get_or (walls_of (stored_walls placed)) j no_wall)) in
            let n : k < length ws = omega (arith, m, positions-many) in
            let f = position-found k n in
            get_or-map (λ j. get_or (walls_of (stored_walls placed)) j no_wall) positions k 0 d m
            ∙ own-at (get_or positions k 0) f.0 (one placed f.0)
            ∙ ap (λ i. get_or (walls_of ws) i no_wall) f.1
            ∙ get_or_default (walls_of ws) k no_wall d (omega (arith, n, length-map ws wall_of))
          where
            one : (ps : List Placed) → get_or positions k 0 < length ps → Placed
            one [] l = absurd (omega (arith, l))
            one (p ∷ ps) l = p

-- ---- a diagram that is made of lines and rays

walls-numbered : (n : ℕ) (us : List CodeWall) → stored_walls (enumerate_from n us) ≡ us
walls-numbered n [] = refl
walls-numbered n (u ∷ us) = ap (λ r. u ∷ r) (walls-numbered (n + 1) us)

in-line-order : (ws : List CodeWall) (placed : List Placed) → placed ≡ in_order placed_before (enumerate_from 0 ws) → IsInLineOrder ws (stored_walls placed)
in-line-order ws placed e =
    ap stored_walls e
    ∙ sym (in_order-map (λ (p : Placed). p.1) placed_before (λ u v. wall_before (wall_of u) (wall_of v)) (λ p q. refl) (enumerate_from 0 ws))
    ∙ ap (in_order (λ u v. wall_before (wall_of u) (wall_of v))) (walls-numbered 0 ws)

pub all-picked : (c : ℕ) (ws : List CodeWall) (js : List ℕ) → walls (stored_diagram c ws js) ≡ picked ws js
all-picked c ws js = take-append-drop c (picked ws js)

pub Every-picked : (P : Wall → Type 0) (ws : List CodeWall) (js : List ℕ) → Every P (walls_of ws) → Every (λ j. j < length ws) js → Every P (picked ws js)
Every-picked P ws [] h i = tt
Every-picked P ws (j ∷ js) h i = (Every-at P (walls_of ws) _ h (In-place (walls_of ws) j no_wall (omega (arith, i.0, length-map ws wall_of))), Every-picked P ws js h i.1)

pub Every-stored : (P : Wall → Type 0) (c : ℕ) (ws : List CodeWall) (js : List ℕ) → Every P (walls_of ws) → Every (λ j. j < length ws) js → Every P (walls (stored_diagram c ws js))
Every-stored P c ws js h i = subst (Every P) (sym (all-picked c ws js)) (Every-picked P ws js h i)

module _ (n : ℕ) (ls rs : List CodeWall) (placed : List Placed) (ws : List CodeWall) (places positions bounds : List ℕ)
    (low : n ≤ highest_order) (hl : AreLines n ls) (hr : AreRays n rs)
    (sorted : placed ≡ in_order placed_before (enumerate_from 0 (ls ++ rs)))
    (is : ws ≡ stored_walls placed) (at : places ≡ places_of placed)
    (h : ArePositionsOf places positions)
    (b : (vs : List CodeWall) → IsInLineOrder vs ws → AreRunsOf vs ws bounds) where
  found : ArePositionsOf (places_of placed) positions
  found = subst (λ ks. ArePositionsOf ks positions) at h

  both : picked ws positions ≡ walls_of ls ++ walls_of rs
  both = ap (λ us. picked us positions) is ∙ picked-are (ls ++ rs) placed sorted positions found ∙ map-append wall_of ls rs

  pub first-are : take (length ls) (picked ws positions) ≡ walls_of ls
  first-are = ap (take (length ls)) both ∙ take_at (walls_of ls) (walls_of rs) (length ls) (length-map ls wall_of)

  pub others-are : drop (length ls) (picked ws positions) ≡ walls_of rs
  others-are = ap (drop (length ls)) both ∙ drop_at (walls_of ls) (walls_of rs) (length ls) (length-map ls wall_of)

  ordered : IsInLineOrder (ls ++ rs) ws
  ordered = is ∙ in-line-order (ls ++ rs) placed sorted

  pub stored : IsStored n (length ls) ws bounds positions
  stored =
      let r = b (ls ++ rs) ordered in
      record {
        order = low;
        functions = subst (AreOfOrder n) (sym ordered) (Every-in_order (λ w. w.function.order ≡ n) _ (ls ++ rs) (Every-append (λ w. w.function.order ≡ n) ls rs hl.order hr.order));
        lines = subst (Every (λ w. w.kind ≡ Line)) (sym first-are) hl.lines;
        outgoing = subst (Every (λ r. r.kind ≡ Outgoing)) (sym others-are) hr.outgoing;
        reduced = subst IsReduced (sym others-are) hr.reduced;
        few = let m = positions-many (ls ++ rs) placed sorted positions found in let l = length-append ls rs in omega (arith, m, l);
        within = subst (λ us. Every (λ j. j < length us) positions) (sym is) (positions-within (ls ++ rs) placed sorted positions found);
        some = r.some;
        rise = r.rise;
        runs = r.runs ∙ ap runs (map-append wall_of ls rs ∙ sym both ∙ sym (all-picked (length ls) ws positions));
      }

-- ---- one run, and one wall

module _ (n c : ℕ) (ws : List CodeWall) (bounds positions : List ℕ) (h : IsStored n c ws bounds positions) where
  abbrev these : List Wall
  these = walls (stored_diagram c ws positions)

  pub run-count : length bounds - 1 ≡ length (runs these)
  run-count = sym (length-parts bounds ws) ∙ sym (length-map (parts bounds ws) walls_of) ∙ ap length h.runs

  pub run-within : (run : ℕ) → run < length (runs these) → run + 1 < length bounds
  run-within run l = omega (arith, l, run-count, h.some)

  module _ (run a b : ℕ) (l : run < length (runs these)) (first : a ≡ get_or bounds run a) (next : b ≡ get_or bounds (run + 1) b) where
    inside : run + 1 < length bounds
    inside = run-within run l

    pub part-rises : a ≤ b
    part-rises =
        let r = bounds-rise 0 (length ws) bounds run a h.rise inside in
        let e = next ∙ get_or_default bounds (run + 1) b a inside in
        omega (arith, r, first, e)

    pub part-within : b ≤ length ws
    part-within = let r = bounds-within 0 (length ws) bounds (run + 1) b h.rise inside in omega (arith, r, next)

    pub run-walls : (d : List Wall) → walls_of (take (b - a) (drop a ws)) ≡ get_or (runs these) run d
    run-walls d =
        let e : b ≡ get_or bounds (run + 1) a = next ∙ get_or_default bounds (run + 1) b a inside in
        ap (λ k. walls_of (take (k - a) (drop a ws))) e
        ∙ ap (λ k. walls_of (take (get_or bounds (run + 1) a - k) (drop k ws))) first
        ∙ ap walls_of (sym (part-at bounds ws [] run a inside))
        ∙ sym (get_or-map walls_of (parts bounds ws) run [] d (let p = length-parts bounds ws in omega (arith, p, inside)))
        ∙ ap (λ gs. get_or gs run d) h.runs

    pub run-some : 0 < length (take (b - a) (drop a ws))
    run-some =
        let g = run-walls [] in
        let s = Every-at (λ g. 1 ≤ length g) (runs these) (get_or (runs these) run []) (runs-some these) (In-place (runs these) run [] l) in
        omega (arith, s, ap length g, length-map (take (b - a) (drop a ws)) wall_of)

  pub line-kind : (i j : ℕ) (w : CodeWall) → i < length (stored_diagram c ws positions).initial → j ≡ get_or positions i j → w ≡ get_or ws j w → (wall_of w).kind ≡ Line
  line-kind i j w l e f =
      let t : length (take c (picked ws positions)) ≤ length (picked ws positions) = length-take-most c (picked ws positions) in
      let p : i < length positions = omega (arith, l, t, length-map positions (λ j. get_or (walls_of ws) j no_wall)) in
      let m : i < c = omega (arith, l, length-take c (picked ws positions)) in
      let q : j < length ws = subst (λ k. k < length ws) (sym e) (Every-at (λ k. k < length ws) positions (get_or positions i j) h.within (In-place positions i j p)) in
      let g : get_or (take c (picked ws positions)) i no_wall ≡ wall_of w =
      get_or-take c (picked ws positions) i no_wall m ∙ get_or-map (λ j. get_or (walls_of ws) j no_wall) positions i j no_wall p
      ∙ ap (λ k. get_or (walls_of ws) k no_wall) (sym e) ∙ get_or-map wall_of ws j w no_wall q ∙ ap wall_of (sym f) in
      subst (λ (v : Wall). v.kind ≡ Line) g (Every-at (λ (v : Wall). v.kind ≡ Line) (take c (picked ws positions)) _ h.lines (In-place (take c (picked ws positions)) i no_wall l))
    where
      length-take-most : (c : ℕ) (vs : List Wall) → length (take c vs) ≤ length vs
      length-take-most c vs = omega (arith, length-take c vs)

-- ---- one live ray more

live-more : (n : ℕ) (rs : List Wall) (i : ℕ) (r : Wall) → i < length rs → r ≡ get_or rs i r → filter is_live (cut_walls n (take (i + 1) rs)) ≡ filter is_live (cut_walls n (take i rs)) ++ cond (is_live (cut_wall n r)) (cut_wall n r ∷ []) []
live-more n rs i r l e =
    ap (λ us. filter is_live (cut_walls n us)) (take_more rs i r l ∙ ap (λ v. take i rs ++ v ∷ []) (sym e))
    ∙ ap (filter is_live) (map-append (cut_wall n) (take i rs) (r ∷ []))
    ∙ filter-append (λ _. true) is_live (cut_walls n (take i rs)) (cut_wall n r ∷ [])

pub same-parts : {A : Type 0} (a b a' b' : List A) → length a ≡ length a' → a ++ b ≡ a' ++ b' → (a ≡ a') × (b ≡ b')
same-parts a b a' b' n e = (
  sym (take_at a b (length a) refl) ∙ ap (take (length a)) e ∙ take_at a' b' (length a) (sym n),
  sym (drop_at a b (length a) refl) ∙ ap (drop (length a)) e ∙ drop_at a' b' (length a) (sym n),
)

module _ (n : ℕ) (rs : List Wall) (i : ℕ) (r : Wall) (l : i < length rs) (e : r ≡ get_or rs i r) (out out' : List CodeWall) (low : CodeWall)
    (seen : walls_of out ≡ filter is_live (cut_walls n (take i rs))) (is : wall_of low ≡ cut_wall n r) where
  pub with-live : is_live (wall_of low) ≡ true → out' ≡ out ++ low ∷ [] → walls_of out' ≡ filter is_live (cut_walls n (take (i + 1) rs))
  with-live q f =
      ap walls_of f ∙ map-append wall_of out (low ∷ []) ∙ (λ j. seen j ++ is j ∷ [])
      ∙ sym (live-more n rs i r l e ∙ ap (λ b. filter is_live (cut_walls n (take i rs)) ++ cond b (cut_wall n r ∷ []) []) (sym (ap is_live is) ∙ q))

  pub without-live : is_live (wall_of low) ≡ false → out' ≡ out → walls_of out' ≡ filter is_live (cut_walls n (take (i + 1) rs))
  without-live q f =
      ap walls_of f ∙ seen
      ∙ sym (live-more n rs i r l e ∙ ap (λ b. filter is_live (cut_walls n (take i rs)) ++ cond b (cut_wall n r ∷ []) []) (sym (ap is_live is) ∙ q) ∙ append-nil (filter is_live (cut_walls n (take i rs))))
