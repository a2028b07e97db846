-- The walls along one line are named by the first of them; points on the same of them have the same powers.
use Rattle.std.proofs.Common.{◌≡◌, refl, sym, ap, subst, ◌∙◌, ◌<◌, ◌+◌, ℕ, Bool, true, cond, List, [], ◌∷◌, ◌++◌, inl, take, length, get_or}
use Rattle.std.specs.Prelude.{ℤ, pos, ◌*ℤ◌, ◌≤ℤ◌, filter}
use Rattle.std.specs.Ordering.{int_cmp, ordering_then}
use Rattle.std.specs.declared.cmp.Ordering.TheVariants.{Equal}
use Rattle.std.proofs.lemmas.List.{map-append, take_more}
use Rattle.std.proofs.lemmas.List.Elements.{filter-append}
use Rattle.std.proofs.lemmas.Map.Lookups.{exact_signed}
use Rattle.sum_algebra.proofs.Ring.{ring}
use Rattle.sum_algebra.proofs.IntegerRing.{ints_ring, ◌:*◌, X, Y, Z}
use Rattle.scattering.specs.Collections.{In}
use Rattle.scattering.specs.Series.{Exp, int_eq, exp_eq}
use Rattle.scattering.specs.Plane.{Point}
use Rattle.scattering.specs.SupportingLine.{SupportingLine, line_through, supporting_line, same_line, walls_along}
use Rattle.scattering.specs.Wall.{Wall}
use Rattle.scattering.specs.BrokenLine.{live_on}
use Rattle.scattering.proofs.Lists.{and-in, and-left, and-right, bool_iff, filter-from}
use Rattle.scattering.proofs.Keys.{exp_eq-same, exp_eq-refl, int_eq-same, int_eq-refl}
use Rattle.plane_theory.proofs.WholeNumbers.{cancel}
use Rattle.crossing_theory.proofs.SupportingLines.{same_line-flip}
use Rattle.scatter_diagram.specs.Shown.{wall_of, walls_of}
use Rattle.scatter_diagram.specs.declared.wall.Wall.{Wall as CodeWall}
use Rattle.bend_finder.specs.declared.kept_runs.RunKey.{RunKey}
use Rattle.bend_finder.specs.declared.kept.KeptPowers.{KeptPowers}
use Rattle.bend_finder.specs.Kept.{AreKeptPowers}
use Rattle.bend_finder.specs.KeptRuns.{run_key_cmp, named_point, named_direction, IsNamedBy, IsNamedRun, IsSomeRun, AreKeptFor}
use Rattle.bend_finder.specs.Special.{live_holds}
use Rattle.bend_finder.proofs.KeptMaps.{both-equal}

-- ---- the order tells names apart

pub exact-name : (k l : RunKey) → run_key_cmp k l ≡ Equal → k ≡ l
exact-name k l e =
    let p = both-equal (int_cmp k.x l.x) (ordering_then (int_cmp k.y l.y) (ordering_then (int_cmp k.w l.w) (ordering_then (int_cmp k.a l.a) (int_cmp k.b l.b)))) e in
    let q = both-equal (int_cmp k.y l.y) (ordering_then (int_cmp k.w l.w) (ordering_then (int_cmp k.a l.a) (int_cmp k.b l.b))) p.1 in
    let r = both-equal (int_cmp k.w l.w) (ordering_then (int_cmp k.a l.a) (int_cmp k.b l.b)) q.1 in
    let s = both-equal (int_cmp k.a l.a) (int_cmp k.b l.b) r.1 in
    let x = exact_signed k.x l.x p.0 in
    let y = exact_signed k.y l.y q.0 in
    let w = exact_signed k.w l.w r.0 in
    let a = exact_signed k.a l.a s.0 in
    let b = exact_signed k.b l.b s.1 in
    λ i. record { x = x i; y = y i; w = w i; a = a i; b = b i }

-- ---- a name has one run

places-joined : (a u b v c w : ℤ) → pos 1 ≤ℤ v → a *ℤ v ≡ b *ℤ u → b *ℤ w ≡ c *ℤ v → a *ℤ w ≡ c *ℤ u
places-joined a u b v c w h e f = cancel v (a *ℤ w) (c *ℤ u) h (left ∙ ap (λ x. x *ℤ w) e ∙ middle ∙ ap (λ x. x *ℤ u) f ∙ right)
  where
    left : v *ℤ (a *ℤ w) ≡ a *ℤ v *ℤ w
    left = ring ints_ring (a ∷ v ∷ w ∷ []) (Y :* (X :* Z)) (X :* Y :* Z) refl

    middle : b *ℤ u *ℤ w ≡ b *ℤ w *ℤ u
    middle = ring ints_ring (b ∷ u ∷ w ∷ []) (X :* Y :* Z) (X :* Z :* Y) refl

    right : c *ℤ v *ℤ u ≡ v *ℤ (c *ℤ u)
    right = ring ints_ring (c ∷ v ∷ u ∷ []) (X :* Y :* Z) (Y :* (X :* Z)) refl

same_line-joined : (l m n : SupportingLine) → pos 1 ≤ℤ m.under → same_line l m ≡ true → same_line m n ≡ true → same_line l n ≡ true
same_line-joined l m n h e f =
    let d = exp_eq-same l.dir m.dir (and-left (exp_eq l.dir m.dir) _ e) in
    let g = exp_eq-same m.dir n.dir (and-left (exp_eq m.dir n.dir) _ f) in
    let p = int_eq-same (l.over *ℤ m.under) (m.over *ℤ l.under) (and-right (exp_eq l.dir m.dir) _ e) in
    let q = int_eq-same (m.over *ℤ n.under) (n.over *ℤ m.under) (and-right (exp_eq m.dir n.dir) _ f) in
    let r = places-joined l.over l.under m.over m.under n.over n.under h p q in
    and-in (exp_eq l.dir n.dir) _ (subst (λ (x : Exp). exp_eq l.dir x ≡ true) (d ∙ g) (exp_eq-refl l.dir)) (subst (λ (x : ℤ). int_eq (l.over *ℤ n.under) x ≡ true) r (int_eq-refl (l.over *ℤ n.under)))

filter-as : {A : Type 0} (P Q : A → Bool) (xs : List A) → ((x : A) → P x ≡ Q x) → filter P xs ≡ filter Q xs
filter-as P Q [] h = refl
filter-as P Q (x ∷ xs) h = let r = filter-as P Q xs h in ap (λ (b : Bool). cond b (x ∷ filter P xs) (filter P xs)) (h x) ∙ ap (λ ys. cond (Q x) (x ∷ ys) ys) r

named-line : RunKey → SupportingLine
named-line k = line_through (named_point k) (named_direction k)

-- the line of a run is that of its name
of-name : (ls g : List Wall) (k : RunKey) (h : IsNamedRun ls k g) → same_line h.0.line (line_through (named_point k) (named_direction k)) ≡ true
of-name ls [] k h = absurd h.1
of-name ls (w ∷ ws) k h =
    let i : In w (walls_along ls h.0.line) = subst (In w) h.0.is (inl refl) in
    subst (λ (m : SupportingLine). same_line h.0.line m ≡ true) (λ j. line_through (h.1.0 j) (h.1.1 j)) (filter-from (λ v. same_line h.0.line (supporting_line v)) ls w i).1

pub one-run : (ls g f : List Wall) (k : RunKey) → pos 1 ≤ℤ k.w → IsNamedRun ls k g → IsNamedRun ls k f → g ≡ f
one-run ls g f k p h j = h.0.is ∙ filter-as (λ v. same_line h.0.line (supporting_line v)) (λ v. same_line j.0.line (supporting_line v)) ls both ∙ sym j.0.is
  where
    s : SupportingLine
    s = line_through (named_point k) (named_direction k)

    over : (l m n : SupportingLine) → pos 1 ≤ℤ l.under → same_line l s ≡ true → same_line m s ≡ true → same_line l n ≡ true → same_line m n ≡ true
    over l m n u a b e = same_line-joined m s n p b (same_line-joined s l n u (same_line-flip l s a) e)

    both : (v : Wall) → same_line h.0.line (supporting_line v) ≡ same_line j.0.line (supporting_line v)
    both v =
        let a = of-name ls g k h in
        let b = of-name ls f k j in
        bool_iff (same_line h.0.line (supporting_line v)) (same_line j.0.line (supporting_line v)) (over h.0.line j.0.line (supporting_line v) h.0.proper a b) (over j.0.line h.0.line (supporting_line v) j.0.proper b a)

-- ---- points on the same walls

-- with one wall more, which is on both or on neither
pub same-more : (ws : List CodeWall) (i : ℕ) (w : CodeWall) (p q : Point) → i < length ws → w ≡ get_or ws i w → live_holds (wall_of w) p ≡ live_holds (wall_of w) q
    → live_on (walls_of (take i ws)) p ≡ live_on (walls_of (take i ws)) q → live_on (walls_of (take (i + 1) ws)) p ≡ live_on (walls_of (take (i + 1) ws)) q
same-more ws i w p q l is e h = parted p ∙ ap (λ us. us ++ filter (λ v. live_holds v p) (wall_of w ∷ [])) h ∙ ap (λ (b : Bool). live_on (walls_of (take i ws)) q ++ cond b (wall_of w ∷ []) []) e ∙ sym (parted q)
  where
    parted : (r : Point) → live_on (walls_of (take (i + 1) ws)) r ≡ live_on (walls_of (take i ws)) r ++ filter (λ v. live_holds v r) (wall_of w ∷ [])
    parted r =
        ap (λ us. live_on (walls_of us) r) (take_more ws i w l ∙ ap (λ v. take i ws ++ v ∷ []) (sym is))
        ∙ ap (λ us. live_on us r) (map-append wall_of (take i ws) (w ∷ [])) ∙ filter-append (λ v. live_holds v r) (walls_of (take i ws)) (wall_of w ∷ [])

-- ---- the name of a run by its first wall

pub first-names : (ls : List Wall) (ws : List CodeWall) (u : CodeWall) (k : RunKey) → (length ws ≡ 0 → ⊥) → u ≡ get_or ws 0 u → IsNamedBy k (wall_of u) → IsSomeRun ls (walls_of ws) → IsNamedRun ls k (walls_of ws)
first-names ls [] u k n is named some = absurd (n refl)
first-names ls (v ∷ vs) u k n is named some = (some, subst (λ (w : CodeWall). IsNamedBy k (wall_of w)) is named)

pub name-proper : (u : CodeWall) (k : RunKey) → IsNamedBy k (wall_of u) → pos 1 ≤ℤ k.w
name-proper u k named = subst (λ (p : Point). pos 1 ≤ℤ p.w) named.0 u.at.reduced.below

-- what is kept of the run itself is kept of each with its name
pub kept-named : (ls g : List Wall) (k : RunKey) (v : KeptPowers) → pos 1 ≤ℤ k.w → IsNamedRun ls k g → AreKeptPowers g v → AreKeptFor ls k v
kept-named ls g k v p named h f other = subst (λ (us : List Wall). AreKeptPowers us v) (one-run ls g f k p named other) h
