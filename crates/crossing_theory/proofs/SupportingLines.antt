-- The order of supporting lines, and the runs of walls along them.
use Rattle.std.proofs.Common.{◌≡◌, ℕ, ◌+◌, ◌<◌, ◌≤◌, get_or, take, refl, sym, subst, ap, ◌∙◌, List, [], ◌∷◌, ◌++◌, length, map, Bool, true, false, cond, ◌⊎◌, inl, inr, arith}
use Rattle.std.specs.Prelude.{ℤ, pos, ◌+ℤ◌, ◌-ℤ◌, ◌*ℤ◌, ◌≤ℤ◌, int_lt, filter, ◌&&◌, not}
use Rattle.std.specs.List.{dedup, dedup_from, flat_map}
use Rattle.std.specs.Cmp.{IsStrictWeakOrder}
use Rattle.std.specs.List.Sorted.{ties}
use Rattle.std.proofs.lemmas.Int.{ints}
use Rattle.std.proofs.lemmas.List.{append-nil, take_more}
use Rattle.std.proofs.lemmas.List.Concat.{flat_map-append}
use Rattle.sum_algebra.proofs.Ring.{ring}
use Rattle.sum_algebra.proofs.Ring as E
use Rattle.sum_algebra.proofs.IntegerRing.{ints_ring, ◌:+◌, ◌:*◌, ◌:-◌, X, Y, Z}
use Rattle.scattering.specs.Collections.{In, Every, in_order}
use Rattle.scattering.specs.Series.{Exp, int_eq, exp_eq, exp_before}
use Rattle.scattering.specs.Wall.{Wall, IsWall}
use Rattle.scattering.specs.SupportingLine.{SupportingLine, supporting_line, line_before, same_line, wall_before, supporting_lines, walls_along, runs, parts}
use Rattle.scattering.proofs.Lists.{Every-in_order, Every-images, Every-from_In, Every-implies, In-map, filter-keeps, map-append, In-in_order, Every-at, and-in, and-left, and-right, or-out, not-true, bool_iff, not-out, or-false}
use Rattle.scattering.proofs.Keys.{exp_eq-same, exp_eq-refl, int_eq-same}
use Rattle.scattering.proofs.KeyOrder.{exp_before-trans}
use Rattle.scattering.proofs.StrictOrders.{exp_before-asym}
use Rattle.plane_theory.proofs.Angles.{lt-not}
use Rattle.plane_theory.proofs.WholeNumbers.{not_negative, not_negative_of}
use Rattle.plane_theory.proofs.TotalOrder.{exp-total}
use Rattle.crossing_theory.proofs.OtherFunctions.{in_order-map}
use Rattle.crossing_theory.proofs.SortingByAngle.{in_order-sorted}
use Rattle.crossing_theory.proofs.StableSorting as Stable
use Rattle.crossing_theory.proofs.Runs as Runs

-- ---- the order of lines

-- m is l or before it
abbrev IsNoLater : SupportingLine → SupportingLine → Type 0
IsNoLater m l = (exp_before m.dir l.dir ≡ true) ⊎ ((m.dir ≡ l.dir) × ((m.over *ℤ l.under) ≤ℤ (l.over *ℤ m.under)))

irreflexive : (d : Exp) → exp_before d d ≡ true → ⊥
irreflexive d e = exp_before-asym d d e e

less-not : (a b : ℤ) → b ≤ℤ a → int_lt a b ≡ false
less-not a b e = grind (arith, ints, e)

same-in : (a b : ℤ) → a ≤ℤ b → b ≤ℤ a → int_eq a b ≡ true
same-in a b e f = grind (arith, ints, e, f)

same-flip : (a b : ℤ) → int_eq a b ≡ true → int_eq b a ≡ true
same-flip a b e = grind (arith, ints)

at-most : (l m : SupportingLine) → line_before l m ≡ false → IsNoLater m l
at-most l m e = go (exp-total m.dir l.dir) (or-false (exp_before l.dir m.dir) _ e)
  where
    go : (exp_before m.dir l.dir ≡ true) ⊎ ((exp_before l.dir m.dir ≡ true) ⊎ (m.dir ≡ l.dir))
        → (exp_before l.dir m.dir ≡ false) × ((exp_eq l.dir m.dir && int_lt (l.over *ℤ m.under) (m.over *ℤ l.under)) ≡ false) → IsNoLater m l
    go (inl a) f = inl a
    go (inr (inl b)) f = let g = f.0 in absurd (cc)
    go (inr (inr q)) f =
        let r : exp_eq l.dir m.dir ≡ true = subst (λ (d : Exp). exp_eq l.dir d ≡ true) (sym q) (exp_eq-refl l.dir) in
        inr (q, lt-not (l.over *ℤ m.under) (m.over *ℤ l.under) (ap (λ (b : Bool). b && int_lt (l.over *ℤ m.under) (m.over *ℤ l.under)) (sym r) ∙ f.1))

not-before : (l m : SupportingLine) → IsNoLater m l → line_before l m ≡ false
not-before l m (inl a) = not-true (line_before l m) (λ e. go (or-out (exp_before l.dir m.dir) _ e))
  where
    go : (exp_before l.dir m.dir ≡ true) ⊎ ((exp_eq l.dir m.dir && int_lt (l.over *ℤ m.under) (m.over *ℤ l.under)) ≡ true) → ⊥
    go (inl b) = exp_before-asym m.dir l.dir a b
    go (inr b) = irreflexive l.dir (subst (λ (d : Exp). exp_before d l.dir ≡ true) (sym (exp_eq-same l.dir m.dir (and-left (exp_eq l.dir m.dir) _ b))) a)
not-before l m (inr h) = not-true (line_before l m) (λ e. go (or-out (exp_before l.dir m.dir) _ e))
  where
    go : (exp_before l.dir m.dir ≡ true) ⊎ ((exp_eq l.dir m.dir && int_lt (l.over *ℤ m.under) (m.over *ℤ l.under)) ≡ true) → ⊥
    go (inl b) = irreflexive l.dir (subst (λ (d : Exp). exp_before l.dir d ≡ true) h.0 b)
    go (inr b) = let f = less-not (l.over *ℤ m.under) (m.over *ℤ l.under) h.1 in let g = and-right (exp_eq l.dir m.dir) (int_lt (l.over *ℤ m.under) (m.over *ℤ l.under)) b in absurd (cc)

-- c/w ≤ b/v and b/v ≤ a/u
places-chain : (a u b v c w : ℤ) → pos 1 ≤ℤ u → pos 1 ≤ℤ v → pos 1 ≤ℤ w → (c *ℤ v) ≤ℤ (b *ℤ w) → (b *ℤ u) ≤ℤ (a *ℤ v) → (c *ℤ u) ≤ℤ (a *ℤ w)
places-chain a u b v c w hu hv hw e f =
    let p : pos 0 ≤ℤ (b *ℤ w -ℤ c *ℤ v) = omega (arith, ints, e) in
    let q : pos 0 ≤ℤ (a *ℤ v -ℤ b *ℤ u) = omega (arith, ints, f) in
    let hu0 : pos 0 ≤ℤ u = omega (arith, ints, hu) in
    let hw0 : pos 0 ≤ℤ w = omega (arith, ints, hw) in
    let r = not_negative u (b *ℤ w -ℤ c *ℤ v) hu0 p in
    let s = not_negative w (a *ℤ v -ℤ b *ℤ u) hw0 q in
    let i = identity a u b v c w in
    let t = not_negative_of v (a *ℤ w -ℤ c *ℤ u) hv (omega (arith, ints, r, s, i)) in
    omega (arith, ints, t)
  where
    identity : (a u b v c w : ℤ) → v *ℤ (a *ℤ w -ℤ c *ℤ u) ≡ w *ℤ (a *ℤ v -ℤ b *ℤ u) +ℤ u *ℤ (b *ℤ w -ℤ c *ℤ v)
    identity a u b v c w =
        ring ints_ring (a ∷ u ∷ b ∷ v ∷ c ∷ w ∷ []) (E.var 3 :* (X :* E.var 5 :- E.var 4 :* Y)) (E.var 5 :* (X :* E.var 3 :- Z :* Y) :+ Y :* (Z :* E.var 5 :- E.var 4 :* E.var 3)) refl

abbrev pub IsProperLine : SupportingLine → Type 0
IsProperLine l = pos 1 ≤ℤ l.under

most-trans : (l m n : SupportingLine) → IsProperLine l → IsProperLine m → IsProperLine n → IsNoLater m l → IsNoLater n m → IsNoLater n l
most-trans l m n hl hm hn (inl a) (inl b) = inl (exp_before-trans n.dir m.dir l.dir b a)
most-trans l m n hl hm hn (inl a) (inr b) = inl (subst (λ (d : Exp). exp_before d l.dir ≡ true) (sym b.0) a)
most-trans l m n hl hm hn (inr a) (inl b) = inl (subst (λ (d : Exp). exp_before n.dir d ≡ true) a.0 b)
most-trans l m n hl hm hn (inr a) (inr b) = inr (b.0 ∙ a.0, places-chain l.over l.under m.over m.under n.over n.under hl hm hn b.1 a.1)

pub line-chain : (l m n : SupportingLine) → IsProperLine l → IsProperLine m → IsProperLine n → line_before l m ≡ false → line_before m n ≡ false → line_before l n ≡ false
line-chain l m n hl hm hn e f = not-before l n (most-trans l m n hl hm hn (at-most l m e) (at-most m n f))

pub line-one_way : (l m : SupportingLine) → line_before l m ≡ true → line_before m l ≡ false
line-one_way l m e = not-before m l (go (or-out (exp_before l.dir m.dir) _ e))
  where
    go : (exp_before l.dir m.dir ≡ true) ⊎ ((exp_eq l.dir m.dir && int_lt (l.over *ℤ m.under) (m.over *ℤ l.under)) ≡ true) → IsNoLater l m
    go (inl b) = inl b
    go (inr b) = inr (exp_eq-same l.dir m.dir (and-left (exp_eq l.dir m.dir) _ b), at-least (l.over *ℤ m.under) (m.over *ℤ l.under) (and-right (exp_eq l.dir m.dir) _ b))
      where
        at-least : (a b : ℤ) → int_lt a b ≡ true → a ≤ℤ b
        at-least a b e = grind (arith, ints)

pub same_line-refl : (l : SupportingLine) → same_line l l ≡ true
same_line-refl l = and-in (exp_eq l.dir l.dir) _ (exp_eq-refl l.dir) (same-in (l.over *ℤ l.under) (l.over *ℤ l.under) (omega (arith, ints)) (omega (arith, ints)))

pub same_line-flip : (l m : SupportingLine) → same_line l m ≡ true → same_line m l ≡ true
same_line-flip l m e =
    and-in (exp_eq m.dir l.dir) _ (subst (λ (d : Exp). exp_eq d l.dir ≡ true) (exp_eq-same l.dir m.dir (and-left (exp_eq l.dir m.dir) _ e)) (exp_eq-refl l.dir))
    (same-flip (l.over *ℤ m.under) (m.over *ℤ l.under) (and-right (exp_eq l.dir m.dir) _ e))

pub same_line-ties : (l m : SupportingLine) → same_line l m ≡ ties line_before l m
same_line-ties l m = bool_iff (same_line l m) (ties line_before l m) forth back
  where
    forth : same_line l m ≡ true → ties line_before l m ≡ true
    forth e =
        let d = exp_eq-same l.dir m.dir (and-left (exp_eq l.dir m.dir) _ e) in
        let q = int_eq-same (l.over *ℤ m.under) (m.over *ℤ l.under) (and-right (exp_eq l.dir m.dir) _ e) in
        and-in (not (line_before l m)) (not (line_before m l)) (ap not (not-before l m (inr (sym d, omega (arith, ints, q))))) (ap not (not-before m l (inr (d, omega (arith, ints, q)))))

    both : IsNoLater m l → IsNoLater l m → same_line l m ≡ true
    both (inl a) (inl b) = absurd (exp_before-asym m.dir l.dir a b)
    both (inl a) (inr b) = absurd (irreflexive l.dir (subst (λ (d : Exp). exp_before d l.dir ≡ true) (sym b.0) a))
    both (inr a) (inl b) = absurd (irreflexive l.dir (subst (λ (d : Exp). exp_before l.dir d ≡ true) a.0 b))
    both (inr a) (inr b) = and-in (exp_eq l.dir m.dir) _ (subst (λ (d : Exp). exp_eq l.dir d ≡ true) b.0 (exp_eq-refl l.dir)) (same-in (l.over *ℤ m.under) (m.over *ℤ l.under) b.1 a.1)

    back : ties line_before l m ≡ true → same_line l m ≡ true
    back e = both (at-most l m (not-out (line_before l m) (and-left (not (line_before l m)) _ e))) (at-most m l (not-out (line_before m l) (and-right (not (line_before l m)) _ e)))

-- ---- lists

map-map : {A B C : Type 0} (f : A → B) (g : B → C) (xs : List A) → map g (map f xs) ≡ map (λ x. g (f x)) xs
map-map f g [] = refl
map-map f g (x ∷ xs) = ap (λ r. g (f x) ∷ r) (map-map f g xs)

map-same : {A B : Type 0} (f g : A → B) → ((x : A) → f x ≡ g x) → (xs : List A) → map f xs ≡ map g xs
map-same f g h xs = λ i. map (λ x. h x i) xs

filter-map : {A B : Type 0} (f : A → B) (b : B → Bool) (xs : List A) → map f (filter (λ x. b (f x)) xs) ≡ filter b (map f xs)
filter-map f b [] = refl
filter-map f b (x ∷ xs) = go (b (f x)) (filter-map f b xs)
  where
    go : (c : Bool) → map f (filter (λ x. b (f x)) xs) ≡ filter b (map f xs) → map f (cond c (x ∷ filter (λ x. b (f x)) xs) (filter (λ x. b (f x)) xs)) ≡ cond c (f x ∷ filter b (map f xs)) (filter b (map f xs))
    go true h = ap (λ r. f x ∷ r) h
    go false h = h

from-map : {A B : Type 0} (f : A → B) (same : B → B → Bool) (k : A) (xs : List A) → dedup_from same (f k) (map f xs) ≡ map f (dedup_from (λ x y. same (f x) (f y)) k xs)
from-map f same k [] = refl
from-map f same k (x ∷ xs) = go (same (f x) (f k)) (from-map f same k xs) (from-map f same x xs)
  where
    go : (c : Bool) → dedup_from same (f k) (map f xs) ≡ map f (dedup_from (λ x y. same (f x) (f y)) k xs) → dedup_from same (f x) (map f xs) ≡ map f (dedup_from (λ x y. same (f x) (f y)) x xs)
        → cond c (dedup_from same (f k) (map f xs)) (f k ∷ dedup_from same (f x) (map f xs)) ≡ map f (cond c (dedup_from (λ x y. same (f x) (f y)) k xs) (k ∷ dedup_from (λ x y. same (f x) (f y)) x xs))
    go true h i = h
    go false h i = ap (λ r. f k ∷ r) i

dedup-map : {A B : Type 0} (f : A → B) (same : B → B → Bool) (xs : List A) → dedup same (map f xs) ≡ map f (dedup (λ x y. same (f x) (f y)) xs)
dedup-map f same [] = refl
dedup-map f same (x ∷ xs) = from-map f same x xs

joined-map : {A B : Type 0} (f : A → B) (gs : List (List A)) → flat_map (λ g. g) (map (map f) gs) ≡ map f (flat_map (λ g. g) gs)
joined-map f [] = refl
joined-map f (g ∷ gs) = ap (λ r. map f g ++ r) (joined-map f gs) ∙ sym (map-append f g (flat_map (λ g. g) gs))

-- ---- the runs of walls

module _ {A : Type 0} (wall : A → Wall) (valid : (x : A) → pos 1 ≤ℤ (wall x).at.w) where
  abbrev before : A → A → Bool
  before x y = wall_before (wall x) (wall y)

  abbrev same : A → A → Bool
  same x y = same_line (supporting_line (wall x)) (supporting_line (wall y))

  pub walls-ordered : IsStrictWeakOrder before
  walls-ordered = record {
    one_way = λ x y. line-one_way (supporting_line (wall x)) (supporting_line (wall y));
    chain = λ x y z. line-chain (supporting_line (wall x)) (supporting_line (wall y)) (supporting_line (wall z)) (valid x) (valid y) (valid z);
  }

  tied : (x y : A) → same x y ≡ ties before x y
  tied x y = same_line-ties (supporting_line (wall x)) (supporting_line (wall y))

  in-order : (xs : List A) → Runs.InOrder before same walls-ordered tied (in_order before xs)
  in-order xs = in_order-sorted before (λ _. Unit {0}) (Stable.after before walls-ordered) walls-ordered.one_way xs (Stable.any before walls-ordered xs)

  kept : (x : A) (xs : List A) → filter (same x) (in_order before xs) ≡ filter (same x) xs
  kept x xs = (λ i. filter (λ y. tied x y i) (in_order before xs)) ∙ Stable.in_order-ties before walls-ordered x xs ∙ sym (λ i. filter (λ y. tied x y i) xs)

  ties-are_runs : (xs : List A) → map (map wall) (map (λ x. filter (same x) (in_order before xs)) (dedup same (in_order before xs))) ≡ runs (map wall xs)
  ties-are_runs xs =
      map-map (λ x. filter (same x) (in_order before xs)) (map wall) (dedup same (in_order before xs))
      ∙ map-same _ (λ x. walls_along (map wall xs) (supporting_line (wall x))) (λ x. ap (map wall) (kept x xs) ∙ filter-map wall (λ w. same_line (supporting_line (wall x)) (supporting_line w)) xs) (dedup same (in_order before xs))
      ∙ sym (map-map (λ x. supporting_line (wall x)) (walls_along (map wall xs)) (dedup same (in_order before xs)))
      ∙ ap (map (walls_along (map wall xs))) (sym (dedup-map (λ x. supporting_line (wall x)) same_line (in_order before xs)))
      ∙ ap (λ ls. map (walls_along (map wall xs)) (dedup same_line ls)) (sym (in_order-map (λ x. supporting_line (wall x)) before line_before (λ x y. refl) xs))
      ∙ ap (λ ls. map (walls_along (map wall xs)) (dedup same_line (in_order line_before ls))) (sym (map-map wall supporting_line xs))

  -- the parts of the sorted walls between the starts of runs
  pub parts-are_runs : (xs ys : List A) → ys ≡ in_order before xs → map (map wall) (parts (Runs.starts same ys ++ length ys ∷ []) ys) ≡ runs (map wall xs)
  parts-are_runs xs ys e =
      subst (λ zs. map (map wall) (parts (Runs.starts same zs ++ length zs ∷ []) zs) ≡ runs (map wall xs)) (sym e)
      (ap (map (map wall)) (Runs.parts-are_ties before same walls-ordered tied (in_order before xs) (in-order xs)) ∙ ties-are_runs xs)

  pub runs-joined : (xs : List A) → flat_map (λ g. g) (runs (map wall xs)) ≡ in_order wall_before (map wall xs)
  runs-joined xs =
      ap (flat_map (λ g. g)) (sym (ties-are_runs xs))
      ∙ joined-map wall (map (λ x. filter (same x) (in_order before xs)) (dedup same (in_order before xs)))
      ∙ ap (map wall) (Runs.ties-joined before same walls-ordered tied (in_order before xs) (in-order xs))
      ∙ sym (in_order-map wall before wall_before (λ x y. refl) xs)

-- ---- of walls alone

abbrev Placed : Type 0
Placed = (w : Wall) × (pos 1 ≤ℤ w.at.w)

placed : (n : ℕ) (ws : List Wall) → Every (IsWall n) ws → (xs : List Placed) × (map (λ x. x.0) xs ≡ ws)
placed n [] h = ([], refl)
placed n (w ∷ ws) h = let r = placed n ws h.1 in ((w, h.0.point.below) ∷ r.0, ap (λ us. w ∷ us) r.1)

-- one after another the runs are the walls in the order of their lines
pub runs-are_all : (n : ℕ) (ws : List Wall) → Every (IsWall n) ws → flat_map (λ g. g) (runs ws) ≡ in_order wall_before ws
runs-are_all n ws h =
    let r = placed n ws h in
    subst (λ us. flat_map (λ g. g) (runs us) ≡ in_order wall_before us) r.1 (runs-joined (λ (x : Placed). x.0) (λ x. x.1) r.0)

-- ---- no run is empty

Every-dedup_from : {A : Type 0} (P : A → Type 0) (same : A → A → Bool) (k : A) (xs : List A) → P k → Every P xs → Every P (dedup_from same k xs)
Every-dedup_from P same k [] p h = (p, tt)
Every-dedup_from P same k (x ∷ xs) p h = go (same x k) (Every-dedup_from P same k xs p h.1) (Every-dedup_from P same x xs h.0 h.1)
  where
    go : (c : Bool) → Every P (dedup_from same k xs) → Every P (dedup_from same x xs) → Every P (cond c (dedup_from same k xs) (k ∷ dedup_from same x xs))
    go true u v = u
    go false u v = (p, v)

Every-dedup : {A : Type 0} (P : A → Type 0) (same : A → A → Bool) (xs : List A) → Every P xs → Every P (dedup same xs)
Every-dedup P same [] h = tt
Every-dedup P same (x ∷ xs) h = Every-dedup_from P same x xs h.0 h.1

abbrev pub HasWall : List Wall → SupportingLine → Type 0
HasWall ws l = (w : Wall) × In w ws × (l ≡ supporting_line w)

pub lines-have_walls : (ws : List Wall) → Every (HasWall ws) (supporting_lines ws)
lines-have_walls ws = Every-dedup (HasWall ws) same_line _ (Every-in_order (HasWall ws) line_before _ (Every-from_In (HasWall ws) (map supporting_line ws) (λ l i. In-map supporting_line ws l i)))

some-wall : (ws : List Wall) (l : SupportingLine) → HasWall ws l → 1 ≤ length (walls_along ws l)
some-wall ws l h =
    let i = filter-keeps (λ w. same_line l (supporting_line w)) ws h.0 h.1 (subst (λ (m : SupportingLine). same_line l m ≡ true) h.2 (same_line-refl l)) in
    some (walls_along ws l) i
  where
    some : (us : List Wall) → In h.0 us → 1 ≤ length us
    some [] i = absurd i
    some (u ∷ us) i = omega arith

pub runs-some : (ws : List Wall) → Every (λ g. 1 ≤ length g) (runs ws)
runs-some ws =
    Every-images (λ g. 1 ≤ length g) (walls_along ws) (supporting_lines ws)
    (Every-implies (HasWall ws) (λ l. 1 ≤ length (walls_along ws l)) (supporting_lines ws) (some-wall ws)
    (lines-have_walls ws))

-- ---- going over the runs

pub runs-more : {A : Type 0} (gs : List (List A)) (i : ℕ) (g : List A) → i < length gs → g ≡ get_or gs i g → flat_map (λ h. h) (take (i + 1) gs) ≡ flat_map (λ h. h) (take i gs) ++ g
runs-more gs i g l e =
    ap (flat_map (λ h. h)) (take_more gs i g l ∙ ap (λ h. take i gs ++ h ∷ []) (sym e))
    ∙ flat_map-append (λ h. h) (take i gs) (g ∷ [])
    ∙ ap (λ r. flat_map (λ h. h) (take i gs) ++ r) (append-nil g)

-- what holds of each run's walls holds of each wall
pub Every-runs : (n : ℕ) (P : Wall → Type 0) (ws : List Wall) → Every (IsWall n) ws → Every P (flat_map (λ g. g) (runs ws)) → Every P ws
Every-runs n P ws h k = Every-from_In P ws (λ w i. Every-at P (in_order wall_before ws) w (subst (Every P) (runs-are_all n ws h) k) (In-in_order wall_before ws w i))

pub In-runs : (n : ℕ) (ws : List Wall) (w : Wall) → Every (IsWall n) ws → In w (flat_map (λ g. g) (runs ws)) → In w ws
In-runs n ws w h i =
    Every-at (λ v. In v ws) (flat_map (λ g. g) (runs ws)) w
    (subst (Every (λ v. In v ws)) (sym (runs-are_all n ws h)) (Every-in_order (λ v. In v ws) wall_before ws (Every-from_In (λ v. In v ws) ws (λ v j. j)))) i

pub runs-In : (n : ℕ) (ws : List Wall) (w : Wall) → Every (IsWall n) ws → In w ws → In w (flat_map (λ g. g) (runs ws))
runs-In n ws w h i = subst (λ us. In w us) (sym (runs-are_all n ws h)) (In-in_order wall_before ws w i)
