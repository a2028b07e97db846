-- A sorted list falls into runs of elements that tie, each of which is all that ties with its first.
use Rattle.std.proofs.Common.{◌≡◌, ℕ, zero, suc, ◌+◌, ◌-◌, ◌<◌, ◌≤◌, refl, sym, subst, ap, ◌∙◌, List, [], ◌∷◌, ◌++◌, length, get_or, take, drop, append_assoc, append-nil, length-append, Bool, true, false, cond, inl, inr, arith, add-one}
use Rattle.std.specs.Prelude.{filter, map, not}
use Rattle.std.specs.List.{dedup, dedup_from, flat_map}
use Rattle.std.specs.Cmp.{IsStrictWeakOrder}
use Rattle.std.specs.List.Sorted.{ties}
use Rattle.std.proofs.lemmas.List.{take_at, drop_at, take_all, take-append-drop, drop-drop, length-drop}
use Rattle.scattering.specs.Collections.{In, Every, EveryPair}
use Rattle.scattering.specs.SupportingLine.{parts, AreBounds}
use Rattle.scattering.proofs.Lists.{Every-append, Every-implies, and-in, and-left, and-right, not-out, not-true}
use Rattle.crossing_theory.proofs.LiveWalls.{filter-append}

-- ---- parts of a list

pub piece-is : {A : Type 0} (pre g post xs : List A) (a b : ℕ) → length pre ≡ a → a + length g ≡ b → xs ≡ pre ++ (g ++ post) → take (b - a) (drop a xs) ≡ g
piece-is pre g post xs a b h k e =
    ap (λ ys. take (b - a) (drop a ys)) e ∙ ap (take (b - a)) (drop_at pre (g ++ post) a h) ∙ take_at g post (b - a) (omega (arith, k))

pub bounds-over : (low high : ℕ) (bs : List ℕ) → AreBounds low high bs → low ≤ high
bounds-over low high [] h = h
bounds-over low high (b ∷ bs) h = let k = bounds-over b high bs h.1 in omega (arith, h.0, k)

bounds-next : (low high : ℕ) (bs : List ℕ) (k d : ℕ) → AreBounds low high bs → suc k < length bs → get_or bs k d ≤ get_or bs (suc k) d
bounds-next low high [] k d h l = absurd (omega (arith, l))
bounds-next low high (b ∷ []) k d h l = absurd (omega (arith, l))
bounds-next low high (b ∷ c ∷ bs) zero d h l = h.1.0
bounds-next low high (b ∷ c ∷ bs) (suc k) d h l = bounds-next b high (c ∷ bs) k d h.1 (omega (arith, l))

pub bounds-rise : (low high : ℕ) (bs : List ℕ) (k d : ℕ) → AreBounds low high bs → k + 1 < length bs → get_or bs k d ≤ get_or bs (k + 1) d
bounds-rise low high bs k d h l = subst (λ n. get_or bs k d ≤ get_or bs n d) (sym (add-one k)) (bounds-next low high bs k d h (omega (arith, l)))

pub bounds-within : (low high : ℕ) (bs : List ℕ) (k d : ℕ) → AreBounds low high bs → k < length bs → get_or bs k d ≤ high
bounds-within low high [] k d h l = absurd (omega (arith, l))
bounds-within low high (b ∷ bs) zero d h l = bounds-over b high bs h.1
bounds-within low high (b ∷ bs) (suc k) d h l = bounds-within b high bs k d h.1 (omega (arith, l))

pub length-parts : {A : Type 0} (bs : List ℕ) (xs : List A) → length (parts bs xs) ≡ length bs - 1
length-parts [] xs = refl
length-parts (a ∷ []) xs = refl
length-parts (a ∷ b ∷ bs) xs = let h = length-parts (b ∷ bs) xs in omega (arith, h)

part-next : {A : Type 0} (bs : List ℕ) (xs d : List A) (k e : ℕ) → suc k < length bs → get_or (parts bs xs) k d ≡ take (get_or bs (suc k) e - get_or bs k e) (drop (get_or bs k e) xs)
part-next [] xs d k e l = absurd (omega (arith, l))
part-next (a ∷ []) xs d k e l = absurd (omega (arith, l))
part-next (a ∷ b ∷ bs) xs d zero e l = refl
part-next (a ∷ b ∷ bs) xs d (suc k) e l = part-next (b ∷ bs) xs d k e (omega (arith, l))

pub part-at : {A : Type 0} (bs : List ℕ) (xs d : List A) (k e : ℕ) → k + 1 < length bs → get_or (parts bs xs) k d ≡ take (get_or bs (k + 1) e - get_or bs k e) (drop (get_or bs k e) xs)
part-at bs xs d k e l = subst (λ n. get_or (parts bs xs) k d ≡ take (get_or bs n e - get_or bs k e) (drop (get_or bs k e) xs)) (sym (add-one k)) (part-next bs xs d k e (omega (arith, l)))

pub parts-joined : {A : Type 0} (a : ℕ) (bs : List ℕ) (xs : List A) → AreBounds a (length xs) bs → flat_map (λ g. g) (parts (a ∷ (bs ++ length xs ∷ [])) xs) ≡ drop a xs
parts-joined a [] xs h = append-nil _ ∙ take_all (length xs - a) (drop a xs) (let l = length-drop a xs in omega (arith, l))
parts-joined a (b ∷ bs) xs h =
    ap (λ r. take (b - a) (drop a xs) ++ r) (parts-joined b bs xs h.1)
    ∙ ap (λ r. take (b - a) (drop a xs) ++ r) (sym (drop-drop (b - a) a xs ∙ ap (λ n. drop n xs) (omega (arith, h.0))))
    ∙ take-append-drop (b - a) (drop a xs)

-- ---- where runs begin

module _ {A : Type 0} (same : A → A → Bool) where
  -- the places of elements that don't tie with the one before, counted from j
  abbrev pub starts_from : ℕ → A → List A → List ℕ
  starts_from j p [] = []
  starts_from j p (x ∷ xs) = cond (same p x) (starts_from (suc j) x xs) (j ∷ starts_from (suc j) x xs)

  abbrev pub starts : List A → List ℕ
  starts [] = []
  starts (x ∷ xs) = 0 ∷ starts_from 1 x xs

  abbrev last_of : A → List A → A
  last_of p [] = p
  last_of p (x ∷ xs) = last_of x xs

  last-at : (p d : A) (xs : List A) → last_of p xs ≡ get_or (p ∷ xs) (length xs) d
  last-at p d [] = refl
  last-at p d (x ∷ xs) = last-at x d xs

  from-more : (j : ℕ) (p : A) (xs : List A) (y : A) → starts_from j p (xs ++ y ∷ []) ≡ starts_from j p xs ++ cond (same (last_of p xs) y) [] ((j + length xs) ∷ [])
  from-more j p [] y = go (same p y)
    where
      go : (b : Bool) → cond b [] (j ∷ []) ≡ cond b [] ((j + 0) ∷ [])
      go true = refl
      go false = ap (λ n. n ∷ []) (omega arith)
  from-more j p (x ∷ xs) y = go (same p x) (from-more (suc j) x xs y ∙ ap (λ n. starts_from (suc j) x xs ++ cond (same (last_of x xs) y) [] (n ∷ [])) (omega arith))
    where
      go : (b : Bool) → starts_from (suc j) x (xs ++ y ∷ []) ≡ starts_from (suc j) x xs ++ cond (same (last_of x xs) y) [] ((j + suc (length xs)) ∷ [])
          → cond b (starts_from (suc j) x (xs ++ y ∷ [])) (j ∷ starts_from (suc j) x (xs ++ y ∷ [])) ≡ cond b (starts_from (suc j) x xs) (j ∷ starts_from (suc j) x xs) ++ cond (same (last_of x xs) y) [] ((j + suc (length xs)) ∷ [])
      go true h = h
      go false h = ap (λ r. j ∷ r) h

  pub starts-more : (x : A) (xs : List A) (y d : A) → starts ((x ∷ xs) ++ y ∷ []) ≡ starts (x ∷ xs) ++ cond (same (get_or (x ∷ xs) (length xs) d) y) [] (suc (length xs) ∷ [])
  starts-more x xs y d = ap (λ r. 0 ∷ r) (from-more 1 x xs y) ∙ ap (λ n. 0 ∷ (starts_from 1 x xs ++ cond (same (last_of x xs) y) [] (n ∷ []))) (omega arith) ∙ ap (λ p. 0 ∷ (starts_from 1 x xs ++ cond (same p y) [] (suc (length xs) ∷ []))) (last-at x d xs)

  from-bounds : (low j : ℕ) (p : A) (xs : List A) → low ≤ j → AreBounds low (j + length xs) (starts_from j p xs)
  from-bounds low j p [] h = omega (arith, h)
  from-bounds low j p (x ∷ xs) h = go (same p x) (from-bounds low (suc j) x xs (omega (arith, h))) (from-bounds j (suc j) x xs (omega arith))
    where
      n : (suc j + length xs) ≡ j + suc (length xs)
      n = omega arith

      go : (b : Bool) → AreBounds low (suc j + length xs) (starts_from (suc j) x xs) → AreBounds j (suc j + length xs) (starts_from (suc j) x xs) → AreBounds low (j + suc (length xs)) (cond b (starts_from (suc j) x xs) (j ∷ starts_from (suc j) x xs))
      go true u v = subst (λ m. AreBounds low m (starts_from (suc j) x xs)) n u
      go false u v = (h, subst (λ m. AreBounds j m (starts_from (suc j) x xs)) n v)

  pub next-bounds : (x : A) (xs : List A) → AreBounds 0 (suc (length xs)) (starts_from 1 x xs)
  next-bounds x xs = subst (λ m. AreBounds 0 m (starts_from 1 x xs)) (omega arith) (from-bounds 0 1 x xs (omega arith))

  pub starts-bounds : (xs : List A) → AreBounds 0 (length xs) (starts xs)
  starts-bounds [] = omega arith
  starts-bounds (x ∷ xs) = (omega arith, next-bounds x xs)

pub bounds-ended : (low high : ℕ) (bs : List ℕ) → AreBounds low high bs → AreBounds low high (bs ++ high ∷ [])
bounds-ended low high [] h = (h, omega arith)
bounds-ended low high (b ∷ bs) h = (h.0, bounds-ended b high bs h.1)

-- ---- the runs of a sorted list

module _ {A : Type 0} (before same : A → A → Bool) (order : IsStrictWeakOrder before) (tied : (x y : A) → same x y ≡ ties before x y) where
  abbrev pub InOrder : List A → Type 0
  InOrder xs = EveryPair (λ y z. before z y ≡ false) xs

  tie-right : (x y : A) → same x y ≡ true → before y x ≡ false
  tie-right x y e = not-out (before y x) (and-right (not (before x y)) (not (before y x)) (sym (tied x y) ∙ e))

  tie-left : (x y : A) → same x y ≡ true → before x y ≡ false
  tie-left x y e = not-out (before x y) (and-left (not (before x y)) (not (before y x)) (sym (tied x y) ∙ e))

  tie-in : (x y : A) → before x y ≡ false → before y x ≡ false → same x y ≡ true
  tie-in x y p q = tied x y ∙ and-in (not (before x y)) (not (before y x)) (ap not p) (ap not q)

  itself : (x : A) → before x x ≡ false
  itself x = not-true (before x x) (λ e. let f = order.one_way x x e in absurd (cc))

  pub same-refl : (x : A) → same x x ≡ true
  same-refl x = tie-in x x (itself x) (itself x)

  pub same-sym : (x y : A) → same x y ≡ true → same y x ≡ true
  same-sym x y e = tie-in y x (tie-right x y e) (tie-left x y e)

  pub same-trans : (x y z : A) → same x y ≡ true → same y z ≡ true → same x z ≡ true
  same-trans x y z e f = tie-in x z (order.chain x y z (tie-left x y e) (tie-left y z f)) (order.chain z y x (tie-right y z f) (tie-right x y e))

  other : (x y : A) → before x y ≡ true → same x y ≡ false
  other x y e = not-true (same x y) (λ f. let g = tie-left x y f in absurd (cc))

  other-back : (x y : A) → before y x ≡ true → same x y ≡ false
  other-back x y e = not-true (same x y) (λ f. let g = tie-right x y f in absurd (cc))

  is-before : (b : Bool) → (b ≡ false → ⊥) → b ≡ true
  is-before true h = refl
  is-before false h = absurd (h refl)

  rises : (x y : A) → same x y ≡ false → before y x ≡ false → before x y ≡ true
  rises x y e f = is-before (before x y) (λ g. let t = tie-in x y g f in absurd (cc))

  -- z < x and x ≤ y;  x < y and y ≤ z
  lower : (z x y : A) → before z x ≡ true → before y x ≡ false → before z y ≡ true
  lower z x y e f = is-before (before z y) (λ g. let t = order.chain z y x g f in absurd (cc))

  upper : (x y z : A) → before x y ≡ true → before z y ≡ false → before x z ≡ true
  upper x y z e f = is-before (before x z) (λ g. let t = order.chain x z y g f in absurd (cc))

  none-kept : (c : A → Bool) (xs : List A) → Every (λ z. c z ≡ false) xs → filter c xs ≡ []
  none-kept c [] h = refl
  none-kept c (x ∷ xs) h = rw h.0 (none-kept c xs h.1)

  all-kept : (c : A → Bool) (xs : List A) → Every (λ z. c z ≡ true) xs → filter c xs ≡ xs
  all-kept c [] h = refl
  all-kept c (x ∷ xs) h = rw h.0 (ap (λ r. x ∷ r) (all-kept c xs h.1))

  kept-is : (x : A) (pre g post xs : List A) → Every (λ z. before z x ≡ true) pre → Every (λ z. same x z ≡ true) g → Every (λ z. before x z ≡ true) post → xs ≡ pre ++ (g ++ post) → g ≡ filter (same x) xs
  kept-is x pre g post xs h i j e =
      sym (
      ap (filter (same x)) e
      ∙ filter-append (λ _. true) (same x) pre (g ++ post)
      ∙ ap (λ r. r ++ filter (same x) (g ++ post)) (none-kept (same x) pre (Every-implies _ (λ z. same x z ≡ false) pre (λ z b. other-back x z b) h))
      ∙ filter-append (λ _. true) (same x) g post
      ∙ ap (λ r. r ++ filter (same x) post) (all-kept (same x) g i)
      ∙ ap (λ r. g ++ r) (none-kept (same x) post (Every-implies _ (λ z. same x z ≡ false) post (λ z b. other x z b) j))
      ∙ append-nil g
      )

  -- pre stands before the run of x, g is what has been seen of that run, and p is the last of it
  record Seen (pre : List A) (x : A) (g : List A) (p : A) (xs : List A) : Type 0 where
    pub less : Every (λ z. before z x ≡ true) pre
    pub equal : Every (λ z. same x z ≡ true) g
    pub last : same x p ≡ true
    pub sorted : InOrder (p ∷ xs)

  module _ (all : List A) where
    abbrev Cut : ℕ → A → List ℕ → List A → Type 0
    Cut a x bs xs = parts (a ∷ (bs ++ length all ∷ [])) all ≡ map (λ y. filter (same y) all) (dedup_from same x xs)

    same-run : (pre : List A) (x : A) (g : List A) (p y : A) (ys : List A) → Seen pre x g p (y ∷ ys) → same p y ≡ true → Seen pre x (g ++ y ∷ []) y ys
    same-run pre x g p y ys s e =
        let t = same-trans x p y s.last e in
        record { less = s.less; equal = Every-append (λ z. same x z ≡ true) g (y ∷ []) s.equal (t, tt); last = t; sorted = s.sorted.1 }

    next-run : (pre : List A) (x : A) (g : List A) (p y : A) (ys : List A) → Seen pre x g p (y ∷ ys) → same p y ≡ false → Seen (pre ++ g) y (y ∷ []) y ys
    next-run pre x g p y ys s e =
        let r = rises p y e s.sorted.0.0 in
        let u = lower-last r in
        record {
          less = Every-append (λ z. before z y ≡ true) pre g (Every-implies _ (λ z. before z y ≡ true) pre (λ z b. lower z x y b (after r)) s.less) (Every-implies _ (λ z. before z y ≡ true) g (λ z b. below z b r) s.equal);
          equal = (same-refl y, tt);
          last = same-refl y;
          sorted = s.sorted.1;
        }
      where
        -- x < y, as x ties with p
        lower-last : before p y ≡ true → before x y ≡ true
        lower-last r = is-before (before x y) (λ g. let t = order.chain p x y (tie-right x p s.last) g in absurd (cc))

        after : before p y ≡ true → before y x ≡ false
        after r = order.one_way x y (lower-last r)

        below : (z : A) → same x z ≡ true → before p y ≡ true → before z y ≡ true
        below z b r = let u = lower-last r in is-before (before z y) (λ g. let t = order.chain x z y (tie-left x z b) g in absurd (cc))

    above : (x p y : A) (ys : List A) → same x p ≡ true → same p y ≡ false → InOrder (p ∷ y ∷ ys) → Every (λ z. before x z ≡ true) (y ∷ ys)
    above x p y ys l e s =
        let r = rises p y e s.0.0 in
        let u = is-before (before x y) (λ g. let t = order.chain p x y (tie-right x p l) g in absurd (cc)) in
        (u, Every-implies _ (λ z. before x z ≡ true) ys (λ z b. upper x y z u b) s.1.0)

    cut-from : (a j : ℕ) (pre : List A) (x : A) (g : List A) (p : A) (xs : List A) → length pre ≡ a → a + length g ≡ j → all ≡ pre ++ (g ++ xs) → Seen pre x g p xs → Cut a x (starts_from same j p xs) xs
    cut-from a j pre x g p [] h k e s =
        let n : length all ≡ a + length g = ap length e ∙ length-append pre (g ++ []) ∙ (let m = length-append g [] in omega (arith, h, m)) in
        ap (λ r. r ∷ []) (piece-is pre g [] all a (length all) h (sym n) e ∙ kept-is x pre g [] all s.less s.equal tt e)
    cut-from a j pre x g p (y ∷ ys) h k e s =
        go (same p y) refl
        (λ q. cut-from a (suc j) pre x (g ++ y ∷ []) y ys h (let m = length-append g (y ∷ []) in omega (arith, k, m)) (e ∙ ap (λ r. pre ++ r) (sym (append_assoc g (y ∷ []) ys))) (same-run pre x g p y ys s q))
        (λ q. cut-from j (suc j) (pre ++ g) y (y ∷ []) y ys (length-append pre g ∙ omega (arith, h, k)) (omega arith) (e ∙ sym (append_assoc pre g (y ∷ ys))) (next-run pre x g p y ys s q))
      where
        known : same p y ≡ true → same y x ≡ true
        known q = same-sym x y (same-trans x p y s.last q)

        unknown : same p y ≡ false → same y x ≡ false
        unknown q = not-true (same y x) (λ t. let u = same-trans p x y (same-sym x p s.last) (same-sym y x t) in absurd (cc))

        go : (b : Bool) → same p y ≡ b → (same p y ≡ true → Cut a x (starts_from same (suc j) y ys) ys) → (same p y ≡ false → Cut j y (starts_from same (suc j) y ys) ys) → Cut a x (starts_from same j p (y ∷ ys)) (y ∷ ys)
        go true q u v = rw (q, known q) (u q)
        go false q u v =
            rw (q, unknown q)
            (λ i. (piece-is pre g (y ∷ ys) all a j h k e ∙ kept-is x pre g (y ∷ ys) all s.less s.equal (above x p y ys s.last q s.sorted) e) i ∷ v q i)

  -- the parts between the starts are what ties with each of them
  pub parts-are_ties : (xs : List A) → InOrder xs → parts (starts same xs ++ length xs ∷ []) xs ≡ map (λ y. filter (same y) xs) (dedup same xs)
  parts-are_ties [] s = refl
  parts-are_ties (x ∷ xs) s = cut-from (x ∷ xs) 0 1 [] x (x ∷ []) x xs refl refl refl (record { less = tt; equal = (same-refl x, tt); last = same-refl x; sorted = s })

  -- one after another they are the list
  pub ties-joined : (xs : List A) → InOrder xs → flat_map (λ g. g) (map (λ y. filter (same y) xs) (dedup same xs)) ≡ xs
  ties-joined [] s = refl
  ties-joined (x ∷ xs) s = ap (flat_map (λ g. g)) (sym (parts-are_ties (x ∷ xs) s)) ∙ parts-joined 0 (starts_from same 1 x xs) (x ∷ xs) (next-bounds same x xs)

-- ---- an element by its place

pub In-place : {A : Type 0} (xs : List A) (k : ℕ) (d : A) → k < length xs → In (get_or xs k d) xs
In-place [] k d l = absurd (omega (arith, l))
In-place (x ∷ xs) zero d l = inl refl
In-place (x ∷ xs) (suc k) d l = inr (In-place xs k d (omega (arith, l)))
