-- The start: the tails without bends have to be followed.
use Rattle.std.proofs.Common.{◌≡◌, ◌≢◌, ℕ, refl, sym, ap, subst, ◌∙◌, ◌+◌, inl, inr, arith, true, false, List, [], ◌∷◌, length, get_or}
use Rattle.std.specs.Prelude.{ℤ, IsTrue, int_lt, ◌+ℤ◌, ◌&&◌, ◌||◌, not, filter}
use Rattle.std.proofs.lemmas.Int.{ints}
use Rattle.std.proofs.lemmas.List.{append-nil}
use Rattle.std.specs.BTreeMap.{IsOrdered, keys}
use Rattle.std.specs.Map.{keys_of}
use Rattle.std.specs.List.{AllByRecursion}
use Rattle.std.specs.List.Sorted.{IsStrictlySortedBy}
use Rattle.std.specs.Ordering.{int_cmp, ordering_then}
use Rattle.std.specs.declared.cmp.Ordering.TheVariants.{Less}
use Rattle.scattering.specs.Collections.{In, Every, EveryPair}
use Rattle.scattering.specs.Series.{Exp, origin, exp_add, exp_sub, exp_eq, exp_before, int_eq}
use Rattle.scattering.specs.Plane.{Point}
use Rattle.scattering.specs.Wall.{Wall, cut_walls}
use Rattle.scattering.specs.Tail.{Tail, IsTail, IsInReach, IsReachedBy}
use Rattle.scattering.proofs.Keys.{exp_eq-refl, exp_eq-same, same-exp}
use Rattle.scattering.proofs.Lists.{Every-from_In, Every-images, In-mapped, filter-from, filter-keeps, not-true, not-out, pairs-filter, pairs-implies, pairs-images}
use Rattle.trunc_series.specs.Shown.{exp_of}
use Rattle.trunc_series.specs.declared.key.Exp.{Exp as CodeExp}
use Rattle.plane_geom.specs.Shown.{point_of}
use Rattle.broken_line_theory.proofs.ListedTails.{traced-reach}
use Rattle.broken_lines.specs.declared.node.Ask.{Ask}
use Rattle.joint_finder.proofs.Lists.{In-get}
use Rattle.broken_lines.specs.Growth.{exp_cmp, IsSummable, AreSummable}
use Rattle.broken_lines.specs.Traced.{plain}
use Rattle.broken_lines.specs.Tracing.{SeenNode, SeenTracing, nothing_traced, pushed, is_root, root_at, roots, IsAskReady, BeginsLike, IsApart, IsGoodNode, Traces, AreTraced}
use Rattle.broken_lines.proofs.Growths.{known-key, own-place}
use Rattle.broken_lines.proofs.ReachList.{key-of, entry-value}
use Rattle.broken_lines.proofs.WithinReach.{reached-small}

-- ---- keys

known-reach : (es : List (CodeExp × ℕ)) (d : CodeExp) → In d (keys_of es) → (n : ℕ) × In (d, n) es
known-reach [] d i = absurd i
known-reach (e ∷ es) d (inl f) = (e.1, inl (λ j. (f j, e.1)))
known-reach (e ∷ es) d (inr i) = let r = known-reach es d i in (r.0, inr r.1)

-- the order of exponents stays where one is added to both
moved-before : (a a' b b' u v : ℤ) → ordering_then (int_cmp a a') (int_cmp b b') ≡ Less → (int_lt (u +ℤ a) (u +ℤ a') || (int_eq (u +ℤ a) (u +ℤ a') && int_lt (v +ℤ b) (v +ℤ b'))) ≡ true
moved-before a a' b b' u v e = grind (arith, ints, e)

abbrev Precedes : Exp → CodeExp → CodeExp → Type 0
Precedes m x y = IsTrue (exp_before (exp_add m (exp_of x)) (exp_add m (exp_of y)))

keys-rise : (m : Exp) (xs : List CodeExp) → IsStrictlySortedBy exp_cmp xs → EveryPair (Precedes m) xs
unfolding IsStrictlySortedBy
keys-rise m [] s = tt
keys-rise m (x ∷ xs) s = (first xs s.0, keys-rise m xs s.1)
  where
    first : (ys : List CodeExp) → AllByRecursion (λ y. exp_cmp x y ≡ Less) ys → Every (Precedes m x) ys
    first [] h = tt
    first (y ∷ ys) h = (moved-before x.a y.a x.b y.b m.a m.b h.0, first ys h.1)

back : (m d : Exp) → exp_sub (exp_add m d) m ≡ d
back m d = same-exp _ _ (omega (arith, ints)) (omega (arith, ints))

forth : (m x : Exp) → exp_add m (exp_sub x m) ≡ x
forth m x = same-exp _ _ (omega (arith, ints)) (omega (arith, ints))

-- ---- roots

module _ (ws : List Wall) (k : Ask) (ready : IsAskReady ws k) (ordered : IsOrdered exp_cmp k.known) where
  abbrev b : ℕ
  b = k.limit

  abbrev m : Exp
  m = exp_of k.m

  abbrev q : Point
  q = point_of k.at

  abbrev ds : List CodeExp
  ds = keys k.known

  root-moves : (d : CodeExp) → is_root k d ≡ true → exp_add m (exp_of d) ≢ origin
  root-moves d t e =
      let same : exp_eq (exp_add m (exp_of d)) origin ≡ true = subst (λ (x : Exp). exp_eq x origin ≡ true) (sym e) (exp_eq-refl origin) in
      let other = not-out (exp_eq (exp_add m (exp_of d)) origin) t in cc

  root-good : ((d : CodeExp) (n : ℕ) → In (d, n) k.known.entries → IsInReach ws b m (exp_add m (exp_of d)) 0) → (d : CodeExp) → In d ds → is_root k d ≡ true → IsGoodNode ws b m q (root_at k d)
  root-good reach d i t =
      let r = known-reach k.known.entries d i in
      record { good = record { is = record { moves = root-moves d t; traced = reach d r.0 r.1 }; told = (refl, refl) }; at = refl; weight = inl refl }

  root-all : (t : Tail) → IsTail ws b m q t → (n : SeenNode) × In n (roots k ds) × BeginsLike (plain n.tail) t
  root-all t h =
      let r = traced-reach ws b m q t.root 0 t.bends h.traced in
      let le = r.1 in
      let a = ready.reach.all (exp_sub t.root m) (r.0, omega (arith, le), r.2) in
      let same : exp_add m (exp_of a.0) ≡ t.root = ap (exp_add m) a.2 ∙ forth m t.root in
      (root_at k a.0, In-mapped (root_at k) (filter (is_root k) ds) a.0 (filter-keeps (is_root k) ds a.0 (key-of k.known.entries a.0 a.1 (known-key k.known.entries a.0 a.1 a.3)) (other a.0 same)), (same, (t.bends, refl)))
    where
      other : (d : CodeExp) → exp_add m (exp_of d) ≡ t.root → is_root k d ≡ true
      other d same = ap not (not-true (exp_eq (exp_add m (exp_of d)) origin) (λ e. h.moves (sym same ∙ exp_eq-same (exp_add m (exp_of d)) origin e)))

  abbrev start : SeenTracing
  start = record { tails = []; nodes = roots k ds; found = 0 + length (roots k ds); weight = 0; far = false; special = nothing_traced.special }

  start-traces : ((d : CodeExp) (n : ℕ) → In (d, n) k.known.entries → IsInReach ws b m (exp_add m (exp_of d)) 0) → Traces ws b m q start
  start-traces reach = record {
    good = tt;
    next = Every-images (IsGoodNode ws b m q) (root_at k) (filter (is_root k) ds) (Every-from_In (λ d. IsGoodNode ws b m q (root_at k d)) (filter (is_root k) ds) (λ d i. let o = filter-from (is_root k) ds d i in root-good reach d o.0 o.1));
    count = refl;
    all = λ t h. inr (root-all t h);
    sorted = tt;
    first = tt;
    apart = pairs-images (λ u v. IsApart (plain u.tail) (plain v.tail)) (root_at k) (filter (is_root k) ds)
        (pairs-implies (Precedes m) (λ d e. IsApart (plain (root_at k d).tail) (plain (root_at k e).tail)) (filter (is_root k) ds) (λ d e o. inl o) (pairs-filter (Precedes m) (is_root k) ds (keys-rise m ds ordered)));
    sums = inl refl;
    hit = λ e. absurd (cc);
    near = λ e. tt;
    met = λ e p r. r.1;
  }

  pub traces-start : ((d : CodeExp) (n : ℕ) → In (d, n) k.known.entries → IsInReach ws b m (exp_add m (exp_of d)) 0) → AreTraced ws k (pushed (roots k ds) nothing_traced)
  traces-start reach = subst (λ (ns : List SeenNode). Traces ws b m q record { tails = []; nodes = ns; found = 0 + length (roots k ds); weight = 0; far = false; special = nothing_traced.special }) (sym (append-nil (roots k ds))) (start-traces reach)

-- what the map has is in reach
pub key-reach : (ws : List Wall) (k : Ask) → IsAskReady ws k → IsOrdered exp_cmp k.known → (d : CodeExp) (n : ℕ) → In (d, n) k.known.entries → IsInReach ws k.limit (exp_of k.m) (exp_add (exp_of k.m) (exp_of d)) 0
key-reach ws k ready ordered d n i =
    let r = ready.reach.each d n (entry-value k.known.entries d n ordered i) in
    let le = r.1 in
    (n, omega (arith, le), subst (λ (y : Exp). IsReachedBy (cut_walls k.limit ws) y n) (sym (back (exp_of k.m) (exp_of d))) r.0.reached)

-- and can be added to what is asked for
pub keys-summable : (ws : List Wall) (k : Ask) → IsAskReady ws k → IsOrdered exp_cmp k.known → AreSummable (keys k.known)
keys-summable ws k ready ordered i d lt = summable (get_or (keys k.known) i d) (In-get (keys k.known) i (get_or (keys k.known) i d) lt (own-place (keys k.known) i d lt))
  where
    summable : (x : CodeExp) → In x (keys k.known) → IsSummable x
    summable x j =
        let r = known-reach k.known.entries x j in
        let e = ready.reach.each x r.0 (entry-value k.known.entries x r.0 ordered r.1) in
        let low = ready.limit in
        let le = e.1 in
        let small = reached-small k.limit ws ready.tame (exp_of x) r.0 (omega (arith, low, le)) e.0.reached in
        let p = small.0 in
        let q = small.1 in
        (omega (arith, p), omega (arith, q))
