-- Lists of rays, merged one ray at a time.
use Rattle.std.proofs.Common.{◌≡◌, ℕ, ◌+◌, ◌<◌, refl, sym, ap, ◌∙◌, suc, ◌-◌, length, length-drop, get_or, drop, drop-drop, List, [], ◌∷◌, ◌++◌, arith}
use Rattle.std.proofs.lemmas.List.{drop_more, length-map, get_or-map}
use Rattle.std.specs.declared.cmp.Ordering.{Ordering}
use Rattle.std.specs.declared.cmp.Ordering.TheVariants.{Less, Equal, Greater}
use Rattle.scattering.specs.Collections.{Every}
use Rattle.scattering.specs.Wall.{Wall, Outgoing, IsWall}
use Rattle.scattering.specs.Completion.{IsReduced}
use Rattle.scattering.proofs.Lists.{Every-append, Every-implies, Every-from_In, Every-at, map-append}
use Rattle.plane_theory.proofs.TotalOrder.{Place}
use Rattle.trunc_series.specs.Fronts.{IsFirst, first_after, second_after}
use Rattle.trunc_series.proofs.Fronts.{first-of, first-has, second-has, map-first}
use Rattle.scatter_diagram.specs.declared.wall.Wall.{Wall as CodeWall}
use Rattle.scatter_diagram.specs.Shown.{wall_of, walls_of}
use Rattle.scatter_diagram.specs.Listed.{AreOfOrder, AreRays}
use Rattle.scatter_diagram.proofs.Walls.{are-walls}
use Rattle.ray_merge.specs.Rays.{ray_order, IsJoinable, IsFirstRay, AreFronts, IsFrontOf, AreJoinable}
use Rattle.ray_merge.proofs.Steps.{IsRay, Merging, Merged, step, one-place}

-- ---- lists

pub order-push : (n : ℕ) (out : List CodeWall) (w : CodeWall) → AreOfOrder n out → w.function.order ≡ n → AreOfOrder n (out ++ w ∷ [])
order-push n out w h e = Every-append (λ (v : CodeWall). v.function.order ≡ n) out (w ∷ []) h (e, tt)

pub rays-from : (n : ℕ) (ws : List Wall) → Every (IsWall n) ws → Every (λ r. r.kind ≡ Outgoing) ws → IsReduced ws → Every IsRay ws
rays-from n ws w o r = Every-from_In IsRay ws (λ x i. (Every-at (λ (x : Wall). x.kind ≡ Outgoing) ws x o i, (Every-at (IsWall n) ws x w i).point, Every-at _ ws x r.live i))

pub are-rays : (n : ℕ) (ws : List CodeWall) → AreRays n ws → Every IsRay (walls_of ws)
are-rays n ws h = rays-from n (walls_of ws) (are-walls n ws h.order) h.outgoing h.reduced

-- ---- the first rays of two lists

-- two rays that are equal in the order
one-start : (x y : CodeWall) → ray_order (wall_of x) (wall_of y) ≡ Equal → (wall_of x).at ≡ (wall_of y).at
one-start x y e = ap (λ (q : Place). q.0) (one-place (wall_of x) (wall_of y) x.at.reduced y.at.reduced e)

pub one-direction : (x y : CodeWall) → ray_order (wall_of x) (wall_of y) ≡ Equal → (wall_of x).dir ≡ (wall_of y).dir
one-direction x y e = ap (λ (q : Place). q.1) (one-place (wall_of x) (wall_of y) x.at.reduced y.at.reduced e)

same-first : {A : Type 0} (x y : A) (xs : List A) → IsFirst x xs → IsFirst y xs → x ≡ y
same-first x y xs f g = let q : x ∷ f.0 ≡ y ∷ g.0 = sym f.1 ∙ g.1 in cc

-- how a ray stands to the first of a list
pub front-order : (o : Ordering) (r : Wall) (s : List CodeWall) (y : CodeWall) → IsFrontOf o r (walls_of s) → IsFirst y s → o ≡ ray_order r (wall_of y)
front-order o r s y f g = f.2 ∙ ap (ray_order r) (same-first f.0 (wall_of y) (walls_of s) f.1 (map-first wall_of y s g))

pub front-with : (o : Ordering) (x : Wall) (r s : List Wall) → AreFronts o (x ∷ r) s → IsFrontOf o x s
front-with o x r s f = (f.1, f.3, f.4 ∙ ap (λ (z : Wall). ray_order z f.1) (same-first f.0 x (x ∷ r) f.2 (r, refl)))

pub joinable-first : (n : ℕ) (x : CodeWall) (s : List CodeWall) (y : CodeWall) → IsFirst y s → AreJoinable n (wall_of x ∷ []) (walls_of s) → ray_order (wall_of x) (wall_of y) ≡ Equal → IsJoinable n (wall_of x) (wall_of y)
joinable-first n x s y g h e =
    first-of (λ (v : Wall). (wall_of x).at ≡ v.at → (wall_of x).dir ≡ v.dir → IsJoinable n (wall_of x) v) (wall_of y) (walls_of s) (map-first wall_of y s g) h.0
    (one-start x y e) (one-direction x y e)

pub joinable-rests : (n : ℕ) (o : Ordering) (r s : List Wall) → AreJoinable n r s → AreJoinable n (first_after o r) (second_after o s)
joinable-rests n o r s h =
    Every-implies (λ (x : Wall). Every (λ y. x.at ≡ y.at → x.dir ≡ y.dir → IsJoinable n x y) s) (λ x. Every (λ y. x.at ≡ y.at → x.dir ≡ y.dir → IsJoinable n x y) (second_after o s)) (first_after o r)
    (λ x k. second-has (λ (y : Wall). x.at ≡ y.at → x.dir ≡ y.dir → IsJoinable n x y) o s k) (first-has (λ (x : Wall). Every (λ y. x.at ≡ y.at → x.dir ≡ y.dir → IsJoinable n x y) s) o r h)

-- the ray at a place, and those after it
pub at-place : (rs : List Wall) (i : ℕ) (x : Wall) → i < length rs → x ≡ get_or rs i x → drop i rs ≡ x ∷ drop (i + 1) rs
at-place rs i x l e = drop_more rs i x l ∙ ap (λ v. v ∷ drop (i + 1) rs) (sym e)

pub code-place : (ws : List CodeWall) (j : ℕ) (w : CodeWall) → j < length ws → w ≡ get_or ws j w → drop j (walls_of ws) ≡ wall_of w ∷ drop (j + 1) (walls_of ws)
code-place ws j w l e = at-place (walls_of ws) j (wall_of w) (rw (length-map ws wall_of) l) (ap wall_of e ∙ sym (get_or-map wall_of ws j w (wall_of w) l))

-- ---- the merge

-- the first of two rays is taken
pub taken : (n : ℕ) (a b : List Wall) (out : List CodeWall) (r s : List Wall) (x : Wall) (w : CodeWall) (o : Ordering) → Merging n a b (walls_of out) (x ∷ r) s → IsFrontOf o x s → ((y : Wall) → IsFirst y s → IsFirstRay n o x y (wall_of w))
    → Merging n a b (walls_of (out ++ w ∷ [])) (first_after o (x ∷ r)) (second_after o s)
taken n a b out r s x w o m f h =
    rw (map-append wall_of out (w ∷ []), f.1.1)
    (step n a b (walls_of out) r f.1.0 x f.0 (wall_of w) o (rw f.1.1 at m) f.2 (h f.0 f.1))

-- what the merged list has
pub merged-are-rays : (n : ℕ) (a b : List Wall) (out : List CodeWall) → AreOfOrder n out → Merged n a b (walls_of out) → AreRays n out
merged-are-rays n a b out o m = record {
  order = o;
  outgoing = Every-implies IsRay (λ r. r.kind ≡ Outgoing) (walls_of out) (λ r h. h.0) m.rays;
  reduced = record { live = Every-implies IsRay _ (walls_of out) (λ r h. h.2) m.rays; rises = m.rises };
}

-- ---- where two lists are read on

pub after-first : (o : Ordering) → (o ≡ Greater → ⊥) → (i : ℕ) (r : List Wall) → drop (i + 1) r ≡ first_after o (drop i r)
after-first Less n i r = sym (drop-drop 1 i r)
after-first Equal n i r = sym (drop-drop 1 i r)
after-first Greater n i r = absurd (n refl)

pub after-second : (o : Ordering) → (o ≡ Less → ⊥) → (i : ℕ) (r : List Wall) → drop (i + 1) r ≡ second_after o (drop i r)
after-second Less n i r = absurd (n refl)
after-second Equal n i r = sym (drop-drop 1 i r)
after-second Greater n i r = sym (drop-drop 1 i r)

pub some-left : {A : Type 0} (r : List A) (i : ℕ) (x : A) → IsFirst x (drop i r) → i < length r
some-left r i x f = go (length-drop i r) (ap length f.1)
  where
    go : length (drop i r) ≡ length r - i → length (drop i r) ≡ suc (length f.0) → i < length r
    go d e = omega (arith, d, e)
