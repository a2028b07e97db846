-- The starts and directions of two lists of rays, counted.
use Rattle.std.proofs.Common.{◌≡◌, ◌≢◌, suc, ◌+◌, ◌≤◌, refl, sym, subst, ap, ◌∙◌, List, [], ◌∷◌, length, arith, inl, inr, ◌⊎◌}
use Rattle.std.specs.Prelude.{IsTrue}
use Rattle.std.specs.declared.cmp.Ordering.{Ordering}
use Rattle.std.specs.declared.cmp.Ordering.TheVariants.{Less, Equal, Greater}
use Rattle.scattering.specs.Collections.{In, Every}
use Rattle.scattering.specs.Wall.{Wall}
use Rattle.scattering.specs.Completion.{ray_before}
use Rattle.scattering.proofs.Lists.{Every-implies}
use Rattle.plane_theory.proofs.StrictOrder.{ray_before-asym}
use Rattle.plane_theory.proofs.TotalOrder.{Place, place_before}
use Rattle.trunc_series.specs.Fronts.{first_after, second_after}
use Rattle.trunc_series.proofs.Terms.{is-less, is-greater}
use Rattle.ray_merge.specs.Rays.{ray_order, places_from, place_count, AreFronts}
use Rattle.ray_merge.proofs.Steps.{place_of, Rises, IsBefore, IsRay, before-more, one-place}

-- ---- one step

count-none : (r : List Wall) → place_count r [] ≡ length r
count-none [] = refl
count-none (x ∷ r) = refl

count-step : (o : Ordering) (x y : Wall) (r s : List Wall) → o ≡ ray_order x y → place_count (x ∷ r) (y ∷ s) ≡ suc (place_count (first_after o (x ∷ r)) (second_after o (y ∷ s)))
count-step Less x y r s e = rw (sym e) refl
count-step Equal x y r s e = rw (sym e) refl
count-step Greater x y r s e = rw (sym e) refl

pub count-fronts : (o : Ordering) (r s : List Wall) → AreFronts o r s → place_count r s ≡ suc (place_count (first_after o r) (second_after o s))
count-fronts o r s f = rw (f.2.1, f.3.1) (count-step o f.0 f.1 f.2.0 f.3.0 f.4)

pub count-ended : (r s : List Wall) → (r ≡ []) ⊎ (s ≡ []) → place_count r s ≡ length r + length s
count-ended r s (inl e) = rw e (omega arith)
count-ended r s (inr e) = rw e (count-none r ∙ omega arith)

pub count-most : (r s : List Wall) → place_count r s ≤ length r + length s
count-most [] s = omega arith
count-most (x ∷ r) s = from s (count-most r)
  where
    from : (s : List Wall) → ((s : List Wall) → place_count r s ≤ length r + length s) → places_from x (length r) (place_count r) s ≤ suc (length r) + length s
    from [] h = omega arith
    from (y ∷ s) h = go (ray_order x y) (h (y ∷ s)) (h s) (from s h)
      where
        go : (o : Ordering) → place_count r (y ∷ s) ≤ length r + suc (length s) → place_count r s ≤ length r + length s → places_from x (length r) (place_count r) s ≤ suc (length r) + length s
            → suc (elim o [ Less ↦ place_count r (y ∷ s) | Equal ↦ place_count r s | Greater ↦ places_from x (length r) (place_count r) s ]) ≤ suc (length r) + suc (length s)
        go Less a b c = omega (arith, a)
        go Equal a b c = omega (arith, b)
        go Greater a b c = omega (arith, c)

-- ---- no more than any rays that have all the places

-- a ray of the list has the place of x
abbrev pub HasPlace : List Wall → Wall → Type 0
HasPlace ws x = (w : Wall) × In w ws × (place_of w ≡ place_of x)

record Without (ws : List Wall) (x : Wall) : Type 0 where
  others : List Wall
  fewer : length ws ≡ suc (length others)
  keeps : (y : Wall) → place_of x ≢ place_of y → HasPlace ws y → HasPlace others y

without : (ws : List Wall) (x : Wall) → HasPlace ws x → Without ws x
without [] x h = absurd h.1
without (w ∷ ws) x (v, inl e, q) = record { others = ws; fewer = refl; keeps = keep }
  where
    keep : (y : Wall) → place_of x ≢ place_of y → HasPlace (w ∷ ws) y → HasPlace ws y
    keep y n (u, inl f, p) = absurd (n (sym q ∙ ap place_of (e ∙ sym f) ∙ p))
    keep y n (u, inr i, p) = (u, i, p)
without (w ∷ ws) x (v, inr j, q) =
    let r = without ws x (v, j, q) in
    record { others = w ∷ r.others; fewer = ap suc r.fewer; keeps = λ y n h. keep r y n h }
  where
    keep : (r : Without ws x) (y : Wall) → place_of x ≢ place_of y → HasPlace (w ∷ ws) y → HasPlace (w ∷ r.others) y
    keep r y n (u, inl f, p) = (u, inl f, p)
    keep r y n (u, inr i, p) = let k = r.keeps y n (u, i, p) in (k.0, inr k.1, k.2)

-- rays after x have other places
other-places : (x : Wall) (ys : List Wall) → IsBefore x ys → Every (λ y. place_of x ≢ place_of y) ys
other-places x ys b = Every-implies (λ (y : Wall). IsTrue (ray_before x y)) (λ y. place_of x ≢ place_of y) ys (λ y l. apart y l) b
  where
    apart : (y : Wall) → IsTrue (ray_before x y) → place_of x ≢ place_of y
    apart y l e = ray_before-asym x y l (swap (place_of x) (place_of y) e l)
      where
        swap : (p q : Place) → p ≡ q → IsTrue (place_before p q) → IsTrue (place_before q p)
        swap p q e l = subst (λ (r : Place). IsTrue (place_before r p)) e (subst (λ (r : Place). IsTrue (place_before p r)) (sym e) l)

kept : (ws : List Wall) (x : Wall) (r : Without ws x) (ys : List Wall) → Every (λ y. place_of x ≢ place_of y) ys → Every (HasPlace ws) ys → Every (HasPlace r.others) ys
kept ws x r [] n h = tt
kept ws x r (y ∷ ys) n h = (r.keeps y n.0 h.0, kept ws x r ys n.1 h.1)

abbrev AreFor : List Wall → List Wall → Type 0
AreFor ws r = Every IsRay r × Rises r × Every (HasPlace ws) r

-- those that are left when a ray before all of them goes
left : (ws : List Wall) (x : Wall) (w : Without ws x) (r : List Wall) → IsBefore x r → AreFor ws r → AreFor w.others r
left ws x w r b h = (h.0, h.1, kept ws x w r (other-places x r b) h.2)

rest-of : (ws : List Wall) (x : Wall) (r : List Wall) → AreFor ws (x ∷ r) → AreFor ws r
rest-of ws x r h = (h.0.1, h.1.1, h.2.1)

few : (ws r : List Wall) → AreFor ws r → length r ≤ length ws
few ws [] h = omega arith
few ws (x ∷ r) h =
    let w = without ws x h.2.0 in
    let l = few w.others r (left ws x w r h.1.0 (rest-of ws x r h)) in
    let f = w.fewer in
    omega (arith, l, f)

-- the rays x and r, and others
module _ (x : Wall) (r : List Wall) (h : (ws s : List Wall) → AreFor ws r → AreFor ws s → place_count r s ≤ length ws) where
  least-from : (ws s : List Wall) → AreFor ws (x ∷ r) → AreFor ws s → places_from x (length r) (place_count r) s ≤ length ws
  least-from ws [] hr hs = few ws (x ∷ r) hr
  least-from ws (y ∷ s) hr hs =
      let v = without ws y hs.2.0 in
      go (ray_order x y) refl (λ b. least-from v.others s (left ws y v (x ∷ r) b hr) (left ws y v s hs.1.0 (rest-of ws y s hs)))
    where
      w : Without ws x
      w = without ws x hr.2.0

      go : (o : Ordering) → ray_order x y ≡ o → (IsBefore y (x ∷ r) → places_from x (length r) (place_count r) s ≤ length (without ws y hs.2.0).others)
          → suc (elim o [ Less ↦ place_count r (y ∷ s) | Equal ↦ place_count r s | Greater ↦ places_from x (length r) (place_count r) s ]) ≤ length ws
      go Less e i =
          let l = is-less _ _ e in
          let b = before-more x y s hr.0.0.1 hs.0.0.1 hs.0.1 l hs.1.0 in
          let k = h w.others (y ∷ s) (left ws x w r hr.1.0 (rest-of ws x r hr)) (left ws x w (y ∷ s) (l, b) hs) in
          let f = w.fewer in
          omega (arith, k, f)
      go Greater e i =
          let l = (is-greater _ _ e).1 in
          let k = i (l, before-more y x r hs.0.0.1 hr.0.0.1 hr.0.1 l hr.1.0) in
          let f = (without ws y hs.2.0).fewer in
          omega (arith, k, f)
      go Equal e i =
          let p = one-place x y hr.0.0.1 hs.0.0.1 e in
          let b = subst (λ (q : Place). Every (λ (u : Wall). IsTrue (place_before q (place_of u))) s) (sym p) hs.1.0 in
          let k = h w.others s (left ws x w r hr.1.0 (rest-of ws x r hr)) (left ws x w s b (rest-of ws y s hs)) in
          let f = w.fewer in
          omega (arith, k, f)

least : (r ws s : List Wall) → AreFor ws r → AreFor ws s → place_count r s ≤ length ws
least [] ws s hr hs = few ws s hs
least (x ∷ r) ws s hr hs = least-from x r (λ ws s a b. least r ws s a b) ws s hr hs

pub count-least : (r s ws : List Wall) → Every IsRay r → Rises r → Every (HasPlace ws) r → Every IsRay s → Rises s → Every (HasPlace ws) s → place_count r s ≤ length ws
count-least r s ws gr rr hr gs rs hs = least r ws s (gr, rr, hr) (gs, rs, hs)
