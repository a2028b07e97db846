-- What lies on no live wall isn't special.
use Rattle.std.proofs.Common.{◌≡◌, refl, subst, arith, Bool, true, false, List, [], ◌∷◌}
use Rattle.std.specs.Prelude.{ℤ, pos, ◌+ℤ◌, ◌-ℤ◌, ◌*ℤ◌, IsFalse, ◌||◌, ◌&&◌, not}
use Rattle.std.specs.List.{list_any}
use Rattle.std.proofs.lemmas.Int.{ints}
use Rattle.scattering.specs.Collections.{In}
use Rattle.scattering.specs.Series.{det, dot}
use Rattle.scattering.specs.Plane.{Point, difference, point_eq}
use Rattle.scattering.specs.Wall.{WallKind, Line, Incoming, Outgoing, Wall, allows, is_on, is_live, is_line, are_parallel, starts_at}
use Rattle.scattering.specs.ActivePoint.{is_special, walls_on}
use Rattle.scattering.specs.BrokenLine.{live_on}
use Rattle.scattering.specs.Theta.{is_on_live}
use Rattle.scattering.proofs.Lists.{filter-keeps, filter-from, and-in, and-left, and-right, not-true, any-false}
use Rattle.scattering.proofs.Keys.{point_eq-same}
use Rattle.plane_theory.proofs.PlacesOnWalls.{zero-in}

none-in : {A : Type 0} (xs : List A) → list_any (λ x. true) xs ≡ false → (x : A) → In x xs → ⊥
none-in [] h x i = i
none-in (y ∷ xs) h x i = cc

or-none : (a b : Bool) → a ≡ false → b ≡ false → (a || b) ≡ false
or-none a b h k = rw (h, k)

and-none : (a b : Bool) → a ≡ false → (a && b) ≡ false
and-none a b h = rw h

allows-zero : (k : WallKind) (a : ℤ) → a ≡ pos 0 → allows k a ≡ true
allows-zero Line a h = refl
allows-zero Incoming a h = rw h
allows-zero Outgoing a h = rw h

cross-zero : (a b x w y : ℤ) → a *ℤ (y *ℤ w -ℤ y *ℤ w) -ℤ b *ℤ (x *ℤ w -ℤ x *ℤ w) ≡ pos 0
cross-zero a b x w y = let e : y *ℤ w -ℤ y *ℤ w ≡ pos 0 = omega (arith, ints) in let f : x *ℤ w -ℤ x *ℤ w ≡ pos 0 = omega (arith, ints) in rw (e, f) (omega (arith, ints))

dot-zero : (a b x w y : ℤ) → a *ℤ (x *ℤ w -ℤ x *ℤ w) +ℤ b *ℤ (y *ℤ w -ℤ y *ℤ w) ≡ pos 0
dot-zero a b x w y = let e : y *ℤ w -ℤ y *ℤ w ≡ pos 0 = omega (arith, ints) in let f : x *ℤ w -ℤ x *ℤ w ≡ pos 0 = omega (arith, ints) in rw (e, f) (omega (arith, ints))

-- a wall holds its own point
pub on-own : (w : Wall) → is_on w w.at ≡ true
on-own w = rw (zero-in (det w.dir (difference w.at w.at)) (cross-zero w.dir.a w.dir.b w.at.x w.at.w w.at.y)) (allows-zero w.kind (dot w.dir (difference w.at w.at)) (dot-zero w.dir.a w.dir.b w.at.x w.at.w w.at.y))

pub off-plain : (ws : List Wall) (q : Point) → is_on_live ws q ≡ false → IsFalse (is_special ws q)
off-plain ws q h =
    or-none _ _
    (any-false (λ u. list_any (λ v. is_live u && is_live v && not (are_parallel u v)) (walls_on ws q)) (walls_on ws q)
    (λ u i. any-false (λ v. is_live u && is_live v && not (are_parallel u v)) (walls_on ws q) (λ v j. and-none (is_live u && is_live v) (not (are_parallel u v)) (and-none (is_live u) (is_live v) (dead u i)))))
    (any-false (λ w. starts_at w q && is_live w) ws (λ w i. not-true (starts_at w q && is_live w) (λ e. none-in (live_on ws q) h w (starts w i e))))
  where
    dead : (u : Wall) → In u (walls_on ws q) → is_live u ≡ false
    dead u i = let r = filter-from (λ w. is_on w q) ws u i in not-true (is_live u) (λ e. none-in (live_on ws q) h u (filter-keeps (λ w. is_live w && is_on w q) ws u r.0 (and-in (is_live u) (is_on u q) e r.1)))

    starts : (w : Wall) → In w ws → (starts_at w q && is_live w) ≡ true → In w (live_on ws q)
    starts w i e =
        let s = and-left (starts_at w q) (is_live w) e in
        let p : w.at ≡ q = point_eq-same w.at q (and-right (not (is_line w.kind)) (point_eq w.at q) s) in
        filter-keeps (λ w. is_live w && is_on w q) ws w i (and-in (is_live w) (is_on w q) (and-right (starts_at w q) (is_live w) e) (subst (λ (r : Point). is_on w r ≡ true) p (on-own w)))
