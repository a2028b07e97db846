-- Terms of degree j more in the walls' functions: what they add to a local product modulo degree j + 1.
use Rattle.std.proofs.Common.{◌≡◌, ℕ, refl, subst, sym, ◌∙◌, ap, List, [], ◌∷◌, ◌++◌, map, Bool, true, false, cond, not, ◌≤◌, ◌+◌, arith}
use Rattle.std.specs.Prelude.{ℤ, pos, negsuc, flat_map, filter, ◌&&◌, ◌*ℤ◌, ◌+ℤ◌, ◌-ℤ◌, neg_ℤ}
use Rattle.sum_algebra.proofs.Ring.{var, plus, times, minus, nought, ring}
use Rattle.sum_algebra.proofs.Ring as E
use Rattle.sum_algebra.proofs.IntegerRing.{ints_ring, ◌:+◌, ◌:*◌, ◌:-◌, X, Y, Z}
use Rattle.sum_algebra.proofs.Sums as S
use Rattle.sum_algebra.proofs.Sums.{Same, pair, bind, multiple, pair-append, pair-multiple, pair-bind, pair-zero}
use Rattle.sum_algebra.proofs.Support.{Supported, Supported-mul, Supported-append, by_every, inverse, weaken}
use Rattle.sum_algebra.proofs.Crossing.{mono}
use Rattle.sum_algebra.proofs.CrossingLaws.{anywhere, Supported-multiple}
use Rattle.sum_algebra.proofs.Perturbation.{cross-perturbed}
use Rattle.scattering.specs.Collections.{Every, put, in_order}
use Rattle.scattering.specs.Series.{Key, Sum, Exp, Term, degree, rest, det, z, monomial, key_mul, int_eq, origin, dot}
use Rattle.scattering.specs.Series as D
use Rattle.scattering.specs.Plane.{Point, difference}
use Rattle.scattering.specs.Wall.{WallKind, Line, Incoming, Outgoing, Wall, is_on, starts_at, is_line, allows}
use Rattle.scattering.specs.LocalProduct.{Half, along, carry, cross_half, halves, half_walls}
use Rattle.scattering.specs.LocalProduct as P
use Rattle.scattering.proofs.Lists.{and-left, and-right, Every-implies}
use Rattle.scattering.proofs.Keys.{point_eq-same}
use Rattle.crossing_theory.proofs.Keys.{keys, turn, crossing, wall-inverse}
use Rattle.crossing_theory.proofs.Translation.{Eq, Eq-refl, Eq-trans}
use Rattle.crossing_theory.proofs.HalfWalls.{Proper, half, as_crossing, sign, unseen-cross, small}
use Rattle.crossing_theory.proofs.Carrying.{ProperHalf, carry-respects}
use Rattle.crossing_theory.proofs.PassivePoints.{positive}
use Rattle.crossing_theory.proofs.OtherFunctions.{refit, refit_half, before, half_walls-refit, of_halves}

small-0 : (w : Wall) → Proper w → Eq 0 w.function D.one
small-0 w p = small 0 w p (positive (rest w.function) (Every-implies _ (λ t. 1 ≤ degree t.0) _ (λ t u. u.0) p.others))

flat_map-append : {A B : Type 0} (f : A → List B) (xs ys : List A) → flat_map f (xs ++ ys) ≡ flat_map f xs ++ flat_map f ys
flat_map-append f [] ys = refl
flat_map-append f (x ∷ xs) ys = ap (λ r. f x ++ r) (flat_map-append f xs ys) ∙ sym (assoc (f x) (flat_map f xs) (flat_map f ys))
  where
    assoc : {B : Type 0} (a b c : List B) → (a ++ b) ++ c ≡ a ++ (b ++ c)
    assoc [] b c = refl
    assoc (x ∷ a) b c = ap (λ r. x ∷ r) (assoc a b c)

pub Eq-append : (k : ℕ) (f f' g g' : Sum) → Eq k f f' → Eq k g g' → Eq k (f ++ g) (f' ++ g')
Eq-append k f f' g g' e h = record { at = λ φ v. pair-append φ f g ∙ rw (e.at φ v, h.at φ v) (sym (pair-append φ f' g')) }

-- terms of degree j go through unchanged
carry-top : (j : ℕ) (hs : List Half) → Every ProperHalf hs → (f e : Sum) → Supported (λ x. j ≤ degree x) e → Eq j (carry j hs (f ++ e)) (carry j hs f ++ e)
carry-top j [] h f e s = Eq-refl j _
carry-top j (g ∷ hs) h f e s =
    Eq-trans j _ (carry j hs (cross_half j g f ++ e)) _
    (carry-respects j hs h.1 _ _
    (subst (λ r. Eq j r (cross_half j g f ++ e)) (sym (flat_map-append _ f e))
    (Eq-append j _ _ _ _ (Eq-refl j (cross_half j g f)) (unseen-cross j j 0 j g h.0 (small-0 g.wall h.0) (omega arith) (omega arith) (omega arith) e s))))
    (carry-top j hs h.1 (cross_half j g f) e s)

-- the side along which a ray goes from its start
abbrev pub start_side : WallKind → ℤ
start_side Line = pos 0
start_side Incoming = pos 1
start_side Outgoing = negsuc 0

difference-self : (p : Point) → difference p p ≡ origin
difference-self p =
    let a : p.x *ℤ p.w -ℤ p.x *ℤ p.w ≡ pos 0 = ring ints_ring ((p.x *ℤ p.w) ∷ []) (X :- X) nought refl in
    let b : p.y *ℤ p.w -ℤ p.y *ℤ p.w ≡ pos 0 = ring ints_ring ((p.y *ℤ p.w) ∷ []) (X :- X) nought refl in
    λ i. record { a = a i; b = b i }

on-start : (d : Exp) (k : WallKind) → (int_eq (det d origin) (pos 0) && allows k (dot d origin)) ≡ true
on-start d k =
    let a : det d origin ≡ pos 0 = ring ints_ring (d.a ∷ d.b ∷ []) (X :* nought :- Y :* nought) nought refl in
    let b : dot d origin ≡ pos 0 = ring ints_ring (d.a ∷ d.b ∷ []) (X :* nought :+ Y :* nought) nought refl in
    rw (a, b) (allowed k)
  where
    allowed : (k : WallKind) → (int_eq (pos 0) (pos 0) && allows k (pos 0)) ≡ true
    allowed Line = refl
    allowed Incoming = refl
    allowed Outgoing = refl

-- a ray holds its start
pub starts-on : (w : Wall) (p : Point) → starts_at w p ≡ true → is_on w p ≡ true
starts-on w p s = subst (λ q. is_on w q ≡ true) (point_eq-same w.at p (and-right _ _ s)) (subst (λ (o : Exp). (int_eq (det w.dir o) (pos 0) && allows w.kind (dot w.dir o)) ≡ true) (sym (difference-self w.at)) (on-start w.dir w.kind))

module _ (j : ℕ) (positive_j : 1 ≤ j) (F T : Wall → Sum) where
  -- the function of w is F w and terms of degree j and more
  pub record Grows (w : Wall) : Type 0 where
    pub proper : Proper w
    pub proper' : Proper (refit F w)
    pub same : Eq j w.function (F w ++ T w)
    pub high : Supported (λ x. j ≤ degree x) (T w)

  -- what the terms more add to z^m
  abbrev pub extra : Exp → Half → Sum
  extra m h = S.mul keys (mono keys (z m)) (multiple (turn h.wall.dir (sign h) (z m)) (T h.wall))

  abbrev pub extras : Exp → List Half → Sum
  extras m [] = []
  extras m (h ∷ hs) = extra m h ++ extras m hs

  change-high : (d : ℤ) (w : Wall) → Grows w → (x : Key) → Supported (λ y. j + degree x ≤ degree y) (S.mul keys (mono keys x) (multiple d (T w)))
  change-high d w q x =
      Supported-mul keys (λ y. degree x ≤ degree y) (λ y. j ≤ degree y) (λ y. j + degree x ≤ degree y) (mono keys x) (multiple d (T w))
      (λ y u a b. omega (arith, a, b)) (by_every (λ y. degree x ≤ degree y) (mono keys x) (omega arith, tt)) (Supported-multiple (λ y. j ≤ degree y) d (T w) q.high)

  extra-high : (m : Exp) (h : Half) → Grows h.wall → Supported (λ y. j ≤ degree y) (extra m h)
  extra-high m h q = weaken _ _ (extra m h) (λ y a. omega (arith, a)) (change-high (turn h.wall.dir (sign h) (z m)) h.wall q (z m))

  starts-one : (w : Wall) → Proper w → Supported (λ x. 1 ≤ degree x) (w.function ++ S.neg keys (S.one keys))
  starts-one w p = record {
    at = λ φ ψ h.
        pair-append φ w.function (S.neg keys (S.one keys)) ∙ flip φ ∙ ap neg_ℤ (p.along.terms.at φ ψ (λ x i. h x i.0)) ∙ sym (flip ψ) ∙ sym (pair-append ψ w.function (S.neg keys (S.one keys)));
  }
    where
      flip : (φ : Key → ℤ) → pair φ w.function +ℤ pair φ (S.neg keys (S.one keys)) ≡ neg_ℤ (pair φ (S.one keys ++ S.neg keys w.function))
      flip φ = sym (ap neg_ℤ (ap (λ n. pos 1 *ℤ φ D.unit +ℤ n) (pair-multiple φ (neg_ℤ (pos 1)) w.function)) ∙ ring ints_ring (φ D.unit ∷ pair φ w.function ∷ []) (minus (E.unit :* X :+ minus E.unit :* Y)) (Y :+ (minus E.unit :* E.unit :* X :+ nought)) refl)

  half-grows : (m : Exp) (h : Half) → Grows h.wall → (s : Sum) → Eq 0 s (monomial (z m)) → Eq j (cross_half j h s) (cross_half j (refit_half F h) s ++ extra m h)
  half-grows m h q s near = record {
    at = λ φ v.
        (as_crossing j h q.proper s).at φ v
        ∙ (cross-perturbed keys j (F h.wall) (inverse keys j (F h.wall)) h.wall.function (inverse keys j h.wall.function) (T h.wall) (turn h.wall.dir (sign h))
        (wall-inverse h.wall.dir (sign h) j (F h.wall) q.proper'.along) (wall-inverse h.wall.dir (sign h) j h.wall.function q.proper.along) q.same positive_j q.high (starts-one (refit F h.wall) q.proper') s).at φ v
        ∙ pair-append φ (crossing j h.wall.dir (sign h) (F h.wall) s) (bind s (λ x. S.mul keys (mono keys x) (multiple (turn h.wall.dir (sign h) x) (T h.wall))))
        ∙ rw (
          sym ((as_crossing j (refit_half F h) q.proper' s).at φ v),
          pair-bind φ s (λ x. S.mul keys (mono keys x) (multiple (turn h.wall.dir (sign h) x) (T h.wall))),
          near.at (λ x. pair φ (S.mul keys (mono keys x) (multiple (turn h.wall.dir (sign h) x) (T h.wall))))
              (λ x d. (change-high (turn h.wall.dir (sign h) x) h.wall q x).at φ (λ _. pos 0) (λ y e. v y (omega (arith, d, e))) ∙ pair-zero (S.mul keys (mono keys x) (multiple (turn h.wall.dir (sign h) x) (T h.wall)))),
        )
        (ring ints_ring (pair φ (cross_half j (refit_half F h) s) ∷ pair φ (extra m h) ∷ []) (X :+ (E.unit :* Y :+ nought)) (X :+ Y) refl
        ∙ sym (pair-append φ (cross_half j (refit_half F h) s) (extra m h)));
  }

  pub carry-grows : (m : Exp) (hs : List Half) → Every (λ h. Grows h.wall) hs → (s : Sum) → Eq 0 s (monomial (z m)) → Eq j (carry j hs s) (carry j (map (refit_half F) hs) s ++ extras m hs)
  carry-grows m [] q s near = record { at = λ φ v. ring ints_ring (pair φ s ∷ []) X (X :+ nought) refl ∙ sym (pair-append φ s []) }
  carry-grows m (h ∷ hs) q s near =
      let pr : Every ProperHalf hs = Every-implies _ ProperHalf hs (λ g u. u.proper) q.1 in
      let u : Sum = cross_half j (refit_half F h) s in
      Eq-trans j _ (carry j hs (u ++ extra m h)) _ (carry-respects j hs pr _ _ (half-grows m h q.0 s near))
      (Eq-trans j _ (carry j hs u ++ extra m h) _ (carry-top j hs pr u (extra m h) (extra-high m h q.0))
      (Eq-trans j _ ((carry j (map (refit_half F) hs) u ++ extras m hs) ++ extra m h) _
      (Eq-append j _ _ _ _ (carry-grows m hs q.1 u (Eq-trans 0 _ s _ (unseen-cross j 0 0 0 (refit_half F h) q.0.proper' (small-0 (refit F h.wall) q.0.proper') (omega arith) (omega arith) (omega arith) s (weaken _ _ s (λ x t. omega arith) (anywhere s))) near)) (Eq-refl j (extra m h)))
      (record {
        at = λ φ v.
            pair-append φ (carry j (map (refit_half F) hs) u ++ extras m hs) (extra m h)
            ∙ rw (pair-append φ (carry j (map (refit_half F) hs) u) (extras m hs))
            (ring ints_ring (pair φ (carry j (map (refit_half F) hs) u) ∷ pair φ (extras m hs) ∷ pair φ (extra m h) ∷ []) (X :+ Y :+ Z) (X :+ (Z :+ Y)) refl)
            ∙ sym (pair-append φ (carry j (map (refit_half F) hs) u) (extra m h ++ extras m hs) ∙ ap (λ r. pair φ (carry j (map (refit_half F) hs) u) +ℤ r) (pair-append φ (extra m h) (extras m hs)));
      })))

  -- ---- the sum over the half-walls at a point

  extras-append : (m : Exp) (φ : Key → ℤ) (gs hs : List Half) → pair φ (extras m (gs ++ hs)) ≡ pair φ (extras m gs) +ℤ pair φ (extras m hs)
  extras-append m φ [] hs = ring ints_ring (pair φ (extras m hs) ∷ []) X (nought :+ X) refl
  extras-append m φ (g ∷ gs) hs =
      pair-append φ (extra m g) (extras m (gs ++ hs))
      ∙ rw (extras-append m φ gs hs, pair-append φ (extra m g) (extras m gs))
      (ring ints_ring (pair φ (extra m g) ∷ pair φ (extras m gs) ∷ pair φ (extras m hs) ∷ []) (X :+ (Y :+ Z)) (X :+ Y :+ Z) refl)

  extras-put : (m : Exp) (φ : Key → ℤ) (h : Half) (hs : List Half) → pair φ (extras m (put before h hs)) ≡ pair φ (extra m h) +ℤ pair φ (extras m hs)
  extras-put m φ h [] = pair-append φ (extra m h) []
  extras-put m φ h (g ∷ hs) =
      elim (before g h) as (λ b. pair φ (extras m (elim b [ true ↦ g ∷ put before h hs | false ↦ h ∷ g ∷ hs ])) ≡ pair φ (extra m h) +ℤ pair φ (extras m (g ∷ hs))) [
        | true ↦ pair-append φ (extra m g) (extras m (put before h hs)) ∙ rw (extras-put m φ h hs, pair-append φ (extra m g) (extras m hs))
            (ring ints_ring (pair φ (extra m g) ∷ pair φ (extra m h) ∷ pair φ (extras m hs) ∷ []) (X :+ (Y :+ Z)) (Y :+ (X :+ Z)) refl)
        | false ↦ pair-append φ (extra m h) (extras m (g ∷ hs))
      ]

  extras-in_order : (m : Exp) (φ : Key → ℤ) (hs : List Half) → pair φ (extras m (in_order before hs)) ≡ pair φ (extras m hs)
  extras-in_order m φ [] = refl
  extras-in_order m φ (h ∷ hs) = extras-put m φ h (in_order before hs) ∙ rw (extras-in_order m φ hs) (sym (pair-append φ (extra m h) (extras m hs)))

  -- what a ray that starts at the point adds
  abbrev pub gain : Exp → Wall → Sum
  gain m w = extra m (half w (start_side w.kind))

  abbrev pub gains : Exp → Point → List Wall → Sum
  gains m p [] = []
  gains m p (w ∷ ws) = cond (starts_at w p) (gain m w) [] ++ gains m p ws

  pub pair-extra : (m : Exp) (φ : Key → ℤ) (h : Half) → pair φ (extra m h) ≡ turn h.wall.dir (sign h) (z m) *ℤ pair (λ y. φ (key_mul (z m) y)) (T h.wall)
  pair-extra m φ h =
      S.pair-mul keys φ (mono keys (z m)) (multiple (turn h.wall.dir (sign h) (z m)) (T h.wall))
      ∙ rw (pair-multiple (λ y. φ (key_mul (z m) y)) (turn h.wall.dir (sign h) (z m)) (T h.wall))
      (ring ints_ring (turn h.wall.dir (sign h) (z m) ∷ pair (λ y. φ (key_mul (z m) y)) (T h.wall) ∷ []) (E.unit :* (X :* Y) :+ nought) (X :* Y) refl)

  opposite : (m : Exp) (φ : Key → ℤ) (w : Wall) → pair φ (extras m (half w (pos 1) ∷ half w (negsuc 0) ∷ [])) ≡ pos 0
  opposite m φ w =
      pair-append φ (extra m (half w (pos 1))) (extra m (half w (negsuc 0)) ++ [])
      ∙ rw (pair-append φ (extra m (half w (negsuc 0))) [], pair-extra m φ (half w (pos 1)), pair-extra m φ (half w (negsuc 0)))
      (ring ints_ring (det w.dir m ∷ pair (λ y. φ (key_mul (z m) y)) (T w) ∷ []) ((minus E.unit :* X) :* Y :+ ((E.unit :* X) :* Y :+ nought)) nought refl)

  halves-gain : (m : Exp) (p : Point) (φ : Key → ℤ) (w : Wall) → pair φ (extras m (halves p w)) ≡ pair φ (cond (starts_at w p) (gain m w) [])
  halves-gain m p φ w = go (starts_at w p) refl (is_on w p) refl
    where
      one-half : (k : WallKind) → not (is_line k) ≡ true → pair φ (extras m (map (λ (s : ℤ). half w s) (filter (λ (s : ℤ). allows k s) (pos 1 ∷ negsuc 0 ∷ [])))) ≡ pair φ (extra m (half w (start_side k)))
      one-half Line s = absurd (cc)
      one-half Incoming s = pair-append φ (extra m (half w (pos 1))) [] ∙ ring ints_ring (pair φ (extra m (half w (pos 1))) ∷ []) (X :+ nought) X refl
      one-half Outgoing s = pair-append φ (extra m (half w (negsuc 0))) [] ∙ ring ints_ring (pair φ (extra m (half w (negsuc 0))) ∷ []) (X :+ nought) X refl

      go : (c : Bool) → starts_at w p ≡ c → (b : Bool) → is_on w p ≡ b → pair φ (extras m (halves p w)) ≡ pair φ (cond (starts_at w p) (gain m w) [])
      go true s b e = rw (starts-on w p s, s) (one-half w.kind (and-left _ _ s))
      go false s true e = rw (s, e) (opposite m φ w)
      go false s false e = rw (s, e) refl

  halves-gains : (m : Exp) (p : Point) (φ : Key → ℤ) (ws : List Wall) → pair φ (extras m (flat_map (halves p) ws)) ≡ pair φ (gains m p ws)
  halves-gains m p φ [] = refl
  halves-gains m p φ (w ∷ ws) =
      extras-append m φ (halves p w) (flat_map (halves p) ws)
      ∙ rw (halves-gain m p φ w, halves-gains m p φ ws) (sym (pair-append φ (cond (starts_at w p) (gain m w) []) (gains m p ws)))

  -- a wall that goes through the point adds nothing, a ray that starts there once
  pub image-grows : (ws : List Wall) (p : Point) (m : Exp) → Every Grows ws → Eq j (P.image ws p j m) (P.image (map (refit F) ws) p j m ++ gains m p ws)
  image-grows ws p m q =
      Eq-trans j _ (carry j (map (refit_half F) (half_walls ws p)) (monomial (z m)) ++ extras m (half_walls ws p)) _
      (carry-grows m (half_walls ws p) (of_halves Grows p ws q) (monomial (z m)) (Eq-refl 0 _))
      (Eq-append j _ _ _ _
      (subst (λ hs. Eq j (carry j (map (refit_half F) (half_walls ws p)) (monomial (z m))) (carry j hs (monomial (z m)))) (sym (half_walls-refit F p ws)) (Eq-refl j _))
      (record { at = λ φ v. extras-in_order m φ (flat_map (halves p) ws) ∙ halves-gains m p φ ws }))

  pub gains-high : (m : Exp) (p : Point) (ws : List Wall) → Every Grows ws → Supported (λ y. j ≤ degree y) (gains m p ws)
  gains-high m p [] q = by_every (λ y. j ≤ degree y) [] tt
  gains-high m p (w ∷ ws) q = Supported-append (λ y. j ≤ degree y) (cond (starts_at w p) (gain m w) []) (gains m p ws) (go (starts_at w p)) (gains-high m p ws q.1)
    where
      go : (b : Bool) → Supported (λ y. j ≤ degree y) (cond b (gain m w) [])
      go true = extra-high m (half w (start_side w.kind)) q.0
      go false = by_every (λ y. j ≤ degree y) [] tt
