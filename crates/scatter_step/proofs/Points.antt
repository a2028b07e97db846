-- The points of an order, and their corrections.
use Rattle.std.proofs.Common.{◌≡◌, ℕ, ◌+◌, ◌<◌, ◌≤◌, ◌^◌, refl, sym, ap, subst, ◌∙◌, List, [], ◌∷◌, ◌++◌, map, length, get_or, take}
use Rattle.std.proofs.lemmas.List.{map_more}
use Rattle.std.specs.Prelude.{IsTrue}
use Rattle.scattering.specs.Collections.{In, Every, EveryPair}
use Rattle.scattering.specs.Plane.{Point, IsPoint, point_before}
use Rattle.scattering.specs.Wall.{Wall}
use Rattle.scattering.specs.LocalProduct.{weight}
use Rattle.scattering.specs.ActivePoint.{is_active}
use Rattle.scattering.specs.Correction.{Lie, Corrections, IsCorrection, AreCorrections}
use Rattle.scattering.specs.Stops.{AllLight, SomeHeavy}
use Rattle.scattering.proofs.Lists.{Every-at, map-append, In-mapped}
use Rattle.crossing_theory.proofs.Runs.{In-place}
use Rattle.plane_geom.specs.Shown.{point_of}
use Rattle.plane_geom.specs.declared.Point.{Point as CodePoint}
use Rattle.joint_finder.specs.Joints.{AreJoints, points_of}
use Rattle.ray_merge.specs.Additions.{corrections_of}
use Rattle.scatter_step.specs.Orders.{AreAt, HasHeavy}

pub In-point : (ps : List CodePoint) (i : ℕ) (p : CodePoint) → i < length ps → p ≡ get_or ps i p → In (point_of p) (points_of ps)
In-point ps i p l q = In-mapped point_of ps p (subst (λ (x : CodePoint). In x ps) (sym q) (In-place ps i p l))

-- ---- corrections at points

-- one more
pub AreAt-append : (ws : List Wall) (n : ℕ) (ps : List Point) (cs : Corrections) (p : Point) (h : Lie) → AreAt ws n ps cs → IsCorrection ws p n h → weight ws p n ≤ 2 ^ 126 → AreAt ws n (ps ++ p ∷ []) (cs ++ (p, h) ∷ [])
AreAt-append ws n [] [] p h a r w = ((refl, r, w), tt)
AreAt-append ws n [] (c ∷ cs) p h a r w = absurd a
AreAt-append ws n (q ∷ ps) [] p h a r w = absurd a
AreAt-append ws n (q ∷ ps) (c ∷ cs) p h a r w = (a.0, AreAt-append ws n ps cs p h a.1 r w)

pub AreAt-more : (ws : List Wall) (n : ℕ) (points : List CodePoint) (i : ℕ) (p : CodePoint) (h : Lie) (out new : List (CodePoint × Lie)) → i < length points → p ≡ get_or points i p → new ≡ out ++ (p, h) ∷ []
    → AreAt ws n (points_of (take i points)) (corrections_of out) → IsCorrection ws (point_of p) n h → weight ws (point_of p) n ≤ 2 ^ 126 → AreAt ws n (points_of (take (i + 1) points)) (corrections_of new)
AreAt-more ws n points i p h out new l q e a r w =
    let x : points_of (take (i + 1) points) ≡ points_of (take i points) ++ point_of p ∷ [] = map_more point_of points i p l ∙ ap (λ (y : CodePoint). points_of (take i points) ++ point_of y ∷ []) (sym q) in
    let y : corrections_of new ≡ corrections_of out ++ (point_of p, h) ∷ [] = ap corrections_of e ∙ map-append (λ (c : CodePoint × Lie). (point_of c.0, c.1)) out ((p, h) ∷ []) in
    rw (x, y) (AreAt-append ws n (points_of (take i points)) (corrections_of out) (point_of p) h a r w)

points-at : (ws : List Wall) (n : ℕ) (ps : List Point) (cs : Corrections) → AreAt ws n ps cs → map (λ c. c.0) cs ≡ ps
points-at ws n [] [] a = refl
points-at ws n [] (c ∷ cs) a = absurd a
points-at ws n (p ∷ ps) [] a = absurd a
points-at ws n (p ∷ ps) (c ∷ cs) a = let x = a.0.0 in let y = points-at ws n ps cs a.1 in λ i. x i ∷ y i

-- of the points, at the corrections
Every-of : (P : Point → Type 0) (cs : Corrections) → Every P (map (λ c. c.0) cs) → Every (λ c. P c.0) cs
Every-of P [] h = tt
Every-of P (c ∷ cs) h = (h.0, Every-of P cs h.1)

pairs-of : (P : Point → Point → Type 0) (cs : Corrections) → EveryPair P (map (λ c. c.0) cs) → EveryPair (λ c d. P c.0 d.0) cs
pairs-of P [] h = tt
pairs-of P (c ∷ cs) h = (Every-of (P c.0) cs h.0, pairs-of P cs h.1)

each-at : (ws : List Wall) (n : ℕ) (ps : List Point) (cs : Corrections) → AreAt ws n ps cs → Every (λ p. IsPoint p × IsTrue (is_active n ws p)) ps → Every (λ c. IsPoint c.0 × IsTrue (is_active n ws c.0) × IsCorrection ws c.0 n c.1) cs
each-at ws n [] [] a e = tt
each-at ws n [] (c ∷ cs) a e = absurd a
each-at ws n (p ∷ ps) [] a e = absurd a
each-at ws n (p ∷ ps) (c ∷ cs) a e = (subst (λ (q : Point). IsPoint q × IsTrue (is_active n ws q) × IsCorrection ws q n c.1) (sym a.0.0) (e.0.0, e.0.1, a.0.1), each-at ws n ps cs a.1 e.1)

pub corrections-at : (ws : List Wall) (n : ℕ) (ps : List Point) (cs : Corrections) → AreJoints n ws ps → AreAt ws n ps cs → AreCorrections ws n cs
corrections-at ws n ps cs h a = record {
  each = each-at ws n ps cs a h.each;
  all = λ p ip t. subst (λ (qs : List Point). In p qs) (sym q) (h.all p ip t);
  sorted = pairs-of (λ p q. IsTrue (point_before p q)) cs (subst (EveryPair (λ p q. IsTrue (point_before p q))) (sym q) h.sorted);
}
  where
    q : map (λ c. c.0) cs ≡ ps
    q = points-at ws n ps cs a

weights-at : (ws : List Wall) (n : ℕ) (ps : List Point) (cs : Corrections) → AreAt ws n ps cs → Every (λ p. weight ws p n ≤ 2 ^ 126) ps
weights-at ws n [] [] a = tt
weights-at ws n [] (c ∷ cs) a = absurd a
weights-at ws n (p ∷ ps) [] a = absurd a
weights-at ws n (p ∷ ps) (c ∷ cs) a = (a.0.2, weights-at ws n ps cs a.1)

pub corrections-light : (ws : List Wall) (n : ℕ) (ps : List Point) (cs : Corrections) → AreAt ws n ps cs → Every (λ c. weight ws c.0 n ≤ 2 ^ 126) cs
corrections-light ws n ps cs a = Every-of (λ p. weight ws p n ≤ 2 ^ 126) cs (subst (Every (λ p. weight ws p n ≤ 2 ^ 126)) (sym (points-at ws n ps cs a)) (weights-at ws n ps cs a))

pub joints-light : (ws : List Wall) (n : ℕ) (ps : List Point) (cs : Corrections) → AreJoints n ws ps → AreAt ws n ps cs → AllLight n ws
joints-light ws n ps cs h a = λ p ip t. Every-at (λ p. weight ws p n ≤ 2 ^ 126) ps p (weights-at ws n ps cs a) (h.all p ip t)

pub joints-heavy : (ws : List Wall) (n : ℕ) (ps : List Point) → AreJoints n ws ps → HasHeavy ws n ps → SomeHeavy n ws
joints-heavy ws n ps h y = let e = Every-at (λ p. IsPoint p × IsTrue (is_active n ws p)) ps y.0 h.each y.1 in (y.0, e.0, e.1, y.2)
