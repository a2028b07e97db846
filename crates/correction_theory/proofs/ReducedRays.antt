-- Reduced rays are told by their coefficients.
use Rattle.std.proofs.Common.{◌≡◌, ◌≢◌, ℕ, refl, subst, sym, ◌∙◌, ap, List, [], ◌∷◌, Bool, true, false, not, ◌≤◌, inl}
use Rattle.std.specs.Prelude.{pos, IsTrue}
use Rattle.std.specs.List.{list_any}
use Rattle.scattering.specs.Collections.{In, Every}
use Rattle.scattering.specs.Series.{Key, Sum, Exp, Term, degree, rest, coef, key_eq, key_before, IsMultiple}
use Rattle.scattering.specs.Series as D
use Rattle.scattering.specs.Plane.{Point, IsPoint, IsDirection}
use Rattle.scattering.specs.Wall.{Outgoing, Wall, IsWall, is_live}
use Rattle.scattering.specs.Completion.{ray_before, IsReduced}
use Rattle.scattering.specs.Correction.{ray_coef}
use Rattle.scattering.proofs.Lists.{Every-filter, filter-keeps, Every-at, pairs-filter}
use Rattle.scattering.proofs.Keys.{key_eq-same}
use Rattle.scattering.proofs.StrictOrders.{sorted-unique}
use Rattle.scattering.proofs.Determined.{coef-own, series-unique}
use Rattle.scattering.proofs.Coefficients.{coef-rest}
use Rattle.plane_theory.proofs.StrictOrder.{ray_before-asym}
use Rattle.correction_theory.proofs.RayCoefficients.{RaysRise, ray_coef-own, ray_coef-find}

first-term : (f : Sum) → IsTrue (list_any (λ (t : Term). true) f) → (t : Term) × In t f
first-term [] h = absurd (cc)
first-term (t ∷ f) h = (t, inl refl)

pub live-term : (r : Wall) → IsTrue (is_live r) → (t : Term) × In t (rest r.function)
live-term r h = first-term (rest r.function) h

-- a term of the rest: its coefficient, its exponent
pub rest-own : (n : ℕ) (r : Wall) → IsWall n r → (t : Term) → In t (rest r.function) → coef (rest r.function) t.0 ≡ t.1
rest-own n r w t i = coef-own (rest r.function) (pairs-filter _ _ r.function w.function.series.rises) t i

pub rest-nonzero : (n : ℕ) (r : Wall) → IsWall n r → (t : Term) → In t (rest r.function) → t.1 ≢ pos 0
rest-nonzero n r w t i = Every-at (λ (t : Term). t.1 ≢ pos 0) (rest r.function) t (Every-filter _ _ r.function w.function.series.nonzero) i

pub rest-term : (n : ℕ) (r : Wall) → IsWall n r → (t : Term) → In t (rest r.function) → (1 ≤ degree t.0) × IsMultiple r.dir t.0.exp
rest-term n r w t i = Every-at (λ (t : Term). (1 ≤ degree t.0) × IsMultiple r.dir t.0.exp) (rest r.function) t w.function.others i

module _ (n m : ℕ) (rays rays' : List Wall) (w : Every (IsWall n) rays) (w' : Every (IsWall m) rays') (o : Every (λ r. r.kind ≡ Outgoing) rays) (o' : Every (λ r. r.kind ≡ Outgoing) rays')
    (red : IsReduced rays) (rises' : RaysRise rays')
    (same : (p : Point) (d : Exp) (k : Key) → IsPoint p → IsDirection d → IsMultiple d k.exp → ray_coef rays p d k ≡ ray_coef rays' p d k) where
  module _ (r s : Wall) (i : In r rays) (j : In s rays') (at : s.at ≡ r.at) (dir : s.dir ≡ r.dir) where
    wr : IsWall n r
    wr = Every-at (IsWall n) rays r w i

    ws : IsWall m s
    ws = Every-at (IsWall m) rays' s w' j

    -- at multiples of the direction
    at_multiples : (k : Key) → IsMultiple r.dir k.exp → coef (rest r.function) k ≡ coef (rest s.function) k
    at_multiples k mk =
        sym (ray_coef-own rays red.rises r i k) ∙ same r.at r.dir k wr.point wr.direction mk
        ∙ ap (λ (p : Point). ray_coef rays' p r.dir k) (sym at) ∙ ap (λ (d : Exp). ray_coef rays' s.at d k) (sym dir) ∙ ray_coef-own rays' rises' s j k

    at_term : (k : Key) → (b : Bool) → key_eq k D.unit ≡ b → (b ≡ false → IsMultiple r.dir k.exp) → coef r.function k ≡ coef s.function k
    at_term k true e f = rw (key_eq-same k D.unit e) (wr.function.constant ∙ sym ws.function.constant)
    at_term k false e f = sym (coef-rest r.function k e) ∙ at_multiples k (f refl) ∙ coef-rest s.function k e

    in-rest : (f : Sum) (t : Term) → In t f → key_eq t.0 D.unit ≡ false → In t (rest f)
    in-rest f t h e = filter-keeps (λ (t : Term). not (key_eq t.0 D.unit)) f t h (ap not e)

    functions : r.function ≡ s.function
    functions =
        series-unique r.function s.function wr.function.series.rises ws.function.series.rises wr.function.series.nonzero ws.function.series.nonzero
        (λ t h. at_term t.0 (key_eq t.0 D.unit) refl (λ e. (rest-term n r wr t (in-rest r.function t h e)).1))
        (λ t h. sym (at_term t.0 (key_eq t.0 D.unit) refl (λ e. subst (λ (d : Exp). IsMultiple d t.0.exp) dir (rest-term m s ws t (in-rest s.function t h e)).1)))

    pub one_ray : s ≡ r
    one_ray =
        let k : s.kind ≡ r.kind = Every-at (λ r. r.kind ≡ Outgoing) rays' s o' j ∙ sym (Every-at (λ r. r.kind ≡ Outgoing) rays r o i) in
        let f : s.function ≡ r.function = sym functions in
        λ x. record { kind = k x; at = at x; dir = dir x; function = f x }

  pub into-rays : (r : Wall) → In r rays → In r rays'
  into-rays r i =
      let wr = Every-at (IsWall n) rays r w i in
      let t = live-term r (Every-at (λ r. IsTrue (is_live r)) rays r red.live i) in
      let c : ray_coef rays' r.at r.dir t.0.0 ≡ t.0.1 = sym (same r.at r.dir t.0.0 wr.point wr.direction (rest-term n r wr t.0 t.1).1) ∙ ray_coef-own rays red.rises r i t.0.0 ∙ rest-own n r wr t.0 t.1 in
      let s = ray_coef-find rays' r.at r.dir t.0.0 (λ z. rest-nonzero n r wr t.0 t.1 (sym c ∙ z)) in
      subst (λ (q : Wall). In q rays') (one_ray r s.0 i s.1 s.2 s.3) s.1

pub rays-unique : (n m : ℕ) (rays rays' : List Wall) → Every (IsWall n) rays → Every (IsWall m) rays' → Every (λ r. r.kind ≡ Outgoing) rays → Every (λ r. r.kind ≡ Outgoing) rays' → IsReduced rays → IsReduced rays'
    → ((p : Point) (d : Exp) (k : Key) → IsPoint p → IsDirection d → IsMultiple d k.exp → ray_coef rays p d k ≡ ray_coef rays' p d k) → rays ≡ rays'
rays-unique n m rays rays' w w' o o' red red' same =
    sorted-unique ray_before ray_before-asym rays rays' red.rises red'.rises
    (into-rays n m rays rays' w w' o o' red red'.rises same)
    (into-rays m n rays' rays w' w o' o red' red.rises (λ p d k j h i. sym (same p d k j h i)))
