-- There is at most one completion.
use Rattle.std.proofs.Common.{◌≡◌, ℕ, zero, suc, refl, subst, sym, ◌∙◌, ap, List, [], ◌∷◌, ◌++◌, map, Bool, true, false, cond, ◌≤◌, arith, inl, inr}
use Rattle.std.specs.Prelude.{ℤ, pos, filter, ◌&&◌, ◌+ℤ◌, ◌-ℤ◌, ◌*ℤ◌, neg_ℤ, nat_le}
use native.Mathlib.Decide.{dec_le}
use Rattle.std.proofs.lemmas.Int.{ints}
use Rattle.sum_algebra.proofs.Ring.{var, plus, times, minus, nought, ring}
use Rattle.sum_algebra.proofs.Ring as E
use Rattle.sum_algebra.proofs.IntegerRing.{ints_ring, ◌:+◌, ◌:*◌, ◌:-◌, X, Y, Z}
use Rattle.scattering.specs.Collections.{In, Every}
use Rattle.scattering.specs.Series.{Key, Sum, Exp, Term, degree, rest, cut, coef, z, monomial, SameTo, key_eq, key_mul, exp_eq, det, IsMultiple}
use Rattle.scattering.specs.Series as D
use Rattle.scattering.specs.Plane.{Point, IsPoint, IsDirection, point_eq}
use Rattle.scattering.specs.Wall.{WallKind, Outgoing, Wall, Diagram, IsWall, is_live, cut_walls, walls, starts_at}
use Rattle.scattering.specs.LocalProduct.{image, axis_x, axis_y}
use Rattle.scattering.specs.Completion.{IsCompletion, lowered}
use Rattle.scattering.specs.ActivePoint.{is_incoming}
use Rattle.scattering.specs.Correction.{ray_coef}
use Rattle.scattering.proofs.Pairing.{coef-append}
use Rattle.scattering.proofs.Lists.{Every-append, Every-filter, map-append, Every-implies}
use Rattle.scattering.proofs.Keys.{key_eq-same, key_eq-apart}
use Rattle.scattering.proofs.Coefficients.{coef-none, dead-coef}
use Rattle.plane_theory.proofs.Directions.{direction-zero, from-difference}
use Rattle.crossing_theory.proofs.Translation.{from_Eq}
use Rattle.crossing_theory.proofs.HalfWalls.{Proper, proper}
use Rattle.crossing_theory.proofs.OtherFunctions.{refit}
use Rattle.crossing_theory.proofs.AddedTerms.{gain, image-grows, Grows}
use Rattle.crossing_theory.proofs.CutFunctions.{base, tops, added, one_le, grows, proper-base}
use Rattle.correction_theory.proofs.RayGains.{less-forth, ray-gains}
use Rattle.correction_theory.proofs.ReducedRays.{rays-unique}
use Rattle.completion_theory.proofs.RayStarts.{degree-mul}
use Rattle.completion_theory.proofs.LowerOrders.{live-swap, lower_orders, directed-cut}
use Rattle.completion_theory.specs.Laws.{CompletionIsUnique}

-- ---- the coefficients of rays

coef-rest-cut : (n : ℕ) (f : Sum) (k : Key) → degree k ≤ n → coef (rest (cut n f)) k ≡ coef (rest f) k
coef-rest-cut n [] k le = refl
coef-rest-cut n (t ∷ f) k le = go (nat_le (degree t.0) n) refl (key_eq t.0 D.unit) refl (key_eq t.0 k) refl (coef-rest-cut n f k le)
  where
    clash : (d e : ℕ) → d ≡ e → e ≤ n → nat_le d n ≡ false → ⊥
    clash d e p l q = grind arith

    go : (a : Bool) → nat_le (degree t.0) n ≡ a → (b : Bool) → key_eq t.0 D.unit ≡ b → (c : Bool) → key_eq t.0 k ≡ c → coef (rest (cut n f)) k ≡ coef (rest f) k → coef (rest (cut n (t ∷ f))) k ≡ coef (rest (t ∷ f)) k
    go true p true q c r h = rw (p, q) h
    go true p false q c r h = rw (p, q) (ap (λ s. D.coef_at k t +ℤ s) h)
    go false p true q c r h = rw (p, q) h
    go false p false q true r h = absurd (clash (degree t.0) (degree k) (ap degree (key_eq-same t.0 k r)) le p)
    go false p false q false r h = rw (p, q) (rw r (h ∙ ring ints_ring (coef (rest f) k ∷ []) X (nought :+ X) refl))

ray_coef-same : (F : Wall → Sum) (rays : List Wall) (p : Point) (d : Exp) (k : Key) → ((r : Wall) → coef (rest (F r)) k ≡ coef (rest r.function) k) → ray_coef (map (refit F) rays) p d k ≡ ray_coef rays p d k
ray_coef-same F [] p d k h = refl
ray_coef-same F (r ∷ rays) p d k h = rw (h r, ray_coef-same F rays p d k h) refl

pub ray_coef-cut : (n : ℕ) (rays : List Wall) (p : Point) (d : Exp) (k : Key) → degree k ≤ n → ray_coef (cut_walls n rays) p d k ≡ ray_coef rays p d k
ray_coef-cut n rays p d k le = ray_coef-same (λ r. cut n r.function) rays p d k (λ r. coef-rest-cut n r.function k le)

pub ray_coef-live : (rays : List Wall) (p : Point) (d : Exp) (k : Key) → ray_coef (filter is_live rays) p d k ≡ ray_coef rays p d k
ray_coef-live [] p d k = refl
ray_coef-live (r ∷ rays) p d k = go (is_live r) refl (point_eq r.at p && exp_eq r.dir d) (ray_coef-live rays p d k)
  where
    go : (b : Bool) → is_live r ≡ b → (c : Bool) → ray_coef (filter is_live rays) p d k ≡ ray_coef rays p d k → ray_coef (filter is_live (r ∷ rays)) p d k ≡ cond (point_eq r.at p && exp_eq r.dir d) (coef (rest r.function) k) (pos 0) +ℤ ray_coef rays p d k
    go true e c h = rw e (ap (λ s. cond (point_eq r.at p && exp_eq r.dir d) (coef (rest r.function) k) (pos 0) +ℤ s) h)
    go false e c h = rw (e, dead-coef (rest r.function) k e) (h ∙ none (point_eq r.at p && exp_eq r.dir d))
      where
        none : (c : Bool) → ray_coef rays p d k ≡ cond c (pos 0) (pos 0) +ℤ ray_coef rays p d k
        none true = ring ints_ring (ray_coef rays p d k ∷ []) X (nought :+ X) refl
        none false = ring ints_ring (ray_coef rays p d k ∷ []) X (nought :+ X) refl

ray_coef-zero : (rays : List Wall) (p : Point) (d : Exp) (k : Key) → Every (λ r. coef (rest r.function) k ≡ pos 0) rays → ray_coef rays p d k ≡ pos 0
ray_coef-zero [] p d k h = refl
ray_coef-zero (r ∷ rays) p d k h = rw (h.0, ray_coef-zero rays p d k h.1) (none (point_eq r.at p && exp_eq r.dir d))
  where
    none : (c : Bool) → cond c (pos 0) (pos 0) +ℤ pos 0 ≡ pos 0
    none true = refl
    none false = refl

pub ray_coef-high : (n : ℕ) (rays : List Wall) (p : Point) (d : Exp) (k : Key) → Every (IsWall n) rays → suc n ≤ degree k → ray_coef rays p d k ≡ pos 0
ray_coef-high n rays p d k h le =
    ray_coef-zero rays p d k (Every-implies (IsWall n) _ rays (λ r w. coef-none (rest r.function) k (Every-implies _ _ (rest r.function) (λ t (l : degree t.0 ≤ n). key_eq-apart t k (λ e. omega (arith, e, l, le))) (Every-filter (λ (t : Term). degree t.0 ≤ n) _ r.function w.function.series.low))) h)

ray_coef-0 : (n : ℕ) (rays : List Wall) (p : Point) (d : Exp) (k : Key) → Every (IsWall n) rays → degree k ≤ 0 → ray_coef rays p d k ≡ pos 0
ray_coef-0 n rays p d k h le =
    ray_coef-zero rays p d k (Every-implies (IsWall n) _ rays (λ r w. coef-none (rest r.function) k (Every-implies _ _ (rest r.function) (λ t (l : (1 ≤ degree t.0) × IsMultiple r.dir t.0.exp). let q = l.0 in key_eq-apart t k (λ e. omega (arith, e, q, le))) w.function.others)) h)

-- ---- one order more

base-rays : (n : ℕ) (rays : List Wall) → Every (λ r. r.kind ≡ Outgoing) rays → map (refit (base n)) rays ≡ cut_walls n rays
base-rays n [] h = refl
base-rays n (r ∷ rays) h =
    let f : base n r ≡ cut n r.function = ap (λ (q : WallKind). cond (is_incoming q) r.function (cut n r.function)) h.0 in
    let t = base-rays n rays h.1 in
    λ i. record { kind = r.kind; at = r.at; dir = r.dir; function = f i } ∷ t i

added-append : (n : ℕ) (m : Exp) (p : Point) (x : Key) (us vs : List Wall) → coef (added n m p (us ++ vs)) x ≡ coef (added n m p us) x +ℤ coef (added n m p vs) x
added-append n m p x [] vs = ring ints_ring (coef (added n m p vs) x ∷ []) X (nought :+ X) refl
added-append n m p x (u ∷ us) vs =
    coef-append (cond (starts_at u p) (gain (suc n) (one_le n) (base n) (tops n) m u) []) (added n m p (us ++ vs)) x
    ∙ rw (added-append n m p x us vs, coef-append (cond (starts_at u p) (gain (suc n) (one_le n) (base n) (tops n) m u) []) (added n m p us) x)
    (ring ints_ring (coef (cond (starts_at u p) (gain (suc n) (one_le n) (base n) (tops n) m u) []) x ∷ coef (added n m p us) x ∷ coef (added n m p vs) x ∷ []) (X :+ (Y :+ Z)) (X :+ Y :+ Z) refl)

directed-base : (n : ℕ) (ws : List Wall) → Every (λ w. IsDirection w.dir × Proper w) ws → Every (λ w. IsDirection w.dir × Proper w) (map (refit (base n)) ws)
directed-base n [] h = tt
directed-base n (w ∷ ws) h = ((h.0.0, proper-base n w h.0.1), directed-base n ws h.1)

-- the images of a diagram are those of the lower order, and what its rays' last terms add
pub image-next : (n : ℕ) (initial rays : List Wall) (p : Point) (m : Exp) → Every (λ w. IsDirection w.dir × Proper w) initial → Every (IsWall (suc n)) rays → Every (λ r. r.kind ≡ Outgoing) rays → (x : Key) → degree x ≤ suc n
    → coef (image (initial ++ rays) p (suc n) m) x ≡ coef (image (map (refit (base n)) initial ++ filter is_live (cut_walls n rays)) p (suc n) m) x +ℤ coef (added n m p initial) x +ℤ coef (added n m p rays) x
image-next n initial rays p m hi hr o x low =
    let pr : Every Proper (initial ++ rays) = Every-append Proper initial rays (Every-implies _ Proper initial (λ w h. h.1) hi) (Every-implies _ Proper rays (λ r h. proper (suc n) r h) hr) in
    let grown = image-grows (suc n) (one_le n) (base n) (tops n) (initial ++ rays) p m (Every-implies Proper (Grows (suc n) (one_le n) (base n) (tops n)) (initial ++ rays) (λ w q. grows n w q) pr) in
    let split : map (refit (base n)) (initial ++ rays) ≡ map (refit (base n)) initial ++ cut_walls n rays = map-append (refit (base n)) initial rays ∙ ap (λ r. map (refit (base n)) initial ++ r) (base-rays n rays o) in
    from_Eq (suc n) _ _ grown x low
    ∙ coef-append (image (map (refit (base n)) (initial ++ rays)) p (suc n) m) (added n m p (initial ++ rays)) x
    ∙ ap (λ ws. coef (image ws p (suc n) m) x +ℤ coef (added n m p (initial ++ rays)) x) split
    ∙ ap (λ y. y +ℤ coef (added n m p (initial ++ rays)) x) (from_Eq (suc n) _ _ (live-swap (suc n) (map (refit (base n)) initial) (cut_walls n rays) p m (directed-base n initial hi) (directed-cut n (suc n) rays hr)) x low)
    ∙ ap (λ y. coef (image (map (refit (base n)) initial ++ filter is_live (cut_walls n rays)) p (suc n) m) x +ℤ y) (added-append n m p x initial rays)
    ∙ ring ints_ring (coef (image (map (refit (base n)) initial ++ filter is_live (cut_walls n rays)) p (suc n) m) x ∷ coef (added n m p initial) x ∷ coef (added n m p rays) x ∷ []) (X :+ (Y :+ Z)) (X :+ Y :+ Z) refl

-- ---- uniqueness

cancel-sums : (a b c d : ℤ) → a ≡ b +ℤ c → a ≡ b +ℤ d → c ≡ d
cancel-sums a b c d p q = omega (arith, ints, p, q)

difference-zero : (t a b : ℤ) → t *ℤ a ≡ t *ℤ b → t *ℤ (a -ℤ b) ≡ pos 0
difference-zero t a b e = ring ints_ring (t ∷ a ∷ b ∷ []) (X :* (Y :- Z)) (X :* Y :- X :* Z) refl ∙ rw e (ring ints_ring ((t *ℤ b) ∷ []) (X :- X) nought refl)

-- a number that the determinants with both axes take to equal products
pub by_axes : (d : Exp) → IsDirection d → (a b : ℤ) → ((m : Exp) → In m (axis_x ∷ axis_y ∷ []) → det d m *ℤ a ≡ det d m *ℤ b) → a ≡ b
by_axes d h a b f =
    from-difference a b (direction-zero d h (a -ℤ b)
    (ring ints_ring (d.a ∷ d.b ∷ (a -ℤ b) ∷ []) (X :* Z) ((X :* E.unit :- Y :* nought) :* Z) refl ∙ difference-zero (det d axis_y) a b (f axis_y (inr (inl refl))))
    (ring ints_ring (d.a ∷ d.b ∷ (a -ℤ b) ∷ []) (Y :* Z) (minus ((X :* nought :- Y :* E.unit) :* Z)) refl ∙ ap neg_ℤ (difference-zero (det d axis_x) a b (f axis_x (inl refl)))))

pub on_axis : (P : Exp → Type 0) → P axis_x → P axis_y → (m : Exp) → In m (axis_x ∷ axis_y ∷ []) → P m
on_axis P x y m (inl e) = subst P (sym e) x
on_axis P x y m (inr (inl e)) = subst P (sym e) y
on_axis P x y m (inr (inr e)) = elim e [ ]

module _ (given : List Wall) (k : ℕ) (hg : Every (IsWall k) given) where
  initial-walls : (n : ℕ) (e : Diagram) → IsCompletion given n e → Every (λ w. IsDirection w.dir × Proper w) e.initial
  initial-walls n e c = subst (Every (λ w. IsDirection w.dir × Proper w)) (sym c.initial) (directed-cut n k given hg)

  module _ (n : ℕ) (e e' : Diagram) (c : IsCompletion given (suc n) e) (c' : IsCompletion given (suc n) e') (lower : filter is_live (cut_walls n e.rays) ≡ filter is_live (cut_walls n e'.rays)) where
    same-added : (p : Point) → IsPoint p → (m : Exp) → In m (axis_x ∷ axis_y ∷ []) → (x : Key) → degree x ≤ suc n → coef (added n m p e.rays) x ≡ coef (added n m p e'.rays) x
    same-added p ip m i x low =
        let a = sym (on_axis (λ m. SameTo (suc n) (image (walls e) p (suc n) m) (monomial (z m))) (c.consistent p ip).x (c.consistent p ip).y m i x low) ∙ image-next n e.initial e.rays p m (initial-walls (suc n) e c) c.proper c.outgoing x low in
        let b = sym (on_axis (λ m. SameTo (suc n) (image (walls e') p (suc n) m) (monomial (z m))) (c'.consistent p ip).x (c'.consistent p ip).y m i x low) ∙ image-next n e'.initial e'.rays p m (initial-walls (suc n) e' c') c'.proper c'.outgoing x low in
        let one_initial : e'.initial ≡ e.initial = c'.initial ∙ sym c.initial in
        cancel-sums (coef (monomial (z m)) x) _ (coef (added n m p e.rays) x) (coef (added n m p e'.rays) x) a
        (b ∙ ap (λ us. coef (image (map (refit (base n)) us ++ filter is_live (cut_walls n e'.rays)) p (suc n) m) x +ℤ coef (added n m p us) x +ℤ coef (added n m p e'.rays) x) one_initial
        ∙ ap (λ rs. coef (image (map (refit (base n)) e.initial ++ rs) p (suc n) m) x +ℤ coef (added n m p e.initial) x +ℤ coef (added n m p e'.rays) x) (sym lower))

    rays-facts : (e : Diagram) → IsCompletion given (suc n) e → Every (λ r. (r.kind ≡ Outgoing) × IsDirection r.dir × Proper r) e.rays
    rays-facts e c = both e.rays c.outgoing c.proper
      where
        both : (rays : List Wall) → Every (λ r. r.kind ≡ Outgoing) rays → Every (IsWall (suc n)) rays → Every (λ r. (r.kind ≡ Outgoing) × IsDirection r.dir × Proper r) rays
        both [] o h = tt
        both (r ∷ rays) o h = ((o.0, h.0.direction, proper (suc n) r h.0), both rays o.1 h.1)

    top : (p : Point) (d : Exp) (q : Key) → IsPoint p → IsDirection d → IsMultiple d q.exp → degree q ≡ suc n → ray_coef e.rays p d q ≡ ray_coef e'.rays p d q
    top p d q ip hd mq deg =
        by_axes d hd _ _ (λ m i.
        sym (ray-gains n m p d q hd mq (omega (arith, deg)) (key_mul (z m) q) (less-forth q m) e.rays (rays-facts e c))
        ∙ same-added p ip m i (key_mul (z m) q) (let l = degree-mul m q in omega (arith, l, deg))
        ∙ ray-gains n m p d q hd mq (omega (arith, deg)) (key_mul (z m) q) (less-forth q m) e'.rays (rays-facts e' c'))

    below : (p : Point) (d : Exp) (q : Key) → degree q ≤ n → ray_coef e.rays p d q ≡ ray_coef e'.rays p d q
    below p d q le =
        sym (ray_coef-live (cut_walls n e.rays) p d q ∙ ray_coef-cut n e.rays p d q le)
        ∙ ap (λ rs. ray_coef rs p d q) lower ∙ ray_coef-live (cut_walls n e'.rays) p d q ∙ ray_coef-cut n e'.rays p d q le

    pub next-rays : e.rays ≡ e'.rays
    next-rays =
        rays-unique (suc n) (suc n) e.rays e'.rays c.proper c'.proper c.outgoing c'.outgoing c.reduced c'.reduced
        (λ p d q ip hd mq. elim (dec_le (degree q) n) [
          | yes le ↦ below p d q le
          | no above ↦ elim (dec_le (degree q) (suc n)) [
            | yes le ↦ top p d q ip hd mq (omega (arith, above, le))
            | no high ↦ ray_coef-high (suc n) e.rays p d q c.proper (omega (arith, high)) ∙ sym (ray_coef-high (suc n) e'.rays p d q c'.proper (omega (arith, high)))
          ]
        ])

  unique-rays : (n : ℕ) → n ≤ k → (e e' : Diagram) → IsCompletion given n e → IsCompletion given n e' → e.rays ≡ e'.rays
  unique-rays zero le e e' c c' =
      rays-unique 0 0 e.rays e'.rays c.proper c'.proper c.outgoing c'.outgoing c.reduced c'.reduced
      (λ p d q ip hd mq. elim (dec_le (degree q) 0) [
        | yes low ↦ ray_coef-0 0 e.rays p d q c.proper low ∙ sym (ray_coef-0 0 e'.rays p d q c'.proper low)
        | no high ↦ ray_coef-high 0 e.rays p d q c.proper (omega (arith, high)) ∙ sym (ray_coef-high 0 e'.rays p d q c'.proper (omega (arith, high)))
      ])
  unique-rays (suc n) le e e' c c' =
      next-rays n e e' c c'
      (unique-rays n (omega (arith, le)) (lowered n e) (lowered n e') (lower_orders given n (suc n) k e (omega arith) le hg c) (lower_orders given n (suc n) k e' (omega arith) le hg c'))

pub completion_is_unique : CompletionIsUnique
completion_is_unique given n m e e' le hg c c' =
    let i : e.initial ≡ e'.initial = c.initial ∙ sym c'.initial in
    let r : e.rays ≡ e'.rays = unique-rays given m hg n le e e' c c' in
    λ j. record { initial = i j; rays = r j }
