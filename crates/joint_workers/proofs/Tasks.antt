-- An order has fewer tasks than a board may have: each is where two walls cross, and two walls that aren't parallel cross once.
use Rattle.std.proofs.Common.{◌≡◌, ◌≢◌, ◌⊎◌, inl, inr, ℕ, suc, ◌+◌, ◌*◌, ◌<◌, ◌≤◌, refl, sym, ap, subst, ◌∙◌, List, [], ◌∷◌, length, map, true, false, arith}
use Rattle.std.specs.Prelude.{IsTrue, flat_map}
use Rattle.std.proofs.Math.Nat.{mul-le-mul_left, mul-le-mul_right}
use Rattle.std.proofs.lemmas.List.{length-map, length-append}
use Rattle.limits.specs.Limits.{highest_order, most_walls}
use Rattle.order_machine.specs.History.{tasks_end}
use Rattle.scattering.specs.Collections.{In, Every, Distinct}
use Rattle.scattering.specs.Plane.{Point, IsPoint}
use Rattle.scattering.specs.Wall.{Line, Outgoing, Wall, IsWall, walls, is_on, are_parallel, cut_wall}
use Rattle.scattering.specs.ActivePoint.{is_active, is_incoming}
use Rattle.scattering.proofs.Lists.{Every-at, Every-append, Every-implies, Every-images, In-flat_map, In-mapped}
use Rattle.scattering.proofs.WallTests.{on-line, not-parallel}
use Rattle.plane_theory.proofs.CommonPoints.{common-unique}
use Rattle.completion_theory.proofs.ActivePoints.{CrossesAt, EntersAt, active-out}
use Rattle.plane_geom.specs.Shown.{point_of}
use Rattle.plane_geom.specs.declared.Point.{Point as CodePoint}
use Rattle.joint_finder.specs.Joints.{AreJoints, points_of}
use Rattle.scatter_step.specs.Completed.{SeenCompleted, IsCompleted}
use Rattle.scatter_step.specs.Orders.{AreTasks}

-- ---- as many as the places that they take, where no two share one

module _ {A B : Type 0} (Takes : A → B → Type 0) (one : (x y : A) (b : B) → Takes x b → Takes y b → x ≡ y) where
  abbrev without : (b : B) (bs : List B) → In b bs → List B
  without b [] i = []
  without b (c ∷ bs) (inl e) = bs
  without b (c ∷ bs) (inr i) = c ∷ without b bs i

  length-without : (b : B) (bs : List B) (i : In b bs) → length bs ≡ suc (length (without b bs i))
  length-without b [] i = absurd i
  length-without b (c ∷ bs) (inl e) = refl
  length-without b (c ∷ bs) (inr i) = ap suc (length-without b bs i)

  In-without : (b : B) (bs : List B) (i : In b bs) (c : B) → In c bs → (c ≡ b) ⊎ In c (without b bs i)
  In-without b [] i c j = absurd i
  In-without b (d ∷ bs) (inl e) c (inl f) = inl (f ∙ sym e)
  In-without b (d ∷ bs) (inl e) c (inr j) = inr j
  In-without b (d ∷ bs) (inr i) c (inl f) = inr (inl f)
  In-without b (d ∷ bs) (inr i) c (inr j) = step (In-without b bs i c j)
    where
      step : (c ≡ b) ⊎ In c (without b bs i) → (c ≡ b) ⊎ (c ≡ d) ⊎ In c (without b bs i)
      step (inl e) = inl e
      step (inr k) = inr (inr k)

  abbrev HasPlace : List B → A → Type 0
  HasPlace bs x = (b : B) × In b bs × Takes x b

  no-more : (xs : List A) (bs : List B) → Distinct xs → ((x : A) → In x xs → HasPlace bs x) → length xs ≤ length bs
  no-more [] bs d h = omega arith
  no-more (x ∷ xs) bs d h =
      let p = h x (inl refl) in
      let l = no-more xs (without p.0 bs p.1) d.1 (λ y i. left y i (h y (inr i))) in
      let m = length-without p.0 bs p.1 in omega (arith, l, m)
    where
      left : (y : A) → In y xs → HasPlace bs y → HasPlace (without (h x (inl refl)).0 bs (h x (inl refl)).1) y
      left y i q = go (In-without (h x (inl refl)).0 bs (h x (inl refl)).1 q.0 q.1)
        where
          go : (q.0 ≡ (h x (inl refl)).0) ⊎ In q.0 (without (h x (inl refl)).0 bs (h x (inl refl)).1) → HasPlace (without (h x (inl refl)).0 bs (h x (inl refl)).1) y
          go (inl e) = absurd (Every-at (λ z. x ≢ z) xs y d.0 i (one x y (h x (inl refl)).0 (h x (inl refl)).2 (subst (Takes y) e q.2)))
          go (inr k) = (q.0, k, q.2)

-- ---- pairs of walls

abbrev with_each : List Wall → Wall → List (Wall × Wall)
with_each ws u = map (λ v. (u, v)) ws

abbrev pairs_of : List Wall → List (Wall × Wall)
pairs_of ws = flat_map (with_each ws) ws

In-pairs : (ws : List Wall) (u v : Wall) → In u ws → In v ws → In (u, v) (pairs_of ws)
In-pairs ws u v i j = In-flat_map (with_each ws) ws u (u, v) i (In-mapped (λ (w : Wall). (u, w)) ws v j)

length-pairs : (us ws : List Wall) → length (flat_map (with_each ws) us) ≡ length us * length ws
length-pairs [] ws = omega arith
length-pairs (u ∷ us) ws =
    let one : length (with_each ws u) ≡ length ws = length-map ws (λ (v : Wall). (u, v)) in
    let both = length-append (with_each ws u) (flat_map (with_each ws) us) in
    let rest = length-pairs us ws in
    omega (arith, one, both, rest)

record CrossAt (p : Point) (w : Wall × Wall) : Type 0 where
  point : IsPoint p
  starts : IsPoint w.0.at × IsPoint w.1.at
  across : are_parallel w.0 w.1 ≡ false
  first : is_on w.0 p ≡ true
  second : is_on w.1 p ≡ true

cross-once : (p q : Point) (w : Wall × Wall) → CrossAt p w → CrossAt q w → p ≡ q
cross-once p q w h k =
    common-unique w.0.at w.0.dir w.1.at w.1.dir p q h.starts.0 h.starts.1 (not-parallel w.0 w.1 h.across)
    (record { point = h.point; first = on-line w.0 p h.first; second = on-line w.1 p h.second })
    (record { point = k.point; first = on-line w.0 q k.first; second = on-line w.1 q k.second })

-- ---- tasks

few-active : (n : ℕ) (ws : List Wall) (ps : List Point) → Every (λ w. IsPoint w.at) ws → Every (λ w. is_incoming w.kind ≡ false) ws → AreJoints n ws ps → length ps ≤ length ws * length ws
few-active n ws ps at none h = rw (sym (length-pairs ws ws)) (no-more CrossAt cross-once ps (pairs_of ws) h.once (λ p i. place p (Every-at (λ p. IsPoint p × IsTrue (is_active n ws p)) ps p h.each i)))
  where
    place : (p : Point) → IsPoint p × IsTrue (is_active n ws p) → HasPlace CrossAt cross-once (pairs_of ws) p
    place p a = go (active-out n ws p a.1)
      where
        go : CrossesAt n ws p ⊎ EntersAt n ws p → HasPlace CrossAt cross-once (pairs_of ws) p
        go (inl c) = ((c.u, c.v), In-pairs ws c.u c.v c.u_in c.v_in, record { point = a.0; starts = (Every-at (λ w. IsPoint w.at) ws c.u at c.u_in, Every-at (λ w. IsPoint w.at) ws c.v at c.v_in); across = c.across; first = c.u_on; second = c.v_on })
        go (inr e) = let f = Every-at (λ (w : Wall). is_incoming w.kind ≡ false) ws e.w none e.w_in in let g = e.incoming in absurd (cc)

few-squared : (k : ℕ) → k ≤ most_walls → k * k < tasks_end
few-squared k h = let a = mul-le-mul_left k h in let b = mul-le-mul_right most_walls h in omega (arith, a, b)

-- no wall is a ray that comes in, and each starts at a point
module _ (c : SeenCompleted) (h : IsCompleted c) where
  each-wall : (P : Wall → Type 0) → Every (λ w. P (cut_wall c.order w)) c.initial.lines → Every P c.diagram.rays → Every P (walls c.diagram)
  each-wall P a b = Every-append P c.diagram.initial c.diagram.rays (subst (Every P) (sym h.completes.initial) (Every-images P (cut_wall c.order) c.initial.lines a)) b

  starts : Every (λ w. IsPoint w.at) (walls c.diagram)
  starts = each-wall (λ w. IsPoint w.at) (Every-implies (IsWall highest_order) (λ w. IsPoint w.at) c.initial.lines (λ w i. i.point) h.given) (Every-implies (IsWall c.order) (λ w. IsPoint w.at) c.diagram.rays (λ w i. i.point) h.completes.proper)

  none-enter : Every (λ w. is_incoming w.kind ≡ false) (walls c.diagram)
  none-enter = each-wall (λ w. is_incoming w.kind ≡ false) (Every-implies (λ w. w.kind ≡ Line) (λ w. is_incoming w.kind ≡ false) c.initial.lines (λ w e. ap is_incoming e) h.lines) (Every-implies (λ w. w.kind ≡ Outgoing) (λ w. is_incoming w.kind ≡ false) c.diagram.rays (λ w e. ap is_incoming e) h.completes.outgoing)

  pub few-tasks : (ps : List CodePoint) → AreTasks c ps → length ps < tasks_end
  few-tasks ps t =
      let l = few-active (c.order + 1) (walls c.diagram) (points_of ps) starts none-enter t in
      let k = few-squared (length (walls c.diagram)) h.few in
      let m : length (points_of ps) ≡ length ps = length-map ps point_of in omega (arith, l, k, m)
