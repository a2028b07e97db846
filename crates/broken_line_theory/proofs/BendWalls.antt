-- A bend lies on a live wall that the exponent crosses, and changes nothing across that wall.
use Rattle.std.proofs.Common.{◌≡◌, ◌≢◌, ℕ, refl, ◌∙◌, ◌≤◌, inl, inr, arith, Bool, true, false, List, [], ◌∷◌, map}
use Rattle.std.specs.Prelude.{ℤ, pos, ◌+ℤ◌, ◌-ℤ◌, ◌*ℤ◌, not, ◌&&◌, IsFalse}
use Rattle.std.specs.List.{list_any}
use Rattle.std.proofs.lemmas.Int.{ints}
use Rattle.scattering.proofs.Ring.{dif-up, dif-add, dif-neg, dif-mul, dif-same}
use Rattle.scattering.specs.Collections.{In, Every}
use Rattle.scattering.specs.Series.{Exp, Key, det, degree, coef, one, absolute, rest, IsMultiple}
use Rattle.scattering.specs.Plane.{Point}
use Rattle.scattering.specs.Wall.{Wall, is_on, is_live, are_parallel, starts_at}
use Rattle.scattering.specs.ActivePoint.{is_special, walls_on}
use Rattle.scattering.specs.BrokenLine.{live_on, across, bend_majorant}
use Rattle.scattering.proofs.Lists.{any-none, filter-keeps, Every-at, filter-from, and-left, and-right, or-left, Every-implies}
use Rattle.scattering.proofs.Keys.{int_eq-same}
use Rattle.broken_line_theory.proofs.Terms.{IsKept, AllKeys, all-one, all-pow, all-product, all-absolute, all-rest, all-coef}
use Rattle.broken_line_theory.proofs.Bends.{IsTame}

all-three : (a b c : Bool) → (a && b && not c) ≡ false → a ≡ true → b ≡ true → c ≡ true
all-three true true true h k l = refl
all-three true true false h k l = cc
all-three true false c h k l = cc
all-three false b c h k l = cc

pub live-out : (ws : List Wall) (p : Point) (u : Wall) → In u (live_on ws p) → In u ws × (is_live u ≡ true) × (is_on u p ≡ true)
live-out ws p u h = let r = filter-from (λ w. is_live w && is_on w p) ws u h in (r.0, and-left (is_live u) (is_on u p) r.1, and-right (is_live u) (is_on u p) r.1)

-- at a point that isn't special all live walls are parallel
pub live-parallel : (ws : List Wall) (p : Point) (u v : Wall) → IsFalse (is_special ws p) → In u (live_on ws p) → In v (live_on ws p) → det u.dir v.dir ≡ pos 0
live-parallel ws p u v h i j =
    let a = live-out ws p u i in let b = live-out ws p v j in
    let f = or-left (list_any (λ u. list_any (λ v. is_live u && is_live v && not (are_parallel u v)) (walls_on ws p)) (walls_on ws p)) (list_any (λ w. starts_at w p && is_live w) ws) h in
    let g = any-none (λ u. list_any (λ v. is_live u && is_live v && not (are_parallel u v)) (walls_on ws p)) (walls_on ws p) f u (filter-keeps (λ w. is_on w p) ws u a.0 a.2) in
    let k = any-none (λ v. is_live u && is_live v && not (are_parallel u v)) (walls_on ws p) g v (filter-keeps (λ w. is_on w p) ws v b.0 b.2) in
    int_eq-same (det u.dir v.dir) (pos 0) (all-three (is_live u) (is_live v) (are_parallel u v) k a.1 b.1)

-- ---- keys without powers
zero-kept : IsKept (λ k. degree k ≡ 0)
zero-kept = record { unit = refl; mul = λ k l h i. omega (arith, h, i) }

one-only : (k : Key) → 1 ≤ degree k → coef one k ≢ pos 0 → ⊥
one-only k l h = let z : degree k ≡ 0 = all-coef (λ k. degree k ≡ 0) zero-kept one k (all-one (λ k. degree k ≡ 0) zero-kept) h in omega (arith, l, z)

-- ---- keys along a direction
det-key : (a b c d e f : ℤ) → a *ℤ d -ℤ b *ℤ c ≡ pos 0 → a *ℤ f -ℤ b *ℤ e ≡ pos 0 → a *ℤ (d +ℤ f) -ℤ b *ℤ (c +ℤ e) ≡ pos 0
det-key a b c d e f h k = let s = split a b c d e f in omega (arith, ints, s, h, k)
  where
    split : (a b c d e f : ℤ) → a *ℤ (d +ℤ f) -ℤ b *ℤ (c +ℤ e) ≡ (a *ℤ d -ℤ b *ℤ c) +ℤ (a *ℤ f -ℤ b *ℤ e)
    split a b c d e f = rw (dif-up a, dif-up b, dif-up c, dif-up d, dif-up e, dif-up f) (simp (dif-mul, dif-add, dif-neg) (dif-same _ _ _ _ (omega arith)))

zero-times : (a b : ℤ) → a *ℤ pos 0 -ℤ b *ℤ pos 0 ≡ pos 0
zero-times a b = omega (arith, ints)

pub along-kept : (d : Exp) → IsKept (λ k. det d k.exp ≡ pos 0)
along-kept d = record { unit = zero-times d.a d.b; mul = λ k l h i. det-key d.a d.b k.exp.a k.exp.b l.exp.a l.exp.b h i }

pub det-scaled : (a b c d j : ℤ) → a *ℤ d -ℤ b *ℤ c ≡ pos 0 → a *ℤ (j *ℤ d) -ℤ b *ℤ (j *ℤ c) ≡ pos 0
det-scaled a b c d j h = scaled a b c d j ∙ rw h (omega (arith, ints))
  where
    scaled : (a b c d j : ℤ) → a *ℤ (j *ℤ d) -ℤ b *ℤ (j *ℤ c) ≡ j *ℤ (a *ℤ d -ℤ b *ℤ c)
    scaled a b c d j = rw (dif-up a, dif-up b, dif-up c, dif-up d, dif-up j) (simp (dif-mul, dif-add, dif-neg) (dif-same _ _ _ _ (omega arith)))

wall-along : (d : Exp) (w : Wall) → IsTame w → det d w.dir ≡ pos 0 → AllKeys (λ k. det d k.exp ≡ pos 0) (along-kept d) w.function
wall-along d w h e =
    all-rest (λ k. det d k.exp ≡ pos 0) (along-kept d) w.function
    (Every-implies (λ t. (1 ≤ degree t.0) × IsMultiple w.dir t.0.exp) (λ t. det d t.0.exp ≡ pos 0) (rest w.function)
    (λ t k. rw k.1.2 (det-scaled d.a d.b w.dir.a w.dir.b k.1.0 e)) h)

walls-along : (d : Exp) (vs : List Wall) → ((v : Wall) → In v vs → IsTame v × (det d v.dir ≡ pos 0)) → Every (AllKeys (λ k. det d k.exp ≡ pos 0) (along-kept d)) (map (λ w. absolute w.function) vs)
walls-along d [] h = tt
walls-along d (v ∷ vs) h = (all-absolute (λ k. det d k.exp ≡ pos 0) (along-kept d) v.function (let r = h v (inl refl) in wall-along d v r.0 r.1), walls-along d vs (λ u k. h u (inr k)))

-- ---- the wall of a bend
pub record BendWall (n : ℕ) (ws : List Wall) (p : Point) (x : Exp) (k : Key) : Type 0 where
  pub wall : Wall
  pub on : In wall (live_on ws p)
  pub crosses : det wall.dir x ≢ pos 0
  pub along : det wall.dir k.exp ≡ pos 0
  pub as_far : (y : Exp) → det wall.dir y ≡ det wall.dir x → across (live_on ws p) y ≡ across (live_on ws p) x
  pub same : (y : Exp) → det wall.dir y ≡ det wall.dir x → bend_majorant n ws p y ≡ bend_majorant n ws p x

pub bend-wall : (n : ℕ) (ws : List Wall) (p : Point) (x : Exp) (k : Key) → Every IsTame ws → IsFalse (is_special ws p) → 1 ≤ degree k → coef (bend_majorant n ws p x) k ≢ pos 0 → BendWall n ws p x k
bend-wall n ws p x k tame plain l h = go (live_on ws p) refl
  where
    go : (us : List Wall) → live_on ws p ≡ us → BendWall n ws p x k
    go [] e = absurd (one-only k l (λ z. h (rw e z)))
    go (w ∷ us) e =
        let i : In w (live_on ws p) = rw e (inl refl) in
        let a : det w.dir k.exp ≡ pos 0 =
        all-coef (λ k. det w.dir k.exp ≡ pos 0) (along-kept w.dir) (bend_majorant n ws p x) k
        (all-pow (λ k. det w.dir k.exp ≡ pos 0) (along-kept w.dir) n _ (across (live_on ws p) x)
        (all-product (λ k. det w.dir k.exp ≡ pos 0) (along-kept w.dir) n _
        (walls-along w.dir (live_on ws p) (λ v j. (Every-at IsTame ws v tame (live-out ws p v j).0, live-parallel ws p w v plain i j))))) h in
        record {
          wall = w;
          on = i;
          crosses = λ z. one-only k l (λ f. h (rw (e, z) f));
          along = a;
          as_far = λ y s. rw (e, s);
          same = λ y s. rw (e, s);
        }
