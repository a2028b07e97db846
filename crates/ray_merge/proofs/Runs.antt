-- Rays from one point, made of terms in the order of their directions, one run after another.
--     Making n p ts us ws      the rays ws from p are made of what comes before us in ts
use Rattle.std.proofs.Common.{◌≡◌, ◌≢◌, ℕ, zero, suc, ◌+◌, ◌≤◌, ◌<◌, refl, sym, subst, ap, ◌∙◌, Bool, true, false, cond, List, [], ◌∷◌, ◌++◌, length, length-take-le, get_or, take, drop, take-append-drop, arith, inl, inr}
use Rattle.std.specs.Prelude.{ℤ, pos, ◌+ℤ◌, ◌||◌, ◌&&◌, IsTrue}
use Rattle.std.specs.Cmp.{IsStrictWeakOrder}
use Rattle.std.proofs.lemmas.Int.{ints}
use Rattle.scattering.specs.Collections.{Every, EveryPair}
use Rattle.scattering.specs.Series.{Exp, Key, Term, Sum, coef, exp_before, IsMultiple}
use Rattle.scattering.specs.Plane.{Point, IsDirection, point_eq, point_before}
use Rattle.scattering.specs.Wall.{Wall, Outgoing, IsWall, is_live}
use Rattle.scattering.specs.Completion.{ray_before, IsReduced}
use Rattle.scattering.specs.Correction.{ray_coef}
use Rattle.scattering.proofs.Lists.{Every-at, Every-append, Every-from_In, Every-implies, Every-left, Every-right, pairs-append, or-second}
use Rattle.scattering.proofs.Keys.{point_eq-refl}
use Rattle.scattering.proofs.KeyOrder.{exp_before-trans}
use Rattle.scattering.proofs.Pairing.{coef-append}
use Rattle.scattering.proofs.StrictOrders.{exp_before-asym}
use Rattle.plane_theory.proofs.TotalOrder.{Compared, exp-total}
use Rattle.trunc_series.specs.Fronts.{IsFirst}
use Rattle.trunc_series.proofs.Coefficients.{add-zero}
use Rattle.trunc_series.specs.Shown.{key_of}
use Rattle.scatter_diagram.specs.declared.wall.Wall.{Wall as CodeWall}
use Rattle.scatter_diagram.specs.Shown.{walls_of}
use Rattle.scatter_diagram.specs.Listed.{AreOfOrder, AreRays}
use Rattle.ray_merge.specs.declared.ray_term.RayTerm.{RayTerm}
use Rattle.ray_merge.specs.Additions.{IsRayTerm, IsLightAlong, terms_along}
use Rattle.ray_merge.specs.RayTerms.{dir_of, code_terms, terms_of, term_before, IsAlong, AreRayTerms}
use Rattle.ray_merge.specs.Rays.{load, mass_along, AreLoads, IsRayOf}
use Rattle.ray_merge.proofs.Along.{mass_along-append}
use Rattle.ray_merge.proofs.Functions.{mass-one}
use Rattle.ray_merge.proofs.Steps.{ray_coef-append}
use Rattle.ray_merge.proofs.Terms.{CountsTerms, HasTerms, one-ray}

-- ---- a list in two parts

terms-append : (ts us : List RayTerm) → terms_of (ts ++ us) ≡ terms_of ts ++ terms_of us
terms-append [] us = refl
terms-append (t ∷ ts) us = ap (λ f. (key_of t.key, t.value) ∷ f) (terms-append ts us)

pairs-parts : {A : Type 0} (R : A → A → Type 0) (xs ys : List A) → EveryPair R (xs ++ ys) → EveryPair R xs × EveryPair R ys
pairs-parts R [] ys h = (tt, h)
pairs-parts R (x ∷ xs) ys h = let r = pairs-parts R xs ys h.1 in ((Every-left (R x) xs ys h.0, r.0), r.1)

both-parts : (n : ℕ) (ts us : List RayTerm) → AreRayTerms n (ts ++ us) → AreRayTerms n ts × AreRayTerms n us
both-parts n ts us h =
    let e = subst (Every (IsRayTerm n)) (terms-append ts us) h.each in
    let d = pairs-parts (λ (t u : Term). t.0 ≢ u.0) (terms_of ts) (terms_of us) (subst (EveryPair (λ (t u : Term). t.0 ≢ u.0)) (terms-append ts us) h.distinct) in
    let s = pairs-parts (λ (t u : RayTerm). term_before u t ≡ false) ts us h.sorted in (
      record { each = Every-left _ (terms_of ts) (terms_of us) e; along = Every-left IsAlong ts us h.along; distinct = d.0; sorted = s.0 },
      record { each = Every-right _ (terms_of ts) (terms_of us) e; along = Every-right IsAlong ts us h.along; distinct = d.1; sorted = s.1 },
    )

split-terms : (n m : ℕ) (us : List RayTerm) → AreRayTerms n us → AreRayTerms n (take m us) × AreRayTerms n (drop m us)
split-terms n m us h = both-parts n (take m us) (drop m us) (subst (AreRayTerms n) (sym (take-append-drop m us)) h)

-- ---- the order by direction

one_way-of : (d e : Exp) → exp_before d e ≡ true → exp_before e d ≡ false
one_way-of d e h = go (exp_before e d) refl
  where
    go : (b : Bool) → exp_before e d ≡ b → exp_before e d ≡ false
    go true f = absurd (exp_before-asym d e h f)
    go false f = f

chain-of : (d e f : Exp) → exp_before d e ≡ false → exp_before e f ≡ false → exp_before d f ≡ false
chain-of d e f p q = go (exp_before d f) refl
  where
    no : exp_before d f ≡ true → Compared (exp_before e d) (exp_before d e) (e ≡ d) → ⊥
    no h (inl l) = let t = exp_before-trans e d f l h in absurd (cc)
    no h (inr (inl g)) = absurd (cc)
    no h (inr (inr s)) = let t : exp_before e f ≡ true = subst (λ (x : Exp). exp_before x f ≡ true) (sym s) h in absurd (cc)

    go : (b : Bool) → exp_before d f ≡ b → exp_before d f ≡ false
    go true h = absurd (no h (exp-total e d))
    go false h = h

pub terms-ordered : IsStrictWeakOrder term_before
terms-ordered = record { one_way = λ x y. one_way-of (dir_of x) (dir_of y); chain = λ x y z. chain-of (dir_of x) (dir_of y) (dir_of z) }

-- what stands after a run comes after its direction
after-run : (d : Exp) (run others : List RayTerm) → 0 < length run → Every (λ t. dir_of t ≡ d) run → EveryPair (λ t u. term_before u t ≡ false) (run ++ others) → ((t : RayTerm) → IsFirst t others → dir_of t ≢ d) → Every (λ t. IsTrue (exp_before d (dir_of t))) others
after-run d [] others l a s n = absurd (omega (arith, l))
after-run d (r ∷ run) [] l a s n = tt
after-run d (r ∷ run) (o ∷ others) l a s n = (first, Every-implies (λ (t : RayTerm). term_before t o ≡ false) (λ t. IsTrue (exp_before d (dir_of t))) others (λ t e. later t e) (pairs-parts (λ (t u : RayTerm). term_before u t ≡ false) (r ∷ run) (o ∷ others) s).1.0)
  where
    not-before : exp_before (dir_of o) d ≡ false
    not-before = subst (λ (e : Exp). exp_before (dir_of o) e ≡ false) a.0 (Every-right (λ (t : RayTerm). term_before t r ≡ false) run (o ∷ others) s.0).0

    first : exp_before d (dir_of o) ≡ true
    first = go (exp-total d (dir_of o))
      where
        go : Compared (exp_before d (dir_of o)) (exp_before (dir_of o) d) (d ≡ dir_of o) → exp_before d (dir_of o) ≡ true
        go (inl e) = e
        go (inr (inl e)) = let f = not-before in absurd (cc)
        go (inr (inr e)) = absurd (n o (others, refl) (sym e))

    later : (t : RayTerm) → term_before t o ≡ false → exp_before d (dir_of t) ≡ true
    later t e = go (exp_before d (dir_of t)) refl
      where
        go : (b : Bool) → exp_before d (dir_of t) ≡ b → exp_before d (dir_of t) ≡ true
        go true f = f
        go false f = let c = chain-of d (dir_of t) (dir_of o) f e in let g = first in absurd (cc)

-- ---- one run after another

pub record Making (n : ℕ) (p : Point) (ts us : List RayTerm) (ws : List Wall) : Type 0 where
  pub rest : AreRayTerms n us
  pub masses : (d : Exp) → mass_along n (terms_of us) d ≤ mass_along n (terms_of ts) d
  pub rays : Every (λ w. (w.kind ≡ Outgoing) × (w.at ≡ p)) ws
  pub reduced : IsReduced ws
  pub before : Every (λ w. Every (λ t. IsTrue (exp_before w.dir (dir_of t))) us) ws
  pub counts : (q : Point) (d : Exp) (k : Key) → IsDirection d → IsMultiple d k.exp →
      ray_coef ws q d k +ℤ cond (point_eq p q) (coef (terms_of us) k) (pos 0) ≡ cond (point_eq p q) (coef (terms_of ts) k) (pos 0)
  pub loads : AreLoads n (mass_along n (terms_of ts)) ws

module _ (n : ℕ) (p : Point) (ts us : List RayTerm) (ws : List Wall) (h : Making n p ts us ws) (m : ℕ) (d : Exp) (same : Every (λ t. dir_of t ≡ d) (take m us)) where
  pub run-terms : AreRayTerms n (take m us)
  run-terms = (split-terms n m us h.rest).0

  pub run-along : Every (λ t. IsMultiple d t.0.exp) (terms_of (take m us))
  run-along = go (take m us) same run-terms.along
    where
      go : (run : List RayTerm) → Every (λ t. dir_of t ≡ d) run → Every IsAlong run → Every (λ t. IsMultiple d t.0.exp) (terms_of run)
      go [] s a = tt
      go (t ∷ run) s a = (subst (λ (e : Exp). IsMultiple e (key_of t.key).exp) s.0 a.0, go run s.1 a.1)

  in-parts : terms_of us ≡ terms_of (take m us) ++ terms_of (drop m us)
  in-parts = ap terms_of (sym (take-append-drop m us)) ∙ terms-append (take m us) (drop m us)

  part-masses : (e : Exp) → mass_along n (terms_of us) e ≡ mass_along n (terms_of (take m us)) e + mass_along n (terms_of (drop m us)) e
  part-masses e = ap (λ (f : Sum). mass_along n f e) in-parts ∙ mass_along-append n (terms_of (take m us)) (terms_of (drop m us)) e

  pub run-light : IsLightAlong n (terms_of ts) → IsLightAlong n (terms_of (take m us))
  run-light l e id =
      let a = part-masses e in
      let b = h.masses e in
      let c = mass-one n (terms_along e (terms_of (take m us))) in
      let f = mass-one n (terms_along e (terms_of ts)) in
      let g = l e id in
      omega (arith, a, b, c, f, g)

  module _ (w : Wall) (iw : IsWall n w) (is : IsRayOf n p (terms_of (take m us)) w) (dir : w.dir ≡ d) (some : 0 < length (take m us)) (next : (t : RayTerm) → IsFirst t (drop m us) → dir_of t ≢ d) where
    one : HasTerms n p (terms_of (take m us)) (w ∷ [])
    one = one-ray n p (terms_of (take m us)) w iw is

    others-after : Every (λ t. IsTrue (exp_before w.dir (dir_of t))) (drop m us)
    others-after = subst (λ (e : Exp). Every (λ t. IsTrue (exp_before e (dir_of t))) (drop m us)) (sym dir) (after-run d (take m us) (drop m us) some same (subst (EveryPair (λ (t u : RayTerm). term_before u t ≡ false)) (sym (take-append-drop m us)) h.rest.sorted) next)

    -- each ray that was made comes before w
    all-before : Every (λ u. IsTrue (ray_before u w)) ws
    all-before = Every-from_In _ ws (λ u i. go u (Every-at _ ws u h.rays i).1 (first-of-run u (Every-at (λ (u : Wall). Every (λ t. IsTrue (exp_before u.dir (dir_of t))) us) ws u h.before i)))
      where
        first-of-run : (u : Wall) → Every (λ t. IsTrue (exp_before u.dir (dir_of t))) us → exp_before u.dir w.dir ≡ true
        first-of-run u b = pick (take m us) some same (Every-left _ (take m us) (drop m us) (subst (Every (λ (t : RayTerm). IsTrue (exp_before u.dir (dir_of t)))) (sym (take-append-drop m us)) b))
          where
            pick : (run : List RayTerm) → 0 < length run → Every (λ t. dir_of t ≡ d) run → Every (λ t. IsTrue (exp_before u.dir (dir_of t))) run → exp_before u.dir w.dir ≡ true
            pick [] l s b = absurd (omega (arith, l))
            pick (t ∷ run) l s b = subst (λ (e : Exp). exp_before u.dir e ≡ true) (s.0 ∙ sym dir) b.0

        go : (u : Wall) → u.at ≡ p → exp_before u.dir w.dir ≡ true → IsTrue (ray_before u w)
        go u e b =
            let f : u.at ≡ w.at = e ∙ sym is.at in
            subst (λ (q : Point). IsTrue (point_before u.at q || (point_eq u.at q && exp_before u.dir w.dir))) f (or-second (point_before u.at u.at) _ (rw (point_eq-refl u.at, b) refl))

    pub run-made : Making n p ts (drop m us) (ws ++ w ∷ [])
    run-made = record {
      rest = (split-terms n m us h.rest).1;
      masses = λ e. let a = part-masses e in let b = h.masses e in omega (arith, a, b);
      rays = Every-append (λ (w : Wall). (w.kind ≡ Outgoing) × (w.at ≡ p)) ws (w ∷ []) h.rays ((is.kind, is.at), tt);
      reduced = record {
        live = Every-append (λ (w : Wall). IsTrue (is_live w)) ws (w ∷ []) h.reduced.live (is.live, tt);
        rises = pairs-append (λ (r s : Wall). IsTrue (ray_before r s)) ws (w ∷ []) h.reduced.rises (tt, tt) (Every-implies (λ u. IsTrue (ray_before u w)) (λ u. Every (λ s. IsTrue (ray_before u s)) (w ∷ [])) ws (λ u b. (b, tt)) all-before);
      };
      before = Every-append (λ (w : Wall). Every (λ t. IsTrue (exp_before w.dir (dir_of t))) (drop m us)) ws (w ∷ [])
          (Every-implies (λ (w : Wall). Every (λ t. IsTrue (exp_before w.dir (dir_of t))) us) (λ w. Every (λ t. IsTrue (exp_before w.dir (dir_of t))) (drop m us)) ws
          (λ w b. Every-right _ (take m us) (drop m us) (subst (Every (λ (t : RayTerm). IsTrue (exp_before w.dir (dir_of t)))) (sym (take-append-drop m us)) b)) h.before)
          (others-after, tt);
      counts = λ q e k id mk.
          ap (λ x. x +ℤ cond (point_eq p q) (coef (terms_of (drop m us)) k) (pos 0)) (ray_coef-append ws (w ∷ []) q e k ∙ ap (λ x. ray_coef ws q e k +ℤ x) (one.terms q e k id mk))
          ∙ both (point_eq p q) (ray_coef ws q e k) (coef (terms_of (take m us)) k) (coef (terms_of (drop m us)) k)
          ∙ ap (λ x. ray_coef ws q e k +ℤ cond (point_eq p q) x (pos 0)) (sym (ap (λ (f : Sum). coef f k) in-parts ∙ coef-append (terms_of (take m us)) (terms_of (drop m us)) k))
          ∙ h.counts q e k id mk;
      loads = Every-append (λ (w : Wall). load n w ≤ mass_along n (terms_of ts) w.dir) ws (w ∷ []) h.loads ((let a = one.loads.0 in let b = part-masses w.dir in let c = h.masses w.dir in omega (arith, a, b, c)), tt);
    }
      where
        both : (b : Bool) (x y z : ℤ) → (x +ℤ cond b y (pos 0)) +ℤ cond b z (pos 0) ≡ x +ℤ cond b (y +ℤ z) (pos 0)
        both true x y z = omega (arith, ints)
        both false x y z = omega (arith, ints)

-- ---- the end

module _ (n : ℕ) (p : Point) (ts : List RayTerm) (ws : List Wall) (h : Making n p ts [] ws) where
  pub all-counted : CountsTerms p (terms_of ts) ws
  all-counted q d k id mk = sym (none (point_eq p q) (ray_coef ws q d k)) ∙ h.counts q d k id mk
    where
      none : (b : Bool) (x : ℤ) → x +ℤ cond b (pos 0) (pos 0) ≡ x
      none true x = add-zero x
      none false x = add-zero x

pub made-rays : (n : ℕ) (p : Point) (ts us : List RayTerm) (ws : List CodeWall) → AreOfOrder n ws → Making n p ts us (walls_of ws) → AreRays n ws
made-rays n p ts us ws o h = record { order = o; outgoing = Every-implies _ (λ w. w.kind ≡ Outgoing) (walls_of ws) (λ w r. r.0) h.rays; reduced = h.reduced }

-- a run has the first term of its list
pub some-run : (us : List RayTerm) (d : RayTerm) (m : ℕ) → 0 < length us → ((t : RayTerm) → IsFirst t (drop m us) → dir_of t ≢ dir_of (get_or us 0 d)) → 0 < m
some-run [] d m l n = absurd (omega (arith, l))
some-run (t ∷ us) d zero l n = absurd (n t (us, refl) refl)
some-run (t ∷ us) d (suc m) l n = omega arith

pub code-length : (ts : List RayTerm) → length (code_terms ts) ≡ length ts
code-length [] = refl
code-length (t ∷ ts) = ap suc (code-length ts)

pub some-taken : (us : List RayTerm) (m : ℕ) → m ≤ length us → 0 < m → 0 < length (take m us)
some-taken us m l s = let e = length-take-le m us l in omega (arith, e, s)
