-- The rays of corrections, collected from one point after another.
--     AddsAt c ws              ws have what the correction c adds
--     AddsUp cs rest ws        ws have what the corrections cs add before `rest`
use Rattle.std.proofs.Common.{◌≡◌, ◌≢◌, ℕ, zero, suc, ◌+◌, ◌<◌, ◌≤◌, refl, sym, subst, ap, ◌∙◌, Bool, true, false, List, [], ◌∷◌, ◌++◌, length, get_or, drop, add-one, drop-cons, arith, inl, inr}
use Rattle.std.specs.Prelude.{ℤ, pos, neg_ℤ, ◌+ℤ◌, ◌*ℤ◌, nat_abs, IsTrue}
use Rattle.std.specs.Int.{IsGcd}
use Rattle.std.proofs.lemmas.Int.{ints}
use Rattle.scattering.specs.Collections.{In, Every, EveryPair}
use Rattle.scattering.specs.Series.{Exp, Key, Sum, degree, IsMultiple}
use Rattle.scattering.specs.Plane.{Point, IsDirection, point_eq, point_before}
use Rattle.scattering.specs.Wall.{Wall, Outgoing}
use Rattle.scattering.specs.Completion.{ray_before, IsReduced}
use Rattle.scattering.specs.Correction.{IsRatio, Lie, Corrections, ratio_at, ray_coef, IsAdded}
use Rattle.scattering.proofs.Lists.{Every-implies, Every-append, Every-at, Every-from_In, pairs-append, map-append, or-first}
use Rattle.scattering.proofs.Keys.{point_eq-same}
use Rattle.scattering.proofs.Pairing.{skip-zero}
use Rattle.plane_theory.proofs.PointOrder.{before-irrefl}
use Rattle.correction_theory.proofs.MergedDiagram.{not-listed, not-origin}
use Rattle.plane_geom.specs.declared.Point.{Point as CodePoint}
use Rattle.plane_geom.specs.Shown.{point_of}
use Rattle.trunc_series.proofs.Coefficients.{add-zero}
use Rattle.scatter_diagram.specs.declared.wall.Wall.{Wall as CodeWall}
use Rattle.scatter_diagram.specs.Shown.{wall_of, walls_of}
use Rattle.scatter_diagram.specs.Listed.{AreRays}
use Rattle.ray_merge.specs.Additions.{AreAdded, corrections_of}
use Rattle.ray_merge.specs.Rays.{load, mass_along, HasNewTerms}
use Rattle.ray_merge.proofs.Steps.{ray_coef-append}
use Rattle.ray_merge.proofs.Terms.{CountsTerms, HasTerms, of-keys, all-start}
use Rattle.ray_merge.proofs.Values.{added-values}

abbrev pub AddsAt : Point × Lie → List Wall → Type 0
AddsAt c ws = (p : Point) (d : Exp) (k : Key) → IsDirection d → IsMultiple d k.exp → IsAdded (c ∷ []) p k (ray_coef ws p d k)

abbrev pub AddsUp : Corrections → Corrections → List Wall → Type 0
AddsUp cs others ws = (p : Point) (d : Exp) (k : Key) → IsDirection d → IsMultiple d k.exp → (v : ℤ) → IsAdded others p k v → IsAdded cs p k (ray_coef ws p d k +ℤ v)

-- ---- one correction

pub adds-at : (p : Point) (h : Lie) (f : Sum) (ws : List Wall) → AreAdded h f → EveryPair (λ t u. t.0 ≢ u.0) h → CountsTerms p f ws → AddsAt (p, h) ws
adds-at p h f ws a dist counts q d k id mk = go (point_eq p q) refl
  where
    go : (b : Bool) → point_eq p q ≡ b → IsAdded ((p, h) ∷ []) q k (ray_coef ws q d k)
    go true e =
        rw e (subst (λ (v : ℤ). (g : ℕ) × IsGcd (nat_abs k.exp.a) (nat_abs k.exp.b) g × (v *ℤ (ratio_at h k).den ≡ neg_ℤ (pos g *ℤ (ratio_at h k).num))) (sym (counts q d k id mk ∙ rw e refl)) (added-values h f a dist k (not-origin d id k.exp mk)))
    go false e = rw e (counts q d k id mk ∙ rw e refl)

pub new-terms : (n : ℕ) (p : Point) (l : Lie) (f : Sum) (ws : List Wall) → HasTerms n p f ws → Every (λ t. degree t.0 ≡ n) f → AreAdded l f → Every (λ t. IsRatio t.1) l → Every (HasNewTerms n ((p, l) ∷ [])) ws
new-terms n p l f ws h d a e =
    Every-from_In _ ws (λ w i. record {
      degrees = Every-at _ ws w (of-keys (λ k. degree k ≡ n) n p f ws h d) i;
      source = ((p, l), inl refl, Every-at (λ w. w.at ≡ p) ws w (all-start n p f ws h) i, e, (f, a, Every-at (λ w. load n w ≤ mass_along n f w.dir) ws w h.loads i));
    })

-- what one of the corrections adds
pub new-among : (n : ℕ) (c : Point × Lie) (cs : Corrections) (ws : List Wall) → In c cs → Every (HasNewTerms n (c ∷ [])) ws → Every (HasNewTerms n cs) ws
new-among n c cs ws i h = Every-implies (HasNewTerms n (c ∷ [])) (HasNewTerms n cs) ws (λ w t. record { degrees = t.degrees; source = among w t.source }) h
  where
    Source : Corrections → Wall → Type 0
    Source bs w = (b : Point × Lie) × In b bs × (w.at ≡ b.0) × Every (λ t. IsRatio t.1) b.1 × ((f : Sum) × AreAdded b.1 f × (load n w ≤ mass_along n f w.dir))

    among : (w : Wall) → Source (c ∷ []) w → Source cs w
    among w s = (s.0, only s.0 s.1, s.2, s.3, s.4)
      where
        only : (b : Point × Lie) → In b (c ∷ []) → In b cs
        only b (inl e) = subst (λ (x : Point × Lie). In x cs) (sym e) i
        only b (inr n) = absurd n

-- ---- one correction after another

pub adds-more : (cs : Corrections) (c : Point × Lie) (others : Corrections) (ws us : List Wall) → Every (λ b. IsTrue (point_before c.0 b.0)) others → AddsUp cs (c ∷ others) ws → AddsAt c us → AddsUp cs others (ws ++ us)
adds-more cs c others ws us sorted h own p d k id mk v a =
    subst (IsAdded cs p k) (sym (ap (λ x. x +ℤ v) (ray_coef-append ws us p d k) ∙ moved (ray_coef ws p d k) (ray_coef us p d k) v)) (h p d k id mk (ray_coef us p d k +ℤ v) (first (point_eq c.0 p) refl (own p d k id mk)))
  where
    moved : (x y z : ℤ) → (x +ℤ y) +ℤ z ≡ x +ℤ (y +ℤ z)
    moved x y z = omega (arith, ints)

    apart : (b : Point × Lie) → c.0 ≡ p → IsTrue (point_before c.0 b.0) → point_eq b.0 p ≡ false
    apart b e l = go (point_eq b.0 p) refl
      where
        go : (x : Bool) → point_eq b.0 p ≡ x → point_eq b.0 p ≡ false
        go true f = absurd (before-irrefl c.0 (subst (λ (q : Point). IsTrue (point_before c.0 q)) (point_eq-same b.0 p f ∙ sym e) l))
        go false f = f

    first : (b : Bool) → point_eq c.0 p ≡ b → IsAdded (c ∷ []) p k (ray_coef us p d k) → IsAdded (c ∷ others) p k (ray_coef us p d k +ℤ v)
    first true e o =
        let z : v ≡ pos 0 = not-listed others p k v (Every-implies _ (λ b. point_eq b.0 p ≡ false) others (λ b l. apart b (point_eq-same c.0 p e) l) sorted) a in
        let x : ray_coef us p d k +ℤ v ≡ ray_coef us p d k = ap (λ y. ray_coef us p d k +ℤ y) z ∙ add-zero (ray_coef us p d k) in
        rw e (subst (λ (y : ℤ). (g : ℕ) × IsGcd (nat_abs k.exp.a) (nat_abs k.exp.b) g × (y *ℤ (ratio_at c.1 k).den ≡ neg_ℤ (pos g *ℤ (ratio_at c.1 k).num))) (sym x) (rw e at o))
    first false e o =
        let z : ray_coef us p d k ≡ pos 0 = rw e at o in
        rw e (subst (IsAdded others p k) (sym (ap (λ y. y +ℤ v) z ∙ skip-zero v)) a)

pub adds-all : (cs : Corrections) (ws : List Wall) → AddsUp cs [] ws → (p : Point) (d : Exp) (k : Key) → IsDirection d → IsMultiple d k.exp → IsAdded cs p k (ray_coef ws p d k)
adds-all cs ws h p d k id mk = subst (IsAdded cs p k) (add-zero (ray_coef ws p d k)) (h p d k id mk (pos 0) refl)

-- ---- the order of points

abbrev pub AreBefore : List Wall → Corrections → Type 0
AreBefore ws cs = Every (λ w. Every (λ c. IsTrue (point_before w.at c.0)) cs) ws

pub before-others : (c : Point × Lie) (others : Corrections) (ws us : List Wall) → AreBefore ws (c ∷ others) → Every (λ w. w.at ≡ c.0) us → Every (λ b. IsTrue (point_before c.0 b.0)) others → AreBefore (ws ++ us) others
before-others c others ws us h e s =
    Every-append _ ws us (Every-implies _ (λ w. Every (λ b. IsTrue (point_before w.at b.0)) others) ws (λ w q. q.1) h)
    (Every-implies (λ w. w.at ≡ c.0) (λ w. Every (λ b. IsTrue (point_before w.at b.0)) others) us (λ w q. subst (λ (p : Point). Every (λ b. IsTrue (point_before p b.0)) others) (sym q) s) e)

rises-more : (c : Point × Lie) (others : Corrections) (ws us : List Wall) → AreBefore ws (c ∷ others) → Every (λ w. w.at ≡ c.0) us → IsReduced ws → IsReduced us → IsReduced (ws ++ us)
rises-more c others ws us h e rw' ru = record {
  live = Every-append _ ws us rw'.live ru.live;
  rises = pairs-append _ ws us rw'.rises ru.rises
      (Every-implies _ (λ w. Every (λ u. IsTrue (ray_before w u)) us) ws
      (λ w q. Every-implies (λ u. u.at ≡ c.0) (λ u. IsTrue (ray_before w u)) us (λ u x. or-first (point_before w.at u.at) _ (subst (λ (p : Point). IsTrue (point_before w.at p)) (sym x) q.0)) e) h);
}

-- ---- the program's lists

pub corrections-drop : (cs : List (CodePoint × Lie)) (i : ℕ) (c : CodePoint × Lie) → i < length cs → c ≡ get_or cs i c → corrections_of (drop i cs) ≡ (point_of c.0, c.1) ∷ corrections_of (drop (i + 1) cs)
corrections-drop cs i c h e = rw (add-one, drop-cons cs i c) (ap (λ (b : CodePoint × Lie). (point_of b.0, b.1) ∷ corrections_of (drop (suc i) cs)) (sym e))

pub sorted-after : (cs : List (CodePoint × Lie)) (i : ℕ) (c : CodePoint × Lie) → i < length cs → c ≡ get_or cs i c → EveryPair (λ b d. IsTrue (point_before b.0 d.0)) (corrections_of cs) → Every (λ d. IsTrue (point_before (point_of c.0) d.0)) (corrections_of (drop (i + 1) cs))
sorted-after [] i c l e s = absurd (omega (arith, l))
sorted-after (b ∷ cs) zero c l e s = subst (λ (x : CodePoint × Lie). Every (λ d. IsTrue (point_before (point_of x.0) d.0)) (corrections_of cs)) (sym e) s.0
sorted-after (b ∷ cs) (suc i) c l e s = rw (add-one) (let r = sorted-after cs i c (omega (arith, l)) e s.1 in rw (add-one) at r)

pub correction-in : (cs : List (CodePoint × Lie)) (i : ℕ) (c : CodePoint × Lie) → i < length cs → c ≡ get_or cs i c → In (point_of c.0, c.1) (corrections_of cs)
correction-in [] i c l e = absurd (omega (arith, l))
correction-in (b ∷ cs) zero c l e = inl (λ i. (point_of (e i).0, (e i).1))
correction-in (b ∷ cs) (suc i) c l e = inr (correction-in cs i c (omega (arith, l)) e)

pub rays-more : (n : ℕ) (out new after : List CodeWall) (c : Point × Lie) (others : Corrections) → after ≡ out ++ new → AreRays n out → AreRays n new → AreBefore (walls_of out) (c ∷ others) → Every (λ w. w.at ≡ c.0) (walls_of new) → AreRays n after
rays-more n out new after c others e a b h s = subst (AreRays n) (sym e) (record {
  order = Every-append _ out new a.order b.order;
  outgoing = subst (Every (λ r. r.kind ≡ Outgoing)) (sym (map-append wall_of out new)) (Every-append _ (walls_of out) (walls_of new) a.outgoing b.outgoing);
  reduced = subst IsReduced (sym (map-append wall_of out new)) (rises-more c others (walls_of out) (walls_of new) h s a.reduced b.reduced);
})
