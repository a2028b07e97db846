-- The order of tails, where one begins another and where neither does.
use Rattle.std.proofs.Common.{◌≡◌, refl, sym, subst, ◌∙◌, ◌⊎◌, inl, inr, true, List, [], ◌∷◌, ◌++◌}
use Rattle.std.specs.Prelude.{IsTrue, ◌&&◌}
use Rattle.scattering.specs.Series.{Exp, exp_eq, exp_before, key_before}
use Rattle.scattering.specs.Plane.{point_eq, point_before}
use Rattle.scattering.specs.BrokenLine.{Bend}
use Rattle.scattering.specs.Tail.{Tail, bend_before, bend_eq, bends_before, tail_before}
use Rattle.scattering.proofs.Lists.{and-in, and-left, and-right, or-first, or-second, or-out}
use Rattle.scattering.proofs.Keys.{exp_eq-refl}
use Rattle.scattering.proofs.KeyOrder.{key_before-irrefl}
use Rattle.scattering.proofs.StrictOrders.{exp_before-asym}
use Rattle.plane_theory.proofs.PointOrder.{before-irrefl}
use Rattle.broken_line_theory.proofs.PartsBelow.{bend_eq-refl}
use Rattle.broken_lines.specs.Tracing.{BeginsLike, Part, IsApart}

-- ---- bends

part-before : (bs cs : List Bend) → Part bs cs → bends_before bs cs ≡ true
part-before [] cs h = absurd h
part-before (b ∷ bs) [] h = absurd h
part-before (b ∷ bs) (c ∷ cs) (inl h) = or-first (bend_before b c) (bend_eq b c && bends_before bs cs) h
part-before (b ∷ bs) (c ∷ cs) (inr h) = or-second (bend_before b c) (bend_eq b c && bends_before bs cs) (and-in (bend_eq b c) (bends_before bs cs) (subst (λ (d : Bend). bend_eq b d ≡ true) h.0 (bend_eq-refl b)) (part-before bs cs h.1))

part-longer : (bs ds cs es : List Bend) → Part bs cs → Part (bs ++ ds) (cs ++ es)
part-longer [] ds cs es h = absurd h
part-longer (b ∷ bs) ds [] es h = absurd h
part-longer (b ∷ bs) ds (c ∷ cs) es (inl h) = inl h
part-longer (b ∷ bs) ds (c ∷ cs) es (inr h) = inr (h.0, part-longer bs ds cs es h.1)

-- one more bend on each side
pub part-children : (bs : List Bend) (c d : Bend) → IsTrue (bend_before c d) → Part (bs ++ c ∷ []) (bs ++ d ∷ [])
part-children [] c d h = inl h
part-children (b ∷ bs) c d h = inr (refl, part-children bs c d h)

-- a list is before those that it begins
begins-before : (bs : List Bend) (c : Bend) (cs : List Bend) → bends_before bs (bs ++ c ∷ cs) ≡ true
begins-before [] c cs = refl
begins-before (b ∷ bs) c cs = or-second (bend_before b b) (bend_eq b b && bends_before bs (bs ++ c ∷ cs)) (and-in (bend_eq b b) (bends_before bs (bs ++ c ∷ cs)) (bend_eq-refl b) (begins-before bs c cs))

-- and what is before a list is before those that it begins
before-longer : (bs cs ds : List Bend) → bends_before bs cs ≡ true → bends_before bs (cs ++ ds) ≡ true
before-longer [] [] ds h = absurd (cc)
before-longer (b ∷ bs) [] ds h = absurd (cc)
before-longer [] (c ∷ cs) ds h = refl
before-longer (b ∷ bs) (c ∷ cs) ds h = go (before-longer bs cs ds) (or-out (bend_before b c) (bend_eq b c && bends_before bs cs) h)
  where
    go : (bends_before bs cs ≡ true → bends_before bs (cs ++ ds) ≡ true) → (bend_before b c ≡ true) ⊎ ((bend_eq b c && bends_before bs cs) ≡ true) → bends_before (b ∷ bs) (c ∷ cs ++ ds) ≡ true
    go more (inl e) = or-first (bend_before b c) (bend_eq b c && bends_before bs (cs ++ ds)) e
    go more (inr e) =
        or-second (bend_before b c) (bend_eq b c && bends_before bs (cs ++ ds))
        (and-in (bend_eq b c) (bends_before bs (cs ++ ds)) (and-left (bend_eq b c) (bends_before bs cs) e) (more (and-right (bend_eq b c) (bends_before bs cs) e)))

-- ---- nothing is before itself

bend-irrefl : (c : Bend) → bend_before c c ≡ true → ⊥
bend-irrefl c h = go (or-out (point_before c.at c.at) (point_eq c.at c.at && key_before c.key c.key) h)
  where
    go : (point_before c.at c.at ≡ true) ⊎ ((point_eq c.at c.at && key_before c.key c.key) ≡ true) → ⊥
    go (inl e) = before-irrefl c.at e
    go (inr e) = let t = and-right (point_eq c.at c.at) (key_before c.key c.key) e in let f = key_before-irrefl c.key in cc

bends-irrefl : (bs : List Bend) → bends_before bs bs ≡ true → ⊥
bends-irrefl [] h = cc
bends-irrefl (b ∷ bs) h = go (bends-irrefl bs) (or-out (bend_before b b) (bend_eq b b && bends_before bs bs) h)
  where
    go : (bends_before bs bs ≡ true → ⊥) → (bend_before b b ≡ true) ⊎ ((bend_eq b b && bends_before bs bs) ≡ true) → ⊥
    go less (inl e) = bend-irrefl b e
    go less (inr e) = less (and-right (bend_eq b b) (bends_before bs bs) e)

pub tail-irrefl : (t : Tail) → IsTrue (tail_before t t) → ⊥
tail-irrefl t h = go (or-out (exp_before t.root t.root) (exp_eq t.root t.root && bends_before t.bends t.bends) h)
  where
    go : (exp_before t.root t.root ≡ true) ⊎ ((exp_eq t.root t.root && bends_before t.bends t.bends) ≡ true) → ⊥
    go (inl e) = exp_before-asym t.root t.root e e
    go (inr e) = bends-irrefl t.bends (and-right (exp_eq t.root t.root) (bends_before t.bends t.bends) e)

-- ---- tails

rooted : (s t : Tail) → s.root ≡ t.root → bends_before s.bends t.bends ≡ true → IsTrue (tail_before s t)
rooted s t e h =
    or-second (exp_before s.root t.root) (exp_eq s.root t.root && bends_before s.bends t.bends)
    (and-in (exp_eq s.root t.root) (bends_before s.bends t.bends) (subst (λ (u : Exp). exp_eq s.root u ≡ true) e (exp_eq-refl s.root)) h)

pub apart-before : (s t : Tail) → IsApart s t → IsTrue (tail_before s t)
apart-before s t (inl e) = or-first (exp_before s.root t.root) (exp_eq s.root t.root && bends_before s.bends t.bends) e
apart-before s t (inr h) = rooted s t h.0 (part-before s.bends t.bends h.1)

pub apart-longer : (s t u v : Tail) → IsApart s t → BeginsLike s u → BeginsLike t v → IsApart u v
apart-longer s t u v (inl e) h k = inl (subst (λ (r : Exp). IsTrue (exp_before u.root r)) k.0 (subst (λ (r : Exp). IsTrue (exp_before r t.root)) h.0 e))
apart-longer s t u v (inr e) h k =
    inr (sym h.0 ∙ e.0 ∙ k.0, subst (λ (cs : List Bend). Part u.bends cs) (sym k.1.1) (subst (λ (bs : List Bend). Part bs (t.bends ++ k.1.0)) (sym h.1.1) (part-longer s.bends h.1.0 t.bends k.1.0 e.1)))

pub below-before : (t : Tail) (c : Bend) (cs : List Bend) → IsTrue (tail_before t record { root = t.root; bends = t.bends ++ c ∷ cs })
below-before t c cs = rooted t record { root = t.root; bends = t.bends ++ c ∷ cs } refl (begins-before t.bends c cs)

pub before-below : (s t u : Tail) → IsTrue (tail_before s t) → BeginsLike t u → IsTrue (tail_before s u)
before-below s t u h k = go (or-out (exp_before s.root t.root) (exp_eq s.root t.root && bends_before s.bends t.bends) h)
  where
    go : (exp_before s.root t.root ≡ true) ⊎ ((exp_eq s.root t.root && bends_before s.bends t.bends) ≡ true) → IsTrue (tail_before s u)
    go (inl e) = or-first (exp_before s.root u.root) (exp_eq s.root u.root && bends_before s.bends u.bends) (subst (λ (r : Exp). exp_before s.root r ≡ true) k.0 e)
    go (inr e) =
        or-second (exp_before s.root u.root) (exp_eq s.root u.root && bends_before s.bends u.bends)
        (and-in (exp_eq s.root u.root) (bends_before s.bends u.bends)
        (subst (λ (r : Exp). exp_eq s.root r ≡ true) k.0 (and-left (exp_eq s.root t.root) (bends_before s.bends t.bends) e))
        (subst (λ (cs : List Bend). bends_before s.bends cs ≡ true) (sym k.1.1) (before-longer s.bends t.bends k.1.0 (and-right (exp_eq s.root t.root) (bends_before s.bends t.bends) e))))
