-- The tails below a node, from those below each next bend that m is still in reach of.
use Rattle.std.proofs.Common.{◌≡◌, ◌≢◌, ℕ, refl, sym, ap, subst, ◌∙◌, ◌+◌, inl, inr, Bool, true, false, List, [], ◌∷◌, ◌++◌, map, cond}
use Rattle.std.specs.Prelude.{flat_map}
use Rattle.scattering.specs.Collections.{In, Every, Distinct, Lists}
use Rattle.scattering.specs.Series.{Exp, exp_sub, degree, key_eq}
use Rattle.scattering.specs.Plane.{Point, point_eq}
use Rattle.scattering.specs.Wall.{Wall}
use Rattle.scattering.specs.BrokenLine.{Bend}
use Rattle.scattering.specs.Tail.{IsInReach, Extends, IsTraced, bend_eq}
use Rattle.scattering.proofs.Lists.{Every-implies, and-left, and-right}
use Rattle.scattering.proofs.Keys.{point_eq-same, point_eq-refl, key_eq-same, key_eq-refl}
use Rattle.broken_line_theory.specs.TailValue.{Parts, all_below}
use Rattle.broken_line_theory.proofs.ListedTails.{traced-reach}
use Rattle.broken_line_theory.proofs.Listings.{Lists-joined}
use Rattle.broken_line_theory.proofs.TailsBelow.{BeginsWith, begin-same, begin-listed}

pub same-bend : (b c : Bend) → bend_eq b c ≡ true → b ≡ c
same-bend b c e = λ i. record {
  at = point_eq-same b.at c.at (and-left (point_eq b.at c.at) (key_eq b.key c.key) e) i;
  key = key_eq-same b.key c.key (and-right (point_eq b.at c.at) (key_eq b.key c.key) e) i;
}

pub bend_eq-refl : (b : Bend) → bend_eq b b ≡ true
bend_eq-refl b = rw (point_eq-refl b.at, key_eq-refl b.key) refl

-- what follows on a bend
abbrev follows : Parts → Bend → List (List Bend)
follows [] c = []
follows (q ∷ ps) c = cond (bend_eq q.0 c) q.1 (follows ps c)

follows-first : (q : Bend × List (List Bend)) (ps : Parts) → follows (q ∷ ps) q.0 ≡ q.1
follows-first q ps = rw (bend_eq-refl q.0) refl

follows-other : (q : Bend × List (List Bend)) (ps : Parts) (c : Bend) → q.0 ≢ c → follows (q ∷ ps) c ≡ follows ps c
follows-other q ps c n = go (bend_eq q.0 c) refl
  where
    go : (b : Bool) → bend_eq q.0 c ≡ b → cond b q.1 (follows ps c) ≡ follows ps c
    go true e = absurd (n (same-bend q.0 c e))
    go false e = refl

flat-same : {A B : Type 0} (f g : A → List B) (xs : List A) → Every (λ x. f x ≡ g x) xs → flat_map f xs ≡ flat_map g xs
flat-same f g [] h = refl
flat-same f g (x ∷ xs) h = ap (λ ys. ys ++ flat_map f xs) h.0 ∙ ap (λ ys. g x ++ ys) (flat-same f g xs h.1)

abbrev firsts : Parts → List Bend
firsts ps = map (λ q. q.0) ps

flat-follows : (ps : Parts) → Distinct (firsts ps) → flat_map (λ c. map (λ ds. c ∷ ds) (follows ps c)) (firsts ps) ≡ flat_map (λ q. map (λ ds. q.0 ∷ ds) q.1) ps
flat-follows [] d = refl
flat-follows (q ∷ ps) d =
    ap (λ ls. map (λ ds. q.0 ∷ ds) ls ++ flat_map (λ c. map (λ ds. c ∷ ds) (follows (q ∷ ps) c)) (firsts ps)) (follows-first q ps)
    ∙ ap (λ ls. map (λ ds. q.0 ∷ ds) q.1 ++ ls)
    (flat-same (λ c. map (λ ds. c ∷ ds) (follows (q ∷ ps) c)) (λ c. map (λ ds. c ∷ ds) (follows ps c)) (firsts ps)
    (Every-implies (λ c. q.0 ≢ c) (λ c. map (λ ds. c ∷ ds) (follows (q ∷ ps) c) ≡ map (λ ds. c ∷ ds) (follows ps c)) (firsts ps)
    (λ c n. ap (map (λ ds. c ∷ ds)) (follows-other q ps c n)) d.0)
    ∙ flat-follows ps d.1)

every-follows : (R : Bend → List (List Bend) → Type 0) (ps : Parts) → Distinct (firsts ps) → Every (λ q. R q.0 q.1) ps → Every (λ c. R c (follows ps c)) (firsts ps)
every-follows R [] d h = tt
every-follows R (q ∷ ps) d h = (
  subst (R q.0) (sym (follows-first q ps)) h.0,
  both (firsts ps) d.0 (every-follows R ps d.1 h.1),
)
  where
    both : (cs : List Bend) → Every (λ c. q.0 ≢ c) cs → Every (λ c. R c (follows ps c)) cs → Every (λ c. R c (follows (q ∷ ps) c)) cs
    both [] n k = tt
    both (c ∷ cs) n k = (subst (R c) (sym (follows-other q ps c n.0)) k.0, both cs n.1 k.1)

module _ (ws : List Wall) (b : ℕ) (m : Exp) where
  -- a next bend, that m is still in reach of
  abbrev pub GoesOn : Point → Exp → ℕ → Bend → Type 0
  GoesOn p x used c = Extends ws b p x c × IsInReach ws b m (exp_sub x c.key.exp) (used + degree c.key)

  abbrev pub AreFollowed : Exp → ℕ → Parts → Type 0
  AreFollowed x used ps = Every (λ q. Lists (IsTraced ws b m q.0.at (exp_sub x q.0.key.exp) (used + degree q.0.key)) q.1) ps

  pub parts-below : (p : Point) (x : Exp) (used : ℕ) (ps : Parts) → IsInReach ws b m x used → Lists (GoesOn p x used) (firsts ps) → AreFollowed x used ps
      → Lists (IsTraced ws b m p x used) (all_below ps)
  parts-below p x used ps r l h = subst (λ ls. Lists (IsTraced ws b m p x used) ([] ∷ ls)) (flat-follows ps l.once) record {
    each = (r, Every-implies _ (IsTraced ws b m p x used) _ (λ ds k. subst (IsTraced ws b m p x used) (sym k.2.2) (r, k.1.0, k.2.1)) j.each);
    all = all;
    once = (Every-implies _ (λ ds. [] ≢ ds) _ (λ ds k e. let f = k.2.2 in cc) j.each, j.once);
  }
    where
      rest : Bend → List (List Bend)
      rest c = follows ps c

      j : Lists (λ ds. (c : Bend) × GoesOn p x used c × BeginsWith ws b m x used c ds) (flat_map (λ c. map (λ ds. c ∷ ds) (rest c)) (firsts ps))
      j =
          Lists-joined (BeginsWith ws b m x used) (λ c. map (λ ds. c ∷ ds) (rest c)) (begin-same ws b m x used) (GoesOn p x used) (firsts ps) l
          (every-follows (λ c ls. Lists (BeginsWith ws b m x used c) (map (λ ds. c ∷ ds) ls)) ps l.once
          (Every-implies (λ q. Lists (IsTraced ws b m q.0.at (exp_sub x q.0.key.exp) (used + degree q.0.key)) q.1) (λ q. Lists (BeginsWith ws b m x used q.0) (map (λ ds. q.0 ∷ ds) q.1)) ps
          (λ q k. begin-listed ws b m x used q.0 q.1 k) h))

      all : (ds : List Bend) → IsTraced ws b m p x used ds → In ds ([] ∷ flat_map (λ c. map (λ ds. c ∷ ds) (rest c)) (firsts ps))
      all [] k = inl refl
      all (d ∷ ds) k = inr (j.all (d ∷ ds) (d, (k.1, traced-reach ws b m d.at (exp_sub x d.key.exp) (used + degree d.key) ds k.2), (ds, k.2, refl)))
