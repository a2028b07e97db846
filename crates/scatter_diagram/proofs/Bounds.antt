-- Where runs begin, wall by wall.
use Rattle.std.proofs.Common.{◌≡◌, ℕ, zero, suc, ◌+◌, ◌-◌, ◌<◌, ◌≤◌, refl, sym, ap, subst, ◌∙◌, List, [], ◌∷◌, ◌++◌, length, get_or, take, Bool, true, false, not, cond, arith, length-append}
use Rattle.std.proofs.lemmas.List.{append-nil, take_more, take_all, length-take-le, get_or-take}
use Rattle.crossing_theory.proofs.Runs.{starts, starts-more, starts-bounds, bounds-ended}
use Rattle.crossing_theory.proofs.SupportingLines.{parts-are_runs}
use Rattle.scatter_diagram.specs.declared.wall.Wall.{Wall as CodeWall}
use Rattle.scatter_diagram.specs.Shown.{wall_of}
use Rattle.scatter_diagram.specs.Ordered.{IsInLineOrder, AreRunsOf}
use Rattle.scatter_diagram.proofs.Lines.{share_line}

other-way : (b : Bool) (n m : ℕ) → n ≡ m → cond b [] (n ∷ []) ≡ cond (not b) (m ∷ []) []
other-way true n m e = refl
other-way false n m e = ap (λ k. k ∷ []) e

later : (x : CodeWall) (xs : List CodeWall) (i : ℕ) → suc i < length (x ∷ xs)
    → starts share_line (take (suc i + 1) (x ∷ xs)) ≡ starts share_line (take (suc i) (x ∷ xs)) ++ cond (not (share_line (get_or (x ∷ xs) (suc i - 1) x) (get_or (x ∷ xs) (suc i) x))) (suc i ∷ []) []
later x xs i l =
    let n : length (take i xs) ≡ i = length-take-le i xs (omega (arith, l)) in
    let before : get_or (x ∷ take i xs) (length (take i xs)) x ≡ get_or (x ∷ xs) (suc i - 1) x = ap (λ k. get_or (x ∷ take i xs) k x) n ∙ get_or-take (suc i) (x ∷ xs) i x (omega arith) ∙ ap (λ k. get_or (x ∷ xs) k x) (omega arith) in
    ap (starts share_line) (take_more (x ∷ xs) (suc i) x l)
    ∙ starts-more share_line x (take i xs) (get_or (x ∷ xs) (suc i) x) x
    ∙ ap (λ u. starts share_line (take (suc i) (x ∷ xs)) ++ cond (share_line u (get_or (x ∷ xs) (suc i) x)) [] (suc (length (take i xs)) ∷ [])) before
    ∙ ap (λ r. starts share_line (take (suc i) (x ∷ xs)) ++ r) (other-way (share_line (get_or (x ∷ xs) (suc i - 1) x) (get_or (x ∷ xs) (suc i) x)) (suc (length (take i xs))) (suc i) (ap suc n))

next-start : (ws : List CodeWall) (i : ℕ) (b : Bool) → i < length ws → (i ≡ 0 → b ≡ true) → ((w : CodeWall) → 0 < i → b ≡ not (share_line (get_or ws (i - 1) w) (get_or ws i w)))
    → starts share_line (take (i + 1) ws) ≡ starts share_line (take i ws) ++ cond b (i ∷ []) []
next-start [] i b l f g = absurd (omega (arith, l))
next-start (x ∷ xs) zero b l f g = ap (λ c. cond c (0 ∷ []) []) (sym (f refl))
next-start (x ∷ xs) (suc i) b l f g = later x xs i l ∙ ap (λ c. starts share_line (take (suc i) (x ∷ xs)) ++ cond c (suc i ∷ []) []) (sym (g x (omega arith)))

module _ (ws : List CodeWall) (i : ℕ) (b : Bool) (bs cs : List ℕ) (l : i < length ws) (f : i ≡ 0 → b ≡ true) (g : (w : CodeWall) → 0 < i → b ≡ not (share_line (get_or ws (i - 1) w) (get_or ws i w))) (h : bs ≡ starts share_line (take i ws)) where
  pub with-start : b ≡ true → cs ≡ bs ++ i ∷ [] → cs ≡ starts share_line (take (i + 1) ws)
  with-start e k = k ∙ ap (λ r. r ++ i ∷ []) h ∙ sym (next-start ws i b l f g ∙ ap (λ c. starts share_line (take i ws) ++ cond c (i ∷ []) []) e)

  pub without-start : b ≡ false → cs ≡ bs → cs ≡ starts share_line (take (i + 1) ws)
  without-start e k = k ∙ h ∙ sym (next-start ws i b l f g ∙ ap (λ c. starts share_line (take i ws) ++ cond c (i ∷ []) []) e ∙ append-nil (starts share_line (take i ws)))

pub ended : (ws : List CodeWall) (i : ℕ) (bs cs : List ℕ) → bs ≡ starts share_line (take i ws) → length ws ≤ i → cs ≡ bs ++ length ws ∷ [] → (vs : List CodeWall) → IsInLineOrder vs ws → AreRunsOf vs ws cs
ended ws i bs cs e l f vs h =
    let g : cs ≡ starts share_line ws ++ length ws ∷ [] = f ∙ ap (λ r. r ++ length ws ∷ []) (e ∙ ap (starts share_line) (take_all i ws l)) in
    subst (AreRunsOf vs ws) (sym g)
    (record {
      some = let n = length-append (starts share_line ws) (length ws ∷ []) in omega (arith, n);
      rise = bounds-ended 0 (length ws) (starts share_line ws) (starts-bounds share_line ws);
      runs = parts-are_runs wall_of (λ w. w.at.reduced.below) vs ws h;
    })
