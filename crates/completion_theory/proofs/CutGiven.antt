-- Completions and stops of given walls up to order m are those of the walls cut to degree m.
use Rattle.std.proofs.Common.{◌≡◌, ℕ, zero, suc, refl, sym, ◌∙◌, ap, subst, ◌+◌, ◌≤◌, Bool, true, false, List, [], ◌∷◌, map, arith}
use Rattle.std.specs.Prelude.{Option, Some, None, cond}
use Rattle.scattering.specs.Series.{Sum}
use Rattle.scattering.specs.Wall.{Wall, Diagram, walls, cut_wall, cut_walls}
use Rattle.scattering.specs.Completion.{IsCompletion}
use Rattle.scattering.specs.ActivePoint.{is_incoming}
use Rattle.scattering.specs.Correction.{raised}
use Rattle.scattering.specs.Stops.{StopCause, PointTooLarge, WeightTooLarge, TooManyWalls, StopsAfter, IsStopAt, IsFirstStop}
use Rattle.scattering.proofs.Coefficients.{cut-cut}
use Rattle.completion_theory.proofs.LowerOrders.{cut-cuts}

pub completion-of_cut : (given : List Wall) (m n : ℕ) (e : Diagram) → n ≤ m → IsCompletion (cut_walls m given) n e → IsCompletion given n e
completion-of_cut given m n e le c = record { initial = c.initial ∙ cut-cuts n m le given; outgoing = c.outgoing; proper = c.proper; reduced = c.reduced; consistent = c.consistent }

pub completion-to_cut : (given : List Wall) (m n : ℕ) (e : Diagram) → n ≤ m → IsCompletion given n e → IsCompletion (cut_walls m given) n e
completion-to_cut given m n e le c = record { initial = c.initial ∙ sym (cut-cuts n m le given); outgoing = c.outgoing; proper = c.proper; reduced = c.reduced; consistent = c.consistent }

-- the walls of a next order of at most m
module _ (m n : ℕ) (le : n + 1 ≤ m) where
  abbrev next : Wall → Wall
  next w = cond (is_incoming w.kind) (cut_wall (n + 1) w) (cut_wall n w)

  next-cut : (w : Wall) → next (cut_wall m w) ≡ next w
  next-cut w = go (is_incoming w.kind) refl
    where
      go : (b : Bool) → is_incoming w.kind ≡ b → next (cut_wall m w) ≡ next w
      go true e = rw e (ap (λ (f : Sum). record w { function = f }) (cut-cut (n + 1) m le w.function))
      go false e = rw e (ap (λ (f : Sum). record w { function = f }) (cut-cut n m (omega (arith, le)) w.function))

  nexts-cut : (ws : List Wall) → map next (cut_walls m ws) ≡ map next ws
  nexts-cut [] = refl
  nexts-cut (w ∷ ws) = let h = next-cut w in let t = nexts-cut ws in λ i. h i ∷ t i

  raised-cut : (given : List Wall) (e : Diagram) → raised (cut_walls m given) n e ≡ raised given n e
  raised-cut given e = ap (λ (ws : List Wall). record e { initial = ws }) (nexts-cut given)

-- what stops the next order is told by the walls and by the completions of that order
stops-by : (given other : List Wall) (n : ℕ) (ws : List Wall) (stop : Option StopCause) → ((e : Diagram) → IsCompletion given (n + 1) e → IsCompletion other (n + 1) e) → StopsAfter given n ws stop → StopsAfter other n ws stop
stops-by given other n ws (Some PointTooLarge) f h = h
stops-by given other n ws (Some WeightTooLarge) f h = h
stops-by given other n ws (Some TooManyWalls) f h = (h.0, h.1, (h.2.0, f h.2.0 h.2.1, h.2.2))
stops-by given other n ws None f h = (h.0, h.1, (h.2.0, f h.2.0 h.2.1, h.2.2))

pub stop-of_cut : (given : List Wall) (m n : ℕ) (stop : Option StopCause) → n ≤ m → IsStopAt (cut_walls m given) n stop → IsStopAt given n stop
stop-of_cut given m zero stop le h = h
stop-of_cut given m (suc n) stop le h =
    let e = h.0 in
    let next : n + 1 ≤ m = omega (arith, le) in
    let low : n ≤ m = omega (arith, le) in
    let same = raised-cut m n next given e in (
      e,
      completion-of_cut given m n e low h.1,
      subst (λ (d : Diagram). StopsAfter given n (walls d) stop) same (stops-by (cut_walls m given) given n (walls (raised (cut_walls m given) n e)) stop (λ d c. completion-of_cut given m (n + 1) d next c) h.2),
    )

pub stop-to_cut : (given : List Wall) (m n : ℕ) (stop : Option StopCause) → n ≤ m → IsStopAt given n stop → IsStopAt (cut_walls m given) n stop
stop-to_cut given m zero stop le h = h
stop-to_cut given m (suc n) stop le h =
    let e = h.0 in
    let next : n + 1 ≤ m = omega (arith, le) in
    let low : n ≤ m = omega (arith, le) in
    let same = raised-cut m n next given e in (
      e,
      completion-to_cut given m n e low h.1,
      subst (λ (d : Diagram). StopsAfter (cut_walls m given) n (walls d) stop) (sym same) (stops-by given (cut_walls m given) n (walls (raised given n e)) stop (λ d c. completion-to_cut given m (n + 1) d next c) h.2),
    )

-- of the first stop
first-by : (given other : List Wall) (m k : ℕ) (stop : Option (ℕ × StopCause)) → k ≤ m → ((n : ℕ) (s : Option StopCause) → n ≤ m → IsStopAt given n s → IsStopAt other n s) → IsFirstStop given k stop → IsFirstStop other k stop
first-by given other m k None le f h = λ n low. f n None (omega (arith, le, low)) (h n low)
first-by given other m k (Some s) le f h =
    let low = h.0 in
    (low, f s.0 (Some s.1) (omega (arith, le, low)) h.1, λ n less. f n None (omega (arith, le, low, less)) (h.2 n less))

pub first_stop-of_cut : (given : List Wall) (m k : ℕ) (stop : Option (ℕ × StopCause)) → k ≤ m → IsFirstStop (cut_walls m given) k stop → IsFirstStop given k stop
first_stop-of_cut given m k stop le h = first-by (cut_walls m given) given m k stop le (λ n s. stop-of_cut given m n s) h

pub first_stop-to_cut : (given : List Wall) (m k : ℕ) (stop : Option (ℕ × StopCause)) → k ≤ m → IsFirstStop given k stop → IsFirstStop (cut_walls m given) k stop
first_stop-to_cut given m k stop le h = first-by given (cut_walls m given) m k stop le (λ n s. stop-to_cut given m n s) h
