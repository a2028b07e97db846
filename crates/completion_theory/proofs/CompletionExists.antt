-- Each order has a completion: order 0 has one, and each gives the next.
use Rattle.std.proofs.Common.{◌≡◌, ℕ, zero, suc, subst, List, ◌≤◌, ◌+◌, arith, add-one}
use Rattle.scattering.specs.Collections.{Every}
use Rattle.scattering.specs.Wall.{Wall, Diagram, IsWall, walls}
use Rattle.scattering.specs.Completion.{IsCompletion}
use Rattle.scattering.specs.Correction.{Corrections, IsWhole, AreCorrections, AreMergeable, raised}
use Rattle.scattering.proofs.Lists.{Every-implies}
use Rattle.correction_theory.proofs.MergedDiagram.{merged_diagram_exists}
use Rattle.completion_theory.proofs.OrderZero.{starts}
use Rattle.completion_theory.proofs.NextOrder.{step_completes}
use Rattle.completion_theory.proofs.AllCorrections.{corrections_exist}
use Rattle.completion_theory.specs.Laws.{CompletionExists}

-- a wall of a lower order is one of a higher
pub raise-wall : (n k : ℕ) → n ≤ k → (w : Wall) → IsWall n w → IsWall k w
raise-wall n k le w h = record {
  point = h.point;
  direction = h.direction;
  function = record {
    series = record { rises = h.function.series.rises; nonzero = h.function.series.nonzero; low = Every-implies _ _ w.function (λ t l. omega (arith, l, le)) h.function.series.low };
    constant = h.function.constant;
    others = h.function.others;
  };
}

-- the corrections at all active points can be merged
pub mergeable : (ws : List Wall) (n : ℕ) (cs : Corrections) → AreCorrections ws n cs → Every (λ c. Every IsWhole c.1) cs → AreMergeable n cs
mergeable ws n cs h w = record {
  points = Every-implies _ _ cs (λ c q. q.0) h.each;
  sorted = h.sorted;
  distinct = Every-implies _ _ cs (λ c q. q.2.distinct) h.each;
  degrees = Every-implies _ _ cs (λ c q. q.2.degrees) h.each;
  whole = w;
}

pub completion_exists : CompletionExists
completion_exists given zero m le hg hk = (_, starts given m hg)
completion_exists given (suc n) m le hg hk =
    let e = completion_exists given n m (omega (arith, le)) hg hk in
    next e.0 e.1 (n + 1) (add-one n) le
  where
    next : (e : Diagram) → IsCompletion given n e → (j : ℕ) → j ≡ suc n → suc n ≤ m → (e : Diagram) × IsCompletion given (suc n) e
    next e c j q le =
        let l : n + 1 ≤ m = omega (arith, le) in
        let cs = corrections_exist given n m e l hg hk c in
        let d = merged_diagram_exists given (n + 1) e cs.0 (omega arith) c.outgoing (Every-implies _ _ e.rays (raise-wall n (n + 1) (omega arith)) c.proper) c.reduced
        (mergeable (walls (raised given n e)) (n + 1) cs.0 cs.1 cs.2) in
        (d.0, subst (λ k. IsCompletion given k d.0) (add-one n) (step_completes given n m e d.0 cs.0 l hg hk c cs.1 d.1))
