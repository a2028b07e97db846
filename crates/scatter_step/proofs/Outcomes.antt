-- One order after another, until one is stopped.
use Rattle.std.proofs.Common.{◌≡◌, ℕ, ◌+◌, ◌<◌, ◌≤◌, refl, sym, subst, ◌∙◌, arith, add-one}
use Rattle.std.specs.Prelude.{Option, Some, None}
use native.Mathlib.Decide.{dec_le}
use Rattle.scattering.specs.Wall.{Diagram}
use Rattle.scattering.specs.Completion.{IsCompletion}
use Rattle.scattering.specs.Stops.{StopCause, IsStopAt, last_before}
use Rattle.scatter_diagram.specs.Listed.{SeenInitial}
use Rattle.scatter_diagram.specs.Stopped.{cause_of}
use Rattle.scatter_diagram.specs.declared.stop.StopCause.{StopCause as CodeCause}
use Rattle.scatter_step.specs.Completed.{SeenCompleted, IsCompleted}
use Rattle.scatter_step.specs.Orders.{IsNextCompletion, IsOutcome}
use Rattle.scatter_step.proofs.Uniqueness.{completion-is-one}

-- c is the completion of order k, and no order up to it is stopped
pub record IsReached (i : SeenInitial) (k : ℕ) (c : SeenCompleted) : Type 0 where
  pub initial : c.initial ≡ i
  pub order : c.order ≡ k
  pub completed : IsCompleted c
  pub free : (n : ℕ) → n ≤ k → IsStopAt i.lines n None

pub reached-first : (i : SeenInitial) (c : SeenCompleted) → c.initial ≡ i → c.order ≡ 0 → IsCompleted c → IsReached i 0 c
reached-first i c p q h = record {
  initial = p;
  order = q;
  completed = h;
  free = λ n l. let e : n ≡ 0 = omega (arith, l) in subst (λ (m : ℕ). IsStopAt i.lines m None) (sym e) refl;
}

-- what is said of the order after c
stop-read : (i : SeenInitial) (k : ℕ) (c : SeenCompleted) (s : Option StopCause) → IsReached i k c → IsStopAt c.initial.lines (c.order + 1) s → IsStopAt i.lines (k + 1) s
stop-read i k c s h a = subst (λ (n : ℕ). IsStopAt i.lines (n + 1) s) h.order (subst (λ (j : SeenInitial). IsStopAt j.lines (c.order + 1) s) h.initial a)

pub reached-next : (i : SeenInitial) (k : ℕ) (c d : SeenCompleted) → IsReached i k c → IsNextCompletion c d → IsCompleted d → IsStopAt c.initial.lines (c.order + 1) None → IsReached i (k + 1) d
reached-next i k c d h n g a = record {
  initial = n.0 ∙ h.initial;
  order = let q = n.1 in let r = h.order in omega (arith, q, r);
  completed = g;
  free = λ m l. go m l (dec_le m k);
}
  where
    go : (m : ℕ) → m ≤ k + 1 → Dec (m ≤ k) → IsStopAt i.lines m None
    go m l (yes p) = h.free m p
    go m l (no p) = let e : m ≡ k + 1 = omega (arith, l, p) in subst (λ (x : ℕ). IsStopAt i.lines x None) (sym e) (stop-read i k c None h a)

-- ---- outcomes

module _ (i : SeenInitial) (top k : ℕ) (c : SeenCompleted) (h : IsReached i k c) where
  completes : IsCompletion i.lines c.order c.diagram
  completes = subst (λ (j : SeenInitial). IsCompletion j.lines c.order c.diagram) h.initial h.completed.completes

  only : (e : Diagram) → IsCompletion i.lines c.order e → e ≡ c.diagram
  only e g = completion-is-one c e h.completed (subst (λ (j : SeenInitial). IsCompletion j.lines c.order e) (sym h.initial) g)

  pub outcome-whole : k ≡ top → IsOutcome i top (record { last = c; stop = None })
  outcome-whole e = record {
    initial = h.initial;
    stop = λ n l. h.free n (subst (λ (m : ℕ). n ≤ m) (sym e) l);
    order = h.order ∙ e;
    completes = completes;
    only = only;
  }

  pub outcome-stopped : k < top → (n : ℕ) (s : CodeCause) → n ≡ c.order + 1 → IsStopAt c.initial.lines (c.order + 1) (Some (cause_of s)) → IsOutcome i top (record { last = c; stop = Some (n, s) })
  outcome-stopped l n s q a = record {
    initial = h.initial;
    stop = (
      omega (arith, l, e),
      subst (λ (m : ℕ). IsStopAt i.lines m (Some (cause_of s))) (sym e) (stop-read i k c (Some (cause_of s)) h a),
      λ m b. h.free m (omega (arith, b, e)),
    );
    order = h.order ∙ subst (λ (m : ℕ). k ≡ last_before top (Some (m, cause_of s))) (sym (e ∙ add-one k)) refl;
    completes = completes;
    only = only;
  }
    where
      e : n ≡ k + 1
      e = let r = h.order in omega (arith, q, r)
