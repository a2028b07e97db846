-- Words and bytes have one outcome: one status, and one text where the words name no session.
use Rattle.std.proofs.Common.{◌≡◌, ℕ, zero, suc, refl, sym, ◌∙◌, ap, subst, ◌≤◌, ◌<◌, ◌⊎◌, inl, inr, List, length, arith}
use Rattle.std.specs.Prelude.{pos, Option, Some, None, IfSome}
use Rattle.limits.specs.Limits.{highest_order, most_bytes}
use Rattle.scattering.specs.Collections.{Every}
use Rattle.scattering.specs.Wall.{Wall, IsWall, Diagram, walls, cut_walls}
use Rattle.scattering.specs.Completion.{IsCompletion}
use Rattle.scattering.specs.Stops.{StopCause, IsFirstStop, last_before}
use Rattle.scattering.proofs.Lists.{Every-append}
use Rattle.completion_theory.proofs.LowerOrders.{every-wall-cut, cut-cuts}
use Rattle.completion_theory.proofs.UniqueCompletion.{completion_is_unique}
use Rattle.completion_theory.proofs.UniqueStop.{first_stop_is_unique}
use Rattle.completion_theory.proofs.CutGiven.{completion-to_cut, first_stop-to_cut}
use Rattle.scatter_diagram.specs.declared.stop.StopCause.{StopCause as CodeCause}
use Rattle.scatter_diagram.specs.declared.stop.StopCause.TheVariants as code
use Rattle.scatter_diagram.specs.Stopped.{cause_of, stop_of}
use Rattle.scatter_text.specs.declared.file.LineRow.{LineRow}
use Rattle.scatter_text.specs.declared.file.AskRow.{AskRow}
use Rattle.scatter_text.specs.declared.file.TextFile.{TextFile}
use Rattle.scatter_text.specs.declared.fault.LimitKind.{LimitKind}
use Rattle.scatter_text.specs.declared.fault.LimitKind.TheVariants.{Bytes}
use Rattle.scatter_text.specs.declared.fault.TextKind.{TextKind}
use Rattle.scatter_text.specs.Limits.{first_limit, limit_by, IsWithinLimits}
use Rattle.scatter_text.proofs.WithinLimits.{within-first-limit}
use Rattle.scatter_text.proofs.InitialLines.{given-cut}
use Rattle.scatter_text.proofs.OneDiagramText.{walls-one}
use Rattle.scatter_json.specs.declared.fault.JsonKind.{JsonKind}
use Rattle.scatter_run.specs.declared.form.Form.{Form}
use Rattle.scatter_run.specs.declared.form.Form.TheVariants as form
use Rattle.scatter_run.specs.Form.{IsFileIn, IsBadTextIn, IsBadJsonIn, IsPrintedIn}
use Rattle.scatter_run.proofs.OneForm.{file-one, no-bad_text, no-bad_json, bad_text-one, bad_json-one, bad-one, printed-one}
use Rattle.scatter_run.specs.declared.words.Job.{Job}
use Rattle.scatter_run.specs.declared.words.Job.TheVariants.{Complete, Session, Generate}
use Rattle.scatter_run.specs.declared.status.Status.{Status}
use Rattle.scatter_run.specs.declared.status.Status.TheVariants.{Done, Words, Text, Json, Limit, Stopped, ReadFault, WriteFault, Memory}
use Rattle.scatter_run.specs.Words.{AreWordsOf, NameNoJob, NameNoSession}
use Rattle.scatter_run.specs.Outcome.{IsOutcomeIn, IsGenerateOutcome, IsJobOutcome, IsRunOutcome, IsVerdict, HasPrinted, IsLimited as IsLimitOf, PassesLimit, ends_with, bad_text, bad_json_text, limit_fault_text, words_fault_text}
use Rattle.scatter_run.specs.Completed.{IsStopOf, IsLastCompletion, IsCompletedText, IsSummary}
use Rattle.scatter_run.specs.Held.{IsSessionText}
use Rattle.scatter_run.specs.Generated.{generated_order, summary_text}
use Rattle.scatter_run.specs.Promise.{IsOnlyOutcome, HasWritten}
use Rattle.scatter_run.specs.Writing.{IsWritten}
use Rattle.scatter_run.proofs.GeneratedFile.{file_of, file-within}
use Rattle.scatter_run.proofs.Promises.{none-some, outcome-same, session-stops}

-- ---- what is completed

pub last-low : (given : List Wall) (k : ℕ) (stop : Option (ℕ × StopCause)) → IsFirstStop given k stop → last_before k stop ≤ k
last-low given k None h = omega arith
last-low given k (Some (zero, c)) h = omega arith
last-low given k (Some (suc n, c)) h = let l = h.0 in omega (arith, l)

record Same (stop stop' : Option (ℕ × StopCause)) (e e' : Diagram) : Type 0 where
  stops : stop ≡ stop'
  diagrams : e ≡ e'

-- of one list of walls
module _ (given : List Wall) (order : ℕ) (low : order ≤ highest_order) (proper : Every (IsWall highest_order) (cut_walls highest_order given)) where
  diagram-walls : (n : ℕ) (e : Diagram) → n ≤ highest_order → IsCompletion given n e → Every (IsWall n) (walls e)
  diagram-walls n e le c =
      Every-append (IsWall n) e.initial e.rays
      (subst (Every (IsWall n)) (cut-cuts n highest_order le given ∙ sym c.initial) (every-wall-cut n highest_order (cut_walls highest_order given) proper)) c.proper

  stop-same : (stop stop' : Option (ℕ × StopCause)) → IsFirstStop given order stop → IsFirstStop given order stop' → stop ≡ stop'
  stop-same stop stop' f f' =
      first_stop_is_unique (cut_walls highest_order given) order highest_order stop stop' low proper (first_stop-to_cut given highest_order order stop low f) (first_stop-to_cut given highest_order order stop' low f')

  same : (stop stop' : Option (ℕ × StopCause)) (e e' : Diagram) → IsFirstStop given order stop → IsFirstStop given order stop'
      → IsCompletion given (last_before order stop) e → IsCompletion given (last_before order stop') e' → Same stop stop' e e'
  same stop stop' e e' f f' c c' =
      let s : stop ≡ stop' = stop-same stop stop' f f' in
      let n = last_before order stop in
      let le : last_before order stop ≤ highest_order = let l = last-low given order stop f in omega (arith, l, low) in
      let d : IsCompletion given n e' = subst (λ (x : Option (ℕ × StopCause)). IsCompletion given (last_before order x) e') (sym s) c' in
      record {
        stops = s;
        diagrams = completion_is_unique (cut_walls highest_order given) n highest_order e e' le proper (completion-to_cut given highest_order n e le c) (completion-to_cut given highest_order n e' le d);
      }

-- of the lines of a file
module _ (file : TextFile) (order : ℕ) (low : order ≤ highest_order) (within : IsWithinLimits file) where
  last-one : (stop stop' : Option (ℕ × StopCause)) (e e' : Diagram) → IsLastCompletion file.lines order stop e → IsLastCompletion file.lines order stop' e' → Same stop stop' e e'
  last-one stop stop' e e' p q =
      let w : p.given ≡ q.given = walls-one file.vars file.lines p.given q.given file.valid p.lines q.lines in
      same p.given order low (given-cut file p.given within p.lines) stop stop' e e' p.first
      (subst (λ (ws : List Wall). IsFirstStop ws order stop') (sym w) q.first) p.completion
      (subst (λ (ws : List Wall). IsCompletion ws (last_before order stop') e') (sym w) q.completion)

  stop-of-one : (stop stop' : Option (ℕ × StopCause)) → IsStopOf file.lines order stop → IsStopOf file.lines order stop' → stop ≡ stop'
  stop-of-one stop stop' p q =
      let w : p.given ≡ q.given = walls-one file.vars file.lines p.given q.given file.valid p.lines q.lines in
      stop-same p.given order low (given-cut file p.given within p.lines) stop stop' p.first
      (subst (λ (ws : List Wall). IsFirstStop ws order stop') (sym w) q.first)

  last-walls : (stop : Option (ℕ × StopCause)) (e : Diagram) → IsLastCompletion file.lines order stop e → Every (IsWall (last_before order stop)) (walls e)
  last-walls stop e p =
      let l = last-low p.given order stop p.first in
      diagram-walls p.given order low (given-cut file p.given within p.lines) (last_before order stop) e (omega (arith, l, low)) p.completion

-- ---- two texts that are printed of one file

-- where it is sure what is printed, they are the same
record SamePrinted (Sure : Type 0) (stop stop' : Option (ℕ × StopCause)) (text other : List ℕ) : Type 0 where
  stops : stop ≡ stop'
  texts : Sure → text ≡ other

-- of two files that say the same
record SaySame (f g : TextFile) : Type 0 where
  vars : f.vars ≡ g.vars
  lines : f.lines ≡ g.lines
  asks : f.asks ≡ g.asks

abbrev PrintsOne : Type 0 → ℕ → ℕ → (TextFile → Option (ℕ × StopCause) → List ℕ → Type 0) → Type 0
PrintsOne Sure order readers Prints = (f g : TextFile) (stop stop' : Option (ℕ × StopCause)) (text other : List ℕ) → first_limit f order readers ≡ None → SaySame f g
    → Prints f stop text → Prints g stop' other → SamePrinted Sure stop stop' text other

completed-one : (form : Form) (order : ℕ) → order ≤ highest_order → PrintsOne (Unit {0}) order 1 (IsCompletedText form order)
completed-one form order low f g stop stop' text other limit same p q =
    let within = within-first-limit f order 1 limit in
    let e : pos p.vars ≡ pos q.vars = sym p.variables ∙ same.vars ∙ q.variables in
    let v : p.vars ≡ q.vars = cc in
    let o = last-one f order low within stop stop' p.diagram q.diagram p.last (subst (λ (rows : List LineRow). IsLastCompletion rows order stop' q.diagram) (sym same.lines) q.last) in
    let n = last_before order stop in
    let asks = f.asks in
    let t : IsPrintedIn form asks p.vars n p.diagram stop other =
    subst (λ (e : Diagram). IsPrintedIn form asks p.vars n e stop other) (sym o.diagrams)
    (subst (λ (x : Option (ℕ × StopCause)). IsPrintedIn form asks p.vars (last_before order x) q.diagram x other) (sym o.stops)
    (subst (λ (m : ℕ). IsPrintedIn form asks m (last_before order stop') q.diagram stop' other) (sym v)
    (subst (λ (rows : List AskRow). IsPrintedIn form rows q.vars (last_before order stop') q.diagram stop' other) (sym same.asks) q.printed))) in
    record {
      stops = o.stops;
      texts = λ sure. printed-one form asks p.vars n n p.diagram stop text other (last-walls f order low within stop p.diagram p.last) (λ k d l. f.valid_asks k d l) p.printed t;
    }

-- a session may print several texts of one file
session-one : (order readers : ℕ) → order ≤ highest_order → PrintsOne ⊥ order readers (IsSessionText order)
session-one order readers low f g stop stop' text other limit same p q = record {
  stops =
      stop-of-one f order low (within-first-limit f order readers limit) stop stop' (session-stops order f stop text p)
      (subst (λ (rows : List LineRow). IsStopOf rows order stop') (sym same.lines) (session-stops order g stop' other q));
  texts = λ sure. absurd sure;
}

-- ---- outcomes by what the bytes are

record One (Sure : Type 0) (s t : Status) (text other : List ℕ) : Type 0 where
  same-status : s ≡ t
  same-text : Sure → text ≡ other

cause-one : (c d : CodeCause) → cause_of c ≡ cause_of d → c ≡ d
cause-one code.PointTooLarge code.PointTooLarge e = refl
cause-one code.PointTooLarge code.WeightTooLarge e = absurd (cc)
cause-one code.PointTooLarge code.TooManyWalls e = absurd (cc)
cause-one code.WeightTooLarge code.PointTooLarge e = absurd (cc)
cause-one code.WeightTooLarge code.WeightTooLarge e = refl
cause-one code.WeightTooLarge code.TooManyWalls e = absurd (cc)
cause-one code.TooManyWalls code.PointTooLarge e = absurd (cc)
cause-one code.TooManyWalls code.WeightTooLarge e = absurd (cc)
cause-one code.TooManyWalls code.TooManyWalls e = refl

some-one : (a b : ℕ × StopCause) → Some a ≡ Some b → a ≡ b
some-one a b e = cc

stop-one : (a b : Option (ℕ × CodeCause)) → stop_of a ≡ stop_of b → ends_with a ≡ ends_with b
stop-one None None e = refl
stop-one None (Some t) e = absurd (none (t.0, cause_of t.1) e)
  where
    none : (x : ℕ × StopCause) → None ≡ Some x → ⊥
    none x e = cc
stop-one (Some s) None e = absurd (none (s.0, cause_of s.1) (sym e))
  where
    none : (x : ℕ × StopCause) → None ≡ Some x → ⊥
    none x e = cc
stop-one (Some s) (Some t) e =
    let p = some-one (s.0, cause_of s.1) (t.0, cause_of t.1) e in
    let n : s.0 ≡ t.0 = ap (λ (x : ℕ × StopCause). x.0) p in
    let c : s.1 ≡ t.1 = cause-one s.1 t.1 (ap (λ (x : ℕ × StopCause). x.1) p) in
    λ i. Stopped (n i) (c i)

same-kind : (k j : LimitKind) → Some k ≡ Some j → k ≡ j
same-kind k j e = cc

module _ (form : Form) (order readers : ℕ) (Prints : TextFile → Option (ℕ × StopCause) → List ℕ → Type 0) (bytes : List ℕ) where
  abbrev IsTooLong : Status → List ℕ → Type 0
  IsTooLong s text = (most_bytes < length bytes) × (s ≡ Limit Bytes) × (text ≡ limit_fault_text Bytes)

  abbrev IsFaulty : Status → List ℕ → Type 0
  IsFaulty s text = (line : ℕ) × (kind : TextKind) × (length bytes ≤ most_bytes) × IsBadTextIn form bytes line kind × (s ≡ Text line kind) × (text ≡ bad_text line kind)

  abbrev IsFaultyJson : Status → List ℕ → Type 0
  IsFaultyJson s text = (kind : JsonKind) × (length bytes ≤ most_bytes) × IsBadJsonIn form bytes kind × (s ≡ Json kind) × (text ≡ bad_json_text kind)

  abbrev IsLimited : Status → List ℕ → Type 0
  IsLimited s text = (kind : LimitKind) × PassesLimit form order readers kind bytes × (s ≡ Limit kind) × (text ≡ limit_fault_text kind)

  abbrev IsDone : Status → List ℕ → Type 0
  IsDone s text = (stop : Option (ℕ × CodeCause)) × HasPrinted form order readers Prints (stop_of stop) bytes text × (s ≡ ends_with stop)

  abbrev Is : Status → List ℕ → Type 0
  Is s text = IsTooLong s text ⊎ (IsFaulty s text ⊎ (IsFaultyJson s text ⊎ (IsLimited s text ⊎ IsDone s text)))

  is : (s : Status) (text : List ℕ) → IsOutcomeIn form order readers Prints bytes s text → Is s text
  is Done text h = inr (inr (inr (inr (None, h, refl))))
  is Words text h = absurd h
  is (Text line kind) text h = inr (inl (line, kind, h.short, h.fault, refl, h.says))
  is (Json kind) text h = inr (inr (inl (kind, h.short, h.fault, refl, h.says)))
  is (Limit kind) text h = go h.0
    where
      go : IsLimitOf form order readers kind bytes → Is (Limit kind) text
      go (inl l) = inl (l.1, ap (λ (k : LimitKind). Limit k) l.0, h.1 ∙ ap (λ (k : LimitKind). limit_fault_text k) l.0)
      go (inr p) = inr (inr (inr (inl (kind, p, refl, h.1))))
  is (Stopped at cause) text h = inr (inr (inr (inr (Some (at, cause), h, refl))))
  is ReadFault text h = absurd h
  is WriteFault text h = absurd h
  is Memory text h = absurd h

  say-same : (f g : TextFile) → IsFileIn form bytes f → IsFileIn form bytes g → SaySame f g
  say-same f g a b = let e = file-one form bytes f g a b in record { vars = e.0; lines = e.1; asks = e.2 }

  limit-one : (f g : TextFile) → IsFileIn form bytes f → IsFileIn form bytes g → first_limit f order readers ≡ first_limit g order readers
  limit-one f g a b =
      let e = say-same f g a b in
      λ i. limit_by (e.vars i) (e.lines i) (e.asks i) order readers

  -- none of the five kinds of outcome goes with another
  long-short : most_bytes < length bytes → length bytes ≤ most_bytes → ⊥
  long-short l s = omega (arith, l, s)

  limited-done : (kind : LimitKind) (stop : Option (ℕ × StopCause)) (text : List ℕ) → PassesLimit form order readers kind bytes → HasPrinted form order readers Prints stop bytes text → ⊥
  limited-done kind stop text p c = none-some kind (sym c.within ∙ limit-one c.file p.file c.reads p.reads ∙ p.passed)

  one : (Sure : Type 0) → PrintsOne Sure order readers Prints → (s t : Status) (text other : List ℕ) → Is s text → Is t other → One Sure s t text other
  one Sure each s t text other (inl a) (inl b) = record { same-status = a.1 ∙ sym b.1; same-text = λ sure. a.2 ∙ sym b.2 }
  one Sure each s t text other (inl a) (inr (inl b)) = absurd (long-short a.0 b.2)
  one Sure each s t text other (inl a) (inr (inr (inl b))) = absurd (long-short a.0 b.1)
  one Sure each s t text other (inl a) (inr (inr (inr (inl b)))) = absurd (long-short a.0 b.1.short)
  one Sure each s t text other (inl a) (inr (inr (inr (inr b)))) = absurd (long-short a.0 b.1.short)
  one Sure each s t text other (inr (inl a)) (inl b) = absurd (long-short b.0 a.2)
  one Sure each s t text other (inr (inl a)) (inr (inl b)) =
      let e = bad_text-one form bytes a.0 b.0 a.1 b.1 a.3 b.3 in
      record {
        same-status = a.4 ∙ (λ i. Text (e.0 i) (e.1 i)) ∙ sym b.4;
        same-text = λ sure. a.5 ∙ (λ i. bad_text (e.0 i) (e.1 i)) ∙ sym b.5;
      }
  one Sure each s t text other (inr (inl a)) (inr (inr (inl b))) = absurd (bad-one form bytes a.0 a.1 b.0 a.3 b.2)
  one Sure each s t text other (inr (inl a)) (inr (inr (inr (inl b)))) = absurd (no-bad_text form bytes b.1.file a.0 a.1 b.1.reads a.3)
  one Sure each s t text other (inr (inl a)) (inr (inr (inr (inr b)))) = absurd (no-bad_text form bytes b.1.file a.0 a.1 b.1.reads a.3)
  one Sure each s t text other (inr (inr (inl a))) (inl b) = absurd (long-short b.0 a.1)
  one Sure each s t text other (inr (inr (inl a))) (inr (inl b)) = absurd (bad-one form bytes b.0 b.1 a.0 b.3 a.2)
  one Sure each s t text other (inr (inr (inl a))) (inr (inr (inl b))) =
      let e : a.0 ≡ b.0 = bad_json-one form bytes a.0 b.0 a.2 b.2 in
      record {
        same-status = a.3 ∙ ap (λ (k : JsonKind). Json k) e ∙ sym b.3;
        same-text = λ sure. a.4 ∙ ap (λ (k : JsonKind). bad_json_text k) e ∙ sym b.4;
      }
  one Sure each s t text other (inr (inr (inl a))) (inr (inr (inr (inl b)))) = absurd (no-bad_json form bytes b.1.file a.0 b.1.reads a.2)
  one Sure each s t text other (inr (inr (inl a))) (inr (inr (inr (inr b)))) = absurd (no-bad_json form bytes b.1.file a.0 b.1.reads a.2)
  one Sure each s t text other (inr (inr (inr (inl a)))) (inl b) = absurd (long-short b.0 a.1.short)
  one Sure each s t text other (inr (inr (inr (inl a)))) (inr (inl b)) = absurd (no-bad_text form bytes a.1.file b.0 b.1 a.1.reads b.3)
  one Sure each s t text other (inr (inr (inr (inl a)))) (inr (inr (inl b))) = absurd (no-bad_json form bytes a.1.file b.0 a.1.reads b.2)
  one Sure each s t text other (inr (inr (inr (inl a)))) (inr (inr (inr (inl b)))) =
      let e : a.0 ≡ b.0 = same-kind a.0 b.0 (sym a.1.passed ∙ limit-one a.1.file b.1.file a.1.reads b.1.reads ∙ b.1.passed) in
      record {
        same-status = a.2 ∙ ap (λ (k : LimitKind). Limit k) e ∙ sym b.2;
        same-text = λ sure. a.3 ∙ ap (λ (k : LimitKind). limit_fault_text k) e ∙ sym b.3;
      }
  one Sure each s t text other (inr (inr (inr (inl a)))) (inr (inr (inr (inr b)))) = absurd (limited-done a.0 (stop_of b.0) other a.1 b.1)
  one Sure each s t text other (inr (inr (inr (inr a)))) (inl b) = absurd (long-short b.0 a.1.short)
  one Sure each s t text other (inr (inr (inr (inr a)))) (inr (inl b)) = absurd (no-bad_text form bytes a.1.file b.0 b.1 a.1.reads b.3)
  one Sure each s t text other (inr (inr (inr (inr a)))) (inr (inr (inl b))) = absurd (no-bad_json form bytes a.1.file b.0 a.1.reads b.2)
  one Sure each s t text other (inr (inr (inr (inr a)))) (inr (inr (inr (inl b)))) = absurd (limited-done b.0 (stop_of a.0) text b.1 a.1)
  one Sure each s t text other (inr (inr (inr (inr a)))) (inr (inr (inr (inr b)))) =
      let e = each a.1.file b.1.file (stop_of a.0) (stop_of b.0) text other a.1.within (say-same a.1.file b.1.file a.1.reads b.1.reads) a.1.printed b.1.printed in
      record { same-status = a.2 ∙ stop-one a.0 b.0 e.stops ∙ sym b.2; same-text = e.texts }

-- ---- `generate`

abbrev IsSummed : ℕ → Status → List ℕ → Type 0
IsSummed number s text = (stop : Option (ℕ × CodeCause)) × IsSummary number (stop_of stop) text × (s ≡ ends_with stop)

is-summed : (number : ℕ) (s : Status) (text : List ℕ) → IsGenerateOutcome number s text → IsSummed number s text
is-summed number Done text h = (None, h, refl)
is-summed number Words text h = absurd h
is-summed number (Text line kind) text h = absurd h
is-summed number (Json kind) text h = absurd h
is-summed number (Limit kind) text h = absurd h
is-summed number (Stopped at cause) text h = (Some (at, cause), h, refl)
is-summed number ReadFault text h = absurd h
is-summed number WriteFault text h = absurd h
is-summed number Memory text h = absurd h

summary-one : (number : ℕ) (s t : Status) (text other : List ℕ) → IsSummed number s text → IsSummed number t other → One (Unit {0}) s t text other
summary-one number s t text other (stop, a, e) (stop', b, f) =
    let o = last-one (file_of number) generated_order (omega arith) (file-within number) (stop_of stop) (stop_of stop') a.diagram b.diagram a.last b.last in
    record {
      same-status = e ∙ stop-one stop stop' o.stops ∙ sym f;
      same-text = λ sure. a.printed ∙ (λ i. summary_text number (last_before generated_order (o.stops i)) (o.diagrams i).rays (o.stops i)) ∙ sym b.printed;
    }

-- ---- outcomes of words

-- what it prints is sure, but for a session
abbrev IsSure : Job → Type 0
IsSure (Complete form order workers) = Unit {0}
IsSure (Session order workers readers) = ⊥
IsSure (Generate number) = Unit {0}

sure : (words : List (List ℕ)) (job : Job) → AreWordsOf words job → NameNoSession words → IsSure job
sure words (Complete form order workers) a none = tt
sure words (Session order workers readers) a none = none order workers readers a
sure words (Generate number) a none = tt

record IsOneJob (job : Job) : Type 0 where
  one : (bytes : List ℕ) (s t : Status) (text other : List ℕ) → IsJobOutcome job bytes s text → IsJobOutcome job bytes t other → One (IsSure job) s t text other

job-one : (words : List (List ℕ)) (job : Job) → AreWordsOf words job → IsOneJob job
job-one words (Complete form order workers) a = record {
  one = λ bytes s t text other x y.
      let Prints = IsCompletedText form order in
      one form order 1 Prints bytes (Unit {0}) (completed-one form order a.order_most) s t text other
      (is form order 1 Prints bytes s text x) (is form order 1 Prints bytes t other y);
}
job-one words (Session order workers readers) a = record {
  one = λ bytes s t text other x y.
      let Prints = IsSessionText order in
      one form.Asks order readers Prints bytes ⊥ (session-one order readers a.order_most) s t text other
      (is form.Asks order readers Prints bytes s text x) (is form.Asks order readers Prints bytes t other y);
}
job-one words (Generate number) a = record {
  one = λ bytes s t text other x y. summary-one number s t text other (is-summed number s text x) (is-summed number t other y);
}

abbrev HasNoJob : List (List ℕ) → Status → List ℕ → Type 0
HasNoJob words s text = NameNoJob words × (s ≡ Words) × (text ≡ words_fault_text)

abbrev HasJob : List (List ℕ) → List ℕ → Status → List ℕ → Type 0
HasJob words bytes s text = (job : Job) × AreWordsOf words job × IsJobOutcome job bytes s text

job-or-none : (words : List (List ℕ)) (bytes : List ℕ) (s : Status) (text : List ℕ) → IsRunOutcome words bytes s text → HasNoJob words s text ⊎ HasJob words bytes s text
job-or-none words bytes Done text h = inr h
job-or-none words bytes Words text h = inl (h.0, refl, h.1)
job-or-none words bytes (Text line kind) text h = inr h
job-or-none words bytes (Json kind) text h = inr h
job-or-none words bytes (Limit kind) text h = inr h
job-or-none words bytes (Stopped at cause) text h = inr h
job-or-none words bytes ReadFault text h = inr h
job-or-none words bytes WriteFault text h = inr h
job-or-none words bytes Memory text h = inr h

pub outcome-one : (words : List (List ℕ)) (bytes : List ℕ) (s t : Status) (text other : List ℕ)
    → IsRunOutcome words bytes s text → IsRunOutcome words bytes t other → (s ≡ t) × (NameNoSession words → text ≡ other)
outcome-one words bytes s t text other a b = go (job-or-none words bytes s text a) (job-or-none words bytes t other b)
  where
    go : HasNoJob words s text ⊎ HasJob words bytes s text → HasNoJob words t other ⊎ HasJob words bytes t other → (s ≡ t) × (NameNoSession words → text ≡ other)
    go (inl x) (inl y) = (x.1 ∙ sym y.1, λ none. x.2 ∙ sym y.2)
    go (inl x) (inr y) = absurd (x.0 y.0 y.1)
    go (inr x) (inl y) = absurd (y.0 x.0 x.1)
    go (inr x) (inr y) =
        let o = (job-one words x.0 x.1).one bytes s t text other x.2 (outcome-same words x.0 y.0 bytes t other x.1 y.1 y.2) in
        (o.same-status, λ none. o.same-text (sure words x.0 x.1 none))

-- what was written is the text of any outcome
pub written-one : (words : List (List ℕ)) (left held after : Option (List ℕ)) (result : Status)
    → IfSome left (λ bytes. IsVerdict result → HasWritten held after (IsRunOutcome words bytes result)) → IsOnlyOutcome words left held after result
written-one words None held after result h = tt
written-one words (Some bytes) held after result h = λ v s text o.
    let w = h v in
    let e = outcome-one words bytes s result text w.0 o w.1 in
    (e.0, λ none. subst (λ (t : List ℕ). IsWritten held after t) (sym (e.1 none)) w.2)
