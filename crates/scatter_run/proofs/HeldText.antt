-- What a session gives is what it may print.
use Rattle.std.proofs.Common.{◌≡◌, ◌∙◌, refl, ℕ, suc, sym, subst, ◌≤◌, ◌<◌, false, List, [], ◌∷◌, length, get_or, arith}
use Rattle.std.specs.Prelude.{pos, nat_abs, All, Option, Some, None, IsSomeAnd, MatchOption, slice_get}
use Rattle.std.specs.List.{AllZip, list_any}
use Rattle.std.proofs.lemmas.List.Elements.{All-nil, All-cons}
use Rattle.std.proofs.lemmas.Slice.Zip.{AllZip-left}
use Rattle.std.proofs.lemmas.Int.{ints}
use Rattle.limits.specs.Limits.{highest_order}
use Rattle.scattering.specs.Wall.{Wall, cut_walls}
use Rattle.scattering.specs.Completion.{IsCompletion}
use Rattle.scattering.specs.Stops.{IsFirstStop}
use Rattle.completion_theory.proofs.CutGiven.{completion-of_cut, first_stop-of_cut}
use Rattle.scatter_diagram.specs.Listed.{SeenInitial}
use Rattle.scatter_diagram.specs.Stopped.{stop_of}
use Rattle.theta_algebra.specs.declared.query.Answer.{Answer}
use Rattle.theta_algebra.specs.Answering.{Ask, IsToldAnswer}
use Rattle.session_readers.specs.declared.session.Session.{Session}
use Rattle.session_readers.specs.Session.{IsPublishedAnswer, NeverOlder, IsSettled, IsSession}
use Rattle.scatter_text.specs.declared.file.AskRow.{AskRow}
use Rattle.scatter_text.specs.declared.file.TextFile.{TextFile}
use Rattle.scatter_text.specs.GivenWalls.{IsInitialOf}
use Rattle.scatter_text.specs.GivenQueries.{IsReadersQueryOf}
use Rattle.scatter_text.specs.AnswersText.{IsAnswersText}
use Rattle.scatter_text.specs.Values.{IsAsk}
use Rattle.scatter_text.specs.Limits.{first_limit, limits_by, has_high_reader}
use Rattle.scatter_text.proofs.WithinLimits.{any-none, all-pass, not-less}
use Rattle.scatter_run.specs.Held.{IsAnswerAt, NeverFallsBack, IsSessionText}

-- ---- the readers of asks

number-within : (readers : ℕ) (a : AskRow) (q : Ask) → IsAsk a → has_high_reader readers a ≡ false → IsReadersQueryOf a q → (1 ≤ q.0) × (q.0 ≤ readers)
unfolding has_high_reader
number-within readers a q valid e h =
    let positive = valid.values.reader in
    let low : nat_abs a.reader ≤ readers = not-less readers (nat_abs a.reader) e in
    let is = h.0 in
    (omega (arith, ints, positive, is), omega (arith, ints, low, is))

numbers-by : (readers : ℕ) (rows : List AskRow) (asks : List Ask) → ((k : ℕ) (d : AskRow) → k < length rows → IsAsk (get_or rows k d) × (has_high_reader readers (get_or rows k d) ≡ false))
    → AllZip IsReadersQueryOf rows asks → All (λ a. (1 ≤ a.0) × (a.0 ≤ readers)) asks
numbers-by readers [] [] h z = All-nil (λ a. (1 ≤ a.0) × (a.0 ≤ readers))
numbers-by readers [] (q ∷ asks) h z = absurd z
numbers-by readers (a ∷ rows) [] h z = absurd z
numbers-by readers (a ∷ rows) (q ∷ asks) h z =
    let first = h 0 a (omega arith) in
    All-cons (λ a. (1 ≤ a.0) × (a.0 ≤ readers)) q asks (number-within readers a q first.0 first.1 z.0)
    (numbers-by readers rows asks (λ k d l. h (suc k) d (omega (arith, l))) z.1)

-- those of a file that passes no limit
pub numbers-within : (file : TextFile) (order readers : ℕ) (asks : List Ask) → first_limit file order readers ≡ None → AllZip IsReadersQueryOf file.asks asks
    → All (λ a. (1 ≤ a.0) × (a.0 ≤ readers)) asks
numbers-within file order readers asks e z =
    let all = all-pass (limits_by file.vars file.lines file.asks order readers) e in
    let none : list_any (has_high_reader readers) file.asks ≡ false = all.1.1.1.1.1.1.1.1.1.1.0 in
    numbers-by readers file.asks asks (λ k d l. (file.valid_asks k d l, any-none (has_high_reader readers) file.asks none k d l)) z

-- ---- the answers

all-told : (i : SeenInitial) (last : ℕ) (asks : List Ask) (answers : List Answer) → AllZip (IsPublishedAnswer i last) asks answers → All IsToldAnswer answers
all-told i last [] [] h = All-nil IsToldAnswer
all-told i last [] (a ∷ answers) h = absurd h
all-told i last (q ∷ asks) [] h = absurd h
all-told i last (q ∷ asks) (a ∷ answers) h = All-cons IsToldAnswer a answers h.0.told (all-told i last asks answers h.1)

pub session-told : (i : SeenInitial) (k : ℕ) (asks : List Ask) (settle : Option ℕ) (s : Session) → IsSession i k asks settle s → All IsToldAnswer s.answers.items
session-told i k asks settle s h = all-told i s.published asks s.answers.items h.each

answer-at : (given : List Wall) (i : SeenInitial) (last : ℕ) (row : AskRow) (ask : Ask) (a : Answer) → i.lines ≡ cut_walls highest_order given → IsReadersQueryOf row ask
    → IsPublishedAnswer i last ask a → IsAnswerAt given last row a
answer-at given i last row ask a lines z h = record {
  published = h.published;
  diagram = h.answer.diagram;
  completion =
      completion-of_cut given highest_order a.order h.answer.diagram h.answer.completed.order
      (subst (λ (ws : List Wall). IsCompletion ws a.order h.answer.diagram) lines h.answer.completed.completes);
  answer = record { query = ask; asked = z; answer = h.answer.answer };
}

answers-at : (given : List Wall) (i : SeenInitial) (last : ℕ) (rows : List AskRow) (asks : List Ask) (answers : List Answer) → i.lines ≡ cut_walls highest_order given
    → AllZip IsReadersQueryOf rows asks → AllZip (IsPublishedAnswer i last) asks answers → AllZip (IsAnswerAt given last) rows answers
answers-at given i last [] [] [] lines z h = tt
answers-at given i last [] [] (a ∷ answers) lines z h = absurd h
answers-at given i last [] (q ∷ asks) answers lines z h = absurd z
answers-at given i last (r ∷ rows) [] answers lines z h = absurd z
answers-at given i last (r ∷ rows) (q ∷ asks) [] lines z h = absurd h
answers-at given i last (r ∷ rows) (q ∷ asks) (a ∷ answers) lines z h =
    (answer-at given i last r q a lines z.0 h.0, answers-at given i last rows asks answers lines z.1 h.1)

-- ---- what each reader answered

abbrev AskAt : List Ask → ℕ → AskRow → Type 0
AskAt asks i row = (q : Ask) × (slice_get asks i ≡ Some q) × IsReadersQueryOf row q

ask-at : (rows : List AskRow) (asks : List Ask) (i : ℕ) (row : AskRow) → AllZip IsReadersQueryOf rows asks → slice_get rows i ≡ Some row → AskAt asks i row
ask-at rows asks i row z e =
    find (slice_get asks i) refl
    (subst (λ (o : Option AskRow). MatchOption o (Unit {0}) (λ x. IsSomeAnd (slice_get asks i) (IsReadersQueryOf x))) e (AllZip-left IsReadersQueryOf rows asks z i))
  where
    find : (o : Option Ask) → slice_get asks i ≡ o → IsSomeAnd o (IsReadersQueryOf row) → AskAt asks i row
    find None is h = absurd h
    find (Some q) is h = (q, is, h)

never-back : (rows : List AskRow) (asks : List Ask) (answers : List Answer) → AllZip IsReadersQueryOf rows asks → NeverOlder asks answers → NeverFallsBack rows answers
never-back rows asks answers z h i j p q a b l same e f x y =
    let s = ask-at rows asks i p z e in
    let t = ask-at rows asks j q z f in
    let u : pos s.0.0 ≡ pos t.0.0 = sym s.2.0 ∙ same ∙ t.2.0 in
    h i j s.0 t.0 a b l (omega (arith, ints, u)) s.1 t.1 x y

pub session-text : (file : TextFile) (order : ℕ) (i : SeenInitial) (asks : List Ask) (s : Session) (text : List ℕ) → order ≤ highest_order → IsInitialOf file i
    → AllZip IsReadersQueryOf file.asks asks → IsSession i order asks file.settle s → IsAnswersText i.vars s.published (stop_of s.stop) s.answers.items text
    → IsSessionText order file (stop_of s.stop) text
session-text file order i asks s text low is z h printed =
    let stop = stop_of s.stop in
    let answers = s.answers.items in
    record {
      vars = i.vars;
      answers = answers;
      variables = is.vars;
      stopped = record {
        given = is.given;
        lines = is.walls;
        first = first_stop-of_cut is.given highest_order order stop low (subst (λ (ws : List Wall). IsFirstStop ws order stop) is.lines h.stop);
      };
      each =
          subst (λ (n : ℕ). AllZip (IsAnswerAt is.given n) file.asks answers) h.published
          (answers-at is.given i s.published file.asks asks answers is.lines z h.each);
      rising = never-back file.asks asks answers z h.rising;
      settled = subst (λ (n : ℕ). IsSettled file.settle n answers) h.published h.settled;
      printed = subst (λ (n : ℕ). IsAnswersText i.vars n stop answers text) h.published printed;
    }
