-- The answers to the asks of a file have one text.
use Rattle.std.proofs.Common.{◌≡◌, ℕ, suc, ◌<◌, ◌+◌, refl, subst, List, [], ◌∷◌, map, length, get_or, arith}
use Rattle.std.specs.Prelude.{Option, Result, Err}
use Rattle.std.specs.List.{AllZip}
use Rattle.scattering.specs.Collections.{Every}
use Rattle.scattering.specs.Wall.{IsWall, Diagram, walls}
use Rattle.scattering.specs.Stops.{StopCause}
use Rattle.broken_lines.specs.declared.fault.AskFault.{AskFault}
use Rattle.broken_lines.specs.declared.fault.AskFault.TheVariants.{Memory}
use Rattle.theta_algebra.specs.declared.query.Reply.{Reply}
use Rattle.theta_algebra.specs.declared.query.Answer.{Answer}
use Rattle.theta_algebra.specs.Answering.{IsToldAnswer, IsToldResult}
use Rattle.theta_algebra.specs.Laws.{plain_answer}
use Rattle.theta_algebra.proofs.OneAnswer.{answers-one}
use Rattle.scatter_text.specs.declared.file.AskRow.{AskRow}
use Rattle.scatter_text.specs.Values.{IsAsk}
use Rattle.scatter_text.specs.AnswersText.{IsResultText, AreAnswerTexts}
use Rattle.scatter_text.proofs.AnswerTexts.{answers_text-one}
use Rattle.scatter_text.proofs.AskQueries.{query-one}
use Rattle.scatter_run.specs.Asked.{IsAnswerTo, IsAskedText}

-- what has a text isn't want of memory
told-result : (vars : ℕ) (r : Result Reply AskFault) (text : List ℕ) → IsResultText vars r text → IsToldResult r
told-result vars r text h e = no-text (subst (λ (x : Result Reply AskFault). IsResultText vars x text) e h)
  where
    no-text : IsResultText vars (Err Memory) text → ⊥
    no-text (words, k, is) = k

told-answers : (vars i : ℕ) (as' : List Answer) (text : List ℕ) → AreAnswerTexts vars i as' text → Every IsToldAnswer as'
told-answers vars i [] text h = tt
told-answers vars i (a ∷ as') text (first, later, one, more, is) = (told-result vars a.result one.0 one.1, told-answers vars (i + 1) as' later more)

module _ (order n : ℕ) (e : Diagram) (proper : Every (IsWall n) (walls e)) where
  answer-one : (ask : AskRow) (a b : Answer) → IsAsk ask → IsAnswerTo order e ask a → IsAnswerTo order e ask b → IsToldAnswer a → IsToldAnswer b → plain_answer a ≡ plain_answer b
  answer-one ask a b valid x y t u =
      let q = query-one ask x.query.1 y.query.1 valid x.asked.1 y.asked.1 in
      answers-one (walls e) n order x.query.1 y.query.1 a b proper q.kind q.at q.least x.answer y.answer t u

  all-one : (asks : List AskRow) (as' bs : List Answer) → ((k : ℕ) (d : AskRow) → k < length asks → IsAsk (get_or asks k d)) → AllZip (IsAnswerTo order e) asks as' → AllZip (IsAnswerTo order e) asks bs
      → Every IsToldAnswer as' → Every IsToldAnswer bs → map plain_answer as' ≡ map plain_answer bs
  all-one [] [] [] valid x y t u = refl
  all-one [] [] (b ∷ bs) valid x y t u = absurd y
  all-one [] (a ∷ as') bs valid x y t u = absurd x
  all-one (q ∷ asks) [] bs valid x y t u = absurd x
  all-one (q ∷ asks) (a ∷ as') [] valid x y t u = absurd y
  all-one (q ∷ asks) (a ∷ as') (b ∷ bs) valid x y t u =
      let first = answer-one q a b (valid 0 q (omega arith)) x.0 y.0 t.0 u.0 in
      let rest = all-one asks as' bs (λ k d l. valid (suc k) d (omega (arith, l))) x.1 y.1 t.1 u.1 in
      λ i. first i ∷ rest i

pub asked_text-one : (asks : List AskRow) (vars order n : ℕ) (e : Diagram) (stop : Option (ℕ × StopCause)) (text other : List ℕ) → Every (IsWall n) (walls e) → ((k : ℕ) (d : AskRow) → k < length asks → IsAsk (get_or asks k d))
    → IsAskedText asks vars order e stop text → IsAskedText asks vars order e stop other → text ≡ other
asked_text-one asks vars order n e stop text other proper valid a b =
    let same = all-one order n e proper asks a.answers b.answers valid a.each b.each
    (told-answers vars 1 a.answers a.printed.0 a.printed.1) (told-answers vars 1 b.answers b.printed.0 b.printed.1) in
    answers_text-one vars order stop a.answers b.answers text other same a.printed b.printed
