-- The texts of answers, one after the other; there is only one text of them.
use Rattle.std.proofs.Common.{◌≡◌, ℕ, suc, refl, sym, subst, ap, ◌∙◌, ◌<◌, ◌≤◌, ◌+◌, List, [], ◌∷◌, ◌++◌, length, take, get_or, map, append_assoc, arith}
use Rattle.std.specs.Prelude.{codes, decimal, Result, Ok, Err}
use Rattle.std.proofs.lemmas.List.{take_more, take_all, append-nil, length-take-le}
use Rattle.scattering.specs.Theta as D
use Rattle.plane_geom.specs.Shown.{point_of}
use Rattle.broken_lines.specs.declared.fault.AskFault.{AskFault}
use Rattle.broken_lines.specs.declared.fault.AskFault.TheVariants.{NotYet, NotGeneric, TooManyReach, TooManyTails, PointTooLarge, WeightTooLarge, Memory}
use Rattle.theta_algebra.specs.declared.query.Reply.{Reply}
use Rattle.theta_algebra.specs.declared.query.Reply.TheVariants.{Series, Family}
use Rattle.theta_algebra.specs.declared.query.Answer.{Answer}
use Rattle.theta_algebra.specs.Answers.{SeenReply, OneSeries, ManySeries}
use Rattle.theta_algebra.specs.Laws.{PlainFault, TooEarly, Found, NoMemory, plain_fault, plain_result, PlainAnswer, plain_answer}
use Rattle.scatter_text.specs.Grammar.{coordinate_text}
use Rattle.scatter_text.specs.DiagramText.{line_of}
use Rattle.scatter_text.specs.Laws.{AnswersTextIsOne}
use Rattle.scatter_text.specs.AnswersText.{IsPointWords, IsFaultWords, series_text, family_text, IsResultText, answer_text, IsAnswerText, AreAnswerTexts, stopped_text, answers_heading}
use Rattle.scatter_text.proofs.OneDiagramText.{coordinate-one}

-- ---- one more

answers-more : (vars i : ℕ) (as' : List Answer) (a : Answer) (x y : List ℕ) → AreAnswerTexts vars i as' x → IsAnswerText vars (i + length as') a y → AreAnswerTexts vars i (as' ++ a ∷ []) (x ++ y)
answers-more vars i [] a x y h k =
    let e : i + 0 ≡ i = omega arith in
    (y, [], subst (λ n. IsAnswerText vars n a y) e k, refl, ap (λ (t : List ℕ). t ++ y) h ∙ sym (append-nil y))
answers-more vars i (b ∷ as') a x y h k =
    let e : i + suc (length as') ≡ (i + 1) + length as' = omega arith in
    (h.0, h.1 ++ y, h.2, answers-more vars (i + 1) as' a h.1 y h.3 (subst (λ n. IsAnswerText vars n a y) e k), ap (λ (t : List ℕ). t ++ y) h.4 ∙ append_assoc h.0 h.1 y)

-- the new text is the old one and the texts of these answers
pub record AreAnswersWritten (vars : ℕ) (as' : List Answer) (old new : List ℕ) : Type 0 where
  pub piece : List ℕ
  pub texts : AreAnswerTexts vars 1 as' piece
  pub written : new ≡ old ++ piece

pub answers_written-more : (vars : ℕ) (as' : List Answer) (i : ℕ) (a : Answer) (old mid new : List ℕ) → i < length as' → a ≡ get_or as' i a → AreAnswersWritten vars (take i as') old mid
    → (piece : List ℕ) × IsAnswerText vars (i + 1) a piece × (new ≡ mid ++ piece) → AreAnswersWritten vars (take (i + 1) as') old new
answers_written-more vars as' i a old mid new l is h k =
    let le : i ≤ length as' = omega (arith, l) in
    let count : i + 1 ≡ 1 + length (take i as') = omega (arith, length-take-le i as' le) in
    subst (λ (bs : List Answer). AreAnswersWritten vars bs old new) (sym (take_more as' i a l ∙ ap (λ (b : Answer). take i as' ++ b ∷ []) (sym is))) (record {
      piece = h.piece ++ k.0;
      texts = answers-more vars 1 (take i as') a h.piece k.0 h.texts (subst (λ n. IsAnswerText vars n a k.0) count k.1);
      written = k.2 ∙ ap (λ (t : List ℕ). t ++ k.0) h.written ∙ append_assoc old h.piece k.0;
    })

-- all of them
pub all-answers_written : (vars : ℕ) (as' : List Answer) (i : ℕ) (old new : List ℕ) → length as' ≤ i → AreAnswersWritten vars (take i as') old new
    → (piece : List ℕ) × AreAnswerTexts vars 1 as' piece × (new ≡ old ++ piece)
all-answers_written vars as' i old new l h =
    let w = subst (λ (bs : List Answer). AreAnswersWritten vars bs old new) (take_all i as' l) h in
    (w.piece, w.texts, w.written)

-- ---- there is one text

words-one : (fault : AskFault) (words other : List ℕ) → IsFaultWords fault words → IsFaultWords fault other → words ≡ other
words-one (NotYet n) words other a b = a ∙ sym b
words-one (NotGeneric p) words other (x, y, hx, hy, is) (x', y', hx', hy', is') =
    let q = point_of p in
    let ex = coordinate-one q.x q.w x x' p.reduced.below hx hx' in
    let ey = coordinate-one q.y q.w y y' p.reduced.below hy hy' in
    is ∙ (λ i. codes "not-generic" ++ 32 ∷ coordinate_text (ex i) ++ 32 ∷ coordinate_text (ey i)) ∙ sym is'
words-one TooManyReach words other a b = a ∙ sym b
words-one TooManyTails words other a b = a ∙ sym b
words-one PointTooLarge words other a b = a ∙ sym b
words-one WeightTooLarge words other a b = a ∙ sym b
words-one Memory words other a b = absurd a

-- by what is told of an answer

abbrev AreWordsOf : PlainFault → List ℕ → Type 0
AreWordsOf (TooEarly newest) words = words ≡ codes "not-yet" ++ 32 ∷ decimal newest
AreWordsOf (Found (D.NotGeneric p)) words = IsPointWords p words
AreWordsOf (Found D.TooManyReach) words = words ≡ codes "too-many-reach"
AreWordsOf (Found D.TooManyTails) words = words ≡ codes "too-many-tails"
AreWordsOf (Found D.PointTooLarge) words = words ≡ codes "point-too-large"
AreWordsOf (Found D.WeightTooLarge) words = words ≡ codes "weight-too-large"
AreWordsOf NoMemory words = ⊥

words-plain : (f : AskFault) (words : List ℕ) → IsFaultWords f words → AreWordsOf (plain_fault f) words
words-plain (NotYet n) words h = h
words-plain (NotGeneric p) words h = h
words-plain TooManyReach words h = h
words-plain TooManyTails words h = h
words-plain PointTooLarge words h = h
words-plain WeightTooLarge words h = h
words-plain Memory words h = h

plain-words : (f : AskFault) (words : List ℕ) → AreWordsOf (plain_fault f) words → IsFaultWords f words
plain-words (NotYet n) words h = h
plain-words (NotGeneric p) words h = h
plain-words TooManyReach words h = h
plain-words TooManyTails words h = h
plain-words PointTooLarge words h = h
plain-words WeightTooLarge words h = h
plain-words Memory words h = h

abbrev IsTextOfResult : ℕ → Result SeenReply PlainFault → List ℕ → Type 0
IsTextOfResult vars (Ok (OneSeries s)) text = text ≡ line_of (codes "series" ∷ []) ++ series_text vars s.terms
IsTextOfResult vars (Ok (ManySeries ps)) text = text ≡ line_of (codes "product" ∷ []) ++ family_text vars ps
IsTextOfResult vars (Err fault) text = (words : List ℕ) × AreWordsOf fault words × (text ≡ line_of (codes "fault" ∷ words ∷ []))

result-plain : (vars : ℕ) (r : Result Reply AskFault) (text : List ℕ) → IsResultText vars r text → IsTextOfResult vars (plain_result r) text
result-plain vars (Ok (Series s)) text h = h
result-plain vars (Ok (Family ps)) text h = h
result-plain vars (Err f) text (words, h, is) = (words, words-plain f words h, is)

plain-result : (vars : ℕ) (r : Result Reply AskFault) (text : List ℕ) → IsTextOfResult vars (plain_result r) text → IsResultText vars r text
plain-result vars (Ok (Series s)) text h = h
plain-result vars (Ok (Family ps)) text h = h
plain-result vars (Err f) text (words, h, is) = (words, plain-words f words h, is)

one-result : (vars : ℕ) (r : Result Reply AskFault) (text other : List ℕ) → IsResultText vars r text → IsResultText vars r other → text ≡ other
one-result vars (Ok (Series s)) text other a b = a ∙ sym b
one-result vars (Ok (Family ps)) text other a b = a ∙ sym b
one-result vars (Err fault) text other (words, h, is) (words', h', is') =
    let e = words-one fault words words' h h' in
    is ∙ ap (λ (w : List ℕ). line_of (codes "fault" ∷ w ∷ [])) e ∙ sym is'

result-one : (vars : ℕ) (r s : Result Reply AskFault) (text other : List ℕ) → plain_result r ≡ plain_result s → IsResultText vars r text → IsResultText vars s other → text ≡ other
result-one vars r s text other e a b = one-result vars r text other a (plain-result vars r other (subst (λ (x : Result SeenReply PlainFault). IsTextOfResult vars x other) (sym e) (result-plain vars s other b)))

answer-one : (vars i : ℕ) (a b : Answer) (text other : List ℕ) → plain_answer a ≡ plain_answer b → IsAnswerText vars i a text → IsAnswerText vars i b other → text ≡ other
answer-one vars i a b text other same (rest, h, is) (rest', h', is') =
    let e : rest ≡ rest' = result-one vars a.result b.result rest rest' (ap (λ (x : PlainAnswer). x.result) same) h h' in
    let o : a.order ≡ b.order = ap (λ (x : PlainAnswer). x.order) same in
    is ∙ (λ j. answer_text i (o j) (e j)) ∙ sym is'

answers-one : (vars i : ℕ) (ws us : List Answer) (text other : List ℕ) → map plain_answer ws ≡ map plain_answer us → AreAnswerTexts vars i ws text → AreAnswerTexts vars i us other → text ≡ other
answers-one vars i [] [] text other same a b = a ∙ sym b
answers-one vars i [] (u ∷ us) text other same a b = absurd (cc)
answers-one vars i (w ∷ ws) [] text other same a b = absurd (cc)
answers-one vars i (w ∷ ws) (u ∷ us) text other same (first, later, one, more, is) (first', later', one', more', is') =
    let x : plain_answer w ≡ plain_answer u = cc in
    let xs : map plain_answer ws ≡ map plain_answer us = cc in
    let e : first ≡ first' = answer-one vars i w u first first' x one one' in
    let f : later ≡ later' = answers-one vars (i + 1) ws us later later' xs more more' in
    is ∙ (λ j. e j ++ f j) ∙ sym is'

pub answers_text-one : AnswersTextIsOne
answers_text-one vars published stop answers others text other same (body, h, is) (body', h', is') =
    is ∙ ap (λ (b : List ℕ). answers_heading published ++ stopped_text stop ++ b ++ line_of (codes "end" ∷ [])) (answers-one vars 1 answers others body body' same h h') ∙ sym is'
