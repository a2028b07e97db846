-- The text of answers: a heading, what stopped the run, and each answer in its order, counted from 1.
--     series_text vars s          the terms of a series, in order
--     family_text vars ps         the thetas of a product with their series
--     IsFaultWords f words        the words of a fault
--     IsAnswerText vars i a text  the text of answer i
use Rattle.std.specs.Prelude.{◌≡◌, ℕ, ◌+◌, List, [], ◌∷◌, ◌++◌, map, flat_map, codes, decimal, Option, Some, None, Result, Ok, Err}
use Rattle.std.specs.Fmt.{signed_decimal}
use Rattle.std.specs.List.{join_with_byte}
use Rattle.scattering.specs.Series.{Term, Sum}
use Rattle.scattering.specs.Plane.{Point}
use Rattle.scattering.specs.Stops.{StopCause}
use Rattle.plane_geom.specs.Shown.{point_of}
use Rattle.trunc_series.specs.declared.key.Exp.{Exp as CodeExp}
use Rattle.trunc_series.specs.Shown.{Seen}
use Rattle.broken_lines.specs.declared.fault.AskFault.{AskFault}
use Rattle.broken_lines.specs.declared.fault.AskFault.TheVariants.{NotYet, NotGeneric, TooManyReach, TooManyTails, PointTooLarge, WeightTooLarge, Memory}
use Rattle.theta_algebra.specs.declared.query.Reply.{Reply}
use Rattle.theta_algebra.specs.declared.query.Reply.TheVariants.{Series, Family}
use Rattle.theta_algebra.specs.declared.query.Answer.{Answer}
use Rattle.scatter_text.specs.declared.file.Coordinate.{Coordinate}
use Rattle.scatter_text.specs.Grammar.{coordinate_text}
use Rattle.scatter_text.specs.DiagramText.{line_of, first_powers, cause_word, IsRatioOf}

-- ---- series

-- `term C A B P1 .. PR`
abbrev pub monomial_text : ℕ → Term → List ℕ
monomial_text vars t = line_of (codes "term" ∷ signed_decimal t.1 ∷ signed_decimal t.0.exp.a ∷ signed_decimal t.0.exp.b ∷ map decimal (first_powers vars t.0.powers))

-- the terms stand by their exponents, then by their powers, as a series has them
abbrev pub series_text : ℕ → Sum → List ℕ
series_text vars s = flat_map (monomial_text vars) s

-- `term C P1 .. PR`
abbrev pub powers_text : ℕ → Term → List ℕ
powers_text vars t = line_of (codes "term" ∷ signed_decimal t.1 ∷ map decimal (first_powers vars t.0.powers))

-- `theta A B`, and the terms of its series
abbrev pub theta_text : ℕ → CodeExp × Seen → List ℕ
theta_text vars p = line_of (codes "theta" ∷ signed_decimal p.0.a ∷ signed_decimal p.0.b ∷ []) ++ flat_map (powers_text vars) p.1.terms

abbrev pub family_text : ℕ → List (CodeExp × Seen) → List ℕ
family_text vars ps = flat_map (theta_text vars) ps

-- ---- faults

-- `not-generic X Y`
abbrev pub IsPointWords : Point → List ℕ → Type 0
IsPointWords p words = (x y : Coordinate) × IsRatioOf p.x p.w x × IsRatioOf p.y p.w y
    × (words ≡ codes "not-generic" ++ 32 ∷ coordinate_text x ++ 32 ∷ coordinate_text y)

-- but for want of memory, which is no answer
abbrev pub IsFaultWords : AskFault → List ℕ → Type 0
IsFaultWords (NotYet newest) words = words ≡ codes "not-yet" ++ 32 ∷ decimal newest
IsFaultWords (NotGeneric p) words = IsPointWords (point_of p) words
IsFaultWords TooManyReach words = words ≡ codes "too-many-reach"
IsFaultWords TooManyTails words = words ≡ codes "too-many-tails"
IsFaultWords PointTooLarge words = words ≡ codes "point-too-large"
IsFaultWords WeightTooLarge words = words ≡ codes "weight-too-large"
IsFaultWords Memory words = ⊥

-- ---- answers

-- what follows on the order of an answer
abbrev pub IsResultText : ℕ → Result Reply AskFault → List ℕ → Type 0
IsResultText vars (Ok (Series s)) text = text ≡ line_of (codes "series" ∷ []) ++ series_text vars s.terms
IsResultText vars (Ok (Family ps)) text = text ≡ line_of (codes "product" ∷ []) ++ family_text vars ps.items
IsResultText vars (Err fault) text = (words : List ℕ) × IsFaultWords fault words × (text ≡ line_of (codes "fault" ∷ words ∷ []))

-- `answer I order E`, and what follows
abbrev pub answer_text : ℕ → ℕ → List ℕ → List ℕ
answer_text i order rest = join_with_byte 32 (codes "answer" ∷ decimal i ∷ codes "order" ∷ decimal order ∷ rest ∷ [])

abbrev pub IsAnswerText : ℕ → ℕ → Answer → List ℕ → Type 0
IsAnswerText vars i a text = (rest : List ℕ) × IsResultText vars a.result rest × (text ≡ answer_text i a.order rest)

-- the texts of the answers, one after the other, counted from i
abbrev pub AreAnswerTexts : ℕ → ℕ → List Answer → List ℕ → Type 0
AreAnswerTexts vars i [] text = text ≡ []
AreAnswerTexts vars i (a ∷ answers) text = (first later : List ℕ) × IsAnswerText vars i a first × AreAnswerTexts vars (i + 1) answers later × (text ≡ first ++ later)

-- `stopped J CAUSE`, where order J was stopped
abbrev pub stopped_text : Option (ℕ × StopCause) → List ℕ
stopped_text None = []
stopped_text (Some (order, cause)) = line_of (codes "stopped" ∷ decimal order ∷ cause_word cause ∷ [])

abbrev pub answers_heading : ℕ → List ℕ
answers_heading published = line_of (codes "answers" ∷ codes "1" ∷ []) ++ line_of (codes "published" ∷ decimal published ∷ [])

-- the text of the answers of a run whose last order is `published`
abbrev pub IsAnswersText : ℕ → ℕ → Option (ℕ × StopCause) → List Answer → List ℕ → Type 0
IsAnswersText vars published stop answers text = (body : List ℕ) × AreAnswerTexts vars 1 answers body
    × (text ≡ answers_heading published ++ stopped_text stop ++ body ++ line_of (codes "end" ∷ []))
