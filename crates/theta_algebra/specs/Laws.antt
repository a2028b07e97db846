-- What is proved here of answers: that they are one.
--     PlainFault, plain_fault    a fault as it is defined, or what isn't found by a check: too early an order, or want of memory
--     plain_answer a             an answer with its fault as it is defined
use Rattle.std.specs.Prelude.{◌≡◌, ℕ, List, Result, Ok, Err}
use Rattle.scattering.specs.Collections.{Every}
use Rattle.scattering.specs.Wall.{Wall, IsWall}
use Rattle.scattering.specs.Theta as D
use Rattle.plane_geom.specs.Shown.{point_of}
use Rattle.broken_lines.specs.declared.fault.AskFault.{AskFault}
use Rattle.broken_lines.specs.declared.fault.AskFault.TheVariants.{NotYet, NotGeneric, TooManyReach, TooManyTails, PointTooLarge, WeightTooLarge, Memory}
use Rattle.theta_algebra.specs.declared.query.Query.{Query}
use Rattle.theta_algebra.specs.declared.query.Reply.{Reply}
use Rattle.theta_algebra.specs.declared.query.Answer.{Answer}
use Rattle.theta_algebra.specs.Answers.{SeenReply, seen_reply}
use Rattle.theta_algebra.specs.Answering.{IsAnswer, IsToldAnswer}

pub data PlainFault : Type 0 where
  TooEarly : ℕ → PlainFault
  Found : D.AskFault → PlainFault
  NoMemory : PlainFault

abbrev pub plain_fault : AskFault → PlainFault
plain_fault (NotYet newest) = TooEarly newest
plain_fault (NotGeneric p) = Found (D.NotGeneric (point_of p))
plain_fault TooManyReach = Found D.TooManyReach
plain_fault TooManyTails = Found D.TooManyTails
plain_fault PointTooLarge = Found D.PointTooLarge
plain_fault WeightTooLarge = Found D.WeightTooLarge
plain_fault Memory = NoMemory

abbrev pub plain_result : Result Reply AskFault → Result SeenReply PlainFault
plain_result (Ok r) = Ok (seen_reply r)
plain_result (Err f) = Err (plain_fault f)

pub record PlainAnswer : Type 0 where
  pub order : ℕ
  pub result : Result SeenReply PlainFault

abbrev pub plain_answer : Answer → PlainAnswer
plain_answer a = record { order = a.order; result = plain_result a.result }

-- a query has one answer in a diagram, but for want of memory
abbrev pub AnswerIsOne : Type 0
AnswerIsOne = (ws : List Wall) (n k : ℕ) (q : Query) (a b : Answer) → Every (IsWall n) ws → IsAnswer ws k q a → IsAnswer ws k q b → IsToldAnswer a → IsToldAnswer b → plain_answer a ≡ plain_answer b
