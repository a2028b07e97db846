-- Answers as contracts see them.
--     SeenReply, seen_reply      a theta as its series, or a family as the list of its series at exponents
--     SeenAnswer, seen_answer    the order, with the reply or the fault
use Rattle.std.specs.Prelude.{ℕ, List, Result, Ok, Err}
use Rattle.trunc_series.specs.Shown.{Seen}
use Rattle.trunc_series.specs.declared.key.Exp.{Exp as CodeExp}
use Rattle.broken_lines.specs.declared.fault.AskFault.{AskFault}
use Rattle.theta_algebra.specs.declared.query.Answer.{Answer}
use Rattle.theta_algebra.specs.declared.query.Reply.{Reply}
use Rattle.theta_algebra.specs.declared.query.Reply.TheVariants.{Series, Family}

pub data SeenReply : Type 0 where
  OneSeries : Seen → SeenReply
  ManySeries : List (CodeExp × Seen) → SeenReply

abbrev pub seen_reply : Reply → SeenReply
seen_reply (Series s) = OneSeries s
seen_reply (Family ps) = ManySeries ps.items

abbrev pub seen_result : Result Reply AskFault → Result SeenReply AskFault
seen_result (Ok r) = Ok (seen_reply r)
seen_result (Err f) = Err f

pub record SeenAnswer : Type 0 where
  pub order : ℕ
  pub result : Result SeenReply AskFault

abbrev pub seen_answer : Answer → SeenAnswer
seen_answer a = record { order = a.order; result = seen_result a.result }
