-- What a session is: several readers answer asks while the orders are published one after another.
--     IsPublishedAnswer lines last q a     a answers the query in the completion of these lines at its order, which is at most
--                                          the last one
--     NeverOlder asks answers              no answer is in a lower order than the same reader's answer to an ask before it
--     IsSettled settle last answers        the answers after so many, if a number stands there, are in the last order
--     IsSession i k asks settle s          s is a session of the lines up to order k, or up to the order before the first stop
use Rattle.std.specs.Prelude.{◌≡◌, ℕ, ◌<◌, ◌≤◌, List, Option, Some, slice_get}
use Rattle.std.specs.List.{AllZip}
use Rattle.std.specs.Option.{ForSome}
use Rattle.scattering.specs.Stops.{IsFirstStop, last_before}
use Rattle.scatter_diagram.specs.Listed.{SeenInitial}
use Rattle.scatter_diagram.specs.Stopped.{stop_of}
use Rattle.theta_algebra.specs.declared.query.Answer.{Answer}
use Rattle.theta_algebra.specs.Answering.{Ask, IsToldAnswer}
use Rattle.diagram_reader.specs.Asked.{IsAnswerAmong}
use Rattle.session_readers.specs.declared.session.Session.{Session}

pub record IsPublishedAnswer (lines : SeenInitial) (last : ℕ) (ask : Ask) (a : Answer) : Type 0 where
  pub published : a.order ≤ last
  pub answer : IsAnswerAmong lines ask.1 a
  pub told : IsToldAnswer a

abbrev pub NeverOlder : List Ask → List Answer → Type 0
NeverOlder asks answers = (i j : ℕ) (p q : Ask) (a b : Answer) → i < j → p.0 ≡ q.0
    → slice_get asks i ≡ Some p → slice_get asks j ≡ Some q
    → slice_get answers i ≡ Some a → slice_get answers j ≡ Some b → a.order ≤ b.order

abbrev pub IsSettled : Option ℕ → ℕ → List Answer → Type 0
IsSettled settle last answers = ForSome settle (λ n. (i : ℕ) (a : Answer) → n ≤ i → slice_get answers i ≡ Some a → a.order ≡ last)

-- there is one answer to each ask
pub record IsSession (i : SeenInitial) (k : ℕ) (asks : List Ask) (settle : Option ℕ) (s : Session) : Type 0 where
  pub stop : IsFirstStop i.lines k (stop_of s.stop)
  pub published : s.published ≡ last_before k (stop_of s.stop)
  pub each : AllZip (IsPublishedAnswer i s.published) asks s.answers.items
  pub rising : NeverOlder asks s.answers.items
  pub settled : IsSettled settle s.published s.answers.items
