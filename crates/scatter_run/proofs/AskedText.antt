-- The answers to the queries of asks are the answers to the asks.
use Rattle.std.proofs.Common.{ℕ, List, [], ◌∷◌}
use Rattle.std.specs.List.{AllZip}
use Rattle.scattering.specs.Wall.{Diagram, walls}
use Rattle.theta_algebra.specs.declared.query.Query.{Query}
use Rattle.theta_algebra.specs.declared.query.Answer.{Answer}
use Rattle.theta_algebra.specs.Answering.{IsAnswer}
use Rattle.scatter_text.specs.declared.file.AskRow.{AskRow}
use Rattle.scatter_text.specs.GivenQueries.{IsReadersQueryOf}
use Rattle.scatter_run.specs.Asked.{IsAnswerTo}

pub answered-asks : (k : ℕ) (e : Diagram) (rows : List AskRow) (queries : List (ℕ × Query)) (answers : List Answer) → AllZip IsReadersQueryOf rows queries
    → AllZip (λ q a. IsAnswer (walls e) k q.1 a) queries answers → AllZip (IsAnswerTo k e) rows answers
answered-asks k e [] [] [] z h = tt
answered-asks k e [] [] (a ∷ answers) z h = h
answered-asks k e [] (q ∷ queries) answers z h = absurd z
answered-asks k e (r ∷ rows) [] answers z h = absurd z
answered-asks k e (r ∷ rows) (q ∷ queries) [] z h = absurd h
answered-asks k e (r ∷ rows) (q ∷ queries) (a ∷ answers) z h = (record { query = q; asked = z.0; answer = h.0 }, answered-asks k e rows queries answers z.1 h.1)
