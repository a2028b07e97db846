-- The answers to the queries of the file's asks are printed.
use Rattle.std.proofs.Common.{ℕ, List, subst}
use Rattle.std.specs.List.{AllZip}
use Rattle.std.proofs.lemmas.Result.{IfOk-weaker}
use Rattle.std.proofs.lemmas.Slice.Zip.{AllZip-long}
use Rattle.scattering.specs.Wall.{walls}
use Rattle.scatter_diagram.specs.Stopped.{stop_of}
use Rattle.theta_algebra.specs.declared.query.Query.{Query}
use Rattle.theta_algebra.specs.declared.query.Answer.{Answer}
use Rattle.theta_algebra.specs.Answering.{IsAnswer}
use Rattle.scatter_text.specs.GivenQueries.{IsReadersQueryOf}
use Rattle.scatter_text.specs.AnswersText.{IsAnswersText}
use Rattle.scatter_text.proofs.AskQueries.{queries-small}
use Rattle.scatter_run.proofs.AskedText.{answered-asks}
use Rattle.scatter_run.proofs.printing.write_asked.Goals as goal

pub answer_all-requires-clause-queries : goal.answer_all-requires-clause-queries
answer_all-requires-clause-queries g c κs within = rw c.as_slice.ensures.value (queries-small c.args.file.now c.in_ok-asks.asks.items c.requires.asks c.in_ok-asks.ensures)

pub answer_all-requires-clause-few_asks : goal.answer_all-requires-clause-few_asks
answer_all-requires-clause-few_asks g c κs within =
    let same = AllZip-long IsReadersQueryOf c.args.file.now.asks c.in_ok-asks.asks.items c.in_ok-asks.ensures in
    let few = c.requires.few_asks in rw c.as_slice.ensures.value (rw same few)

pub returns : goal.returns
returns g c =
    let file = c.args.file.now in
    let e = c.args.e.now in
    let stop = stop_of c.args.stop in
    let queries = c.in_ok-asks.asks.items in
    let answers = c.in_ok-answers.answers.items in
    let each : AllZip (λ q a. IsAnswer (walls e.diagram) e.order q.1 a) queries answers = subst (λ (xs : List (ℕ × Query)). AllZip (λ q a. IsAnswer (walls e.diagram) e.order q.1 a) xs answers) c.as_slice.ensures.value c.in_ok-answers.ensures.answers in
    IfOk-weaker c.write_answers.result _ _
    (λ text is. record {
      answers = answers;
      each = answered-asks e.order e.diagram file.asks queries answers c.in_ok-asks.ensures each;
      printed =
          subst (λ (n : ℕ). IsAnswersText c.args.vars n stop answers text.items) c.order.ensures.value
          (subst (λ (xs : List Answer). IsAnswersText c.args.vars c.order.result stop xs text.items) c.as_slice-2.ensures.value is);
    })
    c.write_answers.ensures
