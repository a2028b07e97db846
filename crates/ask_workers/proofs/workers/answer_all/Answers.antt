-- Each answer is told in its own place.
use Rattle.std.proofs.Common.{ℕ, ◌<◌, length, arith, zero-le}
use Rattle.std.proofs.lemmas.List.Elements.{AllWithin-more_set}
use Rattle.std.proofs.lemmas.Slice.Zip.{AllZip-long}
use Rattle.scattering.specs.Wall.{walls}
use Rattle.theta_algebra.specs.Answering.{IsAnswer, IsToldAnswer}
use Rattle.ask_workers.proofs.Kept.{zip-at, zip-set}
use Rattle.ask_workers.proofs.workers.answer_all.Goals as goal

pub index_mut-requires : goal.index_mut-requires
index_mut-requires g c =
    let same = AllZip-long (λ a x. IsAnswer (walls c.args.e.now.diagram) c.args.e.now.order a.1 x) c.args.asks.now c.loop-i.answers.items c.loop-i.invariant.answers in
    omega (arith, same, c.loop-i-test.true, c.loop-i.answers.ok)

pub tell-requires-clause-found : goal.tell-requires-clause-found
tell-requires-clause-found g c =
    zip-at (λ a x. IsAnswer (walls c.args.e.now.diagram) c.args.e.now.order a.1 x) c.args.asks.now c.loop-i.answers.items c.loop-i.i c.index-asks-i.result c.index_mut.result.now (omega (arith, c.loop-i-test.true)) c.index-asks-i.is c.index_mut.ensures.value c.loop-i.invariant.answers

pub loop-i-preserved : goal.loop-i-preserved
loop-i-preserved g c =
    let answers = c.loop-i.answers.items in
    let found = c.tell.new.found in
    let same = AllZip-long (λ a x. IsAnswer (walls c.args.e.now.diagram) c.args.e.now.order a.1 x) c.args.asks.now answers c.loop-i.invariant.answers in
    let within : c.loop-i.i < length answers = omega (arith, same, c.loop-i-test.true) in record {
      answers = zip-set (λ a x. IsAnswer (walls c.args.e.now.diagram) c.args.e.now.order a.1 x) c.args.asks.now answers c.loop-i.i c.index-asks-i.result found (omega (arith, c.loop-i-test.true)) c.index-asks-i.is c.in_ok-tell.ensures.answer c.loop-i.invariant.answers;
      told = AllWithin-more_set answers c.loop-i.i found within IsToldAnswer c.loop-i.invariant.told c.in_ok-tell.ensures.told;
    }

pub returns-clause-told : goal.returns-clause-told
returns-clause-told g c =
    let same = AllZip-long (λ a x. IsAnswer (walls c.args.e.now.diagram) c.args.e.now.order a.1 x) c.args.asks.now c.loop-i.answers.items c.loop-i.invariant.answers in
    λ k d l. c.loop-i.invariant.told k d zero-le (omega (arith, same, l, c.loop-i-test.false))
