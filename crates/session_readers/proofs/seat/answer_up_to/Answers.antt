use Rattle.std.proofs.Common.{refl, length, arith}
use Rattle.std.proofs.lemmas.Option.{slice_get_read}
use Rattle.session_readers.proofs.Continued.{continued-more}
use Rattle.session_readers.proofs.seat.answer_up_to.Goals as goal

pub loop-i-preserved : goal.loop-i-preserved
loop-i-preserved g c =
    let asks = c.args.asks.now in
    let i = c.loop-i.i in
    let before = c.loop-i.invariant in
    let here = slice_get_read asks (length asks) i c.index-asks-i.result refl (omega (arith, c.loop-i-test.true, c.requires.within)) c.index-asks-i.is in
    let more = continued-more asks c.args.to i c.args.seat c.loop-i.seat c.in-Ok.next c.index-asks-i.result before.continued before.length (omega (arith, c.loop-i-test.true)) here c.in-Ok.ensures in record {
      length = more.0;
      continued = more.1;
    }
