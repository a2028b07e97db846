use Rattle.std.proofs.Common.{sym, subst, [], ◌∷◌, ◌++◌, arith}
use Rattle.std.proofs.lemmas.List.{length_push}
use Rattle.session_readers.specs.Seats.{AreNewSeats}
use Rattle.session_readers.proofs.Begun.{new-more}
use Rattle.session_readers.proofs.readers.seat_all.Goals as goal

pub loop-reader-preserved : goal.loop-reader-preserved
loop-reader-preserved c =
    let readers = c.loop-reader.yielded in
    let before = c.loop-reader.invariant in record {
      number = let n = before.number in omega (arith, n, length_push readers c.in-Some.reader);
      seats = subst (AreNewSeats (readers ++ c.in-Some.reader ∷ [])) (sym c.in_ok-push.ensures.items)
          (new-more readers c.loop-reader.seats.items c.in-Some.reader _ before.seats (record {
            number = let n = before.number in omega (arith, n);
            reader = c.new.ensures;
            answers = c.in_ok-with_capacity.ensures.items;
          }));
    }
