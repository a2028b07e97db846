use Rattle.std.proofs.Common.{subst}
use Rattle.session_readers.specs.Seats.{AreNewSeats}
use Rattle.session_readers.proofs.session.open_store.Goals as goal

pub returns-in-Ok-clause-seats : goal.returns-in-Ok-clause-seats
returns-in-Ok-clause-seats g c = subst (λ es. AreNewSeats es c.in-Ok.seats.items) c.in_ok-epochs.ensures.readers c.in-Ok.ensures
