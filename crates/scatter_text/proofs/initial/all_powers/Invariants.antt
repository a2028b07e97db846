-- The powers below i are those given, and the others 0.
use Rattle.scatter_text.proofs.Powers.{AreSet}
use Rattle.scatter_text.proofs.initial.all_powers.Given as goal

abbrev pub invariant-loop-i : goal.invariant-loop-i
invariant-loop-i l = AreSet l.powers l.given l.i
