-- What is said of a stop, said more weakly.
use Rattle.std.proofs.Common.{ℕ}
use Rattle.scattering.specs.Stops.{StopCause}
use Rattle.scatter_diagram.specs.declared.stop.Stop.{Stop}
use Rattle.scatter_diagram.specs.declared.stop.Stop.TheVariants.{At, Memory}
use Rattle.scatter_diagram.specs.Stopped.{cause_of, IfStop}

pub IfStop-weaker : (s : Stop) (P Q : ℕ → StopCause → Type 0) → ((n : ℕ) (c : StopCause) → P n c → Q n c) → IfStop s P → IfStop s Q
IfStop-weaker (At n c) P Q f h = f n (cause_of c) h
IfStop-weaker Memory P Q f h = tt
