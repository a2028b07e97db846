use Rattle.trunc_series.specs.Shown.{exp_of}
use Rattle.local_product.specs.Majorants.{carried_majorant}
use Rattle.local_product.proofs.Images.{mass-counted}
use Rattle.local_product.proofs.majorants.majorant_mass.Goals as goal

pub returns-clause-mass : goal.returns-clause-mass
returns-clause-mass c = mass-counted c.args.order (carried_majorant c.args.order c.args.halves.now (exp_of c.args.m)) c.carry_majorant.new.sum c.mass.result c.in_ok-carry_majorant.ensures.majorant c.mass.ensures
