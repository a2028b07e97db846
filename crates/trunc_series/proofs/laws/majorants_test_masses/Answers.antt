use Rattle.trunc_series.proofs.laws.majorants_test_masses.Goals as goal
use Rattle.trunc_series.proofs.MajorantLaws.{majorant-tests}
use Rattle.trunc_series.proofs.PowerTests.{power-tests, negative-power-tests, has-geometric}

pub returns-clause-product : goal.returns-clause-product
returns-clause-product c = majorant-tests

pub returns-clause-power : goal.returns-clause-power
returns-clause-power c = power-tests

pub returns-clause-negative_power : goal.returns-clause-negative_power
returns-clause-negative_power c = negative-power-tests

pub returns-clause-geometric : goal.returns-clause-geometric
returns-clause-geometric c = has-geometric
