use Rattle.std.proofs.Common.{◌≡◌, suc, length}
use Rattle.trunc_series.specs.declared.arithmetic.Arithmetic.TheVariants.{Saturating}
use Rattle.trunc_series.specs.Shown.{exp_of}
use Rattle.wall_auto.specs.ByDegree.{StandsByDegree, PartsGrowBy, AreKept}
use Rattle.local_product.specs.OneVariable.{in_one_variable}
use Rattle.local_product.proofs.Stages.{majorant_to}
use Rattle.local_product.proofs.majorants.carry_majorant.Given as goal

abbrev pub invariant-loop-h : goal.invariant-loop-h
invariant-loop-h l = record {
  order : length l.sum ≡ suc l.order;
  stands : StandsByDegree Saturating l.order l.sum (in_one_variable (majorant_to l.order (exp_of l.fn.m) l.halves l.h-index));
  within : PartsGrowBy 1 64 l.sum;
  kept : AreKept Saturating l.sum;
}
