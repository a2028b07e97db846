-- Powers that are taken, for all live walls where a part of them has those on the point.
use Rattle.std.proofs.Common.{◌≡◌, ℕ, ◌≤◌, sym, subst, List, map, arith}
use Rattle.scattering.specs.Series.{absolute, pow}
use Rattle.scattering.specs.Plane.{Point}
use Rattle.scattering.specs.Wall.{Wall}
use Rattle.scattering.specs.BrokenLine.{product}
use Rattle.trunc_series.specs.Shown.{Seen, IsSeriesOf}
use Rattle.trunc_series.specs.Capped.{IsMajorantOf}
use Rattle.bend_finder.specs.declared.power_key.PowerKey.{PowerKey}
use Rattle.bend_finder.specs.Powers.{power_majorant, power_series}
use Rattle.bend_finder.specs.Runs.{HasLiveOn}
use Rattle.bend_finder.specs.Kept.{IsMajorantAt, IsSeriesAt, key_point}

itself : (m n : ℕ) → m ≡ n → n ≤ m
itself m n e = omega (arith, e)

module _ (most : ℕ) (ls g : List Wall) (q : Point) (k : PowerKey) (v : Seen) (p : key_point k ≡ q) (s : HasLiveOn ls q g) where
  pub new-majorant : IsMajorantOf v most (power_majorant most g q k.times) → (most ≤ v.order) × IsMajorantAt ls k v
  new-majorant h = (itself v.order most h.order, subst (λ (n : ℕ). IsMajorantOf v n (power_majorant n ls (key_point k) k.times)) (sym h.order) there)
    where
      there : IsMajorantOf v most (power_majorant most ls (key_point k) k.times)
      there = subst (λ (r : Point). IsMajorantOf v most (power_majorant most ls r k.times)) (sym p) (subst (λ (us : List Wall). IsMajorantOf v most (pow most (product most (map (λ w. absolute w.function) us)) k.times)) s h)

  pub new-series : IsSeriesOf v most (power_series most g q k.times) → (most ≤ v.order) × IsSeriesAt ls k v
  new-series h = (itself v.order most h.order, subst (λ (n : ℕ). IsSeriesOf v n (power_series n ls (key_point k) k.times)) (sym h.order) there)
    where
      there : IsSeriesOf v most (power_series most ls (key_point k) k.times)
      there = subst (λ (r : Point). IsSeriesOf v most (power_series most ls r k.times)) (sym p) (subst (λ (us : List Wall). IsSeriesOf v most (pow most (product most (map (λ w. w.function) us)) k.times)) s h)
