-- Powers that are kept, by point and number.
--     AreKeptPowers ls k              what k keeps are powers of the product of the functions of the live ones of the walls ls
--     AreKeptIn m n                m has no entry that n hasn't
--     IsTaken P k most m v      v has P at the key k, and is of order `most` at least
use Rattle.std.specs.Prelude.{◌≡◌, ℕ, ◌≤◌, List, Some}
use Rattle.std.specs.BTreeMap.{BTreeMap, get}
use Rattle.std.specs.Ordering.{int_cmp, nat_cmp, ordering_then}
use Rattle.std.specs.declared.cmp.Ordering.{Ordering}
use Rattle.scattering.specs.Plane.{Point}
use Rattle.scattering.specs.Wall.{Wall}
use Rattle.trunc_series.specs.Shown.{Seen, IsSeriesOf}
use Rattle.trunc_series.specs.Capped.{IsMajorantOf}
use Rattle.bend_finder.specs.declared.power_key.PowerKey.{PowerKey}
use Rattle.bend_finder.specs.declared.kept.KeptPowers.{KeptPowers}
use Rattle.bend_finder.specs.Powers.{power_majorant, power_series}

-- the order of keys: by x, y, w and the number
abbrev pub power_key_cmp : PowerKey → PowerKey → Ordering
power_key_cmp k l = ordering_then (int_cmp k.x l.x) (ordering_then (int_cmp k.y l.y) (ordering_then (int_cmp k.w l.w) (nat_cmp k.times l.times)))

abbrev pub key_point : PowerKey → Point
key_point k = record { x = k.x; y = k.y; w = k.w }

abbrev pub IsMajorantAt : List Wall → PowerKey → Seen → Type 0
IsMajorantAt ls k m = IsMajorantOf m m.order (power_majorant m.order ls (key_point k) k.times)

abbrev pub IsSeriesAt : List Wall → PowerKey → Seen → Type 0
IsSeriesAt ls k s = IsSeriesOf s s.order (power_series s.order ls (key_point k) k.times)

abbrev pub HasPower : BTreeMap PowerKey Seen → PowerKey → Seen → Type 0
HasPower m k v = get power_key_cmp m k ≡ Some v

abbrev pub AllHave : (PowerKey → Seen → Type 0) → BTreeMap PowerKey Seen → Type 0
AllHave P m = (k : PowerKey) (v : Seen) → HasPower m k v → P k v

pub record AreKeptPowers (ls : List Wall) (k : KeptPowers) : Type 0 where
  pub majorants : AllHave (IsMajorantAt ls) k.majorants
  pub series : AllHave (IsSeriesAt ls) k.series

abbrev pub AreKeptIn : BTreeMap PowerKey Seen → BTreeMap PowerKey Seen → Type 0
AreKeptIn m n = (k : PowerKey) (v : Seen) → HasPower m k v → HasPower n k v

-- where all that m has has P
abbrev pub IsTaken : (PowerKey → Seen → Type 0) → PowerKey → ℕ → BTreeMap PowerKey Seen → Seen → Type 0
IsTaken P k most m v = (most ≤ v.order) × (AllHave P m → P k v)
