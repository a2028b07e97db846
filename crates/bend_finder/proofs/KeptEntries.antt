-- What a map of kept powers has after one is taken out, or put in.
use Rattle.std.proofs.Common.{◌≡◌}
use Rattle.std.specs.Prelude.{Some, None}
use Rattle.std.specs.BTreeMap.{BTreeMap, Updates, IsUnchanged}
use Rattle.std.specs.Ordering.{int_cmp, nat_cmp, ordering_then}
use Rattle.std.specs.declared.cmp.Ordering.TheVariants.{Equal}
use Rattle.std.proofs.lemmas.Map.Lookups.{exact_signed, exact_unsigned}
use Rattle.trunc_series.specs.Shown.{Seen}
use Rattle.bend_finder.specs.declared.power_key.PowerKey.{PowerKey}
use Rattle.bend_finder.specs.Kept.{power_key_cmp, HasPower, AllHave, AreKeptIn}
use Rattle.bend_finder.proofs.KeptMaps.{both-equal, put-has as has-put, taken-has, same-has}

-- ---- the order tells keys apart

pub exact-key : (k l : PowerKey) → power_key_cmp k l ≡ Equal → k ≡ l
exact-key k l e =
    let a = both-equal (int_cmp k.x l.x) (ordering_then (int_cmp k.y l.y) (ordering_then (int_cmp k.w l.w) (nat_cmp k.times l.times))) e in
    let b = both-equal (int_cmp k.y l.y) (ordering_then (int_cmp k.w l.w) (nat_cmp k.times l.times)) a.1 in
    let c = both-equal (int_cmp k.w l.w) (nat_cmp k.times l.times) b.1 in
    let x = exact_signed k.x l.x a.0 in
    let y = exact_signed k.y l.y b.0 in
    let w = exact_signed k.w l.w c.0 in
    let n = exact_unsigned k.times l.times c.1 in
    λ i. record { x = x i; y = y i; w = w i; times = n i }

module _ (m n : BTreeMap PowerKey Seen) (k : PowerKey) where
  -- one is put in
  pub put-has : (P : PowerKey → Seen → Type 0) (v : Seen) → Updates power_key_cmp m n k (Some v) → P k v → AllHave P m → AllHave P n
  put-has P v u p h = has-put power_key_cmp P m n exact-key k v u p h

  -- one is taken out
  pub taken-part : Updates power_key_cmp m n k None → AreKeptIn n m
  taken-part u = taken-has power_key_cmp (HasPower m) m n k u (λ l w e. e)

pub part-has : (m n : BTreeMap PowerKey Seen) (P : PowerKey → Seen → Type 0) → AreKeptIn n m → AllHave P m → AllHave P n
part-has m n P p h k v e = h k v (p k v e)

-- nothing is changed
pub unchanged-part : (m n : BTreeMap PowerKey Seen) → IsUnchanged m n → AreKeptIn n m
unchanged-part m n e = same-has power_key_cmp (HasPower m) m n e (λ l w h. h)
