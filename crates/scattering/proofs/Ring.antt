-- Identities over whole numbers: each is read as a difference of naturals, and then `omega` multiplies out.
use Rattle.std.proofs.Common.{◌≡◌, ℕ, ap, ◌+◌, ◌*◌, arith}
use Rattle.std.specs.Prelude.{ℤ, pos, ◌+ℤ◌, ◌-ℤ◌, ◌*ℤ◌, neg_ℤ}
use Rattle.std.proofs.lemmas.Int.{ints}
use borrow.Author.Differences.{up, down}

-- a - b
pub dif : ℕ → ℕ → ℤ
dif a b = pos a -ℤ pos b

pub dif-up : (z : ℤ) → z ≡ dif (up z) (down z)
unfolding dif
dif-up z = omega (arith, ints)

pub dif-pos : (n : ℕ) → pos n ≡ dif n 0
unfolding dif
dif-pos n = omega (arith, ints)

pub dif-add : (a b c d : ℕ) → dif a b +ℤ dif c d ≡ dif (a + c) (b + d)
unfolding dif
dif-add a b c d = omega (arith, ints)

pub dif-neg : (a b : ℕ) → neg_ℤ (dif a b) ≡ dif b a
unfolding dif
dif-neg a b = omega (arith, ints)

pub dif-same : (a b c d : ℕ) → a + d ≡ c + b → dif a b ≡ dif c d
unfolding dif
dif-same a b c d e = omega (arith, ints, e)

products : (a b c d u v s t : ℕ) → u + b ≡ v + a → s + d ≡ t + c → u * s + v * t + (a * d + b * c) ≡ (u * t + v * s) + (a * c + b * d)
products a b c d u v s t e f =
    let p : (u + b) * s ≡ (v + a) * s = ap (λ n. n * s) e in
    let q : (u + b) * t ≡ (v + a) * t = ap (λ n. n * t) e in
    let r : a * (s + d) ≡ a * (t + c) = ap (λ n. a * n) f in
    let w : b * (s + d) ≡ b * (t + c) = ap (λ n. b * n) f in
    omega (arith, p, q, r, w)

up-dif : (a b : ℕ) → up (dif a b) + b ≡ down (dif a b) + a
unfolding dif
up-dif a b = omega (arith, ints)

by_parts : (x y : ℤ) (a b c d : ℕ) → up x + b ≡ down x + a → up y + d ≡ down y + c → x *ℤ y ≡ dif (a * c + b * d) (a * d + b * c)
unfolding dif
by_parts x y a b c d e f = omega (arith, ints, products a b c d (up x) (down x) (up y) (down y) e f)

pub dif-mul : (a b c d : ℕ) → dif a b *ℤ dif c d ≡ dif (a * c + b * d) (a * d + b * c)
dif-mul a b c d = by_parts (dif a b) (dif c d) a b c d (up-dif a b) (up-dif c d)
