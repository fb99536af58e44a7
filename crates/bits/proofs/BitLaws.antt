-- Bits as tests: std's laws of `bit_at`, said of `has`.
use Rattle.std.proofs.Common.{◌≡◌, ℕ, ◌/◌, ◌%◌, ◌^◌, ◌<◌, ◌≤◌, min, max, false, ◌&&◌, ◌||◌, eqb, ap, ◌∙◌, arith}
use lib.Bits.{bit_or, bit_and}
use Rattle.std.specs.Int.{bit_at}
use Rattle.std.proofs.lemmas.Nat.Bits.{bit_at-zero, bit_at_or, bit_at_and, bit_at-lt, bit_at_above, same_from_bits_below}
use Rattle.bits.specs.Bits.{has}

either : (a b : ℕ) → a < 2 → b < 2 → eqb (max a b) 1 ≡ (eqb a 1 || eqb b 1)
either a b p q = grind arith

both : (a b : ℕ) → a < 2 → b < 2 → eqb (min a b) 1 ≡ (eqb a 1 && eqb b 1)
both a b p q = grind arith

-- a bit of `a | b` is 1 where it is in either
pub has_or : (a b k : ℕ) → has (bit_or a b) k ≡ (has a k || has b k)
unfolding has
has_or a b k = ap (λ n. eqb n 1) (bit_at_or a b k) ∙ either (bit_at a k) (bit_at b k) (bit_at-lt a k) (bit_at-lt b k)

-- a bit of `a & b` is 1 where it is in both
pub has_and : (a b k : ℕ) → has (bit_and a b) k ≡ (has a k && has b k)
unfolding has
has_and a b k = ap (λ n. eqb n 1) (bit_at_and a b k) ∙ both (bit_at a k) (bit_at b k) (bit_at-lt a k) (bit_at-lt b k)

pub has_none : (k : ℕ) → has 0 k ≡ false
unfolding has
has_none k = ap (λ n. eqb n 1) (bit_at-zero k)

-- no bit stands past a number's width
pub has_past : (n w k : ℕ) → n < 2 ^ w → w ≤ k → has n k ≡ false
unfolding has
has_past n w k l h = ap (λ m. eqb m 1) (bit_at_above n w k l h)

-- words of w bits are the same where their bits are
pub same_bits : (w n m : ℕ) → n < 2 ^ w → m < 2 ^ w → ((k : ℕ) → k < w → has n k ≡ has m k) → n ≡ m
unfolding has
same_bits w n m p q same = same_from_bits_below w n m p q (λ k l. let e = same k l in grind (arith, bit_at-lt n k, bit_at-lt m k))
