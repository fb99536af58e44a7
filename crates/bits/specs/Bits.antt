-- The bits of a number.
use Rattle.std.specs.Prelude.{◌≡◌, ℕ, ◌<◌, ◌≤◌, Bool, true, ◌==◌, ◌≢◌}
use Rattle.std.specs.Int.{bit_at}

-- whether bit k of n is 1
unfoldable pub has : ℕ → ℕ → Bool
has n k = bit_at n k == 1

-- m is n with bit k 1: of 32 bits, none past the last
pub record Sets (n k m : ℕ) : Type 0 where
  pub here : k < 32 → has m k ≡ true
  pub others : (j : ℕ) → (j ≢ k) → has m j ≡ has n j
  pub past : 32 ≤ k → m ≡ n
