-- Setting, clearing and naming the bits of a mode.
use Rattle.std.proofs.Common.{◌≡◌, ℕ, zero, suc, ◌-◌, ◌^◌, ◌<◌, ◌≤◌, Bool, true, false, not, ◌&&◌, ◌||◌, if◌then◌else◌, eqb, List, sym, refl, ap, ◌∙◌, ⊎_elim, w16, arith}
use lib.Bits.{bit_and, bit_or}
use Rattle.std.specs.Int.{bit_at}
use Rattle.std.proofs.lemmas.Nat.{or_lt}
use Rattle.std.proofs.lemmas.Nat.Bits.{bit_at_not, bit_at-lt}
use Rattle.std.proofs.lemmas.Bool.{agree_below_at, cases_Bool, cases_lt, cases_eq, eq-eqb, ne_eqb, and_parts, and_from, true≢false}
use Rattle.bits.specs.Bits.{has}
use Rattle.bits.proofs.BitLaws.{has_or, has_and, has_past, same_bits}
use Rattle.settings.specs.declared.mode.ModeBit.{ModeBit}
use Rattle.settings.specs.Modes.{among, carried, names_only, names_only_below}

not_bit : (n : ℕ) → n < 2 → eqb (1 - n) 1 ≡ not (eqb n 1)
not_bit n l = grind arith

-- `m & !v` clears the bits that are 1 in v
pub cleared_bit : (m v k : ℕ) → m < 2 ^ 16 → v < 2 ^ 16 → has (bit_and m (65535 - v)) k ≡ (has m k && not (has v k))
unfolding has
cleared_bit m v k l h =
    has_and m (65535 - v) k
    ∙ ⊎_elim
    (λ (low : k < 16). ap (λ b. has m k && b) (ap (λ n. eqb n 1) (bit_at_not w16 v k h low) ∙ not_bit (bit_at v k) (bit_at-lt v k)))
    (λ (high : 16 ≤ k). let none = has_past m 16 k l high in rw none refl)
    (cases_lt k 16)

-- bit k of the value is 0 or among these
abbrev Named : List ModeBit → ℕ → ℕ → Type 0
Named bs v k = (not (has v k) || among bs k) ≡ true

named_below : (bs : List ModeBit) (v n k : ℕ) → names_only_below n bs v ≡ true → k < n → Named bs v k
named_below bs v zero k e l = absurd (omega arith)
named_below bs v (suc n) k e l =
    let parts = and_parts (not (has v n) || among bs n) (names_only_below n bs v) e in
    ⊎_elim (λ (q : k ≡ n). rw q parts.0) (λ (q : k ≡ n → ⊥). named_below bs v n k parts.1 (omega arith)) (cases_eq k n)

names_below : (bs : List ModeBit) (v n : ℕ) → ((k : ℕ) → k < n → Named bs v k) → names_only_below n bs v ≡ true
names_below bs v zero h = refl
names_below bs v (suc n) h = and_from (not (has v n) || among bs n) (names_only_below n bs v) (h n (omega arith)) (names_below bs v n (λ k l. h k (omega arith)))

-- a bit that is among c's adds none to it
or_implies : (a b : Bool) → (a || b) ≡ b → (not a || b) ≡ true
or_implies true b e = sym e
or_implies false b e = refl

implies_or : (a b : Bool) → (not a || b) ≡ true → (a || b) ≡ b
implies_or true b e = sym e
implies_or false b e = refl

-- `v | c == c` asks whether each bit of v is one of those of c
mask_names : (bs : List ModeBit) (v c : ℕ) → v < 2 ^ 16 → c < 2 ^ 16 → ((k : ℕ) → k < 16 → has c k ≡ among bs k) → eqb (bit_or v c) c ≡ names_only bs v
unfolding names_only
mask_names bs v c l h is =
    ⊎_elim
    (λ (e : names_only_below 16 bs v ≡ true).
    let bits : (k : ℕ) → k < 16 → has (bit_or v c) k ≡ has c k = λ k m. has_or v c k ∙ implies_or (has v k) (has c k) (rw (is k m) (named_below bs v 16 k e m)) in
    eq-eqb (bit_or v c) c (same_bits 16 (bit_or v c) c (or_lt 16 v c l h) h bits) ∙ sym e)
    (λ (e : names_only_below 16 bs v ≡ false).
    let named : bit_or v c ≡ c → names_only_below 16 bs v ≡ true =
    λ same. names_below bs v 16 (λ k m. ap (λ b. not (has v k) || b) (sym (is k m)) ∙ or_implies (has v k) (has c k) (sym (has_or v c k) ∙ ap (λ n. has n k) same)) in
    ne_eqb (bit_or v c) c (λ same. true≢false (sym (named same) ∙ e)) ∙ sym e)
    (cases_Bool (names_only_below 16 bs v))

-- the bits that a board carries, as a word
pub carried_names : (step : Bool) (v : ℕ) → v < 2 ^ 16 → let c : ℕ = if step then 0x519E else 0x509E in eqb (bit_or v c) c ≡ names_only (carried step) v
unfolding has
carried_names true v l = mask_names (carried true) v 0x519E l (omega arith) (λ k m. agree_below_at (has 0x519E) (among (carried true)) 16 k refl m)
carried_names false v l = mask_names (carried false) v 0x509E l (omega arith) (λ k m. agree_below_at (has 0x509E) (among (carried false)) 16 k refl m)

among_only : (a b : Bool) → (not a || b) ≡ true → b ≡ false → a ≡ false
among_only true b e n = sym e ∙ n
among_only false b e n = refl

-- a value that a board takes does not name AUTO INCR
pub auto_incr_unnamed : (step : Bool) (v : ℕ) → names_only (carried step) v ≡ true → has v 11 ≡ false
unfolding names_only
auto_incr_unnamed true v e = among_only (has v 11) false (named_below (carried true) v 16 11 e (omega arith)) refl
auto_incr_unnamed false v e = among_only (has v 11) false (named_below (carried false) v 16 11 e (omega arith)) refl
