-- Numerals, read digit by digit and saturated, and the range of each number.
use Rattle.std.proofs.Common.{◌≡◌, ℕ, ◌+◌, ◌-◌, ◌*◌, ◌^◌, ◌<◌, ◌≤◌, min, true, false, cond, ltb, leb, eqb, List, [], ◌∷◌, length, get_or, drop, Some, None, Ok, Err, Bool, Option, Result, sym, refl, ap, ◌∙◌, inl, inr, le-mul_of_pos_right, nat_cmp, arith}
use Rattle.std.specs.Char.{digit_value}
use Rattle.std.specs.Ordering.{is_le}
use Rattle.std.specs.Range.{range_inclusive_start, range_inclusive_end, range_inclusive_exhausted, range_inclusive_contains}
use Rattle.std.specs.Result.{result_ok}
use Rattle.std.specs.declared.ops.RangeInclusive.{RangeInclusive}
use Rattle.std.proofs.lemmas.List.{at_drop_more, at_drop_all}
use Rattle.std.proofs.lemmas.Bool.{cases_Bool, cases_lt, le-ltb, lt-ltb, lt-leb, le-leb, eqb-true, eqb-false, and_right}
use Rattle.script.specs.declared.mistake.Flaw.TheVariants.{OutOfRange}
use Rattle.script.specs.declared.mistake.Mistake.{Mistake}
use Rattle.script.specs.declared.mistake.Mistake.TheVariants.{Number}
use Rattle.script.specs.declared.mistake.Place.{Place}
use Rattle.script.specs.declared.mistake.Place.TheVariants.{Signal, Reading, Times, Offset, Value, Length}
use Rattle.script.specs.Numbers.{numeral, numeral_of, saturated, in_range, between, least_of, most_of}

-- what is past the cap stays past it
past : (n b f : ℕ) → 0 < b → 2 ^ 32 - 1 ≤ n → 2 ^ 32 - 1 ≤ n * b + f
past n b f p l = let h = le-mul_of_pos_right {m = b} n p in omega arith

cap_step : (n b f : ℕ) → 0 < b → min (min n (2 ^ 32 - 1) * b + f) (2 ^ 32 - 1) ≡ min (n * b + f) (2 ^ 32 - 1)
cap_step n b f p =
    elim (cases_lt n (2 ^ 32 - 1)) [
      | inl l ↦ ap (λ m. min (m * b + f) (2 ^ 32 - 1)) (omega arith)
      | inr l ↦
          let x = past n b f p l in
          let e : min n (2 ^ 32 - 1) ≡ 2 ^ 32 - 1 = omega arith in
          let y = past (2 ^ 32 - 1) b f p (omega arith) in
          ap (λ m. min (m * b + f) (2 ^ 32 - 1)) e ∙ omega arith
    ]

-- the cap may come at any digit
saturated_on : (b n : ℕ) (cs : List ℕ) → 0 < b → saturated (numeral b (min n (2 ^ 32 - 1)) cs) ≡ saturated (numeral b n cs)
saturated_on b n [] p = ap (λ m. Some m) (omega arith)
saturated_on b n (c ∷ cs) p =
    elim (ltb (digit_value c) b) as (λ v. saturated (cond v (numeral b (min n (2 ^ 32 - 1) * b + digit_value c) cs) None) ≡ saturated (cond v (numeral b (n * b + digit_value c) cs) None)) [
      | true ↦
          sym (saturated_on b (min n (2 ^ 32 - 1) * b + digit_value c) cs p)
          ∙ ap (λ m. saturated (numeral b m cs)) (cap_step n b (digit_value c) p)
          ∙ saturated_on b (n * b + digit_value c) cs p
      | false ↦ refl
    ]

pub numeral_more : (b n m d : ℕ) (bs : List ℕ) (i : ℕ) (o : Option ℕ) → 0 < b → i < length bs → d ≡ digit_value (get_or bs i 0) → d < b → m ≡ min (min (n * b) (2 ^ 32 - 1) + d) (2 ^ 32 - 1)
    → saturated (numeral b n (drop i bs)) ≡ o → saturated (numeral b m (drop (i + 1) bs)) ≡ o
numeral_more b n m d bs i o p l e f k h =
    let v = digit_value (get_or bs i 0) in
    let t : ltb v b ≡ true = lt-ltb _ _ (omega arith) in
    let one : saturated (numeral b n (get_or bs i 0 ∷ drop (i + 1) bs)) ≡ saturated (numeral b (n * b + v) (drop (i + 1) bs)) = simp t in
    let same : m ≡ min (n * b + v) (2 ^ 32 - 1) = omega arith in
    ap (λ j. saturated (numeral b j (drop (i + 1) bs))) same
    ∙ saturated_on b (n * b + v) (drop (i + 1) bs) p
    ∙ sym one
    ∙ sym (at_drop_more (λ t. saturated (numeral b n t)) bs i 0 l)
    ∙ h

pub numeral_all : (b n : ℕ) (bs : List ℕ) (i : ℕ) (o : Option ℕ) → length bs ≤ i → n ≤ 2 ^ 32 - 1 → saturated (numeral b n (drop i bs)) ≡ o → Some n ≡ o
numeral_all b n bs i o l m h =
    let e : n ≡ min n (2 ^ 32 - 1) = omega arith in
    ap (λ k. Some k) e ∙ sym (at_drop_all (λ t. saturated (numeral b n t)) bs i l) ∙ h

pub some_numeral : (b : ℕ) (bs : List ℕ) → 0 < length bs → numeral b 0 bs ≡ numeral_of b bs
some_numeral b [] l = absurd (omega arith)
some_numeral b (c ∷ cs) l = refl

pub le_is : (a b : ℕ) → is_le (nat_cmp a b) ≡ leb a b
le_is a b =
    elim (cases_lt a b) [
      | inl l ↦ let t = lt-ltb a b l in let s = le-leb a b (omega arith) in simp (t, s)
      | inr l ↦
          let t = le-ltb a b l in
          elim (cases_Bool (eqb a b)) [
            | inl e ↦ let q = eqb-true a b e in let s = le-leb a b (omega arith) in simp (t, e, s)
            | inr e ↦ let q = eqb-false a b e in let s = lt-leb a b (omega arith) in simp (t, e, s)
          ]
    ]

-- what the range of a place says of a number
pub within : (p : Place) (n : ℕ) {r : RangeInclusive ℕ} {v b : Bool} → range_inclusive_start r ≡ least_of p → range_inclusive_end r ≡ most_of p → range_inclusive_exhausted r ≡ false
    → v ≡ range_inclusive_contains (λ x y. Some (nat_cmp x y)) r n → v ≡ b → between (least_of p) (most_of p) n ≡ b
within p n {r} s e x h k = let w : range_inclusive_contains (λ x y. Some (nat_cmp x y)) r n ≡ between (least_of p) (most_of p) n = simp (x, le_is, s, e) in sym w ∙ sym h ∙ k

-- the number that was read
pub written : {o s : Option ℕ} {r : Result ℕ Mistake} {n : ℕ} → o ≡ result_ok r → r ≡ Ok n → o ≡ s → Some n ≡ s
written f w e = sym (f ∙ ap result_ok w) ∙ e

most_fits : (p : Place) → most_of p < 65536
most_fits Signal = omega arith
most_fits Reading = omega arith
most_fits Times = omega arith
most_fits Offset = omega arith
most_fits Value = omega arith
most_fits Length = omega arith

pub past_range : (p : Place) (n : ℕ) → 65536 ≤ n → between (least_of p) (most_of p) n ≡ false
past_range p n l = let f = most_fits p in and_right (leb (least_of p) n) (leb n (most_of p)) (lt-leb n (most_of p) (omega arith))

-- the cap is past every range
saturated_range : (p : Place) (o : Option ℕ) → in_range p (saturated o) ≡ in_range p o
saturated_range p None = refl
saturated_range p (Some n) =
    elim (cases_lt n (2 ^ 32 - 1)) [
      | inl l ↦ let e : min n (2 ^ 32 - 1) ≡ n = omega arith in ap (λ m. in_range p (Some m)) e
      | inr l ↦ let a = past_range p n (omega arith) in let b = past_range p (min n (2 ^ 32 - 1)) (omega arith) in simp (a, b)
    ]

pub inside : (p : Place) (o : Option ℕ) (n : ℕ) → Some n ≡ saturated o → between (least_of p) (most_of p) n ≡ true → Ok n ≡ in_range p o
inside p o n e h = let z : Ok n ≡ in_range p (Some n) = simp h in z ∙ ap (in_range p) e ∙ saturated_range p o

pub outside : (p : Place) (o : Option ℕ) (n : ℕ) → Some n ≡ saturated o → between (least_of p) (most_of p) n ≡ false → Err (Number p OutOfRange) ≡ in_range p o
outside p o n e h = let z : Err (Number p OutOfRange) ≡ in_range p (Some n) = simp h in z ∙ ap (in_range p) e ∙ saturated_range p o
