-- A table, looked up.
use Rattle.std.proofs.Common.{◌≡◌, ℕ, List, length, Some, None, Option, ap, cond, arith}
use Rattle.std.specs.Prelude.{slice_index, nat_lt}
use Rattle.std.specs.Borrow.{Bor}
use Rattle.std.specs.Option.{option_copied}
use Rattle.std.specs.Slice.{IsItemAt}
use Rattle.std.proofs.lemmas.Bool.{lt-ltb, le-ltb}

-- the entry at a place, if the table has it
abbrev pub entry : List ℕ → ℕ → Option ℕ
entry xs i = cond (nat_lt i (length xs)) (Some (slice_index xs i)) None

pub looked_up : (xs : List ℕ) (i : ℕ) (r : Option (Bor ℕ)) → IsItemAt xs i r → option_copied r ≡ entry xs i
looked_up xs i None h = let t = le-ltb i (length xs) h.3 in simp t
looked_up xs i (Some x) h =
    let t = lt-ltb i (length xs) h.3.0 in
    let e : x.now ≡ slice_index xs i = h.4 (omega arith) 0 in
    simp t (ap (λ n. Some n) e)
