-- What stands at a place of a run.
use Rattle.std.specs.Prelude.{ℕ, cond, List, length, Some, None, Ok, Err, Option, Result, ◌==◌, nat_lt}
use Rattle.reader.specs.declared.fault.RunFault.{RunFault}
use Rattle.reader.specs.declared.fault.RunFault.TheVariants.{Event}
use Rattle.reader.specs.declared.fault.Refusal.{Refusal}
use Rattle.reader.specs.declared.fault.Refusal.TheVariants.{TooLong, PastEnd, Fault}
use Rattle.reader.specs.Items.{Entry}
use Rattle.reader.specs.Events.{item_at}
use Rattle.reader.specs.Then.{then_by}

-- the end, or an item
abbrev pub run_at : List ℕ → ℕ → Result (Option (Entry × ℕ)) RunFault
run_at run p = cond (p == length run) (Ok None) (then_by (item_at run p) Event (λ x. Ok (Some x)))

-- a run of at most 16,384 words, and a place up to its end
abbrev pub read_at : List ℕ → ℕ → Result (Option (Entry × ℕ)) Refusal
read_at run p =
    cond (nat_lt 16384 (length run)) (Err TooLong) (cond (nat_lt (length run) p) (Err PastEnd) (then_by (run_at run p) Fault (λ x. Ok x)))
