-- The two kinds of front end.
use Rattle.std.specs.Prelude.{ℕ, ◌*◌, true, false, List, [], ◌∷◌}
use Rattle.front_ends.specs.declared.step.Step.{Step}
use Rattle.front_ends.specs.declared.step.Step.TheVariants.{Coarse, Fine}
use Rattle.front_ends.specs.Fronts.{Front}

abbrev pub time_tags : List ℕ
time_tags =
    0 ∷ 1 ∷ 2 ∷ 3 ∷ 4 ∷ 5 ∷ 6 ∷ 7 ∷ 8 ∷ 9 ∷ 10 ∷ 11 ∷ 12 ∷ 13 ∷ 14 ∷ 15 ∷ 16 ∷ 17 ∷ 18 ∷ 19 ∷ 20 ∷ 21 ∷ 22 ∷ 23 ∷ 24 ∷ 25 ∷ 26 ∷ 27 ∷ 28 ∷ 29 ∷ 30 ∷ 31 ∷ []

-- channels c and c + 8 in turn, each in its high and then in its low range
abbrev pub charge_tags : List ℕ
charge_tags =
    0 ∷ 16 ∷ 1 ∷ 17 ∷ 2 ∷ 18 ∷ 3 ∷ 19 ∷ 4 ∷ 20 ∷ 5 ∷ 21 ∷ 6 ∷ 22 ∷ 7 ∷ 23 ∷ 8 ∷ 24 ∷ 9 ∷ 25 ∷ 10 ∷ 26 ∷ 11 ∷ 27 ∷ 12 ∷ 28 ∷ 13 ∷ 29 ∷ 14 ∷ 30 ∷ 15 ∷ 31 ∷ []

abbrev pub charge_floor : Step → ℕ → ℕ
charge_floor Coarse t = 16 * t
charge_floor Fine t = 2 * t

-- V878: the tag of a slot is the slot; a unit of threshold is worth 16 counts
abbrev pub time : Front
time = record { tags = time_tags; carries_step = false; floor = λ _ t. 16 * t }

-- V965: the tag is 2 × channel + range, range 0 high and 1 low
abbrev pub charge : Front
charge = record { tags = charge_tags; carries_step = true; floor = charge_floor }
