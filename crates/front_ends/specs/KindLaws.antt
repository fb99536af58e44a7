-- The two kinds keep the laws of a front end.
use Rattle.std.specs.Prelude.{◌≡◌, ℕ, ◌<◌, ◌≤◌, nat_eq, nat_lt, slice_index, refl}
use Rattle.std.proofs.Common.{⊎_elim, arith}
use Rattle.std.specs.List.{AllByRecursion}
use Rattle.std.proofs.lemmas.List.Elements.{recursion_from_All, All-from_get_or}
use Rattle.std.proofs.lemmas.Bool.{cases_lt, eqb-true, lt-ltb, le-ltb, ltb-true}
use Rattle.front_ends.specs.declared.step.Step.{Step}
use Rattle.front_ends.specs.declared.step.Step.TheVariants.{Coarse, Fine}
use Rattle.front_ends.specs.Fronts.{Lawful, tag_at, slot_of}
use Rattle.front_ends.specs.Kinds.{time_tags, charge_tags, charge_floor, time, charge}
use Rattle.front_ends.specs.Slots.{FoundEach, apart, nowhere, turned}
use Rattle.front_ends.specs.Tables.{at_each}

pub time_found : FoundEach time_tags
time_found = refl

pub charge_found : FoundEach charge_tags
charge_found = refl

pub time_fit : AllByRecursion (λ t. t < 32) time_tags
time_fit =
    recursion_from_All (λ t. t < 32) time_tags
    (All-from_get_or (λ t. t < 32) time_tags 0 (λ s l. ltb-true (slice_index time_tags s) 32 (at_each (λ _ t. nat_lt t 32) time_tags refl s l)))

pub charge_fit : AllByRecursion (λ t. t < 32) charge_tags
charge_fit =
    recursion_from_All (λ t. t < 32) charge_tags
    (All-from_get_or (λ t. t < 32) charge_tags 0 (λ s l. ltb-true (slice_index charge_tags s) 32 (at_each (λ _ t. nat_lt t 32) charge_tags refl s l)))

-- the time board's tag of a slot is the slot
pub time_same : (s : ℕ) → s < 32 → slice_index time_tags s ≡ s
time_same s l = eqb-true (slice_index time_tags s) s (at_each (λ s t. nat_eq t s) time_tags refl s l)

-- and its slot of a tag is the tag
pub time_slot : (t : ℕ) → tag_at time t ≡ slot_of time t
time_slot t =
    ⊎_elim
    (λ (l : t < 32). rw (lt-ltb t 32 l) (turned time_tags time_tags time_found refl t l))
    (λ (l : 32 ≤ t). rw (le-ltb t 32 l) (nowhere t time_tags time_fit l))
    (cases_lt t 32)

pub time_lawful : Lawful time
time_lawful = record { some = omega arith; few = omega arith; fit = time_fit; apart = apart time_tags time_found; floors = λ _ t h. omega arith }

charge_floors : (s : Step) (t : ℕ) → t ≤ 255 → charge_floor s t ≤ 65535
charge_floors Coarse t h = omega arith
charge_floors Fine t h = omega arith

pub charge_lawful : Lawful charge
charge_lawful = record { some = omega arith; few = omega arith; fit = charge_fit; apart = apart charge_tags charge_found; floors = charge_floors }
