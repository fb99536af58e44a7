-- What a front end means: the part of a converter that the rules of boards, records and readers depend on.
use Rattle.std.specs.Prelude.{◌≡◌, ℕ, suc, ◌<◌, ◌≤◌, Bool, cond, List, [], ◌∷◌, length, Some, None, Option, ◌==◌, ◌≢◌, nat_lt, slice_index}
use Rattle.std.specs.List.{AllByRecursion}
use Rattle.std.specs.Option.{option_map}
use Rattle.front_ends.specs.declared.step.Step.{Step}

-- tags: the tag of each slot, in slot order, which is the order of readout
-- carries-step: whether the mode word has the bit STEP
-- floor: the lowest count that is not under threshold
pub record Front : Type 0 where
  pub tags : List ℕ
  pub carries_step : Bool
  pub floor : Step → ℕ → ℕ

-- no two slots have one tag
abbrev pub Apart : List ℕ → Type 0
Apart ts = (i j : ℕ) → i < length ts → j < length ts → slice_index ts i ≡ slice_index ts j → i ≡ j

pub record Lawful (f : Front) : Type 0 where
  pub some : 1 ≤ length f.tags
  pub few : length f.tags ≤ 32
  pub fit : AllByRecursion (λ t. t < 32) f.tags
  pub apart : Apart f.tags
  pub floors : (s : Step) (t : ℕ) → t ≤ 255 → f.floor s t ≤ 65535

abbrev pub tag_at : Front → ℕ → Option ℕ
tag_at f s = cond (nat_lt s (length f.tags)) (Some (slice_index f.tags s)) None

-- the first place at which t stands
abbrev pub place_of : ℕ → List ℕ → Option ℕ
place_of t [] = None
place_of t (u ∷ us) = cond (u == t) (Some 0) (option_map suc (place_of t us))

abbrev pub slot_of : Front → ℕ → Option ℕ
slot_of f t = place_of t f.tags

-- s is a place at which t stands, and is absent exactly where t stands nowhere
abbrev pub Stands : ℕ → List ℕ → Option ℕ → Type 0
Stands t ts (Some s) = (s < length ts) × (slice_index ts s ≡ t)
Stands t ts None = (s : ℕ) → s < length ts → slice_index ts s ≢ t

-- the slot of a tag is absent exactly where no slot has that tag
abbrev pub SlotIs : Front → ℕ → Option ℕ → Type 0
SlotIs f t r = Stands t f.tags r

-- some slot of the front end has the tag
abbrev pub HasTag : Front → ℕ → Type 0
HasTag f t = (s : ℕ) × (s < length f.tags) × (slice_index f.tags s ≡ t)
