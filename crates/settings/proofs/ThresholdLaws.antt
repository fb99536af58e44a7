-- Thresholds whose levels fit.
use Rattle.std.proofs.Common.{◌≡◌, ℕ, zero, suc, true, ltb, List, [], ◌∷◌, set, Ok, Result, refl, ok_or, rules}
use Rattle.std.proofs.lemmas.Bool.{and_parts, and_from}
use Rattle.answers.specs.declared.refusal.Refusal.{Refusal}
use Rattle.answers.specs.declared.refusal.Refusal.TheVariants.{Value}
use Rattle.settings.specs.declared.threshold.Threshold.{Threshold}
use Rattle.settings.specs.Thresholds.{levels_in_range, threshold_of}

pub levels_set : (ts : List Threshold) (i : ℕ) (t : Threshold) → levels_in_range ts ≡ true → ltb t.level 256 ≡ true → levels_in_range (set ts i t) ≡ true
levels_set [] i t h l = refl
levels_set (u ∷ ts) zero t h l = and_from (ltb t.level 256) (levels_in_range ts) l (and_parts (ltb u.level 256) (levels_in_range ts) h).1
levels_set (u ∷ ts) (suc i) t h l =
    let parts = and_parts (ltb u.level 256) (levels_in_range ts) h in
    and_from (ltb u.level 256) (levels_in_range (set ts i t)) parts.0 (levels_set ts i t parts.1 l)

-- a threshold that a value means
pub level_fits : (v : ℕ) (t : Threshold) → ◌≡◌ {A = Result Threshold Refusal} (ok_or (threshold_of v) Value) (Ok t) → ltb t.level 256 ≡ true
level_fits v t e = search rules
