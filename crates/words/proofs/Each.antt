-- A fact of each element, stated by recursion on the list, of one element more.
use Rattle.std.proofs.Common.{◌≡◌, List, [], ◌∷◌, ◌++◌}
use Rattle.std.specs.List.{AllByRecursion}
use Rattle.std.proofs.lemmas.List.Elements.{All-from_recursion, recursion_from_All, All-push}
use Rattle.words.specs.declared.word.Reading.{Reading}
use Rattle.words.specs.Events.{TagsApart}

pub each_push : {A : Type 0} (P : A → Type 0) (xs : List A) (x : A) → AllByRecursion P xs → P x → AllByRecursion P (xs ++ x ∷ [])
each_push P xs x h p = recursion_from_All P (xs ++ x ∷ []) (All-push P xs x (All-from_recursion P xs h) p)

-- a reading more, whose tag is that of none
pub apart_push : (rs : List Reading) (x : Reading) → TagsApart rs → AllByRecursion (λ r. x.tag ≡ r.tag → ⊥) rs → TagsApart (rs ++ x ∷ [])
apart_push [] x a h = (tt, tt)
apart_push (r ∷ rs) x a h = (each_push (λ (s : Reading). s.tag ≡ r.tag → ⊥) rs x a.0 h.0, apart_push rs x a.1 h.1)
