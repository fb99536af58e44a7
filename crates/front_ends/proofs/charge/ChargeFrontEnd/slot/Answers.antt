use Rattle.std.proofs.Common.{◌≡◌, ◌∙◌, ℕ, List, [], ◌∷◌, refl, inl, inr}
use Rattle.std.specs.Slice.{IsItemAt}
use Rattle.std.proofs.lemmas.Bool.{cases_lt, lt-ltb, le-ltb}
use Rattle.front_ends.specs.Fronts.{place_of}
use Rattle.front_ends.specs.Kinds.{charge_tags}
use Rattle.front_ends.specs.KindLaws.{charge_found, charge_fit}
use Rattle.front_ends.specs.Slots.{stands_at, nowhere, turned}
use Rattle.front_ends.proofs.Lookups.{entry, looked_up}
use Rattle.front_ends.proofs.charge.ChargeFrontEnd.slot.Goals as goal

abbrev slots : List ℕ
slots =
    0 ∷ 2 ∷ 4 ∷ 6 ∷ 8 ∷ 10 ∷ 12 ∷ 14 ∷ 16 ∷ 18 ∷ 20 ∷ 22 ∷ 24 ∷ 26 ∷ 28 ∷ 30 ∷ 1 ∷ 3 ∷ 5 ∷ 7 ∷ 9 ∷ 11 ∷ 13 ∷ 15 ∷ 17 ∷ 19 ∷ 21 ∷ 23 ∷ 25 ∷ 27 ∷ 29 ∷ 31 ∷ []

slot_of_tag : (t : ℕ) → entry slots t ≡ place_of t charge_tags
slot_of_tag t =
    elim (cases_lt t 32) [
      | inl l ↦ rw (lt-ltb t 32 l) (turned charge_tags slots charge_found refl t l)
      | inr l ↦ rw (le-ltb t 32 l) (nowhere t charge_tags charge_fit l)
    ]

found : (c : goal.After-copied) → c.copied.result ≡ place_of c.args.tag charge_tags
found c =
    let h : IsItemAt slots c.args.tag c.get.result = rw c.from.ensures at c.get.ensures.lookup in
    c.copied.ensures ∙ looked_up slots c.args.tag c.get.result h ∙ slot_of_tag c.args.tag

pub returns-clause-is : goal.returns-clause-is
returns-clause-is c = found c

pub returns-clause-exact : goal.returns-clause-exact
returns-clause-exact c = stands_at c.args.tag charge_tags _ (found c)
