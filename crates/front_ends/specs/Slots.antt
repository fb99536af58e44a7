-- Tags and slots.
use Rattle.std.specs.Prelude.{◌≡◌, ℕ, zero, suc, ◌<◌, ◌≤◌, Bool, true, false, ◌&&◌, List, [], ◌∷◌, length, Some, None, Option, ◌==◌, ◌≢◌, nat_eq, nat_lt, slice_index, slice_index_or, refl}
use Rattle.std.proofs.Common.{sym, ap, subst, ◌∙◌, ⊎_elim, arith, le_of_suc-le-suc, not-suc-le-zero}
use Rattle.std.specs.List.{AllByRecursion}
use Rattle.std.specs.Option.{option_map}
use Rattle.std.proofs.lemmas.Bool.{cases_Bool, and_parts, eqb-true, eqb-false, ltb-true, ne_eqb}
use Rattle.front_ends.specs.Fronts.{Apart, place_of, Stands}
use Rattle.front_ends.specs.Tables.{every, at_each}

stands_more : (t u : ℕ) (us : List ℕ) (r : Option ℕ) → (u == t) ≡ false → Stands t us r → Stands t (u ∷ us) (option_map suc r)
stands_more t u us (Some s) n h = (omega (arith, h.0), h.1)
stands_more t u us None n h = λ s l e. at s l e
  where
    at : (s : ℕ) → s < length (u ∷ us) → slice_index (u ∷ us) s ≢ t
    at zero l e = eqb-false u t n e
    at (suc s) l e = h s (le_of_suc-le-suc l) e

-- the place that is looked up is the place
pub stands : (t : ℕ) (ts : List ℕ) → Stands t ts (place_of t ts)
stands t [] = λ s l e. not-suc-le-zero l
stands t (u ∷ us) =
    ⊎_elim
    (λ (h : nat_eq u t ≡ true). rw h (omega arith, eqb-true u t h))
    (λ (h : nat_eq u t ≡ false). rw h (stands_more t u us (place_of t us) h (stands t us)))
    (cases_Bool (u == t))

pub stands_at : (t : ℕ) (ts : List ℕ) (r : Option ℕ) → r ≡ place_of t ts → Stands t ts r
stands_at t ts r e = subst (λ (x : Option ℕ). Stands t ts x) (sym e) (stands t ts)

-- a tag past all is nowhere
pub nowhere : (t : ℕ) (ts : List ℕ) → AllByRecursion (λ u. u < 32) ts → 32 ≤ t → None ≡ place_of t ts
nowhere t [] h l = refl
nowhere t (u ∷ us) h l = rw (ne_eqb u t (omega (arith, h.0))) (ap (option_map suc) (nowhere t us h.1 l))

abbrev pub at_place : ℕ → Option ℕ → Bool
at_place s None = false
at_place s (Some k) = k == s

at_place_is : (s : ℕ) (r : Option ℕ) → at_place s r ≡ true → r ≡ Some s
at_place_is s (Some k) h = ap (λ n. Some n) (eqb-true k s h)
at_place_is s None h = let z : ◌≡◌ {A = ℕ} 0 1 = cc in absurd (omega arith)

-- each tag of the list is found where it stands
abbrev pub FoundEach : List ℕ → Type 0
FoundEach ts = every (λ s t. at_place s (place_of t ts)) 0 ts ≡ true

pub found_at : (ts : List ℕ) → FoundEach ts → (s : ℕ) → s < length ts → place_of (slice_index ts s) ts ≡ Some s
found_at ts h s l = at_place_is s (place_of (slice_index ts s) ts) (at_each (λ s t. at_place s (place_of t ts)) ts h s l)

pub apart : (ts : List ℕ) → FoundEach ts → Apart ts
apart ts h i j li lj e =
    let p = found_at ts h i li in
    let q = found_at ts h j lj in
    let o : Some i ≡ Some j = sym p ∙ ap (λ t. place_of t ts) e ∙ q in
    cc

-- a table from tags back to slots
abbrev pub TurnsBack : List ℕ → List ℕ → Type 0
TurnsBack ts ss = every (λ t s. nat_lt s (length ts) && slice_index ts s == t) 0 ss ≡ true

pub turned : (ts ss : List ℕ) → FoundEach ts → TurnsBack ts ss → (t : ℕ) → t < length ss → Some (slice_index ss t) ≡ place_of t ts
turned ts ss f h t l =
    let s = slice_index_or ss t 0 in
    let p = and_parts (nat_lt s (length ts)) (slice_index ts s == t) (at_each (λ t s. nat_lt s (length ts) && slice_index ts s == t) ss h t l) in
    sym (found_at ts f s (ltb-true s (length ts) p.0)) ∙ ap (λ u. place_of u ts) (eqb-true (slice_index ts s) t p.1)
