-- The parts of a line, part by part.
use Rattle.std.proofs.Common.{◌≡◌, ℕ, suc, ◌<◌, ◌≤◌, not, Some, None, List, [], ◌∷◌, length, take, drop, refl, ap, ◌∙◌, inl, inr, one-add, unwrap_or, Option, arith}
use Rattle.std.specs.Prelude.{position, Bool, filter}
use Rattle.std.specs.List.{before_first, position_or_len, onto_first, slice_split}
use Rattle.std.proofs.lemmas.Bool.{cases_Bool, cases_lt, lt-ltb, le-ltb}
use Rattle.std.proofs.lemmas.List.Sums.{prefix_len-le-length}
use Rattle.script.specs.Parts.{gap, solid, filled, parts}

first_full : (c d : ℕ) (ps : List (List ℕ)) → filter filled (onto_first c (onto_first d ps)) ≡ onto_first c (filter filled (onto_first d ps))
first_full c d [] = refl
first_full c d (p ∷ ps) = refl

-- a part goes on up to the gap
pub grows : (c : ℕ) (cs : List ℕ) → filter filled (onto_first c (slice_split gap cs)) ≡ (c ∷ before_first gap cs) ∷ parts (drop (position_or_len gap cs) cs)
grows c [] = refl
grows c (d ∷ ds) =
    elim (cases_Bool (gap d)) [
      | inl e ↦ simp e
      | inr e ↦ simp (e, one-add) (first_full c d (slice_split gap ds) ∙ ap (onto_first c) (grows d ds))
    ]

-- what is left from the first part on
abbrev begun : List ℕ → List ℕ
begun bs = drop (position_or_len solid bs) bs

first_part : (bs : List ℕ) → position_or_len solid bs < length bs → parts bs ≡ before_first gap (begun bs) ∷ parts (drop (position_or_len gap (begun bs)) (begun bs))
first_part [] l = absurd (omega arith)
first_part (c ∷ cs) l =
    elim (cases_Bool (gap c)) [
      | inl e ↦
          let m : suc (position_or_len solid cs) < suc (length cs) = simp (e, one-add) at l in
          simp (e, one-add) (first_part cs (omega arith))
      | inr e ↦ simp (e, one-add) (grows c cs)
    ]

no_part : (bs : List ℕ) → length bs ≤ position_or_len solid bs → [] ≡ parts bs
no_part [] l = refl
no_part (c ∷ cs) l =
    elim (cases_Bool (gap c)) [
      | inl e ↦
          let m : suc (length cs) ≤ suc (position_or_len solid cs) = simp (e, one-add) at l in
          simp e (no_part cs (omega arith))
      | inr e ↦ let m : suc (length cs) ≤ 0 = simp e at l in absurd (omega arith)
    ]

pub none_left : (bs : List ℕ) → None ≡ position solid bs → [] ≡ parts bs
none_left bs h =
    elim (cases_lt (position_or_len solid bs) (length bs)) [
      | inl l ↦ let t = lt-ltb _ _ l in let z : None ≡ Some (position_or_len solid bs) = h ∙ simp t in cc
      | inr l ↦ no_part bs l
    ]

-- the place, or else the length
or_length : (p : ℕ → Bool) (bs : List ℕ) → unwrap_or (position p bs) (length bs) ≡ position_or_len p bs
or_length p bs =
    elim (cases_lt (position_or_len p bs) (length bs)) [
      | inl l ↦ let t = lt-ltb _ _ l in simp t
      | inr l ↦ let t = le-ltb _ _ l in let m = prefix_len-le-length (λ x. not (p x)) bs in simp t (omega arith)
    ]

found : (bs : List ℕ) (i : ℕ) → Some i ≡ position solid bs → (i ≡ position_or_len solid bs) × (position_or_len solid bs < length bs)
found bs i h =
    elim (cases_lt (position_or_len solid bs) (length bs)) [
      | inl l ↦ let t = lt-ltb _ _ l in let z : Some i ≡ Some (position_or_len solid bs) = h ∙ simp t in (cc, l)
      | inr l ↦ let t = le-ltb _ _ l in let z : Some i ≡ None = h ∙ simp t in cc
    ]

pub next_part : (bs : List ℕ) (i n : ℕ) (e : Option ℕ) → Some i ≡ position solid bs → e ≡ position gap (drop i bs) → n ≡ unwrap_or e (length (drop i bs))
    → parts bs ≡ take n (drop i bs) ∷ parts (drop n (drop i bs))
next_part bs i n e h g k =
    let f = found bs i h in
    let m : n ≡ position_or_len gap (drop i bs) = k ∙ ap (λ (o : Option ℕ). unwrap_or o (length (drop i bs))) g ∙ or_length gap (drop i bs) in
    rw (m, f.0) (first_part bs f.1)
