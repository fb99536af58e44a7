-- Lines that are written plainly.
use Rattle.std.proofs.Common.{◌≡◌, ℕ, zero, suc, ◌-◌, Bool, true, false, eqb, filter, List, [], ◌∷◌, ◌++◌, length, drop, get_or, Result, refl, ap, ◌∙◌, one-add, arith}
use Rattle.std.specs.List.{AllByRecursion, before_first, position_or_len, onto_first, slice_split}
use Rattle.script.specs.declared.call.Line.{Line}
use Rattle.script.specs.declared.mistake.Mistake.{Mistake}
use Rattle.script.specs.Laws.{Inner, Part, spaced, plain_line, Plainly}
use Rattle.script.specs.Lines.{line_of, parsed}
use Rattle.script.specs.Parts.{gap, filled, parts, unreturned}
use Rattle.script.proofs.Scanning.{grows}

abbrev gap_first : List ℕ → Bool
gap_first [] = true
gap_first (c ∷ cs) = gap c

-- a byte that ends neither what the line says nor the line
abbrev Said : ℕ → Type 0
Said c = (eqb c 35 ≡ false) × (eqb c 13 ≡ false)

before_gap : (cs rest : List ℕ) → AllByRecursion Inner cs → gap_first rest ≡ true → before_first gap (cs ++ rest) ≡ cs
before_gap [] [] a g = refl
before_gap [] (d ∷ ds) a g = simp g
before_gap (c ∷ cs) rest a g = let e = a.0.0 in simp (e, one-add) (ap (λ (t : List ℕ). c ∷ t) (before_gap cs rest a.1 g))

from_gap : (cs rest : List ℕ) → AllByRecursion Inner cs → gap_first rest ≡ true → drop (position_or_len gap (cs ++ rest)) (cs ++ rest) ≡ rest
from_gap [] [] a g = refl
from_gap [] (d ∷ ds) a g = simp g
from_gap (c ∷ cs) rest a g = let e = a.0.0 in simp (e, one-add) (from_gap cs rest a.1 g)

one_part : (p rest : List ℕ) → Part p → gap_first rest ≡ true → parts (p ++ rest) ≡ p ∷ parts rest
one_part [] rest h g = absurd (omega (arith, h.0))
one_part (c ∷ cs) rest h g =
    let e = h.1.0.0 in
    let all : filter filled (onto_first c (slice_split gap (cs ++ rest))) ≡ (c ∷ cs) ∷ parts rest =
    grows c (cs ++ rest)
    ∙ ap (λ (t : List ℕ). (c ∷ t) ∷ parts (drop (position_or_len gap (cs ++ rest)) (cs ++ rest))) (before_gap cs rest h.1.1 g)
    ∙ ap (λ (t : List ℕ). (c ∷ cs) ∷ parts t) (from_gap cs rest h.1.1 g) in
    simp e all

spaced_first : (ps : List (List ℕ)) → gap_first (spaced ps) ≡ true
spaced_first [] = refl
spaced_first (p ∷ ps) = refl

spaced_parts : (ps : List (List ℕ)) → AllByRecursion Part ps → parts (spaced ps) ≡ ps
spaced_parts [] a = refl
spaced_parts (p ∷ ps) a = one_part p (spaced ps) a.0 (spaced_first ps) ∙ ap (λ (t : List (List ℕ)). p ∷ t) (spaced_parts ps a.1)

line_parts : (ps : List (List ℕ)) → AllByRecursion Part ps → parts (plain_line ps) ≡ ps
line_parts [] a = refl
line_parts (p ∷ ps) a = spaced_parts (p ∷ ps) a

said_after : (p rest : List ℕ) → AllByRecursion Inner p → AllByRecursion Said rest → AllByRecursion Said (p ++ rest)
said_after [] rest a b = b
said_after (c ∷ cs) rest a b = ((a.0.1, a.0.2), said_after cs rest a.1 b)

said_spaced : (ps : List (List ℕ)) → AllByRecursion Part ps → AllByRecursion Said (spaced ps)
said_spaced [] a = tt
said_spaced (p ∷ ps) a = ((refl, refl), said_after p (spaced ps) a.0.1 (said_spaced ps a.1))

said_line : (ps : List (List ℕ)) → AllByRecursion Part ps → AllByRecursion Said (plain_line ps)
said_line [] a = tt
said_line (p ∷ ps) a = said_after p (spaced ps) a.0.1 (said_spaced ps a.1)

uncommented : (bs : List ℕ) → AllByRecursion Said bs → before_first (λ c. eqb c 35) bs ≡ bs
uncommented [] a = refl
uncommented (c ∷ cs) a = let e = a.0.0 in simp (e, one-add) (ap (λ (t : List ℕ). c ∷ t) (uncommented cs a.1))

no_return : (bs : List ℕ) (i : ℕ) → AllByRecursion Said bs → eqb (get_or bs i 0) 13 ≡ false
no_return [] i a = refl
no_return (c ∷ cs) zero a = a.0.1
no_return (c ∷ cs) (suc i) a = no_return cs i a.1

pub plainly : (bs : List ℕ) (r : Result Line Mistake) → r ≡ parsed bs → Plainly bs r
plainly bs r e ps a h =
    let line = plain_line ps in
    let s = said_line ps a in
    let n = no_return line (length line - 1) s in
    let whole : unreturned line ≡ line = simp n in
    e
    ∙ ap (λ (t : List ℕ). line_of (parts (before_first (λ c. eqb c 35) (unreturned t)))) h
    ∙ ap (λ (t : List ℕ). line_of (parts (before_first (λ c. eqb c 35) t))) whole
    ∙ ap (λ (t : List ℕ). line_of (parts t)) (uncommented line s)
    ∙ ap line_of (line_parts ps a)
