-- A draw into the first words of a block.
use Rattle.std.proofs.Common.{◌≡◌, ℕ, zero, suc, ◌≤◌, true, false, ltb, List, [], ◌∷◌, ◌++◌, length, take, drop, refl, ap, ◌∙◌, ⊎_elim, arith}
use Rattle.std.specs.List.{AllByRecursion}
use Rattle.std.proofs.ByRecursion.{All-get_or}
use Rattle.std.proofs.lemmas.List.{append_assoc, take-append-drop, length_push, length-map}
use Rattle.std.proofs.lemmas.Bool.{cases_Bool, ltb-false}
use Rattle.words.specs.Events.{Event, Lawful, data_words, datum_word, end_word}
use Rattle.words.specs.Spaces.{onto}
use Rattle.bank.specs.Banks.{reached, board_at, asked}
use Rattle.bank.specs.Boards.{Board, LawfulBoard, no_board}
use Rattle.bank.specs.Draws.{short, first_words, block_drawn}
use Rattle.player.specs.Puts.{block_into}

-- what is dropped of the lent part, and the rest
drop_part : (k n : ℕ) (d : List ℕ) → k ≤ n → drop k (take n d) ++ drop n d ≡ drop k d
drop_part zero n d l = take-append-drop n d
drop_part (suc k) zero d l = absurd (let no : ⊥ = omega arith in no)
drop_part (suc k) (suc n) [] l = refl
drop_part (suc k) (suc n) (x ∷ d) l = drop_part k n d (omega arith)

onto_part : (xs d : List ℕ) (n : ℕ) → length xs ≤ n → onto xs (take n d) ++ drop n d ≡ onto xs d
onto_part xs d n l = append_assoc xs (drop (length xs) (take n d)) (drop n d) ∙ ap (λ t. xs ++ t) (drop_part (length xs) n d l)

-- no lawful event has more than 34 words
first_few : (ws : List Event) → AllByRecursion Lawful ws → length (first_words ws) ≤ 34
first_few [] h = omega arith
first_few (e ∷ es) h =
    omega (arith, h.0.few, length_push (data_words e) (end_word e.geo e.number), length-map e.readings (datum_word e.geo))

at_board : (b : Board) (d : List ℕ) (n : ℕ) → AllByRecursion Lawful b.waiting → length (take n d) ≡ n → block_drawn (take n d) b ++ drop n d ≡ block_into n d b
at_board b d n law l =
    rw l
    (⊎_elim
    (λ (s : short n ≡ true). rw s (take-append-drop n d))
    (λ (s : short n ≡ false). rw s (onto_part (first_words b.waiting) d n (omega (arith, ltb-false n 34 s, first_few b.waiting law))))
    (cases_Bool (short n)))

-- what a draw leaves of the whole block
pub block_whole : (bs : List Board) (d after : List ℕ) (n : ℕ) → 1 ≤ length bs → AllByRecursion LawfulBoard bs → length (take n d) ≡ n → after ≡ asked (block_drawn (take n d)) (take n d) bs 0
    → after ++ drop n d ≡ asked (block_into n d) d bs 0
block_whole bs d after n some law l h =
    ap (λ t. t ++ drop n d) h
    ∙ ⊎_elim
    (λ (s : ltb 0 (reached bs) ≡ true). rw s (at_board (board_at bs 0) d n (All-get_or LawfulBoard bs 0 no_board some law).events_lawful l))
    (λ (s : ltb 0 (reached bs) ≡ false). rw s (take-append-drop n d))
    (cases_Bool (ltb 0 (reached bs)))
