-- Calls at a station of a bank. At most 21 stations are answered; the boards past them are not reached.
use Rattle.std.specs.Prelude.{ℕ, min, cond, List, length, nat_lt, slice_index_or, slice_set}
use Rattle.bank.specs.Boards.{Board, no_board}

abbrev pub reached : List Board → ℕ
reached bs = min (length bs) 21

abbrev pub board_at : List Board → ℕ → Board
board_at bs i = slice_index_or bs i no_board

-- what the board of station i answers, or the refusal where there is no such station
abbrev pub asked : {A : Type 0} → (Board → A) → A → List Board → ℕ → A
asked answer refused bs i = cond (nat_lt i (reached bs)) (answer (board_at bs i)) refused

-- the boards after a change at station i
abbrev pub changed : (Board → Board) → List Board → ℕ → List Board
changed change bs i = cond (nat_lt i (reached bs)) (slice_set bs i (change (board_at bs i))) bs
