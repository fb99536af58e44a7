-- What a played board means.
use Rattle.std.specs.Prelude.{◌≡◌, ℕ, Result}
use Rattle.front_ends.specs.declared.front_end.FrontEnd as front_end
use Rattle.settings.specs.declared.register.Register.{Register}
use Rattle.answers.specs.declared.refusal.Refusal.{Refusal}
use Rattle.bank.specs.Boards as bank
use Rattle.bank.specs.Writes.{answer_of, left_by, write_register}
use Rattle.buffer.specs.Buffers.{events}
use Rattle.board.specs.declared.board.Board.{Board}

-- its front end is what the kind of front end says that it means
abbrev pub board_of : {F : Type 0} {g : front_end.Ghosts F} → Board F g → bank.Board
board_of {g = g} b =
    record { front = g.meaning b.front; settings = b.settings; counter = b.counter; waiting = events (g.meaning b.front) b.buffer }

-- a call that should do and answer so left b as c and answered r
pub record Did (d : Result bank.Change Refusal) (b c : bank.Board) (r : Result (Unit {0}) Refusal) : Type 0 where
  pub says : r ≡ answer_of d
  pub leaves : c ≡ left_by d b

-- a write of the value to the register
abbrev pub Wrote : {F : Type 0} {g : front_end.Ghosts F} → Register → ℕ → Board F g → Board F g → Result (Unit {0}) Refusal → Type 0
Wrote x v b c r = Did (write_register v (board_of b) x) (board_of b) (board_of c) r
