-- Small steps along a run and through a `?`.
use Rattle.std.proofs.Common.{◌≡◌, ℕ, ◌+◌, ◌-◌, ◌<◌, Bool, true, false, cond, List, ◌∷◌, length, get_or, drop, Ok, Err, Result, sym, refl, ap, ◌∙◌, arith, rules}
use Rattle.std.proofs.lemmas.List.{length-drop, get_or-drop, drop-drop}
use Rattle.reader.specs.Then.{then_by}

pub err_ok : {A E : Type 0} {e : E} {a : A} → Err e ≡ Ok a → ⊥
err_ok h = cc

pub ok_same : {A E : Type 0} {a b : A} → ◌≡◌ {A = Result A E} (Ok a) (Ok b) → a ≡ b
ok_same h = cc

pub then_ok : {A B E F : Type 0} (r : Result A E) (up : E → F) (f : A → Result B F) (a : A) → r ≡ Ok a → then_by r up f ≡ f a
then_ok r up f a h = rw h

-- what went on came from an Ok
pub then_came : {A B E F : Type 0} (r : Result A E) (up : E → F) (f : A → Result B F) (b : B) → then_by r up f ≡ Ok b → (a : A) × (r ≡ Ok a) × (f a ≡ Ok b)
then_came (Ok a) up f b h = (a, refl, h)
then_came (Err e) up f b h = absurd (err_ok h)

-- an Ok behind a test that refuses where it holds
pub unless_came : {A E : Type 0} (b : Bool) (r : Result A E) (e : E) (x : A) → cond b (Err e) r ≡ Ok x → (b ≡ false) × (r ≡ Ok x)
unless_came false r e x h = (refl, h)
unless_came true r e x h = absurd (err_ok h)

-- the first of the words that stand at a place
pub stands_within : (run : List ℕ) (p w : ℕ) (rest : List ℕ) → drop p run ≡ w ∷ rest → p < length run
stands_within run p w rest h = let e : length run - p ≡ length (w ∷ rest) = sym (length-drop p run) ∙ ap length h in omega arith

pub stands_here : (run : List ℕ) (p w : ℕ) (rest : List ℕ) → drop p run ≡ w ∷ rest → get_or run p 0 ≡ w
stands_here run p w rest h = ap (λ n. get_or run n 0) (omega arith) ∙ sym (get_or-drop p run 0 0) ∙ ap (λ ws. get_or ws 0 0) h

pub stands_next : (run : List ℕ) (p w : ℕ) (rest : List ℕ) → drop p run ≡ w ∷ rest → drop (p + 1) run ≡ rest
stands_next run p w rest h = sym (drop-drop 1 p run) ∙ ap (drop 1) h
