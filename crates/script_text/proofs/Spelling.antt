-- Words one after another.
use Rattle.std.proofs.Common.{◌≡◌, ℕ, ◌+◌, ◌<◌, List, [], ◌++◌, length, get_or, take, codes, sym, ap, ◌∙◌}
use Rattle.std.proofs.lemmas.List.{append_assoc, take_more, flat_map_more}
use Rattle.script_text.specs.Digits.{eight_digits, hex_text}
use Rattle.script_text.specs.Replies.{words_text}

-- one word more
pub words_more : (a b : List ℕ) (ws : List ℕ) (i : ℕ) (h : List ℕ) → i < length ws → hex_text h ≡ eight_digits (get_or ws i 0)
    → (a ++ (b ++ words_text (take i ws))) ++ (codes " " ++ hex_text h) ≡ a ++ (b ++ words_text (take (i + 1) ws))
words_more a b ws i h l e =
    let w = get_or ws i 0 in
    let step : words_text (take i ws) ++ (codes " " ++ hex_text h) ≡ words_text (take (i + 1) ws) =
    ap (λ (t : List ℕ). words_text (take i ws) ++ (codes " " ++ t)) e
    ∙ flat_map_more (λ (v : ℕ). codes " " ++ eight_digits v) [] (take i ws) w
    ∙ ap words_text (sym (take_more ws i 0 l)) in
    append_assoc a (b ++ words_text (take i ws)) (codes " " ++ hex_text h)
    ∙ ap (λ (t : List ℕ). a ++ t) (append_assoc b (words_text (take i ws)) (codes " " ++ hex_text h) ∙ ap (λ (t : List ℕ). b ++ t) step)
