-- Writing on at the front of a space.
use Rattle.std.proofs.Common.{◌≡◌, ℕ, ◌+◌, ◌<◌, ◌≤◌, List, [], ◌∷◌, ◌++◌, length, get_or, drop, set, sym, ap, ◌∙◌, arith}
use borrow.Rule.Slice.PartMut.{put_mid}
use Rattle.std.proofs.lemmas.List.{append_assoc, set_at, drop_more, length_push, length-append, length-drop, take_at, drop_at, drop-drop}
use Rattle.words.specs.Spaces.{onto}

-- ys written behind xs
pub onto_more : {A : Type 0} (xs ys d : List A) (at k : ℕ) → length xs ≡ at → length ys ≡ k → put_mid at k (onto xs d) ys ≡ onto (xs ++ ys) d
onto_more xs ys d at k p q =
    let rest : drop k (drop at (onto xs d)) ≡ drop (length (xs ++ ys)) d =
    ap (drop k) (drop_at xs (drop (length xs) d) at p) ∙ drop-drop k (length xs) d ∙ ap (λ n. drop n d) (ap (λ m. length xs + m) (sym q) ∙ sym (length-append xs ys)) in
    ap (λ t. t ++ (ys ++ drop k (drop at (onto xs d)))) (take_at xs (drop (length xs) d) at p)
    ∙ ap (λ t. xs ++ (ys ++ t)) rest
    ∙ sym (append_assoc xs ys (drop (length (xs ++ ys)) d))

-- one more behind xs
pub onto_push : {A : Type 0} (xs d : List A) (at : ℕ) (x : A) → length xs ≡ at → at < length d → set (onto xs d) at x ≡ onto (xs ++ x ∷ []) d
onto_push xs d at x p l =
    ap (λ n. set (xs ++ drop n d) at x) p
    ∙ ap (λ t. set (xs ++ t) at x) (drop_more d at x l)
    ∙ set_at xs (get_or d at x) (drop (at + 1) d) x at p
    ∙ sym (append_assoc xs (x ∷ []) (drop (at + 1) d))
    ∙ ap (λ n. (xs ++ x ∷ []) ++ drop n d) (ap (λ n. n + 1) (sym p) ∙ sym (length_push xs x))
