-- Words packed one after another.
use Rattle.std.proofs.Common.{◌≡◌, ℕ, zero, suc, ◌+◌, ◌*◌, ◌^◌, ◌<◌, take, List, [], ◌∷◌, ◌++◌, length, get_or, drop, set, sym, refl, ap, ◌∙◌, add-one, arith}
use Rattle.std.proofs.lemmas.List.{length-append, drop-drop, get_or-take, get_or-drop}
use Rattle.std.specs.Simd.{first_chunks}
use Rattle.words.specs.Spaces.{onto}
use Rattle.words.proofs.SpaceLaws.{onto_push}
use Rattle.reader.specs.Packing.{packed, word_from}

pub packed_length : (bs : List ℕ) (n : ℕ) → length (packed bs n) ≡ n
packed_length bs zero = refl
packed_length bs (suc n) = length-append (packed bs n) (word_from bs n ∷ []) ∙ omega (arith, packed_length bs n)

-- one word more
pub put_more : (bs d space : List ℕ) (i w : ℕ) → i < length d → w ≡ word_from bs i → space ≡ onto (packed bs i) d → set space i w ≡ onto (packed bs (i + 1)) d
put_more bs d space i w l e h =
    ap (λ (s : List ℕ). set s i w) h
    ∙ onto_push (packed bs i) d i w (packed_length bs i) l
    ∙ ap (λ v. onto (packed bs i ++ v ∷ []) d) e
    ∙ ap (λ k. onto (packed bs k) d) (sym (add-one i))

-- the i-th of k chunks of four, and a byte of it
chunk_at : (k i : ℕ) (bs : List ℕ) → i < k → get_or (first_chunks 4 k bs) i [] ≡ take 4 (drop (4 * i) bs)
chunk_at zero i bs l = absurd (let no : ⊥ = omega arith in no)
chunk_at (suc k) zero bs l = refl
chunk_at (suc k) (suc i) bs l =
    chunk_at k i (drop 4 bs) (omega arith)
    ∙ ap (take 4) (drop-drop (4 * i) 4 bs ∙ ap (λ n. drop n bs) (omega arith))

chunk_byte : (k i j : ℕ) (bs : List ℕ) → i < k → j < 4 → get_or (get_or (first_chunks 4 k bs) i []) j 0 ≡ get_or bs (4 * i + j) 0
chunk_byte k i j bs l m =
    ap (λ (t : List ℕ). get_or t j 0) (chunk_at k i bs l)
    ∙ get_or-take 4 (drop (4 * i) bs) j 0 m
    ∙ get_or-drop (4 * i) bs j 0

-- the word of the i-th chunk
pub chunk_word : (k i : ℕ) (bs chunk : List ℕ) → i < k → chunk ≡ get_or (first_chunks 4 k bs) i []
    → get_or chunk 0 0 * 2 ^ 24 + get_or chunk 1 0 * 2 ^ 16 + get_or chunk 2 0 * 2 ^ 8 + get_or chunk 3 0 ≡ word_from bs i
chunk_word k i bs chunk l e =
    let b0 = chunk_byte k i 0 bs l (omega arith) in
    let b1 = chunk_byte k i 1 bs l (omega arith) in
    let b2 = chunk_byte k i 2 bs l (omega arith) in
    let b3 = chunk_byte k i 3 bs l (omega arith) in
    let z : 4 * i + 0 ≡ 4 * i = omega arith in
    rw (e, b0, b1, b2, b3, z)
