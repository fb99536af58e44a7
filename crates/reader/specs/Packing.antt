-- Bytes as words, high byte first.
use Rattle.std.specs.Prelude.{ℕ, zero, suc, ◌+◌, ◌*◌, ◌/◌, ◌%◌, ◌^◌, cond, List, [], ◌∷◌, ◌++◌, length, Ok, Err, Result, ◌==◌, nat_lt, slice_index, codes}
use Rattle.words.specs.Spaces.{onto}
use Rattle.reader.specs.declared.pack.PackRefusal.{PackRefusal}
use Rattle.reader.specs.declared.pack.PackRefusal.TheVariants.{TooLong, CutWord, SpaceShort}

-- the word at place i
abbrev pub word_from : List ℕ → ℕ → ℕ
word_from bytes i = slice_index bytes (4 * i) * 2 ^ 24 + slice_index bytes (4 * i + 1) * 2 ^ 16 + slice_index bytes (4 * i + 2) * 2 ^ 8 + slice_index bytes (4 * i + 3)

-- the first n words
abbrev pub packed : List ℕ → ℕ → List ℕ
packed bytes zero = []
packed bytes (suc n) = packed bytes n ++ word_from bytes n ∷ []

abbrev pub pack_number : PackRefusal → ℕ
pack_number TooLong = 9
pack_number CutWord = 9
pack_number SpaceShort = 9

abbrev pub pack_text : PackRefusal → List ℕ
pack_text TooLong = codes "the input is too long; expected 65536 bytes or fewer"
pack_text CutWord = codes "the input ends inside a word; expected a multiple of 4 bytes"
pack_text SpaceShort = codes "the words do not fit; expected a space as long as they are"

abbrev pub pack_answer : List ℕ → List ℕ → Result ℕ PackRefusal
pack_answer bytes space =
    cond (nat_lt (4 * 16384) (length bytes))
    (Err TooLong)
    (cond (length bytes % 4 == 0) (cond (nat_lt (length space) (length bytes / 4)) (Err SpaceShort) (Ok (length bytes / 4))) (Err CutWord))

abbrev pub after_pack : List ℕ → List ℕ → Result ℕ PackRefusal → List ℕ
after_pack bytes space (Ok n) = onto (packed bytes n) space
after_pack bytes space (Err e) = space

-- the words at the front, the rest as it was; all of it as it was on a refusal
abbrev pub pack_after : List ℕ → List ℕ → List ℕ
pack_after bytes space = after_pack bytes space (pack_answer bytes space)
