-- A word and its parts, there and back.
use Rattle.std.proofs.Common.{◌≡◌, ℕ, ◌^◌, ◌<◌, Ok, Err, rules}
use Rattle.words.specs.declared.fault.Due.TheVariants as due
use Rattle.words.specs.declared.fault.Spot.{Spot}
use Rattle.words.specs.declared.fault.WordFault.{WordFault}
use Rattle.words.specs.declared.word.Header.{Header}
use Rattle.words.specs.declared.word.Datum.{Datum}
use Rattle.words.specs.declared.word.End.{End}
use Rattle.words.specs.declared.word.First.{First}
use Rattle.words.specs.declared.word.First.TheVariants as first
use Rattle.words.specs.declared.word.Reading.{Reading}
use Rattle.words.specs.Events.{header_word, datum_word, end_word}
use Rattle.words.specs.Words.{bits, kind_of, geo_of, reading_of, read_first, read_datum, read_end, FirstIs, DatumIs, EndIs, HeaderClean, DatumClean, Told}

-- a header's word is read as the header
pub header_again : (g k n : ℕ) (s : Spot) → g < 32 → k < 256 → n < 64
    → read_first (header_word g k n) s ≡ Ok (first.Header (record { geo = g; crate_number = k; readings = n }))
header_again g k n s p q r = search rules

-- a datum's word is read as the datum
pub datum_again : (g : ℕ) (r : Reading) (s : Spot) → g < 32 → r.tag < 32 → r.count < 2 ^ 12 → read_datum (datum_word g r) s ≡ Ok (record { geo = g; reading = r })
datum_again g r s p q l = search rules

-- an end's word is read as the end
pub end_again : (g n : ℕ) (s : Spot) → g < 32 → n < 2 ^ 24 → read_end (end_word g n) s ≡ Ok (record { geo = g; number = n })
end_again g n s p q = search rules

-- what is read is spelt by the word
pub first_only : (w : ℕ) (s : Spot) (x : First) → w < 2 ^ 32 → read_first w s ≡ Ok x → FirstIs w x
first_only w s x h e = search rules

pub datum_only : (w : ℕ) (s : Spot) (d : Datum) → w < 2 ^ 32 → read_datum w s ≡ Ok d → DatumIs w d
datum_only w s d h e = search rules

pub end_only : (w : ℕ) (s : Spot) (d : End) → w < 2 ^ 32 → read_end w s ≡ Ok d → EndIs w d
end_only w s d h e = search rules

-- a datum's word holds the reading
pub reading_again : (g : ℕ) (r : Reading) → g < 32 → r.tag < 32 → r.count < 2 ^ 12 → reading_of (datum_word g r) ≡ r
reading_again g r p q l = search rules

-- a crate that is read fits its bits
abbrev pub CrateFits : First → Type 0
CrateFits (first.Header h) = h.crate_number < 256
CrateFits first.Filler = Unit {0}

pub first_crate : (w : ℕ) (s : Spot) (x : First) → read_first w s ≡ Ok x → CrateFits x
first_crate w s x e = search rules

-- what is not read is wrong
pub first_wrong : (w : ℕ) (s : Spot) (f : WordFault) → read_first w s ≡ Err f → Told w due.First s f
first_wrong w s f e = search rules

pub datum_wrong : (w : ℕ) (s : Spot) (f : WordFault) → read_datum w s ≡ Err f → Told w due.Datum s f
datum_wrong w s f e = search rules

pub end_wrong : (w : ℕ) (s : Spot) (f : WordFault) → read_end w s ≡ Err f → Told w due.End s f
end_wrong w s f e = search rules

-- what was read shows in the bits
pub header_parts : (w : ℕ) (s : Spot) (h : Header) → read_first w s ≡ Ok (first.Header h) → (kind_of w ≡ 2) × HeaderClean w × (bits w 8 6 ≡ h.readings)
header_parts w s h e = search rules

pub datum_parts : (w : ℕ) (s : Spot) (d : Datum) → read_datum w s ≡ Ok d → (kind_of w ≡ 0) × DatumClean w × (geo_of w ≡ d.geo)
datum_parts w s d e = search rules

pub end_parts : (w : ℕ) (s : Spot) (x : End) → read_end w s ≡ Ok x → (kind_of w ≡ 4) × (geo_of w ≡ x.geo)
end_parts w s x e = search rules
