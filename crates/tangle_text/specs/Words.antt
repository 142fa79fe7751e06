-- Words of the text.
use Rattle.std.specs.Prelude.{ℕ, Bool, List, drop, codes, if◌then◌else◌, Option, None, Some}
use Rattle.std.specs.Str.{bytes_eq}
use Rattle.tangle_text.specs.declared.regions.Region.{Region}
use Rattle.tangle_text.specs.declared.regions.Region.TheVariants as region
use Rattle.tangle_text.specs.Bytes.{is_digit}
use Rattle.tangle_text.specs.Text.{Cell, byte_at}
use Rattle.tangle_text.specs.Regions.{count_before}

abbrev pub is_include_word : List ℕ → Bool
is_include_word bytes = bytes_eq bytes (codes "include")

-- the region of a word after this first byte: a word that begins with a digit is a number
abbrev pub word_region : Option ℕ → Region
word_region None = region.Word
word_region (Some b) = if is_digit b then region.Number else region.Word

-- the number of cells that a word has after its first
abbrev pub word_more : List Cell → ℕ
word_more text = count_before (word_region (byte_at 0 text)) (drop 1 text)
