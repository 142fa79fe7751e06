-- What a C compiler reads of bytes that are written for several texts.
use Rattle.std.specs.Prelude.{◌≡◌, ℕ, List, flat_map}
use Rattle.c_tokens.specs.Reading.{tokens}
use Rattle.c_lines.specs.JoinedLines.{LinesAreWhole}

-- The tokens of the bytes are those of the texts, one text after another, and the comments and
-- quoted texts of the bytes are all ended, each on the line of C on which it begins.
pub record IsReadAsTexts (texts : List (List ℕ)) (bytes : List ℕ) : Type 0 where
  pub read : tokens bytes ≡ flat_map tokens texts
  pub lines : LinesAreWhole bytes
