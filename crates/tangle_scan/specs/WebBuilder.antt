-- What is gathered of a web, block by block.
use Rattle.std.specs.Prelude.{◌≡◌, ℕ, ◌+◌, Bool, false, List, [], ◌∷◌, ◌++◌, flat_map, map}
use Rattle.std.specs.Prelude.{if◌then◌else◌, Option, None, Some}
use Rattle.std.specs.List.{AllZip}
use Rattle.tangle_faults.specs.Faults.{FaultRead}
use Rattle.tangle_faults.specs.declared.faults.FaultKind.TheVariants as fault
use Rattle.tangle_lines.specs.Reading.{SourceRead}
use Rattle.tangle_lexer.specs.declared.tokens.Token.{Token}
use Rattle.tangle_lexer.specs.declared.tokens.Token.TheVariants as token
use Rattle.tangle_scan.specs.declared.items.Item.{Item}
use Rattle.tangle_scan.specs.declared.pieces.Piece.{Piece}
use Rattle.tangle_scan.specs.MacroBytes.{macro_bytes}
use Rattle.tangle_scan.specs.Rules.{is_macro, texts_of}
use Rattle.tangle_scan.specs.Texts.{TextRead, TextsRead, IsTextOf, no_texts}
use Rattle.tangle_scan.specs.Web.{PieceRead, WebRead, stored_piece, web_with}
use Rattle.tangle_scan.specs.Web.{fault_on, macro_token_faults, token_faults}

-- what was gathered so far: pieces have texts in place of items, and the bytes of all macros are one
-- list
pub record StoredBuilder : Type 0 where
  pub sections : ℕ
  pub pieces : List Piece
  pub texts : TextsRead
  pub macros : List ℕ
  pub has_all_macros : Bool
  pub faults : List FaultRead

abbrev pub nothing_stored : StoredBuilder
nothing_stored = record {
  sections = 0;
  pieces = [];
  texts = no_texts;
  macros = [];
  has_all_macros = false;
  faults = [];
}

-- the rows of these texts
abbrev pub rows_of : List TextRead → TextsRead
rows_of all = record {
  tags = map (λ t. t.tags) all;
  bytes = map (λ t. t.bytes) all;
  uses = map (λ t. t.uses) all;
  marks = map (λ t. t.marks) all;
}

-- the stored texts are those of the items of pieces; `texts` are the bytes of the source lines
pub record AreTextsOf (texts : List (List ℕ)) (pieces : List PieceRead) (stored : TextsRead)
    : Type 0 where
  pub all : List TextRead
  pub are : AllZip (λ p text. IsTextOf texts p.items text) pieces all
  pub rows : stored ≡ rows_of all

module _ (source : SourceRead) (tokens : List Token) where
  abbrev web : WebRead
  web = web_with source tokens []

  -- what is stored is what a web has that is made of these tokens
  pub record IsGathered (stored : StoredBuilder) : Type 0 where
    pub sections : stored.sections ≡ web.sections
    pub pieces : stored.pieces ≡ map stored_piece web.pieces
    pub piece_texts : AreTextsOf web.texts web.pieces stored.texts
    pub macros : stored.macros ≡ flat_map (macro_bytes web.texts) web.macros
    pub has_all_macros : stored.has_all_macros ≡ web.has_all_macros
    pub faults : stored.faults ≡ web.faults

-- what is stored after a section and the tokens before its first macro or C part
abbrev pub with_section : SourceRead → List Token → StoredBuilder → StoredBuilder
with_section source tokens stored = record stored {
  sections = stored.sections + 1;
  faults = stored.faults ++ token_faults source.files source.lines None tokens;
}

-- what is stored after a macro with these tokens and items, whose head ends on this line
abbrev pub with_macro : SourceRead → ℕ → List Token → List Item → StoredBuilder → StoredBuilder
with_macro source line tokens items stored =
    let is_kept : Bool = is_macro (texts_of source.lines) items in
    record stored {
      macros = stored.macros ++ (if is_kept then macro_bytes (texts_of source.lines) items else []);
      faults = (stored.faults ++ (if is_kept then []
          else fault_on source.files source.lines fault.MacroName line ∷ []))
          ++ macro_token_faults source.files source.lines tokens;
    }

-- the head of a C part that ends on this line, with the number of the name's occurrence if it has one
abbrev pub part_head : ℕ → Option ℕ → Token
part_head line None = token.UnnamedPart line
part_head line (Some occurrence) = token.NamedPart line occurrence
