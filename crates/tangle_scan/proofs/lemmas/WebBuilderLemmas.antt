-- The sections, blocks and faults of a web, block by block.
use Rattle.std.proofs.lemmas.Bool.Decides.{nat_tests}
use Rattle.std.proofs.Common.{arith}
use Rattle.std.proofs.Common.{◌≡◌, ℕ, true, false, List, [], ◌∷◌, ◌++◌, refl}
use Rattle.std.proofs.Common.{append_assoc, append-nil}
use Rattle.std.specs.List.{list_any}
use Rattle.tangle_files.specs.Lines.{FileTable}
use Rattle.tangle_lines.specs.Reading.{SourceLine}
use Rattle.tangle_lexer.specs.declared.tokens.Token.{Token}
use Rattle.tangle_scan.specs.Web.{blocks, block_at, section_count, section_after}
use Rattle.tangle_scan.specs.Web.{block_faults, head_faults, scan_faults}
use Rattle.tangle_lexer.specs.LinesOfParts.{body}
use Rattle.tangle_lexer.specs.Heads.{is_head}

-- tokens without a head

pub no-head : (files : FileTable) (lines : List SourceLine) (n : ℕ) (es : List Token) → list_any is_head es ≡ false
    → (body es ≡ es) × (section_count n es ≡ n) × (blocks n es ≡ []) × (head_faults files lines es ≡ [])
no-head files lines n [] h = (refl, refl, refl, refl)
no-head files lines n (e ∷ es) h = grind (arith, nat_tests, no-head files lines n es)

-- a block: a head, and then tokens without one, after other tokens
pub block-added : (files : FileTable) (lines : List SourceLine) (n : ℕ) (head : Token) (es xs : List Token)
    → is_head head ≡ true → list_any is_head es ≡ false
    → (body (xs ++ head ∷ es) ≡ body xs)
    × (section_count n (xs ++ head ∷ es) ≡ section_after (section_count n xs) head)
    × (blocks n (xs ++ head ∷ es) ≡ blocks n xs ++ block_at (section_count n xs) head es)
    × (head_faults files lines (xs ++ head ∷ es) ≡ head_faults files lines xs ++ block_faults files lines head es)
    × (scan_faults files lines (xs ++ head ∷ es) ≡ scan_faults files lines xs ++ block_faults files lines head es)
block-added files lines n head es [] is none =
    grind (arith, no-head files lines (section_after n head) es none, append-nil)
block-added files lines n head es (x ∷ xs) is none =
    grind (arith, nat_tests, block-added files lines (section_after n x) head es xs is none, append_assoc)
