-- The macros of a web are read by groups.
use Rattle.tangle_c_tokens.specs.Reading.{IsReadAsTexts}
use Rattle.std.specs.List.{AllZip}
use Rattle.tangle_lines.specs.Reading.{SourceRead}
use Rattle.tangle_lexer.specs.Steps.{all_tokens}
use Rattle.tangle_scan.specs.Rules.{texts_of}
use Rattle.tangle_scan.specs.MacroBytes.{macro_bytes}
use Rattle.tangle_scan.specs.Web.{web_of, blocks}
use Rattle.tangle_c_tokens.specs.Macros.{GroupsAreReadAlone, macro_texts, MacrosAreReadByGroups}
use Rattle.tangle_c_tokens.proofs.OneLineLemmas.{texts-on_line}
use Rattle.tangle_c_tokens.proofs.kind_lemmas.WebTexts.{macro_tokens_of, macros-by, blocks-have}
use Rattle.tangle_c_tokens.proofs.MacroLemmas.{one-macro}

pub macros_by_groups : (source : SourceRead) → MacrosAreReadByGroups source (web_of source)
macros_by_groups source none =
    let texts = texts_of source.lines in
    macros-by source.lines (AllZip (λ items es. GroupsAreReadAlone texts es → IsReadAsTexts (macro_texts texts es) (macro_bytes texts items))) tt
    (λ b macros tokens are all.
    (one-macro texts (macro_tokens_of source.lines b) (texts-on_line source.lines none _ are), all))
    (blocks 0 (all_tokens source.lines)) (blocks-have source.lines none)
