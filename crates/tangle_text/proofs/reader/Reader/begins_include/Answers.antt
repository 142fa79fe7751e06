use Rattle.std.proofs.Common.{ap, sym, ◌∙◌}
use Rattle.tangle_text.specs.Words.{is_include_word}
use Rattle.tangle_text.proofs.WordLemmas.{takes-word}
use Rattle.tangle_text.proofs.reader.Reader.begins_include.Goals as goal

pub returns : goal.returns
returns c =
    let taken = takes-word c.self.inside c.args.self.now c.whole_word_end-end.result c.self.view_is c.requires
    c.whole_word_end-end.ensures.end c.whole_word_end-end.ensures.inside in
    (rw c.as_slice.ensures at c.eq.ensures) ∙ ap is_include_word (sym taken.bytes)
