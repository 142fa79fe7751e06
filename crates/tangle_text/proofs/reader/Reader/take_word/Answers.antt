use Rattle.std.proofs.Common.{◌∙◌, drop-drop, sym}
use Rattle.tangle_text.specs.Words.{word_more}
use Rattle.tangle_text.proofs.WordLemmas.{takes-word}
use Rattle.tangle_text.proofs.reader.Reader.take_word.Goals as goal

pub returns : goal.returns
returns c =
    let taken = takes-word c.self.inside c.args.self.now c.whole_word_end-end.result c.self.view_is c.requires
    c.whole_word_end-end.ensures.end c.whole_word_end-end.ensures.inside in
    record { span = taken.span; ahead = taken.ahead ∙ sym (drop-drop (word_more c.args.self.now) 1 c.args.self.now) }
