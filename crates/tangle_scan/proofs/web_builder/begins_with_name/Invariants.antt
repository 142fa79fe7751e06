use Rattle.std.proofs.Common.{◌≡◌, drop}
use Rattle.tangle_scan.specs.Passes.{spaced_items}
use Rattle.tangle_scan.specs.Rules.{is_macro, texts_of}
use Rattle.tangle_scan.proofs.web_builder.begins_with_name.Given as goal

abbrev pub invariant-loop-token : goal.invariant-loop-token
invariant-loop-token l =
    is_macro (texts_of l.source.lines) (spaced_items (texts_of l.source.lines) (drop l.token-index l.tokens))
    ≡ is_macro (texts_of l.source.lines) (spaced_items (texts_of l.source.lines) l.tokens)
