use Rattle.std.proofs.Common.{◌≡◌, ◌++◌, drop, flat_map, codes}
use Rattle.tangle_scan.specs.MacroBytes.{macro_item_bytes, without_end}
use Rattle.tangle_scan.specs.Passes.{spaced_items}
use Rattle.tangle_scan.specs.Rules.{texts_of}
use Rattle.tangle_scan.proofs.macro_bytes.push_macro.Given as goal

abbrev pub invariant-loop-token : goal.invariant-loop-token
invariant-loop-token l =
    l.bytes.items ++ flat_map (macro_item_bytes (texts_of l.source.lines))
    (spaced_items (texts_of l.source.lines) (drop l.token-index l.token-items))
    ≡ l.fn.bytes.items ++ codes "#define " ++ flat_map (macro_item_bytes (texts_of l.source.lines))
    (without_end (texts_of l.source.lines) (spaced_items (texts_of l.source.lines) l.fn.tokens))
