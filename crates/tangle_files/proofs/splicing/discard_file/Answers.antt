use Rattle.std.proofs.Common.{ap, map, ◌∙◌}
use Rattle.tangle_files.specs.Table.{file_of}
use Rattle.tangle_files.proofs.TableLemmas.{map-remove_entry}
use Rattle.tangle_files.proofs.splicing.discard_file.Goals as goal

pub returns : goal.returns
returns c =
    ap (map file_of) c.shift_remove.ensures.entries ∙ map-remove_entry c.args.file.now c.args.table.now.entries
