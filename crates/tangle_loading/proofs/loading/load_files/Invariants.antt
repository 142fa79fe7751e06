use Rattle.std.proofs.Common.{◌-◌, length}
use Rattle.tangle_loading.proofs.LoadLemmas.{InRounds}
use Rattle.tangle_loading.proofs.loading.load_files.Given as goal

abbrev pub invariant-loop-asked : goal.invariant-loop-asked
invariant-loop-asked g l = InRounds l.roles (g.F.Folder.state l.fn.folder) (g.F.Folder.state l.folder) l.asked l.files

abbrev pub decreases-loop-asked : goal.decreases-loop-asked
decreases-loop-asked g l = 256 - length l.files
