use Rattle.std.proofs.Common.{◌≡◌, length}
use Rattle.tangle_text.specs.declared.regions.Region.TheVariants as region
use Rattle.tangle_text.specs.Regions.{region_end}
use Rattle.tangle_text.proofs.reader.Reader.skip_prose.Given as goal

abbrev pub invariant-loop-self : goal.invariant-loop-self
invariant-loop-self l = region_end region.Prose l.self ≡ region_end region.Prose l.fn.self

abbrev pub decreases-loop-self : goal.decreases-loop-self
decreases-loop-self l = length l.self
