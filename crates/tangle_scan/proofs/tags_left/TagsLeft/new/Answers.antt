use Rattle.std.proofs.Common.{◌++◌, ap}
use Rattle.tangle_scan.specs.UnfoldedTags.{unfolded_tags}
use Rattle.tangle_scan.proofs.lemmas.RunTags.{no_run_tags}
use Rattle.tangle_scan.proofs.tags_left.TagsLeft.new.Goals as goal

pub returns : goal.returns
returns c = ap (λ ts. ts ++ unfolded_tags c.args.tags.now c.args.bytes.now) no_run_tags
