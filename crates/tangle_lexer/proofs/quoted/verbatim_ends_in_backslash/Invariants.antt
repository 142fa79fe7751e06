use Rattle.std.proofs.Common.{◌≡◌, false, length}
use Rattle.tangle_text.specs.declared.regions.Region.TheVariants as region
use Rattle.tangle_text.specs.Regions.{units}
use Rattle.tangle_lexer.specs.Quoted.{last_is_backslash}
use Rattle.tangle_lexer.proofs.quoted.verbatim_ends_in_backslash.Given as goal

abbrev pub invariant-loop-front : goal.invariant-loop-front
invariant-loop-front l =
    last_is_backslash l.is_backslash (units region.Verbatim l.here)
    ≡ last_is_backslash false (units region.Verbatim l.reader)

abbrev pub decreases-loop-front : goal.decreases-loop-front
decreases-loop-front l = length l.here
