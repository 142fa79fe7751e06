use Rattle.std.proofs.Common.{◌≡◌, length}
use Rattle.tangle_text.specs.declared.regions.Region.TheVariants as region
use Rattle.tangle_text.specs.Regions.{region_end}
use Rattle.tangle_lexer.specs.Names.{form_after, name_text}
use Rattle.tangle_text.specs.NameBytes.{name_bytes}
use Rattle.tangle_lexer.proofs.names.read_text.Given as goal

abbrev pub invariant-loop-front : goal.invariant-loop-front
invariant-loop-front l = record {
  end : region_end region.Name l.reader ≡ region_end region.Name l.fn.reader;
  name : form_after l.name.items l.white (name_bytes l.reader) ≡ name_text l.fn.reader;
}

abbrev pub decreases-loop-front : goal.decreases-loop-front
decreases-loop-front l = length l.reader
