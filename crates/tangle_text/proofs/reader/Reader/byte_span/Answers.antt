use Rattle.std.proofs.Common.{refl}
use Rattle.tangle_text.proofs.AheadLemmas.{at-byte}
use Rattle.tangle_text.proofs.reader.Reader.byte_span.Goals as goal

pub returns : goal.returns
returns c = rw (at-byte c.self.inside c.args.self.now c.self.view_is c.requires).ahead refl
