use Rattle.std.proofs.Common.{rules}
use Rattle.std.proofs.Common.{◌≡◌, ◌+◌, ◌-◌, arith}
use Rattle.std.proofs.lemmas.List.{drop-take}
use Rattle.tangle_text.proofs.runs.RunParts.new.Goals as goal

pub returns : goal.returns
returns c = (let end : c.args.span.end ≡ c.args.span.start + (c.args.span.end - c.args.span.start) =
    omega (arith, c.requires.start) in search (rules, drop-take))
