use Rattle.std.proofs.Common.{rules}
use Rattle.std.proofs.Common.{◌-◌, ◌≡◌, slice_get, take, arith, Some}
use Rattle.std.proofs.lemmas.List.{length-take, length-take-le}
use Rattle.tangle_text.specs.Runs.{parts_of}
use Rattle.tangle_scan.proofs.lemmas.RunTags.{first_part, no_part}
use Rattle.tangle_scan.proofs.tags_left.first_tag.Goals as goal

pub returns-in-Some : goal.returns-in-Some
returns-in-Some c =
    let size : c.args.run - 0 ≡ c.args.run = omega arith in
    let bytes = take c.args.run c.args.bytes.now in
    let found : slice_get (parts_of 0 0 0 bytes) 0 ≡ Some c.in-Some.part = search rules in
    let first = first_part bytes c.in-Some.part found in
    search (rules, length-take-le)

pub returns-in-None : goal.returns-in-None
returns-in-None c = search (rules, no_part, length-take)
