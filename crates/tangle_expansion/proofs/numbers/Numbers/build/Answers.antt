use Rattle.std.proofs.Common.{rules}
use Rattle.std.proofs.Common.{◌∙◌, ap, map}
use Rattle.std.proofs.lemmas.Simd.{map-map}
use Rattle.tangle_names.proofs.LawLemmas.{once as names_once}
use Rattle.tangle_bodies.specs.WebShapes.{shapes}
use Rattle.tangle_names.specs.NameTable.{table_of}
use Rattle.tangle_expansion.specs.Numbers.{numbers_of_piece}
use Rattle.tangle_expansion.specs.PieceNumbers.{numbers_of_rows}
use Rattle.tangle_expansion.proofs.LookupLemmas.{rows_numbers}
use Rattle.tangle_expansion.proofs.NumberLemmas.{bodies_use}
use Rattle.tangle_expansion.proofs.ShortLemmas.{numbers_hold}
use Rattle.tangle_expansion.proofs.numbers.Numbers.build.Goals as goal

pub invariant_of-result : goal.invariant_of-result
invariant_of-result c =
    let web = c.args.web.now in
    rw (c.in_ok-share.ensures, c.in_ok-clone-2.ensures.cases)
    (numbers_hold _ (shapes web (table_of web)) (rw c.requires.names (names_once web.occurrences)) c.requires.bodies)

pub returns : goal.returns
returns c =
    let web = c.args.web.now in
    let table = table_of web in
    let pieces = c.in_ok-read.field-0 in
    let names = c.in_ok-share.ensures ∙ c.requires.names in
    let rows = ap (numbers_of_rows pieces) c.in_ok-clone.ensures.cases
    ∙ rows_numbers pieces web.pieces c.in_ok-read.ensures.sections c.in_ok-read.ensures.origins
    c.args.pieces.now.value c.requires.pieces.inside
    ∙ ap (map (map numbers_of_piece)) c.requires.pieces.right in
    let uses = bodies_use table.names (shapes web table) _ (rw c.requires.names at c.requires.bodies) in
    search (rules, map-map)
