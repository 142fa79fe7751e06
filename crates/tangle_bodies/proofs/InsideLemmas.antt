-- An occurrence that resolves to a name resolves to one of the table.
use Rattle.std.proofs.Common.{map, length}
use Rattle.tangle_names.specs.declared.Resolved.TheVariants.{NoFullName}
use Rattle.tangle_names.specs.Resolving.{names_in_order, resolve}
use Rattle.tangle_names.specs.NameTable.{IsNameBelow, table_of}
use Rattle.tangle_names.proofs.LawLemmas.{inside}
use Rattle.tangle_scan.specs.Web.{WebRead}
use Rattle.tangle_bodies.specs.WebShapes.{ResolvesInside}
use Rattle.tangle_bodies.proofs.EachLemmas.{all_or}

-- the table of a web has each name to which an occurrence resolves
pub table_inside : (web : WebRead) → ResolvesInside (table_of web)
table_inside web = all_or (IsNameBelow (length (names_in_order web.occurrences)))
    (map (resolve web.occurrences) web.occurrences) NoFullName tt (inside web.occurrences)
