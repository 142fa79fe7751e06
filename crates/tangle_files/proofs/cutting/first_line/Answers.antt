use Rattle.std.proofs.Common.{rules, arith, length, subst}
use Rattle.std.proofs.lemmas.List.{take_rest, take_all, drop_all}
use Rattle.memchr.specs.Find.{is_byte}
use Rattle.memchr.proofs.lemmas.PlaceLemmas.{places_between-first, places_between-none}
use Rattle.tangle_files.proofs.CuttingLemmas.{AreEnds, text_ends}
use Rattle.tangle_files.proofs.cutting.first_line.Goals as goal

pub returns-in-Some-clause-lines : goal.returns-in-Some-clause-lines
returns-in-Some-clause-lines c =
    let bytes = c.args.bytes.now in
    let h = c.in-Some.ensures in
    let first = places_between-first (is_byte 10) bytes 0 (length bytes) c.in-Some.end h.0 h.1 in
    let line = (subst (AreEnds bytes 0) first (text_ends bytes)).1.0 in
    search (rules, take_rest)

pub returns-in-None-clause-lines : goal.returns-in-None-clause-lines
returns-in-None-clause-lines c =
    let bytes = c.args.bytes.now in
    let none = places_between-none (is_byte 10) bytes 0 (length bytes) (omega arith) c.in-None.ensures in
    let line = subst (AreEnds bytes 0) none (text_ends bytes) c.requires in
    search (rules, take_all, drop_all, take_rest)
