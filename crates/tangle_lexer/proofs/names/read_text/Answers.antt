use Rattle.std.proofs.lemmas.Bool.Decides.{nat_tests}
use Rattle.std.proofs.Common.{drop, ap}
use Rattle.std.proofs.Common.{append_assoc, length, length-drop, arith}
use Rattle.tangle_text.specs.declared.regions.Region.TheVariants as region
use Rattle.tangle_text.specs.Regions.{more_by}
use Rattle.tangle_text.proofs.RegionLemmas.{unit_at-front, region_end-go}
use Rattle.tangle_lexer.proofs.lemmas.RegionSteps.{name_bytes-go}
use Rattle.tangle_lexer.proofs.names.read_text.Goals as goal

pub loop-front-preserved : goal.loop-front-preserved
loop-front-preserved c =
    let front = c.in-Some.ensures.front in
    let here = unit_at-front region.Name c.loop-front.reader c.in-Some.front _ front c.unit_of-unit.ensures in
    let given = name_bytes-go 0 c.loop-front.reader c.unit_of-unit.result front.inside here c.in_default-unit.not-Stop in
    grind (arith, nat_tests, region_end-go, append_assoc)

pub loop-front-smaller : goal.loop-front-smaller
loop-front-smaller c =
    let text = c.loop-front.reader in
    let passed = ap length c.pass.ensures in
    let shorter = c.in_ok-slice-2.ensures.shorter in
    let inside = c.in-Some.ensures.front.inside in
    omega (arith, length-drop (more_by c.unit_of-unit.result) (drop 1 text), length-drop 1 text)
