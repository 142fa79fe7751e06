use Rattle.std.proofs.Common.{rules}
use Rattle.std.proofs.Common.{arith}
use Rattle.std.proofs.lemmas.Bool.Decides.{nat_tests}
use Rattle.std.proofs.Common.{append_assoc}
use Rattle.std.proofs.lemmas.List.{map-append}
use Rattle.tangle_text.proofs.RegionLemmas.{unit_at-front, region_end-go}
use Rattle.tangle_lexer.proofs.lemmas.RegionSteps.{line_ends-go, after_line_ends-append}
use Rattle.tangle_lexer.proofs.lemmas.RegionSteps.{line_ends-ordinary}
use Rattle.tangle_text.proofs.OrdinaryBytes.{region_end-ordinary}
use Rattle.tangle_lexer.proofs.comments.pass_line_ends.Goals as goal

pub loop-front-preserved : goal.loop-front-preserved
loop-front-preserved c =
    let front = c.in-Some.ensures.front in
    let here = unit_at-front c.args.region c.loop-front.reader c.in-Some.front _ front c.unit_of-unit.ensures in
    let given = line_ends-go c.args.region c.args.state.last_line c.loop-front.reader
    c.unit_of-unit.result front.inside here c.in_default-unit.not-Stop in
    let is = c.requires in
    let skip = c.skip_ordinary-in-Some.ensures in
    record {
      end = grind (arith, nat_tests, region_end-ordinary, region_end-go);
      tokens = search (rules, line_ends-ordinary, append_assoc, map-append);
      line = grind (arith, nat_tests, line_ends-ordinary, after_line_ends-append);
    }
