use Rattle.std.proofs.Common.{◌<◌, ap, length, arith}
use Rattle.std.proofs.lemmas.List.Elements.{All-push}
use Rattle.std.proofs.lemmas.Grind.{common_steps}
use Rattle.tangle_graph.specs.Faults.{fault_of, fault_of_name}
use Rattle.tangle_graph.proofs.ListLemmas.{range_more}
use Rattle.tangle_graph.proofs.faults.FaultSearch.candidates.Goals as goal
use Rattle.tangle_graph.proofs.faults.FaultSearch.candidates.Goals.{then-may_have_fault+in_ok-push, else-may_have_fault}

pub loop-id-preserved : goal.loop-id-preserved
loop-id-preserved c =
    let search = c.args.self.now in
    let fault = fault_of_name search.web.now search.table.now search.out.now in
    let id = c.loop-id.id in
    let names = c.loop-id.names.items in
    let was = c.loop-id.invariant in
    elim c.if-may_have_fault.branch [
      | then-may_have_fault+in_ok-push w ↦ rw (w.names-is, w.in_ok-push.ensures.items) (record {
        names = All-push (λ m. m < length search.table.now.names) names id was.names (omega arith);
        faults = λ kind. grind (arith, common_steps, range_more (fault kind) id, was.faults kind);
      })
      | else-may_have_fault w ↦ rw w.names-is (record {
        names = was.names;
        faults = λ kind. (
            let none = ap (fault_of search.web.now search.table.now kind id)
            (c.may_have_fault.ensures w.if-may_have_fault.false kind) in
            grind (arith, common_steps, range_more (fault kind) id, was.faults kind, none));
      })
    ]
