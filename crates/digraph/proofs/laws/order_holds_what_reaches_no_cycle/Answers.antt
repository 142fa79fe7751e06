use Rattle.digraph.specs.Graph.{HasUse}
use Rattle.digraph.specs.Reach.{HasPath}
use Rattle.digraph.proofs.OrderLemmas.{left_out_deep}
use Rattle.digraph.proofs.PathLemmas.{held, left_out_cycles}
use Rattle.digraph.proofs.laws.order_holds_what_reaches_no_cycle.Goals as goal

pub returns : goal.returns
returns c = record {
  held = λ graph order n is range. held graph range order is n;
  left_out = λ graph order n is range h out. (
    left_out_cycles graph range order is n h out,
    λ steps. left_out_deep graph order is range (λ k m. HasPath (HasUse graph) k m) (λ m. tt)
        (λ k a b u path. (b, u, path)) steps n h out,
  );
}
