use Rattle.std.proofs.Common.{◌≡◌, ◌++◌, ◌&&◌, drop}
use Rattle.std.specs.Prelude.{is_some}
use Rattle.std.specs.List.{list_all}
use Rattle.tangle_bodies.specs.ItemTags.{nodes_of}
use Rattle.tangle_bodies.specs.Nodes.{node_of_occurrence}
use Rattle.tangle_bodies.proofs.body_builder.BodyBuilder.add_uses.Given as goal

abbrev pub invariant-loop-used : goal.invariant-loop-used
invariant-loop-used l = record {
  tags : l.self-inside.items.tags.items ≡ l.fn.self.tags;
  bytes : l.self-inside.items.bytes.items ≡ l.fn.self.bytes;
  uses : l.self-inside.uses.items ++ nodes_of l.table (drop l.used-index l.uses) ≡ l.fn.self.uses ++ nodes_of l.table l.uses;
  all : (l.all && list_all (λ n. is_some (node_of_occurrence l.table n)) (drop l.used-index l.uses))
      ≡ list_all (λ n. is_some (node_of_occurrence l.table n)) l.uses;
}
