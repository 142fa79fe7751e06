-- An expansion, as it is read from its fields.
use Rattle.tangle_expansion.specs.Expanded.{Expanded, expanded}
use Rattle.tangle_expansion.specs.declared.expansion.Expansion.TheInside.{Inside}

abbrev pub expansion_read : Inside → Expanded
expansion_read e = expanded e.shared.value.items.value e.shared.value.used.items
