use Rattle.std.proofs.Common.{◌≡◌, map, not, take}
use Rattle.std.specs.Prelude.{filter}
use Rattle.ctangle_cli.specs.Arguments.{is_flag}
use Rattle.ctangle_cli.proofs.arguments.names_among.Given as goal

abbrev pub invariant-loop-argument : goal.invariant-loop-argument
invariant-loop-argument l =
    map (λ n. n.now) l.names.items
    ≡ filter (λ w. not (is_flag w)) (map (λ w. w.now) (take l.argument-index l.arguments))
