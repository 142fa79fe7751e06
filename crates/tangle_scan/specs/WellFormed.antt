-- The numbers of occurrences in a web are below their count.
use Rattle.std.specs.Prelude.{◌<◌, length, flat_map}
use Rattle.std.specs.List.{All}
use Rattle.std.specs.Option.{IfSome}
use Rattle.tangle_scan.specs.Texts.{item_uses}
use Rattle.tangle_scan.specs.Web.{WebRead}

-- the occurrences of uses and of pieces are below their count
pub record IsWellFormed (web : WebRead) : Type 0 where
  pub uses : All (λ p. All (λ n. n < length web.occurrences) (flat_map item_uses p.items)) web.pieces
  pub definitions : All
      (λ p. IfSome p.occurrence (λ occurrence. occurrence < length web.occurrences)) web.pieces
