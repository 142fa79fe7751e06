use Rattle.tangle_scan.proofs.laws.PieceBytes.{web-keeps-bytes}
use Rattle.tangle_scan.proofs.kept_bytes.no_byte_is_lost.Goals as goal

pub returns : goal.returns
returns c = web-keeps-bytes
