use Rattle.tangle_scan.proofs.laws.WebsAsMeant.{web-as-meant}
use Rattle.tangle_scan.proofs.read_as_meant.items_are_read_as_meant.Goals as goal

pub returns : goal.returns
returns c = web-as-meant
