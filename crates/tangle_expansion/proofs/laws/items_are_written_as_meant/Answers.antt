use Rattle.std.proofs.Common.{refl}
use Rattle.tangle_names.specs.NameTable.{table_of}
use Rattle.tangle_scan.specs.Web.{web_of}
use Rattle.tangle_scan.proofs.laws.WebsAsMeant.{web-as-meant}
use Rattle.tangle_expansion.specs.Numbers.{numbers_of}
use Rattle.tangle_expansion.specs.PieceBytes.{bytes_after_mark, used_bytes}
use Rattle.tangle_expansion.proofs.laws.items_are_written_as_meant.Goals as goal

pub returns : goal.returns
returns c = λ source marks used.
    let table = table_of (web_of source) in
    let numbers = numbers_of (web_of source) table marks in
    let law = web-as-meant source in
    record {
      macros_written = refl;
      macros = law.macros;
      pieces = law.pieces (used_bytes numbers table used) (bytes_after_mark numbers) numbers.macros;
    }
