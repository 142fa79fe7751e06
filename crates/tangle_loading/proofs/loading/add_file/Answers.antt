use Rattle.std.proofs.Common.{refl}
use Rattle.tangle_loading.proofs.TableLemmas.{refused_bytes}
use Rattle.tangle_loading.proofs.loading.add_file.Goals as goal

pub returns-in-Err : goal.returns-in-Err
returns-in-Err c = refused_bytes _ c.args.files.now c.args.name.now c.args.bytes.items c.in-Err.refusal _ _
    refl c.requires c.in-Err.ensures.refused c.in-Err.ensures.only c.refused.ensures
