use Rattle.std.proofs.Common.{rules}
use Rattle.std.proofs.Common.{[], append-nil, refl, sym}
use Rattle.tangle_loading.specs.Endings.{ending_of}
use Rattle.ctangle_cli.specs.Run.EndsUnstarted.{IsUnloaded}
use Rattle.tangle_loading.specs.Endings.EndsEarly.{IsShort}
use Rattle.tangle_loading.specs.Loading.LoadEnd.{NoMemory}
use Rattle.ctangle_cli.proofs.RunLemmas.{tries_from}
use Rattle.ctangle_cli.proofs.run.start_session.Goals as goal

pub returns-in-Err-clause-unstarted : goal.returns-in-Err-clause-unstarted
returns-in-Err-clause-unstarted g c = λ usage.
    IsUnloaded c.args.names.now (ending_of c.in-Err.fault) refl c.in-Err.ensures.gives
    (tries_from _ _ c.write_load.result _ c.write_load.ensures) refl

pub returns-in-Err-start-clause-unstarted : goal.returns-in-Err-start-clause-unstarted
returns-in-Err-start-clause-unstarted g c =
    let loads = c.in-Ok.ensures.gives in λ usage. IsUnloaded c.args.names.now NoMemory refl
    (record {
      contents = loads.contents;
      are_its = loads.are_its;
      gives = IsShort _ [] (sym (append-nil _)) loads.gives.1 refl;
    })
    (tries_from _ _ c.write_load-in-Err-start.result _ c.write_load-in-Err-start.ensures) refl

pub returns-clause-started : goal.returns-clause-started
returns-clause-started g c = search rules
