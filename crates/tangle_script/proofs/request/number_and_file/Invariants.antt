use Rattle.std.proofs.Common.{◌≡◌, ◌^◌, ◌<◌, ◌≤◌, drop}
use Rattle.tangle_script.specs.Requests.{number_and_file}
use Rattle.tangle_script.proofs.request.number_and_file.Given as goal

abbrev pub invariant-loop-count : goal.invariant-loop-count
invariant-loop-count l = record {
  few : l.count ≤ 9;
  small : l.number < 10 ^ l.count;
  rest : number_and_file l.count l.number (drop l.count l.rest) ≡ number_and_file 0 0 l.rest;
}
