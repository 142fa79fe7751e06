-- A run that leaves the error stream as it was does not end with status 3: each such ending writes
-- some bytes, or the stream fails.
use Rattle.std.proofs.Common.{rules}
use Rattle.std.proofs.Common.{◌≡◌, ◌⊎◌, inl, inr, Option, None, Some, ℕ, ◌<◌, ◌-◌, ◌^◌, take, List, []}
use Rattle.std.proofs.Common.{◌++◌, ap, append-nil, codes, length, length-append, arith, refl, subst}
use Rattle.std.proofs.lemmas.Bool.{false≢true}
use Rattle.std.specs.Prelude.{IsSome}
use Rattle.std.specs.Io.KnownBytes.{Appends}
use Rattle.tangle_streams.specs.Streams.{Stream, Failed, TakesAll, TakesPrefix}
use Rattle.std.specs.List.{list_any}
use Rattle.tangle_script.proofs.FailureLemmas.{small}
use Rattle.tangle_faults.specs.Faults.{FaultRead, is_error}
use Rattle.tangle_files.specs.Roles.{RolesRead}
use Rattle.tangle_folders.specs.Folder.{File, FolderRead}
use Rattle.ctangle_cli.specs.Arguments.{names_by_arguments}
use Rattle.tangle_loading.specs.Loading.{LoadEnd}
use Rattle.tangle_loading.specs.Loading.LoadEnd.{NoMemory as LoadMemory}
use Rattle.tangle_session.specs.Headline.{faults_at, output_files}
use Rattle.ctangle_cli.specs.Messages.{ending_line, usage_line}
use Rattle.ctangle_cli.specs.Run.{EndsUnstarted, Moment, RunEnds, TangledEnds, TriesToWrite, moment}
use Rattle.ctangle_cli.specs.Run.EndsUnstarted.{IsMisused, IsCutAtUsage, IsUnnamed, IsUnloaded}
use Rattle.ctangle_cli.specs.Run.RunEnds.{IsUnstarted, IsTangled}
use Rattle.ctangle_cli.specs.Run.TangledEnds.{IsDone, IsCutAtFaults, IsUnwritten}

keeps : (taken : Option (List ℕ)) → Appends taken taken []
keeps taken = search (rules, append-nil)

module _ (same : Moment) (known : IsSome same.stream.taken) (few : same.stream.failures < 2 ^ 64 - 1) where
  no_failure : Failed same.stream.failures same.stream.failures → ⊥
  no_failure h = elim h [ inl p ↦ omega arith | inr p ↦ omega arith ]

  -- some bytes are written, perhaps after others
  silent_after : (between : Stream) (before bytes : List ℕ)
      → 0 < length bytes → TakesAll same.stream between before
      → TakesAll between same.stream bytes ⊎ TakesPrefix between same.stream bytes → ⊥
  silent_after between before bytes some first last = by same.stream.taken between.taken known first.0 last
    where
      by : (mine taken : Option (List ℕ)) → IsSome mine → Appends mine taken before
          → (Appends taken mine bytes × (same.stream.failures ≡ between.failures))
          ⊎ ((n : ℕ) × (n < length bytes) × Appends taken mine (take n bytes)
          × Failed between.failures same.stream.failures)
          → ⊥
      by None taken is start end = absurd (false≢true is)
      by (Some xs) None is start end = start
      by (Some xs) (Some all) is start (inl w) =
          let e : length xs ≡ length (all ++ bytes) = ap length w.0 in
          let f : length all ≡ length (xs ++ before) = ap length start in
          omega (arith, length-append all bytes, length-append xs before)
      by (Some xs) (Some all) is start (inr p) = no_failure (subst (λ n. Failed n same.stream.failures) first.1 p.3)

  silent : (ending : LoadEnd) → TriesToWrite same.stream same.stream (ending_line (codes "ctangle") ending) → ⊥
  silent ending last = silent_after same.stream [] _ (search rules) (keeps same.stream.taken, refl) last

  tangled_not_3 : (outputs : List File) (faults : List FaultRead) (folder : FolderRead)
      → TangledEnds outputs faults (moment folder same.stream) same 3 → ⊥
  tangled_not_3 outputs faults folder (IsDone reported created unfailed status) =
      omega (arith, small (list_any is_error faults))
  tangled_not_3 outputs faults folder (IsCutAtFaults reported created status) = no_failure reported.3
  tangled_not_3 outputs faults folder (IsUnwritten stop status) =
      silent_after stop.between _ _ (search rules) stop.faults_reported stop.output_reported

  unstarted_not_3 : (usage : List ℕ) (names : Option RolesRead)
      → EndsUnstarted (codes "ctangle") usage names same same 3 → ⊥
  unstarted_not_3 usage names (IsUnnamed reported created status) = silent LoadMemory reported
  unstarted_not_3 usage names (IsMisused none reported created status) = omega arith
  unstarted_not_3 usage names (IsCutAtUsage none reported created status) = no_failure reported.3
  unstarted_not_3 usage names (IsUnloaded roles ending is why reported status) = silent ending reported

  pub run_not_3 : (arguments : List (List ℕ)) → RunEnds arguments same same 3 → ⊥
  run_not_3 arguments (IsUnstarted ends) = unstarted_not_3 usage_line (names_by_arguments arguments) ends
  run_not_3 arguments (IsTangled roles started session is starts ends read) =
      let made = output_files session.files session.roles in
      let faults = faults_at session.files session.roles in
      tangled_not_3 made faults started.folder
      (subst (λ s. TangledEnds made faults (moment started.folder s) same 3) starts.unwritten ends.ends)
