-- The fields of a session's state, which are made one after another, agree with the files.
use Rattle.std.proofs.Common.{rules}
use Rattle.std.proofs.Common.{◌≡◌, ◌∙◌, arith, ℕ, Bool, true, false, List, refl, ap, sym}
use Rattle.std.proofs.Common.{subst, Bor, Contains, map}
use Rattle.std.specs.List.{IsDistinct}
use Rattle.std.specs.Option.{option_copied, option_map}
use Rattle.std.specs.Str.{bytes_eq}
use Rattle.std.specs.Prelude.{◌↔◌, Option, Some, None, is_some, Result, Err, find}
use Rattle.std.proofs.lemmas.Grind.{common_steps}
use Rattle.tangle_streams.specs.Streams.{Stream}
use Rattle.tangle_files.specs.Lines.{FileTable}
use Rattle.tangle_files.specs.Adding.{has_file}
use Rattle.tangle_files.specs.Roles.{RolesRead, fits}
use Rattle.tangle_files.specs.declared.refusal.Refusal.TheVariants.{NoWeb, NoChange}
use Rattle.tangle_files.specs.declared.refusal.Refusal.{Refusal}
use Rattle.tangle_files.specs.declared.refusal.Refusal.TheVariants as refusal
use Rattle.tangle_files.specs.declared.marks.MarkMode.{MarkMode}
use Rattle.tangle_files.specs.declared.marks.MarkMode.TheVariants.{Full}
use Rattle.tangle_scan.specs.Web.{WebRead}
use Rattle.tangle_names.specs.NameTable.{table_of}
use Rattle.tangle_expansion.specs.Limits.{levels, flat_of, IsExpandableNode}
use Rattle.tangle_expansion.specs.Numbers.{numbers_of}
use Rattle.tangle_expansion.specs.Outputs.{OutputRead, IsReady, kept_output_bytes}
use Rattle.digraph.specs.Nodes.{Node}
use Rattle.tangle_bodies.specs.Nodes.{title_at}
use Rattle.tangle_graph.specs.Keeping as keeping
use Rattle.tangle_bodies.specs.Nodes.{IsNodeOf}
use Rattle.tangle_graph.specs.Outputs.{outputs}
use Rattle.tangle_graph.specs.Stores.{StoreRead, IsStoreOf}
use Rattle.tangle_scan.proofs.laws.WebLaws.{web-line-truth}
use Rattle.tangle_expansion.specs.Location.{AreAtTheirOrigins, classes}
use Rattle.tangle_bodies.specs.Shapes.{Title}
use Rattle.tangle_expansion.proofs.LineTruth.{node_is_located}
use Rattle.tangle_expansion.proofs.NumberLemmas.{titles_used_of}
use Rattle.tangle_bodies.proofs.InsideLemmas.{table_inside}
use Rattle.tangle_graph.proofs.ExpandLemmas.{expandable_at}
use Rattle.tangle_graph.proofs.OutputLemmas.{IsFit, outputs_fit, ready}
use Rattle.tangle_session.specs.Headline.{output_at, output_bytes, source_at, web_at}
use Rattle.tangle_session.specs.Sessions.{ListsExpandableOfWeb, SessionRead}
use Rattle.tangle_session.specs.Sessions.{shapes_of, start_refusal}
use Rattle.tangle_session.specs.States.{AgreesWithFiles}
use Rattle.tangle_session.specs.Writes.{IsTrueFile, WritesOut, WritesOutput}
use Rattle.tangle_session.specs.declared.tangling.SessionState.{SessionState}
use Rattle.tangle_session.proofs.NameLemmas.{names_distinct}
use Rattle.tangle_session.proofs.OutputLemmas.{found_in, look_up, names_written, same_bytes}

-- the list that has each expandable node of the store has each expandable node of the web
pub lists_nodes : (web : WebRead) (store : StoreRead) (nodes : List Node) → IsStoreOf (shapes_of web) store
    → store.names ≡ (table_of web).names → keeping.ListsExpandable store nodes → ListsExpandableOfWeb web nodes
lists_nodes web store nodes is names_are lists = record {
  once = lists.once;
  just = subst
      (λ names. (node : Node) → Contains nodes node
      ↔ (IsNodeOf names node × IsExpandableNode (shapes_of web) (title_at names node))) names_are
      (λ node. (
        λ c. (let both = (lists.just node).0 c in (both.0, (expandable_at (shapes_of web) store is node both.0).0 both.1)),
        λ both. (lists.just node).1 (both.0, (expandable_at (shapes_of web) store is node both.0).1 both.1),
      ));
}

-- the web does not depend on the setting for line marks
pub same_web : (files : FileTable) (roles : RolesRead) (marks : MarkMode)
    → web_at files (record roles { marks = marks }) ≡ web_at files roles
unfolding web_at source_at
same_web files roles marks = refl

-- why a session is not to be started

pub no_change : (files : FileTable) (roles : RolesRead)
    → fits files roles ≡ false → has_file files roles.web ≡ true → Some NoChange ≡ start_refusal files roles
no_change files roles e there = grind (arith, common_steps)

pub no_web : (files : FileTable) (roles : RolesRead)
    → has_file files roles.web ≡ false → Some NoWeb ≡ start_refusal files roles
no_web files roles missing = rw missing refl

-- where no refusal to start applies, the files fit the roles
pub fit_to_start : (files : FileTable) (roles : RolesRead) → None ≡ start_refusal files roles → fits files roles ≡ true
fit_to_start files roles e = grind (arith, common_steps)

pub some_copied : {X : Type 0} (o : Option (Bor X)) → is_some (option_copied o) ≡ is_some o
some_copied o = search rules

-- what a session with this state and these roles shows
abbrev view_of : SessionState → RolesRead → SessionRead
view_of state roles = record { files = state.files; roles = roles; work = state.work }

-- each byte of an item is at its own origin, whatever the files are
located : (files : FileTable) (roles : RolesRead) (node : Title) →
    AreAtTheirOrigins (numbers_of (web_at files roles) (table_of (web_at files roles)) Full) true None
    (flat_of (shapes_of (web_at files roles)) node) (classes levels (source_at files roles) (web_at files roles) node)
unfolding web_at
located files roles node =
    node_is_located (source_at files roles) (web_at files roles) levels node true None (web-line-truth (source_at files roles))

-- Finding an output by its name in a session.
module _ {state : SessionState} {roles : RolesRead} {session : SessionRead} (view : view_of state roles ≡ session)
    (hold : AgreesWithFiles state.files roles state) (name : List ℕ) where
  abbrev named : OutputRead → Bool
  named o = bytes_eq name o.name

  abbrev web : WebRead
  web = web_at state.files roles

  abbrev bytes_of : OutputRead → List ℕ
  bytes_of = output_bytes state.files roles

  -- no two outputs of the store have the same name
  pub names_apart : IsDistinct bytes_eq (map (λ (o : OutputRead). o.name) state.analysis.store.outputs)
  names_apart = rw (
    hold.analysis.store.outputs,
    names_written bytes_of
        (outputs web (table_of web) roles.out),
  )
      (names_distinct state.files roles)

  looked_up : output_at session.files session.roles name
      ≡ option_map bytes_of (find named state.analysis.store.outputs)
  looked_up =
      ap (λ (s : SessionRead). output_at s.files s.roles name) (sym view)
      ∙ look_up bytes_of name (outputs web (table_of web) roles.out)
      ∙ ap (λ os. option_map bytes_of (find named os)) (sym hold.analysis.store.outputs)

  module _ (found : Option (Bor OutputRead)) (by_name : option_copied found
      ≡ find named state.analysis.store.outputs) where
    pub none_at : found ≡ None → output_at session.files session.roles name ≡ None
    none_at e = looked_up ∙ ap (option_map bytes_of) (sym by_name ∙ ap option_copied e)

    pub writes_none : (old new : Stream) → found ≡ None → new ≡ old
        → WritesOutput (output_at session.files session.roles name) old new (Err refusal.NoOutput)
    writes_none old new e same = rw (none_at e) (refl, same)

    module _ (output : Bor OutputRead) (is : found ≡ Some output) where
      some_at : output_at session.files session.roles name ≡ Some (bytes_of output.now)
      some_at = looked_up ∙ ap (option_map bytes_of) (sym by_name ∙ ap option_copied is)

      found_there : find named (outputs web (table_of web) roles.out) ≡ Some output.now
      found_there = rw hold.analysis.store.outputs at (sym by_name ∙ ap option_copied is)

      fit : IsFit (shapes_of web) state.analysis.store.names output.now
      fit = rw hold.analysis.store.names (outputs_fit web (table_of web) (table_inside web)
          roles.out output.now
          (found_in named (outputs web (table_of web) roles.out) output.now found_there))

      pub is_ready : IsReady state.analysis.numbers state.kept output.now
      is_ready = rw hold.analysis.numbers (ready (shapes_of web) state.analysis.store state.kept
          (numbers_of web (table_of web) roles.marks) hold.analysis.store.store hold.kept
          (titles_used_of web (table_of web) roles.marks (table_inside web)) (sym hold.analysis.store.names)
          output.now fit (λ shapes node e. e.light))

      abbrev bytes : List ℕ
      bytes = kept_output_bytes state.analysis.numbers state.kept output.now

      pub is_its : output_at session.files session.roles name ≡ Some bytes
      is_its = some_at ∙ ap Some (sym (rw hold.analysis.numbers
          (same_bytes state.files roles state.analysis.store state.kept
          hold.analysis.store.store hold.analysis.store.names hold.kept output.now fit)))

      pub writes_it : (old new : Stream) (r : Result ℕ Refusal) → WritesOut old new bytes r
          → WritesOutput (output_at session.files session.roles name) old new r
      writes_it old new r puts = rw is_its puts

      pub truth_at : session.roles.marks ≡ Full → IsTrueFile session.files session.roles name
      truth_at full = subst (λ (s : SessionRead). IsTrueFile s.files s.roles name) view (record {
        output = output.now;
        named = found_there;
        are_its = ap (λ (s : SessionRead). output_at s.files s.roles name) view ∙ some_at;
        origins = located state.files roles (title_at (table_of web).names output.now.node);
      })
