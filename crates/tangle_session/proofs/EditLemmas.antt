-- The web and the change file are there after an edit that is not refused.
use Rattle.std.proofs.Common.{rules}
use Rattle.std.proofs.Common.{◌+◌, ◌≡◌, ℕ, true, false, List, [], ◌∷◌, Option}
use Rattle.std.proofs.Common.{None}
use Rattle.std.proofs.Common.{Some, refl}
use Rattle.std.specs.Map.{remove_entry}
use Rattle.std.specs.Option.{option_map}
use Rattle.std.specs.Str.{bytes_eq}
use Rattle.std.proofs.lemmas.Map.{keys-set_value}
use Rattle.std.proofs.lemmas.Map.Made.{is_some-lookup}
use Rattle.tangle_files.specs.Edited.{edited}
use Rattle.tangle_files.specs.Lines.{FileTable}
use Rattle.tangle_files.specs.Adding.{has_file}
use Rattle.tangle_files.specs.Roles.{RolesRead, fits}
use Rattle.tangle_files.specs.declared.edits.Edit.{Edit}
use Rattle.tangle_files.proofs.TableLemmas.{has_file-append}
use Rattle.tangle_files.specs.declared.refusal.Refusal.{Refusal}
use Rattle.tangle_session.specs.Edits.{list_refusal}
use Rattle.tangle_session.specs.Edits.{session_refusal}
use Rattle.tangle_session.specs.declared.refusing.ListRefusal.{ListRefusal}

-- a file other than the discarded one stays
kept_apart : (files : FileTable) (name other : List ℕ) → bytes_eq name other ≡ false
    → has_file (remove_entry (bytes_eq name) files) other ≡ has_file files other
kept_apart [] name other apart = refl
kept_apart (f ∷ files) name other apart = search (rules, kept_apart files name other apart)

pub fits_edited : (files : FileTable) (roles : RolesRead) (edit : Edit)
    → fits files roles ≡ true → None ≡ session_refusal files roles edit → fits (edited files edit) roles ≡ true
fits_edited files roles edit h none = search (rules, is_some-lookup, keys-set_value, has_file-append, kept_apart)

-- The first refusal of the remaining edits, the first of which has this number.
abbrev pub refused_at : ℕ → Option Refusal → Option ListRefusal → Option ListRefusal
refused_at at (Some refusal) after = Some (record { at = at; refusal = refusal })
refused_at at None after = after

abbrev pub refused_from : ℕ → FileTable → RolesRead → List Edit → Option ListRefusal
refused_from at files roles [] = None
refused_from at files roles (edit ∷ edits) =
    refused_at at (session_refusal files roles edit) (refused_from (at + 1) (edited files edit) roles edits)

abbrev later_by : ℕ → ListRefusal → ListRefusal
later_by at refused = record { at = refused.at + at; refusal = refused.refusal }

from_later : (at : ℕ) (files : FileTable) (roles : RolesRead) (edits : List Edit)
    → refused_from at files roles edits ≡ option_map (later_by at) (list_refusal files roles edits)
from_later at files roles [] = refl
from_later at files roles (edit ∷ edits) =
    search (rules, from_later (at + 1) (edited files edit) roles edits)

-- numbered from 0, it is the refusal of the list
pub from_none : (files : FileTable) (roles : RolesRead) (edits : List Edit)
    → refused_from 0 files roles edits ≡ list_refusal files roles edits
from_none files roles edits = search (rules, from_later)
