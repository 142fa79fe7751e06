-- Worked sessions: which edits and lists are refused, what a history leaves, and text that only moves.
use Rattle.std.proofs.Common.{rules}
use Rattle.std.proofs.Common.{◌≡◌, ℕ, List, [], ◌∷◌, Option, None, Some, Ok, Err, codes, map, refl}
use Rattle.std.specs.Global.{Global}
use Rattle.std.specs.declared.vec.Vec.{Vec}
use Rattle.tangle_files.specs.declared.edits.Edit.TheVariants.{Insert, Remove, Create, Discard, Marks}
use Rattle.tangle_files.specs.declared.marks.MarkMode.TheVariants.{Bare}
use Rattle.tangle_files.specs.declared.refusal.Refusal.{Refusal}
use Rattle.tangle_files.specs.declared.refusal.Refusal.TheVariants.{NoChange, NoMemory, NoSuchLine, NoWeb}
use Rattle.tangle_files.specs.declared.refusal.Refusal.TheVariants.{RoleFile, UnknownFile}
use Rattle.tangle_files.specs.Lines.{FileTable, cut}
use Rattle.tangle_files.specs.Roles.{RolesRead, roles_of}
use Rattle.tangle_lines.specs.Reading.{reads_in}
use Rattle.tangle_lexer.specs.Steps.{lexeme, occurrences_from, tokens_from}
use Rattle.tangle_scan.specs.Web.{WebRead}
use Rattle.tangle_bodies.specs.Shapes.{LineEnd, Mark, NoUse, Word, Written}
use Rattle.tangle_session.specs.Edits.{list_refusal, session_refusal}
use Rattle.tangle_session.specs.Headline.{Apply, ApplyAll, Call, IsAnswered, accepted, files_after, roles_with}
use Rattle.tangle_session.specs.Headline.{source_at, web_at}
use Rattle.tangle_session.specs.Moves.{IsMoved, piece_form}
use Rattle.tangle_session.specs.Sessions.{SessionRead, start_refusal}
use Rattle.tangle_session.specs.declared.refusing.ListRefusal.{ListRefusal}

abbrev roles : RolesRead
roles = roles_of (codes "a.w") (Some (codes "a.ch")) (codes "a.c")

abbrev files : FileTable
files = (codes "a.w", codes "x" ∷ []) ∷ (codes "a.ch", []) ∷ (codes "b.w", []) ∷ []

abbrev refused : ℕ → Refusal → Option ListRefusal
refused at refusal = Some (record { at = at; refusal = refusal })

-- vectors with these bytes
module _ (a h b c text : Vec ℕ Global) (are_a : a.items ≡ codes "a.w") (are_h : h.items ≡ codes "a.ch")
    (are_b : b.items ≡ codes "b.w") (are_c : c.items ≡ codes "c.w") (are_text : text.items ≡ codes "t ") where
  abbrev state : SessionRead
  state = record { files = files; roles = roles; work = [] }

  -- an edit and a list that are accepted, and others that are refused
  abbrev calls : List Call
  calls =
      Apply (Insert b 1 text) (Ok tt) ∷ Apply (Discard a) (Err RoleFile)
      ∷ ApplyAll (Marks Bare ∷ Remove a 1 ∷ []) (Ok tt)
      ∷ ApplyAll (Remove b 1 ∷ Remove b 1 ∷ []) (Err (record { at = 1; refusal = NoSuchLine })) ∷ []

  record Answers : Type 0 where
    pub no_web : start_refusal [] roles ≡ Some NoWeb
    pub no_change_file : start_refusal ((codes "a.w", []) ∷ []) roles ≡ Some NoChange
    pub web : session_refusal files roles (Discard a) ≡ Some RoleFile
    pub change_file : session_refusal files roles (Discard h) ≡ Some RoleFile
    pub other_file : session_refusal files roles (Discard b) ≡ None
    pub web_that_is_not_there : session_refusal [] roles (Discard a) ≡ Some UnknownFile
    -- the first edit that is refused counts, and edits are counted from 0
    pub first : list_refusal files roles (Insert b 1 text ∷ Discard a ∷ Discard c ∷ []) ≡ refused 1 RoleFile
    -- each edit is looked at in the files that the earlier ones left
    pub made : list_refusal files roles (Create c ∷ Insert c 1 text ∷ Remove c 1 ∷ Discard c ∷ []) ≡ None
    pub gone : list_refusal files roles (Create c ∷ Discard c ∷ Remove c 1 ∷ []) ≡ refused 2 UnknownFile
    pub refused_edit : IsAnswered state (Apply (Discard a) (Err RoleFile)) state
    pub another_reason : IsAnswered state (Apply (Discard a) (Err NoMemory)) state → ⊥
    pub no_memory_for_an_edit : IsAnswered state (Apply (Discard b) (Err NoMemory)) state
    pub no_memory_for_a_list :
        IsAnswered state (ApplyAll (Discard a ∷ []) (Err (record { at = 0; refusal = NoMemory }))) state
    pub something_changed : IsAnswered state (Apply (Discard a) (Err RoleFile)) (record state { work = 0 ∷ [] }) → ⊥
    pub files_are : files_after files (accepted calls)
        ≡ (codes "a.w", []) ∷ (codes "a.ch", []) ∷ (codes "b.w", codes "t" ∷ []) ∷ []
    pub roles_are : roles_with roles (accepted calls) ≡ record roles { marks = Bare }

  answers : Answers
  answers = search (rules, are_a, are_h, are_b, are_c, are_text)

abbrev web : List ℕ → WebRead
web bytes = web_at ((codes "a.w", cut bytes) ∷ []) (roles_of (codes "a.w") None (codes "a.c"))

-- lines, a section, a macro and a comment come or go
moved : IsMoved (web (codes "@ A.\n@d M 1\n@c\nx = @<v@>;\n@ @<v@>=\n1\n"))
    (web (codes "% top\n@ Z.\n@ A.\n@c\nx\t= /* c */ @<v@>;\n@ @<v@>=\n1\n"))
unfolding source_at web_at reads_in tokens_from lexeme occurrences_from
moved = record { occurrences = refl; pieces = refl }

abbrev small : WebRead
small = web (codes "@ A.\n@c\nx@<v@>\n")

-- bytes, the number of a use and marks are how a piece is written
written : map (piece_form small.texts) small.pieces
    ≡ (
      None,
      (Written LineEnd (codes "\n"), None) ∷ (Written Word (codes "x"), None) ∷ (NoUse, Some 0)
          ∷ (Mark, None) ∷ (Written LineEnd (codes "\n"), None) ∷ [],
    ) ∷ []
unfolding source_at web_at reads_in tokens_from lexeme occurrences_from
written = refl
