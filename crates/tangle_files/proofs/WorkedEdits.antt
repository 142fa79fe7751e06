-- Worked edits: the files and roles after them, and which are refused.
use Rattle.std.proofs.Common.{rules}
use Rattle.std.proofs.Common.{◌≡◌, ℕ, List, [], ◌∷◌, ◌++◌, None, Some, codes, refl, length}
use Rattle.std.specs.Prelude.{replicate}
use Rattle.std.specs.Global.{Global}
use Rattle.std.specs.declared.vec.Vec.{Vec}
use Rattle.tangle_files.specs.declared.edits.Edit.TheVariants.{Insert, Remove, Replace, Create, Discard, Marks}
use Rattle.tangle_files.specs.declared.marks.MarkMode.TheVariants.{Bare, Full}
use Rattle.tangle_files.specs.declared.refusal.Refusal.TheVariants.{BadName, FileExists, UnknownFile, NoSuchLine}
use Rattle.tangle_files.specs.declared.refusal.Refusal.TheVariants.{BadLine, LineTooLong, TooManyLines}
use Rattle.tangle_files.specs.Lines.{FileTable}
use Rattle.tangle_files.specs.Edited.{edited_all, roles_after}
use Rattle.tangle_files.specs.Edits.{edit_refusal, insert_refusal, replace_refusal}
use Rattle.tangle_files.specs.Roles.{roles_of}

-- files of which the first has these lines
abbrev files : List (List ℕ) → FileTable
files lines = (codes "a.w", lines) ∷ (codes "b.w", codes "z" ∷ []) ∷ []

abbrev xy : FileTable
xy = files (codes "x" ∷ codes "y" ∷ [])

-- vectors with these bytes
module _ (empty a b c text : Vec ℕ Global) (no_bytes : empty.items ≡ []) (are_a : a.items ≡ codes "a.w")
    (are_b : b.items ≡ codes "b.w") (are_c : c.items ≡ codes "c.w") (are_text : text.items ≡ codes "t  ") where
  record Edits : Type 0 where
    pub inserted_first : edited_all xy (Insert a 1 text ∷ []) ≡ files (codes "t" ∷ codes "x" ∷ codes "y" ∷ [])
    pub inserted_last : edited_all xy (Insert a 3 text ∷ []) ≡ files (codes "x" ∷ codes "y" ∷ codes "t" ∷ [])
    pub removed : edited_all xy (Remove a 1 ∷ []) ≡ files (codes "y" ∷ [])
    pub replaced : edited_all xy (Replace a 2 text ∷ []) ≡ files (codes "x" ∷ codes "t" ∷ [])
    pub discarded : edited_all xy (Discard a ∷ []) ≡ (codes "b.w", codes "z" ∷ []) ∷ []
    -- each edit is made in the files that the earlier ones left
    pub created : edited_all xy (Remove a 1 ∷ Remove a 1 ∷ Create c ∷ Marks Bare ∷ Insert c 1 text ∷ [])
        ≡ files [] ++ (codes "c.w", codes "t" ∷ []) ∷ []
    pub roles : roles_after (roles_of a.items None b.items) (Discard b ∷ Marks Full ∷ Marks Bare ∷ [])
        ≡ record (roles_of a.items None b.items) { marks = Bare }

  edits : Edits
  edits = search (rules, are_a, are_b, are_c, are_text)

  record Refusals : Type 0 where
    pub bad_name : edit_refusal xy (Remove empty 1) ≡ Some BadName
    pub file_exists : edit_refusal xy (Create b) ≡ Some FileExists
    pub unknown_file : edit_refusal xy (Insert c 0 text) ≡ Some UnknownFile
    pub line_0 : edit_refusal xy (Insert a 0 text) ≡ Some NoSuchLine
    pub insert_after_the_last : edit_refusal xy (Insert a 3 text) ≡ None
    pub insert_beyond : edit_refusal xy (Insert a 4 text) ≡ Some NoSuchLine
    pub last_line : edit_refusal xy (Replace a 2 text) ≡ None
    pub replace_beyond : edit_refusal xy (Replace a 3 text) ≡ Some NoSuchLine
    pub remove_beyond : edit_refusal xy (Remove a 3) ≡ Some NoSuchLine
    pub marks : edit_refusal xy (Marks Bare) ≡ None

  refusals : Refusals
  refusals = search (rules, no_bytes, are_a, are_b, are_c, are_text)

-- the number of the line is looked at before its text, and then whether the file is full
record Texts : Type 0 where
  pub number_first : insert_refusal (codes "x" ∷ []) 3 (codes "a\nb") ≡ Some NoSuchLine
  pub line_feed : replace_refusal (codes "x" ∷ []) 1 (codes "a\nb") ≡ Some BadLine
  pub too_long : insert_refusal [] 1 (replicate 65536 97) ≡ Some LineTooLong
  pub spaces_do_not_count : insert_refusal [] 1 (replicate 65535 97 ++ codes "  ") ≡ None
  pub full : (lines : List (List ℕ)) → length lines ≡ 1000000
      → (insert_refusal lines 1000001 (codes "x") ≡ Some TooManyLines)
      × (insert_refusal lines 1000002 (codes "x") ≡ Some NoSuchLine)
      × (insert_refusal lines 1 (replicate 65536 97) ≡ Some LineTooLong)
      × (replace_refusal lines 1000000 (codes "x") ≡ None)
  pub almost_full : (lines : List (List ℕ)) → length lines ≡ 999999 → insert_refusal lines 1 (codes "x") ≡ None

texts : Texts
texts = record {
  number_first = refl;
  line_feed = refl;
  too_long = refl;
  spaces_do_not_count = refl;
  full = λ lines h. rw h (refl, refl, refl, refl);
  almost_full = λ lines h. rw h refl;
}
