-- How creating, writing and closing a file change the list of created files.
use Rattle.std.proofs.Common.{arith}
use Rattle.std.proofs.Common.{rules}
use Rattle.std.proofs.lemmas.Bool.Decides.{nat_tests}
use Rattle.std.proofs.Common.{◌≡◌, ◌∙◌, ◌++◌, ℕ, List, [], ◌∷◌, Option, Some, None, ap, refl, append_assoc}
use Rattle.std.proofs.Common.{take, zero, suc, Result, Ok, Err, OnOk, OnErr}
use Rattle.std.specs.Io.KnownBytes.{Appends}
use Rattle.tangle_folders.specs.declared.folder.FolderFault.{FolderFault}
use Rattle.tangle_folders.specs.Folder.{Begins, Closes, ClosesWithin, File, with_created, with_last}
use Rattle.std.specs.Prelude.{map, unwrap_or, IsSome}
use Rattle.std.specs.List.{IsDistinct}
use Rattle.std.specs.Map.{lookup}
use Rattle.std.specs.Str.{bytes_eq}
use Rattle.std.proofs.Common.{sym}
use Rattle.std.proofs.lemmas.Cmp.{nat_list_eq_equiv}
use Rattle.std.proofs.lemmas.List.Elements.{Contains-append_right}
use Rattle.std.proofs.lemmas.Map.Views.{lookup-from_Contains}
use Rattle.tangle_streams.specs.Streams.{Stream}
use Rattle.tangle_files.specs.declared.refusal.Refusal.{Refusal}
use Rattle.tangle_files.specs.declared.refusal.Refusal.TheVariants as refusal
use Rattle.tangle_session.specs.Writes.{WritesOutput}
use Rattle.tangle_folders.specs.declared.folder.FolderFault.TheVariants.{NoMemory}
use Rattle.ctangle_cli.specs.Writing.{AddsPrefix}
use Rattle.ctangle_cli.specs.Run.{StopsAt}

with_last-push : (files : List File) (f : File) (bytes : List ℕ)
    → with_last (files ++ f ∷ []) bytes ≡ files ++ (f.0, bytes) ∷ []
with_last-push [] f bytes = refl
with_last-push (x ∷ []) f bytes = refl
with_last-push (x ∷ (y ∷ rest)) f bytes = ap (λ l. x ∷ l) (with_last-push (y ∷ rest) f bytes)

pub with_created-append : (old : Option (List File)) (xs ys : List File)
    → with_created (with_created old xs) ys ≡ with_created old (xs ++ ys)
with_created-append old xs ys = search (rules, append_assoc)

-- the created file has the bytes that its sink took
pub wrote : (a b c : Option (List File)) (s t : Option (List ℕ)) (name bytes : List ℕ)
    → Begins a s → b ≡ with_created a ((name, []) ∷ []) → Appends s t bytes → Closes b c t
    → c ≡ with_created a ((name, bytes) ∷ [])
wrote a b c s t name bytes first added put closed = search (rules, with_last-push)

-- the created file has a prefix of the bytes that its sink took
pub wrote_within : (a b c : Option (List File)) (s t : Option (List ℕ)) (name bytes : List ℕ)
    → Begins a s → b ≡ with_created a ((name, []) ∷ []) → Appends s t bytes → ClosesWithin b c t
    → (n : ℕ) × (c ≡ with_created a ((name, take n bytes) ∷ []))
wrote_within a b c s t name bytes first added put closed = search (rules, with_last-push)

-- a prefix of a prefix is a prefix
front_of_front : (n m : ℕ) (xs : List ℕ) → (k : ℕ) × (take n (take m xs) ≡ take k xs)
front_of_front zero m xs = (0, refl)
front_of_front (suc n) zero xs = (0, refl)
front_of_front (suc n) (suc m) [] = (0, refl)
front_of_front (suc n) (suc m) (x ∷ xs) = let r = front_of_front n m xs in (suc r.0, ap (λ l. x ∷ l) r.1)

-- a prefix of the file was created, whether or not closing it failed
pub wrote_prefix : {T : Type 0} (r : Result T FolderFault)
    (a b c : Option (List File)) (s t : Option (List ℕ)) (name bytes : List ℕ) (m : ℕ)
    → Begins a s → b ≡ with_created a ((name, []) ∷ []) → Appends s t (take m bytes) → OnOk r (Closes b c t)
    → OnErr r (ClosesWithin b c t)
    → AddsPrefix a c (name, bytes)
wrote_prefix (Ok done) a b c s t name bytes m first added put whole prefix =
    grind (arith, nat_tests, wrote a b c s t name)
wrote_prefix (Err fault) a b c s t name bytes m first added put whole prefix =
    let w = wrote_within a b c s t name (take m bytes) first added put prefix in
    grind (arith, nat_tests, front_of_front w.0 m bytes)

-- the sink took all the bytes of an output that a session wrote, or a prefix of them
pub took : (o : Option (List ℕ)) (a b : Stream) (n : ℕ)
    → IsSome o → WritesOutput o a b (Ok n) → Appends a.taken b.taken (unwrap_or o [])
took o a b n some h = search rules

pub took_front : (o : Option (List ℕ)) (a b : Stream) (e : Refusal)
    → IsSome o → WritesOutput o a b (Err e) → (m : ℕ) × Appends a.taken b.taken (take m (unwrap_or o []))
took_front None a b e some h = absurd (cc)
took_front (Some bytes) a b (refusal.WriteFault n) some h = (n, h.1)
took_front (Some bytes) a b _ some h = absurd h

-- Some of the outputs are created, and these are the names of the others.
pub record HasWritten (outputs : List File) (old new : Option (List File)) (names : List (List ℕ)) : Type 0 where
  pub done : List File
  pub others : List File
  pub all : outputs ≡ done ++ others
  pub created : new ≡ with_created old done
  pub names_are : names ≡ map (λ f. f.0) others

-- the output of this name
abbrev pub named : List File → List ℕ → File
named outputs name = (name, unwrap_or (lookup (bytes_eq name) outputs) [])

-- the others begin with the output of this name
pub record IsNext (outputs : List File) (old new : Option (List File))
    (name : List ℕ) (names : List (List ℕ)) : Type 0 where
  pub done : List File
  pub others : List File
  pub all : outputs ≡ done ++ named outputs name ∷ others
  pub is_there : IsSome (lookup (bytes_eq name) outputs)
  pub created : new ≡ with_created old done
  pub names_are : names ≡ map (λ f. f.0) others

module _ (outputs : List File) (old mid : Option (List File))
    (name : List ℕ) (names : List (List ℕ)) where
  pub next_output : (before : List (List ℕ)) → before ≡ name ∷ names
      → IsDistinct bytes_eq (map (λ f. f.0) outputs) → HasWritten outputs old mid before
      → IsNext outputs old mid name names
  next_output before is distinct h = by h.others (sym is ∙ h.names_are) h.all
    where
      by : (others : List File)
          → name ∷ names ≡ map (λ f. f.0) others → outputs ≡ h.done ++ others
          → IsNext outputs old mid name names
      by [] e all = absurd (cc)
      by (f ∷ others) e all =
          let found = lookup-from_Contains nat_list_eq_equiv f.0 f.1 outputs distinct (rw all
          (Contains-append_right h.done (f ∷ others) f (0, omega arith, refl))) in
          search rules

  pub wrote_next : (new : Option (List File)) → IsNext outputs old mid name names
      → new ≡ with_created mid (named outputs name ∷ []) → HasWritten outputs old new names
  wrote_next new next is = search (rules, append_assoc, with_created-append)

  -- writing stopped at the next output, because memory ran out or the folder failed
  pub stops_at_next : (new : Option (List File)) (fault : FolderFault)
      → IsNext outputs old mid name names → AddsPrefix mid new (named outputs name)
      → (fault ≡ NoMemory → new ≡ mid) → StopsAt outputs old new name fault
  stops_at_next new fault next added nothing = search rules
