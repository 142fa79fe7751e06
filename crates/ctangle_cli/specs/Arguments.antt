-- The arguments of a run of `ctangle`, and the names that they give.
use Rattle.std.specs.Prelude.{ℕ, Bool, false, ◌==◌, ◌||◌, ◌&&◌, not, nat_lt, length, filter, List}
use Rattle.std.specs.Prelude.{[], ◌∷◌, ◌++◌, codes, Option, None, Some, if◌then◌else◌}
use Rattle.std.specs.List.{list_any, after_last, before_last}
use Rattle.std.specs.Str.{bytes_eq}
use Rattle.tangle_files.specs.Roles.{RolesRead, roles_of}

-- the bytes that the rules for arguments mention
abbrev pub hyphen : ℕ
hyphen = 45

abbrev pub plus : ℕ
plus = 43

abbrev pub slash : ℕ
slash = 47

abbrev pub dot : ℕ
dot = 46

-- an argument of two bytes or more that begins with a hyphen or a plus sign
abbrev pub is_flag : List ℕ → Bool
is_flag [] = false
is_flag (b ∷ bs) = nat_lt 0 (length bs) && ((b == hyphen) || (b == plus))

-- the part of a name after its last slash
abbrev pub base_name : List ℕ → List ℕ
base_name name = after_last (λ b. b == slash) name

-- a name has an extension if its part after the last slash has a dot
abbrev pub has_extension : List ℕ → Bool
has_extension name = list_any (λ b. b == dot) (base_name name)

abbrev pub with_extension : List ℕ → List ℕ → List ℕ
with_extension name extension = if has_extension name then name else name ++ extension

abbrev pub web_name : List ℕ → List ℕ
web_name argument = with_extension argument (codes ".w")

-- the change file that this argument names; `-` names none
abbrev pub change_name : List ℕ → Option (List ℕ)
change_name argument =
    if bytes_eq argument (codes "-") then None else Some (with_extension argument (codes ".ch"))

abbrev pub out_name : List ℕ → List ℕ
out_name argument = with_extension argument (codes ".c")

-- the main file, if none is named: the part of the web's name after the last slash, without the
-- last dot and what follows it, and then `.c`
abbrev pub main_name : List ℕ → List ℕ
main_name web = before_last (λ b. b == dot) (base_name web) ++ codes ".c"

-- the name of the change file, if one is given
abbrev pub change_of : Option (List ℕ) → Option (List ℕ)
change_of None = None
change_of (Some argument) = change_name argument

-- the name of the main file: the given one, or else that of the web
abbrev pub out_of : List ℕ → Option (List ℕ) → List ℕ
out_of web None = main_name web
out_of web (Some argument) = out_name argument

abbrev pub completed_names : List ℕ → Option (List ℕ) → Option (List ℕ) → RolesRead
completed_names web change out =
    roles_of (web_name web) (change_of change) (out_of (web_name web) out)

-- the given names: a web, perhaps a change file, and then perhaps the main file
abbrev pub named_by : List (List ℕ) → Option RolesRead
named_by [] = None
named_by (web ∷ []) = Some (completed_names web None None)
named_by (web ∷ (change ∷ [])) = Some (completed_names web (Some change) None)
named_by (web ∷ (change ∷ (out ∷ []))) = Some (completed_names web (Some change) (Some out))
named_by (web ∷ (change ∷ (out ∷ (more ∷ arguments)))) = None

-- the names that the arguments give, or none where no argument is a name or more than three are
unfoldable pub names_by_arguments : List (List ℕ) → Option RolesRead
names_by_arguments arguments = named_by (filter (λ argument. not (is_flag argument)) arguments)
