-- The table of script lines, row by row.
use Rattle.std.specs.Prelude.{◌≡◌, ◌<◌, ◌≤◌, ℕ, ◌+◌, ◌-◌, ◌*◌, ◌&&◌, Bool, true, nat_le, List, []}
use Rattle.std.specs.Prelude.{◌∷◌, ◌++◌, codes, length, None, Some}
use Rattle.std.specs.List.{list_all}
use Rattle.tangle_script.specs.Requests.{Command, Request, request_of}
use Rattle.tangle_script.specs.Requests.Request.{Insert, Replace, Remove, Create, Discard, Show}
use Rattle.tangle_script.specs.Requests.Request.{MarksFull, MarksNone, Begin, Commit, Cancel}
use Rattle.tangle_script.specs.Requests.Request.{Faults, Work, Quit, BadCommand}

abbrev pub is_digit : ℕ → Bool
is_digit b = nat_le 48 b && nat_le b 57

-- one to nine decimal digits
pub record IsNumber (digits : List ℕ) : Type 0 where
  pub some : 0 < length digits
  pub few : length digits ≤ 9
  pub decimal : list_all is_digit digits ≡ true

-- the number that digits give, where the digits before them gave `n`
abbrev pub value_after : ℕ → List ℕ → ℕ
value_after n [] = n
value_after n (d ∷ ds) = value_after (n * 10 + (d - 48)) ds

-- a word, a number, one space and the name of a file, which may be empty
pub record IsNumbered (word : List ℕ) (number : ℕ) (file line : List ℕ) : Type 0 where
  pub digits : List ℕ
  pub is_number : IsNumber digits
  pub value : value_after 0 digits ≡ number
  pub whole : line ≡ word ++ (digits ++ 32 ∷ file)

-- the line, with its text if it takes one, is the row of this request
abbrev pub IsRow : Command → Request → Type 0
IsRow c (Insert at file text) = IsNumbered (codes "insert ") at file c.line × (c.text ≡ Some text)
IsRow c (Replace at file text) = IsNumbered (codes "replace ") at file c.line × (c.text ≡ Some text)
IsRow c (Remove at file) = IsNumbered (codes "remove ") at file c.line × (c.text ≡ None)
IsRow c (Create file) = (c.line ≡ codes "create " ++ file) × (c.text ≡ None)
IsRow c (Discard file) = (c.line ≡ codes "discard " ++ file) × (c.text ≡ None)
IsRow c (Show file) = (c.line ≡ codes "show " ++ file) × (c.text ≡ None)
IsRow c MarksFull = (c.line ≡ codes "marks full") × (c.text ≡ None)
IsRow c MarksNone = (c.line ≡ codes "marks none") × (c.text ≡ None)
IsRow c Begin = (c.line ≡ codes "begin") × (c.text ≡ None)
IsRow c Commit = (c.line ≡ codes "commit") × (c.text ≡ None)
IsRow c Cancel = (c.line ≡ codes "cancel") × (c.text ≡ None)
IsRow c Faults = (c.line ≡ codes "faults") × (c.text ≡ None)
IsRow c Work = (c.line ≡ codes "work") × (c.text ≡ None)
IsRow c Quit = (c.line ≡ codes "quit") × (c.text ≡ None)
IsRow c BadCommand = ⊥

-- a command gives the request of its row; one that is in no row is a bad command
abbrev pub CommandAsks : Command → Request → Type 0
CommandAsks c BadCommand = (r : Request) → IsRow c r → ⊥
CommandAsks c r = IsRow c r

-- a command has exactly one request, which `request_of` gives
abbrev pub AsksForItsRow : Command → Type 0
AsksForItsRow c =
    CommandAsks c (request_of c) × ((r : Request) → CommandAsks c r → r ≡ request_of c)
