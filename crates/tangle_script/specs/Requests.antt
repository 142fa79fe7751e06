-- The table of script lines: the request of each command.
use Rattle.std.specs.Prelude.{ℕ, ◌+◌, ◌-◌, ◌*◌, ◌==◌, ◌&&◌, ◌||◌, Bool, true, false, nat_lt, nat_le}
use Rattle.std.specs.Prelude.{List, [], ◌∷◌, codes, length, take, drop, Option, None, Some, is_some}
use Rattle.std.specs.Prelude.{if◌then◌else◌}
use Rattle.std.specs.Str.{bytes_eq}
use Rattle.tangle_script.specs.declared.request.Request.{Request as Asked}
use Rattle.tangle_script.specs.declared.request.Request.TheVariants as variant

-- a command: a script line, and its text, which is the next line, if it takes one
pub record Command : Type 0 where
  pub line : List ℕ
  pub text : Option (List ℕ)

-- the request of a command
pub data Request : Type 0 where
  Insert : (at : ℕ) (file text : List ℕ) → Request
  Replace : (at : ℕ) (file text : List ℕ) → Request
  Remove : (at : ℕ) (file : List ℕ) → Request
  Create : (file : List ℕ) → Request
  Discard : (file : List ℕ) → Request
  Show : (file : List ℕ) → Request
  -- line marks are written in full from here on, or as line feeds
  MarksFull : Request
  MarksNone : Request
  -- a list of edits is opened, committed or dropped
  Begin : Request
  Commit : Request
  Cancel : Request
  Faults : Request
  Work : Request
  Quit : Request
  BadCommand : Request

-- a request, with the bytes of its file and text
abbrev pub request_read : Asked → Request
request_read (variant.Insert at file text) = Insert at file.now text.now
request_read (variant.Replace at file text) = Replace at file.now text.now
request_read (variant.Remove at file) = Remove at file.now
request_read (variant.Create file) = Create file.now
request_read (variant.Discard file) = Discard file.now
request_read (variant.Show file) = Show file.now
request_read variant.MarksFull = MarksFull
request_read variant.MarksNone = MarksNone
request_read variant.Begin = Begin
request_read variant.Commit = Commit
request_read variant.Cancel = Cancel
request_read variant.Faults = Faults
request_read variant.Work = Work
request_read variant.Quit = Quit
request_read variant.BadCommand = BadCommand

-- the rest of the line, if it begins with this word
abbrev pub after_word : List ℕ → List ℕ → Option (List ℕ)
after_word word line =
    if bytes_eq (take (length word) line) word then Some (drop (length word) line) else None

-- the number that one to nine decimal digits and a space give, and the rest of the line; `count`
-- digits, with the value `number`, came before
abbrev pub number_and_file : ℕ → ℕ → List ℕ → Option (ℕ × List ℕ)
number_and_file count number [] = None
number_and_file count number (b ∷ bs) =
    if nat_le 48 b && nat_le b 57 && nat_lt count 9
    then number_and_file (count + 1) (number * 10 + (b - 48)) bs
    else if (b == 32) && nat_lt 0 count then Some (number, bs)
    else None

-- the request of a row of the table, if the line begins with the row's word; else the request
-- `other`, which the later rows give
abbrev pub row : Option (List ℕ) → (List ℕ → Request) → Request → Request
row None request other = other
row (Some rest) request other = request rest

-- the request for a number and a file, or a bad command where the line has none
abbrev pub numbered : (ℕ → List ℕ → Request) → Option (ℕ × List ℕ) → Request
numbered request None = BadCommand
numbered request (Some p) = request p.0 p.1

-- the request of a line that is one of the fixed lines of the table
abbrev pub word_request : List ℕ → Request
word_request line =
    if bytes_eq line (codes "marks full") then MarksFull
    else if bytes_eq line (codes "marks none") then MarksNone
    else if bytes_eq line (codes "begin") then Begin
    else if bytes_eq line (codes "commit") then Commit
    else if bytes_eq line (codes "cancel") then Cancel
    else if bytes_eq line (codes "faults") then Faults
    else if bytes_eq line (codes "work") then Work
    else if bytes_eq line (codes "quit") then Quit
    else BadCommand

-- the request of a line without a text
abbrev pub file_request : List ℕ → Request
file_request line =
    row (after_word (codes "remove ") line) (λ rest. numbered Remove (number_and_file 0 0 rest))
    (row (after_word (codes "create ") line) Create
    (row (after_word (codes "discard ") line) Discard
    (row (after_word (codes "show ") line) Show (word_request line))))

-- the request of a line with a text
abbrev pub text_request : List ℕ → List ℕ → Request
text_request line text =
    row (after_word (codes "insert ") line)
    (λ rest. numbered (λ at file. Insert at file text) (number_and_file 0 0 rest))
    (row (after_word (codes "replace ") line)
    (λ rest. numbered (λ at file. Replace at file text) (number_and_file 0 0 rest)) BadCommand)

abbrev pub request_with : List ℕ → Option (List ℕ) → Request
request_with line None = file_request line
request_with line (Some text) = text_request line text

-- the request of a command
unfoldable pub request_of : Command → Request
request_of c = request_with c.line c.text

-- whether the line takes the next line as its text
unfoldable pub takes_text : List ℕ → Bool
takes_text line =
    is_some (after_word (codes "insert ") line) || is_some (after_word (codes "replace ") line)

abbrev pub is_quit : Request → Bool
is_quit Quit = true
is_quit _ = false

abbrev pub is_edit : Request → Bool
is_edit (Insert at file text) = true
is_edit (Replace at file text) = true
is_edit (Remove at file) = true
is_edit (Create file) = true
is_edit (Discard file) = true
is_edit MarksFull = true
is_edit MarksNone = true
is_edit _ = false
