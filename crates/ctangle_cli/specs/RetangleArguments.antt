-- The command of `retangle`, and the names that its arguments give.
use Rattle.std.specs.Prelude.{◌≡◌, true, List, Option, None, Some, codes, option_map}
use Rattle.std.specs.Prelude.{if◌then◌else◌}
use Rattle.clap.specs.Walk.{is_empty}
use Rattle.clap.specs.Words.{App, Row, Rule, Text, fault_of, first_of, matches_of, new_app}
use Rattle.clap.specs.Words.{new_rule, with_rule}
use Rattle.clap.specs.declared.builder.action.ArgAction.TheVariants.{Set}
use Rattle.tangle_files.specs.Roles.{RolesRead}
use Rattle.ctangle_cli.specs.Arguments.{completed_names}
use Rattle.ctangle_cli.specs.declared.retangle_names.Values.{Values}

-- WEB is required, and takes one value
abbrev pub web_rule : Rule
web_rule = record (new_rule (codes "WEB")) { required = true; action = Some Set }

-- an option whose value is a file's name
abbrev pub file_rule : Text → Rule
file_rule name = record (new_rule name) { long = Some name; value_names = 1 }

-- the command without its arguments: clap adds the flag for help and, since the command has a
-- version, the flag for the version
abbrev pub empty_app : App
empty_app =
    let app = new_app (codes "retangle") in
    record app { top = record app.top { has_version = true } }

-- `retangle WEB [--change FILE] [--out FILE]`
abbrev pub retangle_app : App
retangle_app = with_rule (with_rule (with_rule empty_app web_rule) (file_rule (codes "change")))
    (file_rule (codes "out"))

-- the values of WEB, `--change` and `--out`, completed to file names; none without a value of WEB
abbrev pub completed_values : List Row → Option RolesRead
completed_values rows =
    option_map
    (λ web. completed_names web (first_of (codes "change") rows) (first_of (codes "out") rows))
    (first_of (codes "WEB") rows)

-- the names that the arguments give, by clap's definitions of the faults and the matches of this
-- command; none where there is a fault, as also a request for help or the version is
unfoldable pub retangle_names_of : List Text → Option RolesRead
retangle_names_of arguments =
    if is_empty (fault_of retangle_app arguments)
    then completed_values (matches_of retangle_app arguments) else None

-- among the matches, WEB, `--change` and `--out` have these values
pub record GivesValues (rows : List Row) (values : Values) : Type 0 where
  pub web : first_of (codes "WEB") rows ≡ Some values.web.now
  pub change : first_of (codes "change") rows ≡ option_map (λ s. s.now) values.change
  pub out : first_of (codes "out") rows ≡ option_map (λ s. s.now) values.out
