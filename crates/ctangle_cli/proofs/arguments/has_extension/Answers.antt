use Rattle.std.proofs.Common.{◌==◌, ◌∙◌, ap}
use Rattle.std.specs.List.{list_any}
use Rattle.bstr.specs.Find.{is_byte}
use Rattle.ctangle_cli.proofs.NameLemmas.{passes-found}
use Rattle.ctangle_cli.proofs.arguments.has_extension.Goals as goal

pub returns : goal.returns
returns c =
    c.is_some.ensures ∙ passes-found (is_byte 46) c.after_slash.result.now c.find_byte.result c.find_byte.ensures
    ∙ ap (list_any (λ b. b == 46)) c.after_slash.ensures
