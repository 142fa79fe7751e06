-- Arguments of `retangle`, and the names that they give.
use Rattle.std.proofs.Common.{rules}
use Rattle.std.proofs.Common.{◌≡◌, true, false, List, ℕ, [], ◌∷◌, None, Some, codes}
use Rattle.clap.specs.Words.{takes}
use Rattle.clap.proofs.OnLiterals.{clap_on_literals}
use Rattle.tangle_files.specs.Roles.{roles_of}
use Rattle.ctangle_cli.specs.RetangleArguments.{retangle_app, retangle_names_of}

abbrev web_and_out : List (List ℕ)
web_and_out = codes "retangle" ∷ codes "a" ∷ codes "--out" ∷ codes "z" ∷ []

abbrev change_before_web : List (List ℕ)
change_before_web = codes "retangle" ∷ codes "--change=b" ∷ codes "x/y.web" ∷ []

abbrev two_webs : List (List ℕ)
two_webs = codes "retangle" ∷ codes "a" ∷ codes "b" ∷ []

record Names : Type 0 where
  pub of_web_and_out : retangle_names_of web_and_out ≡ Some (roles_of (codes "a.w") None (codes "z.c"))
  pub web_and_out_are_accepted : takes retangle_app web_and_out ≡ true
  pub of_change_before_web : retangle_names_of change_before_web
      ≡ Some (roles_of (codes "x/y.web") (Some (codes "b.ch")) (codes "y.c"))
  pub change_before_web_is_accepted : takes retangle_app change_before_web ≡ true
  pub of_two_webs : retangle_names_of two_webs ≡ None
  pub two_webs_are_refused : takes retangle_app two_webs ≡ false
  pub help_is_no_names : retangle_names_of (codes "retangle" ∷ codes "a" ∷ codes "--help" ∷ []) ≡ None

names : Names
unfolding retangle_names_of clap_on_literals
names = search rules
