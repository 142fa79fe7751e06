-- Plain forms of file names, which the logic computes.
use Rattle.std.proofs.Common.{rules}
use Rattle.std.proofs.Common.{◌≡◌}
use Rattle.std.specs.Prelude.{codes}
use Rattle.tangle_graph.specs.PlainForms.{plain_form}

record Forms : Type 0 where
  pub folder_itself : plain_form (codes "./a.c") ≡ codes "a.c"
  pub folder_itself_between : plain_form (codes "x/./y") ≡ codes "x/y"
  pub slashes_in_front : plain_form (codes "//x") ≡ codes "/x"
  pub slashes_between_and_behind : plain_form (codes "x//y.h/") ≡ codes "x/y.h"
  pub folder_above : plain_form (codes "../x") ≡ codes "../x"
  pub folder_above_between : plain_form (codes "x/.././y") ≡ codes "x/../y"
  pub no_name : plain_form (codes "./") ≡ codes ""
  pub root : plain_form (codes "/.") ≡ codes "/"

forms : Forms
unfolding plain_form
forms = search rules
