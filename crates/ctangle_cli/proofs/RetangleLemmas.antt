-- clap's conditions on the three arguments of `retangle`, and how its getters lead to the matches of a simple command.
use Rattle.std.proofs.Common.{rules}
use Rattle.std.proofs.lemmas.Bool.Decides.{nat_tests}
use Rattle.std.proofs.Common.{◌≡◌, ◌∙◌, ℕ, zero, suc, true, false, List, [], ◌∷◌, Result, refl, ap}
use Rattle.std.proofs.Common.{◌≢◌, arith, codes, inl, inr, subst}
use Rattle.std.specs.List.{All}
use Rattle.std.specs.Result.{IfErr, IsErrAnd}
use Rattle.std.specs.Str.{bytes_eq}
use Rattle.clap.specs.Built.{FitsChain, HasDistinctIds, IsPlainArg}
use Rattle.clap.specs.Words.{App, HasMatchesOf, Text, app_of, first_of, first_value, found_of, is_simple, matches_of}
use Rattle.std.specs.Prelude.{Option, None, if◌then◌else◌}
use Rattle.clap.specs.Walk.{is_empty}
use Rattle.tangle_files.specs.Roles.{RolesRead}
use Rattle.ctangle_cli.specs.RetangleArguments.{retangle_app, retangle_names_of}
use Rattle.clap.specs.Words.{HasKind, IsAmong, Kinds, fault_of, is_simple_and_free, kind_of}
use Rattle.clap.specs.declared.error.Error.{Error}
use Rattle.clap.specs.declared.error.kind.ErrorKind.TheVariants.{OutOfMemory}
use Rattle.clap.specs.declared.builder.arg.Arg.{Arg}
use Rattle.clap.specs.declared.builder.command.Command.{Command}
use Rattle.clap.specs.declared.parser.matches.ArgMatches.{ArgMatches}
use Rattle.clap.proofs.WalkLemmas.{first_value-rows}

-- a plain argument whose id differs from those of clap's own flags
pub fits : (a : Arg) (id : List ℕ) → IsPlainArg a × (a.global ≡ false) → a.id.now ≡ id → bytes_eq id [] ≡ false
    → bytes_eq id (codes "help") ≡ false → bytes_eq id (codes "version") ≡ false → FitsChain a
fits a id plain is named help version = search rules

pub fits_three : (a b c : Arg) → FitsChain a → FitsChain b → FitsChain c → All FitsChain (a ∷ b ∷ c ∷ [])
fits_three a b c fa fb fc = search rules

differ : (x y : Arg) (s t : List ℕ)
    → x.id.now ≡ s → y.id.now ≡ t → bytes_eq s t ≡ false → bytes_eq x.id.now y.id.now ≡ true → ⊥
differ x y s t xs yt apart same = search rules

pub distinct_three : (a b c : Arg)
    → a.id.now ≡ codes "WEB" → b.id.now ≡ codes "change" → c.id.now ≡ codes "out" → HasDistinctIds (a ∷ b ∷ c ∷ [])
distinct_three a b c ea eb ec (suc (suc (suc j))) k d e lj lk h = absurd (omega arith)
distinct_three a b c ea eb ec j k d e lj lk h = search (rules, differ)

pub value_is : (c : Command) (a : App) (m : ArgMatches) (arguments : List Text) (id : Text)
    → app_of c ≡ a → is_simple a ≡ true → HasMatchesOf (app_of c) arguments m
    → first_of id (matches_of a arguments) ≡ first_value (found_of m) id
value_is c a m arguments id app simple has = search (rules, first_value-rows)

-- a simple command that gives matches has no fault, and one that gives another error than out of memory has one
module _ (c : Command) (a : App) (arguments : List Text) (app : app_of c ≡ a) (free : is_simple_and_free a ≡ true) where
  is_free : is_simple_and_free (app_of c) ≡ true
  is_free = ap is_simple_and_free app ∙ free

  pub no_fault : (is_simple_and_free (app_of c) ≡ true → fault_of (app_of c) arguments ≡ []) → fault_of a arguments ≡ []
  no_fault given = subst (λ x. fault_of x arguments ≡ []) app (given is_free)

  pub some_fault : (e : Error) → (is_simple_and_free (app_of c) ≡ true → HasKind (fault_of (app_of c) arguments) e)
      → kind_of e ≢ OutOfMemory → fault_of a arguments ≢ []
  some_fault e given other none = elim (given is_free) [
    | inl short ↦ other short
    | inr among ↦ subst (IsAmong (kind_of e)) (ap (λ x. fault_of x arguments) app ∙ none) among
  ]

-- arguments that have a fault give no names
unless_empty : (faults : Kinds) (names : Option RolesRead)
    → faults ≢ [] → (if is_empty faults then names else None) ≡ None
unless_empty [] names some = absurd (some refl)
unless_empty (kind ∷ kinds) names some = grind (arith, nat_tests)

pub no_names : (arguments : List Text) → fault_of retangle_app arguments ≢ [] → retangle_names_of arguments ≡ None
unfolding retangle_names_of
no_names arguments some = unless_empty (fault_of retangle_app arguments) _ some

pub err_gives : {T E : Type 0} (r : Result T E) (P Q : E → Type 0) → IsErrAnd r P → ((e : E) → P e → Q e) → IfErr r Q
err_gives r P Q h f = search rules
