-- How the logic stores an expansion: as a tree of numbers, from which it can be read again.
use Rattle.std.specs.Prelude.{◌≡◌, refl}
use Rattle.std.proofs.Common.{ap, subst, sym}
use Rattle.std.specs.Coded.{Coded, code_by, coded×}
use base.Stored.{Gv, gnil, gcons}
use Rattle.tangle_expansion.specs.Expanded.{Expanded, ItemsOfNode, Shared, End, Next}

abbrev first : Gv → Gv
first (gcons a b) = a
first _ = gnil

abbrev second : Gv → Gv
second (gcons a b) = b
second _ = gnil

abbrev IsPair : Gv → Type 0
IsPair (gcons a b) = Unit {0}
IsPair _ = ⊥

module _ (items : Coded ItemsOfNode) where
  pub shared_code : Shared → Gv
  shared_code End = gnil
  shared_code (Next own used rest) =
      gcons (gcons (items.code own) (shared_code used)) (shared_code rest)

  pub shared_read : (x y : Shared) → shared_code x ≡ shared_code y → x ≡ y
  unfolding shared_code
  shared_read End End p = refl
  shared_read (Next a u s) (Next b v t) p = λ i. Next
      (items.inj a b (ap (λ g. first (first g)) p) i)
      (shared_read u v (ap (λ g. second (first g)) p) i) (shared_read s t (ap second p) i)
  shared_read End (Next b v t) p = absurd (subst IsPair (sym p) tt)
  shared_read (Next a u s) End p = absurd (subst IsPair p tt)

  abbrev pub expanded_code : Coded Expanded
  expanded_code =
      code_by (ItemsOfNode × Shared)
      (coded× items (record { code = shared_code; inj = shared_read }))
      (λ e. (e.items, e.used)) (λ p. record { items = p.0; used = p.1 }) (λ _. refl)
