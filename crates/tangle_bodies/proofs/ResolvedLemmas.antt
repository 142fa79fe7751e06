-- Tags of which each use has the kind that its occurrence gives it.
use Rattle.std.proofs.lemmas.Bool.Decides.{nat_tests}
use Rattle.std.proofs.Common.{◌≡◌, ◌∙◌, ◌<◌, ℕ, ◌+◌, true, List, [], ◌∷◌, ◌++◌, length, map, take, drop, get_or, set}
use Rattle.std.proofs.Common.{refl, ap, sym, arith, append_assoc}
use Rattle.std.proofs.lemmas.List.{take_more_set, drop-set-lt}
use Rattle.std.specs.Prelude.{is_some}
use Rattle.std.specs.List.{list_all}
use Rattle.tangle_text.specs.Runs.{parts_of}
use Rattle.tangle_text.specs.declared.runs.RunPart.{RunPart}
use Rattle.tangle_scan.specs.declared.texts.ItemKind.{ItemKind}
use Rattle.tangle_scan.specs.declared.texts.ItemKind.TheVariants as tag
use Rattle.tangle_scan.specs.declared.texts.ItemTag.{ItemTag}
use Rattle.tangle_scan.specs.UnfoldedTags.{StandFor, part_tag, run_tags, tag_sizes, unfolded_tags}
use Rattle.tangle_names.specs.NameTable.{TableRead}
use Rattle.tangle_bodies.specs.ItemTags.{resolved_tags}
use Rattle.tangle_bodies.specs.Nodes.{node_of_occurrence}
use Rattle.tangle_bodies.proofs.EachLemmas.{drop_at}

module _ (table : TableRead) where
  parts-resolved : (ps : List RunPart) (ts : List ItemTag) (ns : List ℕ)
      → resolved_tags table (map part_tag ps ++ ts) ns ≡ map part_tag ps ++ resolved_tags table ts ns
  parts-resolved [] ts ns = refl
  parts-resolved (x ∷ ps) ts ns = grind (arith, parts-resolved ps ts ns)

  tag-resolved : (t : ItemTag) (tags : List ItemTag) (bytes : List ℕ)
      → ((ns : List ℕ) → unfolded_tags (resolved_tags table tags ns) (drop t.size bytes)
      ≡ resolved_tags table (unfolded_tags tags (drop t.size bytes)) ns)
      → (k : ItemKind) → t.kind ≡ k → (ns : List ℕ)
      → unfolded_tags (resolved_tags table (t ∷ tags) ns) bytes
      ≡ resolved_tags table (unfolded_tags (t ∷ tags) bytes) ns
  unfolding run_tags
  tag-resolved t tags bytes rest tag.Run is ns =
      rw is (ap (λ l. run_tags (take t.size bytes) ++ l) (rest ns)
      ∙ sym (parts-resolved (parts_of 0 0 0 (take t.size bytes)) (unfolded_tags tags (drop t.size bytes)) ns))
  tag-resolved t tags bytes rest k is ns = grind (arith, nat_tests, rest)

  unfolded-resolved : (tags : List ItemTag) (bytes : List ℕ) (ns : List ℕ)
      → unfolded_tags (resolved_tags table tags ns) bytes ≡ resolved_tags table (unfolded_tags tags bytes) ns
  unfolded-resolved [] bytes ns = refl
  unfolded-resolved (t ∷ tags) bytes ns =
      tag-resolved t tags bytes (unfolded-resolved tags (drop t.size bytes)) t.kind refl ns

  sizes-resolved : (tags : List ItemTag) (ns : List ℕ) → tag_sizes (resolved_tags table tags ns) ≡ tag_sizes tags
  sizes-resolved [] ns = refl
  sizes-resolved (t ∷ tags) ns = grind (arith, nat_tests, sizes-resolved tags)

  pub stand-resolved : (tags : List ItemTag) (bytes : List ℕ) (unfolded : List ItemTag) (ns : List ℕ)
      → StandFor tags bytes unfolded → StandFor (resolved_tags table tags ns) bytes (resolved_tags table unfolded ns)
  stand-resolved tags bytes unfolded ns h = record {
    are = unfolded-resolved tags bytes ns ∙ ap (λ ts. resolved_tags table ts ns) h.are;
    sizes = sizes-resolved tags ns ∙ h.sizes;
  }

  -- where each occurrence resolves to a name
  pub all-resolved : (tags : List ItemTag) (ns : List ℕ) → list_all (λ n. is_some (node_of_occurrence table n)) ns ≡ true
      → resolved_tags table tags ns ≡ tags
  all-resolved [] ns h = refl
  all-resolved (t ∷ tags) ns h = grind (arith, nat_tests, all-resolved tags)

  -- one more tag is replaced in its place
  pub step-resolved : (tags : List ItemTag) (i : ℕ) (t new : ItemTag) (ns rest : List ℕ)
      → i < length tags → t ≡ get_or tags i t
      → ((ts : List ItemTag) → resolved_tags table (t ∷ ts) ns ≡ new ∷ resolved_tags table ts rest)
      → take (i + 1) (set tags i new) ++ resolved_tags table (drop (i + 1) (set tags i new)) rest
      ≡ take i tags ++ resolved_tags table (drop i tags) ns
  step-resolved tags i t new ns rest low at step =
      rw (take_more_set tags i new low, drop-set-lt (i + 1) tags i new (omega arith), append_assoc (take i tags), drop_at tags i t low at)
      (ap (λ l. take i tags ++ l) (sym (step (drop (i + 1) tags))))
