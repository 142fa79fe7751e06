-- Tags as they are in memory, where a run of words, signs, quoted texts and single spaces has one
-- tag, and the tags of the items that they stand for.
use Rattle.std.specs.Prelude.{◌≡◌, ℕ, ◌+◌, ◌-◌, List, [], ◌∷◌, ◌++◌, length, map, take, drop}
use Rattle.tangle_text.specs.declared.runs.RunPart.{RunPart}
use Rattle.tangle_text.specs.declared.runs.RunPart.TheVariants as part
use Rattle.tangle_text.specs.Runs.{parts_of}
use Rattle.tangle_scan.specs.declared.texts.ItemKind.{ItemKind}
use Rattle.tangle_scan.specs.declared.texts.ItemKind.TheVariants as tag
use Rattle.tangle_scan.specs.declared.texts.ItemTag.{ItemTag}

-- the tag of a part of a run
abbrev pub part_tag : RunPart → ItemTag
part_tag (part.Word s) = record { kind = tag.Word; size = s.end - s.start }
part_tag (part.Quoted s) = record { kind = tag.Quoted; size = s.end - s.start }
part_tag (part.Sign s) = record { kind = tag.Sign; size = s.end - s.start }
part_tag part.Space = record { kind = tag.Blank; size = 1 }

-- the tags of the parts of a run with these bytes, wherever it is
unfoldable pub run_tags : List ℕ → List ItemTag
run_tags bytes = map part_tag (parts_of 0 0 0 bytes)

-- the tags that a tag of this kind, with these bytes, stands for
abbrev pub kind_tags : ItemKind → ItemTag → List ℕ → List ItemTag
kind_tags tag.Run t bytes = run_tags bytes
kind_tags _ t bytes = t ∷ []

-- The tags of the items, where these tags are in memory and the items have these bytes.
abbrev pub unfolded_tags : List ItemTag → List ℕ → List ItemTag
unfolded_tags [] bytes = []
unfolded_tags (t ∷ tags) bytes =
    kind_tags t.kind t (take t.size bytes) ++ unfolded_tags tags (drop t.size bytes)

-- the tags that remain, where these tags and bytes are in memory, and the first bytes, as many as
-- `run`, are the rest of a run that was begun
abbrev pub tags_left : List ItemTag → List ℕ → ℕ → List ItemTag
tags_left tags bytes run = run_tags (take run bytes) ++ unfolded_tags tags (drop run bytes)

-- the number of bytes of all these tags
abbrev pub tag_sizes : List ItemTag → ℕ
tag_sizes [] = 0
tag_sizes (t ∷ tags) = t.size + tag_sizes tags

-- these tags, which have all of these bytes, stand for these tags
pub record StandFor (tags : List ItemTag) (bytes : List ℕ) (unfolded : List ItemTag) : Type 0 where
  pub are : unfolded_tags tags bytes ≡ unfolded
  pub sizes : tag_sizes tags ≡ length bytes
