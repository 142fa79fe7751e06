use Rattle.std.proofs.Common.{rules}
use Rattle.std.proofs.Common.{◌≡◌, ℕ, List, ◌∷◌, drop}
use Rattle.tangle_scan.specs.UnfoldedTags.{tags_left}
use Rattle.tangle_scan.specs.declared.texts.ItemTag.{ItemTag}
use Rattle.tangle_scan.specs.declared.texts.ItemKind.TheVariants as tag
use Rattle.std.proofs.lemmas.List.{take_rest, drop_min, nil_from_length}
use Rattle.tangle_scan.proofs.lemmas.RunTags.{no_run_tags}
use Rattle.std.proofs.lemmas.List.{take_min, drop-take, drop-drop}
use Rattle.tangle_scan.proofs.tags_left.TagsLeft.next.Goals as goal

pub returns-in_err-tag-clause-tag : goal.returns-in_err-tag-clause-tag
returns-in_err-tag-clause-tag c = search (rules, no_run_tags, nil_from_length)

pub returns-in_err-tag-clause-rest : goal.returns-in_err-tag-clause-rest
returns-in_err-tag-clause-rest c = search (rules, no_run_tags, nil_from_length)

pub loop-self-preserved : goal.loop-self-preserved
loop-self-preserved c = search (rules, take_min, drop_min, no_run_tags)

-- a tag that begins, where no run was begun

other_left : (tags ts : List ItemTag) (t : ItemTag) (bytes : List ℕ) (run : ℕ)
    → run ≡ 0 → tags ≡ t ∷ ts → (t.kind ≡ tag.Run → ⊥)
    → tags_left tags bytes run ≡ t ∷ tags_left ts (drop t.size bytes) run
other_left tags ts t bytes run zero is other = search (rules, no_run_tags)

pub returns-in_default : goal.returns-in_default
returns-in_default c =
    let self = c.loop-self.self-inside in
    let t = c.in_ok-tag.tag.now in
    let size = c.size_within-size.result in
    let next = other_left self.tags.now c.in_ok-tag.tags.now t self.bytes.now self.run
    c.loop-self-test.true c.in_ok-tag.ensures.cases.0 c.in_default.not-Run in
    search (rules, take_rest, drop_min)

pub returns-clause-rest : goal.returns-clause-rest
returns-clause-rest c = search (rules, drop-take, drop-drop, take_rest)
