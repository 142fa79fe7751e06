use Rattle.std.proofs.Common.{◌≡◌, List, ap, length, map, subst, take, arith}
use Rattle.std.proofs.lemmas.List.{length-map, length_push, length-take, map_more}
use Rattle.std.specs.Global.{Global}
use Rattle.std.specs.declared.vec.Vec.{Vec}
use Rattle.tangle_files.specs.declared.edits.Edit.{Edit}
use Rattle.tangle_session.specs.Headline.{Answered, ApplyAll, IsAnswered}
use Rattle.tangle_session.proofs.HeadlineLemmas.{calls-more}
use Rattle.tangle_session.proofs.histories.apply_each.Goals as goal

pub loop-edits-preserved : goal.loop-edits-preserved
loop-edits-preserved c =
    let lists : List (Vec Edit Global) = c.args.lists.now in
    let at = c.loop-edits.edits-index in
    let edits : Vec Edit Global = c.edits-item.result in
    let so_far = c.loop-edits.invariant in
    let answers = c.loop-edits.answers.items in
    let items = λ (e : Vec Edit Global). e.items in
    let same : length (map items (take at lists)) ≡ length answers =
    omega (arith, length-map (take at lists) items, length-take at lists) in
    record {
      counted = omega arith;
      answered = omega (arith, ap length c.push_reserved.ensures.items, length_push answers c.apply_all.result);
      capacity = omega arith;
      history = λ files roles started. rw (
        c.push_reserved.ensures.items,
        map_more items lists at edits c.loop-edits-test.true,
        ← c.edits-item.is,
        calls-more _ answers edits.items c.apply_all.result same,
      )
          (Answered c.loop-edits.session (ApplyAll edits.items c.apply_all.result)
          (so_far.history files roles started)
          (subst (λ (e : List Edit). IsAnswered c.loop-edits.session (ApplyAll e c.apply_all.result)
          c.apply_all.new.self)
          c.deref.ensures.value c.apply_all.ensures));
    }
