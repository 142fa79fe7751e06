use Rattle.std.proofs.Common.{rules}
use Rattle.std.proofs.Common.{◌≡◌, ◌∙◌, true, false, not, ap, refl, sym}
use Rattle.std.specs.Str.{bytes_eq}
use Rattle.std.proofs.Math.Bool.{or-false}
use Rattle.tangle_graph.specs.NamedFiles.{has_form}
use Rattle.tangle_graph.specs.Outputs.{form_at, is_file}
use Rattle.tangle_graph.specs.PlainForms.{plain_form}
use Rattle.tangle_graph.proofs.NamedFileLemmas.{flags_more, form_more}
use Rattle.tangle_graph.proofs.named_files.other_files.Goals as goal

pub returns-then-not-is_file : goal.returns-then-not-is_file
returns-then-not-is_file c shapes out measured formed have =
    let e = c.is_file.ensures shapes measured in
    let is : is_file shapes c.args.table.now c.args.id ≡ false = search rules in
    flags_more shapes c.args.table.now out c.args.id _ c.args.forms.now.keys false _
    (form_at c.args.table.now c.args.id) _ have is refl formed refl (λ f. sym (or-false _))

pub returns-then-eq : goal.returns-then-eq
returns-then-eq c shapes out measured formed have =
    let e = c.is_file.ensures shapes measured in
    let is : is_file shapes c.args.table.now c.args.id ≡ true = search rules in
    let same : bytes_eq c.in_ok-form.form.items c.args.main_form.now.items ≡ true = search rules in
    flags_more shapes c.args.table.now out c.args.id _ c.args.forms.now.keys true true c.in_ok-form.form.items _ have is
    (c.in_ok-form.ensures ∙ ap plain_form c.text.ensures) formed same (λ f. sym (or-false _))

pub returns : goal.returns
returns c shapes out measured formed have =
    let e = c.is_file.ensures shapes measured in
    let is : is_file shapes c.args.table.now c.args.id ≡ true = search rules in
    let same : bytes_eq c.in_ok-form.form.items c.args.main_form.now.items ≡ false = search rules in
    let seen : not c.in_ok-is_first.is_first ≡ has_form c.args.forms.now.keys c.in_ok-form.form.items = search rules in
    let all = flags_more shapes c.args.table.now out c.args.id _ c.insert.new.self.keys true false c.in_ok-form.form.items _
    have is (c.in_ok-form.ensures ∙ ap plain_form c.text.ensures) formed same
    (λ f. ap (λ l. has_form l f) c.in_ok-is_first.ensures.keys ∙ form_more c.args.forms.now.keys c.in_ok-form.form f) in
    (all.0, (λ i. (false, seen i)) ∙ all.1)
