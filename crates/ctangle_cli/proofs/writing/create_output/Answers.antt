use Rattle.std.proofs.Common.{rules}
use Rattle.std.proofs.Common.{◌∷◌, [], inr, refl}
use Rattle.std.proofs.lemmas.Result.{on_ok_weaker, on_err_weaker}
use Rattle.ctangle_cli.proofs.WriteLemmas.{took, took_front, wrote, wrote_within, wrote_prefix}
use Rattle.ctangle_cli.proofs.writing.create_output.Goals as goal

pub returns-in-Ok-clause-whole : goal.returns-in-Ok-clause-whole
returns-in-Ok-clause-whole g c =
    let put = took _ (g.F.Out.Sink.stream c.in_ok-out.out)
    (g.F.Out.Sink.stream c.write_output_at-written.new.sink) c.in-Ok.field-0 c.requires c.in-Ok.ensures.written in
    on_ok_weaker c.close-closed.result
    (λ closed. wrote _ _ _ _ _ c.args.name.now _ c.in_ok-out.ensures.empty c.in_ok-out.ensures.added put closed)
    c.close-closed.ensures.whole

pub returns-in-Ok-clause-prefix : goal.returns-in-Ok-clause-prefix
returns-in-Ok-clause-prefix g c =
    let put = took _ (g.F.Out.Sink.stream c.in_ok-out.out)
    (g.F.Out.Sink.stream c.write_output_at-written.new.sink) c.in-Ok.field-0 c.requires c.in-Ok.ensures.written in
    on_err_weaker c.close-closed.result
    (λ closed.
    let w = wrote_within _ _ _ _ _ c.args.name.now _ c.in_ok-out.ensures.empty c.in_ok-out.ensures.added put closed in
    ((c.args.name.now, _) ∷ [], inr (w.0, refl), w.1))
    c.close-closed.ensures.prefix

pub returns-in-Err-clause-prefix : goal.returns-in-Err-clause-prefix
returns-in-Err-clause-prefix g c =
    let put = took_front _ (g.F.Out.Sink.stream c.in_ok-out.out)
    (g.F.Out.Sink.stream c.write_output_at-written.new.sink) c.in-Err.field-0 c.requires c.in-Err.ensures.written in
    search (rules, wrote_prefix)
