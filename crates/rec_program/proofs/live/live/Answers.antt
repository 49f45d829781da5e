use Rattle.std.proofs.Common.{◌≡◌, List, ℕ, Option, Some, [], OnOk, ap, subst, sym, ◌∙◌}
use Rattle.rec_store.specs.Namer.{sha256_number}
use Rattle.rec_live_recording.specs.LineReading.{LineReading}
use Rattle.rec_program.proofs.live.live.Goals as goal
use Rattle.rec_program.proofs.LivesOn.{all_told, files_whole}
use Rattle.rec_program.specs.LiveRuns.{Completes, HasCause}

pub returns : goal.returns
returns g c =
    let end = c.record_live-result in
    let read = ap (λ (l : LineReading _). g.S.Source.left l.source) c.new-lines.ensures in (
      end.result.result,
      record {
        kept = λ session known store log. end.ensures.kept session (read ∙ known) store log;
        begun = λ session known. end.ensures.begun session (read ∙ known);
        all = all_told g.S.Source.left g.F.Sink.taken g.T.Sink.taken sha256_number
            c.args.settings.now.max_output c.args.source c.args.files end.result.files
            c.args.out.now end.new.out end.result.result
            (λ session known store log. end.ensures.ok session (read ∙ known) store log);
        whole = files_whole g.S.Source.left g.F.Sink.taken g.T.Sink.taken sha256_number
            c.args.settings.now.max_output c.args.source c.args.files end.result.files
            c.args.out.now end.new.out end.result.result
            (λ session known store log. end.ensures.whole session (read ∙ known) store log);
        valid = λ session known. end.ensures.valid session (read ∙ known);
        cause =
            subst (λ (s : _). HasCause g.S.Source.left g.S.Source.faults g.F.Sink.taken
            g.F.Sink.faults g.T.Sink.taken g.T.Sink.faults sha256_number
            c.args.settings.now.max_output c.args.settings.now.session_limit c.args.source s
            c.args.files end.result.files c.args.out.now end.new.out end.result.result)
            (sym c.into_source.ensures)
            (subst (λ (l : LineReading _). HasCause g.S.Source.left g.S.Source.faults
            g.F.Sink.taken g.F.Sink.faults g.T.Sink.taken g.T.Sink.faults sha256_number
            c.args.settings.now.max_output l.limit l.source end.new.lines.source
            c.args.files end.result.files c.args.out.now end.new.out end.result.result)
            c.new-lines.ensures end.ensures.cause);
        completes =
            subst (λ (s : _). Completes g.S.Source.left g.S.Source.faults g.F.Sink.taken
            g.F.Sink.faults g.T.Sink.taken g.T.Sink.faults sha256_number
            c.args.settings.now.max_output c.args.settings.now.session_limit c.args.source s
            c.args.files end.result.files c.args.out.now end.new.out end.result.result)
            (sym c.into_source.ensures)
            (subst (λ (l : LineReading _). Completes g.S.Source.left g.S.Source.faults
            g.F.Sink.taken g.F.Sink.faults g.T.Sink.taken g.T.Sink.faults sha256_number
            c.args.settings.now.max_output l.limit l.source end.new.lines.source
            c.args.files end.result.files c.args.out.now end.new.out end.result.result)
            c.new-lines.ensures end.ensures.completes);
      },
      c.tell_end-status.ensures,
    )
