use Rattle.std.proofs.Common.{◌≡◌, ℕ, ◌-◌, List, [], ◌++◌, length, false, Option}
use Rattle.rec_format.specs.declared.head.SessionHead.{SessionHead}
use Rattle.rec_codec.specs.Event.{LiveEvent}
use Rattle.rec_store.specs.Recording.{has_failed}
use Rattle.rec_live_recording.proofs.LinesRecorded.{IsAmid}
use Rattle.rec_live_recording.proofs.recording.record_events.Given as goal
use Rattle.rec_live_recording.specs.LineReading.{IsLeft}
use Rattle.rec_live_recording.specs.Live.{Stands}
use Rattle.rec_live_recording.specs.Recorder.{HasRecorded, HasSame, IsLater}
use Rattle.rec_live_recording.specs.Session.{events_in, lines_after}

abbrev pub invariant-lines : goal.invariant-lines
invariant-lines g l = record {
  sound : has_failed l.recorder ≡ false;
  same : HasSame l.fn.recorder l.recorder;
  limit : l.lines.limit ≡ l.fn.lines.limit;
  faults : g.I.Source.faults l.lines.source ≡ g.I.Source.faults l.fn.lines.source;
  kept : (total : ℕ) (text : List ℕ) (before : Option (List ℕ))
      → IsLeft g.I.Source.left total text l.fn.lines
      → Stands g.S.Sink.taken g.L.Sink.taken g.O.Sink.taken g.N.OutputNamer.number before []
      l.fn.recorder l.fn.out
      → (rest : List ℕ) × (so_far : List LiveEvent) × IsLeft g.I.Source.left total rest l.lines
      × Stands g.S.Sink.taken g.L.Sink.taken g.O.Sink.taken g.N.OutputNamer.number before so_far
      l.recorder l.out
      × (l.count ≡ length so_far) × (events_in text ≡ so_far ++ events_in rest);
  recorded : (total : ℕ) (text : List ℕ) (namer : g.row.N.Denot) (m : ℕ) (head : SessionHead)
      → IsLeft g.I.Source.left total text l.fn.lines
      → HasRecorded g.N.OutputNamer.number namer m head [] l.fn.recorder
      → (rest : List ℕ) × (so_far : List LiveEvent) × IsLeft g.I.Source.left total rest l.lines
      × (l.count ≡ length so_far)
      × IsAmid g.N.OutputNamer.number namer m head (lines_after l.fn.lines.number text)
      (lines_after l.lines.number rest) so_far l.recorder
      × IsLater g.S.Sink.faults g.L.Sink.faults l.fn.recorder l.recorder
      (g.O.Sink.faults l.fn.out) (g.O.Sink.faults l.out);
}

abbrev pub decreases-lines : goal.decreases-lines
decreases-lines g l = l.lines.limit - l.lines.number
