-- What was recorded of lines, one after the other.
use Rattle.std.proofs.Common.{◌≡◌, ℕ, ◌+◌, List, [], ◌∷◌, ◌++◌, Some, None}
use Rattle.std.proofs.Common.{Ok, Err, refl, sym, ap, subst, ◌∙◌, arith, append-nil, inr}
use Rattle.std.specs.Option.{option_or, option_to_list}
use Rattle.rec_container.specs.Causes.{Rose}
use Rattle.rec_format.specs.declared.head.SessionHead.{SessionHead}
use Rattle.rec_codec.specs.Event.{LiveEvent}
use Rattle.rec_codec.specs.Lines.{NumberedLine, lines, numbered}
use Rattle.rec_store.specs.Bundle.{outputs_stored}
use Rattle.rec_store.specs.Clashes.{with_entries}
use Rattle.rec_store.specs.Recording.{Recording}
use Rattle.rec_errors.specs.declared.export_error.RecordExportError.{RecordExportError}
use Rattle.rec_export.proofs.RecordedLines.{events_next, refusal_next}
use Rattle.rec_export.specs.Session.{event_at, events_of, line_refusal, lines_refusal, outputs_at}
use Rattle.rec_live_recording.proofs.Causes.{comes_weaker, line_weaker, rose_after}
use Rattle.rec_live_recording.proofs.EventsRecorded.{overflows_then}
use Rattle.rec_live_recording.specs.declared.errors.LiveError.{LiveError}
use Rattle.rec_live_recording.specs.Recorder.{HasRecorded, IsLater, RecordsLines, RecordsMore}
use Rattle.rec_live_recording.specs.Refusals.{IsLineRefused, IsRefused, Overflows}
use Rattle.rec_live_recording.specs.Session.{lines_after}

-- the lines of a text are its first one and those of the rest
pub lines_next : (n k : ℕ) (text line rest : List ℕ) → k ≡ n + 1 → lines text ≡ line ∷ lines rest
    → lines_after n text ≡ record { number = k; bytes = line } ∷ lines_after k rest
lines_next n k text line rest is first =
    ap (numbered (n + 1)) first
    ∙ ap (λ i. record { number = i; bytes = line } ∷ numbered (i + 1) (lines rest)) (sym is)

module _ {S L N : Type 0} (number : N → List ℕ → ℕ) (namer : N) (m : ℕ) (head : SessionHead) where
  -- these events of the lines were recorded so far, and the rest is left
  pub record IsAmid (all rest : List NumberedLine) (so_far : List LiveEvent)
      (r : Recording S L N) : Type 0 where
    pub has : HasRecorded number namer m head so_far r
    pub refusal : lines_refusal (number namer) m [] all
        ≡ lines_refusal (number namer) m (outputs_stored (number namer) m so_far) rest
    pub events : events_of all ≡ so_far ++ events_of rest

  pub amid_start : (all : List NumberedLine) (r : Recording S L N)
      → HasRecorded number namer m head [] r → IsAmid all all [] r
  amid_start all r has = record { has = has; refusal = refl; events = refl }

  pub amid_end : (all rest : List NumberedLine) (so_far : List LiveEvent) (r : Recording S L N)
      → rest ≡ [] → IsAmid all rest so_far r
      → (lines_refusal (number namer) m [] all ≡ None)
      × HasRecorded number namer m head (events_of all) r
  amid_end all rest so_far r none amid = (
    amid.refusal ∙ ap (lines_refusal (number namer) m
        (outputs_stored (number namer) m so_far)) none,
    subst (λ es. HasRecorded number namer m head es r)
        (sym (amid.events ∙ ap (λ ls. so_far ++ events_of ls) none ∙ append-nil so_far))
        amid.has,
  )

module _ {S L : Type 0} (faults : S → ℕ) (log_faults : L → ℕ) where
  pub later_same : {N : Type 0} (r : Recording S L N) (out : ℕ)
      → IsLater faults log_faults r r out out
  later_same r out =
      record { store = omega arith; log = omega arith; told = omega arith }

  pub later_then : {N : Type 0} (a b c : Recording S L N) (out out' out'' : ℕ)
      → IsLater faults log_faults a b out out' → IsLater faults log_faults b c out' out''
      → IsLater faults log_faults a c out out''
  later_then a b c out out' out'' p q =
      let ps = p.store in
      let qs = q.store in
      let pl = p.log in
      let ql = q.log in
      let pt = p.told in
      let qt = q.told in
      record {
        store = omega (arith, ps, qs);
        log = omega (arith, pl, ql);
        told = omega (arith, pt, qt);
      }

module _ {S L N : Type 0} (faults : S → ℕ) (log_faults : L → ℕ) (number : N → List ℕ → ℕ)
    (namer : N) (m : ℕ) (head : SessionHead) where
  module _ (all rest later : List NumberedLine) (line : NumberedLine) (so_far : List LiveEvent)
      (old : Recording S L N) (next : rest ≡ line ∷ later)
      (amid : IsAmid number namer m head all rest so_far old) where
    pub amid_next : (new : Recording S L N) (out out' count : ℕ)
        → RecordsMore faults log_faults number namer m head {T = ℕ} so_far (event_at line)
        (line_refusal (number namer) m (outputs_stored (number namer) m so_far) line) old new
        out out' (Ok count)
        → IsAmid number namer m head all later (so_far ++ option_to_list (event_at line)) new
    amid_next new out out' count more = record {
      has = more.1;
      refusal =
          amid.refusal
          ∙ ap (lines_refusal (number namer) m (outputs_stored (number namer) m so_far)) next
          ∙ refusal_next (number namer) m so_far line later more.0;
      events =
          amid.events ∙ ap (λ ls. so_far ++ events_of ls) next
          ∙ sym (events_next so_far (event_at line) (events_of later));
    }

    refused : (e : RecordExportError)
        → line_refusal (number namer) m (outputs_stored (number namer) m so_far) line ≡ Some e
        → lines_refusal (number namer) m [] all ≡ Some e
    refused e h =
        amid.refusal
        ∙ ap (lines_refusal (number namer) m (outputs_stored (number namer) m so_far)) next
        ∙ ap (λ o. option_or o (lines_refusal (number namer) m
        (with_entries (outputs_stored (number namer) m so_far)
        (outputs_at (number namer) m (event_at line))) later)) h

    overflows : Overflows (number namer) m head (so_far ++ option_to_list (event_at line))
        → Overflows (number namer) m head (events_of all)
    overflows h =
        subst (Overflows (number namer) m head)
        (events_next so_far (event_at line) (events_of later)
        ∙ sym (amid.events ∙ ap (λ ls. so_far ++ events_of ls) next))
        (overflows_then (number namer) m head
        (so_far ++ option_to_list (event_at line)) (events_of later) h)

    pub amid_break : (failed : Type 0) (limit total : ℕ) (first new : Recording S L N)
        (out out' out'' : ℕ) (e : LiveError)
        → IsLater faults log_faults first old out out'
        → RecordsMore faults log_faults number namer m head {T = ℕ} so_far (event_at line)
        (line_refusal (number namer) m (outputs_stored (number namer) m so_far) line) old new
        out' out'' (Err e)
        → RecordsLines faults log_faults number namer m head {T = ℕ} failed limit total all first
        new out out'' (Err e)
    amid_break failed limit total first new out out' out'' e since more =
        let s = since.store in
        let l = since.log in
        let o = since.told in
        comes_weaker ⊥ ⊥ (Rose (faults old.store.sink) (faults new.store.sink))
        (Rose (faults first.store.sink) (faults new.store.sink))
        (Rose (log_faults old.log) (log_faults new.log))
        (Rose (log_faults first.log) (log_faults new.log))
        (Rose out' out'') (Rose out out'')
        (IsLineRefused
        (line_refusal (number namer) m (outputs_stored (number namer) m so_far) line)
        (Overflows (number namer) m head (so_far ++ option_to_list (event_at line))))
        (IsRefused failed limit total (lines_refusal (number namer) m [] all)
        (Overflows (number namer) m head (events_of all)))
        (λ x. x)
        (rose_after (faults first.store.sink) (faults old.store.sink) (faults new.store.sink) s)
        (rose_after (log_faults first.log) (log_faults old.log) (log_faults new.log) l)
        (rose_after out out' out'' o)
        (λ r h. inr (inr (line_weaker
        (line_refusal (number namer) m (outputs_stored (number namer) m so_far) line)
        (lines_refusal (number namer) m [] all)
        (Overflows (number namer) m head (so_far ++ option_to_list (event_at line)))
        (Overflows (number namer) m head (events_of all)) refused overflows r h)))
        e more
