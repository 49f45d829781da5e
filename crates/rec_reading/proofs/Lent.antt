-- Where a run's tests stand in memory is no part of what is printed of its events.
use Rattle.std.proofs.Common.{◌≡◌, ℕ, Bool, List, [], ◌∷◌, ◌++◌, map, Option, None}
use Rattle.std.proofs.Common.{Some, option_map, Result, Ok, Err, refl, sym, ap, ◌∙◌}
use Rattle.std.proofs.lemmas.List.{map-append}
use Rattle.std.specs.Borrow.{Bor}
use Rattle.rec_container.specs.Container.{Entry}
use Rattle.rec_container.specs.Reading.{◌>>=◌}
use Rattle.rec_events.specs.declared.events.CoreEventKind.TheVariants as core
use Rattle.rec_events.specs.declared.events.CoreEventKind.{CoreEventKind}
use Rattle.rec_events.specs.declared.events.OutputEventKind.TheVariants as ended
use Rattle.rec_events.specs.declared.events.OutputEventKind.{OutputEventKind}
use Rattle.rec_events.specs.declared.events.TestEventKindSummary.TheVariants.{Core, Output}
use Rattle.rec_events.specs.declared.events.TestEventKindSummary.{TestEventKindSummary}
use Rattle.rec_events.specs.declared.instances.OwnedTestInstanceId.{OwnedTestInstanceId}
use Rattle.rec_events.specs.declared.live_events.TestEvent.{TestEvent}
use Rattle.rec_events.specs.EventMaps.{kind_with}
use Rattle.rec_events.specs.TestLists.{Tests}
use Rattle.rec_codec.specs.declared.line_events.LineError.{LineError}
use Rattle.rec_codec.specs.Event.{RecordedEvent}
use Rattle.rec_codec.specs.LineReading.{log_items}
use Rattle.rec_codec.specs.Lines.{NumberedLine}
use Rattle.rec_store.specs.EventOutputs.{Live}
use Rattle.rec_replay.specs.declared.output_load.LoadOutput.{LoadOutput}
use Rattle.rec_replay.specs.Loading.{description_loaded}
use Rattle.rec_replay.specs.Replaying.{core_replayed, kind_live, output_live, replayed}
use Rattle.rec_errors.specs.declared.reading_error.ReadingError.TheVariants.{Conversion}
use Rattle.rec_errors.specs.declared.reading_error.ReadingError.{ReadingError}
use Rattle.rec_reading.specs.Converting.{conversion_refusal, converted}
use Rattle.rec_reading.specs.Converting.{kind_lent, lent, unless_refused}
use Rattle.rec_reading.specs.Printing.{IsBlind, Prints, before, text_from}

-- ---- a replayed event, lent its tests from elsewhere

core-lent : (here there : Bor Tests) (kind : CoreEventKind)
    → kind_lent there (core_replayed here kind) ≡ core_replayed there kind
core-lent here there (core.RunStarted run profile args condition) = refl
core-lent here there (core.StressSubRunStarted progress) = refl
core-lent here there (core.SetupScriptStarted stress index total script program args no_capture) =
    refl
core-lent here there (core.SetupScriptSlow stress script program args elapsed terminates) = refl
core-lent here there (core.TestStarted stress test slot stats running command) = refl
core-lent here there (core.TestSlow stress test retry elapsed terminates) = refl
core-lent here there (core.TestRetryStarted stress test slot retry running command) = refl
core-lent here there (core.TestSkipped stress test reason report) = refl
core-lent here there (core.RunBeginCancel scripts running reason) = refl
core-lent here there (core.RunPaused scripts running) = refl
core-lent here there (core.RunContinued scripts running) = refl
core-lent here there (core.StressSubRunFinished progress elapsed stats) = refl
core-lent here there (core.RunFinished run start elapsed stats not_seen) = refl

output-lent : (there : Bor Tests) (kind : Live OutputEventKind)
    → kind_lent there (output_live kind) ≡ output_live kind
output-lent there
    (ended.SetupScriptFinished stress index total script program args no_capture status) =
    refl
output-lent there (ended.TestAttemptFailedWillRetry stress test status delay failure running) = refl
output-lent there (ended.TestFinished stress test success failure store_success store_failure flaky
    statuses stats running) =
    refl

kind-lent : (here there : Bor Tests) (kind : Live TestEventKindSummary)
    → kind_lent there (kind_live here kind) ≡ kind_live there kind
kind-lent here there (Core kind) = core-lent here there kind
kind-lent here there (Output kind) = output-lent there kind

-- ---- what is printed

module _ (prints : Prints) (blind : IsBlind prints) (registered : OwnedTestInstanceId → Bool)
    (here there : Bor Tests) (load : LoadOutput) (store : List Entry) (limit : ℕ) where
  abbrev Item : Type 0
  Item = Result RecordedEvent LineError

  abbrev moved : TestEvent → TestEvent
  moved e = lent there e

  abbrev text_here : List TestEvent → List Item → Result (List ℕ) ReadingError
  text_here past items = text_from prints (converted registered here load store limit) past items

  abbrev text_there : List TestEvent → List Item → Result (List ℕ) ReadingError
  text_there past items = text_from prints (converted registered there load store limit) past items

  event-lent : (e : RecordedEvent)
      → moved (replayed load here store e) ≡ replayed load there store e
  event-lent e = λ i. record {
    timestamp = e.timestamp;
    elapsed = e.elapsed;
    kind = kind-lent here there (kind_with (description_loaded load store) e.kind) i;
  }

  -- an event and what follows it, where what follows is the same
  module _ (past : List TestEvent) (e : RecordedEvent) (items : List Item)
      (rest : text_here (past ++ replayed load here store e ∷ []) items
      ≡ text_there (map moved (past ++ replayed load here store e ∷ [])) items) where
    abbrev live : TestEvent
    live = replayed load here store e

    after : (r : Result (List ℕ) ReadingError)
        → (r >>= (λ text. before text (text_here (past ++ live ∷ []) items)))
        ≡ (r >>= (λ text. before text (text_there (map moved past ++ moved live ∷ []) items)))
    after (Ok text) =
        ap (before text) (rest ∙ ap (λ l. text_there l items) (map-append moved past (live ∷ [])))
    after (Err x) = refl

    printed : (prints past live >>= (λ text. before text (text_here (past ++ live ∷ []) items)))
        ≡ (prints (map moved past) (replayed load there store e) >>= (λ text.
        before text (text_there (map moved past ++ replayed load there store e ∷ []) items)))
    printed =
        after (prints past live)
        ∙ ap
        (λ r. r >>= (λ text. before text (text_there (map moved past ++ moved live ∷ []) items)))
        (sym (blind there past live))
        ∙ ap (λ l. prints (map moved past) l
        >>= (λ text. before text (text_there (map moved past ++ l ∷ []) items)))
        (event-lent e)

    unless : (o : Option ReadingError)
        → (unless_refused o live
        >>= (λ l. prints past l >>= (λ text. before text (text_here (past ++ l ∷ []) items))))
        ≡ (unless_refused o (replayed load there store e) >>= (λ l. prints (map moved past) l
        >>= (λ text. before text (text_there (map moved past ++ l ∷ []) items))))
    unless None = printed
    unless (Some x) = refl

  text-lent : (past : List TestEvent) (items : List Item)
      → text_here past items ≡ text_there (map moved past) items
  text-lent past [] = refl
  text-lent past (Err fault ∷ items) = refl
  text-lent past (Ok e ∷ items) =
      unless past e items (text-lent (past ++ replayed load here store e ∷ []) items)
      (option_map Conversion (conversion_refusal registered here load store limit e))

  -- the text of the lines of a log, where the same tests are registered
  pub text-of_lines : (listed : OwnedTestInstanceId → Bool) (ls lines : List NumberedLine)
      → ((t : OwnedTestInstanceId) → registered t ≡ listed t) → ls ≡ lines
      → text_here [] (log_items ls)
      ≡ text_from prints (converted listed there load store limit) [] (log_items lines)
  text-of_lines listed ls lines same are =
      text-lent [] (log_items ls)
      ∙ ap (λ (r : OwnedTestInstanceId → Bool).
      text_from prints (converted r there load store limit) [] (log_items ls))
      (λ i t. same t i)
      ∙ ap (λ l. text_from prints (converted listed there load store limit) [] (log_items l)) are
