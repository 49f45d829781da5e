-- What is written for what is kept of a history is the text of its trace.
use Rattle.std.proofs.Common.{◌≡◌, ℕ, List, Option, Some, Result, Ok, Err, ap, ◌∙◌}
use Rattle.std.specs.Prelude.{IfOk}
use Rattle.semver.specs.Parse.{Parts}
use Rattle.serde_json.specs.Data.{Data}
use Rattle.rec_forms.specs.Writable.{IsWritable}
use Rattle.rec_spans.specs.declared.settings.ChromeTraceGroupBy.{ChromeTraceGroupBy}
use Rattle.rec_spans.specs.Plain.{PlainEvent}
use Rattle.rec_trace.proofs.ReadTexts.{events-text}
use Rattle.rec_trace.specs.declared.printed.Printed.{Printed}
use Rattle.rec_trace.specs.declared.run_start.RunStart.{RunStart}
use Rattle.rec_trace.specs.declared.settings.ChromeTraceMessageFormat.{ChromeTraceMessageFormat}
use Rattle.rec_trace.specs.Drawn.{all_events}
use Rattle.rec_trace.specs.Histories.{known_of, trace_drawn}
use Rattle.rec_trace.specs.Kept.{AreKept}
use Rattle.rec_trace.specs.ReadTexts.{events_in}
use Rattle.rec_trace.specs.Texts.{other_data, text_in, trace_value}
use Rattle.rec_trace.specs.Traces.{trace_text}

pub trace-written : (format : ChromeTraceMessageFormat) (g : ChromeTraceGroupBy) (version : Parts)
    (events : List PlainEvent) (printed : Printed) (own : Parts) (run : Option RunStart)
    (s : List ℕ)
    → own ≡ version → run ≡ (known_of g events).last_run
    → ((f : ChromeTraceMessageFormat) (es : List Data) → AreKept f es printed
    → s ≡ text_in f (trace_value (other_data own run) es))
    → AreKept format (all_events (trace_drawn version g events)) printed
    → s ≡ trace_text format g version events
unfolding trace_text
trace-written format g version events printed own run s own_is run_is written kept =
    let es = all_events (trace_drawn version g events) in
    written format es kept
    ∙ ap (λ v. text_in format (trace_value (other_data v run) es)) own_is
    ∙ ap (λ r. text_in format (trace_value (other_data version r) es)) run_is

-- the text is read as the events that are kept
pub trace-read : (format : ChromeTraceMessageFormat) (g : ChromeTraceGroupBy) (version : Parts)
    (events : List PlainEvent) (printed : Printed) (own : Parts) (run : Option RunStart)
    (s : List ℕ)
    → ((f : ChromeTraceMessageFormat) (es : List Data) → AreKept f es printed
    → s ≡ text_in f (trace_value (other_data own run) es))
    → IsWritable 8 (other_data own run)
    → AreKept format (all_events (trace_drawn version g events)) printed
    → events_in s ≡ Some (all_events (trace_drawn version g events))
trace-read format g version events printed own run s written known kept =
    let es = all_events (trace_drawn version g events) in
    ap events_in (written format es kept)
    ∙ events-text format (other_data own run) es known kept.writable

-- what holds of an answer by two facts
pub IfOk-both : {A E : Type 0} (r : Result A E) (P Q R : A → Type 0) → ((x : A) → P x → Q x → R x)
    → IfOk r P → IfOk r Q → IfOk r R
IfOk-both (Ok x) P Q R f p q = f x p q
IfOk-both (Err e) P Q R f p q = tt
