-- The text of a trace.
use Rattle.std.specs.Prelude.{ℕ, Bool, true, false, List, [], ◌∷◌, ◌++◌}
use Rattle.std.specs.Prelude.{length, nat_lt, Option, None, Some, codes}
use Rattle.json.specs.Layout.{bracket, pretty, pretty_from}
use Rattle.json.specs.Token.{string as string_token}
use Rattle.json.specs.Token.{Token, begin_array, begin_object, key}
use Rattle.json.specs.Tree.{json_tokens}
use Rattle.semver.specs.Parse.{Parts}
use Rattle.serde_json.specs.Data.{Data, array, string}
use Rattle.serde_json.specs.View.{items_of}
use Rattle.serde_json.specs.Written.{comma_if, compact_text, outline}
use Rattle.rec_forms.specs.Ids.{uuid_value, version_value}
use Rattle.rec_forms.specs.Lists.{list_value}
use Rattle.rec_forms.specs.Shape.{Field, field, only, optional, struct}
use Rattle.rec_forms.specs.Stress.{stress_condition_value}
use Rattle.rec_trace_events.specs.Args.{given}
use Rattle.rec_trace.specs.declared.run_start.RunStart.{RunStart}
use Rattle.rec_trace.specs.declared.settings.ChromeTraceMessageFormat.TheVariants.{Json, JsonPretty}
use Rattle.rec_trace.specs.declared.settings.ChromeTraceMessageFormat.{ChromeTraceMessageFormat}

-- the words of a command, where there are some
abbrev pub words_field : List ℕ → List (List ℕ) → Field
words_field name words = given name (only (nat_lt 0 (length words)) (list_value string words))

-- the run that started last
abbrev pub run_fields : Option RunStart → List Field
run_fields None = []
run_fields (Some run) =
    field (codes "run_id") (uuid_value run.run_id)
    ∷ field (codes "profile_name") (string run.profile_name)
    ∷ words_field (codes "cli_args") run.cli_args
    ∷ optional (codes "stress_condition") stress_condition_value run.stress_condition
    ∷ []

-- what a trace says of the run beside its events
unfoldable pub other_data : Parts → Option RunStart → Data
other_data version run =
    struct (field (codes "nextest_version") (version_value version) ∷ run_fields run)

-- the trace with these events
unfoldable pub trace_value : Data → List Data → Data
trace_value other events = struct (field (codes "displayTimeUnit") (string (codes "ms"))
    ∷ field (codes "otherData") other
    ∷ field (codes "traceEvents") (array (items_of events))
    ∷ [])

-- the text over several lines, of a value without a number that has a fraction
abbrev pub pretty_text : Data → List ℕ
pretty_text d = pretty (json_tokens (outline d))

abbrev pub text_in : ChromeTraceMessageFormat → Data → List ℕ
text_in Json d = compact_text d
text_in JsonPretty d = pretty_text d

-- ---- parts of the text

-- an event, as it stands in the list of a trace: over several lines it is two levels deep, with the
-- end of the line before it
abbrev pub event_text : ChromeTraceMessageFormat → Data → List ℕ
event_text Json d = compact_text d
event_text JsonPretty d = pretty_from (bracket, 2) (json_tokens (outline d))

-- an event in a list that stands in a list
abbrev pub nested_text : Data → List ℕ
nested_text d = pretty (begin_array ∷ begin_array ∷ json_tokens (outline d))

-- trace events, each after a comma where something stands before it
abbrev pub event_texts : ChromeTraceMessageFormat → Bool → List Data → List ℕ
event_texts format later [] = []
event_texts format later (d ∷ ds) =
    comma_if later ++ (event_text format d ++ event_texts format true ds)

-- what stands before the events in one line
unfoldable pub compact_prefix : Data → List ℕ
compact_prefix other =
    (codes "{\"displayTimeUnit\":\"ms\",\"otherData\":" ++ compact_text other)
    ++ codes ",\"traceEvents\":["

abbrev pub prefix_tokens : Data → List Token
prefix_tokens other =
    begin_object ∷ key (codes "displayTimeUnit") ∷ string_token (codes "ms")
    ∷ key (codes "otherData")
    ∷ (json_tokens (outline other) ++ key (codes "traceEvents") ∷ begin_array ∷ [])

-- what stands before the events
abbrev pub trace_prefix : ChromeTraceMessageFormat → Data → List ℕ
trace_prefix Json other = compact_prefix other
trace_prefix JsonPretty other = pretty (prefix_tokens other)

-- what stands after them, where there are some or none
abbrev pub trace_end : ChromeTraceMessageFormat → Bool → List ℕ
trace_end Json has_events = codes "]}"
trace_end JsonPretty true = codes "\n  ]\n}"
trace_end JsonPretty false = codes "]\n}"
