-- The text of an event is read as the event that it was written for.
use Rattle.std.proofs.Common.{ap, sym, subst, refl, ◌∙◌}
use Rattle.std.specs.Option.{unwrap_or}
use Rattle.std.specs.Prelude.{◌≡◌, ℕ, List, Option, Some}
use Rattle.serde_json.specs.Data.{Data, null}
use Rattle.serde_json.specs.Read.{read}
use Rattle.serde_json.specs.Written.{compact_text}
use Rattle.rec_forms.proofs.ReadBack.{IsWritable-read_back}
use Rattle.rec_forms.specs.Writable.{IsWritable, IfWritten, EachWritten}
use Rattle.rec_forms.specs.Writable.{struct_writable, within_depth}
use Rattle.rec_trace_events.proofs.Pairs.{left, right}
use Rattle.rec_trace_events.specs.declared.event_parts.EventParts.{EventParts}
use Rattle.rec_trace_events.specs.EventParts.{event_of, fields_after_args}
use Rattle.rec_trace_events.specs.EventTexts.{event_value, IsEventText}

pub event_value-written : (text : List ℕ) (d : Data) → text ≡ compact_text d → IsWritable 9 d
    → event_value text ≡ d
unfolding event_value
event_value-written text d written w =
    ap (λ o. unwrap_or o null)
    (ap read written ∙ (IsWritable-read_back 9 d w (within_depth refl)).0)

pub IsEventText-written : (text : List ℕ) (d : Data) → text ≡ compact_text d → IsWritable 9 d
    → IsEventText text
IsEventText-written text d written w =
    let same : d ≡ event_value text = sym (event_value-written text d written w) in
    record {
      written = subst (λ e. text ≡ compact_text e) same written;
      writable = subst (IsWritable 9) same w;
    }

pub read-event_text : (text : List ℕ) → IsEventText text → read text ≡ Some (event_value text)
read-event_text text is =
    ap read is.written
    ∙ (IsWritable-read_back 9 (event_value text) is.writable (within_depth refl)).0

-- the fields were written in the order of their keys
pub event_writable : (p : EventParts) (args : Option Data) → IfWritten 8 args
    → EachWritten 8 (fields_after_args p) → IsWritable 9 (event_of p args)
event_writable p args known bp =
    let cat = right bp in
    let id = right cat in
    let name = right id in
    let ph = right name in
    let pid = right ph in
    let scope = right pid in
    let tid = right scope in
    let ts = right tid in
    struct_writable _ refl (
      left cat,
      (
        left name,
        (
          left ph,
          (left pid, (left tid, (left ts, (left id, (left scope, (known, (left bp, tt))))))),
        ),
      ),
    )
