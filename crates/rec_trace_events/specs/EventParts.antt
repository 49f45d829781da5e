-- The event of which these are the parts.
use Rattle.std.specs.Prelude.{List, [], ◌∷◌, ◌++◌, Option, codes}
use Rattle.serde_json.specs.Data.{Data, string}
use Rattle.rec_forms.specs.Shape.{Field, field, integer, natural, optional, struct}
use Rattle.rec_trace_events.specs.Args.{given}
use Rattle.rec_trace_events.specs.declared.event_parts.EventParts.{EventParts}
use Rattle.rec_trace_events.specs.TraceEvents.{event_fields}

abbrev pub event_of : EventParts → Option Data → Data
event_of p args = struct (
    event_fields p.phase.now p.name.now p.category.now p.row p.at
    ++ optional (codes "id") natural p.id
    ∷ optional (codes "s") (λ s. string s.now) p.scope
    ∷ given (codes "args") args
    ∷ optional (codes "bp") (λ s. string s.now) p.binding
    ∷ [])

-- the keys after `args`, from `bp` to `ts`, in their order
abbrev pub fields_after_args : EventParts → List Field
fields_after_args p =
    optional (codes "bp") (λ s. string s.now) p.binding
    ∷ field (codes "cat") (string p.category.now)
    ∷ optional (codes "id") natural p.id
    ∷ field (codes "name") (string p.name.now)
    ∷ field (codes "ph") (string p.phase.now)
    ∷ field (codes "pid") (natural p.row.pid)
    ∷ optional (codes "s") (λ s. string s.now) p.scope
    ∷ field (codes "tid") (natural p.row.tid)
    ∷ field (codes "ts") (integer p.at)
    ∷ []
