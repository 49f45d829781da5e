-- The values and forms of instants and spans of time.
use Rattle.std.specs.Int.{w32, w64}
use Rattle.std.specs.Prelude.{◌^◌, ◌<◌, FitsSigned, [], ◌∷◌, Option, codes, nat_lt}
use Rattle.serde_json.specs.Data.{Data}
use Rattle.serde_json.specs.Find.{as_object}
use Rattle.rec_events.specs.Times.{Span, Moment}
use Rattle.rec_forms.specs.Numbers.{u32_form, u64_form, i32_form, i64_form}
use Rattle.rec_forms.specs.Shape.{◌>>=◌, only, natural, integer, field, struct, required}

abbrev pub stamp_value : Moment → Data
stamp_value s =
    struct (field (codes "secs") (integer s.secs) ∷ field (codes "nanos") (natural s.nanos)
    ∷ field (codes "offset") (integer s.offset) ∷ [])

unfoldable pub stamp_form : Data → Option Moment
stamp_form d = do
  ms ← as_object d
  secs ← required i64_form (codes "secs") ms
  nanos ← required u32_form (codes "nanos") ms
  offset ← required i32_form (codes "offset") ms
  only (nat_lt nanos 1000000000) (record { secs = secs; nanos = nanos; offset = offset })

pub record IsStamp (s : Moment) : Type 0 where
  pub secs : FitsSigned w64 s.secs
  pub nanos : s.nanos < 1000000000
  pub offset : FitsSigned w32 s.offset

abbrev pub duration_value : Span → Data
duration_value s =
    struct (field (codes "secs") (natural s.secs) ∷ field (codes "nanos") (natural s.nanos) ∷ [])

unfoldable pub duration_form : Data → Option Span
duration_form d = do
  ms ← as_object d
  secs ← required u64_form (codes "secs") ms
  nanos ← required u32_form (codes "nanos") ms
  only (nat_lt nanos 1000000000) (record { secs = secs; nanos = nanos })

pub record IsDuration (s : Span) : Type 0 where
  pub secs : s.secs < 2 ^ 64
  pub nanos : s.nanos < 1000000000
