-- What a builder does with an event, from what its tracer and its target do.
use Rattle.std.proofs.Common.{◌≡◌, ◌⊎◌, inl, inr, List, false, None, Some}
use Rattle.std.proofs.Common.{Result, Ok, Err, refl, sym, subst, ◌∙◌}
use Rattle.std.specs.Bool.{⊤}
use Rattle.semver.specs.Parse.{Parts}
use Rattle.serde_json.specs.Data.{Data}
use Rattle.rec_spans.specs.declared.errors.ChromeTraceError.TheVariants as errors
use Rattle.rec_spans.specs.declared.errors.ChromeTraceError.{ChromeTraceError}
use Rattle.rec_spans.specs.declared.settings.ChromeTraceGroupBy.{ChromeTraceGroupBy}
use Rattle.rec_spans.specs.History.{TraceState}
use Rattle.rec_spans.specs.Past.{TraceInput}
use Rattle.rec_spans.specs.Plain.{PlainEvent}
use Rattle.rec_spans.specs.Refusals.{next_refusal}
use Rattle.rec_trace.proofs.Refusals.{of-event}
use Rattle.rec_trace.proofs.Tracing.{advanced, draws-is, refusal-is, stays}
use Rattle.rec_trace.specs.Building.{Answers, HandsOver, Processes, build_error}
use Rattle.rec_trace.specs.declared.build_error.TraceBuildError.TheVariants.{
  Failed,
  Refused,
  TargetFault,
  OutOfMemory,
}
use Rattle.rec_trace.specs.declared.build_error.TraceBuildError.{TraceBuildError}
use Rattle.rec_trace.specs.declared.builder.Handing.{Handing}
use Rattle.rec_trace.specs.declared.tracer.Tracer.{Tracer}
use Rattle.rec_trace.specs.Standing.{StandsFor}
use Rattle.rec_trace.specs.Steps.{StaysSame, draws, seen_by}
use Rattle.rec_trace.specs.Targets.{Takes, TakesPart}

-- what holds of want of memory, and of each cause to refuse an event, holds of the answer to an
-- event that was not drawn
by-cause : (state : TraceState) (input : TraceInput) (P : TraceBuildError → Type 0) → P OutOfMemory
    → ((e : ChromeTraceError) → next_refusal state input ≡ Some e → P (Refused e))
    → (e : ChromeTraceError)
    → ((e ≡ errors.OutOfMemory) ⊎ (next_refusal state input ≡ Some e)) → P (build_error e)
by-cause state input P memory refused e (inl is) = subst (λ x. P (build_error x)) (sym is) memory
by-cause state input P memory refused (errors.ReadError fault) (inr cause) =
    refused (errors.ReadError fault) cause
by-cause state input P memory refused (errors.MissingTestStart n b t) (inr cause) =
    refused (errors.MissingTestStart n b t) cause
by-cause state input P memory refused (errors.MissingScriptStart n id) (inr cause) =
    refused (errors.MissingScriptStart n id) cause
by-cause state input P memory refused (errors.MissingStressSubRunStart n) (inr cause) =
    refused (errors.MissingStressSubRunStart n) cause
by-cause state input P memory refused (errors.SpanAlreadyOpen n k) (inr cause) =
    refused (errors.SpanAlreadyOpen n k) cause
by-cause state input P memory refused (errors.SlotBusy n slot) (inr cause) =
    refused (errors.SlotBusy n slot) cause
by-cause state input P memory refused (errors.TimestampOutOfRange n) (inr cause) =
    refused (errors.TimestampOutOfRange n) cause
by-cause state input P memory refused (errors.RowOutOfRange n number) (inr cause) =
    refused (errors.RowOutOfRange n number) cause
by-cause state input P memory refused (errors.CountOutOfRange n) (inr cause) =
    refused (errors.CountOutOfRange n) cause
by-cause state input P memory refused errors.OutOfMemory (inr cause) = memory

-- an event that was not drawn leaves the target as it was
pub unchanged : {T : Type 0} (state : TraceState) (input : TraceInput) (old new : Handing)
    (target : T) → old.failed ≡ false → new.failed ≡ false → (e : ChromeTraceError)
    → ((e ≡ errors.OutOfMemory) ⊎ (next_refusal state input ≡ Some e))
    → Answers old target new target (Err (build_error e))
unchanged state input old new target sound still =
    by-cause state input (λ e. Answers old target new target (Err e)) (sound, (still, refl))
    (λ e cause. (sound, (still, (refl, of-event state input e cause))))

module _ {T : Type 0} (holds : T → List Data → Type 0) (g : ChromeTraceGroupBy) (version : Parts)
    (events : List PlainEvent) (event : PlainEvent) (old : Tracer)
    (has : StandsFor g version events old) where
  -- an event that was drawn is handed on
  pub handed : (new : Handing) (target now : T) (values : List Data) (r : Result ⊤ TraceBuildError)
      → next_refusal old.tracker (seen_by old event) ≡ None → values ≡ draws old event
      → HandsOver holds values old event target new now r
      → Processes holds g version events event target new now r
  handed new target now values (Ok u) none are h = (
    advanced g version events event old has new.tracer none h.0,
    subst (Takes holds target now) (are ∙ draws-is g version events event old has) h.1,
  )
  handed new target now values (Err Failed) none are h = absurd h
  handed new target now values (Err (Refused e)) none are h = absurd h
  handed new target now values (Err TargetFault) none are h = (
    stays g version events old new.tracer has h.0,
    (
      refusal-is g version events event old has ∙ none,
      subst (TakesPart holds target now) (are ∙ draws-is g version events event old has) h.1,
    ),
  )
  handed new target now values (Err OutOfMemory) none are h = absurd h

  -- an event that was not drawn is refused, or memory ran out
  pub not-drawn : (new : Handing) (target : T) → StaysSame old new.tracer → (e : ChromeTraceError)
      → ((e ≡ errors.OutOfMemory) ⊎ (next_refusal old.tracker (seen_by old event) ≡ Some e))
      → Processes holds g version events event target new target (Err (build_error e))
  not-drawn new target same =
      let still = stays g version events old new.tracer has same in
      by-cause old.tracker (seen_by old event)
      (λ e. Processes holds g version events event target new target (Err e)) still
      (λ e cause. (still, refusal-is g version events event old has ∙ cause))
