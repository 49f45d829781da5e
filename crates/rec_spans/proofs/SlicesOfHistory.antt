-- In an accepted history of events each begin and each end is marked once,
-- and is that of one slice.
use Rattle.std.proofs.Common.{◌≡◌, ℕ, List, None, Some, slice_get, sym, subst}
use Rattle.rec_spans.proofs.Acceptance.{history-room}
use Rattle.rec_spans.proofs.Once.{event_marks-once}
use Rattle.rec_spans.proofs.Slices.{begins-are_slices, ends-are_slices}
use Rattle.rec_spans.proofs.Unique.{one-slice, one-slice_ends}
use Rattle.rec_spans.specs.declared.settings.ChromeTraceGroupBy.{ChromeTraceGroupBy}
use Rattle.rec_spans.specs.declared.spans.Span.{Span}
use Rattle.rec_spans.specs.Kinds as kinds
use Rattle.rec_spans.specs.Past.{TraceInput}
use Rattle.rec_spans.specs.Plain.{PlainEvent}
use Rattle.rec_spans.specs.Positions.{IsSlice, IsSliceOf, Slice}
use Rattle.rec_spans.specs.Refusals.{history_refusal}
use Rattle.rec_spans.specs.Timeline.{MarksSlices}

module _ (g : ChromeTraceGroupBy) (events : List PlainEvent)
    (accepted : history_refusal (kinds.history g events) ≡ None) where
  -- the marks of each event are those of the slices there, each once
  pub history-slices : (i : ℕ) (e : TraceInput) → slice_get (kinds.history g events) i ≡ Some e
      → MarksSlices (kinds.history g events) i e
  history-slices i e at = record {
    begins = begins-are_slices (kinds.history g events) i e at;
    ends = ends-are_slices (kinds.history g events) i e at;
    once = event_marks-once (kinds.history g events) i e (history-room g events accepted);
  }

  -- two slices of a span that begin at one event are one
  pub history-one_begins : (s : Span) (c d : Slice) → IsSliceOf (kinds.history g events) s c
      → IsSliceOf (kinds.history g events) s d → c.from ≡ d.from → c ≡ d
  history-one_begins s c d p q from =
      let moved =
      subst (λ x. IsSlice (kinds.history g events) d.start d.stop x d.to) (sym from) q.1 in
      let same = one-slice (kinds.history g events) s c.start c.stop c.to d.start d.stop d.to c.from
      (history-room g events accepted) p.0 p.1 q.0 moved in
      λ i. record { start = same.0 i; stop = same.1 i; from = from i; to = same.2 i }

  -- two slices of a span that end at one event are one
  pub history-one_ends : (s : Span) (c d : Slice) → IsSliceOf (kinds.history g events) s c
      → IsSliceOf (kinds.history g events) s d → c.to ≡ d.to → c ≡ d
  history-one_ends s c d p q to =
      let moved =
      subst (λ y. IsSlice (kinds.history g events) d.start d.stop d.from y) (sym to) q.1 in
      let same =
      one-slice_ends (kinds.history g events) s c.start c.stop c.from d.start d.stop d.from c.to
      (history-room g events accepted) p.0 p.1 q.0 moved in
      λ i. record { start = same.0 i; stop = same.1 i; from = same.2 i; to = to i }
