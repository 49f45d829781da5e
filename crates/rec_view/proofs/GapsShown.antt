-- Which gaps are shown, event by event, and how slices are cut of them.
use Rattle.std.proofs.Common.{◌≡◌, ◌<◌, inl, inr, ℕ, zero, suc, Bool, true, false}
use Rattle.std.proofs.Common.{not}
use Rattle.std.proofs.Common.{List, [], ◌∷◌, ◌++◌, length, map, get_or, slice_get, Some}
use Rattle.std.proofs.Common.{None}
use Rattle.std.proofs.Common.{refl, ap, sym, ◌∙◌, subst, arith, append_assoc, if◌then◌else◌}
use Rattle.std.proofs.lemmas.List.{length-append}
use Rattle.std.specs.Option.{unwrap_or}
use Rattle.rec_spans.proofs.PlacesOfHistory.{below_suc, past_at-suc}
use Rattle.rec_spans.specs.Acts.{act_of}
use Rattle.rec_spans.specs.declared.settings.ChromeTraceGroupBy.TheVariants.{Slot}
use Rattle.rec_spans.specs.declared.settings.ChromeTraceGroupBy.{ChromeTraceGroupBy}
use Rattle.rec_spans.specs.Kinds.{history, history_after, trace_input}
use Rattle.rec_spans.specs.Past.{TraceInput, binaries, is_paused, pause_after}
use Rattle.rec_spans.specs.Plain.{PlainEvent}
use Rattle.rec_spans.specs.Positions.{past_at}
use Rattle.rec_view.proofs.Open.{get_before, get_last}
use Rattle.rec_view.specs.declared.shown_gaps.Cutter.{Cutter}
use Rattle.rec_view.specs.ShownGaps.{AreShown, Becomes, Passes, PausesBy, pairs}
use Rattle.rec_view.specs.Slices.{close, shown, stretches}

pub got : {X : Type 0} (xs : List X) (i : ℕ) (x : X) → i < length xs → x ≡ get_or xs i x
    → slice_get xs i ≡ Some x
got [] i x h is = absurd (omega (arith, h))
got (y ∷ xs) zero x h is = ap Some (sym is)
got (y ∷ xs) (suc i) x h is = got xs i x (omega (arith, h)) is

pub some_same : {X : Type 0} (x y : X) → Some x ≡ Some y → x ≡ y
some_same x y e = cc

-- an event of a history is seen after some binaries
history_at : (g : ChromeTraceGroupBy) (past : List TraceInput) (events : List PlainEvent) (i : ℕ)
    (e : PlainEvent) → slice_get events i ≡ Some e
    → (seen : List (List ℕ × ℕ))
    × (slice_get (history_after g past events) i ≡ Some (trace_input g seen e))
history_at g past [] i e is = cc
history_at g past (x ∷ events) zero e is =
    (binaries past, ap (λ (v : PlainEvent). Some (trace_input g (binaries past) v)) same)
  where
    same : x ≡ e
    same = cc
history_at g past (x ∷ events) (suc i) e is =
    history_at g (trace_input g (binaries past) x ∷ past) events i e is

-- with one event more
pub record Kept (events : List PlainEvent) (i : ℕ) (in_pause : Bool) (gaps : List Bool)
    : Type 0 where
  pub pause : in_pause ≡ is_paused (past_at (history Slot events) i)
  pub gaps_are : AreShown (history Slot events) i gaps

pub kept_none : (events : List PlainEvent) → Kept events 0 false []
kept_none events = record {
  pause = refl;
  gaps_are = record { many = refl; each = λ j h. absurd (omega (arith, h)) };
}

pub kept_more : (events : List PlainEvent) (i : ℕ) (e : PlainEvent) (before after : Bool)
    (gaps : List Bool) → slice_get events i ≡ Some e → PausesBy (act_of e.kind) before after
    → Kept events i before gaps → Kept events (suc i) after (gaps ++ not after ∷ [])
kept_more events i e before after gaps is pauses kept =
    record { pause = now; gaps_are = record { many = more; each = each } }
  where
    h : List TraceInput
    h = history Slot events

    at : (seen : List (List ℕ × ℕ)) × (slice_get h i ≡ Some (trace_input Slot seen e))
    at = history_at Slot [] events i e is

    now : after ≡ is_paused (past_at h (suc i))
    now =
        pauses Slot at.0
        ∙ ap (pause_after (trace_input Slot at.0 e).change) kept.pause
        ∙ sym (ap is_paused (past_at-suc h i (trace_input Slot at.0 e) at.1))

    more : length (gaps ++ not after ∷ []) ≡ suc i
    more =
        let a = length-append gaps (not after ∷ []) in
        let b = kept.gaps_are.many in omega (arith, a, b)

    here : slice_get (gaps ++ not after ∷ []) i ≡ Some (shown h i)
    here =
        ap (slice_get (gaps ++ not after ∷ [])) (sym kept.gaps_are.many)
        ∙ get_last gaps (not after) ∙ ap (λ b. Some (not b)) now

    each : (j : ℕ) → j < suc i → slice_get (gaps ++ not after ∷ []) j ≡ Some (shown h j)
    each j lt = elim (below_suc j i lt) [
      | inl same ↦
          subst (λ k. slice_get (gaps ++ not after ∷ []) k ≡ Some (shown h k)) (sym same) here
      | inr less ↦
          get_before gaps (not after) j
          (let many = kept.gaps_are.many in omega (arith, less, many))
          ∙ kept.gaps_are.each j less
    ]

-- ---- slices

-- one gap more is gone through
pub passed : (passes : ℕ → Bool) (old new : Cutter) (at n : ℕ) (all : List (ℕ × ℕ)) (b : Bool)
    → passes at ≡ b → Passes b at old new → Becomes passes old at (suc n) all
    → Becomes passes new (suc at) n all
passed passes old new at n all true e p has =
    ap (λ s. pairs s.items ++ stretches passes new.held (suc at) n) p.0
    ∙ ap (λ o. pairs old.slices.items ++ stretches passes o (suc at) n) p.1
    ∙ sym (ap (λ c. pairs old.slices.items
    ++ (if c then stretches passes (Some (unwrap_or old.held at)) (suc at) n
    else close old.held at ++ stretches passes None (suc at) n)) e)
    ∙ has
passed passes old new at n all false e p has =
    ap (λ o. pairs new.slices.items ++ stretches passes o (suc at) n) p.none
    ∙ ap (λ ps. ps ++ stretches passes None (suc at) n) p.built
    ∙ append_assoc (pairs old.slices.items) (close old.held at)
    (stretches passes None (suc at) n)
    ∙ sym (ap (λ c. pairs old.slices.items
    ++ (if c then stretches passes (Some (unwrap_or old.held at)) (suc at) n
    else close old.held at ++ stretches passes None (suc at) n)) e)
    ∙ has

pub some_mapped : {X Y : Type 0} (f : X → Y) (xs : List X) (i : ℕ) (x : X)
    → slice_get xs i ≡ Some x → slice_get (map f xs) i ≡ Some (f x)
some_mapped f [] i x is = cc
some_mapped f (y ∷ xs) zero x is = ap (λ z. Some (f z)) (some_same y x is)
some_mapped f (y ∷ xs) (suc i) x is = some_mapped f xs i x is

-- a gap that is kept is the one of the history
pub gap_is : (h : List TraceInput) (gaps : List Bool) (at : ℕ) (b : Bool)
    → AreShown h (length gaps) gaps → at < length gaps → b ≡ get_or gaps at b → shown h at ≡ b
gap_is h gaps at b are lt is =
    sym (some_same b (shown h at) (sym (got gaps at b lt is) ∙ are.each at lt))
