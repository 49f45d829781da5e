-- What the slots see of the next event, where it isn't refused.
use Rattle.std.proofs.Common.{◌≡◌, ◌≢◌, inl, inr, ℕ, suc, Bool, true, false, not, cond, ◌||◌, List}
use Rattle.std.proofs.Common.{[], ◌∷◌, ◌++◌, Some, None, slice_get, take, refl, sym, ◌∙◌, ap, subst}
use Rattle.std.proofs.lemmas.Bool.{false≢true}
use Rattle.std.proofs.lemmas.List.Concat.{flat_map-append}
use Rattle.std.proofs.lemmas.List.Folds.{list_any-append}
use Rattle.std.proofs.lemmas.List.{append-nil}
use Rattle.std.specs.List.{list_any}
use Rattle.std.specs.Option.{option_map_or, option_or}
use Rattle.rec_events.specs.declared.instances.OwnedTestInstanceId.{OwnedTestInstanceId}
use Rattle.rec_spans.proofs.Acceptance.{key-free, next_refusal-none, or-none, place-free}
use Rattle.rec_spans.proofs.Fits.{AllFit, Fits, StartFits}
use Rattle.rec_spans.proofs.Keys.{key_eq-from, key_eq-true, place_eq-true}
use Rattle.rec_spans.proofs.PlacesOfHistory.{Has-of_key, change_at-is}
use Rattle.rec_spans.specs.Acts.Act.{RunStarts as StartOfRun, RunEnds as EndOfRun}
use Rattle.rec_spans.specs.Acts.Act.{SubRunStarts, SubRunEnds, ScriptStarts, ScriptEnds}
use Rattle.rec_spans.specs.Acts.Act.{ScriptIsSlow, AttemptStarts, AttemptFails, TestEnds}
use Rattle.rec_spans.specs.Acts.Act.{TestIsSlow, Pauses, Continues, Cancels, Silent as NoSpan}
use Rattle.rec_spans.specs.Acts.{Act as SpanAct, act_of}
use Rattle.rec_spans.specs.declared.errors.ChromeTraceError.TheVariants.{MissingTestStart}
use Rattle.rec_spans.specs.declared.errors.ChromeTraceError.{ChromeTraceError}
use Rattle.rec_spans.specs.declared.settings.ChromeTraceGroupBy.TheVariants.{Slot}
use Rattle.rec_spans.specs.declared.spans.Place.TheVariants as places
use Rattle.rec_spans.specs.declared.spans.Span.{Span}
use Rattle.rec_spans.specs.declared.spans.SpanKey.TheVariants as keys
use Rattle.rec_spans.specs.History.{TraceState, state_after}
use Rattle.rec_spans.specs.Keys.{key_eq}
use Rattle.rec_spans.specs.Kinds.{change_of, history}
use Rattle.rec_spans.specs.Past.Change.{Start, Stop, Pause, Resume, Other}
use Rattle.rec_spans.specs.Past.{Change as SpanChange, TraceInput, binaries}
use Rattle.rec_spans.specs.Past.{in_place, is_paused, of_key, open_after, open_spans}
use Rattle.rec_spans.specs.Places.{place_eq}
use Rattle.rec_spans.specs.Plain.{PlainEvent}
use Rattle.rec_spans.specs.Positions.{Has, change_at, past_at}
use Rattle.rec_spans.specs.Refusals.{attempt_missing, is_none_open, missing_refusal}
use Rattle.rec_spans.specs.Refusals.{next_refusal, number_refusal, instant_refusal}
use Rattle.rec_spans.specs.Refusals.{act_refusal, open_refusal, slot_refusal}
use Rattle.rec_slots.proofs.HeldSlots.{FindsFree, Has-in_place, LeavesSlots, alone-is, held-left}
use Rattle.rec_slots.proofs.HeldSlots.{held-start, held-stop, one-after, slot-of, the-one}
use Rattle.rec_slots.proofs.Histories.{act-at, fit-here, input, input-at, input-fits}
use Rattle.rec_slots.proofs.Histories.{instant-at, past-more, take-at, within}
use Rattle.rec_slots.specs.Acts.Act.{RunStarts, RunEnds, Starts, Ends, Silent}
use Rattle.rec_slots.specs.Acts.{Act, acts, slot_act}
use Rattle.rec_slots.specs.Beats.{Does, IsAtMostOne, IsBeat, IsNear, IsNoAttempt, change_in}
use Rattle.rec_slots.specs.Beats.{changed_run, ends_on, held_after, is_known, known_after}
use Rattle.rec_slots.specs.Beats.{marks_before, slot_among, slot_at, spans_before}
use Rattle.rec_slots.specs.declared.beats.Beat.{Beat}
use Rattle.rec_slots.specs.declared.beats.Change.TheVariants as changes
use Rattle.rec_slots.specs.declared.beats.Change.{Change}
use Rattle.rec_slots.specs.Runs.{StartsAttempt, is_start, nanoseconds}
use Rattle.rec_slots.specs.Runs.{run_mark, run_marks, starts_on}
use Rattle.rec_slots.specs.Usage.{is_held}

abbrev known_with : Bool → Bool → Bool
known_with a b = b || a

-- ---- the kinds of events

-- what an act does to the spans, by what it is for the slots
abbrev pub Acts : SpanAct → Act → SpanChange → Type 0
Acts a RunStarts c = LeavesSlots c
Acts a RunEnds c = LeavesSlots c
Acts a (Starts slot) c =
    (s : Span) × (c ≡ Start s) × (s.place ≡ places.Slot slot)
    × ((test : OwnedTestInstanceId) × (s.key ≡ keys.Test test))
Acts a (Ends test) c =
    (c ≡ Stop (keys.Test test))
    × ((n : ℕ) (spans : List Span) → missing_refusal n spans a ≡ attempt_missing n spans test)
Acts a Silent c = LeavesSlots c

pub acts-so : (seen : List (List ℕ × ℕ)) (a : SpanAct) → Acts a (slot_act a) (change_of Slot seen a)
acts-so seen StartOfRun = λ slot e. cc
acts-so seen EndOfRun = λ test e. cc
acts-so seen SubRunStarts = λ slot e. cc
acts-so seen SubRunEnds = λ test e. cc
acts-so seen (ScriptStarts index id) = λ slot e. cc
acts-so seen (ScriptEnds index id) = λ test e. cc
acts-so seen (ScriptIsSlow id) = tt
acts-so seen (AttemptStarts test slot) = (_, refl, refl, (test, refl))
acts-so seen (AttemptFails test) = (refl, (λ n spans. refl))
acts-so seen (TestEnds test failures) = (refl, (λ n spans. refl))
acts-so seen (TestIsSlow test) = tt
acts-so seen (Pauses scripts) = tt
acts-so seen (Continues scripts) = tt
acts-so seen (Cancels scripts) = tt
acts-so seen NoSpan = tt

-- ---- what is known of an event that isn't refused

not-missing : (state : TraceState) (i : TraceInput) → next_refusal state i ≡ None
    → missing_refusal (suc state.number) state.spans i.act ≡ None
not-missing state i none =
    let n = suc state.number in
    let a = or-none (number_refusal n)
    (option_or (instant_refusal n i.at) (act_refusal n state i.act i.change)) none in
    let b = or-none (instant_refusal n i.at) (act_refusal n state i.act i.change) a.1 in
    (or-none (missing_refusal n state.spans i.act) _ b.1).0

-- an attempt that isn't missing is open
is-open : (n : ℕ) (spans : List Span) (test : OwnedTestInstanceId)
    → attempt_missing n spans test ≡ None → IsAtMostOne (of_key (keys.Test test) spans)
    → (x : Span) × (of_key (keys.Test test) spans ≡ x ∷ [])
is-open n spans test none (inl e) =
    absurd (empty (MissingTestStart n test.binary_id test.test_name) (of_key (keys.Test test) spans)
    e none)
  where
    empty : (x : ChromeTraceError) (found : List Span) → found ≡ []
        → cond (is_none_open found) (Some x) None ≡ None → ⊥
    empty x [] e h = cc
    empty x (s ∷ found) e h = cc
is-open n spans test none (inr one) = one

module _ (events : List PlainEvent) (n : ℕ) (e : PlainEvent) (is : slice_get events n ≡ Some e)
    (single : (slot : ℕ) → IsAtMostOne (in_place (places.Slot slot) (spans_before events n)))
    (alone : (test : OwnedTestInstanceId)
    → IsAtMostOne (of_key (keys.Test test) (spans_before events n)))
    (none : next_refusal (state_after (past_at (history Slot events) n)) (input events n e is)
    ≡ None) where
  abbrev i : TraceInput
  i = input events n e is

  abbrev spans : List Span
  spans = spans_before events n

  abbrev act : Act
  act = slot_act (act_of e.kind)

  spans-more : spans_before events (suc n) ≡ open_after i.change spans
  spans-more = ap open_spans (past-more events n e is)

  change-is : change_at (history Slot events) n ≡ Some i.change
  change-is = change_at-is (history Slot events) n i (input-at events n e is)

  fits : AllFit spans
  fits = fit-here events n e is

  -- ---- the places and the keys

  key-finds : (test : OwnedTestInstanceId) (c : SpanChange)
      → open_refusal (suc (state_after (past_at (history Slot events) n)).number) spans c ≡ None
      → FindsFree (λ s. key_eq s.key (keys.Test test)) c spans
  key-finds test (Start s) no_open = λ same. let is_key = key_eq-true s.key (keys.Test test) same in
      subst (λ k. of_key k spans ≡ []) is_key
      (key-free (suc (state_after (past_at (history Slot events) n)).number) s spans no_open)
  key-finds test (Stop k) no_open = tt
  key-finds test Pause no_open = tt
  key-finds test Resume no_open = tt
  key-finds test Other no_open = tt

  place-finds : (slot : ℕ) (c : SpanChange) → StartFits c
      → open_refusal (suc (state_after (past_at (history Slot events) n)).number) spans c ≡ None
      → slot_refusal (suc (state_after (past_at (history Slot events) n)).number) spans c ≡ None
      → FindsFree (λ s. place_eq (places.Slot slot) s.place) c spans
  place-finds slot (Start s) fit no_open no_slot = λ same.
      let k = suc (state_after (past_at (history Slot events) n)).number in
      ap (λ p. in_place p spans) (place_eq-true (places.Slot slot) s.place same)
      ∙ place-free k s spans fit fits (key-free k s spans no_open) no_slot
  place-finds slot (Stop k) fit no_open no_slot = tt
  place-finds slot Pause fit no_open no_slot = tt
  place-finds slot Resume fit no_open no_slot = tt
  place-finds slot Other fit no_open no_slot = tt

  free : (open_refusal (suc (state_after (past_at (history Slot events) n)).number) spans i.change
      ≡ None)
      × (slot_refusal (suc (state_after (past_at (history Slot events) n)).number) spans i.change
      ≡ None)
  free = next_refusal-none (state_after (past_at (history Slot events) n)) i none

  pub single-more : (slot : ℕ)
      → IsAtMostOne (in_place (places.Slot slot) (spans_before events (suc n)))
  single-more slot = subst (λ v. IsAtMostOne (in_place (places.Slot slot) v)) (sym spans-more)
      (one-after (λ s. place_eq (places.Slot slot) s.place) i.change spans
      (place-finds slot i.change (input-fits events n e is) free.0 free.1) (single slot))

  pub alone-more : (test : OwnedTestInstanceId)
      → IsAtMostOne (of_key (keys.Test test) (spans_before events (suc n)))
  alone-more test = subst (λ v. IsAtMostOne (of_key (keys.Test test) v)) (sym spans-more)
      (one-after (λ s. key_eq s.key (keys.Test test)) i.change spans
      (key-finds test i.change free.0) (alone test))

  -- ---- the change

  abbrev Seen : Change → Type 0
  Seen c = (marks_before events (suc n) ≡ marks_before events n ++ changed_run c)
      × ((slot : ℕ) → is_known events (suc n) slot ≡ known_after c slot (is_known events n slot))
      × ((slot : ℕ)
      → is_held slot (spans_before events (suc n)) ≡ held_after c slot (is_held slot spans))
      × Does events n c

  marks-more : marks_before events (suc n) ≡ marks_before events n ++ run_mark act
  marks-more =
      ap run_marks (take-at (acts events) n act (act-at events n e is))
      ∙ flat_map-append run_mark (take n (acts events)) (act ∷ [])
      ∙ ap (λ l. marks_before events n ++ l) (append-nil (run_mark act))

  known-more : (slot : ℕ)
      → is_known events (suc n) slot ≡ (known_with (is_known events n slot) (starts_on slot act))
  known-more slot =
      ap (list_any (starts_on slot)) (take-at (acts events) n act (act-at events n e is))
      ∙ list_any-append (starts_on slot) (take n (acts events)) (act ∷ [])
      ∙ by (is_known events n slot) (starts_on slot act)
    where
      by : (a b : Bool) → (a || (b || false)) ≡ known_with a b
      by true true = refl
      by true false = refl
      by false true = refl
      by false false = refl

  starts-here : option_map_or is_start (slice_get (acts events) n) false ≡ is_start act
  starts-here = ap (λ o. option_map_or is_start o false) (act-at events n e is)

  no-start : is_start act ≡ false → ¬ StartsAttempt events n
  no-start e h = false≢true (sym e ∙ sym starts-here ∙ h)

  left : LeavesSlots i.change → is_start act ≡ false → IsNoAttempt events n
  left leaves e = record {
    no_start = no-start e;
    no_span = λ s slot starts. span i.change leaves s slot (sym change-is ∙ starts);
    no_stop = λ test stops. stop i.change leaves test (sym change-is ∙ stops);
  }
    where
      span : (c : SpanChange) → LeavesSlots c → (s : Span) (slot : ℕ) → Some c ≡ Some (Start s)
          → s.place ≢ places.Slot slot
      span (Start x) l s slot h =
          let same : x ≡ s = cc in subst (λ (v : Span). v.place ≢ places.Slot slot) same (l slot)
      span (Stop k) l s slot h = cc
      span Pause l s slot h = cc
      span Resume l s slot h = cc
      span Other l s slot h = cc

      stop : (c : SpanChange) → LeavesSlots c → (test : OwnedTestInstanceId)
          → Some c ≡ Some (Stop (keys.Test test)) → ⊥
      stop (Start s) l test h = cc
      stop (Stop k) l test h = let same : k ≡ keys.Test test = cc in l test same
      stop Pause l test h = cc
      stop Resume l test h = cc
      stop Other l test h = cc

  held-same : LeavesSlots i.change → (slot : ℕ)
      → is_held slot (spans_before events (suc n)) ≡ is_held slot spans
  held-same leaves slot = ap (is_held slot) spans-more ∙ held-left i.change spans leaves fits slot

  -- the act, which may be written out
  seen-act : (a : Act) → act ≡ a → Acts (act_of e.kind) a i.change → Seen (change_in spans a)
  seen-act RunStarts is_act leaves = (
    marks-more ∙ ap (λ a. marks_before events n ++ run_mark a) is_act,
    (λ slot. known-more slot
        ∙ ap (λ a. known_with (is_known events n slot) (starts_on slot a)) is_act),
    held-same leaves,
    (left leaves (ap is_start is_act), act-at events n e is ∙ ap Some is_act),
  )
  seen-act RunEnds is_act leaves = (
    marks-more ∙ ap (λ a. marks_before events n ++ run_mark a) is_act,
    (λ slot. known-more slot
        ∙ ap (λ a. known_with (is_known events n slot) (starts_on slot a)) is_act),
    held-same leaves,
    (left leaves (ap is_start is_act), act-at events n e is ∙ ap Some is_act),
  )
  seen-act Silent is_act leaves = (
    marks-more ∙ ap (λ a. marks_before events n ++ run_mark a) is_act,
    (λ slot. known-more slot
        ∙ ap (λ a. known_with (is_known events n slot) (starts_on slot a)) is_act),
    held-same leaves,
    left leaves (ap is_start is_act),
  )
  seen-act (Starts slot) is_act (s, starts, at, test) =
      let free_here : in_place (places.Slot slot) spans ≡ [] =
      subst (λ p. in_place p spans ≡ []) at (free-place s starts) in (
        marks-more ∙ ap (λ a. marks_before events n ++ run_mark a) is_act,
        (λ p. known-more p ∙ ap (λ a. known_with (is_known events n p) (starts_on p a)) is_act),
        (λ p. ap (is_held p) spans-more ∙ ap (λ c. is_held p (open_after c spans)) starts
            ∙ held-start s spans slot at free_here p),
        (
          starts-here ∙ ap is_start is_act,
          (s, change-is ∙ ap Some starts, at),
          ap (λ l. not (is_none_open l)) free_here,
        ),
      )
    where
      free-place : (s : Span) → i.change ≡ Start s → in_place s.place spans ≡ []
      free-place s starts =
          let k = suc (state_after (past_at (history Slot events) n)).number in
          let no_open = subst (λ c. open_refusal k spans c ≡ None) starts free.0 in
          let no_slot = subst (λ c. slot_refusal k spans c ≡ None) starts free.1 in
          let fit : Fits s = subst StartFits starts (input-fits events n e is) in
          place-free k s spans fit fits (key-free k s spans no_open) no_slot
  seen-act (Ends test) is_act (stops, missing) =
      let k = suc (state_after (past_at (history Slot events) n)).number in
      let one = is-open k spans test
      (sym (missing k spans) ∙ not-missing (state_after (past_at (history Slot events) n)) i none)
      (alone test) in
      ends one.0 one.1
    where
      ends-on : (x : Span) → of_key (keys.Test test) spans ≡ x ∷ [] → Has spans x
          → x.key ≡ keys.Test test → (slot : ℕ) × (x.place ≡ places.Slot slot)
          → Seen (change_in spans (Ends test))
      ends-on x only has key (slot, at) =
          let on : change_in spans (Ends test) ≡ changes.Ends slot =
          ap (λ l. ends_on (slot_among l)) only ∙ ap (λ p. ends_on (slot_at p)) at in
          let here = Has-in_place (places.Slot slot) x spans has at in
          let there = alone-is (in_place (places.Slot slot) spans) x (single slot) here in
          subst Seen (sym on) (
            marks-more ∙ ap (λ a. marks_before events n ++ run_mark a) is_act,
            (λ p. known-more p ∙ ap (λ a. known_with (is_known events n p) (starts_on p a)) is_act),
            (λ p. ap (is_held p) spans-more ∙ ap (λ c. is_held p (open_after c spans)) stops
                ∙ held-stop (keys.Test test) x spans slot only
                (key_eq-from x.key (keys.Test test) key) at there p),
            (
              no-start (ap is_start is_act),
              record {
                span = x;
                place = at;
                stops = change-is ∙ ap Some stops ∙ ap (λ k. Some (Stop k)) (sym key);
                one = λ s open_there. λ either. elim either [
                  | inl same ↦ the-one (of_key (keys.Test test) spans) s x (alone test)
                      ((Has-of_key (keys.Test test) s spans).1 (open_there, same ∙ key))
                      (subst (λ v. Has v x) (sym only) (inl refl))
                  | inr place ↦ the-one (in_place (places.Slot slot) spans) s x (single slot)
                      (Has-in_place (places.Slot slot) s spans open_there place) here
                ];
              },
            ),
          )

      ends : (x : Span) → of_key (keys.Test test) spans ≡ x ∷ []
          → Seen (change_in spans (Ends test))
      ends x only = ends-on x only has.0 has.1 (slot-of test x (fit spans x fits has.0) has.1)
        where
          has : Has spans x × (x.key ≡ keys.Test test)
          has = (Has-of_key (keys.Test test) x spans).0 (subst (λ v. Has v x) (sym only) (inl refl))

          fit : (xs : List Span) (y : Span) → AllFit xs → Has xs y → Fits y
          fit [] y f h = absurd h
          fit (z ∷ xs) y f (inl same) = subst Fits same f.0
          fit (z ∷ xs) y f (inr h) = fit xs y f.1 h

  pub seen : Seen (change_in spans act)
  seen = seen-act act refl (acts-so (binaries (past_at (history Slot events) n)) (act_of e.kind))

  -- what is seen of the event
  pub beat-is : (beat : Beat) → beat.number ≡ suc n → beat.at ≡ nanoseconds e.timestamp
      → IsNear beat.at → beat.in_pause ≡ is_paused (past_at (history Slot events) n)
      → beat.change ≡ change_in spans act → IsBeat events n beat
  beat-is beat numbered at near paused change =
      let all = subst Seen (sym change) seen in
      record {
        within = within events n e is;
        numbered = numbered;
        at = at ∙ sym (instant-at events n e is);
        near = near;
        paused = paused;
        marks = all.0;
        known = all.1;
        held = all.2;
        does = all.3;
      }
