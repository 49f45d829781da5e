-- The times of slots after an event.
use Rattle.std.proofs.Common.{◌≡◌, ◌⊎◌, ◌<◌, inl, inr, ℕ, suc, ◌+◌, ◌-◌, ℤ, pos, ◌+ℤ◌, ◌-ℤ◌}
use Rattle.std.proofs.Common.{◌<ℤ◌, ◌≤ℤ◌, Bool, true, false, not, ◌&&◌, ◌||◌, ◌==◌, List}
use Rattle.std.proofs.Common.{[], ◌∷◌, ◌++◌, Option, Some, None, is_some, unsigned_abs, ◌^◌}
use Rattle.std.proofs.Common.{slice_get, refl, sym, ◌∙◌, ap, subst, arith}
use Rattle.std.proofs.lemmas.Bool.{false≢true}
use Rattle.std.proofs.lemmas.Int.{ints}
use Rattle.std.specs.BTreeMap.{get}
use Rattle.std.specs.Ordering.{nat_cmp}
use Rattle.std.specs.Prelude.{OnOk, Result, Ok, Err, if◌then◌else◌}
use Rattle.rec_spans.specs.declared.settings.ChromeTraceGroupBy.TheVariants.{Slot}
use Rattle.rec_spans.specs.Kinds.{history}
use Rattle.rec_spans.specs.Past.{is_paused}
use Rattle.rec_spans.specs.Plain.{PlainEvent}
use Rattle.rec_spans.specs.Positions.{past_at}
use Rattle.rec_slots.proofs.OpenAttempts.{begun-is, no-prefix, on-before}
use Rattle.rec_slots.specs.Acts.Act.{RunStarts, RunEnds}
use Rattle.rec_slots.specs.Acts.{acts}
use Rattle.rec_slots.specs.Beats.{Does, IsBeat, IsNear, changed_run, held_after}
use Rattle.rec_slots.specs.Beats.{is_known, known_after, marks_before, spans_before}
use Rattle.rec_slots.specs.Clocks.{AreClocks, has_clock, has_open, is_open, slot_time}
use Rattle.rec_slots.specs.declared.beats.Beat.{Beat}
use Rattle.rec_slots.specs.declared.beats.Change.TheVariants as changes
use Rattle.rec_slots.specs.declared.beats.Change.{Change}
use Rattle.rec_slots.specs.declared.clocks.Clocks.{Clocks}
use Rattle.rec_slots.specs.declared.times.Times.{Times}
use Rattle.rec_slots.specs.Gaps.GapKind.{busy, paused}
use Rattle.rec_slots.specs.Gaps.{gap_kind, is_kind}
use Rattle.rec_slots.specs.Runs.RunMark.{Begin, End}
use Rattle.rec_slots.specs.Runs.{Falls, RunMark, instant, is_begun, is_running}
use Rattle.rec_slots.specs.Usage.{is_held, slot_kind}
use Rattle.rec_slots.specs.Walked.{AreAtStart, AreOver, AreRunning, AreSpent}
use Rattle.rec_slots.specs.Walked.{AreTimes, FallsBefore, HasPassed, HasTimed}

-- ---- one gap

-- what a gap adds to the busy time of a slot, and to the paused time
busy-more : (in_pause held : Bool) (gap : ℕ) (t : ℤ) → pos gap ≡ t
    → pos (if not in_pause && held then gap else 0)
    ≡ (if is_kind busy (gap_kind in_pause held) then t else pos 0)
busy-more true held gap t is = refl
busy-more false true gap t is = is
busy-more false false gap t is = refl

paused-more : (in_pause held : Bool) (gap : ℕ) (t : ℤ) → pos gap ≡ t
    → pos (if in_pause then gap else 0)
    ≡ (if is_kind paused (gap_kind in_pause held) then t else pos 0)
paused-more true held gap t is = is
paused-more false true gap t is = refl
paused-more false false gap t is = refl

plus : (a b : ℕ) (x y : ℤ) → pos a ≡ x → pos b ≡ y → pos (a + b) ≡ x +ℤ y
plus a b x y h k = omega (arith, ints, h, k)

-- a gap is of a run in a pause or outside one
both-more : (in_pause : Bool) (p a gap : ℕ)
    → (p + (if in_pause then gap else 0)) + (a + (if in_pause then 0 else gap)) ≡ (p + a) + gap
both-more true p a gap = omega arith
both-more false p a gap = omega arith

module _ (events : List PlainEvent) (start gaps : ℕ) (beat : Beat) (old new : Clocks)
    (gap : ℕ) where
  abbrev n : ℕ
  n = suc (start + gaps)

  -- the times of one gap more
  pub gap-passed : beat.in_pause ≡ is_paused (past_at (history Slot events) n)
      → ((slot : ℕ) → is_open old slot ≡ is_held slot (spans_before events n))
      → pos gap ≡ instant events n -ℤ instant events (start + gaps)
      → new.paused ≡ old.paused + (if beat.in_pause then gap else 0)
      → new.active ≡ old.active + (if beat.in_pause then 0 else gap)
      → ((slot : ℕ) → slot_time new slot
      ≡ slot_time old slot + (if not beat.in_pause && is_open old slot then gap else 0))
      → IsNear (instant events n) → AreTimes events start gaps old
      → AreTimes events start (suc gaps) new
  gap-passed in_pause held gap_is paused_new active_new times_new near t = record {
    near = t.near;
    near_end = subst (λ k. IsNear (instant events k)) (omega arith) near;
    times = λ slot.
        ap pos (times_new slot)
        ∙ plus (slot_time old slot) (if not beat.in_pause && is_open old slot then gap else 0) _ _
        (t.times slot)
        (busy-more beat.in_pause (is_open old slot) gap
        (instant events n -ℤ instant events (start + gaps)) gap_is
        ∙ ap (λ k. if is_kind busy k then instant events n -ℤ instant events (start + gaps)
        else pos 0) (kind slot));
    paused_is = λ slot.
        ap pos paused_new
        ∙ plus old.paused (if beat.in_pause then gap else 0) _ _ (t.paused_is slot)
        (paused-more beat.in_pause (is_open old slot) gap
        (instant events n -ℤ instant events (start + gaps)) gap_is
        ∙ ap (λ k. if is_kind paused k then instant events n -ℤ instant events (start + gaps)
        else pos 0) (kind slot));
    total =
        ap pos
        ((λ i. paused_new i + active_new i) ∙ both-more beat.in_pause old.paused old.active gap)
        ∙ plus (old.paused + old.active) gap _ _ t.total gap_is
        ∙ sums (instant events (start + gaps)) (instant events start) (instant events n)
        (instant events (start + suc gaps)) (ap (instant events) (omega arith));
  }
    where
      kind : (slot : ℕ)
          → gap_kind beat.in_pause (is_open old slot) ≡ slot_kind events slot (start + gaps)
      kind slot = (λ i. gap_kind (in_pause i) (held slot i))

      sums : (a b c d : ℤ) → d ≡ c → (a -ℤ b) +ℤ (c -ℤ a) ≡ d -ℤ b
      sums a b c d e = omega (arith, ints, e)

-- ---- instants that fall

module _ (events : List PlainEvent) where
  none-fell : (n : ℕ) → ((k : ℕ) → k < n → ¬ Falls events k) → ¬ Falls events n
      → FallsBefore events (suc n) None
  none-fell n before here k lt = by two
    where
      two : (k ≡ n) ⊎ (k < n)
      two = grind arith

      by : (k ≡ n) ⊎ (k < n) → ¬ Falls events k
      by (inl e) = subst (λ v. ¬ Falls events v) (sym e) here
      by (inr below) = before k below

  -- a fall that was found stays the first
  still-fell : (n : ℕ) (fell : Option ℕ) (e : ℕ) → fell ≡ Some e → FallsBefore events n fell
      → FallsBefore events (suc n) fell
  still-fell n None e is f = cc
  still-fell n (Some k) e is f = f

  -- no time passes while the run doesn't go on
  stays : (n : ℕ) (fell : Option ℕ) → is_running events n ≡ false → FallsBefore events n fell
      → FallsBefore events (suc n) fell
  stays n None off f = none-fell n f (λ falls. false≢true (sym off ∙ falls.0))
  stays n (Some k) off f = f

  pub no-time : (n : ℕ) (t : Times) → is_running events n ≡ false → HasTimed events n t
      → HasPassed events n t
  no-time n t off has = record {
    clocks = has.clocks;
    held = has.held;
    known = has.known;
    fall = stays n t.fell off has.fall;
    before = λ none. (has.spent none).before;
    running = λ none begun. absurd (false≢true (sym off ∙ ap is_begun begun));
    over = λ none. (has.spent none).over;
  }

  pub fallen : (n e : ℕ) (t : Times) → t.fell ≡ Some e → HasTimed events n t → HasPassed events n t
  fallen n e t is has = record {
    clocks = has.clocks;
    held = has.held;
    known = has.known;
    fall = still-fell n t.fell e is has.fall;
    before = λ none. let both = is in absurd cc;
    running = λ none. let both = is in absurd cc;
    over = λ none. let both = is in absurd cc;
  }

  -- while a run goes on
  run-of : (n : ℕ) (t : Times) → is_running events n ≡ true → t.fell ≡ None → HasTimed events n t
      → AreRunning events n t.clocks
  run-of n t on none has = (has.spent none).running (begun-is (marks_before events n) on)

  none-is : (n : ℕ) (fell : Option ℕ) → fell ≡ None → FallsBefore events n fell → (k : ℕ) → k < n
      → ¬ Falls events k
  none-is n None is f = f
  none-is n (Some e) is f = cc

  -- the instant of an event of the run is below that of the one before
  pub falls-here : (n : ℕ) (beat : Beat) (t : Times) (new : Times) → IsBeat events n beat
      → is_running events n ≡ true → t.fell ≡ None → beat.at <ℤ t.last
      → new.fell ≡ Some beat.number → new.clocks ≡ t.clocks → HasTimed events n t
      → HasPassed events n new
  falls-here n beat t new is on none lt fell same has = record {
    clocks = subst AreClocks (sym same) has.clocks;
    held =
        subst (λ (cs : Clocks). (slot : ℕ) → is_open cs slot ≡ is_held slot (spans_before events n))
        (sym same) has.held;
    known =
        subst (λ (cs : Clocks). (slot : ℕ) → has_clock cs slot ≡ is_known events n slot) (sym same)
        has.known;
    fall = subst (FallsBefore events (suc n)) (sym fell) (
      n,
      is.numbered,
      record {
        holds = (on, is.within, below (run-of n t on none has).last);
        none = none-is n t.fell none has.fall;
      },
    );
    before = λ none. let both = fell in absurd cc;
    running = λ none. let both = fell in absurd cc;
    over = λ none. let both = fell in absurd cc;
  }
    where
      below : {m : ℕ} → n ≡ suc m → instant events n <ℤ instant events (n - 1)
      below {m} e =
          let at = is.at in
          let last = has.last m e in
          let one : n - 1 ≡ m = omega (arith, e) in
          subst (λ v. v <ℤ instant events (n - 1)) at
          (subst (λ v. beat.at <ℤ v) (last ∙ ap (instant events) (sym one)) lt)

  -- the time up to the event passes
  pub time-passes : (n : ℕ) (beat : Beat) (t new : Times) (gap : ℕ) → IsBeat events n beat
      → is_running events n ≡ true → t.fell ≡ None → t.last ≤ℤ beat.at
      → pos gap ≡ beat.at -ℤ t.last → new.fell ≡ t.fell → AreClocks new.clocks
      → new.clocks.slots ≡ t.clocks.slots
      → new.clocks.paused ≡ t.clocks.paused + (if beat.in_pause then gap else 0)
      → new.clocks.active ≡ t.clocks.active + (if beat.in_pause then 0 else gap)
      → ((slot : ℕ) → slot_time new.clocks slot
      ≡ slot_time t.clocks slot + (if not beat.in_pause && is_open t.clocks slot then gap else 0))
      → HasTimed events n t → HasPassed events n new
  time-passes n beat t new gap is on none rises gap_is fell clocks slots paused_new active_new
      times_new has =
      let run = run-of n t on none has in
      record {
        clocks = clocks;
        held = λ slot. ap (λ m. has_open (get nat_cmp m slot)) slots ∙ has.held slot;
        known =
            λ slot. ap (λ (cs : Clocks). has_clock cs slot)
            (λ i. record { paused = 0; active = 0; slots = slots i })
            ∙ has.known slot;
        fall =
            subst (FallsBefore events (suc n)) (sym (fell ∙ none))
            (none-fell n (none-is n t.fell none has.fall)
            (λ falls. let lt = above run.last falls.2 in apart beat.at t.last rises lt));
        before = λ none begun. let both = begun-is (marks_before events n) on in absurd cc;
        running = λ none begun. further run.start run.gaps run.last run;
        over = λ none begun. let both = begun-is (marks_before events n) on in absurd cc;
      }
    where
      apart : (a b : ℤ) → b ≤ℤ a → a <ℤ b → ⊥
      apart a b le lt = omega (arith, ints, le, lt)

      above : {m : ℕ} → n ≡ suc m → instant events n <ℤ instant events (n - 1) → beat.at <ℤ t.last
      above {m} e lt =
          let at = is.at in
          let last = has.last m e in
          let one : n - 1 ≡ m = omega (arith, e) in
          subst (λ v. v <ℤ t.last) (sym at)
          (subst (λ v. instant events n <ℤ v) (ap (instant events) one ∙ sym last) lt)

      further : (start gaps : ℕ) → n ≡ suc (start + gaps) → (run : AreRunning events n t.clocks)
          → AreRunning events (suc n) new.clocks
      further start gaps e run = record {
        start = run.start;
        gaps = suc run.gaps;
        starts = run.starts;
        last = (let l = run.last in omega arith);
        times = gap-passed events run.start run.gaps beat t.clocks new.clocks gap
            (is.paused ∙ ap (λ k. is_paused (past_at (history Slot events) k)) run.last)
            (λ slot. has.held slot ∙ ap (λ k. is_held slot (spans_before events k)) run.last)
            (gap_is ∙ (λ i.
            (is.at ∙ ap (instant events) run.last) i -ℤ has.last (run.start + run.gaps) run.last i))
            paused_new active_new times_new
            (subst (λ k. IsNear (instant events k)) run.last (subst IsNear is.at is.near))
            run.times;
      }

  -- ---- a change of the clocks

  -- what has the same times
  pub record SameTimes (old new : Clocks) : Type 0 where
    pub times : (slot : ℕ) → slot_time new slot ≡ slot_time old slot
    pub paused_is : new.paused ≡ old.paused
    pub active_is : new.active ≡ old.active

  at-start : (old new : Clocks) → SameTimes old new → AreAtStart old → AreAtStart new
  at-start old new same t = record {
    times = λ slot. same.times slot ∙ t.times slot;
    paused_is = same.paused_is ∙ t.paused_is;
    active_is = same.active_is ∙ t.active_is;
  }

  same-times : (start gaps : ℕ) (old new : Clocks) → SameTimes old new
      → AreTimes events start gaps old → AreTimes events start gaps new
  same-times start gaps old new same t = record {
    near = t.near;
    near_end = t.near_end;
    times = λ slot. ap pos (same.times slot) ∙ t.times slot;
    paused_is = λ slot. ap pos same.paused_is ∙ t.paused_is slot;
    total = (λ i. pos (same.paused_is i + same.active_is i)) ∙ t.total;
  }

  still-running : (n : ℕ) (old new : Clocks) → SameTimes old new → AreRunning events n old
      → AreRunning events n new
  still-running n old new same r = record {
    start = r.start;
    gaps = r.gaps;
    starts = r.starts;
    last = r.last;
    times = same-times r.start r.gaps old new same r.times;
  }

  still-over : (old new : Clocks) → SameTimes old new → AreOver events old → AreOver events new
  still-over old new same r = record {
    start = r.start;
    gaps = r.gaps;
    starts = r.starts;
    ends = r.ends;
    times = same-times r.start r.gaps old new same r.times;
  }

  -- the run starts
  run-starts : (n : ℕ) (cs : Clocks) → IsNear (instant events n)
      → slice_get (acts events) n ≡ Some RunStarts → AreAtStart cs → AreRunning events (suc n) cs
  run-starts n cs near starts t = record {
    start = n;
    gaps = 0;
    starts = starts;
    last = omega arith;
    times = record {
      near = near;
      near_end = subst (λ k. IsNear (instant events k)) (omega arith) near;
      times = λ slot. ap pos (t.times slot);
      paused_is = λ slot. ap pos t.paused_is;
      total = (λ i. pos (t.paused_is i + t.active_is i)) ∙ zero-time (instant events n)
          (instant events (n + 0)) (ap (instant events) (omega arith));
    };
  }
    where
      zero-time : (a b : ℤ) → b ≡ a → pos (0 + 0) ≡ b -ℤ a
      zero-time a b e = omega (arith, ints, e)

  run-ends : (n : ℕ) (cs : Clocks) → slice_get (acts events) n ≡ Some RunEnds
      → AreRunning events (suc n) cs → AreOver events cs
  run-ends n cs ends r = record {
    start = r.start;
    gaps = r.gaps;
    starts = r.starts;
    ends =
        subst (λ k. slice_get (acts events) k ≡ Some RunEnds) (let last = r.last in omega arith)
        ends;
    times = r.times;
  }

  started : (n : ℕ) (c : Change) → Does events n c → changed_run c ≡ Begin ∷ []
      → slice_get (acts events) n ≡ Some RunStarts
  started n changes.RunStarts does e = does.1
  started n changes.RunEnds does e = cc
  started n (changes.Starts slot) does e = cc
  started n (changes.Ends slot) does e = cc
  started n changes.Nothing does e = cc

  ended : (n : ℕ) (c : Change) → Does events n c → changed_run c ≡ End ∷ []
      → slice_get (acts events) n ≡ Some RunEnds
  ended n changes.RunStarts does e = cc
  ended n changes.RunEnds does e = does.1
  ended n (changes.Starts slot) does e = cc
  ended n (changes.Ends slot) does e = cc
  ended n changes.Nothing does e = cc

  one-mark : (c : Change) (m k : RunMark) → changed_run c ≡ m ∷ k ∷ [] → ⊥
  one-mark changes.RunStarts m k e = cc
  one-mark changes.RunEnds m k e = cc
  one-mark (changes.Starts slot) m k e = cc
  one-mark (changes.Ends slot) m k e = cc
  one-mark changes.Nothing m k e = cc

  -- a run is over after an event exactly where it was, or ends there
  over-before : (ms more : List RunMark) → ms ++ more ≡ Begin ∷ End ∷ []
      → ((ms ≡ Begin ∷ End ∷ []) × (more ≡ []))
      ⊎ (((ms ≡ Begin ∷ []) × (more ≡ End ∷ [])) ⊎ (more ≡ Begin ∷ End ∷ []))
  over-before [] more e = inr (inr e)
  over-before (m ∷ []) more e = inr (inl (cc, cc))
  over-before (m ∷ k ∷ []) [] e = inl (e, refl)
  over-before (m ∷ k ∷ []) (x ∷ more) e = cc
  over-before (m ∷ k ∷ l ∷ ms) more e = cc

  pub timed-more : (n : ℕ) (beat : Beat) (mid new : Times) → IsBeat events n beat
      → HasPassed events n mid → new.last ≡ beat.at → new.fell ≡ mid.fell → AreClocks new.clocks
      → SameTimes mid.clocks new.clocks
      → ((slot : ℕ)
      → is_open new.clocks slot ≡ held_after beat.change slot (is_open mid.clocks slot))
      → ((slot : ℕ)
      → has_clock new.clocks slot ≡ known_after beat.change slot (has_clock mid.clocks slot))
      → HasTimed events (suc n) new
  timed-more n beat mid new is has last fell clocks same opens knows = record {
    clocks = clocks;
    near = subst IsNear (sym last) is.near;
    last = λ m e. last ∙ is.at ∙ ap (instant events) (omega (arith, e));
    held =
        λ slot. opens slot ∙ ap (held_after beat.change slot) (has.held slot) ∙ sym (is.held slot);
    known =
        λ slot. knows slot ∙ ap (known_after beat.change slot) (has.known slot)
        ∙ sym (is.known slot);
    fall = subst (FallsBefore events (suc n)) (sym fell) has.fall;
    spent = λ none. spent (sym fell ∙ none);
  }
    where
      spent : mid.fell ≡ None → AreSpent events (suc n) new.clocks
      spent none = record {
        before =
            λ empty. at-start mid.clocks new.clocks same (has.before none
            (no-prefix (marks_before events n) (changed_run beat.change) (sym is.marks ∙ empty)));
        running =
            λ begun. elim (on-before (marks_before events n) (changed_run beat.change)
            (sym is.marks ∙ begun)) [
              | inl on ↦ still-running (suc n) mid.clocks new.clocks same (has.running none on.0)
              | inr off ↦ run-starts n new.clocks (subst IsNear is.at is.near)
                  (started n beat.change is.does off.1)
                  (at-start mid.clocks new.clocks same (has.before none off.0))
            ];
        over =
            λ done. elim (over-before (marks_before events n) (changed_run beat.change)
            (sym is.marks ∙ done)) [
              | inl was ↦ still-over mid.clocks new.clocks same (has.over none was.0)
              | inr w ↦ elim w [
                | inl now ↦ run-ends n new.clocks (ended n beat.change is.does now.1)
                    (still-running (suc n) mid.clocks new.clocks same (has.running none now.0))
                | inr two ↦ absurd (one-mark beat.change Begin End two)
              ]
            ];
      }

  abbrev Totals : Clocks → Clocks → Type 0
  Totals old new = (new.active ≡ old.active) × (new.paused ≡ old.paused)

  -- an attempt starts
  pub timed-start : (n : ℕ) (beat : Beat) (mid new : Times) (slot : ℕ) → IsBeat events n beat
      → beat.change ≡ changes.Starts slot → HasPassed events n mid → new.last ≡ beat.at
      → new.fell ≡ mid.fell → AreClocks new.clocks
      → ((s : ℕ) → slot_time new.clocks s ≡ slot_time mid.clocks s) → Totals mid.clocks new.clocks
      → ((s : ℕ) → is_open new.clocks s ≡ (s == slot || is_open mid.clocks s))
      → ((s : ℕ) → has_clock new.clocks s ≡ (s == slot || has_clock mid.clocks s))
      → HasTimed events (suc n) new
  timed-start n beat mid new slot is change has last fell clocks times totals opens knows =
      timed-more n beat mid new is has last fell clocks
      (record { times = times; paused_is = totals.1; active_is = totals.0 })
      (λ s. opens s ∙ sym (ap (λ c. held_after c s (is_open mid.clocks s)) change))
      (λ s. knows s ∙ sym (ap (λ c. known_after c s (has_clock mid.clocks s)) change))

  -- an attempt ends
  pub timed-end : (n : ℕ) (beat : Beat) (mid new : Times) (slot : ℕ) → IsBeat events n beat
      → beat.change ≡ changes.Ends slot → HasPassed events n mid → new.last ≡ beat.at
      → new.fell ≡ mid.fell → AreClocks new.clocks
      → ((s : ℕ) → slot_time new.clocks s ≡ slot_time mid.clocks s) → Totals mid.clocks new.clocks
      → ((s : ℕ) → is_open new.clocks s ≡ (not (s == slot) && is_open mid.clocks s))
      → ((s : ℕ) → has_clock new.clocks s ≡ has_clock mid.clocks s)
      → HasTimed events (suc n) new
  timed-end n beat mid new slot is change has last fell clocks times totals opens knows =
      timed-more n beat mid new is has last fell clocks
      (record { times = times; paused_is = totals.1; active_is = totals.0 })
      (λ s. opens s ∙ sym (ap (λ c. held_after c s (is_open mid.clocks s)) change))
      (λ s. knows s ∙ sym (ap (λ c. known_after c s (has_clock mid.clocks s)) change))

  neither-held : (c : Change) → ((slot : ℕ) → c ≡ changes.Starts slot → ⊥)
      → ((slot : ℕ) → c ≡ changes.Ends slot → ⊥) → (s : ℕ) (b : Bool) → b ≡ held_after c s b
  neither-held changes.RunStarts no_start no_end s b = refl
  neither-held changes.RunEnds no_start no_end s b = refl
  neither-held (changes.Starts slot) no_start no_end s b = absurd (no_start slot refl)
  neither-held (changes.Ends slot) no_start no_end s b = absurd (no_end slot refl)
  neither-held changes.Nothing no_start no_end s b = refl

  neither-known : (c : Change) → ((slot : ℕ) → c ≡ changes.Starts slot → ⊥) → (s : ℕ) (b : Bool)
      → b ≡ known_after c s b
  neither-known changes.RunStarts no_start s b = refl
  neither-known changes.RunEnds no_start s b = refl
  neither-known (changes.Starts slot) no_start s b = absurd (no_start slot refl)
  neither-known (changes.Ends slot) no_start s b = refl
  neither-known changes.Nothing no_start s b = refl

  -- neither
  pub timed-neither : (n : ℕ) (beat : Beat) (mid new : Times)
      → ((slot : ℕ) → beat.change ≡ changes.Starts slot → ⊥)
      → ((slot : ℕ) → beat.change ≡ changes.Ends slot → ⊥)
      → IsBeat events n beat → HasPassed events n mid → new.last ≡ beat.at → new.fell ≡ mid.fell
      → new.clocks ≡ mid.clocks → HasTimed events (suc n) new
  timed-neither n beat mid new no_start no_end is has last fell same =
      timed-more n beat mid new is has last fell (subst AreClocks (sym same) has.clocks)
      (record {
        times = λ slot. ap (λ cs. slot_time cs slot) same;
        paused_is = ap (λ (cs : Clocks). cs.paused) same;
        active_is = ap (λ (cs : Clocks). cs.active) same;
      })
      (λ s. ap (λ cs. is_open cs s) same
      ∙ neither-held beat.change no_start no_end s (is_open mid.clocks s))
      (λ s. ap (λ cs. has_clock cs s) same
      ∙ neither-known beat.change no_start s (has_clock mid.clocks s))

  -- where the run goes on, it began at an instant that is near,
  -- and the time since is that of the clocks
  pub has-room : (n : ℕ) (t : Times) → is_running events n ≡ true → t.fell ≡ None
      → HasTimed events n t
      → (x : ℤ) × IsNear x × (pos (t.clocks.paused + t.clocks.active) ≡ t.last -ℤ x)
  has-room n t on none has =
      let run = run-of n t on none has in (
        instant events run.start,
        run.times.near,
        run.times.total ∙ ap (λ v. v -ℤ instant events run.start)
            (sym (has.last (run.start + run.gaps) run.last)),
      )

-- ---- numbers

pub gap-is : (at last : ℤ) → last ≤ℤ at → pos (unsigned_abs (at -ℤ last)) ≡ at -ℤ last
gap-is at last rises = omega (arith, ints, rises)

pub room-fits : (s : ℕ) (at last x : ℤ) → IsNear x → IsNear at → last ≤ℤ at → pos s ≡ last -ℤ x
    → s + unsigned_abs (at -ℤ last) < 2 ^ 128
room-fits s at last x near_x near_at rises is =
    let a = near_x.0 in let b = near_at.1 in
    omega (arith, ints, a, b, rises, is)

pub some-is : (o : Option ℕ) → is_some o ≡ true → (e : ℕ) × (o ≡ Some e)
some-is None e = cc
some-is (Some k) e = (k, refl)

pub none-from : (o : Option ℕ) → is_some o ≡ false → o ≡ None
none-from None e = refl
none-from (Some k) e = cc

pub on_ok_two : {T E : Type 0} (P Q : Type 0) (r : Result T E) → OnOk r P → OnOk r Q
    → OnOk r (P × Q)
on_ok_two P Q (Ok x) p q = (p, q)
on_ok_two P Q (Err e) p q = tt
