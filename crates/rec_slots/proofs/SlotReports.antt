-- How a report of the slots comes from the clocks of a run that is over.
use Rattle.std.proofs.Common.{◌≡◌, ◌<◌, ◌^◌, ℕ, suc, ◌+◌, ◌==◌, ◌||◌, ℤ, pos, ◌+ℤ◌}
use Rattle.std.proofs.Common.{◌-ℤ◌, Bool, true, false, cond, List, [], ◌∷◌, ◌++◌}
use Rattle.std.proofs.Common.{length, map, Option, Some, None, is_some, option_map}
use Rattle.std.proofs.Common.{slice_get, take, refl, sym, ◌∙◌, ap, subst, arith}
use Rattle.std.proofs.lemmas.Bool.{false≢true}
use Rattle.std.proofs.lemmas.Int.{ints}
use Rattle.std.proofs.lemmas.List.{append_assoc, map-append, take_all}
use Rattle.std.proofs.lemmas.Option.{slice_get-map}
use Rattle.std.specs.BTreeMap.{get, is_at}
use Rattle.std.specs.List.Sorted.{IsStrictlySortedBy}
use Rattle.std.specs.List.{AllByRecursion, list_any}
use Rattle.std.specs.Map.{keys_of, lookup}
use Rattle.std.specs.Option.{option_map_or}
use Rattle.std.specs.Ordering.{nat_cmp}
use Rattle.std.specs.Prelude.{IfSome}
use Rattle.rec_spans.proofs.Keys.{is_eq-nat_cmp}
use Rattle.rec_spans.specs.Acts.{act_of}
use Rattle.rec_spans.specs.declared.settings.ChromeTraceGroupBy.TheVariants.{Slot}
use Rattle.rec_spans.specs.Kinds.{history}
use Rattle.rec_spans.specs.Plain.{PlainEvent}
use Rattle.rec_spans.specs.Refusals.{history_refusal}
use Rattle.rec_slots.proofs.Histories.{below, length-history}
use Rattle.rec_slots.proofs.Sums.{all_kinds}
use Rattle.rec_slots.specs.Acts.{acts, slot_act}
use Rattle.rec_slots.specs.Beats.{IsNear, is_done, marks_before}
use Rattle.rec_slots.specs.Clocks.{AreClocks, IsClock, IsTimed, worked, worked_so_far}
use Rattle.rec_slots.specs.declared.clocks.Clocks.{Clocks}
use Rattle.rec_slots.specs.declared.clocks.SlotClock.{SlotClock}
use Rattle.rec_slots.specs.declared.report.SlotReport.{SlotReport}
use Rattle.rec_slots.specs.declared.report.SlotUsage.{SlotUsage}
use Rattle.rec_slots.specs.declared.walk.Walk.{Walk}
use Rattle.rec_slots.specs.Refusals.{IsAccepted, IsNumberOfFirst, No}
use Rattle.rec_slots.specs.Runs.RunMark.{Begin, End}
use Rattle.rec_slots.specs.Runs.{Falls, IsOneRun, IsOutside, RunMark, StartsAttempt}
use Rattle.rec_slots.specs.Runs.{instant, is_start, run_marks, starts_on}
use Rattle.rec_slots.specs.Usage.{IsReport, IsUsage, slot_kind}
use Rattle.rec_slots.specs.Walked.{AreOver, FallsBefore, FindsFirst, HasWalked, IsOutsideBefore}

-- ---- clocks

-- the clock of an entry
pub clock-at : (cs : Clocks) (slot : ℕ) (clock : SlotClock) → get nat_cmp cs.slots slot ≡ Some clock
    → AreClocks cs → IsClock cs.active clock
clock-at cs slot clock is are = subst (λ o. IfSome o (IsClock cs.active)) is (are slot)

all-more : {X : Type 0} (P : X → Type 0) (xs : List X) (x : X) → AllByRecursion P xs → P x
    → AllByRecursion P (xs ++ x ∷ [])
all-more P [] x all here = (here, tt)
all-more P (y ∷ xs) x all here = (all.0, all-more P xs x all.1 here)

-- one usage more
pub used-more : (cs : Clocks) (us : List SlotUsage) (u : SlotUsage) (clock : SlotClock)
    → get nat_cmp cs.slots u.slot ≡ Some clock → u.busy ≡ worked cs.active clock
    → u.paused ≡ cs.paused
    → u.busy + u.paused + u.idle ≡ cs.paused + cs.active → AllByRecursion (IsTimed cs) us
    → AllByRecursion (IsTimed cs) (us ++ u ∷ [])
used-more cs us u clock is busy_is paused_is sum all = all-more (IsTimed cs) us u all (record {
  busy_is = busy_is ∙ sym (time (get nat_cmp cs.slots u.slot) is);
  paused_is = paused_is;
  sum = sum;
})
  where
    time : (o : Option SlotClock) → o ≡ Some clock
        → worked_so_far cs.active o ≡ worked cs.active clock
    time o e = ap (worked_so_far cs.active) e

pub slots-more : (us : List SlotUsage) (u : SlotUsage) (rest keys : List ℕ)
    → map (λ (v : SlotUsage). v.slot) us ++ u.slot ∷ rest ≡ keys
    → map (λ (v : SlotUsage). v.slot) (us ++ u ∷ []) ++ rest ≡ keys
slots-more us u rest keys is =
    ap (λ l. l ++ rest) (map-append (λ (v : SlotUsage). v.slot) us (u ∷ []))
    ∙ append_assoc (map (λ (v : SlotUsage). v.slot) us) (u.slot ∷ []) rest ∙ is

pub none-by : (o : Option ℕ) → ((k : ℕ) → o ≡ Some k → ⊥) → o ≡ None
none-by None no_value = refl
none-by (Some k) no_value = absurd (no_value k refl)

-- ---- a run that is over

done-is : (ms : List RunMark) → is_done ms ≡ true → ms ≡ Begin ∷ End ∷ []
done-is [] e = cc
done-is (Begin ∷ []) e = cc
done-is (Begin ∷ End ∷ []) e = refl
done-is (Begin ∷ End ∷ m ∷ ms) e = cc
done-is (Begin ∷ Begin ∷ ms) e = cc
done-is (End ∷ ms) e = cc

not-done : (ms : List RunMark) → is_done ms ≡ false → ms ≡ Begin ∷ End ∷ [] → ⊥
not-done ms e is = false≢true (sym e ∙ ap is_done is)

module _ (events : List PlainEvent) where
  abbrev all : ℕ
  all = length events

  whole-acts : take (length events) (acts events) ≡ acts events
  whole-acts =
      take_all (length events) (acts events) (let e = length-map events in omega (arith, e))
    where
      length-map : (es : List PlainEvent) → length (acts es) ≡ length es
      length-map [] = refl
      length-map (e ∷ es) = ap suc (length-map es)

  pub accepted-all : (walk : Walk) → HasWalked events (length events) walk → IsAccepted events
  accepted-all walk has =
      ap history_refusal (sym (take_all (length events) (history Slot events)
      (let e = length-history [] events in omega (arith, e))))
      ∙ has.tracked.accepted

  marks-all : marks_before events (length events) ≡ Begin ∷ End ∷ [] → IsOneRun events
  marks-all is = ap run_marks (sym whole-acts) ∙ is

  pub one-run : is_done (marks_before events (length events)) ≡ true → IsOneRun events
  one-run done = marks-all (done-is (marks_before events (length events)) done)

  pub no-run : is_done (marks_before events (length events)) ≡ false → ¬ IsOneRun events
  no-run done is =
      not-done (marks_before events (length events)) done (ap run_marks whole-acts ∙ is)

  -- ---- attempts

  outside-all : (i : ℕ) → IsOutsideBefore events (length events) i → IsOutside events i
  outside-all i o = (
    o.starts,
    (λ w. o.outside
        (w, (let lt = w.ends in let e = length-history [] events in omega (arith, e, lt)))),
  )

  outside-some : (i : ℕ) → IsOutside events i → IsOutsideBefore events (length events) i
  outside-some i o = record { before = started i o.0; starts = o.0; outside = λ (w, lt). o.1 w }
    where
      started : (i : ℕ) → StartsAttempt events i → i < length events
      started i starts = by (slice_get events i) refl
        where
          by : (e : Option PlainEvent) → slice_get events i ≡ e → i < length events
          by None is =
              absurd (false≢true (sym (ap (λ o. option_map_or is_start o false)
              (slice_get-map (λ (x : PlainEvent). slot_act (act_of x.kind)) events i
              ∙ ap (option_map (λ (x : PlainEvent). slot_act (act_of x.kind))) is)) ∙ starts))
          by (Some e) is = below events i e is

  pub first-outside : (o : Option ℕ) (event : ℕ) → o ≡ Some event
      → FindsFirst events (length events) o → IsNumberOfFirst (IsOutside events) event
  first-outside None event is f = cc
  first-outside (Some k) event is f =
      let same : k ≡ event = cc in (
        f.0,
        sym same ∙ f.1,
        record {
          holds = outside-all f.0 f.2.holds;
          none = λ j lt o. f.2.none j lt (outside-some j o);
        },
      )

  pub none-outside : (o : Option ℕ) → o ≡ None → FindsFirst events (length events) o
      → No (IsOutside events)
  none-outside None is f = λ i o. f i (outside-some i o)
  none-outside (Some k) is f = cc

  -- ---- instants

  pub first-fall : (o : Option ℕ) (event : ℕ) → o ≡ Some event
      → FallsBefore events (length events) o → IsNumberOfFirst (Falls events) event
  first-fall None event is f = cc
  first-fall (Some k) event is f = let same : k ≡ event = cc in (f.0, sym same ∙ f.1, f.2)

  pub none-falls : (o : Option ℕ) → o ≡ None → FallsBefore events (length events) o
      → No (Falls events)
  none-falls None is f = λ k falls. f k falls.1 falls
  none-falls (Some k) is f = cc

  -- ---- the report

  -- what is known of a run that is over, in which no instant falls
  pub over-all : (walk : Walk) → HasWalked events (length events) walk
      → is_done (marks_before events (length events)) ≡ true → walk.times.fell ≡ None
      → AreOver events walk.times.clocks
  over-all walk has done none =
      (has.times.spent none).over (done-is (marks_before events (length events)) done)

  pub room-all : (cs : Clocks) → AreOver events cs → cs.paused + cs.active < 2 ^ 128
  room-all cs o =
      fits (cs.paused + cs.active) (instant events (o.start + o.gaps)) (instant events o.start)
      o.times.near o.times.near_end o.times.total
    where
      fits : (s : ℕ) (a b : ℤ) → IsNear b → IsNear a → pos s ≡ a -ℤ b → s < 2 ^ 128
      fits s a b near_b near_a is =
          let x = near_b.0 in let y = near_a.1 in omega (arith, ints, x, y, is)

  usage-is : (cs : Clocks) (o : AreOver events cs) (length_of : ℕ)
      → length_of ≡ cs.paused + cs.active → (u : SlotUsage) → IsTimed cs u
      → IsUsage events o.start o.gaps length_of u
  usage-is cs o length_of is u t =
      let busy_is = ap pos t.busy_is ∙ o.times.times u.slot in
      let paused_is = ap pos t.paused_is ∙ o.times.paused_is u.slot in
      record {
        busy_is = busy_is;
        paused_is = paused_is;
        idle_is =
            idle-left u.busy u.paused u.idle (cs.paused + cs.active) _ _ _ _ busy_is paused_is t.sum
            o.times.total (all_kinds (instant events) (slot_kind events u.slot) o.start o.gaps);
        sum = t.sum ∙ sym is;
      }
    where
      idle-left : (b p i l : ℕ) (x y z t : ℤ) → pos b ≡ x → pos p ≡ y → b + p + i ≡ l → pos l ≡ t
          → (x +ℤ y) +ℤ z ≡ t → pos i ≡ z
      idle-left b p i l x y z t e f g h k = omega (arith, ints, e, f, g, h, k)

  usages-are : (cs : Clocks) (o : AreOver events cs) (length_of : ℕ)
      → length_of ≡ cs.paused + cs.active → (us : List SlotUsage) → AllByRecursion (IsTimed cs) us
      → AllByRecursion (IsUsage events o.start o.gaps length_of) us
  usages-are cs o length_of is [] all_timed = tt
  usages-are cs o length_of is (u ∷ us) all_timed =
      (usage-is cs o length_of is u all_timed.0, usages-are cs o length_of is us all_timed.1)

  -- the slots that have a clock are those on which an attempt started
  any-slot : (slot : ℕ) (us : List SlotUsage)
      → list_any (λ (u : SlotUsage). slot == u.slot) us
      ≡ list_any (λ k. slot == k) (map (λ (u : SlotUsage). u.slot) us)
  any-slot slot [] = refl
  any-slot slot (u ∷ us) = ap (λ b. (slot == u.slot) || b) (any-slot slot us)

  any-key : (slot : ℕ) (entries : List (ℕ × SlotClock))
      → list_any (λ k. slot == k) (keys_of entries)
      ≡ is_some (lookup (is_at (nat_cmp slot)) entries)
  any-key slot [] = refl
  any-key slot (e ∷ entries) = by (slot == e.0) refl (any-key slot entries)
    where
      by : (b : Bool) → (slot == e.0) ≡ b
          → list_any (λ k. slot == k) (keys_of entries)
          ≡ is_some (lookup (is_at (nat_cmp slot)) entries)
          → ((slot == e.0) || list_any (λ k. slot == k) (keys_of entries)) ≡ is_some
          (cond (is_at (nat_cmp slot) e.0) (Some e.1) (lookup (is_at (nat_cmp slot)) entries))
      by true h rest =
          ap (λ b. b || list_any (λ k. slot == k) (keys_of entries)) h
          ∙ sym (ap (λ b. is_some (cond b (Some e.1) (lookup (is_at (nat_cmp slot)) entries)))
          (is_eq-nat_cmp slot e.0 ∙ h))
      by false h rest = ap (λ b. b || list_any (λ k. slot == k) (keys_of entries)) h ∙ rest
          ∙ sym (ap (λ b. is_some (cond b (Some e.1) (lookup (is_at (nat_cmp slot)) entries)))
          (is_eq-nat_cmp slot e.0 ∙ h))

  pub report-is : (walk : Walk) (r : SlotReport) → HasWalked events (length events) walk
      → is_done (marks_before events (length events)) ≡ true → walk.times.fell ≡ None
      → r.run_length ≡ walk.times.clocks.paused + walk.times.clocks.active
      → AllByRecursion (IsTimed walk.times.clocks) r.slots
      → map (λ (u : SlotUsage). u.slot) r.slots ≡ keys_of walk.times.clocks.slots.entries
      → IsStrictlySortedBy nat_cmp (map (λ (u : SlotUsage). u.slot) r.slots) → IsReport events r
  report-is walk r has done none length_is used slots rise =
      let cs = walk.times.clocks in
      let o = over-all walk has done none in
      record {
        start = o.start;
        gaps = o.gaps;
        run = record { one = one-run done; begins = o.starts; ends = o.ends };
        run_length = ap pos length_is ∙ o.times.total;
        usage = usages-are cs o r.run_length length_is r.slots used;
        rise = rise;
        each =
            λ slot. any-slot slot r.slots ∙ ap (list_any (λ k. slot == k)) slots
            ∙ any-key slot cs.slots.entries ∙ has.times.known slot
            ∙ ap (list_any (starts_on slot)) whole-acts;
      }
