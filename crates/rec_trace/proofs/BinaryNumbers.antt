-- The number of a binary is how many others started an attempt before its first one.
use Rattle.std.proofs.Common.{◌≡◌, ◌&&◌, ◌||◌, not, ℕ, suc, Bool, true, false, cond}
use Rattle.std.proofs.Common.{List, [], ◌∷◌, ◌++◌, length, Option, Some, None, Ordering}
use Rattle.std.proofs.Common.{Less, Equal, Greater, refl, sym, subst, ap, ◌∙◌, arith}
use Rattle.std.proofs.lemmas.List.{length-append}
use Rattle.std.proofs.lemmas.Map.Text.{is_eq-slice_cmp}
use Rattle.std.proofs.lemmas.Slice.Eq.{bytes_eq-Decides}
use Rattle.std.specs.BTreeMap.{insert_entry}
use Rattle.std.specs.Cmp.Lexicographic.{slice_cmp}
use Rattle.std.specs.List.{list_any}
use Rattle.std.specs.Option.{unwrap_or}
use Rattle.std.specs.Ordering.{is_eq, match_ordering, nat_cmp}
use Rattle.std.specs.Prelude.{bytes_eq, is_some}
use Rattle.rec_events.specs.declared.events.CoreEventKind.TheVariants.{
  RunStarted,
  StressSubRunStarted,
  SetupScriptStarted,
  SetupScriptSlow,
  TestStarted,
  TestSlow,
  TestRetryStarted,
  TestSkipped,
  RunBeginCancel,
  RunPaused,
  RunContinued,
  StressSubRunFinished,
  RunFinished,
}
use Rattle.rec_events.specs.declared.events.OutputEventKind.TheVariants.{
  SetupScriptFinished,
  TestAttemptFailedWillRetry,
  TestFinished,
}
use Rattle.rec_events.specs.declared.events.TestEventKindSummary.TheVariants.{Core, Output}
use Rattle.rec_forms.specs.Shape.{only}
use Rattle.rec_spans.specs.Acts.{act_of}
use Rattle.rec_spans.specs.declared.settings.ChromeTraceGroupBy.{ChromeTraceGroupBy}
use Rattle.rec_spans.specs.History.{after}
use Rattle.rec_spans.specs.Kinds.{change_of, history}
use Rattle.rec_spans.specs.Past.{binaries, binaries_after, number_of, with_binary}
use Rattle.rec_spans.specs.Plain.{PlainEvent, PlainKind}
use Rattle.rec_trace.proofs.LastTold.{last_or, of_each_history}
use Rattle.rec_trace.proofs.PastOfHistory.{past-push}
use Rattle.rec_trace.specs.Places.{IsLastOr, binary_of, is_binary, number_told}
use Rattle.rec_trace.specs.Places.{started_after, started_binaries, with_started}

-- ---- a binary is put among the others

abbrev Numbers : Type 0
Numbers = List (List ℕ × ℕ)

free_parts : (p : Bool) (n : ℕ) (o : Option ℕ) → cond p (Some n) o ≡ None → (p ≡ false) × (o ≡ None)
free_parts true n o h = cc h
free_parts false n o h = (refl, h)

number-insert : (q b : List ℕ) (v : ℕ) (seen : Numbers) → number_of b seen ≡ None
    → number_of q (insert_entry (slice_cmp nat_cmp) seen b v)
    ≡ cond (bytes_eq q b) (Some v) (number_of q seen)
number-insert q b v [] free = refl
number-insert q b v (x ∷ seen) free = go (slice_cmp nat_cmp b x.0) refl (number-insert q b v seen)
  where
    parts : (bytes_eq b x.0 ≡ false) × (number_of b seen ≡ None)
    parts = free_parts (bytes_eq b x.0) x.1 (number_of b seen) free

    apart : bytes_eq q x.0 ≡ true → bytes_eq q b ≡ true → ⊥
    apart s t =
        let same : b ≡ x.0 = sym ((bytes_eq-Decides q b).0 t) ∙ (bytes_eq-Decides q x.0).0 s in
        let both : bytes_eq b x.0 ≡ true = (bytes_eq-Decides b x.0).1 same in
        cc (both, parts.0)

    swap : (r s : Bool) → (r ≡ true → s ≡ true → ⊥) → (n : ℕ) (o : Option ℕ)
        → cond r (Some n) (cond s (Some v) o) ≡ cond s (Some v) (cond r (Some n) o)
    swap true true h n o = absurd (h refl refl)
    swap true false h n o = refl
    swap false s h n o = refl

    go : (o : Ordering) → slice_cmp nat_cmp b x.0 ≡ o
        → (number_of b seen ≡ None → number_of q (insert_entry (slice_cmp nat_cmp) seen b v)
        ≡ cond (bytes_eq q b) (Some v) (number_of q seen))
        → number_of q (match_ordering o ((b, v) ∷ x ∷ seen) ((x.0, v) ∷ seen)
        (x ∷ insert_entry (slice_cmp nat_cmp) seen b v))
        ≡ cond (bytes_eq q b) (Some v) (number_of q (x ∷ seen))
    go Less e more = refl
    go Equal e more =
        let there : bytes_eq b x.0 ≡ true = sym (is_eq-slice_cmp b x.0) ∙ ap is_eq e in
        absurd (cc (there, parts.0))
    go Greater e more =
        ap (cond (bytes_eq q x.0) (Some x.1)) (more parts.1)
        ∙ swap (bytes_eq q x.0) (bytes_eq q b) apart x.1 (number_of q seen)

length-insert : (b : List ℕ) (v : ℕ) (seen : Numbers) → number_of b seen ≡ None
    → length (insert_entry (slice_cmp nat_cmp) seen b v) ≡ suc (length seen)
length-insert b v [] free = refl
length-insert b v (x ∷ seen) free = go (slice_cmp nat_cmp b x.0) refl (length-insert b v seen)
  where
    parts : (bytes_eq b x.0 ≡ false) × (number_of b seen ≡ None)
    parts = free_parts (bytes_eq b x.0) x.1 (number_of b seen) free

    go : (o : Ordering) → slice_cmp nat_cmp b x.0 ≡ o
        → (number_of b seen ≡ None
        → length (insert_entry (slice_cmp nat_cmp) seen b v) ≡ suc (length seen))
        → length (match_ordering o ((b, v) ∷ x ∷ seen) ((x.0, v) ∷ seen)
        (x ∷ insert_entry (slice_cmp nat_cmp) seen b v))
        ≡ suc (length (x ∷ seen))
    go Less e more = refl
    go Equal e more =
        let there : bytes_eq b x.0 ≡ true = sym (is_eq-slice_cmp b x.0) ∙ ap is_eq e in
        absurd (cc (there, parts.0))
    go Greater e more = ap suc (more parts.1)

any-last : (q b : List ℕ) (started : List (List ℕ))
    → list_any (λ c. bytes_eq q c) (started ++ b ∷ [])
    ≡ (list_any (λ c. bytes_eq q c) started || bytes_eq q b)
any-last q b [] = go (bytes_eq q b)
  where
    go : (p : Bool) → (p || false) ≡ p
    go true = refl
    go false = refl
any-last q b (x ∷ started) = go (bytes_eq q x) (any-last q b started)
  where
    go : (p : Bool)
        → list_any (λ c. bytes_eq q c) (started ++ b ∷ [])
        ≡ (list_any (λ c. bytes_eq q c) started || bytes_eq q b)
        → (p || list_any (λ c. bytes_eq q c) (started ++ b ∷ []))
        ≡ ((p || list_any (λ c. bytes_eq q c) started) || bytes_eq q b)
    go true more = refl
    go false more = more

-- ---- what an event does to the binaries

abbrev with_given : Option (List ℕ) → Numbers → Numbers
with_given None seen = seen
with_given (Some b) seen = with_binary b seen

given : (g : ChromeTraceGroupBy) (at seen : Numbers) (kind : PlainKind)
    → binaries_after (change_of g at (act_of kind)) seen ≡ with_given (binary_of kind) seen
given g at seen (Core (RunStarted run_id profile_name cli_args stress_condition)) = refl
given g at seen (Core (RunFinished run_id start_time elapsed run_stats outstanding)) = refl
given g at seen (Core (RunBeginCancel scripts running reason)) = refl
given g at seen (Core (RunPaused scripts running)) = refl
given g at seen (Core (RunContinued scripts running)) = refl
given g at seen
    (Core (TestStarted stress_index test slot_assignment current_stats running command_line)) =
    refl
given g at seen
    (Core (TestRetryStarted stress_index test slot_assignment retry_data running command_line)) =
    refl
given g at seen (Core (TestSlow stress_index test retry_data elapsed will_terminate)) = refl
given g at seen (Core (TestSkipped stress_index test reason skipped)) = refl
given g at seen
    (Core (SetupScriptStarted stress_index index total script_id program args no_capture)) =
    refl
given g at seen
    (Core (SetupScriptSlow stress_index script_id program args elapsed will_terminate)) =
    refl
given g at seen (Core (StressSubRunStarted progress)) = refl
given g at seen (Core (StressSubRunFinished progress sub_elapsed sub_stats)) = refl
given g at seen
    (Output (SetupScriptFinished stress index total script program args no_capture status)) =
    refl
given g at seen (Output (TestAttemptFailedWillRetry stress test status delay failure running)) =
    refl
given g at seen (Output (TestFinished stress test success failure store_success store_failure flaky
    statuses current_stats running)) =
    refl

-- the binaries with numbers are those that have started, and as many
pub record Agree (started : List (List ℕ)) (seen : Numbers) : Type 0 where
  pub many : length seen ≡ length started
  pub same : (q : List ℕ) → is_some (number_of q seen) ≡ list_any (λ c. bytes_eq q c) started

none_of : (o : Option ℕ) → is_some o ≡ false → o ≡ None
none_of None h = refl
none_of (Some n) h = cc h

agree-step : (o : Option (List ℕ)) (started : List (List ℕ)) (seen : Numbers) → Agree started seen
    → Agree (with_started o started) (with_given o seen)
agree-step None started seen h = h
agree-step (Some b) started seen h =
    go (is_some (number_of b seen)) refl (list_any (λ c. bytes_eq b c) started) (h.same b)
  where
    added : number_of b seen ≡ None
        → Agree (started ++ b ∷ []) (insert_entry (slice_cmp nat_cmp) seen b (length seen))
    added free = record {
      many =
          length-insert b (length seen) seen free ∙ ap suc h.many
          ∙ sym (length-append started (b ∷ []) ∙ omega arith);
      same =
          λ q. ap is_some (number-insert q b (length seen) seen free) ∙ by q (bytes_eq q b)
          ∙ sym (any-last q b started);
    }
      where
        by : (q : List ℕ) (p : Bool)
            → is_some (cond p (Some (length seen)) (number_of q seen))
            ≡ (list_any (λ c. bytes_eq q c) started || p)
        by q true = sym (or_true (list_any (λ c. bytes_eq q c) started))
          where
            or_true : (r : Bool) → (r || true) ≡ true
            or_true true = refl
            or_true false = refl
        by q false = h.same q ∙ sym (or_false (list_any (λ c. bytes_eq q c) started))
          where
            or_false : (r : Bool) → (r || false) ≡ r
            or_false true = refl
            or_false false = refl

    go : (p : Bool) → is_some (number_of b seen) ≡ p → (r : Bool) → is_some (number_of b seen) ≡ r
        → Agree (cond r started (started ++ b ∷ []))
        (cond p seen (insert_entry (slice_cmp nat_cmp) seen b (length seen)))
    go true e true f = h
    go true e false f = cc (e, f)
    go false e true f = cc (e, f)
    go false e false f = added (none_of (number_of b seen) e)

-- ---- whole histories

started-append : (started : List (List ℕ)) (xs ys : List PlainEvent)
    → started_after started (xs ++ ys) ≡ started_after (started_after started xs) ys
started-append started [] ys = refl
started-append started (x ∷ xs) ys = started-append (with_started (binary_of x.kind) started) xs ys

module _ (g : ChromeTraceGroupBy) where
  abbrev numbers : List PlainEvent → Numbers
  numbers events = binaries (after [] (history g events))

  numbers-push : (events : List PlainEvent) (event : PlainEvent)
      → numbers (events ++ event ∷ []) ≡ with_given (binary_of event.kind) (numbers events)
  numbers-push events event =
      ap binaries (past-push g events event) ∙ given g (numbers events) (numbers events) event.kind

  agree : (events : List PlainEvent) → Agree (started_binaries events) (numbers events)
  agree =
      of_each_history (λ events. Agree (started_binaries events) (numbers events))
      (record { many = refl; same = λ q. refl })
      (λ events event h.
      subst (λ seen. Agree (started_binaries (events ++ event ∷ [])) seen)
      (sym (numbers-push events event))
      (subst (λ started. Agree started (with_given (binary_of event.kind) (numbers events)))
      (sym (started-append [] events (event ∷ [])))
      (agree-step (binary_of event.kind) (started_binaries events) (numbers events) h)))

  pub number-by_places : (b : List ℕ) (events : List PlainEvent)
      → IsLastOr (number_told b) None events (number_of b (numbers events))
  number-by_places b =
      last_or (number_told b) None (λ events. number_of b (numbers events)) refl each
    where
      each : (events : List PlainEvent) (event : PlainEvent)
          → number_of b (numbers (events ++ event ∷ []))
          ≡ unwrap_or (number_told b events event) (number_of b (numbers events))
      each events event =
          ap (number_of b) (numbers-push events event)
          ∙ step (binary_of event.kind) (started_binaries events) (numbers events) (agree events)
        where
          step : (o : Option (List ℕ)) (started : List (List ℕ)) (seen : Numbers)
              → Agree started seen
              → number_of b (with_given o seen) ≡ unwrap_or (only
              (is_binary b o && not (list_any (λ c. bytes_eq b c) started)) (Some (length started)))
              (number_of b seen)
          step None started seen h = refl
          step (Some c) started seen h = go (is_some (number_of c seen)) refl (bytes_eq b c) refl
            where
              go : (p : Bool) → is_some (number_of c seen) ≡ p → (r : Bool) → bytes_eq b c ≡ r
                  → number_of b
                  (cond p seen (insert_entry (slice_cmp nat_cmp) seen c (length seen)))
                  ≡ unwrap_or
                  (only (r && not (list_any (λ d. bytes_eq b d) started)) (Some (length started)))
                  (number_of b seen)
              go p e true f = same p e ((bytes_eq-Decides b c).0 f)
                where
                  same : (p : Bool) → is_some (number_of c seen) ≡ p → b ≡ c
                      → number_of b
                      (cond p seen (insert_entry (slice_cmp nat_cmp) seen c (length seen)))
                      ≡ unwrap_or
                      (only (not (list_any (λ d. bytes_eq b d) started)) (Some (length started)))
                      (number_of b seen)
                  same true e is =
                      let there : list_any (λ d. bytes_eq b d) started ≡ true =
                      sym (h.same b) ∙ ap (λ d. is_some (number_of d seen)) is ∙ e in
                      rw there refl
                  same false e is =
                      let none : list_any (λ d. bytes_eq b d) started ≡ false =
                      sym (h.same b) ∙ ap (λ d. is_some (number_of d seen)) is ∙ e in
                      number-insert b c (length seen) seen (none_of (number_of c seen) e)
                      ∙ rw (f, none, h.many) refl
              go true e false f = refl
              go false e false f =
                  number-insert b c (length seen) seen (none_of (number_of c seen) e) ∙ rw f refl
