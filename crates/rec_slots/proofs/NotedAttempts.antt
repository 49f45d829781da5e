-- What is noted of attempts after an event.
use Rattle.std.proofs.Common.{◌≡◌, ◌↔◌, ◌<◌, inl, inr, ℕ, zero, suc, Bool, true}
use Rattle.std.proofs.Common.{false, ◌&&◌, List, [], ◌∷◌, ◌++◌, length, Option}
use Rattle.std.proofs.Common.{Some, None, refl, sym, ◌∙◌, ap, subst, arith}
use Rattle.std.proofs.lemmas.Bool.Decides.{nat_tests}
use Rattle.std.proofs.lemmas.Bool.{false≢true}
use Rattle.std.proofs.lemmas.List.{append-nil}
use Rattle.std.specs.BTreeMap.{get, is_at}
use Rattle.std.specs.BTreeSet.{BTreeSet, IsLowerBound, btree_set_len, contains}
use Rattle.std.specs.List.{list_any}
use Rattle.std.specs.Ordering.{is_gt, nat_cmp}
use Rattle.std.specs.Prelude.{IfSome, IsSome, IsTrue, if◌then◌else◌}
use Rattle.rec_spans.specs.declared.settings.ChromeTraceGroupBy.TheVariants.{Slot}
use Rattle.rec_spans.specs.Kinds.{history}
use Rattle.rec_spans.specs.Plain.{PlainEvent}
use Rattle.rec_slots.proofs.Histories.{length-history}
use Rattle.rec_slots.proofs.OpenAttempts.{AreOpen, AreStarts, begun-is, no-prefix, none-open}
use Rattle.rec_slots.proofs.OpenAttempts.{on-before, open-cut, open-put, open-same, starts-cut}
use Rattle.rec_slots.proofs.OpenAttempts.{starts-kept, starts-outside, starts-put, starts-same}
use Rattle.rec_slots.specs.Beats.{Does, IsBeat, IsNoAttempt, changed_run, marks_before}
use Rattle.rec_slots.specs.declared.attempts.Attempts.{Attempts}
use Rattle.rec_slots.specs.declared.beats.Beat.{Beat}
use Rattle.rec_slots.specs.declared.beats.Change.TheVariants as changes
use Rattle.rec_slots.specs.declared.beats.Change.{Change}
use Rattle.rec_slots.specs.Runs.RunMark.{Begin}
use Rattle.rec_slots.specs.Runs.{RunMark, is_begun, is_running}
use Rattle.rec_slots.specs.Walked.{EndsOnSlot, FindsFirst, HasNoted, StartsOn, without}

module _ (events : List PlainEvent) (n : ℕ) where
  -- nothing of a run comes with the event
  same-marks : (c : Change) → changed_run c ≡ []
      → marks_before events (suc n) ≡ marks_before events n ++ changed_run c
      → marks_before events (suc n) ≡ marks_before events n
  same-marks c none is =
      is ∙ ap (λ l. marks_before events n ++ l) none ∙ append-nil (marks_before events n)

  within-history : n < length events → n < length (history Slot events)
  within-history lt = subst (λ k. n < k) (sym (length-history [] events)) lt

  -- a run that hasn't started doesn't go on
  not-running : marks_before events n ≡ [] → is_running events n ≡ false
  not-running none = ap is_begun none

  pub noted-start : (beat : Beat) (running : Bool) (old new : Attempts) (slot : ℕ)
      → IsBeat events n beat → beat.change ≡ changes.Starts slot → running ≡ is_running events n
      → StartsOn beat.number slot running old new → HasNoted events n old
      → HasNoted events (suc n) new
  noted-start beat running old new slot is change goes_on puts has =
      let does : Does events n (changes.Starts slot) = subst (Does events n) change is.does in
      let same = same-marks (changes.Starts slot) refl
      (is.marks ∙ ap (λ c. marks_before events n ++ changed_run c) change) in
      let le = within-history is.within in
      let span = does.1 in
      let starts =
      starts-put events n le slot does.0 span.0 span.1 span.2 does.2 old.starts new.starts
      (λ i. puts.starts i
      ∙ ap (λ k. if is_at (nat_cmp k) i then true else contains nat_cmp old.starts i) is.numbered)
      (has.none, has.starts) in
      record {
        none = starts.0;
        starts = starts.1;
        before =
            λ none slot'. puts.on_slot slot'
            ∙ ap (λ b. if b && is_at (nat_cmp slot) slot' then Some beat.number
            else get nat_cmp old.running slot')
            (goes_on ∙ not-running (sym same ∙ none))
            ∙ has.before (sym same ∙ none) slot';
        running = λ begun.
            let on : is_running events n ≡ true = ap is_begun (sym same ∙ begun) in
            open-put events n le slot does.0 span.0 span.1 span.2 does.2 old.running new.running on
            (λ p. puts.on_slot p ∙ ap (λ b. if b && is_at (nat_cmp slot) p then Some beat.number
            else get nat_cmp old.running p) (goes_on ∙ on)
            ∙ ap (λ k. if is_at (nat_cmp slot) p then Some k else get nat_cmp old.running p)
            is.numbered)
            (has.running (sym same ∙ begun));
      }

  pub noted-end : (beat : Beat) (running : Bool) (old new : Attempts) (slot : ℕ)
      → IsBeat events n beat → beat.change ≡ changes.Ends slot → running ≡ is_running events n
      → EndsOnSlot slot running old new → HasNoted events n old → HasNoted events (suc n) new
  noted-end beat true old new slot is change goes_on ends has =
      let does : Does events n (changes.Ends slot) = subst (Does events n) change is.does in
      let same = same-marks (changes.Ends slot) refl
      (is.marks ∙ ap (λ c. marks_before events n ++ changed_run c) change) in
      let le = within-history is.within in
      let begun : marks_before events n ≡ Begin ∷ [] =
      begun-is (marks_before events n) (sym goes_on) in
      let are = has.running begun in
      let starts = by does le are (get nat_cmp old.running slot) refl in
      record {
        none = starts.0;
        starts = starts.1;
        before = λ none. let both = sym begun ∙ sym same ∙ none in absurd cc;
        running =
            λ begun.
            open-cut events n le slot does.1 does.0 old.running new.running ends.on_slot are;
      }
    where
      by : Does events n (changes.Ends slot) → n < length (history Slot events)
          → AreOpen events n old.running → (o : Option ℕ) → get nat_cmp old.running slot ≡ o
          → AreStarts events (suc n) new.starts
      by does le are None e = let kept = starts-kept events n le slot does.1 does.0 old.starts
          old.running e are (has.none, has.starts) in
          moved old.starts new.starts
          (λ i. ends.starts i ∙ ap (λ o. without o i (contains nat_cmp old.starts i)) e) kept
        where
          moved : (s t : BTreeSet ℕ) → ((i : ℕ) → contains nat_cmp t i ≡ contains nat_cmp s i)
              → AreStarts events (suc n) s → AreStarts events (suc n) t
          moved s t same are = (
            same 0 ∙ are.0,
            (λ i. (
              (λ is. (are.1 i).0 (sym (same (suc i)) ∙ is)),
              (λ o. same (suc i) ∙ (are.1 i).1 o),
            )),
          )
      by does le are (Some e) is_open =
          starts-cut events n le slot does.1 does.0 old.starts new.starts old.running e
          (sym goes_on) is_open are
          (λ i. ends.starts i ∙ ap (λ o. without o i (contains nat_cmp old.starts i)) is_open)
          (has.none, has.starts)
  noted-end beat false old new slot is change goes_on ends has =
      let does : Does events n (changes.Ends slot) = subst (Does events n) change is.does in
      let same = same-marks (changes.Ends slot) refl
      (is.marks ∙ ap (λ c. marks_before events n ++ changed_run c) change) in
      let le = within-history is.within in
      let starts = starts-outside events n le slot does.1 does.0 old.starts (sym goes_on)
      (has.none, has.starts) in
      record {
        none = ends.starts 0 ∙ starts.0;
        starts = λ i. (
          (λ in_set. (starts.1 i).0 (sym (ends.starts (suc i)) ∙ in_set)),
          (λ o. ends.starts (suc i) ∙ (starts.1 i).1 o),
        );
        before = λ none p. ends.on_slot p ∙ has.before (sym same ∙ none) p;
        running = λ begun. absurd (false≢true (goes_on ∙ ap is_begun (sym same ∙ begun)));
      }

  noted-quiet : (a : Attempts) (c : Change) → IsNoAttempt events n
      → marks_before events (suc n) ≡ marks_before events n ++ changed_run c → n < length events
      → HasNoted events n a → HasNoted events (suc n) a
  noted-quiet a c quiet marks within has =
      let le = within-history within in
      let starts = starts-same events n le quiet a.starts (has.none, has.starts) in
      record {
        none = starts.0;
        starts = starts.1;
        before =
            λ none.
            has.before (no-prefix (marks_before events n) (changed_run c) (sym marks ∙ none));
        running =
            λ begun. elim (on-before (marks_before events n) (changed_run c) (sym marks ∙ begun)) [
              | inl on ↦ open-same events n le quiet a.running (has.running on.0)
              | inr off ↦ none-open events n a.running off.0 (has.before off.0)
            ];
      }

  -- nothing is noted of an event that starts and ends no attempt
  pub noted-same : (beat : Beat) (a : Attempts) → IsBeat events n beat → IsNoAttempt events n
      → HasNoted events n a → HasNoted events (suc n) a
  noted-same beat a is quiet has = noted-quiet a beat.change quiet is.marks is.within has

  no-attempt : (c : Change) → Does events n c → ((slot : ℕ) → c ≡ changes.Starts slot → ⊥)
      → ((slot : ℕ) → c ≡ changes.Ends slot → ⊥) → IsNoAttempt events n
  no-attempt changes.RunStarts does no_start no_end = does.0
  no-attempt changes.RunEnds does no_start no_end = does.0
  no-attempt (changes.Starts slot) does no_start no_end = absurd (no_start slot refl)
  no-attempt (changes.Ends slot) does no_start no_end = absurd (no_end slot refl)
  no-attempt changes.Nothing does no_start no_end = does

  -- nothing is noted of an event that is neither
  pub noted-neither : (beat : Beat) (a : Attempts)
      → ((slot : ℕ) → beat.change ≡ changes.Starts slot → ⊥)
      → ((slot : ℕ) → beat.change ≡ changes.Ends slot → ⊥) → IsBeat events n beat
      → HasNoted events n a → HasNoted events (suc n) a
  noted-neither beat a no_start no_end is has =
      noted-same beat a is (no-attempt beat.change is.does no_start no_end) has

  -- the first of the starts that are noted
  pub first-found : (a : Attempts) (o : Option ℕ) → HasNoted events n a
      → (IsSome o ↔ (0 < btree_set_len a.starts))
      → IfSome o (λ k. IsTrue (contains nat_cmp a.starts k))
      → IfSome o (λ k. IsLowerBound nat_cmp a.starts k) → FindsFirst events n o
  first-found a None has some member least =
      λ i outside. absurd (false≢true (some.1 (filled i a.starts.keys ((has.starts i).1 outside))))
    where
      filled : (i : ℕ) (ks : List ℕ) → list_any (is_at (nat_cmp (suc i))) ks ≡ true → 0 < length ks
      filled i [] e = cc
      filled i (k ∷ ks) e = omega arith
  first-found a (Some zero) has some member least = absurd (false≢true (sym has.none ∙ member))
  first-found a (Some (suc i)) has some member least = (
    i,
    refl,
    record {
      holds = (has.starts i).0 (member);
      none = λ k lt outside. above k lt (least (suc k) (((has.starts k).1 outside)));
    },
  )
    where
      above : (k : ℕ) → k < i → is_gt (nat_cmp (suc i) (suc k)) ≡ false → ⊥
      above k lt e = grind (arith, nat_tests, lt, e)
