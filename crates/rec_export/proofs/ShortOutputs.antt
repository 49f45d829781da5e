-- No output of an event is longer than the text that the event was read from.
use Rattle.std.proofs.Common.{◌≡◌, ℕ, ◌%◌, ◌==◌, ◌≤◌, Bool, true, false, ◌&&◌, nat_le, List}
use Rattle.std.proofs.Common.{[], ◌∷◌, ◌++◌, length, Option, Some, None, IfSome, Result, Ok}
use Rattle.std.proofs.Common.{Err, refl, sym, ap, subst, ◌∙◌, arith, if◌then◌else◌}
use Rattle.std.proofs.lemmas.Bool.Decides.{nat_tests}
use Rattle.std.proofs.lemmas.Bool.{and_parts}
use Rattle.std.specs.List.{AllByRecursion, flat_map}
use Rattle.std.specs.Option.{option_map, option_and_then}
use Rattle.std.specs.Prelude.{codes}
use Rattle.std.specs.Result.{result_ok}
use Rattle.std.specs.Str.{bytes_eq}
use Rattle.hex.proofs.HexLemmas.{decode_pairs-ok}
use Rattle.hex.specs.declared.error.FromHexError.TheVariants.{OddLength}
use Rattle.hex.specs.declared.error.FromHexError.{FromHexError}
use Rattle.hex.specs.Hex.{decode_pairs}
use Rattle.serde_json.specs.Data.{Data, null, boolean, number, string, array, object}
use Rattle.serde_json.specs.Data.{Items, no_items, item, Members, no_members, member}
use Rattle.serde_json.specs.Find.{as_str, get_member}
use Rattle.serde_json.specs.Read.{read}
use Rattle.rec_events.specs.declared.events.OutputEventKind.TheVariants.{
  SetupScriptFinished,
  TestAttemptFailedWillRetry,
  TestFinished,
}
use Rattle.rec_events.specs.declared.events.OutputEventKind.{OutputEventKind}
use Rattle.rec_events.specs.declared.events.TestEventKindSummary.TheVariants.{Core, Output}
use Rattle.rec_events.specs.declared.events.TestEventKindSummary.{TestEventKindSummary}
use Rattle.rec_events.specs.declared.outputs.ChildExecutionOutputDescription.TheVariants
    as execution
use Rattle.rec_events.specs.declared.outputs.ChildExecutionOutputDescription.{
  ChildExecutionOutputDescription,
}
use Rattle.rec_events.specs.declared.outputs.ChildOutputDescription.TheVariants.{
  Split,
  Combined,
  NotLoaded,
}
use Rattle.rec_events.specs.declared.outputs.ChildOutputDescription.{ChildOutputDescription}
use Rattle.rec_events.specs.declared.outputs.LiveSpec.{LiveSpec}
use Rattle.rec_events.specs.declared.statuses.ExecuteStatus.{ExecuteStatus}
use Rattle.rec_events.specs.EventMaps.{of_execution, of_kind, of_output_kind, of_status}
use Rattle.rec_forms.specs.GivesWellFormed.{Holds, GivesWellFormed}
use Rattle.rec_forms.specs.Lists.{each, list_form}
use Rattle.rec_forms.specs.Outputs.{output_bytes_form}
use Rattle.rec_forms.specs.Shape.{◌>>=◌, at_member, if_there, maybe, only, required}
use Rattle.rec_forms.specs.WellFormedLaws.{and_then_holds, anything, only_holds}
use Rattle.rec_codec.specs.Event.{LiveEvent, live_event_of}
use Rattle.rec_codec.specs.EventFormLaws.{event_well_formed}
use Rattle.rec_codec.specs.EventForms.{IsEvent, IsKind, event_form, kind_form, kind_named}
use Rattle.rec_codec.specs.Live.{live_combined_form, live_form, live_split_form}
use Rattle.rec_codec.specs.OutputKinds.{IsOutput, attempt_failed_form}
use Rattle.rec_codec.specs.OutputKinds.{script_finished_form, test_finished_form}
use Rattle.rec_codec.specs.ScriptStatus.{script_status_form}
use Rattle.rec_codec.specs.Status.{IsDescription, IsStatus, attempts_form, description_form}
use Rattle.rec_codec.specs.Status.{output_case_form, status_form, statuses_form}
use Rattle.rec_store.specs.Recordable.{captured_outputs, description_outputs, event_outputs}
use Rattle.rec_export.proofs.ShortTexts.{AllAtMost, AtMost, longer}
use Rattle.rec_export.proofs.ShortValues.{IsShort, AreShortItems, AreShortMembers}
use Rattle.rec_export.proofs.ShortValues.{member_short, read_short}

-- ---- forms that agree on values with short strings read the same there

then_same : {A B : Type 0} (o : Option A) (f g : A → Option B) → ((a : A) → f a ≡ g a)
    → (o >>= f) ≡ (o >>= g)
then_same None f g same = refl
then_same (Some a) f g same = same a

one_same : {X T : Type 0} (b : Bool) (f g : X → Option T) (fs gs : Option (X → Option T)) (x : X)
    → f x ≡ g x → (fs >>= λ k. k x) ≡ (gs >>= λ k. k x)
    → ((if b then Some f else fs) >>= λ k. k x) ≡ ((if b then Some g else gs) >>= λ k. k x)
one_same true f g fs gs x same later = same
one_same false f g fs gs x same later = later

module _ (n : ℕ) where
  -- two forms agree on these values
  abbrev Agree : {T : Type 0} → (Data → Option T) → (Data → Option T) → Type 0
  Agree form other = (d : Data) → IsShort n d → form d ≡ other d

  at_same : {T : Type 0} (form other : Data → Option T) → Agree form other → (o : Option Data)
      → IfSome o (IsShort n) → option_and_then form o ≡ option_and_then other o
  at_same form other same None h = refl
  at_same form other same (Some d) h = same d h

  required_same : {T : Type 0} (form other : Data → Option T) → Agree form other
      → (key : List ℕ) (ms : Members) → AreShortMembers n ms
      → required form key ms ≡ required other key ms
  required_same form other same key ms h =
      at_same form other same (get_member key ms) (member_short n key ms h)

  each_same : {T : Type 0} (form other : Data → Option T) → Agree form other → (ds : Items)
      → AreShortItems n ds → each form ds ≡ each other ds
  each_same form other same no_items h = refl
  each_same form other same (item d ds) h = rw (same d h.0, each_same form other same ds h.1)

  list_same : {T : Type 0} (form other : Data → Option T) → Agree form other
      → Agree (list_form form) (list_form other)
  list_same form other same null h = refl
  list_same form other same (boolean b) h = refl
  list_same form other same (number k) h = refl
  list_same form other same (string s) h = refl
  list_same form other same (array ds) h = each_same form other same ds h
  list_same form other same (object ms) h = refl

  -- the first of a table, where its forms agree
  first_same : {X T : Type 0} (b : Bool) (form other : X → Option T) (rest : Option (X → Option T))
      (x : X)
      → form x ≡ other x
      → option_and_then (λ f. f x) (if b then Some form else rest)
      ≡ option_and_then (λ f. f x) (if b then Some other else rest)
  first_same true form other rest x same = same
  first_same false form other rest x same = refl

  module _ {S O : Type 0} (form other : Data → Option O) (same : Agree form other) where
    output_case_same : Agree (output_case_form {S = S} form) (output_case_form {S = S} other)
    unfolding output_case_form
    output_case_same null h = refl
    output_case_same (boolean b) h = refl
    output_case_same (number k) h = refl
    output_case_same (string s) h = refl
    output_case_same (array ds) h = refl
    output_case_same (object ms) h = rw (required_same form other same (codes "output") ms h)

    description_same : Agree (description_form {S = S} form) (description_form {S = S} other)
    unfolding description_form
    description_same null h = refl
    description_same (boolean b) h = refl
    description_same (number k) h = refl
    description_same (string s) h = refl
    description_same (array ds) h = refl
    description_same (object no_members) h = refl
    description_same (object (member k d no_members)) h =
        first_same (bytes_eq k (codes "output")) (output_case_form form) (output_case_form other)
        _ d (output_case_same d h.0)
    description_same (object (member k d (member l e ms))) h = refl

    script_status_same : Agree (script_status_form {S = S} form) (script_status_form {S = S} other)
    unfolding script_status_form
    script_status_same null h = refl
    script_status_same (boolean b) h = refl
    script_status_same (number k) h = refl
    script_status_same (string s) h = refl
    script_status_same (array ds) h = refl
    script_status_same (object ms) h = rw (required_same _ _ description_same (codes "output") ms h)

    status_same : Agree (status_form {S = S} form) (status_form {S = S} other)
    unfolding status_form
    status_same null h = refl
    status_same (boolean b) h = refl
    status_same (number k) h = refl
    status_same (string s) h = refl
    status_same (array ds) h = refl
    status_same (object ms) h = rw (required_same _ _ description_same (codes "output") ms h)

    attempts_same : Agree (attempts_form {S = S} form) (attempts_form {S = S} other)
    unfolding attempts_form
    attempts_same d h = rw (list_same _ _ status_same d h)

    statuses_same : Agree (statuses_form {S = S} form) (statuses_form {S = S} other)
    unfolding statuses_form
    statuses_same null h = refl
    statuses_same (boolean b) h = refl
    statuses_same (number k) h = refl
    statuses_same (string s) h = refl
    statuses_same (array ds) h = refl
    statuses_same (object ms) h = rw (required_same _ _ attempts_same (codes "statuses") ms h)

    script_finished_same : (ms : Members) → AreShortMembers n ms
        → script_finished_form {S = S} form ms ≡ script_finished_form {S = S} other ms
    unfolding script_finished_form
    script_finished_same ms h = rw (required_same _ _ script_status_same (codes "run-status") ms h)

    attempt_failed_same : (ms : Members) → AreShortMembers n ms
        → attempt_failed_form {S = S} form ms ≡ attempt_failed_form {S = S} other ms
    unfolding attempt_failed_form
    attempt_failed_same ms h = rw (required_same _ _ status_same (codes "run-status") ms h)

    test_finished_same : (ms : Members) → AreShortMembers n ms
        → test_finished_form {S = S} form ms ≡ test_finished_form {S = S} other ms
    unfolding test_finished_form
    test_finished_same ms h = rw (required_same _ _ statuses_same (codes "run-statuses") ms h)

    as_output : (o p : Option (OutputEventKind S O)) → o ≡ p
        → (o >>= λ k. Some (Output k)) ≡ (p >>= λ k. Some (Output k))
    as_output o p e = ap (λ (q : Option (OutputEventKind S O)). q >>= λ k. Some (Output k)) e

    kind_named_same : (name : List ℕ) (ms : Members) → AreShortMembers n ms
        → kind_named {S = S} form name ms ≡ kind_named {S = S} other name ms
    unfolding kind_named
    kind_named_same name ms h =
        one_same (bytes_eq name (codes "setup-script-finished")) _ _ _ _ ms
        (as_output _ _ (script_finished_same ms h))
        (one_same (bytes_eq name (codes "test-attempt-failed-will-retry")) _ _ _ _ ms
        (as_output _ _ (attempt_failed_same ms h))
        (one_same (bytes_eq name (codes "test-finished")) _ _ _ _ ms
        (as_output _ _ (test_finished_same ms h)) refl))

    kind_same : (ms : Members) → AreShortMembers n ms
        → kind_form {S = S} form ms ≡ kind_form {S = S} other ms
    unfolding kind_form
    kind_same ms h =
        then_same (required as_str (codes "kind") ms) _ _ (λ name. kind_named_same name ms h)

    event_same : Agree (event_form {S = S} form) (event_form {S = S} other)
    unfolding event_form
    event_same null h = refl
    event_same (boolean b) h = refl
    event_same (number k) h = refl
    event_same (string s) h = refl
    event_same (array ds) h = refl
    event_same (object ms) h = rw (kind_same ms h)

-- ---- an output is half as long as its digits

pairs_short : (s : List ℕ) (r : Result (List ℕ) FromHexError) → decode_pairs 0 s ≡ r
    → AtMost (length s) (result_ok r)
pairs_short s (Ok b) e = let half = (decode_pairs-ok 0 s b e).1 in omega (arith, half)
pairs_short s (Err e) h = tt

decoded_short : (s : List ℕ) (odd : Bool)
    → AtMost (length s) (result_ok (if odd then Err OddLength else decode_pairs 0 s))
decoded_short s true = tt
decoded_short s false = pairs_short s (decode_pairs 0 s) refl

module _ (n : ℕ) where
  bytes_short : (d : Data) → IsShort n d → AtMost n (output_bytes_form d)
  unfolding output_bytes_form
  bytes_short null h = tt
  bytes_short (boolean b) h = tt
  bytes_short (number k) h = tt
  bytes_short (string s) h = longer n (length s) _ (decoded_short s (length s % 2 == 1)) h
  bytes_short (array ds) h = tt
  bytes_short (object ms) h = tt

  -- ---- an output that is read of short strings is short

  -- the captured parts of an output are short
  abbrev is_short_part : Option (List ℕ) → Bool
  is_short_part None = true
  is_short_part (Some b) = nat_le (length b) n

  abbrev is_short_output : ChildOutputDescription → Bool
  is_short_output (Split out err) = is_short_part out && is_short_part err
  is_short_output (Combined both) = nat_le (length both) n
  is_short_output NotLoaded = true

  abbrev IsShortOutput : ChildOutputDescription → Type 0
  IsShortOutput o = is_short_output o ≡ true

  length_tested : (b : List ℕ) → length b ≤ n → nat_le (length b) n ≡ true
  length_tested b h = grind (arith, nat_tests, h)

  tested_length : (b : List ℕ) → nat_le (length b) n ≡ true → length b ≤ n
  tested_length b h = grind (arith, nat_tests, h)

  part_tested : (o : Option (List ℕ)) → AtMost n o → is_short_part o ≡ true
  part_tested None h = refl
  part_tested (Some b) h = length_tested b h

  some_short : (o : Option (List ℕ)) → AtMost n o → IfSome (option_map Some o) (AtMost n)
  some_short None h = tt
  some_short (Some b) h = h

  there_short : (d : Data) → IsShort n d → IfSome (if_there output_bytes_form d) (AtMost n)
  there_short null h = tt
  there_short (boolean b) h = some_short _ (bytes_short (boolean b) h)
  there_short (number k) h = some_short _ (bytes_short (number k) h)
  there_short (string s) h = some_short _ (bytes_short (string s) h)
  there_short (array ds) h = some_short _ (bytes_short (array ds) h)
  there_short (object ms) h = some_short _ (bytes_short (object ms) h)

  at_short : (o : Option Data) → IfSome o (IsShort n)
      → IfSome (at_member (if_there output_bytes_form) o) (AtMost n)
  at_short None h = tt
  at_short (Some d) h = there_short d h

  maybe_short : (key : List ℕ) (ms : Members) → AreShortMembers n ms
      → IfSome (maybe output_bytes_form key ms) (AtMost n)
  maybe_short key ms h = at_short (get_member key ms) (member_short n key ms h)

  both_short : (o p : Option (Option (List ℕ))) → IfSome o (AtMost n) → IfSome p (AtMost n)
      → IfSome (o >>= λ out. p >>= λ err. Some (Split out err)) IsShortOutput
  both_short None p h k = tt
  both_short (Some out) None h k = tt
  both_short (Some out) (Some err) h k = rw (part_tested out h, part_tested err k)

  split_short : (d : Data) → IsShort n d → IfSome (live_split_form d) IsShortOutput
  unfolding live_split_form
  split_short null h = tt
  split_short (boolean b) h = tt
  split_short (number k) h = tt
  split_short (string s) h = tt
  split_short (array ds) h = tt
  split_short (object ms) h =
      both_short _ _ (maybe_short (codes "stdout") ms h) (maybe_short (codes "stderr") ms h)

  combined_short : (o : Option (List ℕ)) → AtMost n o → IfSome (option_map Combined o) IsShortOutput
  combined_short None h = tt
  combined_short (Some b) h = length_tested b h

  one_of : (b c : Bool) (f g : Data → Option ChildOutputDescription) (d : Data)
      → IfSome (f d) IsShortOutput → IfSome (g d) IsShortOutput
      → IfSome (option_and_then (λ k. k d) (if b then Some f else if c then Some g else None))
      IsShortOutput
  one_of true c f g d h k = h
  one_of false true f g d h k = k
  one_of false false f g d h k = tt

  live_short : (d : Data) → IsShort n d → IfSome (live_form d) IsShortOutput
  unfolding live_form
  live_short null h = tt
  live_short (boolean b) h = tt
  live_short (number k) h = tt
  live_short (string s) h = tt
  live_short (array ds) h = tt
  live_short (object no_members) h = tt
  live_short (object (member k d no_members)) h =
      one_of (bytes_eq k (codes "split")) (bytes_eq k (codes "combined"))
      live_split_form live_combined_form d (split_short d h.0)
      (combined_short (output_bytes_form d) (bytes_short d h.0))
  live_short (object (member k d (member l e ms))) h = tt

  -- ---- so it is read as by a form that gives short outputs alone

  abbrev short_form : Data → Option ChildOutputDescription
  short_form d = option_and_then (λ o. only (is_short_output o) o) (live_form d)

  kept : (o : Option ChildOutputDescription) → IfSome o IsShortOutput
      → o ≡ option_and_then (λ o. only (is_short_output o) o) o
  kept None h = refl
  kept (Some o) h = rw h

  short_gives : GivesWellFormed IsShortOutput short_form
  short_gives = record {
    each =
        λ d. and_then_holds (λ o. only (is_short_output o) o) (live_form d) (anything (live_form d))
        (λ o _. only_holds (is_short_output o) o (λ e. e));
  }

  held : {T : Type 0} (P : T → Type 0) (o : Option T) (x : T) → o ≡ Some x → Holds P o → P x
  held P o x e h = let Q : Option _ → Type 0 = λ v. IfSome v P in subst Q e h.is

  value_short : (d : Data) (e : LiveEvent) → IsShort n d → event_form live_form d ≡ Some e
      → IsEvent {S = LiveSpec} IsShortOutput e
  value_short d e h is =
      held (IsEvent IsShortOutput) (event_form short_form d) e (sym (event_same n {S = LiveSpec}
      live_form short_form (λ d h. kept (live_form d) (live_short d h)) d h) ∙ is)
      ((event_well_formed {S = LiveSpec} IsShortOutput short_form short_gives).each d)

  -- ---- the outputs of an event one by one

  joined : (bs cs : List (List ℕ)) → AllAtMost n bs → AllAtMost n cs → AllAtMost n (bs ++ cs)
  joined [] cs h k = k
  joined (b ∷ bs) cs h k = (h.0, joined bs cs h.1 k)

  captured : (o : Option (List ℕ)) → is_short_part o ≡ true → AllAtMost n (captured_outputs o)
  captured None h = tt
  captured (Some b) h = (tested_length b h, tt)

  described : (o : ChildOutputDescription) → IsShortOutput o → AllAtMost n (description_outputs o)
  described (Split out err) h =
      let parts = and_parts (is_short_part out) (is_short_part err) h in
      joined (captured_outputs out) (captured_outputs err) (captured out parts.0)
      (captured err parts.1)
  described (Combined both) h = (tested_length both h, tt)
  described NotLoaded h = tt

  executed : (d : ChildExecutionOutputDescription LiveSpec ChildOutputDescription)
      → IsDescription IsShortOutput d → AllAtMost n (of_execution description_outputs d)
  executed (execution.Output result output errors) h = described output h.1
  executed (execution.StartError message) h = tt

  attempted : (ss : List (ExecuteStatus LiveSpec ChildOutputDescription))
      → AllByRecursion (IsStatus IsShortOutput) ss
      → AllAtMost n (flat_map (of_status description_outputs) ss)
  attempted [] h = tt
  attempted (s ∷ ss) h =
      joined (of_status description_outputs s) (flat_map (of_status description_outputs) ss)
      (executed s.output h.0.output) (attempted ss h.1)

  of_output : (k : OutputEventKind LiveSpec ChildOutputDescription) → IsOutput IsShortOutput k
      → AllAtMost n (of_output_kind description_outputs k)
  of_output
      (SetupScriptFinished stress_index index total script_id program args no_capture run_status)
      h =
      executed run_status.output h.6.output
  of_output (TestAttemptFailedWillRetry stress_index test_instance run_status delay failure_output
      running) h = executed run_status.output h.2.output
  of_output (TestFinished stress_index test_instance success failure store_success store_failure
      flaky run_statuses stats running) h = attempted run_statuses.statuses h.2.statuses

  of_any : (k : TestEventKindSummary LiveSpec ChildOutputDescription) → IsKind IsShortOutput k
      → AllAtMost n (of_kind description_outputs k)
  of_any (Core kind) h = tt
  of_any (Output kind) h = of_output kind h

  read_outputs : (v : Option Data) (e : LiveEvent) → IfSome v (IsShort n)
      → option_and_then (event_form live_form) v ≡ Some e → AllAtMost n (event_outputs e)
  read_outputs None e h is = absurd cc
  read_outputs (Some d) e h is = of_any e.kind (value_short d e h is).kind

pub outputs_short : (text : List ℕ) (e : LiveEvent) → live_event_of text ≡ Some e
    → AllAtMost (length text) (event_outputs e)
unfolding live_event_of
outputs_short text e is = read_outputs (length text) (read text) e (read_short text) is
