-- The pids of fewer than 2^63 events are numbers of 64 bits: that of a binary is 2 and at most the
-- number of events before it.
use Rattle.std.proofs.Common.{◌≡◌, ◌≤◌, ◌<◌, ◌+◌, ◌^◌, ℕ, suc, Bool, true, false, cond, List, []}
use Rattle.std.proofs.Common.{◌∷◌, length, bytes_eq, Some, nat_lt, is_some, refl, arith, lt-ltb}
use Rattle.std.specs.BTreeMap.{insert_entry}
use Rattle.std.specs.Cmp.Lexicographic.{slice_cmp}
use Rattle.std.specs.declared.cmp.Ordering.TheVariants.{Less, Equal, Greater}
use Rattle.std.specs.declared.cmp.Ordering.{Ordering}
use Rattle.std.specs.Option.{unwrap_or}
use Rattle.std.specs.Ordering.{nat_cmp, match_ordering}
use Rattle.rec_spans.specs.Acts.Act.{RunStarts, SubRunStarts, ScriptStarts, AttemptStarts}
use Rattle.rec_spans.specs.Acts.{Act, act_of}
use Rattle.rec_spans.specs.declared.settings.ChromeTraceGroupBy.TheVariants.{Binary, Slot}
use Rattle.rec_spans.specs.declared.settings.ChromeTraceGroupBy.{ChromeTraceGroupBy}
use Rattle.rec_spans.specs.declared.spans.SpanKey.TheVariants.{Run, SubRun, Script, Test}
use Rattle.rec_spans.specs.declared.spans.SpanKey.{SpanKey}
use Rattle.rec_spans.specs.Kinds.{change_of, history, history_after, trace_input}
use Rattle.rec_spans.specs.Past.Change.{Start, Stop, Pause, Resume, Other}
use Rattle.rec_spans.specs.Past.{Change, TraceInput, binaries, binaries_after}
use Rattle.rec_spans.specs.Past.{number_of, with_binary, with_key}
use Rattle.rec_spans.specs.Plain.{PlainEvent}

-- ---- numbers of binaries

-- all these numbers are at most n
abbrev pub AllWithin : ℕ → List (List ℕ × ℕ) → Type 0
AllWithin n [] = Unit {0}
AllWithin n (x ∷ seen) = (x.1 ≤ n) × AllWithin n seen

-- there are at most n binaries, with numbers of at most n
abbrev pub AreWithin : ℕ → List (List ℕ × ℕ) → Type 0
AreWithin n seen = (length seen ≤ n) × AllWithin n seen

within-suc : (n : ℕ) (seen : List (List ℕ × ℕ)) → AllWithin n seen → AllWithin (suc n) seen
within-suc n [] all = tt
within-suc n (x ∷ seen) all = ((let le = all.0 in omega arith), within-suc n seen all.1)

within-insert : (n : ℕ) (seen : List (List ℕ × ℕ)) (b : List ℕ) (v : ℕ) → v ≤ n → AllWithin n seen
    → AllWithin n (insert_entry (slice_cmp nat_cmp) seen b v)
within-insert n [] b v le all = (le, tt)
within-insert n (x ∷ seen) b v le all =
    go (slice_cmp nat_cmp b x.0) (within-insert n seen b v le all.1)
  where
    go : (o : Ordering) → AllWithin n (insert_entry (slice_cmp nat_cmp) seen b v)
        → AllWithin n (match_ordering o ((b, v) ∷ x ∷ seen) ((x.0, v) ∷ seen)
        (x ∷ insert_entry (slice_cmp nat_cmp) seen b v))
    go Less ih = (le, all)
    go Equal ih = (le, all.1)
    go Greater ih = (all.0, ih)

length-insert : (seen : List (List ℕ × ℕ)) (b : List ℕ) (v : ℕ)
    → length (insert_entry (slice_cmp nat_cmp) seen b v) ≤ suc (length seen)
length-insert [] b v = omega arith
length-insert (x ∷ seen) b v = go (slice_cmp nat_cmp b x.0) (length-insert seen b v)
  where
    go : (o : Ordering) → length (insert_entry (slice_cmp nat_cmp) seen b v) ≤ suc (length seen) →
        length (match_ordering o ((b, v) ∷ x ∷ seen) ((x.0, v) ∷ seen)
        (x ∷ insert_entry (slice_cmp nat_cmp) seen b v))
        ≤ suc (suc (length seen))
    go Less ih = omega arith
    go Equal ih = omega arith
    go Greater ih = omega arith

within-with_binary : (n : ℕ) (b : List ℕ) (seen : List (List ℕ × ℕ)) → AreWithin n seen
    → AreWithin (suc n) (with_binary b seen)
within-with_binary n b seen (few, all) =
    go (is_some (number_of b seen)) (length-insert seen b (length seen))
  where
    go : (known : Bool)
        → length (insert_entry (slice_cmp nat_cmp) seen b (length seen)) ≤ suc (length seen)
        → AreWithin (suc n)
        (cond known seen (insert_entry (slice_cmp nat_cmp) seen b (length seen)))
    go true le = (omega arith, within-suc n seen all)
    go false le = (
      omega arith,
      within-insert (suc n) seen b (length seen) (omega arith) (within-suc n seen all),
    )

within-with_key : (n : ℕ) (k : SpanKey) (seen : List (List ℕ × ℕ)) → AreWithin n seen
    → AreWithin (suc n) (with_key k seen)
within-with_key n Run seen (few, all) = (omega arith, within-suc n seen all)
within-with_key n SubRun seen (few, all) = (omega arith, within-suc n seen all)
within-with_key n (Script index) seen (few, all) = (omega arith, within-suc n seen all)
within-with_key n (Test test) seen within = within-with_binary n test.binary_id seen within

within-after : (n : ℕ) (c : Change) (seen : List (List ℕ × ℕ)) → AreWithin n seen
    → AreWithin (suc n) (binaries_after c seen)
within-after n (Start s) seen within = within-with_key n s.key seen within
within-after n (Stop k) seen (few, all) = (omega arith, within-suc n seen all)
within-after n Pause seen (few, all) = (omega arith, within-suc n seen all)
within-after n Resume seen (few, all) = (omega arith, within-suc n seen all)
within-after n Other seen (few, all) = (omega arith, within-suc n seen all)

-- after n events there are at most n binaries, with numbers of at most n
pub binaries-within : (past : List TraceInput) → AreWithin (length past) (binaries past)
binaries-within [] = (omega arith, tt)
binaries-within (input ∷ past) =
    within-after (length past) input.change (binaries past) (binaries-within past)

number-within : (n : ℕ) (b : List ℕ) (seen : List (List ℕ × ℕ)) (d : ℕ) → d ≤ n → AllWithin n seen
    → unwrap_or (number_of b seen) d ≤ n
number-within n b [] d le all = le
number-within n b (x ∷ seen) d le all = go (bytes_eq b x.0) (number-within n b seen d le all.1)
  where
    go : (found : Bool) → unwrap_or (number_of b seen) d ≤ n
        → unwrap_or (cond found (Some x.1) (number_of b seen)) d ≤ n
    go true ih = all.0
    go false ih = ih

-- ---- pids

-- the pid of what a change starts is below 2^64
abbrev pub PidFits : Change → Type 0
PidFits (Start s) = nat_lt s.row.pid (2 ^ 64) ≡ true
PidFits (Stop k) = Unit {0}
PidFits Pause = Unit {0}
PidFits Resume = Unit {0}
PidFits Other = Unit {0}

-- the pids of what these events start are
abbrev pub PidsFit : List TraceInput → Type 0
PidsFit [] = Unit {0}
PidsFit (input ∷ history) = PidFits input.change × PidsFit history

pid-fits : (n : ℕ) (g : ChromeTraceGroupBy) (seen : List (List ℕ × ℕ)) (act : Act) → n < 2 ^ 63
    → AreWithin n seen → PidFits (change_of g seen act)
pid-fits n g seen RunStarts lt within = refl
pid-fits n g seen SubRunStarts lt within = refl
pid-fits n g seen (ScriptStarts index id) lt within = refl
pid-fits n Slot seen (AttemptStarts test slot) lt within = refl
pid-fits n Binary seen (AttemptStarts test slot) lt within =
    let le = number-within n test.binary_id seen (length seen) within.0 within.1 in
    lt-ltb (2 + unwrap_or (number_of test.binary_id seen) (length seen)) (2 ^ 64) (omega arith)
pid-fits n g seen _ lt within = tt

-- the pids of events fit where these and those before them are fewer than 2^63
pub pids-fit_after : (g : ChromeTraceGroupBy) (past : List TraceInput) (events : List PlainEvent)
    → length past + length events < 2 ^ 63 → PidsFit (history_after g past events)
pids-fit_after g past [] lt = tt
pids-fit_after g past (event ∷ events) lt = (
  pid-fits (length past) g (binaries past) (act_of event.kind) (omega arith) (binaries-within past),
  pids-fit_after g (trace_input g (binaries past) event ∷ past) events (omega arith),
)

pub pids-fit : (g : ChromeTraceGroupBy) (events : List PlainEvent) → length events < 2 ^ 63
    → PidsFit (history g events)
pids-fit g events lt = pids-fit_after g [] events (omega arith)
