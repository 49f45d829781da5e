-- How many events a session has.
use Rattle.std.proofs.Common.{◌≡◌, ℕ, zero, suc, ◌+◌, ◌*◌, ◌/◌, ◌%◌, ◌==◌, min}
use Rattle.std.proofs.Common.{Bool, true, false, if◌then◌else◌, List, [], ◌∷◌}
use Rattle.std.proofs.Common.{◌++◌, length, length-append, subst, refl, arith}
use Rattle.std.proofs.lemmas.Bool.Decides.{nat_tests}
use Rattle.std.proofs.lemmas.List.FromFn.{length-map-range_with_len}
use Rattle.rec_codec.specs.Event.{LiveEvent}
use Rattle.rec_sample.proofs.EventLines.{batches_more}
use Rattle.rec_sample.specs.Batches.{batch_size, batch_count, has_pause}
use Rattle.rec_sample.specs.Events.{test_started_event, test_finished_event}
use Rattle.rec_sample.specs.Events.{test_starts, pause, test_ends, batch_events}
use Rattle.rec_sample.specs.Events.{batches_events, run_finished_event, sample_events}

length-if : (b : Bool) (xs ys : List LiveEvent)
    → length (if b then xs else ys) ≡ (if b then length xs else length ys)
length-if true xs ys = refl
length-if false xs ys = refl

-- a pause in every tenth batch
pause_count : (b : ℕ) → 2 * (b / 10) + (if b % 10 == 9 then 2 else 0) ≡ 2 * ((b + 1) / 10)
pause_count b = grind (arith, nat_tests)

batch_count_of : (n b : ℕ)
    → length (batch_events n b) ≡ 2 * batch_size n b + (if b % 10 == 9 then 2 else 0)
unfolding batch_events
batch_count_of n b =
    let starts : length (test_starts n b) ≡ batch_size n b =
    length-map-range_with_len (test_started_event n) (8 * b) (batch_size n b) in
    let ends : length (test_ends n b) ≡ batch_size n b =
    length-map-range_with_len (test_finished_event n) (8 * b) (batch_size n b) in
    let between : length (pause n b) ≡ (if b % 10 == 9 then 2 else 0) =
    length-if (has_pause b) _ _ in
    rw (
      length-append (test_starts n b) (pause n b ++ test_ends n b),
      length-append (pause n b) (test_ends n b),
      starts,
      ends,
      between,
    ) (omega arith)

-- those of the first batches
abbrev Counts : ℕ → ℕ → Type 0
Counts n k = length (batches_events n k) ≡ 2 * min n (8 * k) + 2 * (k / 10)

counts_more : (n k : ℕ) → Counts n k → Counts n (k + 1)
counts_more n k h =
    let pauses = pause_count k in
    rw
    (batches_more n k, length-append (batches_events n k) (batch_events n k), h, batch_count_of n k)
    (omega arith)

batches_count : (n k : ℕ) → Counts n k
batches_count n zero = omega arith
batches_count n (suc k) =
    let next : k + 1 ≡ suc k = omega arith in
    subst (Counts n) next (counts_more n k (batches_count n k))

pub event_count : (n : ℕ) → length (sample_events n) ≡ 2 + 2 * n + 2 * (batch_count n / 10)
event_count n =
    let all = batches_count n (batch_count n) in
    rw (length-append (batches_events n (batch_count n)) (run_finished_event n ∷ []), all)
    (omega arith)
