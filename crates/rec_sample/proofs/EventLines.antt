-- The lines of a session's events, one or a batch longer.
use Rattle.std.proofs.Common.{◌≡◌, ℕ, ◌+◌, List, ◌∷◌, ◌++◌, map, refl, ◌∙◌, append_assoc, arith}
use Rattle.std.proofs.lemmas.Grind.{flat_map-append}
use Rattle.std.proofs.lemmas.List.FromFn.{map-range_with_len_more}
use Rattle.std.proofs.lemmas.List.{append-nil, flat_map_more}
use Rattle.std.specs.List.{range_with_len}
use Rattle.rec_codec.specs.Event.{LiveEvent}
use Rattle.rec_sample.proofs.Ranges.{flat_map-range_more}
use Rattle.rec_sample.specs.Batches.{batch_count}
use Rattle.rec_sample.specs.Events.{run_started_event, run_finished_event, test_starts}
use Rattle.rec_sample.specs.Events.{pause, test_ends, batch_events, batches_events}
use Rattle.rec_sample.specs.Session.{head_line, event_line, event_lines, sample_session}

-- the lines of events that are counted up, and of one more
pub counted_more : (event : ℕ → LiveEvent) (a k : ℕ) (old text more : List ℕ) (e : LiveEvent)
    → text ≡ old ++ event_lines (map event (range_with_len a k)) → e ≡ event (a + k)
    → more ≡ text ++ event_line e → more ≡ old ++ event_lines (map event (range_with_len a (k + 1)))
counted_more event a k old text more e h is added =
    added ∙ rw (h, is, map-range_with_len_more event a k (a + k) refl)
    (flat_map_more event_line old (map event (range_with_len a k)) (event (a + k)))

-- the lines of events, and of more
lines_more : (events others : List LiveEvent) (old text more : List ℕ)
    → text ≡ old ++ event_lines events → more ≡ text ++ event_lines others
    → more ≡ old ++ event_lines (events ++ others)
lines_more events others old text more h added =
    added ∙ rw (h, flat_map-append event_line events others)
    (append_assoc old (event_lines events) (event_lines others))

-- the lines of a batch's events
pub batch_lines : (n b : ℕ) (old started between ended : List ℕ)
    → started ≡ old ++ event_lines (test_starts n b) → between ≡ started ++ event_lines (pause n b)
    → ended ≡ between ++ event_lines (test_ends n b) → ended ≡ old ++ event_lines (batch_events n b)
unfolding batch_events
batch_lines n b old started between ended h k l =
    lines_more (test_starts n b) (pause n b ++ test_ends n b) old started ended h
    (lines_more (pause n b) (test_ends n b) started between ended k l)

-- ---- the whole session

-- the lines of the first batches' events, after those of the head and of the run's start
abbrev pub so_far : ℕ → ℕ → List ℕ
so_far n count = head_line n ++ event_lines (run_started_event ∷ batches_events n count)

pub batches_more : (n k : ℕ) → batches_events n (k + 1) ≡ batches_events n k ++ batch_events n k
batches_more n k = flat_map-range_more (batch_events n) 0 k k (omega arith)

pub so_far_first : (n : ℕ) (text more : List ℕ) (e : LiveEvent) → text ≡ head_line n
    → e ≡ run_started_event → more ≡ text ++ event_line e → more ≡ so_far n 0
so_far_first n text more e h is added =
    added ∙ rw (h, is, append-nil (event_line run_started_event)) refl

pub so_far_more : (n k : ℕ) (text more : List ℕ) → text ≡ so_far n k
    → more ≡ text ++ event_lines (batch_events n k) → more ≡ so_far n (k + 1)
so_far_more n k text more h added =
    rw (batches_more n k) (lines_more (run_started_event ∷ batches_events n k) (batch_events n k)
    (head_line n) text more h added)

pub so_far_last : (n k : ℕ) (text more : List ℕ) (e : LiveEvent) → k ≡ batch_count n
    → text ≡ so_far n k → e ≡ run_finished_event n → more ≡ text ++ event_line e
    → more ≡ sample_session n
so_far_last n k text more e all h is added =
    added ∙ rw (h, is, all) (flat_map_more event_line (head_line n)
    (run_started_event ∷ batches_events n (batch_count n)) (run_finished_event n))
