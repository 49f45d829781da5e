-- What a recording that goes on holds after each of its steps.
use Rattle.std.proofs.Common.{◌≡◌, ℕ, ◌+◌, List, [], ◌∷◌, ◌++◌, length, Bool, true, false}
use Rattle.std.proofs.Common.{◌||◌, Option, Some, None, Result, Ok, Err, refl, sym, ap, subst, ◌∙◌}
use Rattle.std.proofs.Common.{inl, inr, arith, append-nil, append_assoc, length-append}
use Rattle.std.specs.Io.KnownBytes.{Appends}
use Rattle.std.specs.Option.{option_to_list}
use Rattle.std.specs.Prelude.{filter_map}
use Rattle.rec_codec.specs.Event.{LiveEvent, event_line}
use Rattle.rec_codec.specs.Lines.{lines}
use Rattle.rec_store.proofs.Adding.{sound_after}
use Rattle.rec_store.specs.declared.error.RunStoreError.TheVariants.{
  Failed,
  NotLoadedOutput,
  NameCollision,
  CountOutOfRange,
  StoreWrite,
  RunLogWrite,
  OutOfMemory,
}
use Rattle.rec_store.specs.declared.error.RunStoreError.{RunStoreError}
use Rattle.rec_store.specs.EventOutputs.{event_entries, event_recorded}
use Rattle.rec_store.specs.Kept.{HavePaths}
use Rattle.rec_store.specs.Logging.{Logs, Unappended, Unlogged}
use Rattle.rec_store.specs.Recording.{Recording, has_failed}
use Rattle.rec_store.specs.Saved.{AreStopped, HasAccepted, required_paths}
use Rattle.rec_export.proofs.RecordedLines.{events_next}
use Rattle.rec_live_recording.proofs.Told.{tells_next, tells_part}
use Rattle.rec_live_recording.specs.Acknowledgements.{Acknowledges, Tells, count_lines}
use Rattle.rec_live_recording.specs.declared.errors.LiveError.{LiveError}
use Rattle.rec_live_recording.specs.Live.{Holds, Keeps, RecordsAll, RecordsNext, Stands}
use Rattle.rec_live_recording.specs.Recorder.{Accepts, HasSame}
use Rattle.rec_live_recording.specs.Session.{event_of, events_in}

-- ---- a recorder after a call

neither : (a b : Bool) → a ≡ false → b ≡ false → (a || b) ≡ false
neither a b p q = rw (p, q)

both : (a b : Bool) → (a || b) ≡ false → (a ≡ false) × (b ≡ false)
both true b h = absurd (let k = h in cc)
both false b h = (refl, h)

module _ {S L N : Type 0} (taken : S → Option (List ℕ)) (faults : S → ℕ)
    (log_taken : L → Option (List ℕ)) (log_faults : L → ℕ) (number : N → List ℕ → ℕ)
    (old new : Recording S L N) (event : LiveEvent) where
  pub sound_logged : Logs taken faults log_taken log_faults number old new event
      → has_failed new ≡ false
  sound_logged logs =
      let was = both old.store.failed old.log_failed logs.0 in
      neither new.store.failed new.log_failed
      (sound_after taken faults old.store new.store
      (event_entries (number old.namer) old.max_output event) logs.2 was.0)
      (ap (λ (r : Recording S L N). r.log_failed) logs.3.kept ∙ was.1)

  pub same_logged : Logs taken faults log_taken log_faults number old new event → HasSame old new
  same_logged logs = record {
    namer = ap (λ (r : Recording S L N). r.namer) logs.3.kept;
    max_output = ap (λ (r : Recording S L N). r.max_output) logs.3.kept;
  }

  same_unappended : (e : RunStoreError)
      → Unappended log_taken log_faults (record old { store = new.store }) new
      (event_line (event_recorded (number old.namer) old.max_output event)) e
      → HasSame old new
  same_unappended CountOutOfRange h = record {
    namer = ap (λ (r : Recording S L N). r.namer) h.0;
    max_output = ap (λ (r : Recording S L N). r.max_output) h.0;
  }
  same_unappended RunLogWrite h = record {
    namer = ap (λ (r : Recording S L N). r.namer) h.2;
    max_output = ap (λ (r : Recording S L N). r.max_output) h.2;
  }
  same_unappended Failed h = absurd h
  same_unappended NotLoadedOutput h = absurd h
  same_unappended (NameCollision path) h = absurd h
  same_unappended StoreWrite h = absurd h
  same_unappended OutOfMemory h = absurd h

  pub same_unlogged : (e : RunStoreError)
      → Unlogged taken faults log_taken log_faults number old new event e → HasSame old new
  same_unlogged e (inl h) = record {
    namer = ap (λ (r : Recording S L N). r.namer) h.2;
    max_output = ap (λ (r : Recording S L N). r.max_output) h.2;
  }
  same_unlogged e (inr (inl h)) = record {
    namer = ap (λ (r : Recording S L N). r.namer) h.3;
    max_output = ap (λ (r : Recording S L N). r.max_output) h.3;
  }
  same_unlogged e (inr (inr (inl h))) = record {
    namer = ap (λ (r : Recording S L N). r.namer) h.2;
    max_output = ap (λ (r : Recording S L N). r.max_output) h.2;
  }
  same_unlogged e (inr (inr (inr h))) = same_unappended e h.3

pub same_then : {S L N : Type 0} (a b c : Recording S L N) → HasSame a b → HasSame b c
    → HasSame a c
same_then a b c p q = record {
  namer = q.namer ∙ p.namer;
  max_output = q.max_output ∙ p.max_output;
}

-- ---- the state of a recording

module _ {S L N O : Type 0} (taken : S → Option (List ℕ)) (log_taken : L → Option (List ℕ))
    (out_taken : O → Option (List ℕ)) (number : N → List ℕ → ℕ) (before : Option (List ℕ)) where
  -- these events stand, and others may come
  pub holds : (events later all : List LiveEvent) (r : Recording S L N) (o : O)
      → all ≡ events ++ later
      → Stands taken log_taken out_taken number before events r o
      → Holds taken log_taken out_taken number before all r o
  holds events later all r o first h = record {
    lines = length events + 1;
    told = inl h.told;
    events = events;
    later = later;
    first = first;
    enough = omega arith;
    accepted = λ some. h.accepted;
    metadata = λ some. h.metadata;
  }

  -- where no line was taken whole, nothing is said of the events
  pub nothing_held : (all : List LiveEvent) (r : Recording S L N) (o : O)
      → Tells before (out_taken o) 0
      → Holds taken log_taken out_taken number before all r o
  nothing_held all r o told = record {
    lines = 0;
    told = told;
    events = [];
    later = all;
    first = refl;
    enough = omega arith;
    accepted = λ some. absurd (omega (arith, some));
    metadata = λ some. absurd (omega (arith, some));
  }

  -- a blank line has no event
  pub records_none : (events later : List LiveEvent) (next : Option LiveEvent) (count : ℕ)
      (r : Recording S L N) (o : O) → next ≡ None
      → Stands taken log_taken out_taken number before events r o → count ≡ length events
      → RecordsNext taken log_taken out_taken number before events next later (Ok count) r o
  records_none events later next count r o none h is =
      let same : events ++ option_to_list next ≡ events =
      ap (λ n. events ++ option_to_list n) none ∙ append-nil events in (
        subst (λ es. Stands taken log_taken out_taken number before es r o) (sym same) h,
        is ∙ ap length (sym same),
      )

  -- what isn't accepted leaves those before
  pub records_fault : (events later : List LiveEvent) (next : Option LiveEvent) (e : LiveError)
      (r : Recording S L N) (o : O)
      → Stands taken log_taken out_taken number before events r o
      → RecordsNext taken log_taken out_taken number before events next later (Err e) r o
  records_fault events later next e r o h =
      holds events (option_to_list next ++ later) _ r o
      (append_assoc events (option_to_list next) later) h

  module _ (events later : List LiveEvent) (event : LiveEvent) (old new : Recording S L N)
      (o p : O) (h : Stands taken log_taken out_taken number before events old o) where
    -- an event that wasn't accepted
    pub records_refused : (e f : LiveError) → Accepts taken log_taken number old new event (Err e)
        → RecordsNext taken log_taken out_taken number before events (Some event) later (Err f)
        new o
    records_refused e f accepts =
        records_fault events later (Some event) f new o (record {
          accepted = accepts.accepted events h.accepted;
          metadata = accepts.metadata h.metadata;
          told = h.told;
        })

    module _ (out_faults : O → ℕ) (count : ℕ) (is : count ≡ length events + 1)
        (accepts : Accepts taken log_taken number old new event (Ok tt)) where
      told_before : Appends before (out_taken o) (count_lines count)
      told_before = subst (λ n. Appends before (out_taken o) (count_lines n)) (sym is) h.told

      long : length (events ++ event ∷ []) ≡ count
      long = length-append events (event ∷ []) ∙ sym is

      -- an event that was accepted and acknowledged
      pub records_event : Acknowledges out_taken out_faults count o p (Ok tt)
          → RecordsNext taken log_taken out_taken number before events (Some event) later (Ok count)
          new p
      records_event acknowledged = (
        record {
          accepted = accepts.accepted events h.accepted;
          metadata = accepts.metadata h.metadata;
          told =
              subst (λ n. Appends before (out_taken p) (count_lines (n + 1))) (sym long)
              (tells_next out_taken out_faults before o p count told_before acknowledged);
        },
        sym long,
      )

      -- or accepted alone
      pub records_unsaid : (e : LiveError) → Acknowledges out_taken out_faults count o p (Err e)
          → RecordsNext taken log_taken out_taken number before events (Some event) later (Err e)
          new p
      records_unsaid e acknowledged = record {
        lines = count;
        told = tells_part out_taken out_faults before o p count told_before e acknowledged;
        events = events ++ event ∷ [];
        later = later;
        first = refl;
        enough = let l = long in omega (arith, l);
        accepted = λ some. accepts.accepted events h.accepted;
        metadata = λ some. accepts.metadata h.metadata;
      }

-- ---- the events of a text

-- the event of its first line stands before those of the rest
pub all_next : (so_far : List LiveEvent) (text line rest : List ℕ)
    → lines text ≡ line ∷ lines rest
    → so_far ++ events_in text ≡ (so_far ++ option_to_list (event_of line)) ++ events_in rest
all_next so_far text line rest first =
    ap (λ (ls : List (List ℕ)). so_far ++ filter_map event_of ls) first
    ∙ sym (events_next so_far (event_of line) (events_in rest))

-- a text without bytes has none
pub no_more : (so_far : List LiveEvent) (text : List ℕ) → text ≡ []
    → so_far ++ events_in text ≡ so_far
no_more so_far text none =
    ap (λ (t : List ℕ). so_far ++ events_in t) none ∙ append-nil so_far

-- ---- what is left in the files

module _ {S L N O : Type 0} (taken : S → Option (List ℕ)) (log_taken : L → Option (List ℕ))
    (out_taken : O → Option (List ℕ)) (number : N → List ℕ → ℕ) (namer : N) (m : ℕ)
    (before : Option (List ℕ)) (all : List LiveEvent) (r : Recording S L N) (o : O)
    (same_namer : r.namer ≡ namer) (same_limit : r.max_output ≡ m) (log store : Option (List ℕ))
    (stopped : (events : List LiveEvent) → HasAccepted taken log_taken number events r
    → HavePaths r.store.entries required_paths
    → AreStopped (number r.namer) r.max_output events log store) where
  left_stopped : (events : List LiveEvent) → HasAccepted taken log_taken number events r
      → HavePaths r.store.entries required_paths → AreStopped (number namer) m events log store
  left_stopped events accepted metadata =
      subst (λ (n : N). AreStopped (number n) m events log store) same_namer
      (subst (λ k. AreStopped (number r.namer) k events log store) same_limit
      (stopped events accepted metadata))

  -- what holds of the recorder holds of the files
  pub keeps : (result : Result ℕ LiveError)
      → RecordsAll taken log_taken out_taken number before all result r o
      → Keeps (number namer) m all before (out_taken o) log store
  keeps (Ok count) h = record {
    lines = length all + 1;
    told = inl h.0.told;
    events = all;
    later = [];
    first = sym (append-nil all);
    enough = omega arith;
    held = λ some. left_stopped all h.0.accepted h.0.metadata;
  }
  keeps (Err e) h = record {
    lines = h.lines;
    told = h.told;
    events = h.events;
    later = h.later;
    first = h.first;
    enough = h.enough;
    held = λ some. left_stopped h.events (h.accepted some) (h.metadata some);
  }
