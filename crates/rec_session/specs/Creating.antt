-- How the recorder of a session begins, or why it doesn't.
use Rattle.std.specs.Io.KnownBytes.{Appends}
use Rattle.std.specs.Prelude.{◌≡◌, ◌⊎◌, ℕ, ◌^◌, ◌≤◌, List, [], ◌∷◌, length, false, Option}
use Rattle.rec_container.specs.Causes.{Rose}
use Rattle.rec_container.specs.Container.{Entry, ending, spell}
use Rattle.rec_format.specs.declared.rerun.RerunInfo.{RerunInfo}
use Rattle.rec_format.specs.declared.scope.RecordedBuildScope.{RecordedBuildScope}
use Rattle.rec_store.specs.declared.error.RunStoreError.TheVariants.{
  Failed,
  NotLoadedOutput,
  NameCollision,
  CountOutOfRange,
  StoreWrite,
  RunLogWrite,
  OutOfMemory,
}
use Rattle.rec_store.specs.declared.error.RunStoreError.{RunStoreError}
use Rattle.rec_store.specs.Ending.{Unended}
use Rattle.rec_store.specs.Recording.{Recording, has_failed, Unstored}
use Rattle.rec_store.specs.Store.{build_scope_entry, rerun_entries}

-- a recorder that has written nothing
abbrev pub new_recorder : {S L N : Type 0} → S → L → N → ℕ → Recording S L N
new_recorder store log namer max_output = record {
  store = record { entries = []; sink = store; failed = false };
  log = log;
  log_failed = false;
  log_bytes = 0;
  events = 0;
  namer = namer;
  max_output = max_output;
}

-- what a session stores first
abbrev pub first_entries : RecordedBuildScope → Option RerunInfo → List Entry
first_entries scope rerun = build_scope_entry scope ∷ rerun_entries rerun

module _ {S L N : Type 0} (taken : S → Option (List ℕ)) (faults : S → ℕ) where
  -- the recorder was ended, and its store's sink took the end or why not
  abbrev pub Ends : Recording S L N → S → Type 0
  Ends recorder store =
      ((has_failed recorder ≡ false)
      × Appends (taken recorder.store.sink) (taken store) (ending recorder.store.entries))
      ⊎ ((e : RunStoreError) × Unended taken faults recorder store e)

  -- a new recorder refused one of the entries, and was ended
  pub record Refused (recorder : Recording S L N) (es : List Entry) (e : RunStoreError)
      (store : S) : Type 0 where
    pub left : Recording S L N
    pub unstored : Unstored taken faults recorder left es e
    pub ends : Ends left store
    pub later : faults left.store.sink ≤ faults store

-- why a new recorder refuses an entry: its sink failed, by the count,
-- or the container would be too long
abbrev pub IsStoreCause : List Entry → ℕ → ℕ → RunStoreError → Type 0
IsStoreCause es before now StoreWrite = Rose before now
IsStoreCause es before now CountOutOfRange = 2 ^ 64 ≤ length (spell es)
IsStoreCause es before now Failed = ⊥
IsStoreCause es before now NotLoadedOutput = ⊥
IsStoreCause es before now (NameCollision path) = ⊥
IsStoreCause es before now RunLogWrite = ⊥
IsStoreCause es before now OutOfMemory = ⊥
