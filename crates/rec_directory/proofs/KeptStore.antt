-- A store that is read once and kept.
use Rattle.std.proofs.Common.{◌≡◌, ℕ, List, Option, Some, None}
use Rattle.std.proofs.Common.{Result, Err, refl, sym, ap, subst, ◌∙◌}
use Rattle.std.specs.Prelude.{◌↔◌}
use Rattle.rec_container.specs.Container.{Entry, IsContainer}
use Rattle.rec_disk.specs.Disks.{Files}
use Rattle.rec_store.proofs.PartRefusals.{answers_part}
use Rattle.rec_store.specs.declared.read_error.RecordReadError.TheVariants.{
  RunNotFound,
  OpenArchive,
  ParseArchive,
  FileNotFound,
  FileTooLarge,
  NotUtf8,
  DeserializeMetadata,
  UnknownOutputType,
  ExtractFile,
  OpenRunLog,
  DiskFault,
  ReadRunLog,
  ParseEvent,
  OutOfMemory,
}
use Rattle.rec_store.specs.declared.read_error.RecordReadError.{RecordReadError}
use Rattle.rec_store.specs.Readers.{Answers, Denies, Extracts, Keeps, Reads}
use Rattle.rec_directory.specs.Directories.{Directory, HasEntries, Holds}
use Rattle.rec_directory.specs.Directories.{KeepsRun, ReadsOnce, Spells, Unread}
use Rattle.rec_directory.specs.Files.{IsMissing, IsWhole, IsWholeOf}
use Rattle.rec_directory.specs.Paths.{path_of_store}

-- a store that is missing has no entries
missing_holds : (files : Option Files) (path : List ℕ) (es : List Entry) → IsMissing files path
    → HasEntries files path None es → ⊥
missing_holds None path es missing holds = holds
missing_holds (Some fs) path es missing holds =
    subst (λ (o : Option (List ℕ)). Spells o es) missing holds

unread_denies : {Y : Type 0} (part : Result Y RecordReadError) (files : Option Files)
    (path : List ℕ) (es : List Entry) (e : RecordReadError)
    → HasEntries files path None es → Unread files path e → Denies part e
unread_denies part files path es (RunNotFound p) g h = absurd h
unread_denies part files path es (OpenArchive p) g h = absurd (missing_holds files path es h.1 g)
unread_denies part files path es (ParseArchive p f) g h = absurd h
unread_denies part files path es (FileNotFound p) g h = absurd h
unread_denies part files path es (FileTooLarge p n m) g h = absurd h
unread_denies part files path es (NotUtf8 p) g h = absurd h
unread_denies part files path es (DeserializeMetadata p) g h = absurd h
unread_denies part files path es (UnknownOutputType p) g h = absurd h
unread_denies part files path es (ExtractFile p) g h = absurd h
unread_denies part files path es (OpenRunLog p) g h = absurd h
unread_denies part files path es (DiskFault p) g h = tt
unread_denies part files path es (ReadRunLog n) g h = absurd h
unread_denies part files path es (ParseEvent n) g h = absurd h
unread_denies part files path es OutOfMemory g h = tt

whole_spells : (file : Option (List ℕ)) (bytes : List ℕ) (es : List Entry) → IsWholeOf file bytes
    → Spells file es ↔ Spells (Some bytes) es
whole_spells None bytes es whole = absurd whole
whole_spells (Some content) bytes es whole = (
  λ h. subst (λ (b : List ℕ). IsContainer b es) (sym whole) h,
  λ h. subst (λ (b : List ℕ). IsContainer b es) whole h,
)

whole_entries : (files : Option Files) (path bytes : List ℕ) (es : List Entry)
    → IsWhole files path bytes
    → HasEntries files path None es ↔ HasEntries files path (Some bytes) es
whole_entries None path bytes es whole = (λ h. h, λ h. h)
whole_entries (Some fs) path bytes es whole = whole_spells (fs path) bytes es whole

module _ {D : Type 0} (files : D → Option Files) where
  pub reads_nothing : (r : Directory D) (store : Option (List ℕ)) → ReadsOnce files r r store store
  reads_nothing r None = tt
  reads_nothing r (Some bytes) = refl

  -- the entries stay
  module _ (old new : Directory D) (k : KeepsRun files old new) where
    path_stays : path_of_store new.run_dir ≡ path_of_store old.run_dir
    path_stays = ap path_of_store k.run_dir

    stays : (store : Option (List ℕ)) (es : List Entry)
        → HasEntries (files old.disk.now) (path_of_store old.run_dir) store es
        ↔ HasEntries (files new.disk.now) (path_of_store new.run_dir) store es
    stays store es =
        let there : HasEntries (files old.disk.now) (path_of_store old.run_dir) store es
        → HasEntries (files new.disk.now) (path_of_store new.run_dir) store es =
        λ h. subst (λ (p : List ℕ). HasEntries (files new.disk.now) p store es) (sym path_stays)
        (subst (λ (fs : Option Files). HasEntries fs (path_of_store old.run_dir) store es)
        (sym k.same) h) in
        let back : HasEntries (files new.disk.now) (path_of_store new.run_dir) store es
        → HasEntries (files old.disk.now) (path_of_store old.run_dir) store es =
        λ h. subst (λ (fs : Option Files). HasEntries fs (path_of_store old.run_dir) store es)
        k.same (subst (λ (p : List ℕ). HasEntries (files new.disk.now) p store es) path_stays h) in
        (there, back)

    entries_stay : (a b : Option (List ℕ)) (es : List Entry) → old.store ≡ a → new.store ≡ b
        → ReadsOnce files old new a b
        → HasEntries (files old.disk.now) (path_of_store old.run_dir) a es
        ↔ HasEntries (files old.disk.now) (path_of_store old.run_dir) b es
    entries_stay None None es e f reads = (λ h. h, λ h. h)
    entries_stay None (Some bytes) es e f reads =
        whole_entries (files old.disk.now) (path_of_store old.run_dir) bytes es reads
    entries_stay (Some bytes) b es e f reads =
        let same : Some bytes ≡ b = sym e ∙ ap (λ (r : Directory D). r.store) (sym reads) ∙ f in (
          λ h. subst (λ (o : Option (List ℕ)).
              HasEntries (files old.disk.now) (path_of_store old.run_dir) o es)
              same h,
          λ h. subst (λ (o : Option (List ℕ)).
              HasEntries (files old.disk.now) (path_of_store old.run_dir) o es)
              (sym same) h,
        )

    pub keeps_holds : Keeps old.limit new.limit (Holds files old) (Holds files new)
    keeps_holds = record {
      limit = k.limit;
      entries = λ es.
          let first = entries_stay old.store new.store es refl refl k.store in
          let second = stays new.store es in
          (λ h. second.0 (first.0 h), λ h. first.1 (second.1 h));
    }

  -- ---- what the calls answer

  kept_spells : (known : Option Files) (path bytes : List ℕ) (store : Option (List ℕ))
      (es : List Entry)
      → store ≡ Some bytes → HasEntries known path store es → IsContainer bytes es
  kept_spells None path bytes store es kept holds = absurd holds
  kept_spells (Some fs) path bytes store es kept holds =
      subst (λ (o : Option (List ℕ)). HasEntries (Some fs) path o es) kept holds

  pub answers_kept : {X Y : Type 0} (show : X → Y)
      (part : List Entry → ℕ → Result Y RecordReadError) (old new : Directory D) (bytes : List ℕ)
      (limit : ℕ) (r : Result X RecordReadError)
      → Keeps old.limit new.limit (Holds files old) (Holds files new) → new.store ≡ Some bytes
      → limit ≡ new.limit
      → ((es : List Entry) → IsContainer bytes es → Reads show (part es limit) r)
      → (es : List Entry) → Holds files old es → Answers show (part es old.limit) r
  answers_kept show part old new bytes limit r keeps kept same reads es holds =
      let spelled : IsContainer bytes es = kept_spells (files new.disk.now)
      (path_of_store new.run_dir) bytes new.store es kept ((keeps.entries es).0 holds) in
      subst (λ (l : ℕ). Answers show (part es l) r) (same ∙ keeps.limit)
      (answers_part show (part es limit) r (reads es spelled))

  pub answers_unread : {X Y : Type 0} (show : X → Y) (part : List Entry → Result Y RecordReadError)
      (old : Directory D) (e : RecordReadError)
      → old.store ≡ None → Unread (files old.disk.now) (path_of_store old.run_dir) e
      → (es : List Entry) → Holds files old es → Answers show (part es) (Err e)
  answers_unread show part old e none unread es holds =
      unread_denies (part es) (files old.disk.now) (path_of_store old.run_dir) es e
      (subst (λ (o : Option (List ℕ)).
      HasEntries (files old.disk.now) (path_of_store old.run_dir) o es) none holds) unread

  pub extracts_kept : (before now : Option (List ℕ)) (name : List ℕ) (old new : Directory D)
      (bytes : List ℕ) (r : Result ℕ RecordReadError)
      → Keeps old.limit new.limit (Holds files old) (Holds files new) → new.store ≡ Some bytes
      → ((es : List Entry) → IsContainer bytes es → Extracts before now name es r)
      → (es : List Entry) → Holds files old es → Extracts before now name es r
  extracts_kept before now name old new bytes r keeps kept extracts es holds =
      extracts es (kept_spells (files new.disk.now) (path_of_store new.run_dir)
      bytes new.store es kept ((keeps.entries es).0 holds))
