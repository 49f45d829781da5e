-- What is salvaged of a bundle, and why nothing is.
use Rattle.std.proofs.Common.{◌≡◌, ◌⊎◌, inl, inr, ℕ, List, Option, Some, None, Result}
use Rattle.std.proofs.Common.{Ok, Err, IfOk, IfErr, refl, sym, ap, subst, ◌∙◌, nat_lt}
use Rattle.std.specs.Borrow.{Bor}
use Rattle.std.specs.Option.{option_map}
use Rattle.std.specs.Prelude.{unwrap_or}
use Rattle.rec_container.proofs.Results.{unless_ok}
use Rattle.rec_container.specs.Container.{Entry, IsContainer, content_of}
use Rattle.rec_container.specs.Reading.{◌>>=◌}
use Rattle.rec_format.specs.declared.manifest.PortableManifest.{PortableManifest}
use Rattle.rec_format.specs.declared.run.RecordedRunInfo.{RecordedRunInfo}
use Rattle.rec_format.specs.Runs.{info_of}
use Rattle.rec_store.specs.Entries.{log_name, store_name}
use Rattle.rec_portable.specs.declared.errors.PortableRecordingReadError.TheVariants.{FileTooLarge}
use Rattle.rec_portable.specs.declared.errors.PortableRecordingReadError.{
  PortableRecordingReadError,
}
use Rattle.rec_portable.specs.Judging.{judged}
use Rattle.rec_portable.specs.Opening.{Opening, Opens}
use Rattle.rec_portable.specs.OuterEntries.{log_found, log_part}
use Rattle.rec_salvage.specs.declared.errors.SalvageError.{SalvageError}
use Rattle.rec_salvage.specs.declared.salvaging.Salvaged.{Salvaged}
use Rattle.rec_salvage.specs.Salvages.{Salvages}
use Rattle.rec_program.proofs.BundlesShown.{made_of_opened}
use Rattle.rec_program.specs.declared.salvage_refusal.SalvageRefusal.TheVariants.{OutOfMemory}
use Rattle.rec_program.specs.declared.salvage_refusal.SalvageRefusal.{SalvageRefusal}
use Rattle.rec_program.specs.ReadingCommands.{IsMadeOf, Shows, Withholds}
use Rattle.rec_program.specs.Salvaging.{LendsFound, MakesSalvage, RefusesStore, SalvagesRun}
use Rattle.rec_program.specs.Salvaging.{StoppedRun, bundle_refusal, store_found}
use Rattle.rec_program.specs.Salvaging.{store_refusal, stopped_run, stopped_with}

-- ---- the log and the store of a bundle

-- a log that was read is the one that was found
pub log_lent : (limit : ℕ) (found : Option (Bor (List ℕ))) (other : Bor (List ℕ))
    (content : Option (List ℕ)) (log : List ℕ)
    → option_map (λ (b : Bor (List ℕ)). b.now) found ≡ content
    → log_found limit content ≡ Ok log → log_found limit content ≡ Ok (unwrap_or found other).now
log_lent limit found other None log is h = absurd cc
log_lent limit None other (Some bytes) log is h = absurd cc
log_lent limit (Some b) other (Some bytes) log is h =
    let same : b.now ≡ bytes = cc in
    let whole = (unless_ok (nat_lt limit _) (FileTooLarge log_name _ limit) (Ok bytes) log h).1 in
    h ∙ sym whole
    ∙ ap (λ (l : List ℕ). let r : Result (List ℕ) PortableRecordingReadError = Ok l in r) (sym same)

-- ---- by the entries of a bundle

pub stopped_unfound : (limit : ℕ) (es : List Entry) (fault : PortableRecordingReadError)
    → judged limit es ≡ Err fault → stopped_run limit es ≡ Err fault
stopped_unfound limit es fault h =
    ap (λ (r : Result PortableManifest PortableRecordingReadError). r >>= stopped_with limit es) h

-- where the manifest is judged

module _ (limit : ℕ) (es : List Entry) (manifest : PortableManifest)
    (is_judged : judged limit es ≡ Ok manifest) where
  stopped_is : stopped_run limit es ≡ stopped_with limit es manifest
  stopped_is =
      ap (λ (r : Result PortableManifest PortableRecordingReadError). r >>= stopped_with limit es)
      is_judged

  abbrev then_store : List ℕ → Result StoppedRun PortableRecordingReadError
  then_store log =
      store_found (content_of es store_name)
      >>= (λ store. Ok (record { run = info_of manifest.run; log = log; store = store }))

  no_log : (e : PortableRecordingReadError) → log_part limit es ≡ Err e
      → stopped_run limit es ≡ Err e
  no_log e h =
      stopped_is ∙ ap (λ (r : Result (List ℕ) PortableRecordingReadError). r >>= then_store) h

  no_store : (log : List ℕ) (e : PortableRecordingReadError) → log_part limit es ≡ Ok log
      → store_found (content_of es store_name) ≡ Err e → stopped_run limit es ≡ Err e
  no_store log e l h =
      stopped_is ∙ ap (λ (r : Result (List ℕ) PortableRecordingReadError). r >>= then_store) l
      ∙ ap (λ (r : Result (List ℕ) PortableRecordingReadError). r
      >>= (λ store. Ok (record { run = info_of manifest.run; log = log; store = store })))
      h

  all_there : (run : RecordedRunInfo) (log store : List ℕ) → run ≡ info_of manifest.run
      → log_part limit es ≡ Ok log → store_found (content_of es store_name) ≡ Ok store
      → stopped_run limit es ≡ Ok (record { run = run; log = log; store = store })
  all_there run log store is l h =
      stopped_is ∙ ap (λ (r : Result (List ℕ) PortableRecordingReadError). r >>= then_store) l
      ∙ ap (λ (r : Result (List ℕ) PortableRecordingReadError). r
      >>= (λ found. Ok (record { run = info_of manifest.run; log = log; store = found })))
      h
      ∙ ap (λ (i : RecordedRunInfo). Ok (record { run = i; log = log; store = store })) (sym is)

  -- nothing is made where log or store aren't lent
  pub log_missing : (e : PortableRecordingReadError) → LendsFound (log_part limit es) (Err e)
      → MakesSalvage (SalvagesRun limit es) (Err (bundle_refusal e))
  log_missing e (inl h) = inl (ap bundle_refusal h)
  log_missing e (inr h) = inr (inl (e, no_log e h, refl))

  pub store_missing : (log : List ℕ) (e : PortableRecordingReadError) → log_part limit es ≡ Ok log
      → LendsFound (store_found (content_of es store_name)) (Err e)
      → MakesSalvage (SalvagesRun limit es) (Err (bundle_refusal e))
  store_missing log e l (inl h) = inl (ap bundle_refusal h)
  store_missing log e l (inr h) = inr (inl (e, no_store log e l h, refl))

  -- what is made of them is made of the run
  pub parts_salvaged : (run : RecordedRunInfo) (log store : List ℕ) → run ≡ info_of manifest.run
      → log_part limit es ≡ Ok log → store_found (content_of es store_name) ≡ Ok store
      → (r : Result Salvaged SalvageRefusal) → IfOk r (Salvages run log store)
      → IfErr r (λ e. (fault : SalvageError) × (e ≡ store_refusal fault) × RefusesStore store fault)
      → MakesSalvage (SalvagesRun limit es) r
  parts_salvaged run log store is l h (Ok s) ok err =
      (record { run = run; log = log; store = store }, all_there run log store is l h, ok)
  parts_salvaged run log store is l h (Err e) ok err =
      inr (inr (
        record { run = run; log = log; store = store },
        err.0,
        all_there run log store is l h,
        err.2,
        err.1,
      ))

-- ---- by a bundle that was opened

module _ (limit : ℕ) {S : Type 0} (left : S → Option (List ℕ)) (faults : S → ℕ) (spool : ℕ)
    (old new : S) (path : List ℕ) (o : Opening)
    (opens : Opens left faults path spool limit old new o) (result : Result Salvaged SalvageRefusal)
    (makes : (es : List Entry) (manifest : PortableManifest) → IsContainer o.bytes es
    → judged o.limit es ≡ Ok manifest → MakesSalvage (SalvagesRun o.limit es) result) where
  made : (x : Result Salvaged SalvageRefusal) → SalvagesRun o.limit opens.judged.0 x
      → IsMadeOf bundle_refusal SalvagesRun limit o.bytes x
  made = made_of_opened bundle_refusal SalvagesRun limit left faults spool old new path o opens

  of_entries : MakesSalvage (SalvagesRun o.limit opens.judged.0) result
  of_entries =
      makes opens.judged.0 opens.manifest opens.judged.1
      (subst (λ (l : ℕ). judged l opens.judged.0 ≡ Ok opens.manifest) (sym opens.limit_is)
      opens.judged.2)

  showing : (r : Result Salvaged SalvageRefusal)
      → MakesSalvage (SalvagesRun o.limit opens.judged.0) r
      → IfOk r (Shows bundle_refusal SalvagesRun limit left faults spool old new)
  showing (Ok s) h = (o.bytes, opens.gave, made (Ok s) h)
  showing (Err e) h = tt

  withheld : (e : SalvageRefusal) → (e ≡ OutOfMemory) ⊎ SalvagesRun o.limit opens.judged.0 (Err e)
      → (e ≡ OutOfMemory) ⊎ IsMadeOf bundle_refusal SalvagesRun limit o.bytes (Err e)
  withheld e (inl h) = inl h
  withheld e (inr h) = inr (made (Err e) h)

  withholding : (r : Result Salvaged SalvageRefusal)
      → MakesSalvage (SalvagesRun o.limit opens.judged.0) r
      → IfErr r (Withholds bundle_refusal SalvagesRun limit left faults spool old new)
  withholding (Ok s) h = tt
  withholding (Err e) h = inr (o.bytes, opens.gave, withheld e h)

  pub opened_salvaged : IfOk result
      (Shows bundle_refusal SalvagesRun limit left faults spool old new)
  opened_salvaged = showing result of_entries

  pub opened_refused : IfErr result
      (Withholds bundle_refusal SalvagesRun limit left faults spool old new)
  opened_refused = withholding result of_entries
