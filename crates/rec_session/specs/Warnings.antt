-- What is printed of the warnings of a session that is finalized.
use Rattle.std.specs.Prelude.{ℕ, List, ◌++◌, codes}
use Rattle.rec_format.specs.RunIds.{id_text}
use Rattle.rec_session.specs.declared.finalize.RecordFinalizeWarning.TheVariants.{
  StoreOpenFailed,
  StoreLockFailed,
  MetadataPersistFailed,
  RunNotFoundDuringComplete,
  PruneFailed,
  PruneError,
}
use Rattle.rec_session.specs.declared.finalize.RecordFinalizeWarning.{RecordFinalizeWarning}

abbrev pub warning_text : RecordFinalizeWarning → List ℕ
warning_text StoreOpenFailed =
    codes "recording completed but failed to open run store: keeper failed"
warning_text StoreLockFailed =
    codes "recording completed but failed to lock run store: keeper failed"
warning_text MetadataPersistFailed =
    codes "recording completed but failed to persist run metadata: keeper failed"
warning_text (RunNotFoundDuringComplete id) =
    codes "recording completed but run "
    ++ (id_text id ++ codes " was not found in store (may have been pruned during execution)")
warning_text PruneFailed = codes "error during prune: keeper failed"
warning_text (PruneError e) = codes "error during prune: " ++ e.message
