-- The metadata of a run that begins.
use Rattle.std.proofs.Common.{◌≡◌, ℕ, List, [], ◌++◌, false, Option}
use Rattle.std.proofs.Common.{Some, None, is_some, IfSome, Ok}
use Rattle.std.proofs.Common.{refl, sym, ap, subst, ◌∙◌, inl, inr, arith}
use Rattle.std.specs.List.{AllByRecursion}
use Rattle.json.proofs.Printed.Utf8.{IsUtf8-are_ascii}
use Rattle.serde_json.specs.Written.{compact_text}
use Rattle.rec_container.specs.Container.{Entry, IsName}
use Rattle.rec_forms.specs.TextForm.{bytes_form}
use Rattle.rec_format.proofs.TextLaws.{head_texts}
use Rattle.rec_format.specs.declared.head.SessionHead.{SessionHead}
use Rattle.rec_format.specs.declared.rerun.RerunInfo.{RerunInfo}
use Rattle.rec_format.specs.HeadForms.{IsHead}
use Rattle.rec_format.specs.RerunForms.{rerun_info_form, rerun_info_value}
use Rattle.rec_store.proofs.Accepted.{entries_accepted}
use Rattle.rec_store.proofs.Adding.{entries_after, with_entries-new}
use Rattle.rec_store.proofs.StoreTaken.{IsStorable}
use Rattle.rec_store.proofs.Storing.{sound_store, sound_stores}
use Rattle.rec_store.specs.Clashes.{with_entries}
use Rattle.rec_store.specs.declared.error.RunStoreError.TheVariants.{
  Failed,
  NotLoadedOutput,
  NameCollision,
  CountOutOfRange,
  StoreWrite,
  RunLogWrite,
  OutOfMemory,
}
use Rattle.rec_store.specs.declared.error.RunStoreError.{RunStoreError}
use Rattle.rec_store.specs.Entries.{build_scope_path, cargo_metadata_path, record_opts_path}
use Rattle.rec_store.specs.Entries.{rerun_info_path, test_list_path}
use Rattle.rec_store.specs.Kept.{HavePaths}
use Rattle.rec_store.specs.Recording.{Recording, Stores, Unstored, has_failed}
use Rattle.rec_store.specs.Saved.{required_paths}
use Rattle.rec_store.specs.Store.{rerun_entries, store_entries}
use Rattle.rec_export.proofs.Recorded.{metadata_new}
use Rattle.rec_export.specs.RecorderFaults.{ComesOfEvent, ComesOfHead}
use Rattle.rec_live_recording.specs.Recorder.{HasBegun, HasSame}

-- ---- the entries of a head

scope_name : IsName build_scope_path
scope_name =
    record {
      some = omega arith;
      short = omega arith;
      text = IsUtf8-are_ascii build_scope_path refl;
    }

rerun_name : IsName rerun_info_path
rerun_name =
    record { some = omega arith; short = omega arith; text = IsUtf8-are_ascii rerun_info_path refl }

list_name : IsName test_list_path
list_name =
    record { some = omega arith; short = omega arith; text = IsUtf8-are_ascii test_list_path refl }

cargo_name : IsName cargo_metadata_path
cargo_name = record {
  some = omega arith;
  short = omega arith;
  text = IsUtf8-are_ascii cargo_metadata_path refl;
}

opts_name : IsName record_opts_path
opts_name =
    record {
      some = omega arith;
      short = omega arith;
      text = IsUtf8-are_ascii record_opts_path refl;
    }

with_rerun : (o : Option RerunInfo) (rest : List Entry)
    → IfSome o (λ r. bytes_form rerun_info_form (compact_text (rerun_info_value r)) ≡ Some r)
    → AllByRecursion IsStorable rest → AllByRecursion IsStorable (rerun_entries o ++ rest)
with_rerun None rest read all = all
with_rerun (Some info) rest read all = ((rerun_name, ap is_some read), all)

-- each is taken, and is read by its form
storable : (head : SessionHead) → IsHead head → AllByRecursion IsStorable (store_entries head)
storable head is =
    let texts = head_texts head is in (
      (scope_name, ap is_some texts.build_scope),
      with_rerun head.rerun_info _ texts.rerun_info (
        (list_name, ap is_some texts.test_list),
        ((cargo_name, texts.cargo_metadata), ((opts_name, ap is_some texts.record_opts), tt)),
      ),
    )

-- the metadata that each run has stands among them
has_required : (head : SessionHead) → HavePaths (store_entries head) required_paths
has_required head = found head.rerun_info
  where
    found : (o : Option RerunInfo)
        → HavePaths (store_entries (record head { rerun_info = o })) required_paths
    found None = (refl, (refl, (refl, (refl, tt))))
    found (Some info) = (refl, (refl, (refl, (refl, tt))))

-- ---- a recorder that stored them

module _ {S L N : Type 0} (taken : S → Option (List ℕ)) (faults : S → ℕ)
    (log_taken : L → Option (List ℕ)) (number : N → List ℕ → ℕ) where
  pub begun : (head : SessionHead) (old new : Recording S L N) → IsHead head
      → has_failed old ≡ false → old.store.entries ≡ []
      → Stores taken faults old new (store_entries head)
      → HasBegun taken log_taken number old new
  begun head old new is sound empty stored =
      let es = store_entries head in
      let entries : new.store.entries ≡ es =
      entries_after taken faults old.store new.store es stored.added
      ∙ ap (λ (l : List Entry). with_entries l es) empty
      ∙ with_entries-new [] es (metadata_new head.build_scope head.rerun_info head.cargo_metadata
      head.test_list head.record_opts) in
      record {
        sound = sound_stores taken faults old new es stored sound;
        metadata =
            subst (λ (l : List Entry). HavePaths l required_paths) (sym entries)
            (has_required head);
        accepted = λ h. entries_accepted taken faults log_taken number old new es (Ok tt)
            (sound_store old sound) (storable head is) stored.kept stored.added tt [] h;
      }

module _ {S L N : Type 0} (taken : S → Option (List ℕ)) (faults : S → ℕ) where
  -- namer and limit stay
  pub same_stored : (old new : Recording S L N) (es : List Entry) → Stores taken faults old new es
      → HasSame old new
  same_stored old new es h = record {
    namer = ap (λ (r : Recording S L N). r.namer) h.kept;
    max_output = ap (λ (r : Recording S L N). r.max_output) h.kept;
  }

  pub same_unstored : (old new : Recording S L N) (es : List Entry) (e : RunStoreError)
      → Unstored taken faults old new es e → HasSame old new
  same_unstored old new es e (inl h) = record {
    namer = ap (λ (r : Recording S L N). r.namer) h.2;
    max_output = ap (λ (r : Recording S L N). r.max_output) h.2;
  }
  same_unstored old new es e (inr h) = record {
    namer = ap (λ (r : Recording S L N). r.namer) h.1;
    max_output = ap (λ (r : Recording S L N). r.max_output) h.1;
  }

-- what comes of a head may come of an event
pub event_too : (e : RunStoreError) → ComesOfHead e → ComesOfEvent e
event_too Failed h = h
event_too NotLoadedOutput h = h
event_too (NameCollision path) h = tt
event_too CountOutOfRange h = tt
event_too StoreWrite h = tt
event_too RunLogWrite h = tt
event_too OutOfMemory h = tt
