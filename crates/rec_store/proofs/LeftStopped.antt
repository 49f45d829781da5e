-- What is left of a recorder that is stopped: nothing that was accepted is lost.
use Rattle.std.proofs.Common.{◌≡◌, ℕ, zero, suc, ◌<◌, ◌≤◌, ◌==◌, List, [], ◌∷◌, ◌++◌, length}
use Rattle.std.proofs.Common.{take, drop, Bool, true, false, Option, Some, None, is_some}
use Rattle.std.proofs.Common.{option_map, IsTrue, IsSomeAnd, Result, Ok, Err, IfOk, IfErr}
use Rattle.std.proofs.Common.{refl, sym, ap, subst, ◌∙◌, arith, append_assoc, append-nil}
use Rattle.std.proofs.Common.{length-append, take-append-drop, option_and_then, if◌then◌else◌}
use Rattle.std.proofs.lemmas.List.Elements.{All-nil, All-take}
use Rattle.std.proofs.lemmas.List.{length-drop, take-append-le}
use Rattle.std.proofs.lemmas.Slice.Eq.{bytes_eq-Decides}
use Rattle.std.specs.Io.KnownBytes.{Appends}
use Rattle.std.specs.List.{AllByRecursion, flat_map}
use Rattle.std.specs.Str.{bytes_eq, is_utf8}
use Rattle.serde_json.specs.Data.{Data}
use Rattle.rec_container.proofs.Grammar.{step_at-spelled, step_at-same}
use Rattle.rec_container.proofs.Spelling.{prefix-ending}
use Rattle.rec_container.proofs.WholePrefixes.{spelled_prefix, written_prefix}
use Rattle.rec_container.specs.Container.{Entry, entry, magic, prefix, ending}
use Rattle.rec_container.specs.Container.{content_of, AreFrom, IsEntry}
use Rattle.rec_container.specs.declared.errors.ContainerSizes.{ContainerSizes}
use Rattle.rec_container.specs.declared.errors.ContainerWriteError.TheVariants.{
  Failed,
  BadName,
  NameCollision,
  CountOutOfRange,
  SinkFault,
  OutOfMemory,
}
use Rattle.rec_container.specs.declared.errors.ContainerWriteError.{ContainerWriteError}
use Rattle.rec_container.specs.Reading.{step_at}
use Rattle.rec_container.specs.Taking.{TookPart}
use Rattle.rec_container.specs.WholePrefixes.{IsStuck, IsWholePrefix}
use Rattle.rec_container.specs.Writing.{HasSizesOf, Unfinished}
use Rattle.rec_forms.specs.Outputs.{stored_outputs_value}
use Rattle.rec_forms.specs.Recording.{test_list_form, record_opts_form}
use Rattle.rec_forms.specs.Shape.{only}
use Rattle.rec_forms.specs.TextForm.{bytes_form}
use Rattle.rec_format.specs.RerunForms.{rerun_info_form}
use Rattle.rec_format.specs.ScopeForms.{recorded_scope_form}
use Rattle.rec_codec.proofs.CompactText.{IsPiece-from_is_piece, compact_text_piece}
use Rattle.rec_codec.specs.Event.{LiveEvent, RecordedEvent, event_text}
use Rattle.rec_codec.specs.Event.{event_line, log_text, IsLogged}
use Rattle.rec_codec.specs.EventForms.{event_value}
use Rattle.rec_store.proofs.StoreTaken.{appended, took_prefix}
use Rattle.rec_store.specs.Bundle.{events_recorded, run_outputs}
use Rattle.rec_store.specs.Entries.{build_scope_path, rerun_info_path, test_list_path}
use Rattle.rec_store.specs.Entries.{cargo_metadata_path, record_opts_path}
use Rattle.rec_store.specs.Kept.{HavePaths, IsHeld}
use Rattle.rec_store.specs.Recording.{Recording}
use Rattle.rec_store.specs.RunParts.{maybe_part}
use Rattle.rec_store.specs.Saved.{is_readable, IsReadable, required_paths, HasMetadata}
use Rattle.rec_store.specs.Saved.{IsUnended, AreStopped, TookEntries, TookLines, HasAccepted}

-- ---- the prefix of a store

length-none : (x y : List ℕ) → [] ≡ x ++ y → length y ≡ 0
length-none x y h = omega (arith, ap length h, length-append x y)

-- a proper prefix of an entry begins with no whole entry
part_stuck : (es : List Entry) (e : Entry) (k : ℕ) → IsEntry e → k < length (entry e)
    → IsStuck es (take k (entry e))
part_stuck es e k is short f rest is_f new_f h =
    let cut : entry e ++ [] ≡ entry f ++ (rest ++ drop k (entry e)) =
    append-nil (entry e) ∙ sym (take-append-drop k (entry e)) ∙ ap (λ l. l ++ drop k (entry e)) h
    ∙ append_assoc (entry f) rest (drop k (entry e)) in
    let both = step_at-same (e, []) (f, rest ++ drop k (entry e)) 0 [] (entry e ++ [])
    (step_at-spelled 0 [] e [] is refl)
    (ap (step_at 0 []) cut ∙ step_at-spelled 0 [] f (rest ++ drop k (entry e)) is_f refl) in
    let left : [] ≡ rest ++ drop k (entry e) = ap (λ (w : Entry × List ℕ). w.1) both in
    absurd (omega (arith, length-none rest (drop k (entry e)) left, length-drop k (entry e), short))

part_prefix : (es : List Entry) (e : Entry) (k : ℕ) → AreFrom [] es → IsEntry e
    → k < length (entry e) → IsWholePrefix (magic ++ flat_map entry es ++ take k (entry e)) es
part_prefix es e k are is short = record {
  rest = take k (entry e);
  prefix = record { spelled = refl; entries = are };
  stuck = part_stuck es e k is short;
}

-- the entries whose prefix a sink took, and perhaps a part of one more
left_prefix : (failed : Bool) (es : List Entry) (now : Option (List ℕ)) → AreFrom [] es
    → HavePaths es required_paths → TookEntries failed es now
    → IsSomeAnd now (λ s. IsWholePrefix s es)
left_prefix failed [] now are have took = absurd (let k = have.0 in cc)
left_prefix false (d ∷ es) now are have took =
    subst (λ (known : Option (List ℕ)). IsSomeAnd known (λ s. IsWholePrefix s (d ∷ es))) (sym took)
    (written_prefix (d ∷ es) are)
left_prefix true (d ∷ es) None are have took = absurd took.2.taken
left_prefix true (d ∷ es) (Some bytes) are have took =
    subst (λ (b : List ℕ). IsWholePrefix b (d ∷ es)) (sym took.2.taken)
    (part_prefix (d ∷ es) took.0 took.2.count are took.1 took.2.short)

-- and then the end
ended_prefix : (es : List Entry) (before now : Option (List ℕ)) → AreFrom [] es
    → before ≡ Some (prefix es) → Appends before now (ending es)
    → IsSomeAnd now (λ s. IsWholePrefix s es)
ended_prefix es before now are was h =
    let is = appended (prefix es) (ending es) now
    (subst (λ (known : Option (List ℕ)). Appends known now (ending es)) was h) in
    subst (λ (known : Option (List ℕ)). IsSomeAnd known (λ s. IsWholePrefix s es))
    (sym (is ∙ ap Some (prefix-ending es))) (spelled_prefix es are)

no_end : (k : ℕ) → k < 1 → take {A = ℕ} k (0 ∷ []) ≡ []
no_end zero h = refl
no_end (suc k) h = absurd (omega (arith, h))

-- or a part of the end, which is nothing
unended_prefix : (es : List Entry) (before now : Option (List ℕ)) → AreFrom [] es
    → HavePaths es required_paths → before ≡ Some (prefix es) → TookPart before now (ending es)
    → IsSomeAnd now (λ s. IsWholePrefix s es)
unended_prefix [] before now are have was h = absurd (let k = have.0 in cc)
unended_prefix (d ∷ es) before now are have was h =
    let part = subst (λ (known : Option (List ℕ)). TookPart known now (0 ∷ [])) was h in
    let none : prefix (d ∷ es) ++ take part.count (0 ∷ []) ≡ prefix (d ∷ es) =
    ap (λ l. prefix (d ∷ es) ++ l) (no_end part.count part.short) ∙ append-nil (prefix (d ∷ es)) in
    let is = appended (prefix (d ∷ es)) (take part.count (0 ∷ [])) now part.taken in
    subst (λ (known : Option (List ℕ)). IsSomeAnd known (λ s. IsWholePrefix s (d ∷ es)))
    (sym (is ∙ ap Some none)) (written_prefix (d ∷ es) are)

-- ---- the metadata in it

same_content : (a b : List ℕ) → Some a ≡ Some b → a ≡ b
same_content a b h = cc

readable_in : (b : Bool) (e : Entry) (path : List ℕ) (held : Option (List ℕ)) (content : List ℕ)
    → bytes_eq path e.name ≡ b → IsReadable e
    → (held ≡ Some content → IsTrue (is_readable path content))
    → (if b then Some e.content else held) ≡ Some content → IsTrue (is_readable path content)
readable_in true e path held content same read later h =
    subst (λ (c : List ℕ). IsTrue (is_readable path c)) (same_content e.content content h)
    (subst (λ (p : List ℕ). IsTrue (is_readable p e.content))
    (sym ((bytes_eq-Decides path e.name).0 same)) read)
readable_in false e path held content same read later h = later h

readable_found : (es : List Entry) (path content : List ℕ) → AllByRecursion IsReadable es
    → content_of es path ≡ Some content → IsTrue (is_readable path content)
readable_found [] path content are h = absurd (let k = h in cc)
readable_found (e ∷ es) path content are h =
    readable_in (bytes_eq path e.name) e path (content_of es path) content refl are.0
    (readable_found es path content are.1) h

part_found : {T : Type 0} (form : Data → Option T) (held : Option (List ℕ)) → IsTrue (is_some held)
    → ((content : List ℕ) → held ≡ Some content → IsTrue (is_some (bytes_form form content)))
    → IsTrue (is_some (option_and_then (bytes_form form) held))
part_found form None some read = absurd (let k = some in cc)
part_found form (Some content) some read = read content refl

some_mapped : {T : Type 0} (o : Option T) → IsTrue (is_some o)
    → IsTrue (is_some (option_map Some o))
some_mapped None h = h
some_mapped (Some x) h = refl

maybe_found : {T : Type 0} (form : Data → Option T) (held : Option (List ℕ))
    → ((content : List ℕ) → held ≡ Some content → IsTrue (is_some (bytes_form form content)))
    → IsTrue (is_some (maybe_part form held))
maybe_found form None read = refl
maybe_found form (Some content) read = some_mapped (bytes_form form content) (read content refl)

text_found : (held : Option (List ℕ)) → IsTrue (is_some held)
    → ((content : List ℕ) → held ≡ Some content → IsTrue (is_utf8 content))
    → IsTrue (is_some (option_and_then (λ s. only (is_utf8 s) s) held))
text_found None some read = absurd (let k = some in cc)
text_found (Some content) some read =
    subst (λ b. IsTrue (is_some (only b content))) (sym (read content refl)) refl

metadata_left : (es : List Entry) → AllByRecursion IsReadable es → HavePaths es required_paths
    → HasMetadata es
metadata_left es are have = record {
  build_scope =
      part_found recorded_scope_form (content_of es build_scope_path) have.0
      (λ content. readable_found es build_scope_path content are);
  rerun_info =
      maybe_found rerun_info_form (content_of es rerun_info_path)
      (λ content. readable_found es rerun_info_path content are);
  test_list =
      part_found test_list_form (content_of es test_list_path) have.1.0
      (λ content. readable_found es test_list_path content are);
  cargo_metadata =
      text_found (content_of es cargo_metadata_path) have.1.1.0
      (λ content. readable_found es cargo_metadata_path content are);
  record_opts =
      part_found record_opts_form (content_of es record_opts_path) have.1.1.1.0
      (λ content. readable_found es record_opts_path content are);
}

-- ---- the lines of a log

text_unended : (e : RecordedEvent) → IsUnended (event_text e)
unfolding event_text
text_unended e =
    IsPiece-from_is_piece (event_text e) (compact_text_piece (event_value stored_outputs_value e))

part_unended : (e : RecordedEvent) (k : ℕ) → k < length (event_line e)
    → IsUnended (take k (event_line e))
part_unended e k short =
    let text = event_text e in
    let within : k ≤ length text = omega (arith, short, length-append text (10 ∷ [])) in
    subst IsUnended (sym (take-append-le k text (10 ∷ []) within))
    (All-take (λ b. (b == 10) ≡ false) k text (text_unended e))

-- lines, and perhaps bytes in which none ends
abbrev IsLogOf : List RecordedEvent → List ℕ → Type 0
IsLogOf events log = (rest : List ℕ) × (log ≡ log_text events ++ rest) × IsUnended rest

left_log : (failed : Bool) (events : List RecordedEvent) (now : Option (List ℕ))
    → TookLines failed events now → IsSomeAnd now (IsLogOf events)
left_log false events now took =
    subst (λ (known : Option (List ℕ)). IsSomeAnd known (IsLogOf events)) (sym took)
    ([], sym (append-nil (log_text events)), All-nil (λ b. (b == 10) ≡ false))
left_log true events None took = absurd took.1.taken
left_log true events (Some log) took = (
  take took.1.count (event_line took.0),
  took.1.taken,
  part_unended took.0 took.1.count took.1.short,
)

-- ---- both

both_left : (number : List ℕ → ℕ) (m : ℕ) (events : List LiveEvent) (es : List Entry)
    (log store : Option (List ℕ))
    → IsSomeAnd log (IsLogOf (events_recorded number m events))
    → IsSomeAnd store (λ s. IsWholePrefix s es) → HasMetadata es
    → AllByRecursion (IsHeld es) (run_outputs number m events)
    → AllByRecursion IsLogged (events_recorded number m events)
    → AreStopped number m events log store
both_left number m events es None store p q metadata held logged = absurd p
both_left number m events es (Some log) None p q metadata held logged = absurd q
both_left number m events es (Some log) (Some store) p q metadata held logged = record {
  entries = es;
  prefix = q;
  metadata = metadata;
  outputs = held;
  rest = p.0;
  log_is = p.1;
  unended = p.2;
  logged = logged;
}

module _ {S L N : Type 0} (taken : S → Option (List ℕ)) (log_taken : L → Option (List ℕ))
    (number : N → List ℕ → ℕ) (events : List LiveEvent) (r : Recording S L N)
    (h : HasAccepted taken log_taken number events r)
    (have : HavePaths r.store.entries required_paths) where
  stopped_with : (store : Option (List ℕ)) → IsSomeAnd store (λ s. IsWholePrefix s r.store.entries)
      → AreStopped (number r.namer) r.max_output events (log_taken r.log) store
  stopped_with store prefix =
      both_left (number r.namer) r.max_output events r.store.entries (log_taken r.log) store
      (left_log r.log_failed (events_recorded (number r.namer) r.max_output events)
      (log_taken r.log) h.log)
      prefix (metadata_left r.store.entries h.readable have) h.outputs h.logged

  -- what a recorder's sinks hold
  pub accepted_stopped : AreStopped (number r.namer) r.max_output events (log_taken r.log)
      (taken r.store.sink)
  accepted_stopped =
      stopped_with (taken r.store.sink)
      (left_prefix r.store.failed r.store.entries (taken r.store.sink) h.distinct have h.store)

  -- and what they hold where the store's end was written, or was not
  pub ended_stopped : (faults : S → ℕ) (store : S)
      (result : Result ContainerSizes ContainerWriteError)
      → r.store.failed ≡ false
      → IfOk result (λ sizes. (r.store.failed ≡ false) × HasSizesOf r.store.entries sizes
      × Appends (taken r.store.sink) (taken store) (ending r.store.entries))
      → IfErr result (Unfinished taken faults r.store store)
      → AreStopped (number r.namer) r.max_output events (log_taken r.log) (taken store)
  ended_stopped faults store (Ok sizes) sound ok err =
      stopped_with (taken store)
      (ended_prefix r.store.entries (taken r.store.sink) (taken store) h.distinct
      (took_prefix r.store.failed r.store.entries (taken r.store.sink) sound h.store) ok.2)
  ended_stopped faults store (Err SinkFault) sound ok err =
      stopped_with (taken store)
      (unended_prefix r.store.entries (taken r.store.sink) (taken store) h.distinct have
      (took_prefix r.store.failed r.store.entries (taken r.store.sink) sound h.store) err.2)
  ended_stopped faults store (Err Failed) sound ok err = absurd (let k = sym err.0 ∙ sound in cc)
  ended_stopped faults store (Err BadName) sound ok err = absurd err
  ended_stopped faults store (Err NameCollision) sound ok err = absurd err
  ended_stopped faults store (Err CountOutOfRange) sound ok err = absurd err
  ended_stopped faults store (Err OutOfMemory) sound ok err = absurd err

-- ---- of a recorder that is seen as what it is

module _ {S L N : Type 0} (taken : S → Option (List ℕ)) (log_taken : L → Option (List ℕ))
    (number : N → List ℕ → ℕ) (seen is : Recording S L N) (same : seen ≡ is) where
  -- whose store gets no end
  pub unended_seen : (store : S) → store ≡ seen.store.sink → (events : List LiveEvent)
      → HasAccepted taken log_taken number events is → HavePaths is.store.entries required_paths
      → AreStopped (number is.namer) is.max_output events (log_taken seen.log) (taken store)
  unended_seen store kept events h have =
      let left = subst (λ (r : Recording S L N).
      AreStopped (number is.namer) is.max_output events (log_taken r.log) (taken r.store.sink))
      (sym same) (accepted_stopped taken log_taken number events is h have) in
      subst
      (λ (s : S). AreStopped (number is.namer) is.max_output events (log_taken seen.log) (taken s))
      (sym kept) left

  -- or gets one, or a part of it
  pub ended_seen : (faults : S → ℕ) (store : S) (result : Result ContainerSizes ContainerWriteError)
      → is.store.failed ≡ false
      → IfOk result (λ sizes. (seen.store.failed ≡ false) × HasSizesOf seen.store.entries sizes
      × Appends (taken seen.store.sink) (taken store) (ending seen.store.entries))
      → IfErr result (Unfinished taken faults seen.store store) → (events : List LiveEvent)
      → HasAccepted taken log_taken number events is → HavePaths is.store.entries required_paths
      → AreStopped (number is.namer) is.max_output events (log_taken seen.log) (taken store)
  ended_seen faults store result sound ok err events h have =
      subst (λ (r : Recording S L N).
      IfOk result (λ sizes. (r.store.failed ≡ false) × HasSizesOf r.store.entries sizes
      × Appends (taken r.store.sink) (taken store) (ending r.store.entries))
      → IfErr result (Unfinished taken faults r.store store)
      → AreStopped (number is.namer) is.max_output events (log_taken r.log) (taken store))
      (sym same)
      (ended_stopped taken log_taken number events is h have faults store result sound) ok err
