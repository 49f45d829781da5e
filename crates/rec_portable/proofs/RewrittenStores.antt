-- A store that is written anew: its texts, its names and its sizes.
use Rattle.std.proofs.Common.{◌≡◌, ◌<◌, ◌≤◌, ◌+◌, ◌^◌, ◌⊎◌, inl, inr, ℕ, List, [], ◌∷◌, ◌++◌}
use Rattle.std.proofs.Common.{Bool, true, false, not, filter, length, map, nat_lt, Option, Some}
use Rattle.std.proofs.Common.{None, Result, Ok, Err, IfOk, IfErr, Vec, Global, string_bytes}
use Rattle.std.proofs.Common.{refl, sym, ap, subst, ◌∙◌, arith, length-append, if◌then◌else◌}
use Rattle.std.proofs.lemmas.Bool.{le-ltb, lt-ltb, ltb-true}
use Rattle.std.proofs.lemmas.List.{length-map}
use Rattle.std.specs.List.{AllByRecursion}
use Rattle.std.specs.Option.{option_or}
use Rattle.serde_json.specs.Written.{compact_text}
use Rattle.rec_container.proofs.Lengths.{content_bytes-below}
use Rattle.rec_container.specs.Container.{AreFrom, Entry, spell}
use Rattle.rec_container.specs.declared.named_contents.NamedContent.{NamedContent}
use Rattle.rec_container.specs.NamedContents.{entry_of}
use Rattle.rec_container.specs.Writing.{entry_named}
use Rattle.rec_forms.specs.Recording.{test_list_value, record_opts_value}
use Rattle.rec_format.specs.declared.manifest.PortableManifest.{PortableManifest}
use Rattle.rec_format.specs.declared.rerun.RerunInfo.{RerunInfo}
use Rattle.rec_format.specs.declared.run.RecordedRunInfo.{RecordedRunInfo}
use Rattle.rec_format.specs.declared.sizes.ComponentSizes.{ComponentSizes}
use Rattle.rec_format.specs.declared.sizes.RecordedSizes.{RecordedSizes}
use Rattle.rec_format.specs.RunForms.{manifest_value}
use Rattle.rec_format.specs.Runs.{info_of, manifest_of}
use Rattle.rec_format.specs.ScopeForms.{recorded_scope_value}
use Rattle.rec_format.specs.Versions.{store_version}
use Rattle.rec_store.proofs.Held.{all_append}
use Rattle.rec_store.specs.Ending.{sizes_of_log, sizes_of_store}
use Rattle.rec_store.specs.Entries.{build_scope_path, bundle_entries, log_name}
use Rattle.rec_store.specs.Entries.{manifest_name, rerun_info_path, three_entries}
use Rattle.rec_store.specs.RunParts.{RunParts, is_metadata, written, written_entries}
use Rattle.rec_store.specs.RunParts.{written_log, written_manifest, written_sizes, written_store}
use Rattle.rec_store.specs.Store.{build_scope_entry, metadata_of, rerun_entries}
use Rattle.rec_portable.specs.declared.upgrade_error.UpgradeError.TheVariants.{
  CountOutOfRange,
  OutOfMemory,
}
use Rattle.rec_portable.specs.declared.upgrade_error.UpgradeError.{UpgradeError}
use Rattle.rec_portable.specs.declared.upgrading.metadata.MetadataTexts.{MetadataTexts}
use Rattle.rec_portable.specs.declared.upgrading.parts.RewrittenRun.{RewrittenRun}
use Rattle.rec_portable.specs.declared.upgrading.RunTexts.{RunTexts}
use Rattle.rec_portable.specs.Rewriting.{IsMadeOf, IsRerunText, IsRewrittenRun, Judges}
use Rattle.rec_portable.specs.Rewriting.{MetadataParts, metadata_entries, other_entries}
use Rattle.rec_portable.specs.Rewriting.{rerun_text_entries, settled_text, text_entries}
use Rattle.rec_portable.specs.Upgrading.{entries_refusal, length_refusal, unless, written_refusal}

abbrev pub done : Unit {0}
done = tt

-- ---- texts

rerun_same : (info : Option RerunInfo) (text : Option (Vec ℕ Global)) → IsRerunText info text
    → rerun_text_entries text ≡ rerun_entries info
rerun_same None None h = refl
rerun_same None (Some text) h = absurd h
rerun_same (Some info) None h = absurd h
rerun_same (Some info) (Some text) h = ap (λ (b : List ℕ). entry_named rerun_info_path b ∷ []) h

pub texts_same : (t : MetadataTexts) (m : MetadataParts)
    → t.build_scope.items ≡ compact_text (recorded_scope_value m.build_scope)
    → IsRerunText m.rerun_info t.rerun_info
    → t.test_list.items ≡ compact_text (test_list_value m.test_list)
    → string_bytes t.cargo_metadata ≡ m.cargo_metadata
    → t.record_opts.items ≡ compact_text (record_opts_value m.record_opts)
    → text_entries t ≡ metadata_entries m
texts_same t m scope rerun list metadata opts =
    let built = build_scope_entry m.build_scope in
    let again = rerun_entries m.rerun_info in
    let listed = compact_text (test_list_value m.test_list) in
    ap (λ (b : List ℕ). entry_named build_scope_path b ∷ (rerun_text_entries t.rerun_info
    ++ three_entries t.test_list.items (string_bytes t.cargo_metadata) t.record_opts.items))
    scope
    ∙ ap (λ (es : List Entry). built
    ∷ (es ++ three_entries t.test_list.items (string_bytes t.cargo_metadata) t.record_opts.items))
    (rerun_same m.rerun_info t.rerun_info rerun)
    ∙ ap (λ (b : List ℕ).
    built ∷ (again ++ three_entries b (string_bytes t.cargo_metadata) t.record_opts.items)) list
    ∙ ap (λ (b : List ℕ). built ∷ (again ++ three_entries listed b t.record_opts.items)) metadata
    ∙ ap (λ (b : List ℕ). built ∷ (again ++ three_entries listed m.cargo_metadata b)) opts

-- ---- names

abbrev IsShort : Entry → Type 0
IsShort e = length e.name < 65536

of_texts : (t : MetadataTexts) → AllByRecursion IsShort (text_entries t)
of_texts t = (
  omega arith,
  all_append IsShort (rerun_text_entries t.rerun_info) _ (of_rerun t.rerun_info)
      (omega arith, (omega arith, (omega arith, tt))),
)
  where
    of_rerun : (text : Option (Vec ℕ Global)) → AllByRecursion IsShort (rerun_text_entries text)
    of_rerun None = tt
    of_rerun (Some text) = (omega arith, tt)

of_entries : (seen es : List Entry) → AreFrom seen es → AllByRecursion IsShort es
of_entries seen [] h = tt
of_entries seen (e ∷ es) h = (h.0.name.short, of_entries (seen ++ e ∷ []) es h.2)

of_others : (es : List Entry) → AllByRecursion IsShort es
    → AllByRecursion IsShort (other_entries es)
of_others [] h = tt
of_others (e ∷ es) h = by (is_metadata e.name) (of_others es h.1)
  where
    by : (b : Bool) → AllByRecursion IsShort (other_entries es)
        → AllByRecursion IsShort (if not b then e ∷ other_entries es else other_entries es)
    by true rest = rest
    by false rest = (h.0, rest)

of_contents : (cs : List NamedContent) → AllByRecursion IsShort (map entry_of cs)
    → AllByRecursion (λ (c : NamedContent). length c.name.now < 65536) cs
of_contents [] h = tt
of_contents (c ∷ cs) h = (h.0, of_contents cs h.1)

pub short_names : (t : MetadataTexts) (es : List Entry) (cs : List NamedContent) → AreFrom [] es
    → map entry_of cs ≡ text_entries t ++ other_entries es
    → AllByRecursion (λ (c : NamedContent). length c.name.now < 65536) cs
short_names t es cs from are =
    of_contents cs (subst (AllByRecursion IsShort) (sym are) (all_append IsShort (text_entries t)
    (other_entries es) (of_texts t) (of_others es (of_entries [] es from))))

-- ---- lengths

length_passes : (b : List ℕ) → length b < 2 ^ 64 → length_refusal b ≡ None
length_passes b short =
    ap (λ t. if t then None else Some CountOutOfRange) (lt-ltb (length b) (2 ^ 64) short)

length_refused : (p : RunParts) (limit : ℕ) → ¬ (length (written p) < 2 ^ 64)
    → written_refusal limit p ≡ Some CountOutOfRange
length_refused p limit long = by (nat_lt (length (written p)) (2 ^ 64)) refl
  where
    rest : Option UpgradeError
    rest =
        entries_refusal limit (entry_named manifest_name (written_manifest p)
        ∷ entry_named log_name (written_log p) ∷ written_store p)

    by : (b : Bool) → nat_lt (length (written p)) (2 ^ 64) ≡ b
        → option_or (if b then None else Some CountOutOfRange) rest ≡ Some CountOutOfRange
    by true is = absurd (long (ltb-true (length (written p)) (2 ^ 64) is))
    by false is = refl

-- ---- refusals

-- a store that is too long makes the bundle too long
pub store_too_long : (p : RunParts) (limit : ℕ) (es : List Entry) → es ≡ written_store p
    → ¬ (length (spell es) < 2 ^ 64) → written_refusal limit p ≡ Some CountOutOfRange
store_too_long p limit es is long = length_refused p limit (λ short.
    let below = content_bytes-below (written_entries p) in
    long (subst (λ (fs : List Entry). length (spell fs) < 2 ^ 64) (sym is)
    (omega (arith, below, short))))

-- where the length is a u64, the sizes decide
pub sizes_decide : (p : RunParts) (limit : ℕ) (refusal : Option UpgradeError)
    → length (written p) < 2 ^ 64
    → refusal ≡ entries_refusal limit (entry_named manifest_name (written_manifest p)
    ∷ entry_named log_name (written_log p) ∷ written_store p)
    → written_refusal limit p ≡ refusal
sizes_decide p limit refusal short is =
    ap (λ o. option_or o (entries_refusal limit (entry_named manifest_name (written_manifest p)
    ∷ entry_named log_name (written_log p) ∷ written_store p)))
    (length_passes (written p) short)
    ∙ sym is

pub unless_passed : (o : Option UpgradeError) (u v : Unit {0}) → unless o u ≡ Ok v → o ≡ None
unless_passed None u v h = refl
unless_passed (Some e) u v h = absurd (let k = h in cc)

pub unless_refused : (o : Option UpgradeError) (u : Unit {0}) (e : UpgradeError)
    → unless o u ≡ Err e → o ≡ Some e
unless_refused None u e h = absurd (let k = h in cc)
unless_refused (Some f) u e h = let k = h in cc

-- ---- sizes

module _ (p : RunParts) (m : PortableManifest) (texts : RunTexts) (es : List Entry)
    (made : IsMadeOf p m texts es) where
  pub sizes_same : (bytes : ℕ) (store : ComponentSizes) → bytes ≡ length texts.log.items
      → store ≡ sizes_of_store es
      → record {
        log = record { compressed = bytes; uncompressed = bytes; entries = texts.events };
        store = store;
      } ≡ written_sizes p
  sizes_same bytes store counted sized =
      let log = counted ∙ ap length made.log in
      ap (λ n. record { log = sizes_of_log n texts.events; store = store }) log
      ∙ ap (λ n. record { log = sizes_of_log (length (written_log p)) n; store = store })
      made.events
      ∙ ap
      (λ z. record { log = sizes_of_log (length (written_log p)) (length p.events); store = z })
      (sized ∙ ap sizes_of_store made.store_is)

  pub settled_same : (text : List ℕ) (sizes : RecordedSizes) → text ≡ settled_text m sizes
      → sizes ≡ written_sizes p → text ≡ written_manifest p
  settled_same text sizes is same =
      is ∙ ap (λ (info : RecordedRunInfo). compact_text (manifest_value
      (manifest_of (record info { store_format_version = store_version; sizes = sizes }))))
      (sym made.run)
      ∙ ap (λ (z : RecordedSizes). compact_text (manifest_value
      (manifest_of (record p.run { store_format_version = store_version; sizes = z }))))
      same

  module _ (text store : List ℕ) (text_is : text ≡ written_manifest p)
      (store_is : store ≡ spell es) where
    pub bundle_same : spell (bundle_entries text texts.log.items store) ≡ written p
    bundle_same =
        ap (λ (x : List ℕ). spell (bundle_entries x texts.log.items store)) text_is
        ∙ ap (λ (x : List ℕ). spell (bundle_entries (written_manifest p) x store)) made.log
        ∙ ap (λ (x : List ℕ). spell (bundle_entries (written_manifest p) (written_log p) x))
        (store_is ∙ ap spell made.store_is)

    pub refusal_same : (limit : ℕ)
        → entries_refusal limit
        (entry_named manifest_name text ∷ entry_named log_name texts.log.items ∷ es)
        ≡ entries_refusal limit (entry_named manifest_name (written_manifest p)
        ∷ entry_named log_name (written_log p) ∷ written_store p)
    refusal_same limit =
        ap (λ (x : List ℕ). entries_refusal limit
        (entry_named manifest_name x ∷ entry_named log_name texts.log.items ∷ es))
        text_is
        ∙ ap (λ (x : List ℕ). entries_refusal limit
        (entry_named manifest_name (written_manifest p) ∷ entry_named log_name x ∷ es))
        made.log
        ∙ ap (λ (fs : List Entry). entries_refusal limit (entry_named manifest_name
        (written_manifest p) ∷ entry_named log_name (written_log p) ∷ fs)) made.store_is

    -- the sizes of the contents, where the length is a u64
    module _ (limit : ℕ)
        (short : length (spell (bundle_entries text texts.log.items store)) < 2 ^ 64) where
      pub short_bundle : length (written p) < 2 ^ 64
      short_bundle = subst (λ (b : List ℕ). length b < 2 ^ 64) bundle_same short

      decided : written_refusal limit p ≡ entries_refusal limit
          (entry_named manifest_name text ∷ entry_named log_name texts.log.items ∷ es)
      decided = sizes_decide p limit _ short_bundle (refusal_same limit)

      pub sizes_passed : unless (entries_refusal limit
          (entry_named manifest_name text ∷ entry_named log_name texts.log.items ∷ es))
          done
          ≡ Ok done
          → written_refusal limit p ≡ None
      sizes_passed h = decided ∙ unless_passed _ done done h

      pub sizes_refused : (e : UpgradeError)
          → (e ≡ OutOfMemory) ⊎ (unless (entries_refusal limit (entry_named manifest_name text
          ∷ entry_named log_name texts.log.items ∷ es)) done ≡ Err e)
          → (e ≡ OutOfMemory) ⊎ (written_refusal limit p ≡ Some e)
      sizes_refused e (inl memory) = inl memory
      sizes_refused e (inr h) = inr (decided ∙ unless_refused _ done e h)

    -- a length that is no u64
    pub too_long : (limit : ℕ)
        → ¬ (length (spell (bundle_entries text texts.log.items store)) < 2 ^ 64)
        → written_refusal limit p ≡ Some CountOutOfRange
    too_long limit long =
        length_refused p limit
        (λ short. long (subst (λ (b : List ℕ). length b < 2 ^ 64) (sym bundle_same) short))

-- ---- what a run is made of

pub made_of : (p : RunParts) (m : PortableManifest) (run : RewrittenRun) (texts : RunTexts)
    (es : List Entry) (cs : List NamedContent) (count : ℕ)
    → IsRewrittenRun m es p run
    → texts.log.items ≡ run.log.items → texts.events ≡ run.events
    → map entry_of cs ≡ text_entries run.metadata ++ other_entries es
    → count ≡ length (text_entries run.metadata) → texts.outputs + count ≡ length cs
    → IsMadeOf p m texts (map entry_of cs)
made_of p m run texts es cs count is log events stored counted outputs =
    let all : length cs ≡ length (text_entries run.metadata) + length (other_entries es) =
    sym (length-map cs entry_of) ∙ ap length stored
    ∙ length-append (text_entries run.metadata) (other_entries es) in
    let others : length (other_entries es) ≡ length p.outputs = ap length (sym is.outputs) in
    record {
      run = is.run_is;
      log = log ∙ is.log;
      events = events ∙ is.events;
      outputs = omega (arith, all, others, counted, outputs);
      store_is = stored ∙ ap (λ (l : List Entry). l ++ other_entries es) is.metadata
          ∙ ap (λ (l : List Entry). metadata_of p.build_scope p.rerun_info p.cargo_metadata
          p.test_list p.record_opts ++ l) (sym is.outputs);
    }

pub store_refused : (p : RunParts) (limit : ℕ) (es : List Entry) (e : UpgradeError)
    → es ≡ written_store p
    → (e ≡ OutOfMemory) ⊎ ((e ≡ CountOutOfRange) × ¬ (length (spell es) < 2 ^ 64))
    → (e ≡ OutOfMemory) ⊎ (written_refusal limit p ≡ Some e)
store_refused p limit es e is (inl memory) = inl memory
store_refused p limit es e is (inr (long, h)) =
    inr (store_too_long p limit es is h ∙ ap Some (sym long))

-- the count of the texts can be taken off
pub count_fits : (t : MetadataTexts) (es : List Entry) (cs : List NamedContent) (count : ℕ)
    → map entry_of cs ≡ text_entries t ++ other_entries es → count ≡ length (text_entries t)
    → count ≤ length cs
count_fits t es cs count stored counted =
    let all : length cs ≡ length (text_entries t) + length (other_entries es) =
    sym (length-map cs entry_of) ∙ ap length stored
    ∙ length-append (text_entries t) (other_entries es) in
    omega (arith, all, counted)

-- ---- texts that are lent

pub bundle_texts : (a b c x y z : List ℕ) → a ≡ x → b ≡ y → c ≡ z
    → spell (bundle_entries a b c) ≡ spell (bundle_entries x y z)
bundle_texts a b c x y z ax by cz =
    ap (λ (t : List ℕ). spell (bundle_entries t b c)) ax
    ∙ ap (λ (t : List ℕ). spell (bundle_entries x t c)) by
    ∙ ap (λ (t : List ℕ). spell (bundle_entries x y t)) cz

pub judged_texts : (limit : ℕ) (a b x y : List ℕ) (es : List Entry)
    (r : Result (Unit {0}) UpgradeError)
    → a ≡ x → b ≡ y
    → Judges (unless
    (entries_refusal limit (entry_named manifest_name a ∷ entry_named log_name b ∷ es)) done)
    r
    → Judges (unless
    (entries_refusal limit (entry_named manifest_name x ∷ entry_named log_name y ∷ es)) done)
    r
judged_texts limit a b x y es r ax by h =
    subst (λ (t : List ℕ). Judges (unless
    (entries_refusal limit (entry_named manifest_name x ∷ entry_named log_name t ∷ es)) done) r) by
    (subst (λ (t : List ℕ). Judges (unless (entries_refusal limit
    (entry_named manifest_name t ∷ entry_named log_name b ∷ es)) done) r) ax h)
