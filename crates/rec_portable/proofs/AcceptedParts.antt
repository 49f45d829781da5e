-- A bundle that is accepted has the parts of a run.
use Rattle.std.proofs.Common.{◌≡◌, ◌<◌, ◌^◌, ℕ, length, option_map, List, []}
use Rattle.std.proofs.Common.{◌∷◌, Bool, nat_lt, true, false, Option, Some, None, Result}
use Rattle.std.proofs.Common.{Ok, Err, refl, sym, ap, subst, ◌∙◌, if◌then◌else◌}
use Rattle.std.proofs.lemmas.Bool.{ltb-true}
use Rattle.std.proofs.lemmas.List.{length-map}
use Rattle.std.proofs.lemmas.Slice.Eq.{bytes_eq-Decides}
use Rattle.std.specs.List.{flat_map}
use Rattle.std.specs.Option.{option_or}
use Rattle.std.specs.Str.{bytes_eq}
use Rattle.rec_container.specs.Container.{Entry, content_of, IsContainer}
use Rattle.rec_container.specs.Reading.{◌>>=◌}
use Rattle.rec_container.specs.Writing.{entry_named}
use Rattle.rec_forms.specs.TextForm.{bytes_form}
use Rattle.rec_format.specs.declared.manifest.PortableManifest.{PortableManifest}
use Rattle.rec_format.specs.RunForms.{manifest_form}
use Rattle.rec_format.specs.Runs.{store_version_in}
use Rattle.rec_format.specs.Versions.{portable_version}
use Rattle.rec_store.proofs.PartsOf.{the_same}
use Rattle.rec_store.specs.Entries.{bundle_entries, log_name, manifest_name, store_name}
use Rattle.rec_store.specs.JudgedParts.{first_unnamed, parts_judged}
use Rattle.rec_store.specs.Kept.{event_paths, event_resolved}
use Rattle.rec_store.specs.Reading.{IsReading, RunRecord, record_of_parts}
use Rattle.rec_store.specs.RunParts.{HasParts, RunParts, parts_of, settled_info, written}
use Rattle.rec_portable.proofs.Judgements.{bind_ok, none_ok, or_read_ok}
use Rattle.rec_portable.proofs.Judgements.{same_ok, test_ok, unless_ok}
use Rattle.rec_portable.specs.declared.errors.PortableRecordingReadError.{
  PortableRecordingReadError,
}
use Rattle.rec_portable.specs.declared.upgrade_error.UpgradeError.TheVariants.{CountOutOfRange}
use Rattle.rec_portable.specs.declared.upgrade_error.UpgradeError.{UpgradeError}
use Rattle.rec_portable.specs.Judging.{format_checked, judged, manifest_found, manifest_read}
use Rattle.rec_portable.specs.Judging.{store_checked, versions_checked, within}
use Rattle.rec_portable.specs.OuterEntries.{log_found}
use Rattle.rec_portable.specs.Upgrades.{IsReadAndBack}
use Rattle.rec_portable.specs.Upgrading.{IsAccepted, first_foreign, names_judged}
use Rattle.rec_portable.specs.Upgrading.{none_foreign, or_read_error, written_refusal}

-- ---- the three entries

passed : (b : Bool) (name : List ℕ) (o : Option (List ℕ)) → (if b then o else Some name) ≡ None
    → (b ≡ true) × (o ≡ None)
passed true name o h = (refl, h)
passed false name o h = absurd cc

named_so : (e : Entry) (name : List ℕ) → bytes_eq e.name name ≡ true
    → e ≡ entry_named name e.content
named_so e name h = ap (λ n. entry_named n e.content) ((bytes_eq-Decides e.name name).0 h)

module _ (m l s : List ℕ) where
  pub three_entries : (es : List Entry) → first_foreign 0 es ≡ None
      → content_of es manifest_name ≡ Some m → content_of es log_name ≡ Some l
      → content_of es store_name ≡ Some s
      → es ≡ bundle_entries m l s
  three_entries [] h hm hl hs = absurd cc
  three_entries (a ∷ []) h hm hl hs =
      let p = passed (bytes_eq a.name manifest_name) a.name None h in
      let k = subst (λ (e : Entry). content_of (e ∷ []) log_name ≡ Some l)
      (named_so a manifest_name p.0) hl in
      absurd cc
  three_entries (a ∷ b ∷ []) h hm hl hs =
      let p = passed (bytes_eq a.name manifest_name) a.name (first_foreign 1 (b ∷ [])) h in
      let q = passed (bytes_eq b.name log_name) b.name None p.1 in
      let k = subst
      (λ (e : Entry). content_of (entry_named manifest_name a.content ∷ e ∷ []) store_name ≡ Some s)
      (named_so b log_name q.0)
      (subst (λ (e : Entry). content_of (e ∷ b ∷ []) store_name ≡ Some s)
      (named_so a manifest_name p.0) hs) in
      absurd cc
  three_entries (a ∷ b ∷ c ∷ []) h hm hl hs =
      let p = passed (bytes_eq a.name manifest_name) a.name (first_foreign 1 (b ∷ c ∷ [])) h in
      let q = passed (bytes_eq b.name log_name) b.name (first_foreign 2 (c ∷ [])) p.1 in
      let r = passed (bytes_eq c.name store_name) c.name None q.1 in
      let same : (a ∷ b ∷ c ∷ []) ≡ bundle_entries a.content b.content c.content =
      ap (λ (e : Entry). e ∷ b ∷ c ∷ []) (named_so a manifest_name p.0)
      ∙ ap (λ (e : Entry). entry_named manifest_name a.content ∷ e ∷ c ∷ [])
      (named_so b log_name q.0)
      ∙ ap
      (λ (e : Entry). entry_named manifest_name a.content ∷ entry_named log_name b.content ∷ e ∷ [])
      (named_so c store_name r.0) in
      let am : a.content ≡ m =
      the_same _ _ (ap (λ (es : List Entry). content_of es manifest_name) (sym same) ∙ hm) in
      let bl : b.content ≡ l =
      the_same _ _ (ap (λ (es : List Entry). content_of es log_name) (sym same) ∙ hl) in
      let cs : c.content ≡ s =
      the_same _ _ (ap (λ (es : List Entry). content_of es store_name) (sym same) ∙ hs) in
      same ∙ ap (λ x. bundle_entries x b.content c.content) am
      ∙ ap (λ x. bundle_entries m x c.content) bl ∙ ap (bundle_entries m l) cs
  three_entries (a ∷ b ∷ c ∷ d ∷ es) h hm hl hs =
      let p = passed (bytes_eq a.name manifest_name) a.name (first_foreign 1 (b ∷ c ∷ d ∷ es)) h in
      let q = passed (bytes_eq b.name log_name) b.name (first_foreign 2 (c ∷ d ∷ es)) p.1 in
      let r = passed (bytes_eq c.name store_name) c.name (first_foreign 3 (d ∷ es)) q.1 in
      let k : Some d.name ≡ None = r.1 in absurd cc

-- ---- manifest and log

found_ok : (es : List Entry) (o : Option (List ℕ)) (text : List ℕ) → manifest_found es o ≡ Ok text
    → o ≡ Some text
found_ok es None text h = absurd (let k = h in cc)
found_ok es (Some x) text h = let k = h in cc

read_ok : (o : Option PortableManifest) (m : PortableManifest) → manifest_read o ≡ Ok m → o ≡ Some m
read_ok None m h = absurd (let k = h in cc)
read_ok (Some x) m h = let k = h in cc

versions_same : (m x : PortableManifest) → versions_checked m ≡ Ok x → m ≡ x
versions_same m x h =
    let format = bind_ok (format_checked m.format_version)
    (λ _. store_checked (store_version_in m.run) >>= (λ _. Ok m)) x h in
    let store = bind_ok (store_checked (store_version_in m.run)) (λ _. Ok m) x format.2 in
    same_ok PortableRecordingReadError m x store.2

-- the text that was judged as this manifest is read as it
pub judged_text : (limit : ℕ) (es : List Entry) (m : PortableManifest) → judged limit es ≡ Ok m
    → (text : List ℕ) × (content_of es manifest_name ≡ Some text)
    × (bytes_form manifest_form text ≡ Some m)
judged_text limit es m h =
    let found = bind_ok (manifest_found es (content_of es manifest_name)) _ m h in
    let content = bind_ok (within limit manifest_name found.0) _ m found.2 in
    let read = bind_ok (manifest_read (bytes_form manifest_form content.0)) _ m content.2 in
    let text = test_ok _ _ found.0 content.0 content.1 in (
      content.0,
      found_ok es _ found.0 found.1 ∙ ap Some text,
      read_ok _ read.0 read.1 ∙ ap Some (versions_same read.0 m read.2),
    )

pub log_text : (limit : ℕ) (o : Option (List ℕ)) (log : List ℕ) → log_found limit o ≡ Ok log
    → o ≡ Some log
log_text limit None log h = absurd (let k = h in cc)
log_text limit (Some content) log h = ap Some (test_ok _ _ content log h)

-- ---- all of them

-- the parts that are judged one by one are those that a bundle is read as
abbrev pub JudgedRead : Type 0
JudgedRead =
    (limit : ℕ) (manifest log : List ℕ) (m : PortableManifest) (es : List Entry) (p : RunParts)
    → bytes_form manifest_form manifest ≡ Some m
    → parts_judged limit m log es ≡ Ok p → first_unnamed (flat_map event_paths p.events) es ≡ None
    → parts_of manifest log es ≡ Some p

pub accepted_parts : JudgedRead → (bytes : List ℕ) (limit : ℕ) (p : RunParts)
    → IsAccepted bytes limit p → HasParts bytes p
accepted_parts judged_read bytes limit p a =
    let o = a.0 in
    let names = bind_ok (names_judged o.outer) _ p a.1 in
    let run = bind_ok (or_read_error (parts_judged limit o.manifest o.log o.entries)) _ p names.2 in
    let unnamed = bind_ok
    (none_foreign (first_unnamed (flat_map event_paths run.0.events) o.entries)) _ p run.2 in
    let is = (unless_ok _ run.0 p unnamed.2).1 in
    let m = judged_text limit o.outer o.manifest o.is_judged in
    let read = judged_read limit m.0 o.log o.manifest o.entries run.0 m.2 (or_read_ok _ run.0 run.1)
    (none_ok _ unnamed.0 unnamed.1) in
    record {
      manifest = m.0;
      log = o.log;
      store = o.store;
      entries = o.entries;
      bundled =
          subst (IsContainer bytes) (three_entries m.0 o.log o.store o.outer
          (none_ok _ names.0 names.1) m.1 (log_text limit _ o.log o.log_read) o.store_found)
          o.spelled;
      stored = o.stored;
      read = read ∙ ap Some is;
    }

-- ---- how long it is written

short_written : (b : Bool) (r : Option UpgradeError)
    → option_or (if b then None else Some CountOutOfRange) r ≡ None
    → b ≡ true
short_written true r h = refl
short_written false r h = absurd (let k = h in cc)

-- the length of what is written of it is a u64
accepted_short : (bytes : List ℕ) (limit : ℕ) (p : RunParts) → IsAccepted bytes limit p
    → length (written p) < 2 ^ 64
accepted_short bytes limit p a =
    let o = a.0 in
    let names = bind_ok (names_judged o.outer) _ p a.1 in
    let run = bind_ok (or_read_error (parts_judged limit o.manifest o.log o.entries)) _ p names.2 in
    let unnamed = bind_ok
    (none_foreign (first_unnamed (flat_map event_paths run.0.events) o.entries)) _ p run.2 in
    let fits = unless_ok (written_refusal limit run.0) run.0 p unnamed.2 in
    let short = short_written (nat_lt (length (written run.0)) (2 ^ 64)) _ fits.0 in
    subst (λ (q : RunParts). length (written q) < 2 ^ 64) fits.1
    (ltb-true (length (written run.0)) (2 ^ 64) short)

-- ---- what it is read as

-- a bundle of these parts is read as their record
pub record_of_bundle : (bytes : List ℕ) (p : RunParts) → (has : HasParts bytes p)
    → IsReading bytes (record_of_parts has.entries p)
record_of_bundle bytes p has = record {
  manifest = has.manifest;
  log = has.log;
  store = has.store;
  entries = has.entries;
  bundled = has.bundled;
  stored = has.stored;
  read = ap (option_map (record_of_parts has.entries)) has.read;
}

-- what is written of it is read as the same
abbrev pub WrittenRead : Type 0
WrittenRead =
    (bytes : List ℕ) (p : RunParts) (r : RunRecord) → HasParts bytes p → IsReading bytes r
    → length (written p) < 2 ^ 64
    → IsReading (written p) (record r { format_version = portable_version; run = settled_info p })

pub accepted_read : JudgedRead → WrittenRead → (bytes : List ℕ) (limit : ℕ) (p : RunParts)
    → IsAccepted bytes limit p → IsReadAndBack bytes p
accepted_read judged_read written_read bytes limit p a =
    let has = accepted_parts judged_read bytes limit p a in
    let small = accepted_short bytes limit p a in
    let r = record_of_parts has.entries p in
    let reads = record_of_bundle bytes p has in
    record {
      has_parts = has;
      run = r;
      reads = reads;
      reads_back = written_read bytes p r has reads small;
      events = length-map p.events (event_resolved has.entries);
      outputs = refl;
    }
