-- What is left of a disk on which a bundle was written, or wasn't.
use Rattle.std.proofs.Common.{◌≡◌, ℕ, ◌+◌, ◌≤◌, Bool, true, false, cond, List, [], ◌∷◌}
use Rattle.std.proofs.Common.{◌++◌, length, take, drop, codes, Option, Some, None, Ok, Err}
use Rattle.std.proofs.Common.{refl, sym, ap, subst, ◌∙◌, inl, inr, arith, length-append}
use Rattle.std.proofs.lemmas.List.{append_assoc}
use Rattle.std.proofs.lemmas.Slice.Eq.{bytes_eq-Decides}
use Rattle.std.proofs.Math.Seq.{drop-append_seam}
use Rattle.std.specs.Str.{bytes_eq}
use Rattle.serde_json.specs.Written.{compact_text}
use Rattle.rec_container.specs.Causes.{Rose}
use Rattle.rec_container.specs.Container.{spell}
use Rattle.rec_disk.specs.declared.disk.DiskError.TheVariants.{Missing, DiskFailed, OutOfMemory}
use Rattle.rec_disk.specs.declared.disk.DiskError.{DiskError}
use Rattle.rec_disk.specs.Disks.{AreSame, BothKnown, Files, HasDiskCause, renamed}
use Rattle.rec_format.specs.declared.manifest.PortableManifest.{PortableManifest}
use Rattle.rec_format.specs.declared.run.RecordedRunInfo.{RecordedRunInfo}
use Rattle.rec_format.specs.RunForms.{manifest_value}
use Rattle.rec_format.specs.Runs.{manifest_of}
use Rattle.rec_store.specs.Entries.{bundle_entries}
use Rattle.rec_directory.specs.Files.{IsWhole, IsWholeOf}
use Rattle.rec_directory.specs.Paths.{ends_open, joined, path_of_log, path_of_store}
use Rattle.rec_portable_writer.proofs.Replacements.{put_there}
use Rattle.rec_portable_writer.specs.declared.packing.PortableRecordingResult.{
  PortableRecordingResult,
}
use Rattle.rec_portable_writer.specs.Names.{temporary_path}
use Rattle.rec_portable_writer.specs.Packing.{Bundles, IsBundle, Packed, PacksIn}
use Rattle.rec_portable_writer.specs.Packing.{Unpacked, bundle_of, write_error}
use Rattle.rec_portable_writer.specs.Replacing.{IsBegun, Replaces, ReplacesFile}

-- ---- paths that differ

apart : (x y : List ℕ) → (x ≡ y → ⊥) → bytes_eq x y ≡ false
apart x y differ = by (bytes_eq x y) refl
  where
    by : (b : Bool) → bytes_eq x y ≡ b → bytes_eq x y ≡ false
    by true e = absurd (differ ((bytes_eq-Decides x y).0 e))
    by false e = e

own : (x : List ℕ) → bytes_eq x x ≡ true
own x = (bytes_eq-Decides x x).1 refl

temporary_apart : (path : List ℕ) → temporary_path path ≡ path → ⊥
temporary_apart path h =
    let longer : length path + length (codes ".tmp") ≡ length path =
    sym (length-append path (codes ".tmp")) ∙ ap length h in
    let four : length (codes ".tmp") ≡ 4 = refl in
    omega (arith, longer, four)

-- texts of one length at two ends are one text
same_end : (x y a b : List ℕ) → length a ≡ length b → x ++ a ≡ y ++ b → a ≡ b
same_end x y a b long h =
    let same : length x + length a ≡ length y + length b =
    sym (length-append x a) ∙ ap length h ∙ length-append y b in
    let even : length x ≡ length y = omega (arith, same, long) in
    sym (drop-append_seam x a) ∙ ap (λ n. drop n (x ++ a)) even ∙ ap (drop (length y)) h
    ∙ drop-append_seam y b

abbrev second : List ℕ → ℕ
second [] = 0
second (x ∷ []) = 0
second (x ∷ y ∷ xs) = y

-- no name of a run's file ends as a temporary path does
end_apart : (x path rest end : List ℕ) → length end ≡ 4 → (second end ≡ 116 → ⊥)
    → x ++ (rest ++ end) ≡ temporary_path path → ⊥
end_apart x path rest end long differ h =
    let four : length (codes ".tmp") ≡ 4 = refl in
    differ (ap second
    (same_end (x ++ rest) path end (codes ".tmp") (long ∙ sym four) (append_assoc x rest end ∙ h)))

joined_apart : (dir path rest end : List ℕ) → length end ≡ 4 → (second end ≡ 116 → ⊥)
    → joined dir (rest ++ end) ≡ temporary_path path → ⊥
joined_apart dir path rest end long differ = by (ends_open dir)
  where
    by : (b : Bool)
        → cond b (dir ++ (rest ++ end)) ((dir ++ 47 ∷ []) ++ (rest ++ end)) ≡ temporary_path path
        → ⊥
    by true h = end_apart dir path rest end long differ h
    by false h = end_apart (dir ++ 47 ∷ []) path rest end long differ h

log_apart : (dir path : List ℕ) → path_of_log dir ≡ temporary_path path → ⊥
log_apart dir path =
    joined_apart dir path (codes "run.log") (codes ".zst") refl
    (λ e. let z : 122 ≡ 116 = e in omega (arith, z))

store_apart : (dir path : List ℕ) → path_of_store dir ≡ temporary_path path → ⊥
store_apart dir path =
    joined_apart dir path (codes "store") (codes ".zip") refl
    (λ e. let z : 122 ≡ 116 = e in omega (arith, z))

-- ---- the bundle

whole_some : (file : Option (List ℕ)) (bytes : List ℕ) → IsWholeOf file bytes → file ≡ Some bytes
whole_some None bytes h = absurd h
whole_some (Some content) bytes h = ap Some (sym h)

pub bundles : (files after : Option Files) (info : RecordedRunInfo) (dir log store bundle : List ℕ)
    → after ≡ files → IsWhole files (path_of_log dir) log → IsWhole after (path_of_store dir) store
    → bundle ≡ bundle_of info log store
    → Bundles files info dir bundle
bundles files after info dir log store bundle same log_read store_read is =
    by files log_read
    (subst (λ (fs : Option Files). IsWhole fs (path_of_store dir) store) same store_read)
  where
    by : (fs : Option Files) → IsWhole fs (path_of_log dir) log
        → IsWhole fs (path_of_store dir) store → Bundles fs info dir bundle
    by None l s = tt
    by (Some fs) l s = record {
      log = log;
      store = store;
      log_read = whole_some (fs (path_of_log dir)) log l;
      store_read = whole_some (fs (path_of_store dir)) store s;
      is = is;
    }

pub is_bundle_of : (manifest : PortableManifest) (info : RecordedRunInfo)
    (log store l s text : List ℕ)
    → text ≡ spell (bundle_entries (compact_text (manifest_value manifest)) l s)
    → manifest ≡ manifest_of info → l ≡ log → s ≡ store
    → text ≡ bundle_of info log store
unfolding bundle_of
is_bundle_of manifest info log store l s text is made logged stored =
    is
    ∙ ap (λ (m : PortableManifest). spell (bundle_entries (compact_text (manifest_value m)) l s))
    made
    ∙ ap
    (λ (b : List ℕ). spell (bundle_entries (compact_text (manifest_value (manifest_of info))) b s))
    logged
    ∙ ap (λ (b : List ℕ).
    spell (bundle_entries (compact_text (manifest_value (manifest_of info))) log b))
    stored

-- ---- what is left

module _ (fs gs : Files) (info : RecordedRunInfo) (dir path bundle : List ℕ)
    (is_bundle : IsBundle fs info dir bundle) where
  packed : (r : PortableRecordingResult)
      → AreSame (renamed fs (temporary_path path) path (Some bundle)) gs → r.path ≡ path
      → r.size ≡ length bundle → Packed fs gs info dir path r
  packed r same path_is size_is = record {
    bundle = bundle;
    is_bundle = is_bundle;
    written =
        same path
        ∙ ap (λ b. cond b (Some bundle) (cond (bytes_eq path (temporary_path path)) None (fs path)))
        (own path);
    temporary =
        same (temporary_path path)
        ∙ ap (λ b. cond b (Some bundle) (cond (bytes_eq (temporary_path path) (temporary_path path))
        None (fs (temporary_path path))))
        (apart (temporary_path path) path (temporary_apart path))
        ∙ ap (λ b. cond b None (fs (temporary_path path))) (own (temporary_path path));
    others = λ p other no_temporary.
        same p
        ∙ ap (λ b. cond b (Some bundle) (cond (bytes_eq p (temporary_path path)) None (fs p)))
        (apart p path other)
        ∙ ap (λ b. cond b None (fs p)) (apart p (temporary_path path) no_temporary);
    path_is = path_is;
    size_is = size_is;
  }

  others_stay : IsBegun fs gs (temporary_path path) bundle → (p : List ℕ)
      → (p ≡ temporary_path path → ⊥) → gs p ≡ fs p
  others_stay (inl same) p no_temporary = same p
  others_stay (inr put) p no_temporary = put.1 p ∙ ap
      (λ b. cond b (Some (take put.0 bundle)) (fs p)) (apart p (temporary_path path) no_temporary)

  pub unpacked : IsBegun fs gs (temporary_path path) bundle → Unpacked fs gs info dir path
  unpacked begun = record {
    output = others_stay begun path (λ e. temporary_apart path (sym e));
    log = others_stay begun (path_of_log dir) (log_apart dir path);
    store = others_stay begun (path_of_store dir) (store_apart dir path);
    others = others_stay begun;
    temporary = elim begun [
      | inl same ↦ inl (same (temporary_path path))
      | inr put ↦ inr (record {
        bundle = bundle;
        count = put.0;
        is_bundle = is_bundle;
        written = put_there fs gs (temporary_path path) (take put.0 bundle) put.1;
      })
    ];
  }

  pub packs_in : (r : PortableRecordingResult) (u : Unit {0}) (before now : ℕ)
      → ReplacesFile fs gs (temporary_path path) path bundle (Ok u) → r.path ≡ path
      → r.size ≡ length bundle → PacksIn fs gs before now info dir path (Ok r)
  packs_in r u before now same path_is size_is = packed r same path_is size_is

  pub refused_in : (e : DiskError) (before mid now : ℕ)
      → ReplacesFile fs gs (temporary_path path) path bundle (Err e) → before ≤ mid
      → HasDiskCause {T = Unit {0}} mid now (Err e)
      → PacksIn fs gs before now info dir path (Err (write_error path e))
  refused_in Missing before mid now h later cause = absurd h.0
  refused_in DiskFailed before mid now h later cause = (
    unpacked h.1,
    inr (refl, let rose : Rose mid now = cause.failed in omega (arith, rose, later)),
  )
  refused_in OutOfMemory before mid now h later cause = (unpacked h.1, inr tt)

module _ (old mid new : Option Files) (info : RecordedRunInfo) (dir path temporary bundle : List ℕ)
    (is_bundle : Bundles old info dir bundle) (same : mid ≡ old)
    (is_temporary : temporary ≡ temporary_path path) where
  pub packs : (r : PortableRecordingResult) (u : Unit {0}) (before now : ℕ)
      → Replaces mid new temporary path bundle (Ok u) → r.path ≡ path → r.size ≡ length bundle
      → BothKnown old new (λ fs gs. PacksIn fs gs before now info dir path (Ok r))
  packs r u before now replaces path_is size_is =
      by old new is_bundle
      (subst (λ (t : List ℕ). Replaces old new t path bundle (Ok u)) is_temporary
      (subst (λ (o : Option Files). Replaces o new temporary path bundle (Ok u)) same replaces))
    where
      by : (o n : Option Files) → Bundles o info dir bundle
          → Replaces o n (temporary_path path) path bundle (Ok u)
          → BothKnown o n (λ fs gs. PacksIn fs gs before now info dir path (Ok r))
      by None n b h = h
      by (Some fs) None b h = h
      by (Some fs) (Some gs) b h =
          packs_in fs gs info dir path bundle b r u before now h path_is size_is

  pub refused : (e : DiskError) (before between now : ℕ)
      → Replaces mid new temporary path bundle (Err e) → before ≤ between
      → HasDiskCause {T = Unit {0}} between now (Err e)
      → BothKnown old new
      (λ fs gs. PacksIn fs gs before now info dir path (Err (write_error path e)))
  refused e before between now replaces later cause =
      by old new is_bundle
      (subst (λ (t : List ℕ). Replaces old new t path bundle (Err e)) is_temporary
      (subst (λ (o : Option Files). Replaces o new temporary path bundle (Err e)) same replaces))
    where
      by : (o n : Option Files) → Bundles o info dir bundle
          → Replaces o n (temporary_path path) path bundle (Err e)
          → BothKnown o n
          (λ fs gs. PacksIn fs gs before now info dir path (Err (write_error path e)))
      by None n b h = h
      by (Some fs) None b h = h
      by (Some fs) (Some gs) b h =
          refused_in fs gs info dir path bundle b e before between now h later cause
