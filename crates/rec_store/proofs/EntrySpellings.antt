-- The entries of a store and of a bundle that are written have spellings.
use Rattle.std.proofs.Common.{◌≡◌, ℕ, zero, suc, ◌<◌, ◌≤◌, ◌^◌, List, [], ◌∷◌, ◌++◌, length}
use Rattle.std.proofs.Common.{Bool, true, false, not, Option, Some, None, is_some, codes}
use Rattle.std.proofs.Common.{nat_lt, ◌&&◌, ltb-true, refl, sym, ap, subst, ◌∙◌, arith}
use Rattle.std.proofs.Common.{append_assoc, append-nil, length-append, if◌then◌else◌}
use Rattle.std.proofs.lemmas.Bool.{and_parts}
use Rattle.std.proofs.lemmas.List.Elements.{filter-append}
use Rattle.std.proofs.lemmas.Str.{IsUtf8-from_ascii, IsAscii-append}
use Rattle.std.specs.Int.{w64, to_be_bytes}
use Rattle.std.specs.List.{filter, flat_map, list_all, AllByRecursion}
use Rattle.std.specs.Str.{bytes_eq, IsAscii}
use Rattle.hex.proofs.HexLemmas.{length-encode_with, IsAscii-encode_with}
use Rattle.hex.specs.Hex.{encode_lower, lower_digits}
use Rattle.rec_container.proofs.Contents.{content_of-missing}
use Rattle.rec_container.proofs.Lengths.{length-entry, length-spell}
use Rattle.rec_container.proofs.Lengths.{content_bytes-below, length-below}
use Rattle.rec_container.specs.Container.{Entry, entry, spell, content_of, IsName, AreFrom}
use Rattle.rec_container.specs.Writing.{entry_named}
use Rattle.rec_events.specs.declared.output_names.OutputFileName.{OutputFileName}
use Rattle.rec_events.specs.declared.output_names.OutputKind.TheVariants.{Stdout, Stderr, Combined}
use Rattle.rec_events.specs.declared.output_names.OutputKind.{OutputKind}
use Rattle.rec_events.specs.declared.recording.RecordOpts.{RecordOpts}
use Rattle.rec_events.specs.declared.recording.TestListSummary.{TestListSummary}
use Rattle.rec_events.specs.OutputNames.{kind_suffix}
use Rattle.rec_format.specs.declared.rerun.RerunInfo.{RerunInfo}
use Rattle.rec_format.specs.declared.scope.RecordedBuildScope.{RecordedBuildScope}
use Rattle.rec_format.specs.SizeForms.{AreSizes}
use Rattle.rec_codec.specs.Event.{RecordedEvent, event_text, event_line, log_text}
use Rattle.rec_store.proofs.Held.{IsAbsent, all_weaker, all_with}
use Rattle.rec_store.proofs.OtherEntries.{IsOther, all_others, is_other, metadata_without}
use Rattle.rec_store.proofs.OutputLaws.{IsOutputEntry, outputs_are_others}
use Rattle.rec_store.specs.Clashes.{with_entry, with_entries}
use Rattle.rec_store.specs.Entries.{build_scope_path, rerun_info_path, test_list_path}
use Rattle.rec_store.specs.Entries.{cargo_metadata_path, record_opts_path}
use Rattle.rec_store.specs.Entries.{manifest_name, log_name, store_name, bundle_entries}
use Rattle.rec_store.specs.OutputPaths.{output_path}
use Rattle.rec_store.specs.RunParts.{RunParts, is_metadata, written, written_entries}
use Rattle.rec_store.specs.RunParts.{written_log, written_manifest, written_sizes, written_store}
use Rattle.rec_store.specs.Store.{metadata_of}

-- ---- names, each new to those before it

HaveNames : List Entry → List Entry → Type 0
HaveNames seen [] = Unit {0}
HaveNames seen (e ∷ es) =
    IsName e.name × (content_of seen e.name ≡ None) × HaveNames (seen ++ e ∷ []) es

names_push : (seen es : List Entry) (e : Entry) → HaveNames seen es → IsName e.name
    → content_of (seen ++ es) e.name ≡ None → HaveNames seen (es ++ e ∷ [])
unfolding HaveNames
names_push seen [] e h is new =
    (is, ap (λ l. content_of l e.name) (sym (append-nil seen)) ∙ new, tt)
names_push seen (d ∷ es) e h is new = (
  h.0,
  h.1,
  names_push (seen ++ d ∷ []) es e h.2 is
      (ap (λ l. content_of l e.name) (append_assoc seen (d ∷ []) es) ∙ new),
)

names_unless : (es : List Entry) (f : Entry) (o : Option (List ℕ)) → content_of es f.name ≡ o
    → HaveNames [] es → IsName f.name → HaveNames [] (if is_some o then es else es ++ f ∷ [])
names_unless es f None new h is = names_push [] es f h is new
names_unless es f (Some c) held h is = h

abbrev HasName : Entry → Type 0
HasName e = IsName e.name

-- entries whose names are new are put in
names_with : (es fs : List Entry) → HaveNames [] es → AllByRecursion HasName fs
    → HaveNames [] (with_entries es fs)
names_with es [] h all = h
names_with es (f ∷ fs) h all =
    names_with (with_entry es f) fs (names_unless es f (content_of es f.name) refl h all.0) all.1

-- what follows entries
names_then : (seen es fs : List Entry) → HaveNames seen es → HaveNames (seen ++ es) fs
    → HaveNames seen (es ++ fs)
unfolding HaveNames
names_then seen [] fs h more = subst (λ (l : List Entry). HaveNames l fs) (append-nil seen) more
names_then seen (e ∷ es) fs h more = (
  h.0,
  h.1,
  names_then (seen ++ e ∷ []) es fs h.2
      (subst (λ (l : List Entry). HaveNames l fs) (sym (append_assoc seen (e ∷ []) es)) more),
)

-- after entries that lack their names
names_after : (before seen es : List Entry) → AllByRecursion (IsAbsent before) es
    → HaveNames seen es → HaveNames (before ++ seen) es
unfolding HaveNames
names_after before seen [] absent h = tt
names_after before seen (e ∷ es) absent h = (
  h.0,
  content_of-missing before seen e.name absent.0 ∙ h.1,
  subst (λ (l : List Entry). HaveNames l es) (sym (append_assoc before seen (e ∷ [])))
      (names_after before (seen ++ e ∷ []) es absent.1 h.2),
)

-- others among entries
absent_among : (es : List Entry) (name : List ℕ) → content_of es name ≡ None
    → content_of (filter is_other es) name ≡ None
absent_among [] name h = refl
absent_among (e ∷ es) name h =
    by (filter is_other es) (is_metadata e.name) (bytes_eq name e.name) refl h
    (absent_among es name)
  where
    by : (fs : List Entry) (m b : Bool) → bytes_eq name e.name ≡ b
        → (if b then Some e.content else content_of es name) ≡ None
        → (content_of es name ≡ None → content_of fs name ≡ None)
        → content_of (if not m then e ∷ fs else fs) name ≡ None
    by fs m true is h rest = absurd cc
    by fs true false is h rest = rest h
    by fs false false is h rest =
        ap (λ b. if b then Some e.content else content_of fs name) is ∙ rest h

names_chosen : (seen es : List Entry) → HaveNames seen es
    → HaveNames (filter is_other seen) (filter is_other es)
unfolding HaveNames
names_chosen seen [] h = tt
names_chosen seen (e ∷ es) h =
    by (is_metadata e.name) (absent_among seen e.name h.1)
    (subst (λ (l : List Entry). HaveNames l (filter is_other es))
    (filter-append is_other seen (e ∷ [])) (names_chosen (seen ++ e ∷ []) es h.2))
  where
    by : (m : Bool) → content_of (filter is_other seen) e.name ≡ None
        → HaveNames (filter is_other seen ++ (if not m then e ∷ [] else [])) (filter is_other es)
        → HaveNames (filter is_other seen)
        (if not m then e ∷ filter is_other es else filter is_other es)
    by true new rest =
        subst (λ (l : List Entry). HaveNames l (filter is_other es))
        (append-nil (filter is_other seen)) rest
    by false new rest = (h.0, new, rest)

names_of : (seen es : List Entry) → AreFrom seen es → HaveNames seen es
unfolding HaveNames
names_of seen [] h = tt
names_of seen (e ∷ es) h = (h.0.name, h.1, names_of (seen ++ e ∷ []) es h.2)

-- ---- contents, by the length of all

spelled : (seen es : List Entry) → HaveNames seen es → length (flat_map entry es) < 2 ^ 64
    → AreFrom seen es
unfolding HaveNames
spelled seen [] h small = tt
spelled seen (e ∷ es) h small =
    let all = length-append (entry e) (flat_map entry es) in (
      record { name = h.0; content = omega (arith, all, length-entry e, small) },
      h.1,
      spelled (seen ++ e ∷ []) es h.2 (omega (arith, all, small)),
    )

-- ---- the names of a run

-- each byte is below 128
abbrev are_small : List ℕ → Bool
are_small s = list_all (λ b. nat_lt b 128) s

ascii_from : (s : List ℕ) → are_small s ≡ true → IsAscii s
ascii_from [] h i = omega arith
ascii_from (b ∷ s) h zero = ltb-true b 128 (and_parts _ _ h).0
ascii_from (b ∷ s) h (suc i) = ascii_from s (and_parts _ _ h).1 i

name_of : (s : List ℕ) → 0 < length s → length s < 2 ^ 16 → IsAscii s → IsName s
name_of s some short ascii = record { some = some; short = short; text = IsUtf8-from_ascii s ascii }

-- a literal, by what is computed of it
literal_name : (s : List ℕ) → (nat_lt 0 (length s) && nat_lt (length s) 65536) ≡ true
    → are_small s ≡ true → IsName s
literal_name s fits small =
    let size = and_parts _ _ fits in
    name_of s (ltb-true _ _ size.0) (ltb-true _ _ size.1) (ascii_from s small)

suffix_ascii : (kind : OutputKind) → IsAscii (kind_suffix kind)
suffix_ascii Stdout = ascii_from (codes "-stdout") refl
suffix_ascii Stderr = ascii_from (codes "-stderr") refl
suffix_ascii Combined = ascii_from (codes "-combined") refl

suffix_short : (kind : OutputKind) → length (kind_suffix kind) < 256
suffix_short Stdout = omega arith
suffix_short Stderr = omega arith
suffix_short Combined = omega arith

pub path_is_name : (f : OutputFileName) → IsName (output_path f)
unfolding output_path
path_is_name f =
    let digits = encode_lower (to_be_bytes w64 f.number) in
    let suffix = kind_suffix f.kind in
    let short = suffix_short f.kind in
    let size = length-encode_with lower_digits (to_be_bytes w64 f.number) in
    let inner = length-append digits suffix in
    let outer = length-append (codes "out/") (digits ++ suffix) in
    name_of (codes "out/" ++ (digits ++ suffix)) (omega (arith, outer))
    (omega (arith, outer, inner, size, short))
    (IsAscii-append (codes "out/") (digits ++ suffix) (ascii_from (codes "out/") refl)
    (IsAscii-append digits suffix (IsAscii-encode_with lower_digits (to_be_bytes w64 f.number)
    (ascii_from lower_digits refl)) (suffix_ascii f.kind)))

outputs_have_names : (fs : List Entry) → AllByRecursion IsOutputEntry fs → AllByRecursion HasName fs
outputs_have_names fs all =
    all_weaker IsOutputEntry HasName (λ e is. subst IsName (sym is.1) (path_is_name is.0)) fs all

pub build_scope_is : IsName build_scope_path
build_scope_is = literal_name build_scope_path refl refl

pub rerun_info_is : IsName rerun_info_path
rerun_info_is = literal_name rerun_info_path refl refl

pub test_list_is : IsName test_list_path
test_list_is = literal_name test_list_path refl refl

pub cargo_metadata_is : IsName cargo_metadata_path
cargo_metadata_is = literal_name cargo_metadata_path refl refl

pub record_opts_is : IsName record_opts_path
record_opts_is = literal_name record_opts_path refl refl

metadata_names : (scope : RecordedBuildScope) (rerun : Option RerunInfo) (metadata : List ℕ)
    (list : TestListSummary) (opts : RecordOpts)
    → HaveNames [] (metadata_of scope rerun metadata list opts)
unfolding HaveNames
metadata_names scope None metadata list opts = (
  build_scope_is,
  refl,
  (test_list_is, refl, (cargo_metadata_is, refl, (record_opts_is, refl, tt))),
)
metadata_names scope (Some info) metadata list opts = (
  build_scope_is,
  refl,
  (
    rerun_info_is,
    refl,
    (test_list_is, refl, (cargo_metadata_is, refl, (record_opts_is, refl, tt))),
  ),
)

bundle_names : (manifest log store : List ℕ) → HaveNames [] (bundle_entries manifest log store)
unfolding HaveNames
bundle_names manifest log store = (
  literal_name manifest_name refl refl,
  refl,
  (literal_name log_name refl refl, refl, (literal_name store_name refl refl, refl, tt)),
)

-- ---- of a bundle whose length is a u64

three_contents : (a b c : Entry) → length (spell (a ∷ b ∷ c ∷ [])) < 2 ^ 64
    → (length a.content < 2 ^ 64) × (length b.content < 2 ^ 64) × (length c.content < 2 ^ 64)
three_contents a b c small =
    let whole = length-spell (a ∷ b ∷ c ∷ []) in
    let first = length-append (entry a) (flat_map entry (b ∷ c ∷ [])) in
    let second = length-append (entry b) (flat_map entry (c ∷ [])) in
    let third = length-append (entry c) [] in (
      omega (arith, whole, first, length-entry a, small),
      omega (arith, whole, first, second, length-entry b, small),
      omega (arith, whole, first, second, third, length-entry c, small),
    )

lines_many : (es : List RecordedEvent) → length es ≤ length (log_text es)
lines_many [] = omega arith
lines_many (e ∷ es) = omega (
  arith,
  length-append (event_line e) (log_text es),
  length-append (event_text e) (10 ∷ []),
  lines_many es,
)

module _ (p : RunParts) (small : length (written p) < 2 ^ 64) where
  contents_small : (length (written_manifest p) < 2 ^ 64) × (length (written_log p) < 2 ^ 64)
      × (length (spell (written_store p)) < 2 ^ 64)
  contents_small =
      three_contents (entry_named manifest_name (written_manifest p))
      (entry_named log_name (written_log p)) (entry_named store_name (spell (written_store p)))
      small

  -- its entries have spellings
  pub bundle_spelled : AreFrom [] (written_entries p)
  bundle_spelled =
      spelled [] (written_entries p)
      (bundle_names (written_manifest p) (written_log p) (spell (written_store p)))
      (omega (arith, length-spell (written_entries p), small))

  -- its sizes are u64
  pub written_sizes_are : AreSizes (written_sizes p)
  written_sizes_are =
      let log = contents_small.1 in
      let store = contents_small.2 in
      let entries = written_store p in
      record {
        log = record {
          compressed = log;
          uncompressed = log;
          entries = omega (arith, log, lines_many p.events);
        };
        store = record {
          compressed = store;
          uncompressed = omega (arith, store, content_bytes-below entries);
          entries = omega (arith, store, length-below entries);
        };
      }

  names_spelled : AllByRecursion IsOther p.outputs → HaveNames [] p.outputs
      → AreFrom [] (written_store p)
  names_spelled others names =
      let metadata =
      metadata_of p.build_scope p.rerun_info p.cargo_metadata p.test_list p.record_opts in
      let absent : AllByRecursion (IsAbsent metadata) p.outputs =
      all_weaker IsOther (IsAbsent metadata) (λ e is. metadata_without p.build_scope p.rerun_info
      p.cargo_metadata p.test_list p.record_opts e.name is)
      p.outputs others in
      let after : HaveNames metadata p.outputs = subst (λ (l : List Entry). HaveNames l p.outputs)
      (append-nil metadata) (names_after metadata [] p.outputs absent names) in
      spelled [] (written_store p)
      (names_then [] metadata p.outputs
      (metadata_names p.build_scope p.rerun_info p.cargo_metadata p.test_list p.record_opts) after)
      (omega (arith, length-spell (written_store p), contents_small.2))

  -- those of its store have spellings where its outputs are the other entries of a container
  pub chosen_spelled : (es : List Entry) → AreFrom [] es → filter is_other es ≡ p.outputs
      → AreFrom [] (written_store p)
  chosen_spelled es are chosen =
      names_spelled (subst (λ (l : List Entry). AllByRecursion IsOther l) chosen (all_others es))
      (subst (λ (l : List Entry). HaveNames [] l) chosen (names_chosen [] es (names_of [] es are)))

  -- and where they are put in one after the other
  pub stored_spelled : (fs : List Entry) → AllByRecursion IsOutputEntry fs
      → with_entries [] fs ≡ p.outputs → AreFrom [] (written_store p)
  unfolding HaveNames
  stored_spelled fs are stored =
      names_spelled (subst (λ (l : List Entry). AllByRecursion IsOther l) stored
      (outputs_are_others (with_entries [] fs) (all_with IsOutputEntry [] fs tt are)))
      (subst (λ (l : List Entry). HaveNames [] l) stored
      (names_with [] fs tt (outputs_have_names fs are)))
