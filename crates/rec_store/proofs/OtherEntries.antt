-- Entries that aren't metadata, beside and after the metadata of a store.
use Rattle.std.proofs.Common.{◌≡◌, ℕ, List, [], ◌∷◌, ◌++◌, Bool, true, false, ◌||◌, not}
use Rattle.std.proofs.Common.{cond, Option, Some, None, refl, sym, ap, ◌∙◌, if◌then◌else◌}
use Rattle.std.proofs.lemmas.List.Elements.{filter-append}
use Rattle.std.proofs.lemmas.Slice.Eq.{bytes_eq-Decides}
use Rattle.std.specs.List.{filter, AllByRecursion}
use Rattle.std.specs.Str.{bytes_eq}
use Rattle.rec_container.proofs.Contents.{content_of-missing}
use Rattle.rec_container.specs.Container.{Entry, content_of}
use Rattle.rec_events.specs.declared.output_names.OutputFileName.{OutputFileName}
use Rattle.rec_events.specs.declared.recording.RecordOpts.{RecordOpts}
use Rattle.rec_events.specs.declared.recording.TestListSummary.{TestListSummary}
use Rattle.rec_format.specs.declared.rerun.RerunInfo.{RerunInfo}
use Rattle.rec_format.specs.declared.scope.RecordedBuildScope.{RecordedBuildScope}
use Rattle.rec_store.specs.Entries.{build_scope_path, cargo_metadata_path}
use Rattle.rec_store.specs.Entries.{record_opts_path, rerun_info_path, test_list_path}
use Rattle.rec_store.specs.OutputPaths.{output_path}
use Rattle.rec_store.specs.RunParts.{is_metadata}
use Rattle.rec_store.specs.Store.{metadata_of}

-- the entry has no name of metadata
abbrev pub IsOther : Entry → Type 0
IsOther e = is_metadata e.name ≡ false

abbrev pub is_other : Entry → Bool
is_other e = not (is_metadata e.name)

-- the path of an output is none
pub path_of_output : (f : OutputFileName) → is_metadata (output_path f) ≡ false
unfolding output_path
path_of_output f = refl

contradicts : {A : Type 0} (b : Bool) → b ≡ true → b ≡ false → A
contradicts b holds fails = absurd (let k = sym holds ∙ fails in cc)

-- ---- among other entries

-- they are left by the test
pub others_stay : (outs : List Entry) → AllByRecursion IsOther outs → filter is_other outs ≡ outs
others_stay [] h = refl
others_stay (e ∷ outs) h =
    ap (λ b. cond (not b) (e ∷ filter is_other outs) (filter is_other outs)) h.0
    ∙ ap (λ l. e ∷ l) (others_stay outs h.1)

-- and what it leaves are others
pub all_others : (es : List Entry) → AllByRecursion IsOther (filter is_other es)
all_others [] = tt
all_others (e ∷ es) = by (is_metadata e.name) refl (all_others es)
  where
    by : (b : Bool) → is_metadata e.name ≡ b → AllByRecursion IsOther (filter is_other es)
        → AllByRecursion IsOther (if not b then e ∷ filter is_other es else filter is_other es)
    by true is rest = rest
    by false is rest = (is, rest)

not_rerun : (name : List ℕ) → is_metadata name ≡ false → bytes_eq rerun_info_path name ≡ false
not_rerun name other = by (bytes_eq rerun_info_path name) refl
  where
    by : (b : Bool) → bytes_eq rerun_info_path name ≡ b → b ≡ false
    by false is = refl
    by true is =
        contradicts (is_metadata name)
        (ap is_metadata (sym ((bytes_eq-Decides rerun_info_path name).0 is))) other

-- there is no rerun information among them
pub no_rerun : (outs : List Entry) → AllByRecursion IsOther outs
    → content_of outs rerun_info_path ≡ None
no_rerun [] h = refl
no_rerun (e ∷ outs) h =
    ap (λ b. if b then Some e.content else content_of outs rerun_info_path) (not_rerun e.name h.0)
    ∙ no_rerun outs h.1

-- what has another name is found among them, wherever metadata stood
pub others_found : (es : List Entry) (path : List ℕ) → is_metadata path ≡ false
    → content_of (filter is_other es) path ≡ content_of es path
others_found [] path other = refl
others_found (e ∷ es) path other =
    by (is_metadata e.name) (bytes_eq path e.name) refl refl (others_found es path other)
  where
    by : (m b : Bool) → is_metadata e.name ≡ m → bytes_eq path e.name ≡ b
        → content_of (filter is_other es) path ≡ content_of es path
        → content_of (if not m then e ∷ filter is_other es else filter is_other es) path
        ≡ (if b then Some e.content else content_of es path)
    by false b p q rest =
        ap (λ t. if t then Some e.content else content_of (filter is_other es) path) q
        ∙ ap (λ o. if b then Some e.content else o) rest
    by true false p q rest = rest
    by true true p q rest =
        contradicts (is_metadata path) (ap is_metadata ((bytes_eq-Decides path e.name).0 q) ∙ p)
        other

-- ---- after metadata

both_false : (a b : Bool) → (a || b) ≡ false → (a ≡ false) × (b ≡ false)
both_false true b h = absurd (let k = h in cc)
both_false false b h = (refl, h)

-- metadata has no other name
pub metadata_without : (scope : RecordedBuildScope) (rerun : Option RerunInfo) (metadata : List ℕ)
    (list : TestListSummary) (opts : RecordOpts) (name : List ℕ)
    → is_metadata name ≡ false
    → content_of (metadata_of scope rerun metadata list opts) name ≡ None
metadata_without scope rerun metadata list opts name other =
    let a = both_false (bytes_eq name build_scope_path) _ other in
    let b = both_false (bytes_eq name rerun_info_path) _ a.1 in
    let c = both_false (bytes_eq name test_list_path) _ b.1 in
    let d = both_false (bytes_eq name cargo_metadata_path) _ c.1 in
    let e = both_false (bytes_eq name record_opts_path) _ d.1 in
    by rerun a.0 b.0 c.0 d.0 e.0
  where
    by : (rerun : Option RerunInfo) → bytes_eq name build_scope_path ≡ false
        → bytes_eq name rerun_info_path ≡ false → bytes_eq name test_list_path ≡ false
        → bytes_eq name cargo_metadata_path ≡ false → bytes_eq name record_opts_path ≡ false
        → content_of (metadata_of scope rerun metadata list opts) name ≡ None
    by None a b c d e = rw (a, c, d, e) refl
    by (Some info) a b c d e = rw (a, b, c, d, e) refl

metadata_left_out : (scope : RecordedBuildScope) (rerun : Option RerunInfo) (metadata : List ℕ)
    (list : TestListSummary) (opts : RecordOpts)
    → filter is_other (metadata_of scope rerun metadata list opts) ≡ []
metadata_left_out scope None metadata list opts = refl
metadata_left_out scope (Some info) metadata list opts = refl

module _ (scope : RecordedBuildScope) (rerun : Option RerunInfo) (metadata : List ℕ)
    (list : TestListSummary) (opts : RecordOpts) where
  -- others that stand after metadata are what the test leaves of all
  pub others_after : (outs : List Entry) → AllByRecursion IsOther outs
      → filter is_other (metadata_of scope rerun metadata list opts ++ outs) ≡ outs
  others_after outs h =
      filter-append is_other (metadata_of scope rerun metadata list opts) outs
      ∙ ap (λ l. l ++ filter is_other outs) (metadata_left_out scope rerun metadata list opts)
      ∙ others_stay outs h

  -- so another name stands for the same there as in the entries from which they were chosen
  pub found_after : (es : List Entry) (path : List ℕ) → is_metadata path ≡ false
      → content_of (metadata_of scope rerun metadata list opts ++ filter is_other es) path
      ≡ content_of es path
  found_after es path other =
      content_of-missing (metadata_of scope rerun metadata list opts) (filter is_other es) path
      (metadata_without scope rerun metadata list opts path other)
      ∙ others_found es path other
