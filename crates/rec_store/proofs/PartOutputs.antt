-- The outputs of a reading as parts of its store.
use Rattle.std.proofs.Common.{◌≡◌, ℕ, nat_eq, List, [], ◌∷◌, ◌++◌, Bool, true}
use Rattle.std.proofs.Common.{false, ◌||◌, not, Option, Some, None, Ok, is_some}
use Rattle.std.proofs.Common.{refl, sym, ap, subst, ◌∙◌, codes, if◌then◌else◌}
use Rattle.std.proofs.lemmas.Bool.Decides.{Decides-eqb}
use Rattle.std.proofs.lemmas.Bool.{and_parts}
use Rattle.std.proofs.lemmas.Slice.Eq.{bytes_eq-Decides, ends_is}
use Rattle.std.specs.Int.{w64, to_be_bytes}
use Rattle.std.specs.List.{ends_with, filter, flat_map, list_any, list_all, AllByRecursion}
use Rattle.std.specs.Str.{bytes_eq}
use Rattle.hex.specs.Hex.{encode_lower}
use Rattle.rec_container.specs.Container.{Entry, content_of}
use Rattle.rec_events.specs.declared.output_names.OutputFileName.{OutputFileName}
use Rattle.rec_events.specs.declared.output_names.OutputKind.TheVariants as kind
use Rattle.rec_events.specs.declared.output_names.OutputKind.{OutputKind}
use Rattle.rec_events.specs.declared.outputs.ZipStoreOutput.TheVariants.{Empty, Full, Truncated}
use Rattle.rec_events.specs.declared.outputs.ZipStoreOutput.{ZipStoreOutput}
use Rattle.rec_events.specs.declared.outputs.ZipStoreOutputDescription.TheVariants as stored
use Rattle.rec_events.specs.declared.outputs.ZipStoreOutputDescription.{ZipStoreOutputDescription}
use Rattle.rec_events.specs.OutputNames.{file_name_text}
use Rattle.rec_events.specs.OutputNames.{kind_suffix}
use Rattle.rec_forms.specs.Shape.{only}
use Rattle.rec_format.specs.declared.paths.OutputDict.TheVariants as dict
use Rattle.rec_format.specs.Paths.{dict_of_name}
use Rattle.rec_codec.specs.Event.{RecordedEvent}
use Rattle.rec_store.proofs.EventMapLaws.{all_of_event}
use Rattle.rec_store.proofs.Held.{all_append}
use Rattle.rec_store.proofs.PartContents.{found_name, chosen_content}
use Rattle.rec_store.specs.Kept.{output_paths, captured_paths, description_paths, event_paths}
use Rattle.rec_store.specs.OutputPaths.{output_path}
use Rattle.rec_store.specs.Parts.{of_kind, path_of_output}
use Rattle.rec_store.specs.RunParts.{is_metadata, outputs_of}

-- ---- each path that events name is that of an output

abbrev pub IsOutputPath : List ℕ → Type 0
IsOutputPath path = (f : OutputFileName) × (path ≡ output_path f)

output_paths_are : (o : ZipStoreOutput) → AllByRecursion IsOutputPath (output_paths o)
output_paths_are Empty = tt
output_paths_are (Full name) = ((name, refl), tt)
output_paths_are (Truncated name size) = ((name, refl), tt)

captured_paths_are : (o : Option ZipStoreOutput) → AllByRecursion IsOutputPath (captured_paths o)
captured_paths_are None = tt
captured_paths_are (Some output) = output_paths_are output

description_paths_are : (o : ZipStoreOutputDescription)
    → AllByRecursion IsOutputPath (description_paths o)
description_paths_are (stored.Split out err) =
    all_append IsOutputPath (captured_paths out) (captured_paths err) (captured_paths_are out)
    (captured_paths_are err)
description_paths_are (stored.Combined both) = output_paths_are both

pub event_paths_are : (events : List RecordedEvent)
    → AllByRecursion IsOutputPath (flat_map event_paths events)
event_paths_are [] = tt
event_paths_are (e ∷ events) =
    all_append IsOutputPath (event_paths e) (flat_map event_paths events)
    (all_of_event IsOutputPath description_paths description_paths_are e) (event_paths_are events)

-- what is among paths has what all of them have
among_holds : (P : List ℕ → Type 0) (paths : List (List ℕ)) (path : List ℕ) → AllByRecursion P paths
    → list_any (λ p. bytes_eq path p) paths ≡ true → P path
among_holds P [] path all h = absurd cc
among_holds P (q ∷ paths) path all h =
    by (bytes_eq path q) (bytes_eq-Decides path q).0 (among_holds P paths path all.1) h
  where
    by : (b : Bool) → (b ≡ true → path ≡ q)
        → (list_any (λ p. bytes_eq path p) paths ≡ true → P path)
        → (b || list_any (λ p. bytes_eq path p) paths) ≡ true → P path
    by true same rest is = subst P (sym (same refl)) all.0
    by false same rest is = rest is

-- ---- the name of an output says its kind

-- one of three tests holds
kind_by : (a b c : Bool) (name content : List ℕ) → (a || (b || c)) ≡ true
    → of_kind name (if a || b then dict.Stdout else if c then dict.Stderr else dict.None) content
    ≡ Ok content
kind_by true b c name content h = refl
kind_by false true c name content h = refl
kind_by false false true name content h = refl
kind_by false false false name content h = absurd cc

or_second : (a b : Bool) → b ≡ true → (a || b) ≡ true
or_second true b h = refl
or_second false b h = h

or_first : (a b : Bool) → a ≡ true → (a || b) ≡ true
or_first a b h = ap (λ c. c || b) h

ends : (digits suffix : List ℕ) → ends_with nat_eq (digits ++ suffix) suffix ≡ true
ends digits suffix = (ends_is Decides-eqb (digits ++ suffix) suffix _ refl).1 digits refl

abbrev has_kind : List ℕ → Bool
has_kind name =
    ends_with nat_eq name (codes "-stdout")
    || (ends_with nat_eq name (codes "-combined") || ends_with nat_eq name (codes "-stderr"))

says_kind : (digits : List ℕ) (k : OutputKind) → has_kind (digits ++ kind_suffix k) ≡ true
says_kind digits kind.Stdout = or_first _ _ (ends digits (codes "-stdout"))
says_kind digits kind.Combined = or_second _ _ (or_first _ _ (ends digits (codes "-combined")))
says_kind digits kind.Stderr = or_second _ _ (or_second _ _ (ends digits (codes "-stderr")))

kind_of_output : (f : OutputFileName) (content : List ℕ)
    → of_kind (file_name_text f) (dict_of_name (file_name_text f)) content ≡ Ok content
kind_of_output f content =
    let name = file_name_text f in
    kind_by
    (ends_with nat_eq name (codes "-stdout"))
    (ends_with nat_eq name (codes "-combined"))
    (ends_with nat_eq name (codes "-stderr"))
    name
    content
    (says_kind (encode_lower (to_be_bytes w64 f.number)) f.kind)

-- ---- an output of a reading stands at the path of a name, and the name says its kind

path_of_file : (f : OutputFileName) → output_path f ≡ path_of_output (file_name_text f)
unfolding output_path
path_of_file f = refl

pub only_some : (b : Bool) (es fs : List Entry) → only b es ≡ Some fs → (b ≡ true) × (es ≡ fs)
only_some true es fs h = (refl, cc)
only_some false es fs h = absurd cc

abbrev others : List Entry → List Entry
others es = filter (λ (e : Entry). not (is_metadata e.name)) es

pub record IsOutput (es : List Entry) (path content : List ℕ) : Type 0 where
  pub name : List ℕ
  pub named : path ≡ path_of_output name
  pub found : content_of es path ≡ Some content
  pub kind : of_kind name (dict_of_name name) content ≡ Ok content

pub output_of_reading : (events : List RecordedEvent) (es outs : List Entry)
    → outputs_of events es ≡ Some outs → (path content : List ℕ)
    → content_of outs path ≡ Some content → IsOutput es path content
output_of_reading events es outs h path content there =
    let paths = flat_map event_paths events in
    let parts = only_some _ (others es) outs h in
    let tests = and_parts (list_all (λ p. is_some (content_of es p)) paths)
    (list_all (λ (e : Entry). list_any (λ p. bytes_eq e.name p) paths) (others es)) parts.0 in
    let among : content_of (others es) path ≡ Some content =
    ap (λ (l : List Entry). content_of l path) parts.1 ∙ there in
    let output = among_holds IsOutputPath paths path (event_paths_are events)
    (found_name (λ n. list_any (λ p. bytes_eq n p) paths) (others es) path content tests.1 among) in
    record {
      name = file_name_text output.0;
      named = output.1 ∙ path_of_file output.0;
      found = chosen_content (λ n. not (is_metadata n)) es path content among;
      kind = kind_of_output output.0 content;
    }
