-- The store that is made of a prefix's metadata and of the entries that events name.
use Rattle.std.proofs.Common.{◌≡◌, ℕ, Bool, true, false, ◌||◌, ◌&&◌, not, cond}
use Rattle.std.proofs.Common.{List, [], ◌∷◌, ◌++◌, Option, Some, None, is_some}
use Rattle.std.proofs.Common.{refl, sym, ap, subst, ◌∙◌, if◌then◌else◌, map}
use Rattle.std.proofs.lemmas.Bool.{and_from}
use Rattle.std.proofs.lemmas.List.Elements.{filter-append}
use Rattle.std.proofs.lemmas.Slice.Eq.{bytes_eq-Decides}
use Rattle.std.specs.List.{filter, flat_map, list_all, list_any, AllByRecursion}
use Rattle.std.specs.Str.{bytes_eq}
use Rattle.rec_container.proofs.Contents.{content_of-found, content_of-missing}
use Rattle.rec_container.specs.Container.{Entry, AreFrom, content_of}
use Rattle.rec_forms.specs.Shape.{only}
use Rattle.rec_codec.specs.Event.{RecordedEvent}
use Rattle.rec_store.proofs.Held.{all_weaker}
use Rattle.rec_store.proofs.OtherEntries.{IsOther, is_other, others_stay, path_of_output}
use Rattle.rec_store.proofs.PartOutputs.{IsOutputPath, event_paths_are}
use Rattle.rec_store.specs.Kept.{event_paths, event_resolved}
use Rattle.rec_store.specs.RunParts.{is_metadata, metadata_paths, outputs_of}
use Rattle.rec_salvage.proofs.FoundEntries.{all_chosen, append_from, chosen}
use Rattle.rec_salvage.proofs.FoundEntries.{chosen_found, chosen_from, chosen_missing}
use Rattle.rec_salvage.proofs.FoundEntries.{listed_found, listed_from, listed_of}
use Rattle.rec_salvage.proofs.ResolvedEvents.{events_same}
use Rattle.rec_salvage.specs.Gathering.{is_among}
use Rattle.rec_salvage.specs.Salvaged.{prefix_metadata, kept_entries, listed, named_entries}

-- ---- tests of names

-- a name that stands among paths has what all of them have
among_have : (P : List ℕ → Type 0) (paths : List (List ℕ)) (name : List ℕ) → AllByRecursion P paths
    → is_among paths name ≡ true → P name
among_have P [] name all h = absurd cc
among_have P (q ∷ paths) name all h =
    by (bytes_eq name q) (bytes_eq-Decides name q).0 (among_have P paths name all.1) h
  where
    by : (b : Bool) → (b ≡ true → name ≡ q) → (is_among paths name ≡ true → P name)
        → (b || is_among paths name) ≡ true → P name
    by true same rest is = subst P (sym (same refl)) all.0
    by false same rest is = rest is

or_second : (a b : Bool) → b ≡ true → (a || b) ≡ true
or_second true b h = refl
or_second false b h = h

-- each path stands among itself
all_among : (qs ps : List (List ℕ))
    → ((name : List ℕ) → is_among ps name ≡ true → is_among qs name ≡ true)
    → AllByRecursion (λ p. is_among qs p ≡ true) ps
all_among qs [] within = tt
all_among qs (p ∷ ps) within = (
  within p (ap (λ b. b || is_among ps p) ((bytes_eq-Decides p p).1 refl)),
  all_among qs ps (λ name h. within name (or_second (bytes_eq name p) (is_among ps name) h)),
)

-- what passes one test and stands in the list passes in a list that agrees
all_there : (f g : List ℕ → Bool) (paths : List (List ℕ)) → AllByRecursion (λ p. f p ≡ g p) paths
    → list_all f paths ≡ list_all g paths
all_there f g [] h = refl
all_there f g (p ∷ paths) h =
    ap (λ b. b && list_all f paths) h.0 ∙ ap (λ b. g p && b) (all_there f g paths h.1)

-- ---- metadata is no output

left_out : (es : List Entry) (ps : List (List ℕ)) → AllByRecursion (λ p. is_metadata p ≡ true) ps
    → filter is_other (listed_of es ps) ≡ []
left_out es [] h = refl
left_out es (p ∷ ps) h = by (content_of es p) (left_out es ps h.1)
  where
    by : (o : Option (List ℕ)) → filter is_other (listed_of es ps) ≡ []
        → filter is_other (listed p o ++ listed_of es ps) ≡ []
    by None rest = rest
    by (Some c) rest =
        ap (λ b. cond (not b) (record { name = p; content = c } ∷ filter is_other (listed_of es ps))
        (filter is_other (listed_of es ps))) h.0 ∙ rest

others_chosen : (t : List ℕ → Bool) (es : List Entry)
    → ((name : List ℕ) → t name ≡ true → is_metadata name ≡ false)
    → AllByRecursion IsOther (chosen t es)
others_chosen t [] apart = tt
others_chosen t (e ∷ es) apart = by (t e.name) refl (others_chosen t es apart)
  where
    by : (b : Bool) → t e.name ≡ b → AllByRecursion IsOther (chosen t es)
        → AllByRecursion IsOther (if b then e ∷ chosen t es else chosen t es)
    by true is rest = (apart e.name is, rest)
    by false is rest = rest

-- ---- over a prefix, and events

module _ (es : List Entry) (events : List RecordedEvent) where
  abbrev paths : List (List ℕ)
  paths = flat_map event_paths events

  abbrev pub kept : List Entry
  kept = kept_entries es events

  no_metadata : (name : List ℕ) → is_among paths name ≡ true → is_metadata name ≡ false
  no_metadata name h =
      let output = among_have IsOutputPath paths name (event_paths_are events) h in
      ap is_metadata output.1 ∙ path_of_output output.0

  -- the metadata is found there as in the prefix
  pub metadata_stays : (path : List ℕ) → is_metadata path ≡ true
      → content_of kept path ≡ content_of es path
  metadata_stays path is =
      by (content_of es path) refl
      (listed_found es metadata_paths path ∙ ap (λ b. if b then content_of es path else None) is)
    where
      by : (o : Option (List ℕ)) → content_of es path ≡ o
          → content_of (prefix_metadata es) path ≡ content_of es path
          → content_of kept path ≡ content_of es path
      by None none first =
          content_of-missing (prefix_metadata es) (named_entries es events) path (first ∙ none)
          ∙ chosen_missing (is_among paths) es path none
          ∙ sym none
      by (Some c) some first =
          content_of-found (prefix_metadata es) (named_entries es events) path c (first ∙ some)
          ∙ sym some

  -- and so are the outputs that are named
  pub output_stays : (path : List ℕ) → is_among paths path ≡ true
      → content_of kept path ≡ content_of es path
  output_stays path is =
      content_of-missing (prefix_metadata es) (named_entries es events) path
      (listed_found es metadata_paths path
      ∙ ap (λ b. if b then content_of es path else None) (no_metadata path is))
      ∙ chosen_found (is_among paths) es path is

  outputs_stay : AllByRecursion (λ p. content_of kept p ≡ content_of es p) paths
  outputs_stay =
      all_weaker (λ p. is_among paths p ≡ true) (λ p. content_of kept p ≡ content_of es p)
      output_stays paths (all_among paths paths (λ name h. h))

  -- names in the events stand for the same bytes
  pub resolved_stay : map (event_resolved kept) events ≡ map (event_resolved es) events
  resolved_stay = events_same kept es events outputs_stay

  -- where all outputs are in the prefix, they are those of the store
  pub outputs_read : list_all (λ p. is_some (content_of es p)) paths ≡ true
      → outputs_of events kept ≡ Some (named_entries es events)
  outputs_read there =
      let named = named_entries es events in
      let all_named : List Entry → Bool =
      λ l. list_all (λ (e : Entry). list_any (λ p. bytes_eq e.name p) paths) l in
      let others : filter is_other kept ≡ named =
      filter-append is_other (prefix_metadata es) named
      ∙ ap (λ l. l ++ filter is_other named)
      (left_out es metadata_paths (refl, (refl, (refl, (refl, (refl, tt))))))
      ∙ others_stay named (others_chosen (is_among paths) es no_metadata) in
      let agree : AllByRecursion (λ p. is_some (content_of kept p) ≡ is_some (content_of es p))
      paths =
      all_weaker (λ p. content_of kept p ≡ content_of es p)
      (λ p. is_some (content_of kept p) ≡ is_some (content_of es p)) (λ p same. ap is_some same)
      paths outputs_stay in
      let found =
      all_there (λ p. is_some (content_of kept p)) (λ p. is_some (content_of es p)) paths agree
      ∙ there in
      ap (λ (l : List Entry).
      only (list_all (λ p. is_some (content_of kept p)) paths && all_named l) l)
      others
      ∙ ap (λ b. only b named) (and_from (list_all (λ p. is_some (content_of kept p)) paths)
      (all_named named) found (all_chosen (is_among paths) es))

  -- its entries have spellings
  pub kept_from : AreFrom [] es → AreFrom [] kept
  kept_from are =
      append_from [] (prefix_metadata es) (named_entries es events)
      (listed_from es are metadata_paths [] [] (λ name other. refl) refl)
      (chosen_from (is_among paths) [] (prefix_metadata es) es
      (λ name named new. listed_found es metadata_paths name
      ∙ ap (λ b. if b then content_of es name else None) (no_metadata name named)) are)
