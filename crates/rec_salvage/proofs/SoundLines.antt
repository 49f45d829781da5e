-- The events of lines that are sound.
use Rattle.std.proofs.Common.{◌≡◌, ℕ, Bool, true, List, [], ◌∷◌, ◌++◌}
use Rattle.std.proofs.Common.{Option, Some, None, is_some, refl, ap, ◌∙◌}
use Rattle.std.proofs.lemmas.Bool.{and_from}
use Rattle.std.proofs.lemmas.List.Folds.{list_all-append}
use Rattle.std.specs.List.{flat_map, list_all, AllByRecursion}
use Rattle.rec_container.specs.Container.{Entry, content_of}
use Rattle.rec_codec.specs.Event.{RecordedEvent, line_event, log_events, with_event}
use Rattle.rec_codec.specs.Lines.{text_of}
use Rattle.rec_store.specs.Kept.{event_paths}
use Rattle.rec_salvage.specs.Salvaged.{event_in, has_all, is_sound, line_events}

module _ (es : List Entry) where
  abbrev pub IsSound : List ℕ → Type 0
  IsSound line = is_sound es line ≡ true

  abbrev is_there : List ℕ → Bool
  is_there path = is_some (content_of es path)

  -- they are the events of the log of these lines
  pub sound_events : (ls : List (List ℕ)) → AllByRecursion IsSound ls
      → log_events ls ≡ Some (flat_map line_events ls)
  sound_events [] h = refl
  sound_events (line ∷ ls) h = by (line_event (text_of line)) h.0 (sound_events ls h.1)
    where
      by : (o : Option (Option RecordedEvent)) → has_all es o ≡ true
          → log_events ls ≡ Some (flat_map line_events ls)
          → with_event o (log_events ls) ≡ Some (event_in o ++ flat_map line_events ls)
      by None sound rest = absurd cc
      by (Some None) sound rest = rest
      by (Some (Some e)) sound rest = ap (with_event (Some (Some e))) rest

  -- the outputs that they name are all there
  pub sound_outputs : (ls : List (List ℕ)) → AllByRecursion IsSound ls
      → list_all is_there (flat_map event_paths (flat_map line_events ls)) ≡ true
  sound_outputs [] h = refl
  sound_outputs (line ∷ ls) h = by (line_event (text_of line)) h.0 (sound_outputs ls h.1)
    where
      by : (o : Option (Option RecordedEvent)) → has_all es o ≡ true
          → list_all is_there (flat_map event_paths (flat_map line_events ls)) ≡ true
          → list_all is_there (flat_map event_paths (event_in o ++ flat_map line_events ls)) ≡ true
      by None sound rest = absurd cc
      by (Some None) sound rest = rest
      by (Some (Some e)) sound rest =
          list_all-append is_there (event_paths e) (flat_map event_paths (flat_map line_events ls))
          ∙ and_from (list_all is_there (event_paths e))
          (list_all is_there (flat_map event_paths (flat_map line_events ls))) sound rest
