-- What is gathered of a log, line by line.
use Rattle.std.specs.Borrow.{Bor}
use Rattle.std.specs.BTreeSet.{BTreeSet, contains_text}
use Rattle.std.specs.Global.{Global}
use Rattle.std.specs.List.{flat_map, list_all, list_any}
use Rattle.std.specs.Prelude.{◌≡◌, ℕ, ◌+◌, ◌≤◌, Bool, false, true, ◌||◌, List, [], ◌∷◌}
use Rattle.std.specs.Prelude.{◌++◌, length, map, take, Option, Some, None, MatchOption}
use Rattle.std.specs.Prelude.{is_some, Result, Ok, Err, String, string_bytes}
use Rattle.std.specs.Str.{bytes_eq}
use Rattle.rec_container.specs.Container.{Entry, content_of}
use Rattle.rec_codec.specs.declared.line_events.LineError.TheVariants.{ReadRunLog, ParseEvent}
use Rattle.rec_codec.specs.declared.line_events.LineError.{LineError}
use Rattle.rec_codec.specs.Event.{RecordedEvent}
use Rattle.rec_store.specs.Kept.{event_paths}
use Rattle.rec_salvage.specs.declared.gathering.Gathered.{Gathered}
use Rattle.rec_salvage.specs.declared.log_lines.LogLine.TheVariants.{Unsound, Blank, Event}
use Rattle.rec_salvage.specs.declared.log_lines.LogLine.{LogLine}
use Rattle.rec_salvage.specs.Salvaged.{is_sound, line_events, salvaged_events, salvaged_log}
use Rattle.rec_salvage.specs.WholeLines.{sound_lines, spelled, whole_lines}

-- ---- a line

-- what was read of a line: no event, nothing, or the paths of an event's outputs
abbrev pub IsRead : Option (Option RecordedEvent) → LogLine → Type 0
IsRead None Unsound = Unit {0}
IsRead (Some None) Blank = Unit {0}
IsRead (Some (Some e)) (Event paths) = map string_bytes paths.items ≡ event_paths e
IsRead event line = ⊥

-- the same of the item of a line that isn't blank
abbrev pub IsReadItem : Result RecordedEvent LineError → LogLine → Type 0
IsReadItem (Ok e) (Event paths) = map string_bytes paths.items ≡ event_paths e
IsReadItem (Err (ReadRunLog n)) Unsound = Unit {0}
IsReadItem (Err (ParseEvent n)) Unsound = Unit {0}
IsReadItem item line = ⊥

-- ---- paths

abbrev pub is_among : List (List ℕ) → List ℕ → Bool
is_among paths path = list_any (λ p. bytes_eq path p) paths

-- each of these paths is that of an entry
abbrev pub are_there : List Entry → List (List ℕ) → Bool
are_there es paths = list_all (λ path. is_some (content_of es path)) paths

-- a set has these paths and those that it had
abbrev pub AddsPaths : List (List ℕ) → BTreeSet (String Global) → BTreeSet (String Global) → Type 0
AddsPaths paths old new =
    (path : List ℕ) → contains_text new path ≡ (contains_text old path || is_among paths path)

-- ---- events

-- the number of these events, and the paths of their outputs
pub record HasGathered (events : List RecordedEvent) (g : Gathered) : Type 0 where
  pub count : g.events ≡ length events
  pub paths : (path : List ℕ)
      → contains_text g.paths path ≡ is_among (flat_map event_paths events) path

-- an event with outputs at these paths was added
pub record GathersPaths (paths : List (List ℕ)) (old new : Gathered) : Type 0 where
  pub count : new.events ≡ old.events + 1
  pub adds : AddsPaths paths old.paths new.paths

-- whether all paths are there; if so, the event was added, and else nothing
abbrev pub AddsEvent : List Entry → List (List ℕ) → Gathered → Gathered → Bool → Type 0
AddsEvent es paths old new there =
    (there ≡ are_there es paths) × (there ≡ false → new ≡ old)
    × (there ≡ true → GathersPaths paths old new)

-- the events of one more line are gathered
abbrev pub GathersLine : List ℕ → Gathered → Gathered → Type 0
GathersLine line old new =
    (events : List RecordedEvent) → HasGathered events old
    → HasGathered (events ++ line_events line) new

module _ (es : List Entry) where
  -- whether a line is sound; if so, its events are gathered, of which it has one at most,
  -- and else nothing
  abbrev pub AddsLine : List ℕ → Gathered → Gathered → Bool → Type 0
  AddsLine line old new sound =
      (sound ≡ is_sound es line) × (sound ≡ false → new ≡ old)
      × (sound ≡ true → GathersLine line old new × (new.events ≤ old.events + 1))

  -- the first line is whole and sound, and its events are gathered
  pub record TakesLine (bytes : List ℕ) (old new : Gathered) (after : List ℕ) : Type 0 where
    pub line : List ℕ
    pub first : whole_lines bytes ≡ line ∷ whole_lines after
    pub split : bytes ≡ line ++ 10 ∷ after
    pub sound : is_sound es line ≡ true
    pub gathered : GathersLine line old new
    pub few : new.events ≤ old.events + 1

  -- no line is, and nothing is gathered
  abbrev pub TakesNone : List ℕ → Gathered → Gathered → Type 0
  TakesNone bytes old new = (sound_lines (is_sound es) (whole_lines bytes) ≡ []) × (new ≡ old)

  -- what stands after the first line, where that is whole and sound
  abbrev pub TakesFirst : List ℕ → Gathered → Gathered → Option (Bor (List ℕ)) → Type 0
  TakesFirst bytes old new after =
      MatchOption after (TakesNone bytes old new) (λ rest. TakesLine bytes old new rest.now)

  -- what was taken of a log are its first sound lines
  pub record HasTaken (log rest : List ℕ) (g : Gathered) : Type 0 where
    pub lines : List (List ℕ)
    pub log_is : log ≡ spelled lines ++ rest
    pub sound : sound_lines (is_sound es) (whole_lines log)
        ≡ lines ++ sound_lines (is_sound es) (whole_lines rest)
    pub gathered : HasGathered (flat_map line_events lines) g
    pub room : g.events + length rest ≤ length log

  -- so many bytes of a log are its sound lines, and their events are gathered
  abbrev pub TakesSound : List ℕ → ℕ × Gathered → Type 0
  TakesSound log taken =
      (taken.0 ≤ length log) × (take taken.0 log ≡ salvaged_log es log)
      × HasGathered (salvaged_events es log) taken.1
