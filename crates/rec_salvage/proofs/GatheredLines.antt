-- What is gathered of a line, and of lines one after the other.
use Rattle.std.proofs.Common.{◌≡◌, ℕ, suc, ◌+◌, ◌-◌, ◌≤◌, Bool, true, false, cond, ◌||◌}
use Rattle.std.proofs.Common.{List, [], ◌∷◌, ◌++◌, length, take, map, Option, Some}
use Rattle.std.proofs.Common.{None, MatchOption, is_some, Global, String, string_bytes}
use Rattle.std.proofs.Common.{Result, Ok, Err, IfOk, refl, sym, ap, subst, ◌∙◌, arith}
use Rattle.std.proofs.Common.{append_assoc, append-nil, length-append, if◌then◌else◌}
use Rattle.std.proofs.lemmas.Grind.{flat_map-append, common_steps}
use Rattle.std.proofs.lemmas.List.Folds.{list_all-map, list_any-append}
use Rattle.std.proofs.lemmas.Map.Text.{btree_set_updates_text}
use Rattle.std.proofs.lemmas.Slice.Eq.{bytes_eq-Decides}
use Rattle.std.specs.BTreeMap.{is_at}
use Rattle.std.specs.BTreeSet.{BTreeSet, Updates, contains_text}
use Rattle.std.specs.Cmp.Lexicographic.{slice_cmp}
use Rattle.std.specs.declared.alloc.AllocError.{AllocError}
use Rattle.std.specs.List.{flat_map, list_any, list_all}
use Rattle.std.specs.Ordering.{nat_cmp}
use Rattle.std.specs.Str.{bytes_eq}
use Rattle.rec_container.specs.Container.{Entry, content_of}
use Rattle.rec_codec.specs.Event.{RecordedEvent, line_event}
use Rattle.rec_codec.specs.Lines.{text_of}
use Rattle.rec_store.specs.Kept.{event_paths}
use Rattle.rec_salvage.specs.declared.gathering.Gathered.{Gathered}
use Rattle.rec_salvage.specs.Gathering.{AddsEvent, AddsLine, AddsPaths, GathersPaths, HasGathered}
use Rattle.rec_salvage.specs.Gathering.{HasTaken, TakesLine, TakesNone, are_there, is_among}
use Rattle.rec_salvage.specs.Salvaged.{event_in, has_all, is_sound, line_events}
use Rattle.rec_salvage.specs.Salvaged.{salvaged_events, salvaged_log}
use Rattle.rec_salvage.specs.WholeLines.{sound_lines, spelled, whole_lines}

-- ---- paths

or_last : (a b : Bool) → cond a true b ≡ (b || a)
or_last true true = refl
or_last true false = refl
or_last false true = refl
or_last false false = refl

or_assoc : (a b c : Bool) → ((a || b) || c) ≡ (a || (b || c))
or_assoc true b c = refl
or_assoc false b c = refl

or_none : (a : Bool) → (a || false) ≡ a
or_none true = refl
or_none false = refl

same_way : (x y : List ℕ) → bytes_eq x y ≡ bytes_eq y x
same_way x y = by (bytes_eq x y) (bytes_eq y x) refl refl
  where
    by : (a b : Bool) → bytes_eq x y ≡ a → bytes_eq y x ≡ b → a ≡ b
    by true true h k = refl
    by false false h k = refl
    by true false h k = sym ((bytes_eq-Decides y x).1 (sym ((bytes_eq-Decides x y).0 h))) ∙ k
    by false true h k = sym (sym ((bytes_eq-Decides x y).1 (sym ((bytes_eq-Decides y x).0 k))) ∙ h)

-- one more path is put into a set
pub path_put : (s n : BTreeSet (String Global)) (k : String Global)
    → Updates (λ a b. slice_cmp nat_cmp (string_bytes a) (string_bytes b)) s n k true
    → (path : List ℕ)
    → contains_text n path ≡ (contains_text s path || bytes_eq path (string_bytes k))
path_put s n k h path =
    btree_set_updates_text (string_bytes k) s n true h path
    ∙ or_last (bytes_eq (string_bytes k) path) (contains_text s path)
    ∙ ap (λ b. contains_text s path || b) (same_way (string_bytes k) path)

-- and then those that are left
pub path_more : (s n : BTreeSet (String Global)) (k : String Global)
    (rest all : List (String Global))
    → Updates (λ a b. slice_cmp nat_cmp (string_bytes a) (string_bytes b)) s n k true
    → all ≡ k ∷ rest
    → (path : List ℕ)
    → (contains_text n path || is_among (map string_bytes rest) path)
    ≡ (contains_text s path || is_among (map string_bytes all) path)
path_more s n k rest all h step path =
    ap (λ b. b || is_among (map string_bytes rest) path) (path_put s n k h path)
    ∙ or_assoc (contains_text s path) (bytes_eq path (string_bytes k))
    (is_among (map string_bytes rest) path)
    ∙ ap (λ ks. contains_text s path || is_among (map string_bytes ks) path) (sym step)

pub paths_put : (s n : BTreeSet (String Global)) (paths rest : List (String Global)) → rest ≡ []
    → ((path : List ℕ) → (contains_text n path || is_among (map string_bytes rest) path)
    ≡ (contains_text s path || is_among (map string_bytes paths) path))
    → AddsPaths (map string_bytes paths) s n
paths_put s n paths rest none h path =
    sym (or_none (contains_text n path))
    ∙ ap (λ ks. contains_text n path || is_among (map string_bytes ks) path) (sym none) ∙ h path

-- all are there, by their strings
pub strings_there : (es : List Entry) (ks : List (String Global))
    → list_all (λ k. is_some (content_of es (string_bytes k))) ks
    ≡ are_there es (map string_bytes ks)
strings_there es ks = sym (list_all-map (λ path. is_some (content_of es path)) string_bytes ks)

-- an empty set has none
pub nothing_gathered : (g : Gathered) → g.events ≡ 0 → g.paths.keys ≡ [] → HasGathered [] g
nothing_gathered g none empty = record {
  count = none;
  paths = λ path. ap (list_any (is_at (λ k. slice_cmp nat_cmp path (string_bytes k)))) empty;
}

-- ---- a line

-- a line without event adds nothing
pub blank_added : (es : List Entry) (line : List ℕ) (g : Gathered)
    → line_event (text_of line) ≡ Some None → AddsLine es line g g true
blank_added es line g is = (
  sym (ap (has_all es) is),
  λ h. absurd cc,
  λ h. (
    λ events gathered. subst (λ (l : List RecordedEvent). HasGathered l g)
        (sym (ap (λ o. events ++ event_in o) is ∙ append-nil events)) gathered,
    omega arith,
  ),
)

pub unsound_added : (es : List Entry) (line : List ℕ) (g : Gathered)
    → line_event (text_of line) ≡ None → AddsLine es line g g false
unsound_added es line g is = (sym (ap (has_all es) is), λ h. refl, λ h. absurd cc)

event_gathered : (e : RecordedEvent) (old new : Gathered) → GathersPaths (event_paths e) old new
    → (events : List RecordedEvent) → HasGathered events old → HasGathered (events ++ e ∷ []) new
event_gathered e old new adds events h = record {
  count = adds.count ∙ ap (λ n. n + 1) h.count ∙ sym (length-append events (e ∷ []));
  paths = λ path.
      adds.adds path
      ∙ ap (λ b. b || is_among (event_paths e) path) (h.paths path)
      ∙ sym (list_any-append (λ p. bytes_eq path p) (flat_map event_paths events) (event_paths e))
      ∙ ap (λ l. is_among (flat_map event_paths events ++ l) path)
      (sym (append-nil (event_paths e)))
      ∙ ap (λ l. is_among l path) (sym (flat_map-append event_paths events (e ∷ [])));
}

-- one with an event adds it, where its outputs are there
pub event_added : (es : List Entry) (line : List ℕ) (e : RecordedEvent) (paths : List (List ℕ))
    (old new : Gathered) (there : Bool)
    → line_event (text_of line) ≡ Some (Some e) → paths ≡ event_paths e
    → AddsEvent es paths old new there → AddsLine es line old new there
event_added es line e paths old new there is named adds = (
  adds.0 ∙ ap (are_there es) named ∙ sym (ap (has_all es) is),
  adds.1,
  λ h.
      let added = adds.2 h in
      let few = added.count in (
        λ events gathered.
            subst (λ (l : List RecordedEvent). HasGathered (events ++ l) new) (sym (ap event_in is))
            (event_gathered e old new
            (subst (λ (l : List (List ℕ)). GathersPaths l old new) named added) events gathered),
        omega (arith, few),
      ),
)

-- the same of the answers
pub event_answer : (es : List Entry) (line : List ℕ) (e : RecordedEvent) (paths : List (List ℕ))
    (old new : Gathered) (r : Result Bool AllocError)
    → line_event (text_of line) ≡ Some (Some e)
    → paths ≡ event_paths e → IfOk r (AddsEvent es paths old new)
    → IfOk r (AddsLine es line old new)
event_answer es line e paths old new (Ok there) is named h =
    event_added es line e paths old new there is named h
event_answer es line e paths old new (Err error) is named h = tt

-- ---- the first line

pub none_taken : (es : List Entry) (bytes : List ℕ) (g : Gathered) → whole_lines bytes ≡ []
    → TakesNone es bytes g g
none_taken es bytes g h = (ap (sound_lines (is_sound es)) h, refl)

module _ (es : List Entry) (bytes line after : List ℕ) (old new : Gathered) (sound : Bool)
    (first : whole_lines bytes ≡ line ∷ whole_lines after) (split : bytes ≡ line ++ 10 ∷ after)
    (adds : AddsLine es line old new sound) where
  pub line_taken : sound ≡ true → TakesLine es bytes old new after
  line_taken h = let added = adds.2 h in record {
    line = line;
    first = first;
    split = split;
    sound = sym adds.0 ∙ h;
    gathered = added.0;
    few = added.1;
  }

  pub line_refused : sound ≡ false → TakesNone es bytes old new
  line_refused h = (
    ap (sound_lines (is_sound es)) first
        ∙ ap (λ b. if b then line ∷ sound_lines (is_sound es) (whole_lines after) else [])
        (sym adds.0 ∙ h),
    adds.1 h,
  )

-- an answer that is there, or isn't
pub some_case : {A : Type 0} (N : Type 0) (P : A → Type 0) (o : Option A) (x : A) → o ≡ Some x
    → MatchOption o N P → P x
some_case N P None x is h = absurd cc
some_case N P (Some y) x is h = let same : y ≡ x = cc in subst P same h

pub none_case : {A : Type 0} (N : Type 0) (P : A → Type 0) (o : Option A)
    → ((x : A) → o ≡ Some x → ⊥) → MatchOption o N P → N
none_case N P None none h = h
none_case N P (Some y) none h = absurd (none y refl)

-- ---- line after line

spelled-push : (ls : List (List ℕ)) (line : List ℕ)
    → spelled (ls ++ line ∷ []) ≡ spelled ls ++ (line ++ 10 ∷ [])
spelled-push ls line =
    flat_map-append (λ l. l ++ 10 ∷ []) ls (line ∷ [])
    ∙ ap (λ b. spelled ls ++ b) (append-nil (line ++ 10 ∷ []))

events-push : (ls : List (List ℕ)) (line : List ℕ)
    → flat_map line_events (ls ++ line ∷ []) ≡ flat_map line_events ls ++ line_events line
events-push ls line =
    flat_map-append line_events ls (line ∷ [])
    ∙ ap (λ b. flat_map line_events ls ++ b) (append-nil (line_events line))

pub taken_first : (es : List Entry) (log : List ℕ) (g : Gathered) → HasGathered [] g
    → HasTaken es log log g
taken_first es log g h =
    let none = h.count in
    record { lines = []; log_is = refl; sound = refl; gathered = h; room = omega (arith, none) }

pub taken_more : (es : List Entry) (log rest after : List ℕ) (old new : Gathered)
    → HasTaken es log rest old → TakesLine es rest old new after → HasTaken es log after new
taken_more es log rest after old new t turn =
    let few = turn.few in
    let room = t.room in
    let shorter : length rest ≡ length turn.line + suc (length after) =
    ap length turn.split ∙ length-append turn.line (10 ∷ after) in
    record {
      lines = t.lines ++ turn.line ∷ [];
      log_is = t.log_is ∙ ap (λ b. spelled t.lines ++ b)
          (turn.split ∙ sym (append_assoc turn.line (10 ∷ []) after))
          ∙ sym (append_assoc (spelled t.lines) (turn.line ++ 10 ∷ []) after)
          ∙ ap (λ b. b ++ after) (sym (spelled-push t.lines turn.line));
      sound = t.sound ∙ ap (λ ls. t.lines ++ sound_lines (is_sound es) ls) turn.first
          ∙ ap
          (λ c. t.lines ++ cond c (turn.line ∷ sound_lines (is_sound es) (whole_lines after)) [])
          turn.sound
          ∙ sym
          (append_assoc t.lines (turn.line ∷ []) (sound_lines (is_sound es) (whole_lines after)));
      gathered =
          subst (λ (l : List RecordedEvent). HasGathered l new)
          (sym (events-push t.lines turn.line))
          (turn.gathered (flat_map line_events t.lines) t.gathered);
      room = omega (arith, few, room, shorter);
    }

take_first : (a b : List ℕ) (n : ℕ) → n ≡ length a → take n (a ++ b) ≡ a
take_first a b n h = grind (arith, common_steps)

module _ (es : List Entry) (log rest : List ℕ) (old g : Gathered) (t : HasTaken es log rest old)
    (stops : TakesNone es rest old g) where
  none : sound_lines (is_sound es) (whole_lines rest) ≡ []
  none = stops.0

  all_lines : sound_lines (is_sound es) (whole_lines log) ≡ t.lines
  all_lines = t.sound ∙ ap (λ ls. t.lines ++ ls) none ∙ append-nil t.lines

  lengths : length log ≡ length (spelled t.lines) + length rest
  lengths = ap length t.log_is ∙ length-append (spelled t.lines) rest

  pub taken_log : take (length log - length rest) log ≡ salvaged_log es log
  taken_log =
      ap (take (length log - length rest)) t.log_is
      ∙ take_first (spelled t.lines) rest (length log - length rest) (omega (arith, lengths))
      ∙ ap spelled (sym all_lines)

  pub taken_events : HasGathered (salvaged_events es log) g
  taken_events =
      subst (λ (n : Gathered). HasGathered (salvaged_events es log) n) (sym stops.1)
      (subst (λ (ls : List (List ℕ)). HasGathered (flat_map line_events ls) old) (sym all_lines)
      t.gathered)

  -- so the sound lines are taken
  pub taken_all : (length log - length rest ≤ length log)
      × (take (length log - length rest) log ≡ salvaged_log es log)
      × HasGathered (salvaged_events es log) g
  taken_all = (omega arith, taken_log, taken_events)
