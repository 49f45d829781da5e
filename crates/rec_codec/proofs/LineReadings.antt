-- What an iterator over lines gives is what the lines give, as far as memory reaches; and a log
-- whose lines all give an event, or are blank, has these events.
use Rattle.std.proofs.Common.{◌≡◌, ◌↔◌, ℕ, ◌+◌, Bool, true, false, List, [], ◌∷◌, ◌++◌}
use Rattle.std.proofs.Common.{map, append-nil, Option, Some, None, option_map, Result}
use Rattle.std.proofs.Common.{Ok, Err, MatchBool, if◌then◌else◌, refl, sym, ap, ◌∙◌}
use Rattle.std.specs.Iterator.{Drains, Yields, YieldsThen}
use Rattle.std.specs.List.{cons_option}
use Rattle.serde_json.specs.Data.{Data}
use Rattle.rec_forms.specs.TextForm.{text_form}
use Rattle.rec_codec.specs.declared.line_events.LineError.TheVariants.{
  ReadRunLog,
  ParseEvent,
  OutOfMemory,
}
use Rattle.rec_codec.specs.declared.line_events.LineError.{LineError}
use Rattle.rec_codec.specs.Event.{RecordedEvent, line_event, log_events}
use Rattle.rec_codec.specs.Event.{recorded_event_of, with_event}
use Rattle.rec_codec.specs.LineEvents.{blank, AnswersEvent}
use Rattle.rec_codec.specs.LineItems.{left_after, GivesItem, GivesNext}
use Rattle.rec_codec.specs.LineReading.{GivesUpTo, before_fault, events_before_fault}
use Rattle.rec_codec.specs.LineReading.{first_fault, first_line_fault, item_or_fault}
use Rattle.rec_codec.specs.LineReading.{line_items, log_items, text_item}
use Rattle.rec_codec.specs.Lines.{NumberedLine, is_blank, numbered, text_of}

-- ---- items up to a fault

-- what stands before the first fault of items that begin with these
before-oks : {T E : Type 0} (xs : List T) (items : List (Result T E))
    → before_fault (map Ok xs ++ items) ≡ xs ++ before_fault items
before-oks [] items = refl
before-oks (x ∷ xs) items = ap (λ l. x ∷ l) (before-oks xs items)

-- and their first fault
first-oks : {T E : Type 0} (xs : List T) (items : List (Result T E))
    → first_fault (map Ok xs ++ items) ≡ first_fault items
first-oks [] items = refl
first-oks (x ∷ xs) items = first-oks xs items

-- ---- one line

module _ {T : Type 0} (form : Data → Option T) where
  -- memory was not short
  abbrev HasMemory : Result T LineError → Type 0
  HasMemory r = r ≡ Err OutOfMemory → ⊥

  -- what a text that isn't blank is answered as
  answered-text : (n : ℕ) (text : List ℕ) (r : Result T LineError)
      → AnswersEvent form r n (Some text) → HasMemory r → item_or_fault n (text_form form text) ≡ r
  answered-text n text (Ok x) h memory = ap (item_or_fault n) h
  answered-text n text (Err (ReadRunLog m)) h memory = absurd (let none = h.1 in cc)
  answered-text n text (Err (ParseEvent m)) h memory =
      ap (item_or_fault n) h.2 ∙ ap (λ k. Err (ParseEvent k)) (sym h.0)
  answered-text n text (Err OutOfMemory) h memory = absurd (memory refl)

  -- the answer for a line that isn't blank is its item
  answered : (n : ℕ) (text : Option (List ℕ)) (r : Result T LineError) → blank text ≡ false
      → AnswersEvent form r n text → HasMemory r → text_item form n text ≡ Some r
  answered n None (Ok x) filled h memory = absurd (let none = h in cc)
  answered n None (Err (ReadRunLog m)) filled h memory =
      ap (λ k. Some (Err (ReadRunLog k))) (sym h.0)
  answered n None (Err (ParseEvent m)) filled h memory = absurd (let some = h.1 in cc)
  answered n None (Err OutOfMemory) filled h memory = absurd (memory refl)
  answered n (Some text) r filled h memory =
      ap (λ b. if b then None else Some (item_or_fault n (text_form form text))) filled
      ∙ ap Some (answered-text n text r h memory)

  -- a blank line has none
  skipped : (n : ℕ) (text : Option (List ℕ)) → blank text ≡ true → text_item form n text ≡ None
  skipped n None is = absurd cc
  skipped n (Some text) is =
      ap (λ b. if b then None else Some (item_or_fault n (text_form form text))) is

  -- nothing but want of memory ends the lines
  left-kept : (r : Result T LineError) (rest : List NumberedLine) → HasMemory r
      → left_after r rest ≡ rest
  left-kept (Ok x) rest memory = refl
  left-kept (Err (ReadRunLog n)) rest memory = refl
  left-kept (Err (ParseEvent n)) rest memory = refl
  left-kept (Err OutOfMemory) rest memory = absurd (memory refl)

  -- ---- the next item

  item-at : (line : NumberedLine) (rest left : List NumberedLine) (r : Result T LineError)
      (b : Bool)
      → blank (text_of line.bytes) ≡ b → HasMemory r
      → (GivesNext form rest (Some r) left → line_items form rest ≡ r ∷ line_items form left)
      → MatchBool b (GivesNext form rest (Some r) left) (GivesItem form line rest (Some r) left)
      → line_items form (line ∷ rest) ≡ r ∷ line_items form left
  item-at line rest left r true is memory more h =
      ap (λ o. cons_option o (line_items form rest)) (skipped line.number (text_of line.bytes) is)
      ∙ more h
  item-at line rest left r false is memory more h =
      ap (λ o. cons_option o (line_items form rest))
      (answered line.number (text_of line.bytes) r is h.0 memory)
      ∙ ap (λ ls. r ∷ line_items form ls) (sym (h.1 ∙ left-kept r rest memory))

  -- an item that comes is the first of the lines', and the lines that are left have the others
  next-item : (ls left : List NumberedLine) (r : Result T LineError) → HasMemory r
      → GivesNext form ls (Some r) left → line_items form ls ≡ r ∷ line_items form left
  next-item [] left r memory h = absurd (let none = h.0 in cc)
  next-item (line ∷ rest) left r memory h =
      item-at line rest left r (blank (text_of line.bytes)) refl memory
      (next-item rest left r memory) h

  none-at : (line : NumberedLine) (rest left : List NumberedLine) (b : Bool)
      → blank (text_of line.bytes) ≡ b → (GivesNext form rest None left → line_items form rest ≡ [])
      → MatchBool b (GivesNext form rest None left) (GivesItem form line rest None left)
      → line_items form (line ∷ rest) ≡ []
  none-at line rest left true is more h =
      ap (λ o. cons_option o (line_items form rest)) (skipped line.number (text_of line.bytes) is)
      ∙ more h
  none-at line rest left false is more h = absurd h

  -- where none comes, the lines have none
  no-item : (ls left : List NumberedLine) → GivesNext form ls None left → line_items form ls ≡ []
  no-item [] left h = refl
  no-item (line ∷ rest) left h =
      none-at line rest left (blank (text_of line.bytes)) refl (no-item rest left) h

  -- ---- what an iterator gives

  ok-has_memory : (x : T) → HasMemory (Ok x)
  ok-has_memory x = λ same. cc

  fault-has_memory : (fault : LineError) → (fault ≡ OutOfMemory → ⊥) → HasMemory (Err fault)
  fault-has_memory fault memory = λ same. memory cc

  yielded-items : (xs : List T) (ls rest : List NumberedLine)
      → Yields (GivesNext form) ls (map Ok xs) rest
      → line_items form ls ≡ map Ok xs ++ line_items form rest
  yielded-items [] ls rest h = ap (line_items form) h
  yielded-items (x ∷ xs) ls rest h =
      next-item ls h.0 (Ok x) (ok-has_memory x) h.1
      ∙ ap (λ items. Ok x ∷ items) (yielded-items xs h.0 rest h.2)

  -- the rest of the lines decides, after lines that gave these
  after-yielded : (xs : List T) (ls rest : List NumberedLine)
      → Yields (GivesNext form) ls (map Ok xs) rest
      → GivesUpTo form ls (xs ++ before_fault (line_items form rest))
      (first_fault (line_items form rest))
  after-yielded xs ls rest h =
      let items = yielded-items xs ls rest h in (
        ap before_fault items ∙ before-oks xs (line_items form rest),
        ap first_fault items ∙ first-oks xs (line_items form rest),
      )

  -- lines from which these come and then none: no line fails, and these are all
  pub drained : (xs : List T) (ls : List NumberedLine) → Drains (GivesNext form) ls (map Ok xs)
      → GivesUpTo form ls xs None
  drained xs ls h =
      let rest = h.1.0 in
      let after = after-yielded xs ls rest h.1.1 in
      let none = no-item rest h.0 h.1.2 in (
        after.0 ∙ ap (λ items. xs ++ before_fault items) none ∙ append-nil xs,
        after.1 ∙ ap first_fault none,
      )

  -- lines from which these come and then a fault: these stand before the first line that fails,
  -- and that is its fault
  pub failed : (xs : List T) (ls left : List NumberedLine) (fault : LineError)
      → YieldsThen (GivesNext form) ls (map Ok xs) (Some (Err fault)) left
      → (fault ≡ OutOfMemory → ⊥)
      → GivesUpTo form ls xs (Some fault)
  failed xs ls left fault h memory =
      let rest = h.0 in
      let after = after-yielded xs ls rest h.1 in
      let next = next-item rest left (Err fault) (fault-has_memory fault memory) h.2 in (
        after.0 ∙ ap (λ items. xs ++ before_fault items) next ∙ append-nil xs,
        after.1 ∙ ap first_fault next,
      )

  -- lines from which these come: these are the first of those before the first line that fails
  pub yielded : (xs : List T) (ls rest : List NumberedLine)
      → Yields (GivesNext form) ls (map Ok xs) rest
      → (more : List T) × (before_fault (line_items form ls) ≡ xs ++ more)
  yielded xs ls rest h = (before_fault (line_items form rest), (after-yielded xs ls rest h).0)

-- ---- the events of a log

-- all, where there is no fault
abbrev unless_fault : {T E : Type 0} → Option E → List T → Option (List T)
unless_fault None xs = Some xs
unless_fault (Some e) xs = None

one-more : {T E : Type 0} (x : T) (fault : Option E) (xs : List T)
    → option_map (λ l. x ∷ l) (unless_fault fault xs) ≡ unless_fault fault (x ∷ xs)
one-more x None xs = refl
one-more x (Some e) xs = refl

-- the events of these items
abbrev events_in : List (Result RecordedEvent LineError) → Option (List RecordedEvent)
events_in items = unless_fault (first_fault items) (before_fault items)

event-at : (n : ℕ) (b : Bool) (o : Option RecordedEvent) (events : Option (List RecordedEvent))
    (items : List (Result RecordedEvent LineError))
    → events ≡ events_in items
    → with_event (if b then Some None else option_map Some o) events
    ≡ events_in (cons_option (if b then None else Some (item_or_fault n o)) items)
event-at n true o events items h = h
event-at n false None events items h = refl
event-at n false (Some e) events items h =
    ap (option_map (λ l. e ∷ l)) h ∙ one-more e (first_fault items) (before_fault items)

module _ (form : Data → Option RecordedEvent)
    (reads : (text : List ℕ) → recorded_event_of text ≡ text_form form text) where
  text-at : (n : ℕ) (text : Option (List ℕ)) (events : Option (List RecordedEvent))
      (items : List (Result RecordedEvent LineError))
      → events ≡ events_in items
      → with_event (line_event text) events ≡ events_in (cons_option (text_item form n text) items)
  text-at n None events items h = refl
  text-at n (Some text) events items h =
      ap (λ o. with_event (if is_blank text then Some None else option_map Some o) events)
      (reads text)
      ∙ event-at n (is_blank text) (text_form form text) events items h

  lines-at : (n : ℕ) (ls : List (List ℕ))
      → log_events ls ≡ events_in (line_items form (numbered n ls))
  lines-at n [] = refl
  lines-at n (line ∷ ls) =
      text-at n (text_of line) (log_events ls) (line_items form (numbered (n + 1) ls))
      (lines-at (n + 1) ls)

-- the events of a log, line by line
log_events-items : (n : ℕ) (ls : List (List ℕ))
    → log_events ls ≡ events_in (log_items (numbered n ls))
unfolding log_items recorded_event_of
log_events-items n ls = lines-at _ (λ text. refl) n ls

found : {T E : Type 0} (fault : Option E) (xs ys : List T) → unless_fault fault xs ≡ Some ys
    → (xs ≡ ys) × (fault ≡ None)
found None xs ys h = (cc, refl)
found (Some e) xs ys h = absurd cc

-- a log has events exactly where no line fails, and then they are those before the first line that
-- fails
pub log_events-whole : (n : ℕ) (ls : List (List ℕ)) (events : List RecordedEvent)
    → (log_events ls ≡ Some events)
    ↔ ((events_before_fault (numbered n ls) ≡ events) × (first_line_fault (numbered n ls) ≡ None))
log_events-whole n ls events =
    let all = numbered n ls in (
      (λ h. found (first_line_fault all) (events_before_fault all) events
          (sym (log_events-items n ls) ∙ h)),
      λ h. log_events-items n ls ∙ ap (λ o. unless_fault o (events_before_fault all)) h.1
          ∙ ap Some h.0,
    )
