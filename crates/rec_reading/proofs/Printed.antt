-- What is printed of the items of a log, event by event.
use Rattle.std.proofs.Common.{◌≡◌, inl, inr, ℕ, List, [], ◌∷◌, ◌++◌, map, Option, None, Some}
use Rattle.std.proofs.Common.{Result, Ok, Err, refl, sym, ap, subst, ◌∙◌, append_assoc, append-nil}
use Rattle.std.proofs.lemmas.List.{map-append}
use Rattle.std.specs.Iterator.{Yields}
use Rattle.std.specs.Prelude.{⊤}
use Rattle.rec_container.specs.Container.{Entry}
use Rattle.rec_container.specs.Reading.{◌>>=◌}
use Rattle.rec_events.specs.declared.live_events.TestEvent.{TestEvent}
use Rattle.rec_forms.specs.Outputs.{stored_outputs_form}
use Rattle.rec_codec.proofs.LineReadings.{drained, failed, yielded}
use Rattle.rec_codec.specs.declared.line_events.LineError.TheVariants as faults
use Rattle.rec_codec.specs.declared.line_events.LineError.{LineError}
use Rattle.rec_codec.specs.Event.{RecordedEvent}
use Rattle.rec_codec.specs.EventForms.{event_form}
use Rattle.rec_codec.specs.LineItems.{GivesNext}
use Rattle.rec_codec.specs.LineReading.{before_fault, first_fault, line_items, log_items}
use Rattle.rec_codec.specs.Lines.{NumberedLine}
use Rattle.rec_store.specs.Readers.{Keeps}
use Rattle.rec_errors.specs.declared.reading_error.ReadingError.{ReadingError}
use Rattle.rec_errors.specs.ReadingErrors.{line_error}
use Rattle.rec_reading.specs.Printing.{Adds, AddsEvent, Prints, before, text_from}

abbrev Item : Type 0
Item = Result RecordedEvent LineError

-- ---- items up to a fault

-- no fault, and these events
pub items-whole : (items : List Item) (events : List RecordedEvent) → before_fault items ≡ events
    → first_fault items ≡ None → items ≡ map Ok events
items-whole [] events h none = ap (map Ok) h
items-whole (Ok e ∷ items) [] h none = absurd cc
items-whole (Ok e ∷ items) (x ∷ events) h none =
    let same : e ≡ x = cc in
    let rest : before_fault items ≡ events = cc in
    ap (λ y. Ok y ∷ items) same ∙ ap (λ l. Ok x ∷ l) (items-whole items events rest none)
items-whole (Err fault ∷ items) events h none = absurd cc

-- these events, and then this fault
pub items-fault : (items : List Item) (events : List RecordedEvent) (fault : LineError)
    → before_fault items ≡ events → first_fault items ≡ Some fault
    → (more : List Item) × (items ≡ map Ok events ++ Err fault ∷ more)
items-fault [] events fault h some = absurd cc
items-fault (Ok e ∷ items) [] fault h some = absurd cc
items-fault (Ok e ∷ items) (x ∷ events) fault h some =
    let same : e ≡ x = cc in
    let rest : before_fault items ≡ events = cc in
    let more = items-fault items events fault rest some in
    (more.0, ap (λ y. Ok y ∷ items) same ∙ ap (λ l. Ok x ∷ l) more.1)
items-fault (Err found ∷ items) [] fault h some =
    let same : found ≡ fault = cc in (items, ap (λ f. Err f ∷ items) same)
items-fault (Err found ∷ items) (x ∷ events) fault h some = absurd cc

-- these events first
pub items-first : (items : List Item) (events more : List RecordedEvent)
    → before_fault items ≡ events ++ more → (rest : List Item) × (items ≡ map Ok events ++ rest)
items-first items [] more h = (items, refl)
items-first [] (x ∷ events) more h = absurd cc
items-first (Ok e ∷ items) (x ∷ events) more h =
    let same : e ≡ x = cc in
    let rest : before_fault items ≡ events ++ more = cc in
    let others = items-first items events more rest in
    (others.0, ap (λ y. Ok y ∷ items) same ∙ ap (λ l. Ok x ∷ l) others.1)
items-first (Err found ∷ items) (x ∷ events) more h = absurd cc

-- ---- the items of a log's lines

module _ (ls start mid left : List NumberedLine) (items : List Item) (events : List RecordedEvent)
    (from : start ≡ ls) (are : items ≡ map Ok events) where
  abbrev Steps : List NumberedLine → Option Item → List NumberedLine → Type 0
  Steps = GivesNext (event_form stored_outputs_form)

  -- calls that gave items, with one call more
  yields-push : (s : List NumberedLine) (xs : List Item) (x : Item) (t u : List NumberedLine)
      → Yields Steps s xs t → Steps t (Some x) u → Yields Steps s (xs ++ x ∷ []) u
  yields-push s [] x t u same step = (u, subst (λ v. Steps v (Some x) u) (sym same) step, refl)
  yields-push s (y ∷ xs) x t u (j, first, others) step =
      (j, first, yields-push j xs x t u others step)

  module _ (yields : Yields Steps start items mid) where
    -- the lines gave these events
    gave : Yields Steps ls (map Ok events) mid
    gave =
        subst (λ v. Yields Steps v (map Ok events) mid) from
        (subst (λ v. Yields Steps start v mid) are yields)

    -- and then no more
    pub lines-end : Steps mid None left → log_items ls ≡ map Ok events
    unfolding log_items
    lines-end step =
        let is = drained (event_form stored_outputs_form) events ls (left, (mid, gave, step)) in
        items-whole (line_items (event_form stored_outputs_form) ls) events is.0 is.1

    -- and then a fault
    pub lines-fault : (item : Item) (fault : LineError) → item ≡ Err fault
        → Steps mid (Some item) left → (fault ≡ faults.OutOfMemory → ⊥)
        → (more : List Item) × (log_items ls ≡ map Ok events ++ Err fault ∷ more)
    unfolding log_items
    lines-fault item fault is step memory =
        let found = failed (event_form stored_outputs_form) events ls left fault
        (mid, gave, subst (λ v. Steps mid (Some v) left) is step) memory in
        items-fault (line_items (event_form stored_outputs_form) ls) events fault found.0 found.1

    -- and then an event
    pub lines-event : (item : Item) (e : RecordedEvent) → item ≡ Ok e → Steps mid (Some item) left
        → (more : List Item) × (log_items ls ≡ map Ok (events ++ e ∷ []) ++ more)
    unfolding log_items
    lines-event item e is step =
        let all =
        subst (λ v. Yields Steps ls v left) (sym (map-append Ok events (e ∷ []))) (yields-push ls
        (map Ok events) (Ok e) mid left gave (subst (λ v. Steps mid (Some v) left) is step)) in
        let first = yielded (event_form stored_outputs_form) (events ++ e ∷ []) ls left all in
        items-first (line_items (event_form stored_outputs_form) ls) (events ++ e ∷ [])
        first.0 first.1

-- ---- texts before others

before-nil : (r : Result (List ℕ) ReadingError) → before [] r ≡ r
before-nil (Ok text) = refl
before-nil (Err e) = refl

before-both : (a b : List ℕ) (r : Result (List ℕ) ReadingError)
    → before a (before b r) ≡ before (a ++ b) r
before-both a b (Ok text) = ap Ok (sym (append_assoc a b text))
before-both a b (Err e) = refl

module _ (prints : Prints) (converted : RecordedEvent → Result TestEvent ReadingError) where
  -- ---- one event

  -- the text of an event, and then the rest
  event-text : (past : List TestEvent) (e : RecordedEvent) (rest : List Item) (live : TestEvent)
      (added : List ℕ)
      → converted e ≡ Ok live → prints past live ≡ Ok added
      → text_from prints converted past (Ok e ∷ rest)
      ≡ before added (text_from prints converted (past ++ live ∷ []) rest)
  event-text past e rest live added made shown =
      ap (λ r. r >>= (λ l. prints past l
      >>= (λ text. before text (text_from prints converted (past ++ l ∷ []) rest))))
      made
      ∙ ap (λ r. r >>= (λ text. before text (text_from prints converted (past ++ live ∷ []) rest)))
      shown

  -- its refusal
  event-refused : (past : List TestEvent) (e : RecordedEvent) (rest : List Item) (x : ReadingError)
      → (converted e >>= prints past) ≡ Err x
      → text_from prints converted past (Ok e ∷ rest) ≡ Err x
  event-refused past e rest x refused = go (converted e) refused
    where
      after : TestEvent → List ℕ → Result (List ℕ) ReadingError
      after live text = before text (text_from prints converted (past ++ live ∷ []) rest)

      shown : (live : TestEvent) (r : Result (List ℕ) ReadingError) → r ≡ Err x
          → (r >>= (λ text. before text (text_from prints converted (past ++ live ∷ []) rest)))
          ≡ Err x
      shown live (Ok text) h = absurd cc
      shown live (Err y) h = cc

      go : (r : Result TestEvent ReadingError) → (r >>= prints past) ≡ Err x
          → (r >>= (λ l. prints past l
          >>= (λ text. before text (text_from prints converted (past ++ l ∷ []) rest))))
          ≡ Err x
      go (Ok live) h = shown live (prints past live) h
      go (Err y) h = cc

  -- ---- what was printed so far

  -- these items are events; what was added is their text, and the rest goes on after them
  pub record HasPrinted (stands : List TestEvent → Type 0) (items : List Item)
      (old new : List ℕ) : Type 0 where
    pub events : List RecordedEvent
    pub are : items ≡ map Ok events
    pub past : List TestEvent
    pub standing : stands past
    pub added : List ℕ
    pub written : new ≡ old ++ added
    pub goes_on : (rest : List Item)
        → text_from prints converted [] (map Ok events ++ rest)
        ≡ before added (text_from prints converted past rest)

  pub nothing-printed : (stands : List TestEvent → Type 0) (text : List ℕ) → stands []
      → HasPrinted stands [] text text
  nothing-printed stands text begun = record {
    events = [];
    are = refl;
    past = [];
    standing = begun;
    added = [];
    written = sym (append-nil text);
    goes_on = λ rest. sym (before-nil (text_from prints converted [] rest));
  }

  module _ (stands : List TestEvent → Type 0) (items : List Item) (old new : List ℕ)
      (has : HasPrinted stands items old new) where
    -- one event more
    pub printed-more : (later : List TestEvent → Type 0) (item : Item) (e : RecordedEvent)
        (newer : List ℕ)
        → item ≡ Ok e
        → ((past : List TestEvent) → stands past
        → AddsEvent prints converted later past e new newer (Ok tt))
        → HasPrinted later (items ++ item ∷ []) old newer
    printed-more later item e newer is step =
        let one = step has.past has.standing in
        let live = one.0 in
        let text = one.1 in
        record {
          events = has.events ++ e ∷ [];
          are =
              ap (λ v. items ++ v ∷ []) is ∙ ap (λ v. v ++ Ok e ∷ []) has.are
              ∙ sym (map-append Ok has.events (e ∷ []));
          past = has.past ++ live ∷ [];
          standing = one.5;
          added = has.added ++ text;
          written = one.4 ∙ ap (λ l. l ++ text) has.written ∙ append_assoc old has.added text;
          goes_on = λ rest.
              ap (λ l. text_from prints converted [] (l ++ rest))
              (map-append Ok has.events (e ∷ []))
              ∙ ap (text_from prints converted [])
              (append_assoc (map Ok has.events) (Ok e ∷ []) rest)
              ∙ has.goes_on (Ok e ∷ rest)
              ∙ ap (before has.added) (event-text has.past e rest live text one.2 one.3)
              ∙ before-both has.added text
              (text_from prints converted (has.past ++ live ∷ []) rest);
        }

    -- no more items
    pub printed-all : (all : List Item) → all ≡ map Ok has.events
        → Adds (text_from prints converted [] all) old new (Ok tt)
    printed-all all is = (
      has.added,
      ap (text_from prints converted []) (is ∙ sym (append-nil (map Ok has.events)))
          ∙ has.goes_on [] ∙ ap Ok (append-nil has.added),
      has.written,
    )

    -- an item that gives no event
    pub printed-unread : (ls : List NumberedLine) (fault : LineError) (newer : List ℕ)
        → ((fault ≡ faults.OutOfMemory → ⊥)
        → (more : List Item) × (log_items ls ≡ map Ok has.events ++ Err fault ∷ more))
        → Adds (text_from prints converted [] (log_items ls)) old newer (Err (line_error fault))
    printed-unread ls fault newer found = go fault found
      where
        unread : (fault : LineError)
            → (more : List Item) × (log_items ls ≡ map Ok has.events ++ Err fault ∷ more)
            → Adds (text_from prints converted [] (log_items ls)) old newer (Err (line_error fault))
        unread fault more =
            inr (ap (text_from prints converted []) more.1 ∙ has.goes_on (Err fault ∷ more.0))

        go : (fault : LineError)
            → ((fault ≡ faults.OutOfMemory → ⊥)
            → (more : List Item) × (log_items ls ≡ map Ok has.events ++ Err fault ∷ more))
            → Adds (text_from prints converted [] (log_items ls)) old newer (Err (line_error fault))
        go (faults.ReadRunLog n) found = unread (faults.ReadRunLog n) (found (λ same. cc))
        go (faults.ParseEvent n) found = unread (faults.ParseEvent n) (found (λ same. cc))
        go faults.OutOfMemory found = inl refl

    -- an event that isn't converted or printed
    pub printed-refused : (all more : List Item) (e : RecordedEvent) (newer newest : List ℕ)
        (later : List TestEvent → Type 0) (x : ReadingError)
        → all ≡ map Ok (has.events ++ e ∷ []) ++ more
        → ((past : List TestEvent) → stands past
        → AddsEvent prints converted later past e new newer (Err x))
        → Adds (text_from prints converted [] all) old newest (Err x)
    printed-refused all more e newer newest later x is step = go (step has.past has.standing)
      where
        go : AddsEvent prints converted later has.past e new newer (Err x)
            → Adds (text_from prints converted [] all) old newest (Err x)
        go (inl memory) = inl memory
        go (inr refused) = inr
            (ap (text_from prints converted []) (is ∙ ap (λ l. l ++ more)
            (map-append Ok has.events (e ∷ [])) ∙ append_assoc (map Ok has.events) (Ok e ∷ []) more)
            ∙ has.goes_on (Ok e ∷ more)
            ∙ ap (before has.added) (event-refused has.past e more x refused))

-- ---- one event, under a limit that is the same, by a printer that prints the same

pub same-step : (limited : ℕ → RecordedEvent → Result TestEvent ReadingError) (p q : Prints)
    (n m : ℕ) (stands : List TestEvent → Type 0) (past : List TestEvent) (e : RecordedEvent)
    (old new : List ℕ) (r : Result ⊤ ReadingError)
    → p ≡ q → n ≡ m → AddsEvent p (limited n) stands past e old new r
    → AddsEvent q (limited m) stands past e old new r
same-step limited p q n m stands past e old new r printer limit h =
    subst (λ k. AddsEvent q (limited k) stands past e old new r) limit
    (subst (λ z. AddsEvent z (limited n) stands past e old new r) printer h)

-- a reader that keeps what it keeps
pub keeps-both : (a b c : ℕ) (A B C : List Entry → Type 0) → Keeps a b A B → Keeps b c B C
    → Keeps a c A C
keeps-both a b c A B C first second = record {
  limit = second.limit ∙ first.limit;
  entries = λ es. (
    λ h. (second.entries es).0 ((first.entries es).0 h),
    λ h. (first.entries es).1 ((second.entries es).1 h),
  );
}
