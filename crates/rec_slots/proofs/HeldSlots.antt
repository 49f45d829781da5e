-- Which slots are held after a start or a stop, and that each place and each key has one open span
-- at most.
use Rattle.std.proofs.Common.{◌≡◌, ◌≢◌, ◌⊎◌, inl, inr, ℕ, Bool, true, false, not, cond, ◌==◌}
use Rattle.std.proofs.Common.{◌||◌, ◌&&◌, List, [], ◌∷◌, filter, refl, sym, ◌∙◌, ap, subst}
use Rattle.std.proofs.lemmas.Bool.{false_from_ne_true}
use Rattle.rec_events.specs.declared.instances.OwnedTestInstanceId.{OwnedTestInstanceId}
use Rattle.rec_spans.proofs.Filters.{filter-put_no, filter-put_yes}
use Rattle.rec_spans.proofs.Filters.{filter_comm, filter-yes, filter-no}
use Rattle.rec_spans.proofs.Fits.{AllFit, Fits, FitsAt}
use Rattle.rec_spans.proofs.Keys.{is_eq-nat_cmp, key_eq-true, place_eq-from, place_eq-true}
use Rattle.rec_spans.proofs.PlacesOfHistory.{Has-filter}
use Rattle.rec_spans.specs.declared.spans.Place.TheVariants as places
use Rattle.rec_spans.specs.declared.spans.Place.{Place}
use Rattle.rec_spans.specs.declared.spans.Span.{Span}
use Rattle.rec_spans.specs.declared.spans.SpanKey.TheVariants as keys
use Rattle.rec_spans.specs.declared.spans.SpanKey.{SpanKey}
use Rattle.rec_spans.specs.Keys.{key_eq}
use Rattle.rec_spans.specs.Past.Change.{Start, Stop, Pause, Resume, Other}
use Rattle.rec_spans.specs.Past.{Change, in_place, of_key, open_after, put_in, without}
use Rattle.rec_spans.specs.Places.{place_eq}
use Rattle.rec_spans.specs.Positions.{Has}
use Rattle.rec_spans.specs.Refusals.{is_none_open}
use Rattle.rec_slots.specs.Beats.{IsAtMostOne}
use Rattle.rec_slots.specs.Usage.{is_held}

-- ---- at most one

-- what starts finds nothing that passes the test, if it does itself
abbrev pub FindsFree : (Span → Bool) → Change → List Span → Type 0
FindsFree p (Start s) spans = p s ≡ true → filter p spans ≡ []
FindsFree p (Stop k) spans = Unit {0}
FindsFree p Pause spans = Unit {0}
FindsFree p Resume spans = Unit {0}
FindsFree p Other spans = Unit {0}

one-filter : (p q : Span → Bool) (spans : List Span) → IsAtMostOne (filter p spans)
    → IsAtMostOne (filter p (filter q spans))
one-filter p q spans (inl none) = inl (filter_comm p q spans ∙ ap (filter q) none)
one-filter p q spans (inr (s, is)) = by (q s) refl
  where
    by : (b : Bool) → q s ≡ b → IsAtMostOne (filter p (filter q spans))
    by true e = inr (s, filter_comm p q spans ∙ ap (filter q) is ∙ filter-yes q s [] e)
    by false e = inl (filter_comm p q spans ∙ ap (filter q) is ∙ filter-no q s [] e)

pub one-after : (p : Span → Bool) (c : Change) (spans : List Span) → FindsFree p c spans
    → IsAtMostOne (filter p spans) → IsAtMostOne (filter p (open_after c spans))
one-after p (Start s) spans free one = by (p s) refl
  where
    by : (b : Bool) → p s ≡ b → IsAtMostOne (filter p (put_in s spans))
    by true e = inr (s, filter-put_yes p s spans e (free e))
    by false e = subst IsAtMostOne (sym (filter-put_no p s spans e)) one
one-after p (Stop k) spans free one = one-filter p (λ s. not (key_eq s.key k)) spans one
one-after p Pause spans free one = one
one-after p Resume spans free one = one
one-after p Other spans free one = one

-- the one that is there
pub the-one : (xs : List Span) (s x : Span) → IsAtMostOne xs → Has xs s → Has xs x → s ≡ x
the-one xs s x (inl none) hs hx = absurd (subst (λ v. Has v s) none hs)
the-one xs s x (inr (y, is)) hs hx = by (subst (λ v. Has v s) is hs) (subst (λ v. Has v x) is hx)
  where
    by : (y ≡ s) ⊎ ⊥ → (y ≡ x) ⊎ ⊥ → s ≡ x
    by (inl e) (inl f) = sym e ∙ f
    by (inr e) f = absurd e
    by (inl e) (inr f) = absurd f

pub alone-is : (xs : List Span) (x : Span) → IsAtMostOne xs → Has xs x → xs ≡ x ∷ []
alone-is xs x (inl none) has = absurd (subst (λ v. Has v x) none has)
alone-is xs x (inr (y, is)) has = is ∙ by (subst (λ v. Has v x) is has)
  where
    by : (y ≡ x) ⊎ ⊥ → y ∷ [] ≡ x ∷ []
    by (inl e) = ap (λ v. v ∷ []) e
    by (inr e) = absurd e

-- ---- slots

slot-test : (p q : ℕ) → place_eq (places.Slot p) (places.Slot q) ≡ (p == q)
slot-test p q = is_eq-nat_cmp p q

pub Has-in_place : (p : Place) (x : Span) (spans : List Span) → Has spans x → x.place ≡ p
    → Has (in_place p spans) x
Has-in_place p x spans has at =
    (Has-filter (λ s. place_eq p s.place) x spans).1 (has, place_eq-from p x.place (sym at))

-- a slot at which a span stands is held
pub held-has : (slot : ℕ) (x : Span) (spans : List Span) → Has spans x → x.place ≡ places.Slot slot
    → is_held slot spans ≡ true
held-has slot x spans has at =
    by (in_place (places.Slot slot) spans) (Has-in_place (places.Slot slot) x spans has at)
  where
    by : (found : List Span) → Has found x → not (is_none_open found) ≡ true
    by [] h = absurd h
    by (s ∷ found) h = refl

held-none : (slot : ℕ) (spans : List Span) → in_place (places.Slot slot) spans ≡ []
    → is_held slot spans ≡ false
held-none slot spans e = ap (λ l. not (is_none_open l)) e

-- a slot is held after a start on it, and every other slot as before
pub held-start : (s : Span) (spans : List Span) (slot : ℕ) → s.place ≡ places.Slot slot
    → in_place (places.Slot slot) spans ≡ [] → (p : ℕ)
    → is_held p (put_in s spans) ≡ (p == slot || is_held p spans)
held-start s spans slot at free p =
    by (p == slot) refl
  where
    test : place_eq (places.Slot p) s.place ≡ (p == slot)
    test = ap (place_eq (places.Slot p)) at ∙ slot-test p slot

    by : (b : Bool) → (p == slot) ≡ b → is_held p (put_in s spans) ≡ (b || is_held p spans)
    by true e =
        let same : places.Slot p ≡ places.Slot slot =
        place_eq-true (places.Slot p) (places.Slot slot) (slot-test p slot ∙ e) in
        ap (λ l. not (is_none_open l)) (filter-put_yes (λ x. place_eq (places.Slot p) x.place)
        s spans (test ∙ e) (ap (λ q. in_place q spans) same ∙ free))
    by false e =
        ap (λ l. not (is_none_open l))
        (filter-put_no (λ x. place_eq (places.Slot p) x.place) s spans (test ∙ e))

-- what stops is none of these
none_stops : (k : SpanKey) (xs : List Span) → of_key k xs ≡ [] → without k xs ≡ xs
none_stops k [] h = refl
none_stops k (x ∷ xs) h = by (key_eq x.key k) refl h (none_stops k xs)
  where
    by : (b : Bool) → key_eq x.key k ≡ b → cond b (x ∷ of_key k xs) (of_key k xs) ≡ []
        → (of_key k xs ≡ [] → without k xs ≡ xs) → without k (x ∷ xs) ≡ x ∷ xs
    by true e h rest = absurd cc
    by false e h rest =
        ap (λ b. cond (not b) (x ∷ without k xs) (without k xs)) e ∙ ap (λ l. x ∷ l) (rest h)

-- the span that stops stands elsewhere: the place is as it was
elsewhere : (k : SpanKey) (place : Span → Bool) (s : Span) (xs : List Span) → of_key k xs ≡ s ∷ []
    → place s ≡ false → filter place (without k xs) ≡ filter place xs
elsewhere k place s [] h there = refl
elsewhere k place s (x ∷ xs) h there =
    by (key_eq x.key k) refl h (λ e. elsewhere k place s xs e there) (none_stops k xs)
  where
    by : (b : Bool) → key_eq x.key k ≡ b → cond b (x ∷ of_key k xs) (of_key k xs) ≡ s ∷ []
        → (of_key k xs ≡ s ∷ [] → filter place (without k xs) ≡ filter place xs)
        → (of_key k xs ≡ [] → without k xs ≡ xs)
        → filter place (without k (x ∷ xs)) ≡ filter place (x ∷ xs)
    by true e h rest none =
        let same : x ≡ s = cc in
        let empty : of_key k xs ≡ [] = cc in
        ap (λ b. filter place (cond (not b) (x ∷ without k xs) (without k xs))) e
        ∙ ap (filter place) (none empty)
        ∙ sym (ap (λ b. cond b (x ∷ filter place xs) (filter place xs)) (ap place same ∙ there))
    by false e h rest none =
        ap (λ b. filter place (cond (not b) (x ∷ without k xs) (without k xs))) e
        ∙ ap (λ l. cond (place x) (x ∷ l) l) (rest h)

-- a slot isn't held after the stop of the one span on it, and every other slot is as before
pub held-stop : (k : SpanKey) (x : Span) (spans : List Span) (slot : ℕ) → of_key k spans ≡ x ∷ []
    → key_eq x.key k ≡ true → x.place ≡ places.Slot slot
    → in_place (places.Slot slot) spans ≡ x ∷ [] → (p : ℕ)
    → is_held p (without k spans) ≡ (not (p == slot) && is_held p spans)
held-stop k x spans slot only is at there p = by (p == slot) refl
  where
    test : place_eq (places.Slot p) x.place ≡ (p == slot)
    test = ap (place_eq (places.Slot p)) at ∙ slot-test p slot

    by : (b : Bool) → (p == slot) ≡ b → is_held p (without k spans) ≡ (not b && is_held p spans)
    by true e =
        let same : places.Slot p ≡ places.Slot slot =
        place_eq-true (places.Slot p) (places.Slot slot) (slot-test p slot ∙ e) in
        held-none p (without k spans) (ap (λ q. in_place q (without k spans)) same
        ∙ filter_comm (λ s. place_eq (places.Slot slot) s.place) (λ s. not (key_eq s.key k)) spans
        ∙ ap (filter (λ s. not (key_eq s.key k))) there
        ∙ filter-no (λ (s : Span). not (key_eq s.key k)) x [] (ap not is))
    by false e =
        ap (λ l. not (is_none_open l))
        (elsewhere k (λ s. place_eq (places.Slot p) s.place) x spans only (test ∙ e))

-- ---- changes that leave the slots

-- neither a span on a slot starts, nor an attempt stops
abbrev pub LeavesSlots : Change → Type 0
LeavesSlots (Start s) = (slot : ℕ) → s.place ≢ places.Slot slot
LeavesSlots (Stop k) = (test : OwnedTestInstanceId) → k ≢ keys.Test test
LeavesSlots Pause = Unit {0}
LeavesSlots Resume = Unit {0}
LeavesSlots Other = Unit {0}

-- what stands on a slot is an attempt of a test, and an attempt stands on a slot
pub test-on : (slot : ℕ) (j : SpanKey) (x : Span) → FitsAt j x → x.place ≡ places.Slot slot
    → (test : OwnedTestInstanceId) × (j ≡ keys.Test test)
test-on slot keys.Run x (f, g, h) e = cc
test-on slot keys.SubRun x (f, g, h) e = cc
test-on slot (keys.Script i) x (f, g, h) e = cc
test-on slot (keys.Test t) x f e = (t, refl)

pub slot-of : (t : OwnedTestInstanceId) (x : Span) → Fits x → x.key ≡ keys.Test t
    → (slot : ℕ) × (x.place ≡ places.Slot slot)
slot-of t x fits e = let f = subst (λ k. FitsAt k x) e fits in (f.0, f.1)

stops-none : (k : SpanKey) → ((test : OwnedTestInstanceId) → k ≢ keys.Test test)
    → (slot : ℕ) (spans : List Span) → AllFit spans
    → in_place (places.Slot slot) (without k spans) ≡ in_place (places.Slot slot) spans
stops-none k other slot [] fits = refl
stops-none k other slot (x ∷ spans) fits =
    by (key_eq x.key k) refl (stops-none k other slot spans fits.1)
  where
    apart : key_eq x.key k ≡ true → place_eq (places.Slot slot) x.place ≡ true → ⊥
    apart e at =
        let t = test-on slot x.key x fits.0 (sym (place_eq-true (places.Slot slot) x.place at)) in
        other t.0 (sym (key_eq-true x.key k e) ∙ t.1)

    by : (b : Bool) → key_eq x.key k ≡ b
        → in_place (places.Slot slot) (without k spans) ≡ in_place (places.Slot slot) spans
        → in_place (places.Slot slot) (without k (x ∷ spans))
        ≡ in_place (places.Slot slot) (x ∷ spans)
    by true e rest =
        ap (λ b. in_place (places.Slot slot) (cond (not b) (x ∷ without k spans) (without k spans)))
        e
        ∙ rest
        ∙ sym (filter-no (λ (s : Span). place_eq (places.Slot slot) s.place) x spans
        (false_from_ne_true (place_eq (places.Slot slot) x.place) (apart e)))
    by false e rest =
        ap (λ b. in_place (places.Slot slot) (cond (not b) (x ∷ without k spans) (without k spans)))
        e
        ∙ ap (λ l. cond (place_eq (places.Slot slot) x.place) (x ∷ l) l) rest

pub held-left : (c : Change) (spans : List Span) → LeavesSlots c → AllFit spans → (slot : ℕ)
    → is_held slot (open_after c spans) ≡ is_held slot spans
held-left (Start s) spans leaves fits slot =
    ap (λ l. not (is_none_open l)) (filter-put_no (λ x. place_eq (places.Slot slot) x.place) s spans
    (false_from_ne_true (place_eq (places.Slot slot) s.place)
    (λ e. leaves slot (sym (place_eq-true (places.Slot slot) s.place e)))))
held-left (Stop k) spans leaves fits slot =
    ap (λ l. not (is_none_open l)) (stops-none k leaves slot spans fits)
held-left Pause spans leaves fits slot = refl
held-left Resume spans leaves fits slot = refl
held-left Other spans leaves fits slot = refl
