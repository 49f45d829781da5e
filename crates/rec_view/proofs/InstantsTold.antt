-- The instants of a history, event by event, and the time of slices.
use Rattle.std.proofs.Common.{◌≡◌, ◌<◌, ◌^◌, ◌-◌, ℕ, zero, suc, ℤ, pos, negsuc, ◌+ℤ◌, ◌-ℤ◌, ◌+◌}
use Rattle.std.proofs.Common.{◌*◌, ◌&&◌, Bool}
use Rattle.std.proofs.Common.{true, false, List, [], ◌∷◌, ◌++◌, length, map, min, get_or}
use Rattle.std.proofs.Common.{slice_get, Some, None, Result, Ok, Err, OkIff, FitsSigned}
use Rattle.std.proofs.Common.{refl, ap, sym, ◌∙◌, arith, subst, if◌then◌else◌}
use Rattle.std.proofs.lemmas.Bool.Decides.{nat_tests}
use Rattle.std.proofs.lemmas.Bool.{false_from_ne_true}
use Rattle.std.proofs.lemmas.Int.{ints}
use Rattle.std.proofs.lemmas.List.Folds.{list_all-append}
use Rattle.std.proofs.lemmas.List.{map-append}
use Rattle.std.specs.Int.Signed.{◌≤ℤ◌}
use Rattle.std.specs.Int.{w128, w64}
use Rattle.std.specs.Result.{result_ok}
use Rattle.rec_events.specs.declared.events.TestEventSummary.{TestEventSummary}
use Rattle.rec_events.specs.Times.{micros}
use Rattle.rec_forms.specs.Shape.{fits}
use Rattle.rec_spans.specs.declared.settings.ChromeTraceGroupBy.TheVariants.{Slot}
use Rattle.rec_spans.specs.Kinds.{history, history_after, trace_input}
use Rattle.rec_spans.specs.Past.{TraceInput, binaries}
use Rattle.rec_spans.specs.Plain.{plain}
use Rattle.rec_spans.specs.Times.{instant, total}
use Rattle.rec_view.proofs.Slices.{total-append}
use Rattle.rec_view.specs.declared.instants.Instants.{Instants}
use Rattle.rec_view.specs.declared.shown_gaps.Slice.{Slice}
use Rattle.rec_view.specs.Instants.{TellsInstants, are_in_range, i64_of, instants}
use Rattle.rec_view.specs.Instants.{time_of_slices}
use Rattle.rec_view.specs.ShownGaps.{pair, pairs}
use Rattle.rec_view.specs.Slices.{lasting, moment}

-- ---- what fits

fits_from : (z : ℤ) → FitsSigned w64 z → fits (2 ^ 63) z ≡ true
fits_from (pos n) h = grind (arith, nat_tests, ints)
fits_from (negsuc n) h = grind (arith, nat_tests, ints)

fits_to : (z : ℤ) → fits (2 ^ 63) z ≡ true → FitsSigned w64 z
fits_to (pos n) h = grind (arith, nat_tests, ints)
fits_to (negsuc n) h = grind (arith, nat_tests, ints)

pub fits_not : (z : ℤ) → (FitsSigned w64 z → ⊥) → fits (2 ^ 63) z ≡ false
fits_not z never = false_from_ne_true (fits (2 ^ 63) z) (λ e. never (fits_to z e))

pub read_i64 : {E : Type 0} (r : Result ℤ E) (x z : ℤ) → OkIff r (FitsSigned w64 x) x → x ≡ z
    → result_ok r ≡ i64_of z
read_i64 (Ok m) x z h is =
    ap Some (h.1 ∙ is)
    ∙ sym (ap (λ b. if b then Some z else None) (fits_from z (subst (FitsSigned w64) is h.0)))
read_i64 (Err m) x z h is =
    sym (ap (λ b. if b then Some z else None)
    (fits_not z (λ small. absurd (h (subst (FitsSigned w64) (sym is) small)))))

-- ---- instants

module _ {S O : Type 0} where
  abbrev stamps : List (TestEventSummary S O) → List ℤ
  stamps events = map (λ e. micros e.timestamp) events

  after_are : (past : List TraceInput) (events : List (TestEventSummary S O))
      → instants (history_after Slot past (map plain events)) ≡ stamps events
  after_are past [] = refl
  after_are past (e ∷ events) =
      ap (λ ts. micros e.timestamp ∷ ts)
      (after_are (trace_input Slot (binaries past) (plain e) ∷ past) events)

  pub instants_are : (events : List (TestEventSummary S O))
      → instants (history Slot (map plain events)) ≡ stamps events
  instants_are events = after_are [] events

-- these are the instants of these events, and each is an i64
pub record AreStamps {S O : Type 0} (events : List (TestEventSummary S O)) (ts : List ℤ) : Type 0
  where
    pub are : ts ≡ map (λ (e : TestEventSummary S O). micros e.timestamp) events
    pub in_range : are_in_range ts ≡ true

pub stamps_more : {S O : Type 0} (events : List (TestEventSummary S O)) (e : TestEventSummary S O)
    (ts : List ℤ) (t : ℤ) → t ≡ micros e.timestamp → FitsSigned w64 (micros e.timestamp)
    → AreStamps events ts → AreStamps (events ++ e ∷ []) (ts ++ t ∷ [])
stamps_more {S} {O} events e ts t is small before = record {
  are = ap (λ xs. xs ++ t ∷ []) before.are
      ∙ ap (λ x. map (λ (e : TestEventSummary S O). micros e.timestamp) events ++ x ∷ []) is
      ∙ sym (map-append (λ (e : TestEventSummary S O). micros e.timestamp) events (e ∷ []));
  in_range = list_all-append (fits (2 ^ 63)) ts (t ∷ [])
      ∙ ap (λ b. b && (fits (2 ^ 63) t && true)) before.in_range
      ∙ ap (λ b. b && true) (ap (fits (2 ^ 63)) is ∙ fits_from (micros e.timestamp) small);
}

one_out : (ts : List ℤ) (i : ℕ) (t : ℤ) → slice_get ts i ≡ Some t → fits (2 ^ 63) t ≡ false
    → are_in_range ts ≡ false
one_out [] i t is out = cc
one_out (x ∷ ts) zero t is out =
    ap (λ y. fits (2 ^ 63) y && are_in_range ts) (same is) ∙ ap (λ b. b && are_in_range ts) out
  where
    same : Some x ≡ Some t → x ≡ t
    same e = cc
one_out (x ∷ ts) (suc i) t is out = by (fits (2 ^ 63) x) (one_out ts i t is out)
  where
    by : (b : Bool) → are_in_range ts ≡ false → (b && are_in_range ts) ≡ false
    by true e = e
    by false e = refl

mapped : {X Y : Type 0} (f : X → Y) (xs : List X) (i : ℕ) (x : X) → slice_get xs i ≡ Some x
    → slice_get (map f xs) i ≡ Some (f x)
mapped f [] i x is = cc
mapped f (y ∷ xs) zero x is = ap (λ z. Some (f z)) (same is)
  where
    same : Some y ≡ Some x → y ≡ x
    same e = cc
mapped f (y ∷ xs) (suc i) x is = mapped f xs i x is

pub out_of_range : {S O : Type 0} (events : List (TestEventSummary S O)) (i : ℕ)
    (e : TestEventSummary S O) → slice_get events i ≡ Some e
    → (FitsSigned w64 (micros e.timestamp) → ⊥)
    → are_in_range (instants (history Slot (map plain events))) ≡ false
out_of_range {S} {O} events i e is never =
    ap are_in_range (instants_are events)
    ∙ one_out _ i (micros e.timestamp)
    (mapped (λ (e : TestEventSummary S O). micros e.timestamp) events i e is)
    (fits_not (micros e.timestamp) never)

pub all_told : {S O : Type 0} (events : List (TestEventSummary S O)) (i : Instants)
    → AreStamps events i.micros.items
    → TellsInstants (history Slot (map plain events)) (Some i)
all_told events i are = (
  ap are_in_range (instants_are events ∙ sym are.are) ∙ are.in_range,
  record { micros = are.are ∙ sym (instants_are events) },
)

-- ---- the instant at a position

mapped_or : (history : List TraceInput) (i : ℕ)
    → get_or (instants history) i (pos 0) ≡ instant history i
mapped_or [] i = refl
mapped_or (x ∷ history) zero = refl
mapped_or (x ∷ history) (suc i) = mapped_or history i

pub moment_is : (history : List TraceInput) (ts : List ℤ) (at index : ℕ) (t : ℤ)
    → ts ≡ instants history → index ≡ min at (length ts - 1) → t ≡ get_or ts index (pos 0)
    → t ≡ moment history at
moment_is history ts at index t are is here =
    here ∙ ap (λ xs. get_or xs index (pos 0)) are ∙ mapped_or history index
    ∙ ap (instant history) (is ∙ ap (λ n. min at (n - 1)) (ap length are ∙ many history))
  where
    many : (history : List TraceInput) → length (instants history) ≡ length history
    many [] = refl
    many (x ∷ history) = ap suc (many history)

-- ---- times

pub time_more : (history : List TraceInput) (slices : List Slice) (s : Slice) (before more : ℤ)
    → before ≡ time_of_slices history (pairs slices) → more ≡ lasting (moment history) (pair s)
    → before +ℤ more ≡ time_of_slices history (pairs (slices ++ s ∷ []))
time_more history slices s before more is lasts =
    ap (λ x. x +ℤ more) is ∙ ap (λ x. time_of_slices history (pairs slices) +ℤ x) (lasts
    ∙ (let g : (x : ℤ) → x ≡ x +ℤ pos 0 = λ x. omega (arith, ints) in
    g (lasting (moment history) (pair s))))
    ∙ sym (total-append (map (lasting (moment history)) (pairs slices))
    (lasting (moment history) (pair s) ∷ []))
    ∙ sym (ap total (map-append (lasting (moment history)) (pairs slices) (pair s ∷ [])))
    ∙ sym (ap (time_of_slices history) (map-append pair slices (s ∷ [])))

-- a sum of fewer than 2^60 times, and one more
pub sum_fits : (n : ℕ) (a b : ℤ) → n < 2 ^ 60 → (pos 0 -ℤ pos (n * 2 ^ 64)) ≤ℤ a
    → a ≤ℤ pos (n * 2 ^ 64) → (pos 0 -ℤ pos (2 ^ 64)) ≤ℤ b → b ≤ℤ pos (2 ^ 64)
    → FitsSigned w128 (a +ℤ b)
sum_fits n a b few low high l h = omega (arith, ints)

pub low_more : (n : ℕ) (a b : ℤ) → (pos 0 -ℤ pos (n * 2 ^ 64)) ≤ℤ a
    → (pos 0 -ℤ pos (2 ^ 64)) ≤ℤ b → (pos 0 -ℤ pos ((n + 1) * 2 ^ 64)) ≤ℤ (a +ℤ b)
low_more n a b low l = omega (arith, ints)

pub high_more : (n : ℕ) (a b : ℤ) → a ≤ℤ pos (n * 2 ^ 64) → b ≤ℤ pos (2 ^ 64)
    → (a +ℤ b) ≤ℤ pos ((n + 1) * 2 ^ 64)
high_more n a b high h = omega (arith, ints)
