-- How a test stands after one event more.
use Rattle.std.proofs.Common.{◌≡◌, ℕ, zero, suc, ◌+◌, ◌<◌, Bool, true, false, ◌&&◌}
use Rattle.std.proofs.Common.{nat_lt, List, [], ◌∷◌, ◌++◌, length, Option, Some, None}
use Rattle.std.proofs.Common.{refl, sym, ap, ◌∙◌, arith, slice_get, take, take-suc}
use Rattle.std.proofs.Common.{add-one, get_or, option_map, if◌then◌else◌, IfSome}
use Rattle.std.proofs.lemmas.Bool.Decides.{nat_tests}
use Rattle.std.proofs.lemmas.List.{map-append}
use Rattle.std.specs.Option.{option_or}
use Rattle.rec_events.specs.declared.instances.OwnedTestInstanceId.{OwnedTestInstanceId}
use Rattle.rec_events.specs.Tests.{test_eq}
use Rattle.rec_format.specs.declared.rerun.RerunInfo.{RerunInfo}
use Rattle.rec_rerun.specs.Acts.Act.{Starts, Ends, Silent}
use Rattle.rec_rerun.specs.Acts.{Act, act_of}
use Rattle.rec_rerun.specs.declared.standings.Standing.TheVariants.{Started}
use Rattle.rec_rerun.specs.Places.{last_at}
use Rattle.rec_rerun.specs.Selection.{HasTaken, known_in}
use Rattle.rec_rerun.specs.Standings.{LogEvent, Tests, acts_of, at, ended, ends}
use Rattle.rec_rerun.specs.Standings.{ends_well, has_passed, standing_after}
use Rattle.rec_rerun.specs.Standings.{standing_from, standing_of, starts}

abbrev zero_if : Bool → Option ℕ
zero_if b = if b then Some 0 else None

-- one item more
pub last_at-push : {X : Type 0} (test : X → Bool) (xs : List X) (x : X)
    → last_at test (xs ++ x ∷ []) ≡ (if test x then Some (length xs) else last_at test xs)
last_at-push test [] x = by (test x)
  where
    by : (b : Bool) → option_or {T = ℕ} None (zero_if b) ≡ zero_if b
    by true = refl
    by false = refl
last_at-push test (y ∷ xs) x =
    ap (λ o. option_or (option_map suc o) (zero_if (test y))) (last_at-push test xs x) ∙ by (test x)
  where
    by : (b : Bool)
        → option_or (option_map suc (if b then Some (length xs) else last_at test xs))
        (zero_if (test y))
        ≡ (if b then Some (length (y ∷ xs)) else last_at test (y ∷ xs))
    by true = refl
    by false = refl

-- the last place lies within the list
pub last_within : {X : Type 0} (test : X → Bool) (xs : List X)
    → IfSome (last_at test xs) (λ i. i < length xs)
last_within test [] = tt
last_within test (y ∷ xs) = by (last_at test xs) (test y) (last_within test xs)
  where
    by : (o : Option ℕ) (b : Bool) → IfSome o (λ i. i < length xs)
        → IfSome (option_or (option_map suc o) (zero_if b)) (λ i. i < length (y ∷ xs))
    by None true h = omega arith
    by None false h = tt
    by (Some i) b h = omega (arith, h)

-- what stands in a list stands in a longer one
get_before : {X : Type 0} (xs : List X) (x : X) (i : ℕ) → i < length xs
    → slice_get (xs ++ x ∷ []) i ≡ slice_get xs i
get_before [] x i h = absurd (omega (arith, h))
get_before (y ∷ xs) x zero h = refl
get_before (y ∷ xs) x (suc i) h = get_before xs x i (omega (arith, h))

get_last : {X : Type 0} (xs : List X) (x : X) → slice_get (xs ++ x ∷ []) (length xs) ≡ Some x
get_last [] x = refl
get_last (y ∷ xs) x = get_last xs x

not_below : (i n : ℕ) → i < n → nat_lt n i ≡ false
not_below i n h = grind (arith, nat_tests)

below : (i n : ℕ) → i < n → nat_lt i n ≡ true
below i n h = grind (arith, nat_tests)

module _ (acts : List Act) (act : Act) where
  -- what stands before the last event is as it was
  same_well : (start : ℕ) (end : Option ℕ) → IfSome end (λ i. i < length acts)
      → ends_well (acts ++ act ∷ []) start end ≡ ends_well acts start end
  same_well start None h = refl
  same_well start (Some end) h =
      ap (λ o. nat_lt start end && has_passed o) (get_before acts act end h)

  same_from : (known : Option Bool) (start end : Option ℕ) → IfSome end (λ i. i < length acts)
      → standing_from (acts ++ act ∷ []) known start end ≡ standing_from acts known start end
  same_from known None end h = refl
  same_from known (Some start) end h = ap (λ b. Some (Started b)) (same_well start end h)

  -- an end before the last start
  late_start : (end : Option ℕ) → IfSome end (λ i. i < length acts)
      → ends_well (acts ++ act ∷ []) (length acts) end ≡ false
  late_start None h = refl
  late_start (Some end) h =
      ap (λ b. b && has_passed (slice_get (acts ++ act ∷ []) end)) (not_below end (length acts) h)

  last_end : (known : Option Bool) (passed : Bool) → has_passed (Some act) ≡ passed
      → (start end : Option ℕ) → IfSome start (λ i. i < length acts)
      → standing_from (acts ++ act ∷ []) known start (Some (length acts))
      ≡ ended passed (standing_from acts known start end)
  last_end None passed is None end h = refl
  last_end (Some k) passed is None end h = refl
  last_end known passed is (Some start) end h =
      ap (λ b. Some (Started (b && has_passed (slice_get (acts ++ act ∷ []) (length acts)))))
      (below start (length acts) h)
      ∙ ap (λ o. Some (Started (has_passed o))) (get_last acts act) ∙ ap (λ b. Some (Started b)) is

-- the standing after one event more
pub standing-push : (acts : List Act) (act : Act) (known : Option Bool) (test : OwnedTestInstanceId)
    → standing_of (acts ++ act ∷ []) known test
    ≡ standing_after act test (standing_of acts known test)
standing-push acts act known test =
    ap (λ o. standing_from (acts ++ act ∷ []) known o (last_at (ends test) (acts ++ act ∷ [])))
    (last_at-push (starts test) acts act)
    ∙ ap (standing_from (acts ++ act ∷ []) known
    (if starts test act then Some (length acts) else last_at (starts test) acts))
    (last_at-push (ends test) acts act)
    ∙ by act
  where
    by : (a : Act)
        → standing_from (acts ++ a ∷ []) known
        (if starts test a then Some (length acts) else last_at (starts test) acts)
        (if ends test a then Some (length acts) else last_at (ends test) acts)
        ≡ standing_after a test (standing_of acts known test)
    by (Starts t) = one (test_eq t test)
      where
        one : (b : Bool)
            → standing_from (acts ++ Starts t ∷ []) known
            (if b then Some (length acts) else last_at (starts test) acts)
            (last_at (ends test) acts)
            ≡ (if b then Some (Started false) else standing_of acts known test)
        one true =
            ap (λ b. Some (Started b))
            (late_start acts (Starts t) (last_at (ends test) acts) (last_within (ends test) acts))
        one false =
            same_from acts (Starts t) known (last_at (starts test) acts) (last_at (ends test) acts)
            (last_within (ends test) acts)
    by (Ends t passed) = one (test_eq t test)
      where
        one : (b : Bool)
            → standing_from (acts ++ Ends t passed ∷ []) known (last_at (starts test) acts)
            (if b then Some (length acts) else last_at (ends test) acts)
            ≡ (if b then ended passed (standing_of acts known test)
            else standing_of acts known test)
        one true =
            last_end acts (Ends t passed) known passed refl (last_at (starts test) acts)
            (last_at (ends test) acts) (last_within (starts test) acts)
        one false =
            same_from acts (Ends t passed) known (last_at (starts test) acts)
            (last_at (ends test) acts) (last_within (ends test) acts)
    by Silent =
        same_from acts Silent known (last_at (starts test) acts) (last_at (ends test) acts)
        (last_within (ends test) acts)

-- each test stands as all events say, with one event more
pub taken-more : (parent : Option RerunInfo) (events : List LogEvent) (event : LogEvent) (act : Act)
    (old new : Tests)
    → act ≡ act_of event.kind
    → ((t : OwnedTestInstanceId) → at new t ≡ standing_after act t (at old t))
    → HasTaken parent events old → HasTaken parent (events ++ event ∷ []) new
taken-more parent events event act old new is takes has t =
    takes t ∙ ap (λ a. standing_after a t (at old t)) is
    ∙ ap (standing_after (act_of event.kind) t) (has t)
    ∙ sym (standing-push (acts_of events) (act_of event.kind) (known_in parent t) t)
    ∙ ap (λ acts. standing_of acts (known_in parent t) t)
    (sym (map-append (λ (e : LogEvent). act_of e.kind) events (event ∷ [])))

pub take_more : {A : Type 0} (ss : List A) (i : ℕ) (s : A) → i < length ss → s ≡ get_or ss i s
    → take (i + 1) ss ≡ take i ss ++ (s ∷ [])
take_more ss i s h is =
    ap (λ n. take n ss) (add-one i) ∙ take-suc ss i s h ∙ ap (λ x. take i ss ++ (x ∷ [])) (sym is)
