-- The tests of a history with one event more.
use Rattle.std.proofs.Common.{◌≡◌, ◌≤◌, ◌<◌, ℕ, zero, suc, Bool, true, false, List, []}
use Rattle.std.proofs.Common.{◌∷◌, ◌++◌, length, map, drop, reverse, refl, ap, sym, ◌∙◌, arith}
use Rattle.std.proofs.Common.{append_assoc, Some, None, if◌then◌else◌}
use Rattle.std.proofs.lemmas.List.{reverse-append, length-reverse}
use Rattle.std.specs.List.{find}
use Rattle.std.specs.Option.{option_or}
use Rattle.rec_view.specs.Acts.{Act}
use Rattle.rec_view.specs.Tests.{Place, opened, place, tests, tests_after, fate}
use Rattle.rec_view.specs.Tests.{settles}

-- the past after these acts, the newest first
abbrev pub after : List Act → List Act → List Act
after past [] = past
after past (act ∷ acts) = after (act ∷ past) acts

pub tests_after-push : (past acts : List Act) (act : Act)
    → tests_after past (acts ++ act ∷ [])
    ≡ tests_after past acts ++ map (place (length (after past acts)))
    (opened (after past acts) act)
tests_after-push past [] act = append-nil _
  where
    append-nil : {X : Type 0} (xs : List X) → xs ++ [] ≡ xs
    append-nil [] = refl
    append-nil (x ∷ xs) = ap (λ ys. x ∷ ys) (append-nil xs)
tests_after-push past (x ∷ acts) act =
    ap (λ ps. map (place (length past)) (opened past x) ++ ps)
    (tests_after-push (x ∷ past) acts act)
    ∙ sym (append_assoc (map (place (length past)) (opened past x)) (tests_after (x ∷ past) acts)
    (map (place (length (after (x ∷ past) acts))) (opened (after (x ∷ past) acts) act)))

pub find-push : {X : Type 0} (p : X → Bool) (xs : List X) (x : X)
    → find p (xs ++ x ∷ []) ≡ option_or (find p xs) (if p x then Some x else None)
find-push p [] x = by (p x)
  where
    by : (b : Bool) → (if b then Some x else None) ≡ option_or None (if b then Some x else None)
    by true = refl
    by false = refl
find-push p (y ∷ xs) x = by (find-push p xs x) (p y)
  where
    by : find p (xs ++ x ∷ []) ≡ option_or (find p xs) (if p x then Some x else None) → (b : Bool)
        → (if b then Some y else find p (xs ++ x ∷ []))
        ≡ option_or (if b then Some y else find p xs) (if p x then Some x else None)
    by more true = refl
    by more false = more

pub drop-push : {X : Type 0} (xs : List X) (x : X) (i : ℕ) → i ≤ length xs
    → drop i (xs ++ x ∷ []) ≡ drop i xs ++ x ∷ []
drop-push xs x zero h = refl
drop-push [] x (suc i) h = absurd (omega (arith, h))
drop-push (y ∷ xs) x (suc i) h = drop-push xs x i (omega (arith, h))

-- the fate of a test that was open, with one event more
pub fate-push : (acts : List Act) (act : Act) (p : Place) → p.at < length acts
    → fate (acts ++ act ∷ []) p ≡ option_or (fate acts p)
    (if settles p.test act then Some act else None)
fate-push acts act p h =
    ap (find (settles p.test)) (drop-push acts act (suc p.at) (omega (arith, h)))
    ∙ find-push (settles p.test) (drop (suc p.at) acts) act

pub after-reverse : (past acts : List Act) → after past acts ≡ reverse acts ++ past
after-reverse past [] = refl
after-reverse past (act ∷ acts) =
    after-reverse (act ∷ past) acts ∙ sym (append_assoc (reverse acts) (act ∷ []) past)
    ∙ ap (λ xs. xs ++ past) (sym (reverse-append (act ∷ []) acts))

append-none : {X : Type 0} (xs : List X) → xs ++ [] ≡ xs
append-none [] = refl
append-none (x ∷ xs) = ap (λ ys. x ∷ ys) (append-none xs)

pub tests-push : (acts : List Act) (act : Act)
    → tests (acts ++ act ∷ []) ≡ tests acts ++ map (place (length acts)) (opened (reverse acts) act)
tests-push acts act =
    let past : after [] acts ≡ reverse acts = after-reverse [] acts ∙ append-none (reverse acts) in
    tests_after-push [] acts act ∙ ap
    (λ xs. tests acts ++ map (place (length xs)) (opened xs act)) past
    ∙ ap (λ n. tests acts ++ map (place n) (opened (reverse acts) act)) (length-reverse acts)
