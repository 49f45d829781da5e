-- A prefix of an accepted history is accepted, and its marks are a prefix of those of the history.
use Rattle.std.proofs.Common.{◌≡◌, List, [], ◌∷◌, ◌++◌, reverse, take, drop, slice_get}
use Rattle.std.proofs.Common.{Some, ℕ, zero, suc, refl, sym, ◌∙◌, ap, subst}
use Rattle.std.proofs.lemmas.List.{append_assoc, append-nil, reverse-append, take-append-drop}
use Rattle.rec_spans.proofs.Rows.{FindsRoom, AllFindRoom}
use Rattle.rec_spans.specs.History.{after, marks_after}
use Rattle.rec_spans.specs.Past.{TraceInput, event_marks, open_spans}
use Rattle.rec_spans.specs.Positions.{past_at}

-- the marks of two histories, one after the other
pub marks_after-append : (past xs ys : List TraceInput)
    → marks_after past (xs ++ ys) ≡ marks_after past xs ++ marks_after (after past xs) ys
marks_after-append past [] ys = refl
marks_after-append past (h ∷ xs) ys = rw (marks_after-append (h ∷ past) xs ys) (sym (append_assoc
    (event_marks past h) (marks_after (h ∷ past) xs) (marks_after (after (h ∷ past) xs) ys)))

-- the past after two histories, one after the other
pub after-append : (past xs ys : List TraceInput) → after past (xs ++ ys) ≡ after (after past xs) ys
after-append past [] ys = refl
after-append past (h ∷ xs) ys = after-append (h ∷ past) xs ys

-- room in two histories, one after the other
pub room-append : (past xs ys : List TraceInput) → AllFindRoom past (xs ++ ys)
    → AllFindRoom past xs × AllFindRoom (after past xs) ys
room-append past [] ys ok = (tt, ok)
room-append past (h ∷ xs) ys ok = let r = room-append (h ∷ past) xs ys ok.1 in ((ok.0, r.0), r.1)

-- the past after a history is that history, the newest first
pub after-reverse : (past xs : List TraceInput) → after past xs ≡ reverse xs ++ past
after-reverse past [] = refl
after-reverse past (h ∷ xs) =
    after-reverse (h ∷ past) xs ∙ (sym (append_assoc (reverse xs) (h ∷ []) past)
    ∙ ap (λ v. v ++ past) (sym (reverse-append (h ∷ []) xs)))

-- the past after a whole history
pub after-is_reverse : (xs : List TraceInput) → after [] xs ≡ reverse xs
after-is_reverse xs = after-reverse [] xs ∙ append-nil (reverse xs)

-- the rest of a history from a place on
pub drop-place : (hs : List TraceInput) (i : ℕ) (h : TraceInput) → slice_get hs i ≡ Some h
    → drop i hs ≡ h ∷ drop (suc i) hs
drop-place [] i h is = cc
drop-place (x ∷ hs) zero h is = cc
drop-place (x ∷ hs) (suc i) h is = drop-place hs i h is

-- room from a place on
pub room-from_place : (hs : List TraceInput) (i : ℕ) → AllFindRoom [] hs
    → AllFindRoom (past_at hs i) (drop i hs)
room-from_place hs i ok =
    subst (λ v. AllFindRoom v (drop i hs)) (after-is_reverse (take i hs)) (room-append []
    (take i hs) (drop i hs) (subst (AllFindRoom []) (sym (take-append-drop i hs)) ok)).1

-- room at a place
pub room-at : (hs : List TraceInput) (i : ℕ) (h : TraceInput) → AllFindRoom [] hs
    → slice_get hs i ≡ Some h → FindsRoom h.change (open_spans (past_at hs i))
room-at hs i h ok at =
    (subst (AllFindRoom (past_at hs i)) (drop-place hs i h at) (room-from_place hs i ok)).0
