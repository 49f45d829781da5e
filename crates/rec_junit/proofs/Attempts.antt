-- The description of attempts tells them apart as a report does.
use Rattle.std.proofs.Common.{◌≡◌, ◌<◌, List, [], ◌∷◌, ◌++◌, length, Some}
use Rattle.std.proofs.Common.{true, false, arith, ap, refl, sym, ◌∙◌}
use Rattle.rec_events.specs.Attempts.{Describes}
use Rattle.rec_events.specs.declared.outputs.ChildOutputDescription.{ChildOutputDescription}
use Rattle.rec_events.specs.declared.outputs.LiveSpec.{LiveSpec}
use Rattle.rec_events.specs.declared.statuses.ExecutionDescription.TheVariants as description
use Rattle.rec_events.specs.declared.statuses.ExecutionDescription.{ExecutionDescription}
use Rattle.rec_events.specs.declared.statuses.ExecutionStatuses.{ExecutionStatuses}
use Rattle.rec_events.specs.Results.{succeeded}
use Rattle.rec_junit.specs.Attempts.{attempts, attempts_in, split_last, Flaky, Failed}
use Rattle.rec_junit.specs.Reruns.{Status}

split_last-append : {A : Type 0} (x : A) (xs : List A) (last : A)
    → split_last x (xs ++ (last ∷ [])) ≡ (x ∷ xs, last)
split_last-append x [] last = refl
split_last-append x (y ∷ ys) last = ap (λ p. (x ∷ p.0, p.1)) (split_last-append y ys last)

-- the last item of a list
abbrev last_or : {A : Type 0} → A → List A → A
last_or d [] = d
last_or d (x ∷ xs) = (split_last x xs).1

last_or-append : {A : Type 0} (prior : List A) (last : A)
    → last_or last (prior ++ (last ∷ [])) ≡ last
last_or-append [] last = refl
last_or-append (x ∷ prior) last = ap (λ p. p.1) (split_last-append x prior last)

flaky : (prior : List Status) (last : Status) → 0 < length prior → succeeded last.result ≡ true
    → attempts (prior ++ (last ∷ [])) ≡ Some (Flaky last prior)
flaky [] last some succeeds = absurd (omega (arith, some))
flaky (first ∷ prior) last some succeeds = rw (split_last-append first prior last, succeeds) refl

failed : (first : Status) (retries prior : List Status) (last : Status)
    → first ∷ retries ≡ prior ++ (last ∷ []) → succeeded last.result ≡ false
    → attempts (first ∷ retries) ≡ Some (Failed first retries)
failed first retries prior last same fails =
    rw (ap (last_or last) same ∙ last_or-append prior last, fails) refl

pub described : (s : ExecutionStatuses LiveSpec ChildOutputDescription)
    (x : ExecutionDescription LiveSpec ChildOutputDescription)
    → Describes s x → attempts s.statuses ≡ Some (attempts_in x)
described s (description.Success single) h = rw (h.0, h.1) refl
described s (description.Flaky last prior result) h =
    ap attempts h.0 ∙ flaky prior.now last.now h.1 h.2
described s (description.Failure first last retries) h =
    ap attempts h.0 ∙ failed first.now retries.now h.1.0 last.now (sym h.0 ∙ h.1.1) h.2
