-- What a loop over attempts has reported of them.
use Rattle.std.proofs.Common.{◌≡◌, ℕ, ◌+◌, ◌<◌, ◌≤◌, Bool, List, [], ◌∷◌, ◌++◌}
use Rattle.std.proofs.Common.{length, drop, get_or, Option, Result, Ok, Err}
use Rattle.std.proofs.Common.{refl, sym, ◌∙◌, ap, append_assoc, append-nil}
use Rattle.std.proofs.lemmas.List.{drop_more, drop_all}
use Rattle.rec_junit.specs.declared.describer.ErrorText.{ErrorText}
use Rattle.rec_junit.specs.declared.errors.JunitError.TheVariants.{
  NotLoadedOutput,
  SuccessAsFailure,
  OutOfMemory,
}
use Rattle.rec_junit.specs.declared.errors.JunitError.{JunitError}
use Rattle.rec_junit.specs.declared.report.JunitRerun.{JunitRerun}
use Rattle.rec_junit.specs.Describing.{Execution}
use Rattle.rec_junit.specs.Judging.{◌>>=◌, after, Judges}
use Rattle.rec_junit.specs.Reruns.{Status, rerun_of, reruns_of}

pub none_before : {A : Type 0} (r : Result (List A) JunitError) → r ≡ after [] r
none_before (Ok xs) = refl
none_before (Err e) = refl

after_more : {A : Type 0} (done : List A) (x : A) (r : Result (List A) JunitError)
    → after done (r >>= (λ xs. Ok (x ∷ xs))) ≡ after (done ++ (x ∷ [])) r
after_more done x (Ok xs) = ap Ok (sym (append_assoc done (x ∷ []) xs))
after_more done x (Err e) = refl

-- these are done, and what is left completes the whole
module _ (unit : List ℕ) (text_of : Execution → Option ErrorText) (stores_failure : Bool)
    (whole : Result (List JunitRerun) JunitError) (statuses : List Status) (i : ℕ)
    (done : List JunitRerun)
    (is : whole ≡ after done (reruns_of unit text_of stores_failure (drop i statuses))) where
  with_next : (status : Status) → i < length statuses → status ≡ get_or statuses i status
      → whole ≡ after done (rerun_of unit text_of stores_failure status >>= (λ rerun. reruns_of unit
      text_of stores_failure (drop (i + 1) statuses) >>= (λ reruns. Ok (rerun ∷ reruns))))
  with_next status below here =
      is ∙ ap (λ ss. after done (reruns_of unit text_of stores_failure ss))
      (drop_more statuses i status below ∙ ap (λ s. s ∷ drop (i + 1) statuses) (sym here))

  pub rerun_done : (status : Status) (rerun : JunitRerun) (items : List JunitRerun)
      → i < length statuses → status ≡ get_or statuses i status
      → rerun_of unit text_of stores_failure status ≡ Ok rerun → items ≡ done ++ (rerun ∷ [])
      → whole ≡ after items (reruns_of unit text_of stores_failure (drop (i + 1) statuses))
  rerun_done status rerun items below here made pushed =
      let rest = reruns_of unit text_of stores_failure (drop (i + 1) statuses) in
      with_next status below here
      ∙ ap (λ r. after done (r >>= (λ rerun. rest >>= (λ reruns. Ok (rerun ∷ reruns))))) made
      ∙ after_more done rerun rest ∙ ap (λ items. after items rest) (sym pushed)

  pub rerun_refused : (status : Status) (e : JunitError) → i < length statuses
      → status ≡ get_or statuses i status
      → Judges {A = JunitRerun} (Err e) (rerun_of unit text_of stores_failure status)
      → Judges {A = List JunitRerun} (Err e) whole
  rerun_refused status NotLoadedOutput below here refused =
      with_next status below here
      ∙ ap (λ r. after done (r >>= (λ rerun. reruns_of unit text_of stores_failure
      (drop (i + 1) statuses) >>= (λ reruns. Ok (rerun ∷ reruns))))) refused
  rerun_refused status SuccessAsFailure below here refused =
      with_next status below here
      ∙ ap (λ r. after done (r >>= (λ rerun. reruns_of unit text_of stores_failure
      (drop (i + 1) statuses) >>= (λ reruns. Ok (rerun ∷ reruns))))) refused
  rerun_refused status OutOfMemory below here refused = tt

  pub all_done : length statuses ≤ i → whole ≡ Ok done
  all_done end =
      is
      ∙ ap (λ ss. after done (reruns_of unit text_of stores_failure ss)) (drop_all i statuses end)
      ∙ ap Ok (append-nil done)
