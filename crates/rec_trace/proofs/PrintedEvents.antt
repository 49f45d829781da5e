-- The texts of trace events are put after those so far.
use Rattle.std.proofs.Common.{◌≡◌, ℕ, List, [], ◌∷◌, ◌++◌, Bool, true}
use Rattle.std.proofs.Common.{false, ◌||◌, length, take, refl, sym, ap, ◌∙◌}
use Rattle.serde_json.specs.Data.{Data}
use Rattle.serde_json.specs.Written.{comma_if}
use Rattle.rec_trace.proofs.TraceTexts.{regroup}
use Rattle.rec_trace.specs.declared.settings.ChromeTraceMessageFormat.{ChromeTraceMessageFormat}
use Rattle.rec_trace.specs.Kept.{AreWritable, has_some}
use Rattle.rec_trace.specs.Texts.{event_text, event_texts}

pub some-append : (xs ys : List Data) → has_some (xs ++ ys) ≡ (has_some xs || has_some ys)
some-append [] ys = refl
some-append (x ∷ xs) ys = refl

pub take-prefix : (xs ys : List ℕ) → take (length xs) (xs ++ ys) ≡ xs
take-prefix [] ys = refl
take-prefix (x ∷ xs) ys = ap (λ zs. x ∷ zs) (take-prefix xs ys)

pub texts-append : (format : ChromeTraceMessageFormat) (later : Bool) (xs ys : List Data)
    → event_texts format later (xs ++ ys)
    ≡ event_texts format later xs ++ event_texts format (later || has_some xs) ys
texts-append format true [] ys = refl
texts-append format false [] ys = refl
texts-append format later (x ∷ xs) ys =
    ap (λ s. comma_if later ++ (event_text format x ++ s)) (texts-append format true xs ys)
    ∙ ap (λ b. comma_if later
    ++ (event_text format x ++ (event_texts format true xs ++ event_texts format b ys)))
    (sym (or-true later))
    ∙ regroup (comma_if later) (event_text format x) (event_texts format true xs)
    (event_texts format (later || true) ys)
  where
    or-true : (b : Bool) → (b || true) ≡ true
    or-true true = refl
    or-true false = refl

pub writable-append : (xs ys : List Data) → AreWritable xs → AreWritable ys → AreWritable (xs ++ ys)
writable-append [] ys hs ks = ks
writable-append (x ∷ xs) ys hs ks = (hs.0, writable-append xs ys hs.1 ks)
