-- The text of a trace is read as its events.
use Rattle.std.proofs.Common.{◌≡◌, ◌≤◌, inl, inr, ℕ, zero, suc, ◌*◌, Bool, true, false, List}
use Rattle.std.proofs.Common.{[], ◌∷◌, ◌++◌, map, Some, refl, sym, ap, ◌∙◌, subst, arith}
use Rattle.std.proofs.lemmas.List.{append_assoc}
use Rattle.std.specs.Prelude.{codes, option_and_then, option_map, replicate}
use Rattle.json.proofs.Printed.Tokens.{tokens-print_spaced}
use Rattle.json.proofs.Printed.Trees.{ArePrintable-json_tokens}
use Rattle.json.specs.Json as json
use Rattle.json.specs.Layout.{Last, after, bracket, depth_at, gap, is_value, name}
use Rattle.json.specs.Layout.{nothing, piece, pretty, pretty_from, step, value}
use Rattle.json.specs.Lex.{tokens}
use Rattle.json.specs.Print.{ArePrintable, begins, ends, separator, token_text}
use Rattle.json.specs.Spaced.{AreGaps, IsGap, print_spaced}
use Rattle.json.specs.Token.{Token, begin_object, end_object, begin_array}
use Rattle.json.specs.Token.{end_array, key, string, number, boolean, null, bad}
use Rattle.json.specs.Tree.{json_tokens}
use Rattle.serde_json.specs.Data.{Data, array}
use Rattle.serde_json.specs.Find.{as_array, get}
use Rattle.serde_json.specs.Read.{max_depth, of_json, read}
use Rattle.serde_json.specs.View.{items_of}
use Rattle.serde_json.specs.Written.{outline}
use Rattle.rec_forms.proofs.ReadBack.{IsWritable-has_numbers, IsWritable-read_back}
use Rattle.rec_forms.specs.Shape.{members_of}
use Rattle.rec_forms.specs.Writable.{IsWritable, list_writable, struct_writable}
use Rattle.rec_forms.specs.Writable.{weaker, within_depth, word_writable}
use Rattle.rec_trace.proofs.TraceTexts.{tokens-compact}
use Rattle.rec_trace.specs.declared.settings.ChromeTraceMessageFormat.TheVariants.{Json, JsonPretty}
use Rattle.rec_trace.specs.declared.settings.ChromeTraceMessageFormat.{ChromeTraceMessageFormat}
use Rattle.rec_trace.specs.Kept.{AreWritable}
use Rattle.rec_trace.specs.ReadTexts.{events_in, list_of}
use Rattle.rec_trace.specs.Texts.{text_in, trace_value}

-- ---- a text over several lines has the tokens that it was made of

-- each token with the gap before it
abbrev gaps : Last × ℕ → List Token → List (List ℕ × Token)
gaps s [] = []
gaps s (t ∷ ts) = (gap s.0 (begins t) (depth_at s.1 t), t) ∷ gaps (step s t) ts

tokens-gaps : (s : Last × ℕ) (ts : List Token) → map (λ p. p.1) (gaps s ts) ≡ ts
tokens-gaps s [] = refl
tokens-gaps s (t ∷ ts) = ap (λ (us : List Token). t ∷ us) (tokens-gaps (step s t) ts)

spaces-gap : (n : ℕ) → IsGap (replicate n 32)
spaces-gap zero = tt
spaces-gap (suc n) = (inl refl, spaces-gap n)

gap-gap : (l : Last) (b : Bool) (d : ℕ) → IsGap (gap l b d)
gap-gap nothing b d = tt
gap-gap bracket true d = (inr refl, spaces-gap (2 * d))
gap-gap bracket false d = tt
gap-gap name b d = (inl refl, tt)
gap-gap value b d = (inr refl, spaces-gap (2 * d))

are-gaps : (s : Last × ℕ) (ts : List Token) → AreGaps (gaps s ts)
are-gaps s [] = tt
are-gaps s (t ∷ ts) = (gap-gap s.0 (begins t) (depth_at s.1 t), are-gaps (step s t) ts)

ends-after : (t : Token) (d : ℕ) → is_value (after t d).0 ≡ ends t
ends-after begin_object d = refl
ends-after end_object d = refl
ends-after begin_array d = refl
ends-after end_array d = refl
ends-after (key s) d = refl
ends-after (string s) d = refl
ends-after (number s) d = refl
ends-after (boolean b) d = refl
ends-after null d = refl
ends-after bad d = refl

pretty-spaced : (s : Last × ℕ) (ts : List Token)
    → pretty_from s ts ≡ print_spaced (is_value s.0) (gaps s ts)
unfolding pretty_from print_spaced
pretty-spaced s [] = refl
pretty-spaced s (t ∷ ts) =
    ap (λ (r : List ℕ). piece s t ++ r) (pretty-spaced (step s t) ts
    ∙ ap (λ b. print_spaced b (gaps (step s t) ts)) (ends-after t (depth_at s.1 t)))
    ∙ regrouped (separator (is_value s.0) t) (gap s.0 (begins t) (depth_at s.1 t)) (token_text t)
    (print_spaced (ends t) (gaps (step s t) ts))
  where
    regrouped : (a b c d : List ℕ) → (a ++ (b ++ c)) ++ d ≡ a ++ (b ++ (c ++ d))
    regrouped a b c d = simp append_assoc

tokens-pretty : (ts : List Token) → ArePrintable ts → tokens (pretty ts) ≡ ts
tokens-pretty ts h =
    ap tokens (pretty-spaced (nothing, 0) ts)
    ∙ (tokens-print_spaced (gaps (nothing, 0) ts) (are-gaps (nothing, 0) ts)
    (subst ArePrintable (sym (tokens-gaps (nothing, 0) ts)) h)
    ∙ tokens-gaps (nothing, 0) ts)

-- ---- the text of a value is read as the value

read-text : {n : ℕ} (format : ChromeTraceMessageFormat) (d : Data) → IsWritable n d → n ≤ max_depth
    → read (text_in format d) ≡ Some d
read-text {n} Json d w deep = (IsWritable-read_back n d w deep).0
read-text {n} JsonPretty d w deep =
    ap (λ ts.
    option_and_then of_json (option_and_then (λ p. json.if_last p.0 p.1) (json.value max_depth ts)))
    (tokens-pretty (json_tokens (outline d))
    (ArePrintable-json_tokens (outline d) (IsWritable-has_numbers d w)) ∙ sym (tokens-compact d w))
    ∙ (IsWritable-read_back n d w deep).0

-- ---- traces

same-map : (ds : List Data) → map (λ d. d) ds ≡ ds
same-map [] = refl
same-map (d ∷ ds) = ap (λ (es : List Data). d ∷ es) (same-map ds)

trace-writable : (other : Data) (events : List Data) → IsWritable 8 other → AreWritable events
    → IsWritable 11 (trace_value other events)
unfolding trace_value
trace-writable other events w ws =
    struct_writable _ refl (
      word_writable (codes "ms") refl,
      (
        weaker 8 10 (omega arith) w,
        (
          subst (λ (ds : List Data). IsWritable 10 (array (items_of ds))) (same-map events)
              (list_writable {n = 9} (λ d. d) (λ d v. v) events ws),
          tt,
        ),
      ),
    )

items-list : (ds : List Data) → list_of (items_of ds) ≡ ds
items-list [] = refl
items-list (d ∷ ds) = ap (λ (es : List Data). d ∷ es) (items-list ds)

member-events : (other : Data) (events : List Data)
    → get (codes "traceEvents") (trace_value other events) ≡ Some (array (items_of events))
unfolding trace_value members_of
member-events other events = refl

-- the text of a trace, in one line or over several, is read as its events
pub events-text : (format : ChromeTraceMessageFormat) (other : Data) (events : List Data)
    → IsWritable 8 other → AreWritable events
    → events_in (text_in format (trace_value other events)) ≡ Some events
events-text format other events w ws =
    ap (λ o.
    option_map list_of (option_and_then as_array (option_and_then (get (codes "traceEvents")) o)))
    (read-text format (trace_value other events) (trace-writable other events w ws)
    (within_depth refl))
    ∙ (ap (λ o. option_map list_of (option_and_then as_array o)) (member-events other events)
    ∙ ap Some (items-list events))
