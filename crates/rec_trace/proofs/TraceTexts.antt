-- The text of a trace has its events between what stands before them and after them.
use Rattle.std.proofs.Common.{◌≡◌, ◌<◌, ℕ, ◌+◌, ◌^◌, List, [], ◌∷◌, ◌++◌, Bool, true, false}
use Rattle.std.proofs.Common.{◌||◌, codes, fold, refl, sym, ap, subst, ◌∙◌, append_assoc, arith}
use Rattle.json.proofs.Printed.Tokens.{tokens-print}
use Rattle.json.proofs.Printed.Trees.{ArePrintable-json_tokens}
use Rattle.json.specs.Layout.{Last, bracket, name, nothing, value, pretty, pretty_from, step}
use Rattle.json.specs.Lex.{tokens}
use Rattle.json.specs.Print.{ArePrintable, escape_byte}
use Rattle.json.specs.Token.{string as string_token}
use Rattle.json.specs.Token.{Token, begin_array, begin_object, end_array, end_object, key}
use Rattle.json.specs.Tree.{items_tokens, json_tokens}
use Rattle.serde_json.proofs.Texts.{print-outline}
use Rattle.serde_json.specs.Data.{Data, depth}
use Rattle.serde_json.specs.View.{items_of}
use Rattle.serde_json.specs.Written.{comma_if, compact_text, items_outline, items_text, outline}
use Rattle.rec_forms.proofs.ReadBack.{IsWritable-has_numbers}
use Rattle.rec_forms.specs.Shape.{members_of}
use Rattle.rec_forms.specs.Writable.{IsWritable, list_writable, struct_writable, word_writable}
use Rattle.rec_trace.proofs.PrettyTokens.{after-value, fold-append, pretty_from-append, state-value}
use Rattle.rec_trace.specs.declared.settings.ChromeTraceMessageFormat.TheVariants.{Json, JsonPretty}
use Rattle.rec_trace.specs.declared.settings.ChromeTraceMessageFormat.{ChromeTraceMessageFormat}
use Rattle.rec_trace.specs.Kept.{AreWritable, has_some}
use Rattle.rec_trace.specs.Texts.{compact_prefix, event_text, event_texts, prefix_tokens}
use Rattle.rec_trace.specs.Texts.{nested_text, text_in, trace_end, trace_prefix, trace_value}

pub regroup : (a b c d : List ℕ) → a ++ (b ++ (c ++ d)) ≡ (a ++ (b ++ c)) ++ d
regroup a b c d = simp append_assoc

-- ---- in one line

items-texts : (later : Bool) (ds : List Data)
    → items_text later (items_of ds) ≡ event_texts Json later ds ++ 93 ∷ []
items-texts later [] = refl
items-texts later (d ∷ ds) =
    ap (λ s. comma_if later ++ (compact_text d ++ s)) (items-texts true ds)
    ∙ regroup (comma_if later) (compact_text d) (event_texts Json true ds) (93 ∷ [])

prefix-end : (a b c d : List ℕ) → a ++ (b ++ (c ++ d)) ≡ ((a ++ b) ++ c) ++ d
prefix-end a b c d = simp append_assoc

compact-parts : (other : Data) (events : List Data) (some : Bool)
    → compact_text (trace_value other events)
    ≡ compact_prefix other ++ (event_texts Json false events ++ trace_end Json some)
unfolding trace_value members_of escape_byte compact_prefix
compact-parts other events some =
    ap (λ s. (codes "{\"displayTimeUnit\":\"ms\",\"otherData\":")
    ++ (compact_text other ++ (codes ",\"traceEvents\":[" ++ s)))
    (ap (λ s. s ++ 125 ∷ []) (items-texts false events)
    ∙ append_assoc (event_texts Json false events) (93 ∷ []) (125 ∷ []))
    ∙ prefix-end (codes "{\"displayTimeUnit\":\"ms\",\"otherData\":") (compact_text other)
    (codes ",\"traceEvents\":[") (event_texts Json false events ++ trace_end Json some)

-- ---- over several lines

-- what stands before an item of the list
abbrev last_before : Bool → Last
last_before true = value
last_before false = bracket

event-lines : (later : Bool) (d : Data)
    → pretty_from (last_before later, 2) (json_tokens (outline d))
    ≡ comma_if later ++ event_text JsonPretty d
event-lines true d = after-value 2 d
event-lines false d = refl

ends-after : (later : Bool) (us : List Token)
    → pretty_from (last_before later, 2) (end_array ∷ us)
    ≡ pretty_from (last_before (later || false), 2) (end_array ∷ us)
ends-after true us = refl
ends-after false us = refl

shallow : (d : Data) → IsWritable 9 d → 2 + depth d < 2 ^ 64
shallow d w = omega (arith, w.shallow)

lines-items : (later : Bool) (ds : List Data) (us : List Token) → AreWritable ds
    → pretty_from (last_before later, 2) (items_tokens (items_outline (items_of ds)) ++ us)
    ≡ event_texts JsonPretty later ds
    ++ pretty_from (last_before (later || has_some ds), 2) (end_array ∷ us)
lines-items later [] us h = ends-after later us
lines-items later (d ∷ ds) us h =
    let rest = items_tokens (items_outline (items_of ds)) in
    ap (pretty_from (last_before later, 2)) (append_assoc (json_tokens (outline d)) rest us)
    ∙ pretty_from-append (last_before later, 2) (json_tokens (outline d)) (rest ++ us)
    ∙ ap (λ s. s
    ++ pretty_from (fold step (last_before later, 2) (json_tokens (outline d))) (rest ++ us))
    (event-lines later d)
    ∙ ap (λ s. (comma_if later ++ event_text JsonPretty d) ++ pretty_from s (rest ++ us))
    (state-value (last_before later) 2 d (shallow d h.0))
    ∙ ap (λ s. (comma_if later ++ event_text JsonPretty d) ++ s) (lines-items true ds us h.1)
    ∙ ends later (comma_if later) (event_text JsonPretty d) (event_texts JsonPretty true ds)
    (λ b. pretty_from (last_before b, 2) (end_array ∷ us))
  where
    ends : (later : Bool) (a b c : List ℕ) (d : Bool → List ℕ)
        → (a ++ b) ++ (c ++ d true) ≡ (a ++ (b ++ c)) ++ d (later || true)
    ends true a b c d = simp append_assoc
    ends false a b c d = simp append_assoc

closes : (some : Bool)
    → pretty_from (last_before some, 2) (end_array ∷ end_object ∷ []) ≡ trace_end JsonPretty some
unfolding pretty_from
closes true = refl
closes false = refl

-- what stands before an event in a list in a list
pub nested-text : (d : Data) → nested_text d ≡ codes "[\n  [" ++ event_text JsonPretty d
unfolding pretty_from
nested-text d = refl

-- the tokens of the text in one line
pub tokens-compact : {n : ℕ} (d : Data) → IsWritable n d
    → tokens (compact_text d) ≡ json_tokens (outline d)
tokens-compact d w =
    ap tokens (sym (print-outline d)) ∙ tokens-print (json_tokens (outline d))
    (ArePrintable-json_tokens (outline d) (IsWritable-has_numbers d w))

pub printable-compact : {n : ℕ} (d : Data) → IsWritable n d → ArePrintable (tokens (compact_text d))
printable-compact d w =
    subst ArePrintable (sym (tokens-compact d w))
    (ArePrintable-json_tokens (outline d) (IsWritable-has_numbers d w))

-- the tokens of a trace
tokens-parts : (other : Data) (events : List Data)
    → json_tokens (outline (trace_value other events))
    ≡ prefix_tokens other ++ (items_tokens (items_outline (items_of events)) ++ end_object ∷ [])
unfolding trace_value members_of
tokens-parts other events =
    ap (λ ts. begin_object ∷ key (codes "displayTimeUnit") ∷ string_token (codes "ms")
    ∷ key (codes "otherData") ∷ ts)
    (sym (append_assoc (json_tokens (outline other)) (key (codes "traceEvents") ∷ begin_array ∷ [])
    (items_tokens (items_outline (items_of events)) ++ end_object ∷ [])))

prefix-state : (other : Data) → IsWritable 8 other
    → fold step (nothing, 0) (prefix_tokens other) ≡ (bracket, 2)
prefix-state other w =
    fold-append (name, 1) (json_tokens (outline other))
    (key (codes "traceEvents") ∷ begin_array ∷ [])
    ∙ ap (λ s. fold step s (key (codes "traceEvents") ∷ begin_array ∷ []))
    (state-value name 1 other (omega (arith, w.shallow)))

pretty-parts : (other : Data) (events : List Data) → IsWritable 8 other → AreWritable events
    → pretty (json_tokens (outline (trace_value other events))) ≡ pretty (prefix_tokens other)
    ++ (event_texts JsonPretty false events ++ trace_end JsonPretty (has_some events))
pretty-parts other events w ws =
    let rest = items_tokens (items_outline (items_of events)) ++ end_object ∷ [] in
    ap pretty (tokens-parts other events)
    ∙ pretty_from-append (nothing, 0) (prefix_tokens other) rest
    ∙ ap (λ s. pretty (prefix_tokens other) ++ pretty_from s rest) (prefix-state other w)
    ∙ ap (λ s. pretty (prefix_tokens other) ++ s) (lines-items false events (end_object ∷ []) ws
    ∙ ap (λ s. event_texts JsonPretty false events ++ s) (closes (has_some events)))

pub trace-parts : (format : ChromeTraceMessageFormat) (other : Data) (events : List Data)
    → IsWritable 8 other → AreWritable events
    → text_in format (trace_value other events) ≡ trace_prefix format other
    ++ (event_texts format false events ++ trace_end format (has_some events))
trace-parts Json other events w ws = compact-parts other events (has_some events)
trace-parts JsonPretty other events w ws = pretty-parts other events w ws

-- ---- a trace without events

pub empty-compact : (other : Data)
    → compact_prefix other ++ trace_end Json false ≡ compact_text (trace_value other [])
empty-compact other = sym (compact-parts other [] false)

pub empty-writable : (other : Data) → IsWritable 8 other → IsWritable 9 (trace_value other [])
unfolding trace_value
empty-writable other w =
    struct_writable _ refl
    (word_writable (codes "ms") refl, (w, (list_writable {n = 7} (λ d. d) (λ d w. w) [] tt, tt)))

pub empty-pretty : (other : Data) → IsWritable 8 other
    → pretty (tokens (compact_text (trace_value other [])))
    ≡ pretty (prefix_tokens other) ++ trace_end JsonPretty false
empty-pretty other w =
    ap pretty (tokens-compact (trace_value other []) (empty-writable other w))
    ∙ pretty-parts other [] w tt
