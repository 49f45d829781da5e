-- What begins and ends with a byte that is no white space is what trimming leaves of it.
use Rattle.std.proofs.Common.{◌≡◌, ℕ, ◌+◌, ◌<◌, Bool, true, false, ◌&&◌, cond, ◌==◌, List, [], ◌∷◌}
use Rattle.std.proofs.Common.{◌++◌, length, get_or, refl, sym, ap, subst, ◌∙◌, arith, length-append}
use lib.Utf8.{low_scalar}
use Rattle.std.proofs.lemmas.Bool.{ne_eqb}
use Rattle.std.proofs.lemmas.List.{get_or-append-add}
use Rattle.std.proofs.lemmas.Str.{IsUtf8-encode, IsUtf8-take}
use Rattle.std.proofs.lemmas.Str.{IsCharBoundary-before_ascii, chars-append, chars-nil}
use Rattle.std.proofs.lemmas.Str.{chars_past_char, encodes-chars, encode_ascii}
use Rattle.std.proofs.Math.Seq.{take-append_seam}
use Rattle.std.specs.Char.{is_whitespace}
use Rattle.std.specs.Str.{IsUtf8, chars, trim, trim_start, trim_end, skip_leading_whitespace}
use Rattle.std.specs.Str.{drop_trailing_whitespace, encode_utf8_all}

chars-cons_ascii : (b : ℕ) (bytes : List ℕ) → b < 128 → IsUtf8 (b ∷ bytes)
    → chars (b ∷ bytes) ≡ b ∷ chars bytes
chars-cons_ascii b bytes small u =
    chars_past_char (b ∷ bytes) bytes b u (ap (λ l. l ++ bytes) (sym (encode_ascii b small)))

skip_none : (c : ℕ) (cs : List ℕ) → is_whitespace c ≡ false
    → skip_leading_whitespace (c ∷ cs) ≡ c ∷ cs
skip_none c cs e = ap (λ b. cond b (skip_leading_whitespace cs) (c ∷ cs)) e

trim_start_none : (b : ℕ) (bytes : List ℕ) → b < 128 → is_whitespace b ≡ false → IsUtf8 (b ∷ bytes)
    → trim_start (b ∷ bytes) ≡ b ∷ bytes
unfolding trim_start
trim_start_none b bytes small e u =
    let is : chars (b ∷ bytes) ≡ b ∷ chars bytes = chars-cons_ascii b bytes small u in
    ap (λ cs. encode_utf8_all (skip_leading_whitespace cs)) is
    ∙ ap encode_utf8_all (skip_none b (chars bytes) e)
    ∙ ap encode_utf8_all (sym is)
    ∙ encodes-chars (b ∷ bytes) u

not_both : {A : Type 0} (a b : Bool) (x y : A) → b ≡ false → cond (a && b) x y ≡ y
not_both true b x y e = ap (λ t. cond t x y) e
not_both false b x y e = refl

drop_none : (cs : List ℕ) (c : ℕ) → is_whitespace c ≡ false
    → drop_trailing_whitespace (cs ++ c ∷ []) ≡ cs ++ c ∷ []
drop_none [] c e = ap (λ b. cond (b && true) [] (c ∷ [])) e
drop_none (d ∷ cs) c e =
    let rest : drop_trailing_whitespace (cs ++ c ∷ []) ≡ cs ++ c ∷ [] = drop_none cs c e in
    let some : (length (cs ++ c ∷ []) == 0) ≡ false =
    ne_eqb _ 0 (λ z. omega (arith, length-append cs (c ∷ []))) in
    ap (λ t. cond (is_whitespace d && (length t == 0)) [] (d ∷ t)) rest
    ∙ not_both (is_whitespace d) _ [] (d ∷ (cs ++ c ∷ [])) some

-- what stands before an ASCII byte is UTF-8
before_ascii : (prefix : List ℕ) (b : ℕ) → b < 128 → IsUtf8 (prefix ++ b ∷ []) → IsUtf8 prefix
before_ascii prefix b small u =
    let here : get_or (prefix ++ b ∷ []) (length prefix + 0) 0 ≡ b =
    get_or-append-add prefix (b ∷ []) 0 0 in
    let at : get_or (prefix ++ b ∷ []) (length prefix) 0 ≡ b =
    let n : length prefix ≡ length prefix + 0 = omega arith in
    ap (λ i. get_or (prefix ++ b ∷ []) i 0) n ∙ here in
    let boundary = IsCharBoundary-before_ascii (prefix ++ b ∷ []) (length prefix)
    (omega (arith, length-append prefix (b ∷ []))) (omega (arith, at)) in
    subst IsUtf8 (take-append_seam prefix (b ∷ []))
    (IsUtf8-take (prefix ++ b ∷ []) (length prefix) u boundary)

trim_end_none : (prefix : List ℕ) (b : ℕ) → b < 128 → is_whitespace b ≡ false
    → IsUtf8 (prefix ++ b ∷ []) → trim_end (prefix ++ b ∷ []) ≡ prefix ++ b ∷ []
unfolding trim_end
trim_end_none prefix b small e u =
    let one : IsUtf8 (b ∷ []) =
    subst IsUtf8 (encode_ascii b small) (IsUtf8-encode b (low_scalar b (omega arith))) in
    let is : chars (prefix ++ b ∷ []) ≡ chars prefix ++ b ∷ [] =
    chars-append prefix (b ∷ []) (before_ascii prefix b small u)
    ∙ ap (λ t. chars prefix ++ t) (chars-cons_ascii b [] small one ∙ ap (λ t. b ∷ t) chars-nil) in
    ap (λ cs. encode_utf8_all (drop_trailing_whitespace cs)) is
    ∙ ap encode_utf8_all (drop_none (chars prefix) b e)
    ∙ ap encode_utf8_all (sym is)
    ∙ encodes-chars (prefix ++ b ∷ []) u

-- the text between braces
pub trim_braces : (middle : List ℕ) → IsUtf8 (123 ∷ (middle ++ 125 ∷ []))
    → trim (123 ∷ (middle ++ 125 ∷ [])) ≡ 123 ∷ (middle ++ 125 ∷ [])
trim_braces middle u =
    ap trim_end (trim_start_none 123 (middle ++ 125 ∷ []) (omega arith) refl u)
    ∙ trim_end_none (123 ∷ middle) 125 (omega arith) refl u
