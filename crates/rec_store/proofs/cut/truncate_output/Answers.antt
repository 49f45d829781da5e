use Rattle.std.proofs.Common.{◌≡◌, refl, sym, ap, ◌∙◌, ℕ, ◌+◌, ◌-◌, ◌/◌, ◌<◌, Bool}
use Rattle.std.proofs.Common.{true, false, if◌then◌else◌, nat_le, List, ◌++◌}
use Rattle.std.proofs.Common.{length, take, drop, codes, arith, length-append}
use Rattle.std.proofs.lemmas.Bool.{lt-leb}
use Rattle.std.proofs.lemmas.List.{take_all, length-drop}
use Rattle.std.specs.Fmt.{decimal}
use Rattle.rec_store.proofs.cut.truncate_output.Goals as goal
use Rattle.rec_store.specs.Cut.{marker, last, cut}

abbrev start : List ℕ
start = codes "\n\n... [truncated "

abbrev end : List ℕ
end = codes " bytes] ...\n\n"

length_of_three : (s d e : List ℕ) → length (s ++ (d ++ e)) ≡ length s + length d + length e
length_of_three s d e = rw (length-append s (d ++ e), length-append d e) (omega arith)

marker_length : (n : ℕ) → length (marker n) ≡ 17 + length (decimal n) + 13
marker_length n = length_of_three start (decimal n) end

rest : (k : ℕ) (b : List ℕ) → take (length b - k) (drop k b) ≡ drop k b
rest k b = take_all (length b - k) (drop k b) (rw (length-drop k b) (omega arith))

otherwise : (x y : List ℕ) (q : Bool) → q ≡ false → (if q then x else y) ≡ y
otherwise x y true is = cc is
otherwise x y false is = refl

-- the prefix and the suffix of b that fill this space, around the marker of n
abbrev around : List ℕ → ℕ → ℕ → List ℕ
around b n space = take (space / 2) b ++ (marker n ++ last (space - space / 2) b)

cut_around : (b : List ℕ) (m space : ℕ) → m < length b
    → space ≡ m - (17 + length (decimal (length b - m)) + 13)
    → around b (length b - m) space ≡ cut b m
cut_around b m space over room =
    let n = length b - m in
    let same = room ∙ ap (λ k. m - k) (sym (marker_length n)) in
    ap (around b n) same ∙ sym (otherwise b (around b n (m - length (marker n)))
    (nat_le (length b) m) (lt-leb (length b) m over))

pub returns-clause-bytes : goal.returns-clause-bytes
returns-clause-bytes c =
    let b = c.args.buf.now in
    let m = c.args.max_size in
    let n = length b - m in
    let space = c.saturating_sub-space.result in
    let first = length b - (space - space / 2) in
    let written = c.as_bytes-digits.ensures.value ∙ c.format.ensures.text in
    let room = c.saturating_sub-space.ensures ∙ ap (λ d. m - (17 + length d + 13)) written in
    c.in_ok-bytes.ensures n written ∙ ap (λ t. take (space / 2) b ++ (marker n ++ t)) (rest first b)
    ∙ cut_around b m space c.if-buf-max_size.false room
