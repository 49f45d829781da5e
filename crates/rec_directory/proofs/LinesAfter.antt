-- The lines after the first one.
use Rattle.std.proofs.Common.{zero, suc, ◌≡◌, ℕ, ◌+◌, ◌-◌, ◌==◌, Bool, true, false, cond, List}
use Rattle.std.proofs.Common.{[], ◌∷◌, length, take, drop, min, refl, sym, ap, ◌∙◌, arith}
use Rattle.std.proofs.lemmas.List.{drop_min, drop-drop, length-drop, take_all}
use Rattle.std.specs.List.{onto_first}
use Rattle.rec_codec.specs.Lines.{NumberedLine, lines, numbered}
use Rattle.rec_directory.specs.declared.log.LogPlace.{LogPlace}
use Rattle.rec_directory.specs.Logs.{left_at}

-- a byte before lines makes some line
onto_some : (c : ℕ) (ls : List (List ℕ)) → onto_first c ls ≡ [] → ⊥
onto_some c [] h = cc
onto_some c (l ∷ ls) h = cc

by_byte : (b : Bool) (c : ℕ) (ls : List (List ℕ)) → cond b ([] ∷ ls) (onto_first c ls) ≡ [] → ⊥
by_byte true c ls h = cc
by_byte false c ls h = onto_some c ls h

no_lines : (b : List ℕ) → lines b ≡ [] → b ≡ []
no_lines [] h = refl
no_lines (c ∷ bs) h = absurd (by_byte (c == 10) c (lines bs) h)

-- the lines after the first, by those of the rest
split_first : (c : ℕ) (bs l : List ℕ) (ls : List (List ℕ))
    → ((m : List ℕ) (ms : List (List ℕ)) → lines bs ≡ m ∷ ms
    → ms ≡ lines (drop (suc (length m)) bs))
    → (t : Bool) (rest : List (List ℕ)) → lines bs ≡ rest
    → cond t ([] ∷ lines bs) (onto_first c (lines bs)) ≡ l ∷ ls
    → ls ≡ lines (drop (suc (length l)) (c ∷ bs))
split_first c bs l ls later true rest f h =
    let none : [] ≡ l = cc in
    let same : lines bs ≡ ls = cc in
    sym same ∙ ap (λ k. lines (drop (suc (length k)) (c ∷ bs))) none
split_first c bs l ls later false [] f h =
    let alone : (c ∷ []) ∷ [] ≡ l ∷ ls = ap (onto_first c) (sym f) ∙ h in
    let first : c ∷ [] ≡ l = cc in
    let rest : [] ≡ ls = cc in
    sym rest ∙ ap (λ k. lines (drop (suc zero) k)) (sym (no_lines bs f))
    ∙ ap (λ k. lines (drop (suc (length k)) (c ∷ bs))) first
split_first c bs l ls later false (m ∷ ms) f h =
    let more : (c ∷ m) ∷ ms ≡ l ∷ ls = ap (onto_first c) (sym f) ∙ h in
    let first : c ∷ m ≡ l = cc in
    let rest : ms ≡ ls = cc in
    sym rest ∙ later m ms f ∙ ap (λ k. lines (drop (suc (length k)) (c ∷ bs))) first

pub lines_after : (b l : List ℕ) (ls : List (List ℕ)) → lines b ≡ l ∷ ls
    → ls ≡ lines (drop (suc (length l)) b)
lines_after [] l ls h = absurd cc
lines_after (c ∷ bs) l ls h =
    split_first c bs l ls (λ m ms f. lines_after bs m ms f) (c == 10) (lines bs) refl h

-- the numbered lines after the first
pub numbered_after : (n : ℕ) (b : List ℕ) (x : NumberedLine) (xs : List NumberedLine)
    → numbered n (lines b) ≡ x ∷ xs → xs ≡ numbered (n + 1) (lines (drop (suc (length x.bytes)) b))
numbered_after n b x xs h = by (lines b) refl
  where
    by : (ls : List (List ℕ)) → lines b ≡ ls
        → xs ≡ numbered (n + 1) (lines (drop (suc (length x.bytes)) b))
    by [] e = let none : [] ≡ x ∷ xs = ap (numbered n) (sym e) ∙ h in absurd cc
    by (l ∷ ls) e =
        let whole : (let y : NumberedLine = record { number = n; bytes = l } in y)
        ∷ numbered (n + 1) ls
        ≡ x ∷ xs =
        ap (numbered n) (sym e) ∙ h in
        let rest : numbered (n + 1) ls ≡ xs = cc in
        let first : l ≡ x.bytes = cc in
        sym rest ∙ ap (numbered (n + 1)) (lines_after b l ls e)
        ∙ ap (λ k. numbered (n + 1) (lines (drop (suc (length k)) b))) first

-- what is left after a line
pub next_left : (log : List ℕ) (p after : LogPlace) (x : NumberedLine) (xs : List NumberedLine)
    → numbered p.number (lines (take (length log - p.at) (drop p.at log))) ≡ x ∷ xs
    → after.at ≡ min (p.at + length x.bytes + 1) (length log) → after.number ≡ p.number + 1
    → left_at log p ≡ x ∷ left_at log after
next_left log p after x xs h at number =
    let all : take (length log - p.at) (drop p.at log) ≡ drop p.at log =
    take_all (length log - p.at) (drop p.at log) (omega (arith, length-drop p.at log)) in
    let whole : left_at log p ≡ x ∷ xs = ap (λ b. numbered p.number (lines b)) (sym all) ∙ h in
    let n = suc (length x.bytes) in
    let place : p.at + n ≡ p.at + length x.bytes + 1 = omega arith in
    let bytes : drop n (drop p.at log) ≡ drop after.at log =
    drop-drop n p.at log ∙ ap (λ k. drop k log) place
    ∙ sym (drop_min (p.at + length x.bytes + 1) log) ∙ ap (λ k. drop k log) (sym at) in
    whole ∙ ap (λ ys. x ∷ ys) (numbered_after p.number (drop p.at log) x xs whole
    ∙ ap (λ b. numbered (p.number + 1) (lines b)) bytes
    ∙ ap (λ k. numbered k (lines (drop after.at log))) (sym number))
