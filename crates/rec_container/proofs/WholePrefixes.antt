-- The whole prefix of bytes that may be cut off.
use Rattle.std.proofs.Common.{◌≡◌, ℕ, ◌<◌, List, [], ◌∷◌, ◌++◌, length, take, drop}
use Rattle.std.proofs.Common.{take-append-drop, length-append, Option, Some, None, Ok, MatchOption}
use Rattle.std.proofs.Common.{Bor, refl, sym, ap, subst, ◌∙◌, append_assoc, append-nil, arith}
use Rattle.std.proofs.lemmas.List.{length-drop}
use Rattle.std.specs.List.{flat_map}
use Rattle.std.specs.Option.{option_map}
use Rattle.rec_container.proofs.Grammar.{entry-tagged, step_at-spelled, step_at-same, step_at-none}
use Rattle.rec_container.proofs.Unique.{prefix_first, prefixes_unique, end_stuck, after_magic}
use Rattle.rec_container.specs.Container.{Entry, entry, magic, spell, AreFrom}
use Rattle.rec_container.specs.Container.{IsPrefix, content_of, IsEntry}
use Rattle.rec_container.specs.declared.indexed.PlacedEntry.{PlacedEntry}
use Rattle.rec_container.specs.Placed.{placed_entry}
use Rattle.rec_container.specs.Reading.{step_at}
use Rattle.rec_container.specs.WholePrefixes.{IsStuck, IsWholePrefix}

-- a step that gave an entry, or the end
pub found_step : (p : ℕ) (seen : List Entry) (bytes : List ℕ)
    (o : Option (PlacedEntry × Bor (List ℕ)))
    → step_at p seen bytes ≡ Ok (option_map (λ x. (placed_entry x.0, x.1.now)) o)
    → MatchOption o (IsStuck seen bytes)
    (λ x. step_at p seen bytes ≡ Ok (Some (placed_entry x.0, x.1.now)))
found_step p seen bytes None h =
    subst (IsStuck seen) (sym (step_at-none p seen bytes h)) (end_stuck seen [])
found_step p seen bytes (Some x) h = h

-- the whole prefix has all entries that the bytes begin with, so it is the longest such list
pub prefix_longest : (bytes : List ℕ) (es fs : List Entry) (more : List ℕ) → IsWholePrefix bytes es
    → IsPrefix bytes fs more → (rest : List Entry) × (es ≡ fs ++ rest)
prefix_longest bytes es fs more whole p =
    prefix_first [] es fs whole.rest more whole.prefix.entries p.entries
    (after_magic es fs whole.rest more (sym whole.prefix.spelled ∙ p.spelled)) whole.stuck

-- and no other prefix of these bytes is whole
pub prefix_one : (bytes : List ℕ) (es fs : List Entry) → IsWholePrefix bytes es
    → IsWholePrefix bytes fs → es ≡ fs
prefix_one bytes es fs p q =
    (prefixes_unique [] es fs p.rest q.rest p.prefix.entries q.prefix.entries
    (after_magic es fs p.rest q.rest (sym p.prefix.spelled ∙ q.prefix.spelled)) p.stuck q.stuck).0

-- ---- what a writer leaves that was stopped

length-none : (x y : List ℕ) → [] ≡ x ++ y → length y ≡ 0
length-none x y h = omega (arith, ap length h, length-append x y)

-- a proper prefix of an entry is no entry
pub part_stuck : (es : List Entry) (e : Entry) (k : ℕ) → IsEntry e → content_of es e.name ≡ None
    → k < length (entry e) → IsStuck es (take k (entry e))
part_stuck es e k is new short f rest is_f new_f h =
    let cut : entry e ++ [] ≡ entry f ++ (rest ++ drop k (entry e)) =
    append-nil (entry e) ∙ sym (take-append-drop k (entry e)) ∙ ap (λ l. l ++ drop k (entry e)) h
    ∙ append_assoc (entry f) rest (drop k (entry e)) in
    let both = step_at-same (e, []) (f, rest ++ drop k (entry e)) 0 es (entry e ++ [])
    (step_at-spelled 0 es e [] is new)
    (ap (step_at 0 es) cut ∙ step_at-spelled 0 es f (rest ++ drop k (entry e)) is_f new_f) in
    let left : [] ≡ rest ++ drop k (entry e) = ap (λ (w : Entry × List ℕ). w.1) both in
    absurd (omega (arith, length-none rest (drop k (entry e)) left, length-drop k (entry e), short))

-- nor is nothing
pub nothing_stuck : (es : List Entry) → IsStuck es []
nothing_stuck es f rest is new h =
    absurd (let g = ap length (h ∙ ap (λ l. l ++ rest) (entry-tagged f)) in cc)

-- entries, and what a fault left of one more, have these entries as their whole prefix
pub stopped_prefix : (es : List Entry) (e : Entry) (k : ℕ) → AreFrom [] es → IsEntry e
    → content_of es e.name ≡ None → k < length (entry e)
    → IsWholePrefix (magic ++ flat_map entry es ++ take k (entry e)) es
stopped_prefix es e k are is new short = record {
  rest = take k (entry e);
  prefix = record { spelled = refl; entries = are };
  stuck = part_stuck es e k is new short;
}

-- so have entries alone, and with the end mark
pub written_prefix : (es : List Entry) → AreFrom [] es
    → IsWholePrefix (magic ++ flat_map entry es) es
written_prefix es are = record {
  rest = [];
  prefix = record { spelled = sym (append-nil (magic ++ flat_map entry es)); entries = are };
  stuck = nothing_stuck es;
}

pub spelled_prefix : (es : List Entry) → AreFrom [] es → IsWholePrefix (spell es) es
spelled_prefix es are = record {
  rest = 0 ∷ [];
  prefix = record { spelled = refl; entries = are };
  stuck = end_stuck es [];
}
