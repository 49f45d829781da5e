-- The entries that bytes spell are those that a container has.
use Rattle.std.proofs.Common.{◌≡◌, inl, inr, ℕ, suc, ◌+◌, ◌-◌, List, [], ◌∷◌, ◌++◌, length}
use Rattle.std.proofs.Common.{take, drop, true, if◌then◌else◌, None, Ok, Err, refl, sym}
use Rattle.std.proofs.Common.{ap, ◌∙◌, append_assoc, append-nil, arith, length-append}
use Rattle.std.proofs.lemmas.List.{take_at}
use Rattle.std.proofs.lemmas.Slice.Eq.{bytes_eq-Decides}
use Rattle.std.proofs.Math.Seq.{drop-append_seam}
use Rattle.std.specs.List.{flat_map}
use Rattle.rec_container.proofs.Grammar.{step_at-spelled}
use Rattle.rec_container.proofs.Lengths.{length-entries, length-magic}
use Rattle.rec_container.specs.Container.{AreFrom, Entry, IsContainer}
use Rattle.rec_container.specs.Container.{IsPrefix, entry, magic, place_after}
use Rattle.rec_container.specs.declared.errors.ContainerError.TheVariants.{BadMagic}
use Rattle.rec_container.specs.declared.errors.ContainerError.{ContainerError}
use Rattle.rec_container.specs.Reading.{◌>>=◌, IsFault, has_magic, step_at}
use Rattle.rec_reading.specs.Stores.{entries_after, entries_from, entries_of}

-- after whole entries the reading goes on with what follows them
entries-after : (steps : ℕ) (seen es : List Entry) (rest : List ℕ) → AreFrom seen es
    → entries_from (length es + steps) seen (flat_map entry es ++ rest)
    ≡ entries_from steps (seen ++ es) rest
entries-after steps seen [] rest are =
    let count : 0 + steps ≡ steps = omega arith in
    ap (λ n. entries_from n seen rest) count
    ∙ ap (λ l. entries_from steps l rest) (sym (append-nil seen))
entries-after steps seen (e ∷ es) rest are =
    let count : length (e ∷ es) + steps ≡ suc (length es + steps) = omega arith in
    let go = entries_after (entries_from (length es + steps)) seen in
    ap (λ n. entries_from n seen (flat_map entry (e ∷ es) ++ rest)) count
    ∙ ap (λ b. step_at (place_after seen) seen b >>= go)
    (append_assoc (entry e) (flat_map entry es) rest)
    ∙ ap (λ r. r >>= go)
    (step_at-spelled (place_after seen) seen e (flat_map entry es ++ rest) are.0 are.1)
    ∙ entries-after steps (seen ++ e ∷ []) es rest are.2
    ∙ ap (λ l. entries_from steps l rest) (append_assoc seen (e ∷ []) es)

-- what follows the magic
drop-magic : (m more : List ℕ) → drop (length m) (m ++ more) ≡ more
drop-magic m more = drop-append_seam m more

module _ (bytes : List ℕ) (es : List Entry) (rest : List ℕ) (prefix : IsPrefix bytes es rest) where
  text : bytes ≡ magic ++ (flat_map entry es ++ rest)
  text = prefix.spelled ∙ append_assoc magic (flat_map entry es) rest

  begins : has_magic bytes ≡ true
  begins =
      (bytes_eq-Decides (take (length magic) bytes) magic).1 (ap (take (length magic)) text
      ∙ take_at magic (flat_map entry es ++ rest) (length magic) refl)

  after : drop (length magic) bytes ≡ flat_map entry es ++ rest
  after = ap (drop (length magic)) text ∙ drop-magic magic (flat_map entry es ++ rest)

  -- there are more bytes than entries
  abbrev steps_left : ℕ
  steps_left = length bytes - (length es + 1)

  enough : length bytes ≡ length es + suc steps_left
  enough = omega (
    arith,
    ap length text,
    length-append magic (flat_map entry es ++ rest),
    length-append (flat_map entry es) rest,
    length-magic,
    length-entries es,
  )

  entries_of-prefix : entries_of bytes ≡ entries_from (suc steps_left) es rest
  unfolding entries_of
  entries_of-prefix =
      ap
      (λ b. if b then entries_from (length bytes) [] (drop (length magic) bytes) else Err BadMagic)
      begins
      ∙ ap (entries_from (length bytes) []) after
      ∙ ap (λ n. entries_from n [] (flat_map entry es ++ rest)) enough
      ∙ entries-after (suc steps_left) [] es rest prefix.entries

-- the end mark ends the entries
at_end : (place : ℕ) (seen : List Entry) → step_at place seen (0 ∷ []) ≡ Ok None
unfolding step_at
at_end place seen = refl

pub entries_of_container : (bytes : List ℕ) (es : List Entry) → IsContainer bytes es
    → entries_of bytes ≡ Ok es
entries_of_container bytes es is =
    let prefix : IsPrefix bytes es (0 ∷ []) =
    record { spelled = is.spelled; entries = is.entries } in
    entries_of-prefix bytes es (0 ∷ []) prefix
    ∙ ap (λ r. r >>= entries_after (entries_from (steps_left bytes es (0 ∷ []) prefix)) es)
    (at_end (place_after es) es)

pub entries_of_fault : (bytes : List ℕ) (fault : ContainerError) → IsFault bytes fault
    → entries_of bytes ≡ Err fault
unfolding entries_of
entries_of_fault bytes fault (inl magic_is) =
    ap (λ b. if b then entries_from (length bytes) [] (drop (length magic) bytes) else Err BadMagic)
    magic_is.0
    ∙ ap Err (sym magic_is.1)
entries_of_fault bytes fault (inr (es, rest, prefix, step)) =
    entries_of-prefix bytes es rest prefix
    ∙ ap (λ r. r >>= entries_after (entries_from (steps_left bytes es rest prefix)) es) step
