-- The prefix of a container that was read.
use Rattle.std.proofs.Common.{◌≡◌, ℕ, ◌+◌, List, [], ◌∷◌, ◌++◌, length, take, drop, Some}
use Rattle.std.proofs.Common.{None, Ok, Err, sym, ap, subst, ◌∙◌, append_assoc, append-nil}
use Rattle.std.proofs.Common.{arith, length-append, take-append-drop, inr, true, Bool}
use Rattle.std.proofs.lemmas.Grind.{flat_map-append}
use Rattle.std.proofs.lemmas.List.{map-append}
use Rattle.std.proofs.lemmas.Slice.Eq.{bytes_eq-Decides}
use Rattle.std.specs.List.{flat_map}
use Rattle.std.specs.Str.{bytes_eq}
use Rattle.rec_container.proofs.Grammar.{step_at-some, step_at-none}
use Rattle.rec_container.proofs.Lengths.{length-entry, length-magic}
use Rattle.rec_container.proofs.Octets.{AreOctets, AreOctets-drop, AreOctets-after}
use Rattle.rec_container.proofs.Spelling.{AreFrom-push}
use Rattle.rec_container.specs.Container.{Entry, entry, magic, AreFrom}
use Rattle.rec_container.specs.Container.{IsPrefix, place_after, IsContainer}
use Rattle.rec_container.specs.declared.errors.ContainerError.{ContainerError}
use Rattle.rec_container.specs.declared.indexed.PlacedEntry.{PlacedEntry}
use Rattle.rec_container.specs.Placed.{placed_entry, placed_entries, PlacedFrom}
use Rattle.rec_container.specs.Reading.{step_at, IsFault, has_magic}

-- one more entry after those that are placed
PlacedFrom-push : (p : ℕ) (hs : List PlacedEntry) (h : PlacedEntry) → PlacedFrom p hs
    → h.place ≡ p + length (flat_map entry (placed_entries hs)) + 11 + length h.name.now
    → PlacedFrom p (hs ++ h ∷ [])
PlacedFrom-push p [] h q e = (omega (arith, e), tt)
PlacedFrom-push p (g ∷ hs) h q e = (
  q.0,
  PlacedFrom-push (p + (11 + length g.name.now + length g.content.now)) hs h q.1 (omega (
    arith,
    e,
    length-append (entry (placed_entry g)) (flat_map entry (placed_entries hs)),
    length-entry (placed_entry g),
  )),
)

-- the bytes so far: whole entries, and the place after them
pub record IsReading (bytes : List ℕ) (hs : List PlacedEntry) (rest : List ℕ)
    (at : ℕ) : Type 0 where
  pub prefix : IsPrefix bytes (placed_entries hs) rest
  pub place : at ≡ place_after (placed_entries hs)
  pub fits : at + length rest ≡ length bytes
  pub octets : AreOctets rest
  pub placed : PlacedFrom 8 hs

-- at the beginning
pub reading_begins : (bytes rest : List ℕ) (hs : List PlacedEntry) → AreOctets bytes
    → has_magic bytes ≡ true → rest ≡ drop 8 bytes → length rest + 8 ≡ length bytes → hs ≡ []
    → IsReading bytes hs rest 8
reading_begins bytes rest hs octets tested r long none =
    let same : take (length magic) bytes ≡ magic =
    (bytes_eq-Decides (take (length magic) bytes) magic).0 tested in
    let cut : take 8 bytes ≡ magic = ap (λ n. take n bytes) (sym length-magic) ∙ same in
    let parts : bytes ≡ magic ++ rest = sym (take-append-drop 8 bytes)
    ∙ ap (λ l. l ++ drop 8 bytes) cut ∙ ap (λ l. magic ++ l) (sym r) in
    let begun : IsReading bytes [] rest 8 = record {
      prefix =
          record { spelled = parts ∙ ap (λ l. l ++ rest) (sym (append-nil magic)); entries = tt };
      place = sym (ap length (append-nil magic) ∙ length-magic);
      fits = omega (arith, long);
      octets = subst AreOctets (sym r) (AreOctets-drop 8 bytes octets);
      placed = tt;
    } in
    subst (λ (l : List PlacedEntry). IsReading bytes l rest 8) (sym none) begun

-- after one more entry
pub reading_goes_on : (bytes : List ℕ) (hs gs : List PlacedEntry) (h : PlacedEntry)
    (rest after : List ℕ) (at : ℕ)
    → IsReading bytes hs rest at
    → step_at at (placed_entries hs) rest ≡ Ok (Some (placed_entry h, after)) → gs ≡ hs ++ h ∷ []
    → (next : ℕ) → next ≡ at + 11 + length h.name.now + length h.content.now
    → h.place ≡ at + 11 + length h.name.now → IsReading bytes gs after next
reading_goes_on bytes hs gs h rest after at r s g next n there =
    let e = placed_entry h in
    let es = placed_entries hs in
    let f = step_at-some at es rest e after r.octets s in
    let pushed : placed_entries (hs ++ h ∷ []) ≡ es ++ e ∷ [] =
    map-append placed_entry hs (h ∷ []) in
    let texts : flat_map entry (es ++ e ∷ []) ≡ flat_map entry es ++ entry e =
    flat_map-append entry es (e ∷ []) ∙ ap (λ l. flat_map entry es ++ l) (append-nil (entry e)) in
    let whole : magic ++ flat_map entry (es ++ e ∷ []) ≡ (magic ++ flat_map entry es) ++ entry e =
    ap (λ l. magic ++ l) texts ∙ sym (append_assoc magic (flat_map entry es) (entry e)) in
    let spelled : bytes ≡ magic ++ flat_map entry (es ++ e ∷ []) ++ after =
    r.prefix.spelled ∙ ap (λ l. magic ++ flat_map entry es ++ l) f.spelled
    ∙ sym (append_assoc (magic ++ flat_map entry es) (entry e) after)
    ∙ ap (λ l. l ++ after) (sym whole) in
    let entries : AreFrom [] (es ++ e ∷ []) = AreFrom-push [] es e r.prefix.entries f.is f.new in
    let place : next ≡ place_after (es ++ e ∷ []) = omega (
      arith,
      n,
      r.place,
      ap length whole,
      length-append (magic ++ flat_map entry es) (entry e),
      length-entry e,
    ) in
    let fits : next + length after ≡ length bytes = omega (
      arith,
      place,
      ap length spelled,
      length-append (magic ++ flat_map entry (es ++ e ∷ [])) after,
    ) in
    let placed : PlacedFrom 8 (hs ++ h ∷ []) =
    PlacedFrom-push 8 hs h r.placed
    (omega (arith, there, r.place, length-append magic (flat_map entry es), length-magic)) in
    let all = λ (ds : List Entry). IsPrefix bytes ds after × (next ≡ place_after ds) in
    let both = subst all (sym pushed) (record { spelled = spelled; entries = entries }, place) in
    let now : IsReading bytes (hs ++ h ∷ []) after next = record {
      prefix = both.0;
      place = both.1;
      fits = fits;
      octets = AreOctets-after rest (entry e) after f.spelled r.octets;
      placed = placed;
    } in
    subst (λ (l : List PlacedEntry). IsReading bytes l after next) (sym g) now

-- at the end
pub reading_ends : (bytes : List ℕ) (hs : List PlacedEntry) (rest : List ℕ) (at : ℕ)
    → IsReading bytes hs rest at → step_at at (placed_entries hs) rest ≡ Ok None
    → IsContainer bytes (placed_entries hs)
reading_ends bytes hs rest at r s =
    record {
      spelled = r.prefix.spelled ∙ ap (λ l. magic ++ flat_map entry (placed_entries hs) ++ l)
          (step_at-none at (placed_entries hs) rest s);
      entries = r.prefix.entries;
    }

-- at a fault
pub reading_fails : (bytes : List ℕ) (hs : List PlacedEntry) (rest : List ℕ) (at : ℕ)
    (e : ContainerError)
    → IsReading bytes hs rest at → step_at at (placed_entries hs) rest ≡ Err e → IsFault bytes e
reading_fails bytes hs rest at e r s = inr (
  placed_entries hs,
  rest,
  r.prefix,
  ap (λ n. step_at n (placed_entries hs) rest) (sym r.place) ∙ s,
)

-- the test of the magic, as a prefix is tested
pub magic_tested : (bytes prefix : List ℕ) (b : Bool)
    → prefix ≡ 110 ∷ 120 ∷ 116 ∷ 99 ∷ 111 ∷ 110 ∷ 116 ∷ 49 ∷ []
    → bytes_eq (take (length prefix) bytes) prefix ≡ b → has_magic bytes ≡ b
unfolding magic
magic_tested bytes prefix b p e = subst (λ (l : List ℕ). bytes_eq (take (length l) bytes) l ≡ b) p e
