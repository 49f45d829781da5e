-- The entries of the store that is made, one after the other.
use Rattle.std.proofs.Common.{◌≡◌, ℕ, zero, suc, ◌+◌, ◌-◌, ◌<◌, Bool, true, false, cond, List}
use Rattle.std.proofs.Common.{[], ◌∷◌, ◌++◌, length, drop, map, slice_get, Option, Some, None}
use Rattle.std.proofs.Common.{Result, Ok, Err, OnOk, Global, String, sym, ap, subst, ◌∙◌, arith}
use Rattle.std.proofs.Common.{append_assoc, append-nil, length-append, add-one, if◌then◌else◌}
use Rattle.std.proofs.lemmas.List.Elements.{filter_agree}
use Rattle.std.proofs.lemmas.List.{length-map, map-append}
use Rattle.std.specs.BTreeSet.{BTreeSet, contains_text}
use Rattle.std.specs.declared.alloc.AllocError.{AllocError}
use Rattle.std.specs.List.{flat_map, AllByRecursion}
use Rattle.rec_container.proofs.Lengths.{content_bytes-push}
use Rattle.rec_container.specs.Container.{AreFrom, Entry, content_bytes, content_of}
use Rattle.rec_container.specs.declared.named_contents.NamedContent.{NamedContent}
use Rattle.rec_container.specs.NamedContents.{entry_of}
use Rattle.rec_container.specs.Writing.{entry_named}
use Rattle.rec_codec.specs.Event.{RecordedEvent}
use Rattle.rec_store.proofs.Held.{all_append}
use Rattle.rec_store.specs.Kept.{event_paths}
use Rattle.rec_store.specs.RunParts.{metadata_paths}
use Rattle.rec_salvage.proofs.FoundEntries.{chosen, listed_of}
use Rattle.rec_salvage.specs.declared.gathering.Gathered.{Gathered}
use Rattle.rec_salvage.specs.declared.store.KeptStore.{KeptStore}
use Rattle.rec_salvage.specs.Gathering.{HasGathered, is_among}
use Rattle.rec_salvage.specs.Keeping.{AddsEntries, IsStore, entries_in}
use Rattle.rec_salvage.specs.Salvaged.{prefix_metadata, kept_entries, listed, named_entries}

-- ---- one entry

pub none_added : (old : List NamedContent) (path : List ℕ) (found : Option (List ℕ)) → found ≡ None
    → AddsEntries old old (listed path found)
none_added old path found h =
    sym (ap (λ o. map entry_of old ++ listed path o) h ∙ append-nil (map entry_of old))

pub one_added : (old new : List NamedContent) (c : NamedContent) (found : Option (List ℕ))
    → new ≡ old ++ c ∷ [] → found ≡ Some c.content.now
    → AddsEntries old new (listed c.name.now found)
one_added old new c found pushed is =
    ap (map entry_of) pushed ∙ map-append entry_of old (c ∷ [])
    ∙ sym (ap (λ o. map entry_of old ++ listed c.name.now o) is)

-- the five of the metadata
pub five_added : (a b c d e f : List NamedContent) (v w x y z : List Entry) → AddsEntries a b v
    → AddsEntries b c w → AddsEntries c d x → AddsEntries d e y → AddsEntries e f z
    → AddsEntries a f (v ++ (w ++ (x ++ (y ++ (z ++ [])))))
five_added a b c d e f v w x y z p q r s t =
    t ∙ ap (λ l. l ++ z) (s ∙ ap (λ l. l ++ y) (r ∙ ap (λ l. l ++ x) (q ∙ ap (λ l. l ++ w) p)))
    ∙ append_assoc (((map entry_of a ++ v) ++ w) ++ x) y z
    ∙ append_assoc ((map entry_of a ++ v) ++ w) x (y ++ z)
    ∙ append_assoc (map entry_of a ++ v) w (x ++ (y ++ z))
    ∙ append_assoc (map entry_of a) v (w ++ (x ++ (y ++ z)))
    ∙ ap (λ l. map entry_of a ++ (v ++ (w ++ (x ++ (y ++ l))))) (sym (append-nil z))

pub five_answered : (a b c d e f : List NamedContent) (v w x y z : List Entry)
    (r : Result (Unit {0}) AllocError)
    → AddsEntries a b v → AddsEntries b c w → AddsEntries c d x → AddsEntries d e y
    → OnOk r (AddsEntries e f z) → OnOk r (AddsEntries a f (v ++ (w ++ (x ++ (y ++ (z ++ []))))))
five_answered a b c d e f v w x y z (Ok done) p q r s t = five_added a b c d e f v w x y z p q r s t
five_answered a b c d e f v w x y z (Err error) p q r s t = tt

-- two lots of entries, the first into nothing
pub both_added : (a b c : List NamedContent) (x y : List Entry) → a ≡ [] → AddsEntries a b x
    → AddsEntries b c y → map entry_of c ≡ x ++ y
both_added a b c x y none p q = q ∙ ap (λ l. l ++ y) (p ∙ ap (λ l. map entry_of l ++ x) none)

pub count_added : (a b c : List NamedContent) (x y : List Entry) → a ≡ [] → AddsEntries a b x
    → AddsEntries b c y → length c - length b ≡ length y
count_added a b c x y none p q =
    let first : length (map entry_of b) ≡ length x =
    ap length (p ∙ ap (λ l. map entry_of l ++ x) none) in
    let all : length (map entry_of c) ≡ length x + length y =
    ap length (both_added a b c x y none p q) ∙ length-append x y in
    omega (arith, first, all, length-map b entry_of, length-map c entry_of)

-- ---- the entries that a set names

entry_at : (es : List Entry) (i : ℕ) (name content : List ℕ)
    → slice_get (map (λ (e : Entry). e.name) es) i ≡ Some name
    → slice_get (map (λ (e : Entry). e.content) es) i ≡ Some content
    → drop i es ≡ entry_named name content ∷ drop (suc i) es
entry_at [] i name content n c = absurd (let none = n in cc)
entry_at (e ∷ es) zero name content n c =
    let same_name : e.name ≡ name = cc in
    let same_content : e.content ≡ content = cc in
    ap (λ l. entry_named l e.content ∷ es) same_name
    ∙ ap (λ l. entry_named name l ∷ es) same_content
entry_at (e ∷ es) (suc i) name content n c = entry_at es i name content n c

name_at : (es : List Entry) (i : ℕ) (name : List ℕ)
    → slice_get (map (λ (e : Entry). e.name) es) i ≡ Some name
    → (content : List ℕ) × (drop i es ≡ entry_named name content ∷ drop (suc i) es)
name_at [] i name n = absurd (let none = n in cc)
name_at (e ∷ es) zero name n =
    let same_name : e.name ≡ name = cc in
    (e.content, ap (λ l. entry_named l e.content ∷ es) same_name)
name_at (e ∷ es) (suc i) name n = name_at es i name n

module _ (paths : BTreeSet (String Global)) (es : List Entry) (i : ℕ) (before all : List Entry)
    (name : List ℕ) (named : slice_get (map (λ (e : Entry). e.name) es) i ≡ Some name)
    (left : before ++ entries_in paths (drop i es) ≡ all) where
  -- one that it doesn't name
  pub entry_passed : contains_text paths name ≡ false
      → before ++ entries_in paths (drop (i + 1) es) ≡ all
  entry_passed h =
      let at = name_at es i name named in
      ap (λ n. before ++ entries_in paths (drop n es)) (add-one i)
      ∙ sym (ap (λ l. before ++ entries_in paths l) at.1 ∙ ap (λ b. before ++ cond b (entry_named
      name at.0 ∷ entries_in paths (drop (suc i) es)) (entries_in paths (drop (suc i) es))) h)
      ∙ left

  -- one that it names
  pub entry_chosen : (old new : List NamedContent) (c : NamedContent) → map entry_of old ≡ before
      → c.name.now ≡ name → slice_get (map (λ (e : Entry). e.content) es) i ≡ Some c.content.now
      → new ≡ old ++ c ∷ [] → contains_text paths name ≡ true
      → map entry_of new ++ entries_in paths (drop (i + 1) es) ≡ all
  entry_chosen old new c was is content pushed h =
      let rest = entries_in paths (drop (suc i) es) in
      let entry = entry_named name c.content.now in
      ap (λ n. map entry_of new ++ entries_in paths (drop n es)) (add-one i)
      ∙ ap (λ l. map entry_of l ++ rest) pushed
      ∙ ap (λ l. l ++ rest) (map-append entry_of old (c ∷ []) ∙ ap (λ l. l ++ entry_of c ∷ []) was
      ∙ ap (λ n. before ++ entry_named n c.content.now ∷ []) is)
      ∙ append_assoc before (entry ∷ []) rest
      ∙ sym (ap (λ l. before ++ entries_in paths l) (entry_at es i name c.content.now named content)
      ∙ ap (λ b. before ++ cond b (entry ∷ rest) rest) h)
      ∙ left

-- ---- names are short

abbrev pub IsShort : Entry → Type 0
IsShort e = length e.name < 65536

pub entries_short : (seen es : List Entry) → AreFrom seen es → AllByRecursion IsShort es
entries_short seen [] h = tt
entries_short seen (e ∷ es) h = (h.0.name.short, entries_short (seen ++ e ∷ []) es h.2)

chosen_short : (t : List ℕ → Bool) (es : List Entry) → AllByRecursion IsShort es
    → AllByRecursion IsShort (chosen t es)
chosen_short t [] h = tt
chosen_short t (e ∷ es) h = by (t e.name) (chosen_short t es h.1)
  where
    by : (b : Bool) → AllByRecursion IsShort (chosen t es)
        → AllByRecursion IsShort (if b then e ∷ chosen t es else chosen t es)
    by true rest = (h.0, rest)
    by false rest = rest

listed_short : (es : List Entry) (ps : List (List ℕ)) → AllByRecursion (λ p. length p < 65536) ps
    → AllByRecursion IsShort (listed_of es ps)
listed_short es [] h = tt
listed_short es (p ∷ ps) h = by (content_of es p) (listed_short es ps h.1)
  where
    by : (o : Option (List ℕ)) → AllByRecursion IsShort (listed_of es ps)
        → AllByRecursion IsShort (listed p o ++ listed_of es ps)
    by None rest = rest
    by (Some c) rest = (h.0, rest)

short_contents : (cs : List NamedContent) → AllByRecursion IsShort (map entry_of cs)
    → AllByRecursion (λ (c : NamedContent). length c.name.now < 65536) cs
short_contents [] h = tt
short_contents (c ∷ cs) h = (h.0, short_contents cs h.1)

pub contents_short : (es : List Entry) (paths : BTreeSet (String Global)) (cs : List NamedContent)
    → AreFrom [] es → map entry_of cs ≡ prefix_metadata es ++ entries_in paths es
    → AllByRecursion (λ (c : NamedContent). length c.name.now < 65536) cs
contents_short es paths cs are is =
    short_contents cs
    (subst (λ (l : List Entry). AllByRecursion IsShort l) (sym is)
    (all_append IsShort (prefix_metadata es) (entries_in paths es) (listed_short es metadata_paths
    (omega arith, (omega arith, (omega arith, (omega arith, (omega arith, tt))))))
    (chosen_short (contains_text paths) es (entries_short [] es are))))

-- ---- what was gathered names the outputs

module _ (es : List Entry) (events : List RecordedEvent) (g : Gathered)
    (h : HasGathered events g) where
  pub named_are : entries_in g.paths es ≡ named_entries es events
  named_are =
      filter_agree (λ e. contains_text g.paths e.name)
      (λ e. is_among (flat_map event_paths events) e.name) (λ e. h.paths e.name) es

  pub kept_are : prefix_metadata es ++ entries_in g.paths es ≡ kept_entries es events
  kept_are = ap (λ l. prefix_metadata es ++ l) named_are

  -- so the store that was made is the one that is kept
  pub store_is : (cs : List NamedContent) (n : ℕ) (s : KeptStore)
      → map entry_of cs ≡ prefix_metadata es ++ entries_in g.paths es
      → n ≡ length (entries_in g.paths es) → IsStore (map entry_of cs) n s
      → IsStore (kept_entries es events) (length (named_entries es events)) s
  store_is cs n s is count made =
      subst (λ (l : List Entry). IsStore l (length (named_entries es events)) s) (is ∙ kept_are)
      (subst (λ (k : ℕ). IsStore (map entry_of cs) k s) (count ∙ ap length named_are) made)

-- ---- bytes of contents

pub bytes_more : (cs more : List NamedContent) (c : NamedContent) (n m : ℕ) → more ≡ cs ++ c ∷ []
    → n ≡ content_bytes (map entry_of cs) → m ≡ n + length c.content.now
    → m ≡ content_bytes (map entry_of more)
bytes_more cs more c n m is so_far sum =
    sum ∙ ap (λ k. k + length c.content.now) so_far
    ∙ sym (content_bytes-push (map entry_of cs) (entry_of c))
    ∙ ap content_bytes (sym (map-append entry_of cs (c ∷ [])))
    ∙ ap (λ l. content_bytes (map entry_of l)) (sym is)
