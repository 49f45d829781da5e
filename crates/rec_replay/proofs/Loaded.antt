-- What calls that read outputs answer, one after the other.
use Rattle.std.proofs.Common.{◌≡◌, ℕ, nat_lt, Bool, true, false, if◌then◌else◌, unwrap_or}
use Rattle.std.proofs.Common.{◌<◌, ◌≤◌, List, [], ◌∷◌, ◌++◌, length, Option, Some, None}
use Rattle.std.proofs.Common.{Ok, Err, refl, sym, ◌∙◌, ap, subst, arith, length-append}
use Rattle.std.specs.Option.{option_or}
use Rattle.std.specs.Prelude.{Result}
use Rattle.rec_container.specs.Container.{Entry, content_of}
use Rattle.rec_container.specs.Reading.{◌>>=◌}
use Rattle.rec_events.specs.declared.output_names.OutputFileName.{OutputFileName}
use Rattle.rec_events.specs.OutputNames.{file_name_text}
use Rattle.rec_format.specs.declared.paths.OutputDict.TheVariants as dict
use Rattle.rec_format.specs.declared.paths.OutputDict.{OutputDict}
use Rattle.rec_format.specs.Paths.{dict_of_name}
use Rattle.rec_store.specs.declared.read_error.RecordReadError.TheVariants.{
  RunNotFound,
  OpenArchive,
  ParseArchive,
  FileNotFound,
  FileTooLarge,
  NotUtf8,
  DeserializeMetadata,
  UnknownOutputType,
  ExtractFile,
  OpenRunLog,
  DiskFault,
  ReadRunLog,
  ParseEvent,
  OutOfMemory,
}
use Rattle.rec_store.specs.declared.read_error.RecordReadError.{RecordReadError}
use Rattle.rec_store.specs.Kept.{bytes_under}
use Rattle.rec_store.specs.OutputPaths.{output_path}
use Rattle.rec_store.specs.Parts.{found_within, of_kind, output_part, path_of_output}
use Rattle.rec_store.specs.Readers.{Denies, IsDiskCaused, Keeps}
use Rattle.rec_replay.specs.Loading.{Loads, LoadsAs, first_refusal}
use Rattle.rec_replay.specs.Loading.{name_refusal, or_done, refusal_of}

-- ---- refusals

-- where nothing was refused, only memory or the disk is at fault, and these may be at any time
free : (refusal : Option RecordReadError) (e : RecordReadError) → Denies (or_done None) e
    → Denies (or_done refusal) e
free refusal (RunNotFound p) h = absurd cc
free refusal (OpenArchive p) h = absurd h
free refusal (ParseArchive p f) h = absurd h
free refusal (FileNotFound p) h = absurd cc
free refusal (FileTooLarge p n m) h = absurd cc
free refusal (NotUtf8 p) h = absurd cc
free refusal (DeserializeMetadata p) h = absurd cc
free refusal (UnknownOutputType p) h = absurd cc
free refusal (ExtractFile p) h = absurd cc
free refusal (OpenRunLog p) h = absurd cc
free refusal (DiskFault p) h = tt
free refusal (ReadRunLog n) h = absurd cc
free refusal (ParseEvent n) h = absurd cc
free refusal OutOfMemory h = tt

-- a refusal stays the first one, whatever stands after it
denied_before : (a b : Option RecordReadError) (e : RecordReadError) → Denies (or_done a) e
    → Denies (or_done (option_or a b)) e
denied_before None b e h = free b e h
denied_before (Some x) b e h = h

-- after what is not refused comes the first refusal of the rest
denied_after : (a b : Option RecordReadError) (e : RecordReadError) → a ≡ None
    → Denies (or_done b) e → Denies (or_done (option_or a b)) e
denied_after None b e h p = p
denied_after (Some x) b e h p = absurd cc

none_after : (a b : Option RecordReadError) → a ≡ None → b ≡ None → option_or a b ≡ None
none_after None b h p = p
none_after (Some x) b h p = absurd cc

or_assoc : (a b c : Option RecordReadError)
    → option_or (option_or a b) c ≡ option_or a (option_or b c)
or_assoc None b c = refl
or_assoc (Some x) b c = refl

-- the first refusal along two lists of names
pub refusal-append : (es : List Entry) (limit : ℕ) (ns ms : List OutputFileName)
    → first_refusal es limit (ns ++ ms)
    ≡ option_or (first_refusal es limit ns) (first_refusal es limit ms)
refusal-append es limit [] ms = refl
refusal-append es limit (n ∷ ns) ms =
    ap (λ r. option_or (name_refusal es limit n) r) (refusal-append es limit ns ms) ∙ sym
    (or_assoc (name_refusal es limit n) (first_refusal es limit ns) (first_refusal es limit ms))

-- ---- counts and limits

some_before : (ns ms : List OutputFileName) → 0 < length ns → 0 < length (ns ++ ms)
some_before ns ms h = omega (arith, length-append ns ms)

some_after : (ns ms : List OutputFileName) → 0 < length ms → 0 < length (ns ++ ms)
some_after ns ms h = omega (arith, length-append ns ms)

no_names_before : (ns ms : List OutputFileName) → length (ns ++ ms) ≡ 0 → length ns ≡ 0
no_names_before ns ms h = omega (arith, length-append ns ms)

no_names_after : (ns ms : List OutputFileName) → length (ns ++ ms) ≡ 0 → length ms ≡ 0
no_names_after ns ms h = omega (arith, length-append ns ms)

-- ---- one call

module _ {T U : Type 0} (l m f g : ℕ) (O N : List Entry → Type 0) (ns : List OutputFileName)
    (x : List Entry → T) (y : List Entry → U) where
  -- what is made of what was read
  pub loads_as : (a : T) (b : U) → ((es : List Entry) → a ≡ x es → b ≡ y es)
      → Loads l m f g O N ns x (Ok a) → Loads l m f g O N ns y (Ok b)
  loads_as a b made h = record {
    answer = λ es w. let p = h.answer es w in (p.0, made es p.1);
    same = h.same;
    cause = record { later = h.cause.later; failed = tt };
    named = λ n. tt;
  }

  -- nothing is made of what was not
  pub loads_error : (e : RecordReadError) → Loads l m f g O N ns x (Err e)
      → Loads l m f g O N ns y (Err e)
  loads_error e h = record {
    answer = h.answer;
    same = h.same;
    cause = record { later = h.cause.later; failed = h.cause.failed };
    named = h.named;
  }

-- other names for the same names
pub loads_named : {T : Type 0} (l m f g : ℕ) (O N : List Entry → Type 0)
    (ns ms : List OutputFileName) (x : List Entry → T) (r : Result T RecordReadError)
    → ns ≡ ms → Loads l m f g O N ns x r → Loads l m f g O N ms x r
loads_named l m f g O N ns ms x r p h =
    subst (λ (names : List OutputFileName). Loads l m f g O N names x r) p h

-- ---- two calls, one after the other

keeps_on : (l m n : ℕ) (O M N : List Entry → Type 0) → Keeps l m O M → Keeps m n M N → Keeps l n O N
keeps_on l m n O M N p q = record {
  limit = q.limit ∙ p.limit;
  entries =
      λ es.
      (λ h. (q.entries es).0 ((p.entries es).0 h), λ h. (p.entries es).1 ((q.entries es).1 h));
}

-- a count that rose later rose
caused_later : (before mid now : ℕ) (e : RecordReadError) → before ≤ mid → IsDiskCaused mid now e
    → IsDiskCaused before now e
caused_later before mid now (RunNotFound p) h i = tt
caused_later before mid now (OpenArchive p) h i = tt
caused_later before mid now (ParseArchive p f) h i = tt
caused_later before mid now (FileNotFound p) h i = tt
caused_later before mid now (FileTooLarge p n m) h i = tt
caused_later before mid now (NotUtf8 p) h i = tt
caused_later before mid now (DeserializeMetadata p) h i = tt
caused_later before mid now (UnknownOutputType p) h i = tt
caused_later before mid now (ExtractFile p) h i = tt
caused_later before mid now (OpenRunLog p) h i = tt
caused_later before mid now (DiskFault p) h i = omega arith
caused_later before mid now (ReadRunLog n) h i = tt
caused_later before mid now (ParseEvent n) h i = tt
caused_later before mid now OutOfMemory h i = tt

-- nothing was done
pub keeps_all : (l : ℕ) (O : List Entry → Type 0) → Keeps l l O O
keeps_all l O = record { limit = refl; entries = λ es. (λ h. h, λ h. h) }

module _ {T V : Type 0} (l m f g : ℕ) (O M : List Entry → Type 0) (ns ms : List OutputFileName)
    (x : List Entry → T) (z : List Entry → V) where
  -- the first failed
  pub loads_before : (e : RecordReadError) → Loads l m f g O M ns x (Err e)
      → Loads l m f g O M (ns ++ ms) z (Err e)
  loads_before e p = record {
    answer = λ es w.
        subst (λ (refusal : Option RecordReadError). Denies (or_done refusal) e)
        (sym (refusal-append es l ns ms))
        (denied_before (first_refusal es l ns) (first_refusal es l ms) e
        (p.answer es (λ h. w (some_before ns ms h))));
    same = p.same;
    cause = record { later = p.cause.later; failed = p.cause.failed };
    named = λ h. p.named (no_names_before ns ms h);
  }

module _ {T U V : Type 0} (l m n f g k : ℕ) (O M N : List Entry → Type 0)
    (ns ms : List OutputFileName) (x : List Entry → T) (y : List Entry → U) (z : List Entry → V)
    (a : T) (p : Loads l m f g O M ns x (Ok a)) where
  known_then : (es : List Entry) → (0 < length (ns ++ ms) → O es) → 0 < length ms → M es
  known_then es w h = (p.same.entries es).0 (w (some_after ns ms h))

  first_done : (es : List Entry) → (0 < length (ns ++ ms) → O es)
      → (first_refusal es l ns ≡ None) × (a ≡ x es)
  first_done es w = p.answer es (λ h. w (some_before ns ms h))

  -- both were read
  pub loads_both : (b : U) (c : V) → ((es : List Entry) → a ≡ x es → b ≡ y es → c ≡ z es)
      → Loads m n g k M N ms y (Ok b) → Loads l n f k O N (ns ++ ms) z (Ok c)
  loads_both b c made q = record {
    answer = λ es w.
        let s = first_done es w in
        let t = subst (λ limit. LoadsAs (first_refusal es limit ms) (y es) (Ok b)) p.same.limit
        (q.answer es (known_then es w)) in (
          refusal-append es l ns ms
              ∙ none_after (first_refusal es l ns) (first_refusal es l ms) s.0 t.0,
          made es s.1 t.1,
        );
    same = keeps_on l m n O M N p.same q.same;
    cause = record {
      later = (let h = p.cause.later in let i = q.cause.later in omega arith);
      failed = tt;
    };
    named = λ h. tt;
  }

  -- the second failed
  pub loads_after : (e : RecordReadError) → Loads m n g k M N ms y (Err e)
      → Loads l n f k O N (ns ++ ms) z (Err e)
  loads_after e q = record {
    answer = λ es w.
        let s = first_done es w in
        let t = subst (λ limit. LoadsAs (first_refusal es limit ms) (y es) (Err e)) p.same.limit
        (q.answer es (known_then es w)) in
        subst (λ (refusal : Option RecordReadError). Denies (or_done refusal) e)
        (sym (refusal-append es l ns ms))
        (denied_after (first_refusal es l ns) (first_refusal es l ms) e s.0 t);
    same = keeps_on l m n O M N p.same q.same;
    cause = record {
      later = (let h = p.cause.later in let i = q.cause.later in omega arith);
      failed = caused_later f g k e p.cause.later q.cause.failed;
    };
    named = λ h. q.named (no_names_after ns ms h);
  }

-- memory ran out before anything was read
pub loads_short : {T : Type 0} (l f : ℕ) (O : List Entry → Type 0) (ns : List OutputFileName)
    (x : List Entry → T)
    → Loads l l f f O O ns x (Err OutOfMemory)
loads_short l f O ns x = record {
  answer = λ es w. tt;
  same = keeps_all l O;
  cause = record { later = omega arith; failed = tt };
  named = λ h. refl;
}

-- both were read, and then memory ran out
pub loads_wanting : {T U W : Type 0} (l m n f g k : ℕ) (O M N : List Entry → Type 0)
    (ns ms names : List OutputFileName) (x : List Entry → T) (y : List Entry → U)
    (z : List Entry → W) (a : T) (b : U)
    → Loads l m f g O M ns x (Ok a) → Loads m n g k M N ms y (Ok b)
    → Loads l n f k O N names z (Err OutOfMemory)
loads_wanting l m n f g k O M N ns ms names x y z a b p q = record {
  answer = λ es w. tt;
  same = keeps_on l m n O M N p.same q.same;
  cause = record {
    later = (let h = p.cause.later in let i = q.cause.later in omega arith);
    failed = tt;
  };
  named = λ h. refl;
}

-- ---- one output

-- what is read of a part is its content
content_read : (name path : List ℕ) (limit : ℕ) (o : Option (List ℕ)) (d : OutputDict) (b : List ℕ)
    → (found_within path limit o >>= of_kind name d) ≡ Ok b → o ≡ Some b
content_read name path limit None d b h = absurd cc
content_read name path limit (Some content) d b h = by (nat_lt limit (length content)) d h
  where
    by : (long : Bool) (d : OutputDict)
        → ((if long then Err (FileTooLarge path (length content) limit) else Ok content)
        >>= of_kind name d)
        ≡ Ok b
        → Some content ≡ Some b
    by true d h = absurd cc
    by false dict.None h = absurd cc
    by false dict.Stdout h = cc
    by false dict.Stderr h = cc

path_of_file : (name : OutputFileName) → output_path name ≡ path_of_output (file_name_text name)
unfolding output_path
path_of_file name = refl

bytes_read : (es : List Entry) (limit : ℕ) (name : OutputFileName) (b : List ℕ)
    → output_part (file_name_text name) es limit ≡ Ok b → b ≡ bytes_under es name
bytes_read es limit name b h =
    let text = file_name_text name in
    let found = content_read text (path_of_output text) limit (content_of es (path_of_output text))
    (dict_of_name text) b h in
    sym (ap (λ path. unwrap_or (content_of es path) []) (path_of_file name)
    ∙ ap (λ o. unwrap_or o []) found)

pub loads_name : (l m f g : ℕ) (O N : List Entry → Type 0) (name : OutputFileName) (b : List ℕ)
    → ((es : List Entry) → O es → output_part (file_name_text name) es l ≡ Ok b)
    → Keeps l m O N → f ≤ g → Loads l m f g O N (name ∷ []) (λ es. bytes_under es name) (Ok b)
loads_name l m f g O N name b read same later = record {
  answer =
      λ es w. let p = read es (w (omega arith)) in
      (ap (λ r. option_or (refusal_of r) None) p, bytes_read es l name b p);
  same = same;
  cause = record { later = later; failed = tt };
  named = λ h. tt;
}
