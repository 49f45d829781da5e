-- Files that are put on a disk piece by piece, and then renamed.
use Rattle.std.proofs.Common.{◌≡◌, ℕ, ◌+◌, ◌-◌, ◌≤◌, Bool, true, false, cond, List, ◌++◌}
use Rattle.std.proofs.Common.{length, take, drop, Option, Some, None, Result, Ok, Err}
use Rattle.std.proofs.Common.{refl, sym, ap, subst, ◌∙◌, inr, arith, take-append-drop}
use Rattle.std.proofs.lemmas.List.{length-take-le, length-drop, take_all}
use Rattle.std.proofs.lemmas.Slice.Eq.{bytes_eq-Decides}
use Rattle.std.proofs.Math.Seq.{take-append-add}
use Rattle.std.specs.Str.{bytes_eq}
use Rattle.rec_disk.specs.declared.disk.DiskError.{DiskError}
use Rattle.rec_disk.specs.Disks.{AppendsBytes, AppendsTo, AreSame, BothKnown}
use Rattle.rec_disk.specs.Disks.{Files, RenamesFile, Renames, renamed}
use Rattle.rec_portable_writer.specs.Replacing.{IsPut, Replaces, ReplacesFile, Writes}

-- what stands at the path
pub put_there : (fs gs : Files) (path content : List ℕ) → IsPut fs gs path content
    → gs path ≡ Some content
put_there fs gs path content put =
    put path ∙ ap (λ b. cond b (Some content) (fs path)) ((bytes_eq-Decides path path).1 refl)

-- another content is put in its place
put_again : (fs gs hs : Files) (path a b : List ℕ) → IsPut fs gs path a → IsPut gs hs path b
    → IsPut fs hs path b
put_again fs gs hs path a b first second p = second p ∙ by (bytes_eq p path) (first p)
  where
    by : (t : Bool) → gs p ≡ cond t (Some a) (fs p)
        → cond t (Some b) (gs p) ≡ cond t (Some b) (fs p)
    by true h = refl
    by false h = h

joined_pieces : (bytes : List ℕ) (at count : ℕ) → at ≤ length bytes
    → take at bytes ++ take count (take (length bytes - at) (drop at bytes))
    ≡ take (at + count) bytes
joined_pieces bytes at count within =
    let start = take at bytes in
    let rest = drop at bytes in
    let all : take (length bytes - at) rest ≡ rest =
    take_all (length bytes - at) rest (omega (arith, length-drop at bytes)) in
    let long : length start ≡ at = length-take-le at bytes within in
    ap (λ b. start ++ take count b) all ∙ sym (take-append-add start rest count)
    ∙ ap (λ k. take (k + count) (start ++ rest)) long
    ∙ ap (take (at + count)) (take-append-drop at bytes)

put_piece : (fs gs hs : Files) (path bytes : List ℕ) (at count : ℕ) → at ≤ length bytes
    → IsPut fs gs path (take at bytes)
    → AppendsBytes gs hs path (gs path) (take (length bytes - at) (drop at bytes)) (Ok count)
    → IsPut fs hs path (take (at + count) bytes)
put_piece fs gs hs path bytes at count within put appends =
    let piece = take (length bytes - at) (drop at bytes) in
    let more : IsPut gs hs path (take at bytes ++ take count piece) =
    subst (λ (f : Option (List ℕ)). AppendsBytes gs hs path f piece (Ok count))
    (put_there fs gs path (take at bytes) put) appends in
    put_again fs gs hs path (take at bytes) (take (at + count) bytes) put
    (subst (IsPut gs hs path) (joined_pieces bytes at count within) more)

pub put_more : (old mid new : Option Files) (path bytes : List ℕ) (at count : ℕ) → at ≤ length bytes
    → BothKnown old mid (λ fs gs. IsPut fs gs path (take at bytes))
    → AppendsTo mid new path (take (length bytes - at) (drop at bytes)) (Ok count)
    → BothKnown old new (λ fs gs. IsPut fs gs path (take (at + count) bytes))
put_more None mid new path bytes at count within none appends =
    subst (λ (o : Option Files).
    AppendsTo o new path (take (length bytes - at) (drop at bytes)) (Ok count))
    none appends
put_more (Some fs) None new path bytes at count within put appends = absurd put
put_more (Some fs) (Some gs) None path bytes at count within put appends = absurd appends
put_more (Some fs) (Some gs) (Some hs) path bytes at count within put appends =
    put_piece fs gs hs path bytes at count within put appends

-- ---- the file takes the place of another

renamed_put : (fs gs hs : Files) (temporary path content : List ℕ) → IsPut fs gs temporary content
    → AreSame (renamed gs temporary path (Some content)) hs
    → AreSame (renamed fs temporary path (Some content)) hs
renamed_put fs gs hs temporary path content put same p =
    same p ∙ ap (cond (bytes_eq p path) (Some content)) (by (bytes_eq p temporary) (put p))
  where
    by : (t : Bool) → gs p ≡ cond t (Some content) (fs p) → cond t None (gs p) ≡ cond t None (fs p)
    by true h = refl
    by false h = h

put_same : (fs gs hs : Files) (path content : List ℕ) → IsPut fs gs path content → AreSame gs hs
    → IsPut fs hs path content
put_same fs gs hs path content put same p = same p ∙ put p

replaced : (fs gs hs : Files) (temporary path content : List ℕ) (r : Result (Unit {0}) DiskError)
    → IsPut fs gs temporary content → RenamesFile gs hs temporary path (gs temporary) r
    → ReplacesFile fs hs temporary path content r
replaced fs gs hs temporary path content r put renames =
    by r (subst (λ (f : Option (List ℕ)). RenamesFile gs hs temporary path f r)
    (put_there fs gs temporary content put) renames)
  where
    by : (r : Result (Unit {0}) DiskError) → RenamesFile gs hs temporary path (Some content) r
        → ReplacesFile fs hs temporary path content r
    by (Ok x) h = renamed_put fs gs hs temporary path content put h
    by (Err e) h = (
      h.0,
      inr (
        length content,
        subst (IsPut fs hs temporary) (sym (take_all (length content) content (omega arith)))
            (put_same fs gs hs temporary content put h.1),
      ),
    )

pub replaces : (old mid new : Option Files) (temporary path content : List ℕ) (w : Unit {0})
    (r : Result (Unit {0}) DiskError)
    → Writes old mid temporary content (Ok w) → Renames mid new temporary path r
    → Replaces old new temporary path content r
replaces None mid new temporary path content w r none renames =
    subst (λ (o : Option Files). Renames o new temporary path r) none renames
replaces (Some fs) None new temporary path content w r put renames = absurd put
replaces (Some fs) (Some gs) None temporary path content w r put renames = absurd renames
replaces (Some fs) (Some gs) (Some hs) temporary path content w r put renames =
    replaced fs gs hs temporary path content r put renames
