-- The start of a file, read piece by piece.
use Rattle.std.proofs.Common.{◌≡◌, ℕ, ◌+◌, List, ◌++◌, length, take, drop, Option, Some}
use Rattle.std.proofs.Common.{None, Ok, sym, ap, subst, ◌∙◌, length-append, take-append-drop}
use Rattle.std.proofs.lemmas.List.{length-take-le}
use Rattle.std.proofs.Math.Seq.{take-append-add}
use Rattle.rec_disk.specs.Disks.{Files, ReadsAt, ReadsBytes}
use Rattle.rec_directory.specs.Files.{IsStart, IsStartOf}

start_of_more : (file : Option (List ℕ)) (bytes buf : List ℕ) (count : ℕ) → IsStartOf file bytes
    → ReadsBytes file (length bytes) (Ok count) buf → IsStartOf file (bytes ++ take count buf)
start_of_more None bytes buf count start reads = absurd reads
start_of_more (Some content) bytes buf count start reads =
    let n = length bytes in
    let rest = drop n content in
    let piece : take count buf ≡ take count rest = reads.1 in
    let long : length (take count buf) ≡ count =
    ap length piece ∙ length-take-le count rest reads.0 in
    let length : length (bytes ++ take count buf) ≡ n + count =
    length-append bytes (take count buf) ∙ ap (λ k. n + k) long in
    let whole : bytes ++ rest ≡ content = ap (λ b. b ++ rest) start ∙ take-append-drop n content in
    ap (λ b. bytes ++ b) piece ∙ sym (take-append-add bytes rest count)
    ∙ ap (take (n + count)) whole ∙ ap (λ k. take k content) (sym length)

-- a piece more was read of it
pub start_more : (files now : Option Files) (path bytes buf more : List ℕ) (count : ℕ)
    → IsStart files path bytes → now ≡ files → ReadsAt now path (length bytes) (Ok count) buf
    → more ≡ bytes ++ take count buf → IsStart files path more
start_more files now path bytes buf more count start same reads is =
    subst (IsStart files path) (sym is) (known files start
    (subst (λ (fs : Option Files). ReadsAt fs path (length bytes) (Ok count) buf) same reads))
  where
    known : (fs : Option Files) → IsStart fs path bytes
        → ReadsAt fs path (length bytes) (Ok count) buf → IsStart fs path (bytes ++ take count buf)
    known None s r = tt
    known (Some fs) s r = start_of_more (fs path) bytes buf count s r
