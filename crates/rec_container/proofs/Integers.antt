-- Whole numbers of two and of eight bytes, the greatest byte first.
use Rattle.std.proofs.Common.{◌≡◌, ℕ, ◌^◌, ◌<◌, ◌≤◌, ltb, false, List, ◌++◌, length, take}
use Rattle.std.proofs.Common.{drop, Ok, refl, sym, ap, subst, ◌∙◌, append_assoc, arith}
use Rattle.std.proofs.lemmas.Bool.{ltb-false, le-ltb}
use Rattle.std.proofs.lemmas.List.{take_at, drop_at, take-append-drop, length-append, length-take}
use Rattle.std.proofs.lemmas.Nat.{be_bytes_2, be_bytes_8, from_be_bytes-to_be_bytes_2}
use Rattle.std.proofs.lemmas.Nat.{from_be_bytes-to_be_bytes_8}
use Rattle.std.specs.Int.{Width, w16, w64, byte_len, from_be_bytes, to_be_bytes}
use Rattle.rec_container.proofs.Octets.{AreOctets, AreOctets-take}
use Rattle.rec_container.proofs.Results.{unless_ok, Ok-injective}
use Rattle.rec_container.specs.declared.errors.ContainerError.TheVariants.{Truncated}
use Rattle.rec_container.specs.declared.errors.ContainerError.{ContainerError}
use Rattle.rec_container.specs.Reading.{number_at}

-- numbers below a limit and strings of so many bytes are each other's spelling
pub record Spells (w : Width) (limit : ℕ) : Type 0 where
  pub size : (n : ℕ) → length (to_be_bytes w n) ≡ byte_len w
  pub read : (n : ℕ) → n < limit → from_be_bytes w (to_be_bytes w n) ≡ n
  pub below : (bytes : List ℕ) → AreOctets bytes → from_be_bytes w bytes < limit
  pub written : (bytes : List ℕ) → length bytes ≡ byte_len w → AreOctets bytes
      → to_be_bytes w (from_be_bytes w bytes) ≡ bytes

pub two_bytes : Spells w16 (2 ^ 16)
two_bytes = record {
  size = λ n. refl;
  read = λ n small. from_be_bytes-to_be_bytes_2 n small;
  below = λ bytes octets. omega (arith, octets 0, octets 1);
  written = λ bytes size octets. be_bytes_2 bytes _ size octets refl;
}

pub eight_bytes : Spells w64 (2 ^ 64)
eight_bytes = record {
  size = λ n. refl;
  read = λ n small. from_be_bytes-to_be_bytes_8 n small;
  below =
      λ bytes octets.
      omega (arith, octets 0, octets 1, octets 2, octets 3, octets 4, octets 5, octets 6, octets 7);
  written = λ bytes size octets. be_bytes_8 bytes _ size octets refl;
}

module _ (w : Width) (limit : ℕ) (spells : Spells w limit) where
  -- a number that stands there is read
  pub number_at-spelled : (p n : ℕ) (rest : List ℕ) → n < limit
      → number_at w p (to_be_bytes w n ++ rest) ≡ Ok (n, rest)
  number_at-spelled p n rest small =
      let size = spells.size n in
      let whole : ltb (length (to_be_bytes w n ++ rest)) (byte_len w) ≡ false =
      le-ltb _ _ (omega (arith, length-append (to_be_bytes w n) rest)) in
      rw (
        whole,
        take_at (to_be_bytes w n) rest (byte_len w) size,
        drop_at (to_be_bytes w n) rest (byte_len w) size,
        spells.read n small,
      ) refl

  -- a number that is read stands there
  pub number_at-ok : (p : ℕ) (bytes : List ℕ) (n : ℕ) (rest : List ℕ) → AreOctets bytes
      → number_at w p bytes ≡ Ok (n, rest) → (bytes ≡ to_be_bytes w n ++ rest) × (n < limit)
  number_at-ok p bytes n rest octets e =
      let prefix = take (byte_len w) bytes in
      let found : ℕ × List ℕ = (from_be_bytes w prefix, drop (byte_len w) bytes) in
      let there =
      unless_ok (ltb (length bytes) (byte_len w)) (Truncated p) (Ok found) (n, rest) e in
      let same = Ok-injective ContainerError found (n, rest) there.1 in
      let size : length prefix ≡ byte_len w =
      omega (arith, length-take (byte_len w) bytes, ltb-false _ _ there.0) in
      let octets' = AreOctets-take (byte_len w) bytes octets in
      let spelled : bytes ≡ to_be_bytes w found.0 ++ found.1 =
      sym (take-append-drop (byte_len w) bytes)
      ∙ ap (λ l. l ++ drop (byte_len w) bytes) (sym (spells.written prefix size octets')) in
      subst (λ (q : ℕ × List ℕ). (bytes ≡ to_be_bytes w q.0 ++ q.1) × (q.0 < limit)) same
      (spelled, spells.below prefix octets')

  -- a text of this length, after it
  pub text_after : (bytes : List ℕ) (n : ℕ) (more : List ℕ) → bytes ≡ to_be_bytes w n ++ more
      → n ≤ length more
      → bytes ≡ (to_be_bytes w (length (take n more)) ++ take n more) ++ drop n more
  text_after bytes n more e long =
      let size : length (take n more) ≡ n = omega (arith, length-take n more) in
      e ∙ ap (λ l. to_be_bytes w n ++ l) (sym (take-append-drop n more))
      ∙ sym (append_assoc (to_be_bytes w n) (take n more) (drop n more))
      ∙ ap (λ k. (to_be_bytes w k ++ take n more) ++ drop n more) (sym size)
