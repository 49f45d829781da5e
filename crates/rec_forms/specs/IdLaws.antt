-- Run numbers and versions read back.
use Rattle.std.proofs.Common.{arith, sym, subst, inl}
use Rattle.std.proofs.lemmas.Bool.Decides.{nat_tests}
use Rattle.std.proofs.lemmas.Str.{IsUtf8-from_ascii, is_utf8-from_IsUtf8}
use Rattle.std.specs.List.{list_all}
use Rattle.std.specs.Prelude.{◌≡◌, ℕ, zero, suc, ◌+◌, ◌*◌, ◌<◌, List, [], ◌∷◌, take, drop}
use Rattle.std.specs.Prelude.{slice_index, Bool, true, false, if◌then◌else◌, Option, Some}
use Rattle.std.specs.Prelude.{None, IfSome, refl, Err, Ok, Result, length, ◌&&◌, ◌==◌}
use Rattle.std.specs.Result.{result_ok}
use Rattle.semver.specs.declared.error.Error.{Error}
use Rattle.semver.specs.Identifiers.{parts_text}
use Rattle.semver.specs.Parse.{Parts, version_parts}
use Rattle.serde_json.specs.Find.{as_str}
use Rattle.uuid.proofs.RoundTrips.{parses_hyphenated}
use Rattle.uuid.proofs.TextLemmas.{by_index_length, by_index_at, all_fit, hyphenated_ascii}
use Rattle.uuid.specs.Text.{by_index, lower, hyphenated_text, value_of, is_hex_digit}
use Rattle.uuid.specs.Text.{byte_of_digits, parsed_braced, parsed_urn, digits_of}
use Rattle.uuid.specs.Text.{has_hyphens, parsed, parsed_hyphenated, parsed_simple}
use Rattle.rec_events.specs.VersionLaws.{IsVersion-read}
use Rattle.rec_events.specs.Versions.{IsVersion}
use Rattle.rec_forms.specs.GivesWellFormed.{Holds, GivesWellFormed}
use Rattle.rec_forms.specs.Ids.{uuid_value, uuid_form, IsUuid, version_value, version_form}
use Rattle.rec_forms.specs.TextLaws.{IsText-parts_text}
use Rattle.rec_forms.specs.WellFormedLaws.{anything, and_then_holds}
use Rattle.rec_forms.specs.Writable.{IsWritable, string_writable}

pub uuid_back : (u : List ℕ) → IsUuid u → uuid_form (uuid_value u) ≡ Some u
unfolding uuid_form
uuid_back u h = sym (parses_hyphenated lower u (inl refl) h.size h.bytes)

pub uuid_writable : (u : List ℕ) → IsUuid u → IsWritable 0 (uuid_value u)
uuid_writable u h =
    string_writable (hyphenated_text lower u)
    (is_utf8-from_IsUtf8 _ (IsUtf8-from_ascii _ (hyphenated_ascii lower u (inl refl))))

pub version_back : (p : Parts) → IsVersion p → version_form (version_value p) ≡ Some p
unfolding version_form
version_back p h = rw h

pub version_writable : (p : Parts) → IsVersion p → IsWritable 0 (version_value p)
version_writable p h = string_writable (parts_text p) (IsText-parts_text p h)

-- what is refused wherever it is something is nothing
pub refused_none : {T : Type 0} (o : Option T) → (((x : T) × (o ≡ Some x)) → ⊥) → o ≡ None
refused_none None h = refl
refused_none (Some x) h = absurd (h (x, refl))

-- ---- what is read is well-formed

and_right : (a b : Bool) → (a && b) ≡ true → b ≡ true
and_right true b h = h
and_right false b h = cc h

version_in : (s : List ℕ) (r : Result Parts Error) → version_parts s ≡ r
    → Holds IsVersion (result_ok r)
version_in s (Ok p) e = record { is = IsVersion-read s p e }
version_in s (Err e) h = record { is = tt }

pub version_well_formed : GivesWellFormed IsVersion version_form
unfolding version_form
version_well_formed = record {
  each =
      λ d. and_then_holds (λ s. result_ok (version_parts s)) (as_str d) (anything (as_str d))
      (λ s _. version_in s (version_parts s) refl);
}

and_left : (a b : Bool) → (a && b) ≡ true → a ≡ true
and_left true b h = refl
and_left false b h = cc h

digit_small : (c : ℕ) → is_hex_digit c ≡ true → value_of c < 16
digit_small c h = grind (arith, nat_tests)

each_small : (hex : List ℕ) (i : ℕ) → list_all is_hex_digit hex ≡ true
    → value_of (slice_index hex i) < 16
each_small [] i h = omega arith
each_small (c ∷ cs) zero h = digit_small c (and_left (is_hex_digit c) (list_all is_hex_digit cs) h)
each_small (c ∷ cs) (suc i) h =
    each_small cs i (and_right (is_hex_digit c) (list_all is_hex_digit cs) h)

byte_small : (hex : List ℕ) → list_all is_hex_digit hex ≡ true → (k : ℕ) → k < 16
    → slice_index (by_index 16 (byte_of_digits hex)) k < 256
byte_small hex digits k within =
    rw (by_index_at 16 (byte_of_digits hex) k 0 within)
    (omega (arith, each_small hex (2 * k) digits, each_small hex (2 * k + 1) digits))

-- sixteen bytes that digits spell read back
bytes_well_formed : (hex : List ℕ) → list_all is_hex_digit hex ≡ true
    → IsUuid (by_index 16 (byte_of_digits hex))
bytes_well_formed hex digits =
    let bytes = by_index 16 (byte_of_digits hex) in
    let size : length bytes ≡ 16 = by_index_length 16 (byte_of_digits hex) in
    record {
      size = size;
      bytes = all_fit bytes (λ k within. byte_small hex digits k (omega (arith, size)));
    }

simple_well_formed : (hex : List ℕ) (b : Bool) → (b ≡ true → list_all is_hex_digit hex ≡ true)
    → Holds IsUuid (if b then Some (by_index 16 (byte_of_digits hex)) else None)
simple_well_formed hex true h = record { is = bytes_well_formed hex (h refl) }
simple_well_formed hex false h = record { is = tt }

if_well_formed : (b : Bool) (o p : Option (List ℕ)) → Holds IsUuid o → Holds IsUuid p
    → Holds IsUuid (if b then o else p)
if_well_formed true o p h k = h
if_well_formed false o p h k = k

nothing : Holds IsUuid None
nothing = record { is = tt }

spelled : (hex : List ℕ) → Holds IsUuid (parsed_simple hex)
spelled hex =
    simple_well_formed hex ((length hex == 32) && list_all is_hex_digit hex)
    (and_right (length hex == 32) (list_all is_hex_digit hex))

hyphenated : (s : List ℕ) → Holds IsUuid (parsed_hyphenated s)
hyphenated s =
    if_well_formed ((length s == 36) && has_hyphens s) (parsed_simple (digits_of s)) None
    (spelled (digits_of s)) nothing

braced : (s : List ℕ) → Holds IsUuid (parsed_braced s)
braced s =
    if_well_formed _ (parsed_hyphenated (take 36 (drop 1 s))) None (hyphenated (take 36 (drop 1 s)))
    nothing

urn : (s : List ℕ) → Holds IsUuid (parsed_urn s)
urn s = if_well_formed _ (parsed_hyphenated (drop 9 s)) None (hyphenated (drop 9 s)) nothing

uuid_in : (s : List ℕ) → Holds IsUuid (parsed s)
uuid_in s =
    if_well_formed (length s == 32) (parsed_simple s) _ (spelled s)
    (if_well_formed (length s == 36) (parsed_hyphenated s) _ (hyphenated s)
    (if_well_formed (length s == 38) (parsed_braced s) _ (braced s)
    (if_well_formed (length s == 45) (parsed_urn s) None (urn s) nothing)))

-- what a text is read as
pub IsUuid-parsed : (s u : List ℕ) → Some u ≡ parsed s → IsUuid u
IsUuid-parsed s u e = subst (λ o. IfSome o IsUuid) (sym e) (uuid_in s).is

pub uuid_well_formed : GivesWellFormed IsUuid uuid_form
unfolding uuid_form
uuid_well_formed =
    record { each = λ d. and_then_holds parsed (as_str d) (anything (as_str d)) (λ s _. uuid_in s) }
