-- The fields of a container: each is read where it is spelled, and only there.
use Rattle.std.proofs.Common.{◌≡◌, ℕ, suc, ◌+◌, ◌^◌, ◌<◌, ◌≤◌, Bool, true, false, cond, ltb}
use Rattle.std.proofs.Common.{nat_eq, List, [], ◌∷◌, ◌++◌, length, take, drop, Option, Some, None}
use Rattle.std.proofs.Common.{Ok, Err, refl, sym, ap, subst, ◌∙◌, append_assoc, arith, is_some}
use Rattle.std.proofs.lemmas.Bool.Decides.{nat_tests}
use Rattle.std.proofs.lemmas.Bool.{ltb-false, le-ltb}
use Rattle.std.proofs.lemmas.List.{take_at, drop_at, length-append, length-take}
use Rattle.std.proofs.lemmas.Str.{IsUtf8-from_is_utf8, is_utf8-from_IsUtf8}
use Rattle.std.specs.Int.{w16, w64, to_be_bytes}
use Rattle.std.specs.Str.{is_utf8}
use Rattle.rec_container.proofs.Integers.{two_bytes, eight_bytes, number_at-spelled}
use Rattle.rec_container.proofs.Integers.{number_at-ok, text_after}
use Rattle.rec_container.proofs.Octets.{AreOctets, AreOctets-after}
use Rattle.rec_container.proofs.Results.{then_ok, unless_ok, if_ok, Ok-injective}
use Rattle.rec_container.specs.Container.{Entry, IsName, entry, entry_head, content_of, IsEntry}
use Rattle.rec_container.specs.declared.errors.ContainerError.TheVariants.{Truncated, BadName}
use Rattle.rec_container.specs.declared.errors.ContainerError.TheVariants.{BadTag, DuplicateName}
use Rattle.rec_container.specs.declared.errors.ContainerError.{ContainerError}
use Rattle.rec_container.specs.Reading.{◌>>=◌, name_from, name_at, content_from}
use Rattle.rec_container.specs.Reading.{content_at, with_name, entry_from, entry_at}
use Rattle.rec_container.specs.Reading.{some_entry, end_at, step_at, number_at}

-- what is after the tag of an entry
abbrev pub entry_fields : Entry → List ℕ
entry_fields e =
    to_be_bytes w16 (length e.name) ++ e.name ++ to_be_bytes w64 (length e.content) ++ e.content

pub entry-tagged : (e : Entry) → entry e ≡ 1 ∷ entry_fields e
unfolding entry_head
entry-tagged e = refl

-- ---- what is spelled is read

above_zero : (n : ℕ) → 0 < n → nat_eq n 0 ≡ false
above_zero n h = grind (arith, nat_tests)

name_at-spelled : (p : ℕ) (name rest : List ℕ) → IsName name
    → name_at p (to_be_bytes w16 (length name) ++ (name ++ rest)) ≡ Ok (name, rest)
unfolding name_at
name_at-spelled p name rest is =
    let some = above_zero (length name) is.some in
    let whole : ltb (length (name ++ rest)) (length name) ≡ false =
    le-ltb _ _ (omega (arith, length-append name rest)) in
    let cut = take_at name rest (length name) refl in
    let text : is_utf8 (take (length name) (name ++ rest)) ≡ true =
    ap is_utf8 cut ∙ is_utf8-from_IsUtf8 name is.text in
    ap (λ r. r >>= name_from p)
    (number_at-spelled w16 (2 ^ 16) two_bytes p (length name) (name ++ rest) is.short)
    ∙ rw (some, whole, text, cut, drop_at name rest (length name) refl) refl

content_at-spelled : (p : ℕ) (content rest : List ℕ) → length content < 2 ^ 64
    → content_at p (to_be_bytes w64 (length content) ++ (content ++ rest)) ≡ Ok (content, rest)
unfolding content_at
content_at-spelled p content rest short =
    let whole : ltb (length (content ++ rest)) (length content) ≡ false =
    le-ltb _ _ (omega (arith, length-append content rest)) in
    ap (λ r. r >>= content_from p)
    (number_at-spelled w64 (2 ^ 64) eight_bytes p (length content) (content ++ rest) short)
    ∙ rw (
      whole,
      take_at content rest (length content) refl,
      drop_at content rest (length content) refl,
    ) refl

entry_at-spelled : (p : ℕ) (seen : List Entry) (e : Entry) (rest : List ℕ) → IsEntry e
    → content_of seen e.name ≡ None → entry_at p seen (entry_fields e ++ rest) ≡ Ok (e, rest)
unfolding entry_at
entry_at-spelled p seen e rest is new =
    let after = to_be_bytes w64 (length e.content) ++ (e.content ++ rest) in
    let place = p + 2 + length e.name in
    let fields : entry_fields e ++ rest ≡ to_be_bytes w16 (length e.name) ++ (e.name ++ after) =
    simp append_assoc in
    ap (λ b. name_at p b >>= entry_from p seen) fields
    ∙ ap (λ r. r >>= entry_from p seen) (name_at-spelled p e.name after is.name)
    ∙ ap (λ o.
    cond (is_some o) (Err (DuplicateName (p + 2))) (content_at place after >>= with_name e.name))
    new
    ∙ ap (λ r. r >>= with_name e.name) (content_at-spelled place e.content rest is.content)

pub step_at-spelled : (p : ℕ) (seen : List Entry) (e : Entry) (rest : List ℕ) → IsEntry e
    → content_of seen e.name ≡ None → step_at p seen (entry e ++ rest) ≡ Ok (Some (e, rest))
unfolding step_at
step_at-spelled p seen e rest is new =
    ap (λ b. step_at p seen (b ++ rest)) (entry-tagged e)
    ∙ ap (λ r. r >>= some_entry) (entry_at-spelled (p + 1) seen e rest is new)

-- ---- what is read is spelled

from_zero : (n : ℕ) → nat_eq n 0 ≡ false → 0 < n
from_zero n h = grind (arith, nat_tests)

name_at-ok : (p : ℕ) (bytes name rest : List ℕ) → AreOctets bytes
    → name_at p bytes ≡ Ok (name, rest)
    → (bytes ≡ (to_be_bytes w16 (length name) ++ name) ++ rest) × IsName name
unfolding name_at
name_at-ok p bytes name rest octets e =
    let size = then_ok (number_at w16 p bytes) (name_from p) (name, rest) e in
    let n = size.0.0 in
    let more = size.0.1 in
    let found : List ℕ × List ℕ = (take n more, drop n more) in
    let judged = cond (is_utf8 (take n more)) (Ok found) (Err (BadName (p + 2))) in
    let some = unless_ok (nat_eq n 0) (BadName p)
    (cond (ltb (length more) n) (Err (Truncated (p + 2))) judged) (name, rest) size.2 in
    let whole = unless_ok (ltb (length more) n) (Truncated (p + 2)) judged (name, rest) some.1 in
    let text = if_ok (is_utf8 (take n more)) (BadName (p + 2)) found (name, rest) whole.1 in
    let number = number_at-ok w16 (2 ^ 16) two_bytes p bytes n more octets size.1 in
    let long : n ≤ length more = ltb-false _ _ whole.0 in
    let count : length (take n more) ≡ n = omega (arith, length-take n more, long) in
    let is : IsName (take n more) = record {
      some = omega (arith, count, from_zero n some.0);
      short = omega (arith, count, number.1);
      text = IsUtf8-from_is_utf8 (take n more) text.0;
    } in
    subst
    (λ (q : List ℕ × List ℕ). (bytes ≡ (to_be_bytes w16 (length q.0) ++ q.0) ++ q.1) × IsName q.0)
    text.1 (text_after w16 (2 ^ 16) two_bytes bytes n more number.0 long, is)

content_at-ok : (p : ℕ) (bytes content rest : List ℕ) → AreOctets bytes
    → content_at p bytes ≡ Ok (content, rest)
    → (bytes ≡ (to_be_bytes w64 (length content) ++ content) ++ rest) × (length content < 2 ^ 64)
unfolding content_at
content_at-ok p bytes content rest octets e =
    let size = then_ok (number_at w64 p bytes) (content_from p) (content, rest) e in
    let n = size.0.0 in
    let more = size.0.1 in
    let found : List ℕ × List ℕ = (take n more, drop n more) in
    let whole =
    unless_ok (ltb (length more) n) (Truncated (p + 8)) (Ok found) (content, rest) size.2 in
    let number = number_at-ok w64 (2 ^ 64) eight_bytes p bytes n more octets size.1 in
    let long : n ≤ length more = ltb-false _ _ whole.0 in
    let short : length (take n more) < 2 ^ 64 = omega (arith, number.1, length-take n more) in
    subst (λ (q : List ℕ × List ℕ). (bytes ≡ (to_be_bytes w64 (length q.0) ++ q.0) ++ q.1)
    × (length q.0 < 2 ^ 64))
    (Ok-injective ContainerError found (content, rest) whole.1)
    (text_after w64 (2 ^ 64) eight_bytes bytes n more number.0 long, short)

-- an entry that was read: its bytes begin the ones that it was read from, and its name is new
pub record IsNext (seen : List Entry) (bytes text : List ℕ) (e : Entry)
    (rest : List ℕ) : Type 0 where
  pub spelled : bytes ≡ text ++ rest
  pub is : IsEntry e
  pub new : content_of seen e.name ≡ None

nothing : (o : Option (List ℕ)) → is_some o ≡ false → o ≡ None
nothing None h = refl
nothing (Some x) h = absurd cc

-- the fields of an entry, one after the other
entry_fields-joined : (bytes name more content after : List ℕ)
    → bytes ≡ (to_be_bytes w16 (length name) ++ name) ++ more
    → more ≡ (to_be_bytes w64 (length content) ++ content) ++ after
    → bytes ≡ entry_fields (record { name = name; content = content }) ++ after
entry_fields-joined bytes name more content after first second =
    let head = to_be_bytes w16 (length name) ++ name in
    let size = to_be_bytes w64 (length content) in
    first ∙ ap (λ l. head ++ l) second ∙ sym (append_assoc head (size ++ content) after)
    ∙ ap (λ l. l ++ after) (sym (append_assoc head size content))

entry_at-ok : (p : ℕ) (seen : List Entry) (bytes : List ℕ) (e : Entry) (rest : List ℕ)
    → AreOctets bytes → entry_at p seen bytes ≡ Ok (e, rest)
    → IsNext seen bytes (entry_fields e) e rest
unfolding entry_at
entry_at-ok p seen bytes e rest octets h =
    let first = then_ok (name_at p bytes) (entry_from p seen) (e, rest) h in
    let name = first.0.0 in
    let more = first.0.1 in
    let place = p + 2 + length name in
    let fresh = unless_ok (is_some (content_of seen name)) (DuplicateName (p + 2))
    (content_at place more >>= with_name name) (e, rest) first.2 in
    let second = then_ok (content_at place more) (with_name name) (e, rest) fresh.1 in
    let content = second.0.0 in
    let after = second.0.1 in
    let n = name_at-ok p bytes name more octets first.1 in
    let c = content_at-ok place more content after
    (AreOctets-after bytes (to_be_bytes w16 (length name) ++ name) more n.0 octets) second.1 in
    let made : Entry = record { name = name; content = content } in
    let spelled : bytes ≡ entry_fields made ++ after =
    entry_fields-joined bytes name more content after n.0 c.0 in
    let found : IsNext seen bytes (entry_fields made) made after = record {
      spelled = spelled;
      is = record { name = n.1; content = c.1 };
      new = nothing _ fresh.0;
    } in
    subst (λ (x : Entry × List ℕ). IsNext seen bytes (entry_fields x.0) x.0 x.1)
    (Ok-injective ContainerError (made, after) (e, rest) second.2) found

tag_is_one : (n : ℕ) → nat_eq n 1 ≡ true → n ≡ 1
tag_is_one n h = grind (arith, nat_tests)

tag_is_zero : (n : ℕ) → nat_eq n 0 ≡ true → n ≡ 0
tag_is_zero n h = grind (arith, nat_tests)

end_at-ok : (p : ℕ) (bytes : List ℕ) (o : Option (Entry × List ℕ)) → end_at p bytes ≡ Ok o
    → (None ≡ o) × (bytes ≡ [])
end_at-ok p [] o h = (Ok-injective ContainerError None o h, refl)
end_at-ok p (b ∷ bytes) o h = absurd cc

Some-injective : (x y : Entry × List ℕ) → some_entry x ≡ some_entry y → x ≡ y
Some-injective x y e = cc

-- an entry was there
pub step_at-some : (p : ℕ) (seen : List Entry) (bytes : List ℕ) (e : Entry) (rest : List ℕ)
    → AreOctets bytes → step_at p seen bytes ≡ Ok (Some (e, rest))
    → IsNext seen bytes (entry e) e rest
unfolding step_at
step_at-some p seen [] e rest octets h = absurd cc
step_at-some p seen (tag ∷ bytes) e rest octets h = by (nat_eq tag 0) (nat_eq tag 1) refl h
  where
    by : (zero one : Bool) → nat_eq tag 1 ≡ one
        → cond zero (end_at (p + 1) bytes)
        (cond one (entry_at (p + 1) seen bytes >>= some_entry) (Err (BadTag p)))
        ≡ Ok (Some (e, rest))
        → IsNext seen (tag ∷ bytes) (entry e) e rest
    by true one is h = absurd (let w = (end_at-ok (p + 1) bytes (Some (e, rest)) h).0 in cc)
    by false false is h = absurd cc
    by false true is h =
        let found = then_ok (entry_at (p + 1) seen bytes) some_entry (Some (e, rest)) h in
        let same : found.0 ≡ (e, rest) = Some-injective found.0 (e, rest) found.2 in
        let next = entry_at-ok (p + 1) seen bytes e rest (λ i. octets (suc i))
        (found.1 ∙ ap (λ x. Ok x) same) in
        record {
          spelled =
              ap (λ t. t ∷ bytes) (tag_is_one tag is) ∙ ap (λ l. 1 ∷ l) next.spelled
              ∙ ap (λ l. l ++ rest) (sym (entry-tagged e));
          is = next.is;
          new = next.new;
        }

-- the end mark was there, and nothing after it
pub step_at-none : (p : ℕ) (seen : List Entry) (bytes : List ℕ) → step_at p seen bytes ≡ Ok None
    → bytes ≡ 0 ∷ []
unfolding step_at
step_at-none p seen [] h = absurd cc
step_at-none p seen (tag ∷ bytes) h = by (nat_eq tag 0) (nat_eq tag 1) refl h
  where
    by : (zero one : Bool) → nat_eq tag 0 ≡ zero
        → cond zero (end_at (p + 1) bytes)
        (cond one (entry_at (p + 1) seen bytes >>= some_entry) (Err (BadTag p)))
        ≡ Ok None
        → tag ∷ bytes ≡ 0 ∷ []
    by true one is h =
        ap (λ t. t ∷ bytes) (tag_is_zero tag is)
        ∙ ap (λ l. 0 ∷ l) (end_at-ok (p + 1) bytes None h).1
    by false false is h = absurd cc
    by false true is h =
        absurd (let w = (then_ok (entry_at (p + 1) seen bytes) some_entry None h).2 in cc)

-- what is stepped over is determined
pub step_at-same : (x y : Entry × List ℕ) (p : ℕ) (seen : List Entry) (bytes : List ℕ)
    → step_at p seen bytes ≡ Ok (Some x) → step_at p seen bytes ≡ Ok (Some y) → x ≡ y
step_at-same x y p seen bytes h k = Some-injective x y (sym h ∙ k)
