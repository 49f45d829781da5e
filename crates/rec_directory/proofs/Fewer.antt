-- How many items are left.
use Rattle.std.proofs.Common.{zero, suc, ◌≡◌, ℕ, ◌+◌, ◌<◌, ◌≤◌, ◌==◌, Bool}
use Rattle.std.proofs.Common.{true, false, cond, List, [], ◌∷◌, length, Option}
use Rattle.std.proofs.Common.{Some, None, Result, refl, sym, ap, subst, arith}
use Rattle.std.specs.List.{onto_first}
use Rattle.std.specs.Prelude.{MatchBool, OnSome}
use Rattle.serde_json.specs.Data.{Data}
use Rattle.rec_disk.specs.Disks.{Files}
use Rattle.rec_codec.proofs.LineItemLemmas.{length-left_after}
use Rattle.rec_codec.specs.declared.line_events.LineError.{LineError}
use Rattle.rec_codec.specs.LineEvents.{blank}
use Rattle.rec_codec.specs.LineItems.{GivesItem, GivesNext}
use Rattle.rec_codec.specs.Lines.{NumberedLine, lines, numbered, text_of}
use Rattle.rec_store.specs.declared.read_error.RecordReadError.{RecordReadError}
use Rattle.rec_directory.specs.Events.{GivesLifted, ReadsLog, lifted}

length-onto_first : (c : ℕ) (ls : List (List ℕ)) (n : ℕ) → length ls ≤ n
    → length (onto_first c ls) ≤ suc n
length-onto_first c [] n h = omega arith
length-onto_first c (l ∷ ls) n h = omega (arith, h)

by_newline : (b : Bool) (c : ℕ) (ls : List (List ℕ)) (n : ℕ) → length ls ≤ n
    → length (cond b ([] ∷ ls) (onto_first c ls)) ≤ suc n
by_newline true c ls n h = omega (arith, h)
by_newline false c ls n h = length-onto_first c ls n h

pub length-lines : (b : List ℕ) → length (lines b) ≤ length b
length-lines [] = omega arith
length-lines (c ∷ bs) = by_newline (c == 10) c (lines bs) (length bs) (length-lines bs)

pub length-numbered : (n : ℕ) (ls : List (List ℕ)) → length (numbered n ls) ≡ length ls
length-numbered n [] = refl
length-numbered n (l ∷ ls) = ap suc (length-numbered (n + 1) ls)

module _ {T : Type 0} (form : Data → Option T) where
  fewer_item : (line : NumberedLine) (rest : List NumberedLine) (item : Option (Result T LineError))
      (left : List NumberedLine)
      → GivesItem form line rest item left → length left < suc (length rest)
  fewer_item line rest None left h = absurd h
  fewer_item line rest (Some r) left h = omega (arith, ap length h.1, length-left_after r rest)

  by_blank : (b : Bool) (line : NumberedLine) (rest : List NumberedLine)
      (item : Option (Result T LineError)) (left : List NumberedLine)
      → (GivesNext form rest item left → OnSome item (length left < length rest))
      → MatchBool b (GivesNext form rest item left) (GivesItem form line rest item left)
      → OnSome item (length left < suc (length rest))
  by_blank true line rest None left later h = tt
  by_blank true line rest (Some r) left later h = omega (arith, later h)
  by_blank false line rest None left later h = tt
  by_blank false line rest (Some r) left later h = fewer_item line rest (Some r) left h

  pub fewer_next : (ls : List NumberedLine) (item : Option (Result T LineError))
      (left : List NumberedLine)
      → GivesNext form ls item left → OnSome item (length left < length ls)
  fewer_next [] item left h =
      subst (λ (o : Option (Result T LineError)). OnSome o (length left < zero)) (sym h.0) tt
  fewer_next (line ∷ rest) item left h =
      by_blank (blank (text_of line.bytes)) line rest item left (λ g. fewer_next rest item left g) h

  lifted_some : (told : Option (Result T LineError)) (P : Type 0) → OnSome told P
      → OnSome (lifted told) P
  lifted_some None P h = tt
  lifted_some (Some r) P h = h

  pub fewer_lifted : (ls : List NumberedLine) (item : Option (Result T RecordReadError))
      (left : List NumberedLine)
      → GivesLifted form ls item left → OnSome item (length left < length ls)
  fewer_lifted ls item left h =
      subst (λ (o : Option (Result T RecordReadError)). OnSome o (length left < length ls))
      (sym h.2) (lifted_some h.0 (length left < length ls) (fewer_next ls h.0 left h.1))

  weaker : (item : Option (Result T RecordReadError)) (P Q : Type 0) → (P → Q) → OnSome item P
      → OnSome item Q
  weaker None P Q f h = tt
  weaker (Some r) P Q f h = f h

  pub fewer_first : (files : Option Files) (path : List ℕ) (len : ℕ) (bytes : List ℕ)
      (item : Option (Result T RecordReadError)) (left : List NumberedLine)
      → ReadsLog files path len bytes → GivesLifted form (numbered 1 (lines bytes)) item left
      → OnSome item (length left < len + 1)
  fewer_first files path len bytes item left r h =
      weaker item (length left < length (numbered 1 (lines bytes))) (length left < len + 1)
      (λ f. omega (arith, f, length-numbered 1 (lines bytes), length-lines bytes, r.within))
      (fewer_lifted (numbered 1 (lines bytes)) item left h)
