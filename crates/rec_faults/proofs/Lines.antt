-- A line that is written piece by piece.
use Rattle.std.proofs.Common.{◌≡◌, inl, inr, ℕ, List, [], ◌∷◌, ◌++◌, Bool, true, false}
use Rattle.std.proofs.Common.{Option, Result, Ok, Err, OnOk, OnErr, is_err, refl, sym}
use Rattle.std.proofs.Common.{ap, ◌∙◌, arith, subst, append_assoc, append-nil}
use Rattle.std.proofs.KnownBytes.{Appends-nil, Appends-trans}
use Rattle.std.specs.Bool.{⊤}
use Rattle.std.specs.Fmt.{decimal}
use Rattle.std.specs.Io.KnownBytes.{Appends}
use Rattle.rec_container.proofs.Parts.{took_part}
use Rattle.rec_container.specs.Causes.{HasCause}
use Rattle.rec_container.specs.declared.streams.SinkFailed.{SinkFailed}
use Rattle.rec_container.specs.Taking.{TookPart}
use Rattle.rec_format.specs.declared.incompatibility.Release.{Release}
use Rattle.rec_format.specs.Incompatibility.{release_text}
use Rattle.rec_format.specs.Versions.{version_text}
use Rattle.rec_faults.specs.WritingFaults.{Remains, Writes, WritesFault}

module _ {G : Type 0} (taken : G → Option (List ℕ)) (faults : G → ℕ) where
  -- of a line of which nothing is written, all of it is left
  all_remains : (g : G) (line : List ℕ) → Remains taken faults g line line false g
  all_remains g line =
      record { done = []; split = refl; appended = Appends-nil (taken g); later = omega arith }

  -- a line of which nothing is left was written, or a part of it
  nothing_remains : (fails : Bool) (old new : G) (line : List ℕ)
      → Remains taken faults old line [] fails new → WritesFault taken faults old new line
  nothing_remains false old new line w =
      inl (subst (Appends (taken old) (taken new)) (sym (w.split ∙ append-nil w.done)) w.appended)
  nothing_remains true old new line w = inr w

  -- what was written before a line feed is the line
  pub line_written : (before : List ℕ → List ℕ) (failed fails ended : Bool) (old mid new : G)
      → failed ≡ false → Writes taken faults before failed old fails mid
      → Writes taken faults (λ rest. 10 ∷ rest) fails mid ended new
      → WritesFault taken faults old new (before (10 ∷ []))
  line_written before true fails ended old mid new begun first last = absurd cc
  line_written before false fails ended old mid new begun first last =
      let line = before (10 ∷ []) in
      nothing_remains ended old new line (last.goes old line (10 ∷ []) [] refl
      (first.goes old line line (10 ∷ []) refl (all_remains old line)))

  -- a piece was written to the sink, or in part
  taken_or_part : (first old new : G) (line piece rest : List ℕ) (r : Result ⊤ SinkFailed)
      → Remains taken faults first line (piece ++ rest) false old
      → OnOk r (Appends (taken old) (taken new) piece)
      → OnErr r (TookPart (taken old) (taken new) piece) → HasCause (faults old) (faults new) r
      → Remains taken faults first line rest (is_err r) new
  taken_or_part first old new line piece rest (Ok x) w ok fault cause = record {
    done = w.done ++ piece;
    split = w.split ∙ sym (append_assoc w.done piece rest);
    appended = Appends-trans (taken first) (taken old) (taken new) w.done piece w.appended ok;
    later = let a = w.later in let b = cause.later in omega (arith, a, b);
  }
  taken_or_part first old new line piece rest (Err e) w ok fault cause = (
    (let a = w.later in let b = cause.failed in omega (arith, a, b)),
    took_part (taken first) (taken old) (taken new) w.done piece rest line w.appended fault w.split,
  )

  pub piece_written : (old new : G) (bytes piece : List ℕ) → bytes ≡ piece
      → (r : Result ⊤ SinkFailed) (failed fails : Bool) → failed ≡ false → fails ≡ is_err r
      → OnOk r (Appends (taken old) (taken new) bytes)
      → OnErr r (TookPart (taken old) (taken new) bytes) → HasCause (faults old) (faults new) r
      → Writes taken faults (λ rest. piece ++ rest) failed old fails new
  piece_written old new bytes piece same r true fails goes is ok fault cause = absurd cc
  piece_written old new bytes piece same r false fails goes is ok fault cause = record {
    goes = λ first line whole rest split w.
        subst (λ (b : Bool). Remains taken faults first line rest b new) (sym is)
        (taken_or_part first old new line bytes rest r
        (subst (λ (l : List ℕ). Remains taken faults first line l false old)
        (split ∙ ap (λ (l : List ℕ). l ++ rest) (sym same)) w) ok fault cause);
  }

module _ {G : Type 0} {taken : G → Option (List ℕ)} {faults : G → ℕ} where
  -- one after the other
  infixr 40 ◌▸◌
  pub ◌▸◌ : {p q : List ℕ → List ℕ} {failed fails ends : Bool} {old mid new : G}
      → Writes taken faults p failed old fails mid → Writes taken faults q fails mid ends new
      → Writes taken faults (λ rest. p (q rest)) failed old ends new
  ◌▸◌ {q = q} first second = record {
    goes =
        λ start line whole rest split w.
        second.goes start line (q rest) rest refl (first.goes start line whole (q rest) split w);
  }

  -- the same text, spelled otherwise
  pub spelled : {p : List ℕ → List ℕ} (q : List ℕ → List ℕ) {failed fails : Bool} {old new : G}
      → ((rest : List ℕ) → q rest ≡ p rest) → Writes taken faults p failed old fails new
      → Writes taken faults q failed old fails new
  spelled q same written = record {
    goes =
        λ start line whole rest split w. written.goes start line whole rest (split ∙ same rest) w;
  }

-- versions and releases, number by number
pub version_spelled : (major minor : ℕ) (rest : List ℕ)
    → version_text major minor ++ rest ≡ decimal major ++ (46 ∷ (decimal minor ++ rest))
version_spelled major minor rest = append_assoc (decimal major) (46 ∷ decimal minor) rest

pub release_spelled : (r : Release) (rest : List ℕ)
    → release_text r ++ rest
    ≡ decimal r.major ++ (46 ∷ (decimal r.minor ++ (46 ∷ (decimal r.patch ++ rest))))
release_spelled r rest =
    append_assoc (version_text r.major r.minor) (46 ∷ decimal r.patch) rest
    ∙ version_spelled r.major r.minor (46 ∷ (decimal r.patch ++ rest))
