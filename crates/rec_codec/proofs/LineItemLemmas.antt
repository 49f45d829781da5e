-- What the lines that are left give, beside what all of them did.
use Rattle.std.proofs.Common.{◌≡◌, ◌≤◌, length, Bool, true, false, List, [], ◌∷◌, Option}
use Rattle.std.proofs.Common.{Some, None, Result, Ok, Err, refl, sym, subst, arith}
use Rattle.std.specs.Prelude.{MatchBool}
use Rattle.serde_json.specs.Data.{Data}
use Rattle.rec_codec.specs.declared.line_events.LineError.TheVariants.{
  ReadRunLog,
  ParseEvent,
  OutOfMemory,
}
use Rattle.rec_codec.specs.declared.line_events.LineError.{LineError}
use Rattle.rec_codec.specs.LineEvents.{blank, AnswersEvent, Answers}
use Rattle.rec_codec.specs.LineItems.{left_after, GivesItem, GivesNext}
use Rattle.rec_codec.specs.Lines.{NumberedLine, text_of}

pub length-left_after : {T : Type 0} (r : Result T LineError) (rest : List NumberedLine)
    → length (left_after r rest) ≤ length rest
length-left_after (Ok x) rest = omega arith
length-left_after (Err (ReadRunLog n)) rest = omega arith
length-left_after (Err (ParseEvent n)) rest = omega arith
length-left_after (Err OutOfMemory) rest = omega arith

module _ {T : Type 0} (form : Data → Option T) where
  -- the rest gives what all give
  abbrev pub GivesSame : List NumberedLine → List NumberedLine → Type 0
  GivesSame rest all =
      (item : Option (Result T LineError)) (left : List NumberedLine)
      → GivesNext form rest item left → GivesNext form all item left

  pub same_past_blank : (line : NumberedLine) (old rest all : List NumberedLine)
      (answer : Option (Result T LineError))
      → GivesSame old all → old ≡ line ∷ rest
      → answer ≡ None → Answers form answer line.number (text_of line.bytes) → GivesSame rest all
  same_past_blank line old rest all answer same split none h item left gives =
      let A : Option (Result T LineError) → Type 0 =
      λ o. Answers form o line.number (text_of line.bytes) in
      let is_blank : blank (text_of line.bytes) ≡ true = subst A none h in
      let M : Bool → Type 0 =
      λ b. MatchBool b (GivesNext form rest item left) (GivesItem form line rest item left) in
      let whole : GivesNext form (line ∷ rest) item left = subst M (sym is_blank) gives in
      let N : List NumberedLine → Type 0 = λ ls. GivesNext form ls item left in
      same item left (subst N (sym split) whole)

  pub gives_item : (line : NumberedLine) (old rest all left : List NumberedLine)
      (answer : Option (Result T LineError)) (r : Result T LineError)
      → GivesSame old all → old ≡ line ∷ rest
      → answer ≡ Some r → Answers form answer line.number (text_of line.bytes)
      → left ≡ left_after r rest → GivesNext form all (Some r) left
  gives_item line old rest all left answer r same split item h after =
      let A : Option (Result T LineError) → Type 0 =
      λ o. Answers form o line.number (text_of line.bytes) in
      let answers : (blank (text_of line.bytes) ≡ false)
      × AnswersEvent form r line.number (text_of line.bytes) =
      subst A item h in
      let M : Bool → Type 0 = λ b.
      MatchBool b (GivesNext form rest (Some r) left) (GivesItem form line rest (Some r) left) in
      let whole : GivesNext form (line ∷ rest) (Some r) left =
      subst M (sym answers.0) (answers.1, after) in
      let N : List NumberedLine → Type 0 = λ ls. GivesNext form ls (Some r) left in
      same (Some r) left (subst N (sym split) whole)

  pub gives_none : (old all left : List NumberedLine) → GivesSame old all → old ≡ [] → left ≡ []
      → GivesNext form all None left
  gives_none old all left same empty none =
      let N : List NumberedLine → Type 0 = λ ls. GivesNext form ls None left in
      same None left (subst N (sym empty) (refl, none))
