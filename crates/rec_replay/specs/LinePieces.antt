-- What is put at the end of a line.
use Rattle.std.specs.Prelude.{◌≡◌, ℕ, false, List, ◌++◌, codes}
use Rattle.rec_events.specs.declared.live_events.TestEventKind.{TestEventKind}
use Rattle.rec_events.specs.Times.{Moment}
use Rattle.rec_replay.specs.declared.lines.Line.{Line}
use Rattle.rec_replay.specs.Lines.{outputs_text, stamp_text, subject_text}

-- Where memory has not run out after this text, it had not before it;
-- then the text stands at the end.
pub record Puts (old new : Line) (text : List ℕ) : Type 0 where
  pub goes : new.is_failed ≡ false → old.is_failed ≡ false
  pub written : new.is_failed ≡ false → new.text.items ≡ old.text.items ++ text

-- what is said of an event of this name
abbrev pub named_line : Moment → TestEventKind → List ℕ → List ℕ
named_line time kind name =
    stamp_text time ++ codes " " ++ name ++ subject_text kind ++ outputs_text kind ++ codes "\n"
