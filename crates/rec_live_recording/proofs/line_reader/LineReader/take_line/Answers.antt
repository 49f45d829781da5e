use Rattle.std.proofs.Common.{◌≡◌, ◌+◌, ◌-◌, ◌==◌, ◌∷◌, ◌++◌, List, take, drop}
use Rattle.std.proofs.Common.{length, ap, sym, ◌∙◌, subst, arith}
use Rattle.std.proofs.lemmas.List.{drop_all, drop-drop}
use Rattle.std.specs.List.{position}
use Rattle.rec_live_recording.proofs.line_reader.LineReader.take_line.Goals as goal
use Rattle.rec_live_recording.proofs.LinesRead.{parted, slice_from, unparted}
use Rattle.rec_live_recording.specs.LineReading.{IsPart, LineReading}

pub returns-in_ok-extend_from_slice-in-Some-clause-ok :
    goal.returns-in_ok-extend_from_slice-in-Some-clause-ok
returns-in_ok-extend_from_slice-in-Some-clause-ok g c =
    let held = c.self.inside in
    let end = c.in-Some.end in
    let ahead = drop held.at held.piece.items in
    let slice : take (length c.deref.result.now - held.at) (drop held.at c.deref.result.now)
    ≡ ahead =
    slice_from c.deref.result.now held.at
    ∙ ap (λ (l : List _). drop held.at l) c.deref.ensures.value in
    let cut = parted ahead end
    (ap (position (λ b. b == 10)) (sym slice) ∙ sym c.in-Some.ensures) in
    let seen = c.self.view_is in
    let line = c.in_ok-extend_from_slice-in-Some.ensures.items in (
      take end ahead,
      cut.0,
      sym (ap (λ (r : LineReading _). r.ahead) seen) ∙ cut.1
          ∙ ap (λ l. take end ahead ++ 10 ∷ l) (drop-drop (end + 1) held.at held.piece.items),
      line ∙ ap (λ (l : List _). held.line.items ++ take end l) slice
          ∙ ap (λ (r : LineReading _). r.line ++ take end ahead) seen,
      ap (λ (r : LineReading _). r.number + 1) seen,
    )

pub returns-in_ok-extend_from_slice-in-None-clause-ok :
    goal.returns-in_ok-extend_from_slice-in-None-clause-ok
returns-in_ok-extend_from_slice-in-None-clause-ok g c =
    let held = c.self.inside in
    let ahead = drop held.at held.piece.items in
    let slice : take (length c.deref.result.now - held.at) (drop held.at c.deref.result.now)
    ≡ ahead =
    slice_from c.deref.result.now held.at
    ∙ ap (λ (l : List _). drop held.at l) c.deref.ensures.value in
    let part = unparted ahead
    (ap (position (λ b. b == 10)) (sym slice) ∙ sym c.in-None.ensures) in
    let seen = c.self.view_is in
    let line = c.in_ok-extend_from_slice-in-None.ensures.items in
    let len = c.len-self-inside.ensures in (
      subst IsPart (ap (λ (r : LineReading _). r.ahead) seen) part,
      line ∙ ap (λ (l : List _). held.line.items ++ l) slice
          ∙ ap (λ (r : LineReading _). r.line ++ r.ahead) seen,
      drop_all c.len-self-inside.result held.piece.items (omega (arith, len, held.piece.ok.0)),
      ap (λ (r : LineReading _). r.number) seen,
    )
