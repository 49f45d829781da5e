-- The setup scripts of a history, each by its index, as in a trace: where it starts, and where it
-- ends.
use Rattle.std.specs.Prelude.{◌≡◌, ◌==◌, ◌<◌, ℕ, suc, Bool, false, List, [], ◌∷◌, ◌++◌, map}
use Rattle.std.specs.Prelude.{slice_get, Some}
use Rattle.rec_events.specs.declared.events.TestEventSummary.{TestEventSummary}
use Rattle.rec_spans.specs.Acts.Act.{ScriptStarts, ScriptEnds}
use Rattle.rec_spans.specs.Acts.{Act, act_of}
use Rattle.rec_spans.specs.Plain.{plain_kind}
use Rattle.rec_view.specs.declared.scripts.ScriptAct.TheVariants.{Starts, Ends, Silent}
use Rattle.rec_view.specs.declared.scripts.ScriptAct.{ScriptAct}
use Rattle.rec_view.specs.declared.scripts.ScriptView.{ScriptView}
use Rattle.rec_view.specs.Ends.{IsEnd, first_from}

-- a script of this index starts, or ends, or neither
abbrev pub script_act : Act → ScriptAct
script_act (ScriptStarts index id) = Starts index
script_act (ScriptEnds index id) = Ends index
script_act _ = Silent

module _ {S O : Type 0} where
  -- what each of these events is
  abbrev pub script_acts : List (TestEventSummary S O) → List ScriptAct
  script_acts events = map (λ e. script_act (act_of (plain_kind e.kind))) events

-- the open script of an index ends, or another one of it starts
abbrev pub cuts_script : ℕ → ScriptAct → Bool
cuts_script i (Starts index) = index == i
cuts_script i (Ends index) = index == i
cuts_script i Silent = false

-- the script that starts at i, if one does, where these acts follow
abbrev pub script_at : ℕ → ScriptAct → List ScriptAct → List ScriptView
script_at i (Starts index) acts =
    record { from = i; to = first_from (cuts_script index) (suc i) acts } ∷ []
script_at i (Ends index) acts = []
script_at i Silent acts = []

-- the scripts of these acts, which stand from i on
abbrev pub scripts_from : ℕ → List ScriptAct → List ScriptView
scripts_from i [] = []
scripts_from i (act ∷ acts) = script_at i act acts ++ scripts_from (suc i) acts

-- the scripts of a history, in order
abbrev pub scripts : List ScriptAct → List ScriptView
scripts acts = scripts_from 0 acts

-- ---- by positions

-- a script starts there, and ends at the first later event that ends it or starts it anew
pub record IsScript (acts : List ScriptAct) (s : ScriptView) : Type 0 where
  pub index : ℕ
  pub starts : slice_get acts s.from ≡ Some (Starts index)
  pub ends : IsEnd (cuts_script index) acts s.from s.to

-- they stand in the order of the events that start them
abbrev pub StartsBefore : ScriptView → List ScriptView → Type 0
StartsBefore s [] = Unit {0}
StartsBefore s (t ∷ ts) = (s.from < t.from) × StartsBefore s ts

abbrev pub AreInOrder : List ScriptView → Type 0
AreInOrder [] = Unit {0}
AreInOrder (s ∷ ss) = StartsBefore s ss × AreInOrder ss
