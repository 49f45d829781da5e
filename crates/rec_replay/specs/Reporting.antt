-- What the calls of a reporter do.
use Rattle.std.specs.Io.KnownBytes.{Appends}
use Rattle.std.specs.Prelude.{◌≡◌, ℕ, List, [], take, Option, None}
use Rattle.std.specs.Prelude.{Result, Ok, Err, ⊤, option_map, unwrap_or}
use Rattle.rec_container.specs.Causes.{Rose}
use Rattle.rec_replay.specs.declared.event_reporter.WriteEventError.TheVariants.{
  SinkFault,
  OutOfMemory,
}
use Rattle.rec_replay.specs.declared.event_reporter.WriteEventError.{WriteEventError}

-- a prefix of the bytes was written, perhaps all of them
pub record WrotePrefix (before now : Option (List ℕ)) (bytes : List ℕ) : Type 0 where
  pub count : ℕ
  pub wrote : Appends before now (take count bytes)

-- a text was written; or the outside failed, by the count, and a prefix of it was;
-- or memory ran out, and nothing was
abbrev pub Shows : Option (List ℕ) → Option (List ℕ) → ℕ → ℕ → List ℕ → Result ⊤ WriteEventError
    → Type 0
Shows before now faults_before faults_now text (Ok done) = Appends before now text
Shows before now faults_before faults_now text (Err SinkFault) =
    Rose faults_before faults_now × WrotePrefix before now text
Shows before now faults_before faults_now text (Err OutOfMemory) = Appends before now []

-- what is known, where it is, becomes x
abbrev pub Becomes : {A : Type 0} → Option A → Option A → A → Type 0
Becomes before now x = now ≡ option_map (λ _. x) before

-- the configuration that is known, if there is one
abbrev pub known : {A : Type 0} → Option (Option A) → Option A
known c = unwrap_or c None
