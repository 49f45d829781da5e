-- The kinds without outputs in the table of all kinds.
use Rattle.std.proofs.Common.{◌≡◌, refl, List, [], ◌∷◌, ℕ, Bool, true, false}
use Rattle.std.proofs.Common.{if◌then◌else◌, Option, Some, map, codes}
use Rattle.std.proofs.lemmas.Slice.Eq.{bytes_eq-Decides}
use Rattle.std.specs.Str.{bytes_eq}
use Rattle.serde_json.specs.Data.{Data, Members}
use Rattle.rec_events.specs.declared.events.CoreEventKind.{CoreEventKind}
use Rattle.rec_events.specs.declared.events.TestEventKindSummary.TheVariants.{Core}
use Rattle.rec_events.specs.declared.events.TestEventKindSummary.{TestEventKindSummary}
use Rattle.rec_forms.specs.declared.errors.FromValueError.TheVariants.{NotAValue, OutOfMemory}
use Rattle.rec_forms.specs.declared.errors.FromValueError.{FromValueError}
use Rattle.rec_forms.specs.Gives.{Refuses}
use Rattle.rec_forms.specs.Shape.{◌>>=◌, named}
use Rattle.rec_codec.specs.CoreKindForms.{core_kinds, kind_in}
use Rattle.rec_codec.specs.EventForms.{core_entry, kind_named}

untrue : {P : Type 0} (b : Bool) → (b ≡ true → P) → (P → ⊥) → b ≡ false
untrue true h not = elim (not (h refl)) [ ]
untrue false h not = refl

-- another name
other : (name key : List ℕ) → (name ≡ key → ⊥) → bytes_eq name key ≡ false
other name key not = untrue (bytes_eq name key) (bytes_eq-Decides name key).0 not

-- what gives no kind gives none of all kinds
pub refused : (S O : Type 0) (e : FromValueError) (kind : Option CoreEventKind) → Refuses e kind
    → Refuses {T = TestEventKindSummary S O} e (kind >>= λ k. Some (Core k))
refused S O NotAValue kind h = rw h refl
refused S O OutOfMemory kind h = tt

module _ {S O : Type 0} (output_form : Data → Option O) (ms : Members) where
  -- the first entry of a table, or what the others give
  either : (b : Bool) (form : Members → Option CoreEventKind)
      (rest : Option (Members → Option (TestEventKindSummary S O)))
      (core_rest : Option (Members → Option CoreEventKind))
      → (rest >>= λ f. f ms) ≡ ((core_rest >>= λ f. f ms) >>= λ kind. Some (Core kind))
      → ((if b then Some (λ ms. form ms >>= λ kind. Some (Core kind)) else rest) >>= λ f. f ms)
      ≡ (((if b then Some form else core_rest) >>= λ f. f ms) >>= λ kind. Some (Core kind))
  either true form rest core_rest h = refl
  either false form rest core_rest h = h

  pub core_in_kinds : (table : List (List ℕ × (Members → Option CoreEventKind))) (name : List ℕ)
      → (named (map (core_entry {S = S} output_form) table) name >>= λ f. f ms)
      ≡ (kind_in table name ms >>= λ kind. Some (Core kind))
  unfolding kind_in
  core_in_kinds [] name = refl
  core_in_kinds (entry ∷ table) name =
      either (bytes_eq name entry.0) entry.1
      (named (map (core_entry {S = S} output_form) table) name) (named table name)
      (core_in_kinds table name)

  -- a name that no kind with outputs has
  pub core_named : (name : List ℕ) → (name ≡ codes "setup-script-finished" → ⊥)
      → (name ≡ codes "test-attempt-failed-will-retry" → ⊥) → (name ≡ codes "test-finished" → ⊥)
      → kind_named {S = S} output_form name ms
      ≡ (kind_in core_kinds name ms >>= λ kind. Some (Core kind))
  unfolding kind_named
  core_named name not_script not_attempt not_test =
      rw (
        other name (codes "setup-script-finished") not_script,
        other name (codes "test-attempt-failed-will-retry") not_attempt,
        other name (codes "test-finished") not_test,
      )
      (core_in_kinds core_kinds name)
