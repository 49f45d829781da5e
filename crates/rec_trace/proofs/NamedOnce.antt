-- A trace names each process and each row once.
use Rattle.std.proofs.Common.{◌≡◌, ◌||◌, ℕ, Bool, true, false, cond, List, [], ◌∷◌, ◌++◌}
use Rattle.std.proofs.Common.{Option, Some, None, refl, sym, subst, ap, ◌∙◌, inl, inr, ◌⊎◌}
use Rattle.std.proofs.lemmas.List.Concat.{flat_map-append}
use Rattle.semver.specs.Parse.{Parts}
use Rattle.rec_trace_events.specs.declared.rows.Row.{Row}
use Rattle.rec_trace_events.specs.TraceEvents.{process_row}
use Rattle.rec_spans.proofs.EventMarks.{Has-append}
use Rattle.rec_spans.proofs.Keys.{row_eq-self}
use Rattle.rec_spans.specs.declared.settings.ChromeTraceGroupBy.{ChromeTraceGroupBy}
use Rattle.rec_spans.specs.History.{after, state_after}
use Rattle.rec_spans.specs.Keys.{row_eq}
use Rattle.rec_spans.specs.Kinds.{history, trace_input}
use Rattle.rec_spans.specs.Past.{binaries}
use Rattle.rec_spans.specs.Plain.{PlainEvent}
use Rattle.rec_spans.specs.Positions.{Has, IsOnce}
use Rattle.rec_trace.proofs.LastTold.{of_each_history}
use Rattle.rec_trace.proofs.NamesDrawn.{names-of-drawn}
use Rattle.rec_trace.proofs.Pushes.{drawn-push, known-push}
use Rattle.rec_trace.specs.Histories.{known_of, trace_drawn}
use Rattle.rec_trace.specs.Known.{Known, names, row_to_name}
use Rattle.rec_trace.specs.Naming.Named.{Process, Thread}
use Rattle.rec_trace.specs.Naming.{Named, all_named, named_by, newly_named, row_of_named}
use Rattle.rec_trace.specs.Table.{drawn}

-- ---- what an event names

process_is_no_row : (pid : ℕ) (row : Row) → Process pid ≡ Thread row → ⊥
process_is_no_row pid row e = cc e

module _ (is_named : Row → Bool) where
  -- a row and its process, each named once
  newly-once : (asked : Option Row) → IsOnce (newly_named is_named asked)
  newly-once None = tt
  newly-once (Some row) = go (is_named (process_row row.pid)) (is_named row)
    where
      go : (p q : Bool) → IsOnce (cond p [] (Process row.pid ∷ []) ++ cond q [] (Thread row ∷ []))
      go true true = tt
      go true false = ((λ h. h), tt)
      go false true = ((λ h. h), tt)
      go false false = (
        (λ h. elim h [ inl e ↦ process_is_no_row row.pid row (sym e) | inr w ↦ w ]),
        ((λ h. h), tt),
      )

  -- what is named newly wasn't named before, and is asked for
  newly-is_new : (asked : Option Row) (n : Named) → Has (newly_named is_named asked) n
      → (is_named (row_of_named n) ≡ false) × (names asked (row_of_named n) ≡ true)
  newly-is_new None n h = absurd h
  newly-is_new (Some row) n h = go (is_named (process_row row.pid)) refl (is_named row) refl h
    where
      process_asked : names (Some row) (process_row row.pid) ≡ true
      process_asked =
          ap (λ b. row_eq row (process_row row.pid) || b) (row_eq-self (process_row row.pid))
          ∙ or_true (row_eq row (process_row row.pid))
        where
          or_true : (b : Bool) → (b || true) ≡ true
          or_true true = refl
          or_true false = refl

      row_asked : names (Some row) row ≡ true
      row_asked = ap (λ b. b || row_eq (process_row row.pid) row) (row_eq-self row)

      of_process : is_named (process_row row.pid) ≡ false → Process row.pid ≡ n
          → (is_named (row_of_named n) ≡ false) × (names (Some row) (row_of_named n) ≡ true)
      of_process free e =
          subst
          (λ m. (is_named (row_of_named m) ≡ false) × (names (Some row) (row_of_named m) ≡ true)) e
          (free, process_asked)

      of_row : is_named row ≡ false → Thread row ≡ n
          → (is_named (row_of_named n) ≡ false) × (names (Some row) (row_of_named n) ≡ true)
      of_row free e =
          subst
          (λ m. (is_named (row_of_named m) ≡ false) × (names (Some row) (row_of_named m) ≡ true)) e
          (free, row_asked)

      go : (p : Bool) → is_named (process_row row.pid) ≡ p → (q : Bool) → is_named row ≡ q
          → Has (cond p [] (Process row.pid ∷ []) ++ cond q [] (Thread row ∷ [])) n
          → (is_named (row_of_named n) ≡ false) × (names (Some row) (row_of_named n) ≡ true)
      go true p true q h = absurd h
      go true p false q h = elim h [ inl e ↦ of_row q e | inr w ↦ absurd w ]
      go false p true q h = elim h [ inl e ↦ of_process p e | inr w ↦ absurd w ]
      go false p false q h = elim h [
        | inl e ↦ of_process p e
        | inr w ↦ elim w [ inl e ↦ of_row q e | inr v ↦ absurd v ]
      ]

-- ---- two lists that have nothing in common

once-append : {X : Type 0} (xs ys : List X) → IsOnce xs → IsOnce ys
    → ((x : X) → Has xs x → Has ys x → ⊥) → IsOnce (xs ++ ys)
once-append [] ys a b apart = b
once-append (x ∷ xs) ys a b apart = (
  (λ h. elim ((Has-append xs ys x).0 h) [ inl w ↦ a.0 w | inr w ↦ apart x (inl refl) w ]),
  once-append xs ys a.1 b (λ y h w. apart y (inr h) w),
)

-- ---- whole histories

module _ (version : Parts) (g : ChromeTraceGroupBy) where
  -- what was named was named once, and is known to be named
  abbrev AreNamed : List PlainEvent → Type 0
  AreNamed events =
      IsOnce (all_named (trace_drawn version g events))
      × ((n : Named) → Has (all_named (trace_drawn version g events)) n
      → (known_of g events).is_named (row_of_named n) ≡ true)

  named-push : (events : List PlainEvent) (event : PlainEvent) → AreNamed events
      → AreNamed (events ++ event ∷ [])
  named-push events event h =
      let past = after [] (history g events) in
      let known = known_of g events in
      let asked = row_to_name (trace_input g (binaries past) event) in
      let before = all_named (trace_drawn version g events) in
      let now = newly_named known.is_named asked in
      let is : all_named (trace_drawn version g (events ++ event ∷ [])) ≡ before ++ now =
      ap all_named (drawn-push version g events event)
      ∙ flat_map-append named_by (trace_drawn version g events)
      (drawn version g (state_after past) known event)
      ∙ ap (λ (ns : List Named). before ++ ns)
      (names-of-drawn version g (state_after past) known event) in
      let apart : (n : Named) → Has before n → Has now n → ⊥ = λ n a b.
      (let t = h.1 n a in let f = (newly-is_new known.is_named asked n b).0 in cc (t, f)) in
      let next : (n : Named)
      → (known_of g (events ++ event ∷ [])).is_named (row_of_named n)
      ≡ (names asked (row_of_named n) || known.is_named (row_of_named n)) =
      λ n. ap (λ (k : Known). k.is_named (row_of_named n)) (known-push g events event) in (
        subst IsOnce (sym is) (once-append before now h.0 (newly-once known.is_named asked) apart),
        λ n w. next n ∙ either n asked known.is_named
            (elim ((Has-append before now n).0 (subst (λ ns. Has ns n) is w)) [
              | inl a ↦ inl (h.1 n a)
              | inr b ↦ inr (newly-is_new known.is_named asked n b).1
            ]),
      )
    where
      either : (n : Named) (asked : Option Row) (is_named : Row → Bool)
          → (is_named (row_of_named n) ≡ true) ⊎ (names asked (row_of_named n) ≡ true)
          → (names asked (row_of_named n) || is_named (row_of_named n)) ≡ true
      either n asked is_named (inl a) =
          go (names asked (row_of_named n)) (is_named (row_of_named n)) a
        where
          go : (p q : Bool) → q ≡ true → (p || q) ≡ true
          go true q e = refl
          go false q e = e
      either n asked is_named (inr b) = ap (λ p. p || is_named (row_of_named n)) b

  -- each process and each row is named once
  pub named-once : (events : List PlainEvent) → IsOnce (all_named (trace_drawn version g events))
  named-once events = (of_each_history AreNamed (tt, λ n h. absurd h) named-push events).0
