use Rattle.std.proofs.Common.{◌≡◌, ℕ, ◌+◌, ◌<◌, List, [], ◌∷◌, ◌++◌, length, map, refl}
use Rattle.std.proofs.Common.{sym, ap, ◌∙◌, subst, inr, arith, append_assoc, rules}
use Rattle.std.proofs.lemmas.List.{append-nil, length-map}
use Rattle.std.proofs.lemmas.Result.{err_from_is_err_and}
use Rattle.std.specs.List.{flat_map}
use Rattle.std.specs.Vec.Iter.{into_iter_items}
use Rattle.rec_events.specs.declared.results.FlakyResult.{FlakyResult}
use Rattle.rec_events.specs.declared.statuses.ExecuteStatus.{ExecuteStatus}
use Rattle.rec_events.specs.declared.statuses.ExecutionStatuses.{ExecutionStatuses}
use Rattle.rec_store.proofs.Adding.{AddsEach-append}
use Rattle.rec_store.proofs.outputs.OutputRules.store_statuses.Goals as goal
use Rattle.rec_store.proofs.Stopped.{Stops-prefix, Stops-after, none_added}
use Rattle.rec_store.specs.declared.error.RunStoreError.TheVariants.{OutOfMemory}
use Rattle.rec_store.specs.EventOutputs.{Live, Recorded, status_entries, status_recorded}
use Rattle.rec_store.specs.Recording.{AddsEach}
use Rattle.rec_store.specs.Stopping.{Stops}

nothing_left : {A : Type 0} (xs : List A) → length xs ≡ 0 → xs ≡ []
nothing_left [] h = refl
nothing_left (x ∷ xs) h = absurd (omega arith)

shorter : {A : Type 0} {n m : ℕ} (xs : List A) (x : A) (zs : List A) → xs ≡ x ∷ zs → n ≡ length xs
    → m + 1 ≡ n → m ≡ length zs
shorter xs x zs p q r = let short = ap length p in omega arith

pushed : {A : Type 0} (items r zs all : List A) (y z : A) → items ≡ r ++ (y ∷ []) → y ≡ z
    → r ++ (z ∷ zs) ≡ all → items ++ zs ≡ all
pushed items r zs all y z p q h = rw (p, q) (append_assoc r (z ∷ []) zs ∙ h)

pub loop-status-init : goal.loop-status-init
loop-status-init g c =
    record {
      count = search rules;
      sound = c.requires.sound;
      recorded = rw c.new-recorded.ensures.items;
      added = λ new h. h;
      stops = λ new e h. h;
    }

pub returns-in_err-status : goal.returns-in_err-status
returns-in_err-status g c =
    let p = err_from_is_err_and c.from_residual.result c.from_residual.ensures.1 in
    let taken = g.S.Sink.taken in
    let faults = g.S.Sink.faults in
    let e = c.in_err-status.field-0.0 in
    let new = c.store_status.new.store in
    let entries =
    status_entries (g.N.OutputNamer.number c.args.self.now.namer.now) c.args.self.now.max_size in
    let rest = into_iter_items c.next.new.self in
    let here = Stops-prefix taken faults c.loop-status.store new (entries c.in-Some.status)
    (flat_map entries rest) e c.in_err-status.ensures in
    let left = subst (λ (xs : List (Live ExecuteStatus)).
    Stops taken faults c.loop-status.store new (flat_map entries xs) e)
    (sym c.in-Some.ensures.steps.0) here in
    let all =
    c.into_iter-status-iterator.ensures.into_iter_gives.0 ∙ c.into_vec-status-items.ensures in
    rw (p.1, p.2) (subst (λ (xs : List (Live ExecuteStatus)). Stops taken faults c.args.store.now
    new (flat_map entries xs) e) all (c.loop-status.invariant.stops new e left))

pub loop-status-preserved : goal.loop-status-preserved
loop-status-preserved g c =
    let taken = g.S.Sink.taken in
    let faults = g.S.Sink.faults in
    let mid = c.store_status.new.store in
    let number = g.N.OutputNamer.number c.args.self.now.namer.now in
    let entries = status_entries number c.args.self.now.max_size in
    let recorded = status_recorded number c.args.self.now.max_size in
    let steps = c.in-Some.ensures.steps in
    let rest = into_iter_items c.next.new.self in
    let here = c.in_ok-status.ensures in
    record {
      count = shorter _ c.in-Some.status rest steps.0 c.loop-status.invariant.count steps.1;
      sound = here.2;
      recorded =
          pushed
          c.push.new.self.items
          c.loop-status.recorded.items
          (map recorded rest)
          (map recorded (into_iter_items c.into_iter-status-iterator.result))
          c.in_ok-status.status
          (recorded c.in-Some.status)
          c.in_ok-push.ensures.items
          here.0
          (subst (λ (xs : List (Live ExecuteStatus)). c.loop-status.recorded.items
          ++ map recorded xs ≡ map recorded (into_iter_items c.into_iter-status-iterator.result))
          steps.0 c.loop-status.invariant.recorded);
      added =
          λ new h. c.loop-status.invariant.added new (subst (λ (xs : List (Live ExecuteStatus)).
          AddsEach taken faults c.loop-status.store new (flat_map entries xs)) (sym steps.0)
          (AddsEach-append taken faults c.loop-status.store mid new (entries c.in-Some.status)
          (flat_map entries rest) here.1 h));
      stops =
          λ new e h. c.loop-status.invariant.stops new e (subst (λ (xs : List (Live ExecuteStatus)).
          Stops taken faults c.loop-status.store new (flat_map entries xs) e) (sym steps.0)
          (Stops-after taken faults c.loop-status.store mid new (entries c.in-Some.status)
          (flat_map entries rest) e here.1 h));
    }

pub returns-in_err-push : goal.returns-in_err-push
returns-in_err-push g c =
    let p =
    err_from_is_err_and c.from_residual-in_err-push.result c.from_residual-in_err-push.ensures.1 in
    let taken = g.S.Sink.taken in
    let faults = g.S.Sink.faults in
    let new = c.store_status.new.store in
    let entries =
    status_entries (g.N.OutputNamer.number c.args.self.now.namer.now) c.args.self.now.max_size in
    let rest = into_iter_items c.next.new.self in
    let here = Stops-after taken faults c.loop-status.store new new (entries c.in-Some.status)
    (flat_map entries rest) OutOfMemory c.in_ok-status.ensures.1
    (inr (refl, none_added taken faults new (flat_map entries rest))) in
    let left = subst (λ (xs : List (Live ExecuteStatus)).
    Stops taken faults c.loop-status.store new (flat_map entries xs) OutOfMemory)
    (sym c.in-Some.ensures.steps.0) here in
    let all =
    c.into_iter-status-iterator.ensures.into_iter_gives.0 ∙ c.into_vec-status-items.ensures in
    rw (p.1, p.2) (subst (λ (xs : List (Live ExecuteStatus)). Stops taken faults c.args.store.now
    new (flat_map entries xs) OutOfMemory) all (c.loop-status.invariant.stops new OutOfMemory left))

whole : {A B : Type 0} (f : A → B) (items : List B) (rest all statuses : List A)
    → items ++ map f rest ≡ map f all → rest ≡ [] → all ≡ statuses → items ≡ map f statuses
whole f items rest all statuses h p q = sym (append-nil items) ∙ rw p at h ∙ ap (map f) q

pub new-requires : goal.new-requires
new-requires g c =
    let recorded =
    status_recorded (g.N.OutputNamer.number c.args.self.now.namer.now) c.args.self.now.max_size in
    let at = c.loop-status in
    let empty : into_iter_items at.status-iterator ≡ [] =
    nothing_left _ (sym at.invariant.count ∙ c.in-None.ensures.steps.0) in
    let all =
    c.into_iter-status-iterator.ensures.into_iter_gives.0 ∙ c.into_vec-status-items.ensures in
    let made =
    whole recorded at.recorded.items _ _ c.args.statuses.statuses at.invariant.recorded empty all in
    record {
      not_empty =
          subst (λ (n : ℕ). 0 < n)
          (sym (ap length made ∙ length-map c.args.statuses.statuses recorded))
          c.as_slice-some.ensures.not_empty;
    }

remade : (r : Recorded ExecutionStatuses) (xs ys : List (Recorded ExecuteStatus))
    (flaky : FlakyResult)
    → r ≡ record { statuses = xs; flaky_result = flaky } → xs ≡ ys
    → r ≡ record { statuses = ys; flaky_result = flaky }
remade r xs ys flaky p q = rw (p, q)

pub returns : goal.returns
returns g c =
    let taken = g.S.Sink.taken in
    let faults = g.S.Sink.faults in
    let number = g.N.OutputNamer.number c.args.self.now.namer.now in
    let entries = status_entries number c.args.self.now.max_size in
    let recorded = status_recorded number c.args.self.now.max_size in
    let at = c.loop-status in
    let empty : into_iter_items at.status-iterator ≡ [] =
    nothing_left _ (sym at.invariant.count ∙ c.in-None.ensures.steps.0) in
    let all =
    c.into_iter-status-iterator.ensures.into_iter_gives.0 ∙ c.into_vec-status-items.ensures in
    let made =
    whole recorded at.recorded.items _ _ c.args.statuses.statuses at.invariant.recorded empty all in
    let none = subst (λ (xs : List (Live ExecuteStatus)).
    AddsEach taken faults at.store at.store (flat_map entries xs)) (sym empty) refl in (
      remade c.new.result at.recorded.items (map recorded c.args.statuses.statuses)
          c.args.statuses.flaky_result c.new.ensures made,
      subst (λ (xs : List (Live ExecuteStatus)).
          AddsEach taken faults c.args.store.now at.store (flat_map entries xs))
          all (at.invariant.added at.store none),
      at.invariant.sound,
    )
