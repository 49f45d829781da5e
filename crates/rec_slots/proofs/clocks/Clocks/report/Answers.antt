use Rattle.std.proofs.Common.{◌≡◌, ◌∷◌, ◌++◌, ◌∙◌, [], Some, map, refl, sym, ap, subst, rules}
use Rattle.std.proofs.lemmas.List.{append-nil}
use Rattle.std.proofs.lemmas.Map.Views.{All-turn}
use Rattle.std.specs.BTreeMap.{get}
use Rattle.std.specs.List.Sorted.{IsStrictlySortedBy}
use Rattle.std.specs.List.{AllByRecursion}
use Rattle.std.specs.Map.Iter.{deref_pair}
use Rattle.std.specs.Map.{keys_of}
use Rattle.std.specs.Ordering.{nat_cmp}
use Rattle.rec_slots.proofs.clocks.Clocks.report.Goals as goal
use Rattle.rec_slots.proofs.SlotReports.{clock-at, slots-more, used-more}
use Rattle.rec_slots.specs.Clocks.{IsTimed}
use Rattle.rec_slots.specs.declared.report.SlotUsage.{SlotUsage}

pub usage-requires-clause-clock : goal.usage-requires-clause-clock
usage-requires-clause-clock c =
    let gives = c.into_iter-slot-iterator.ensures.into_iter_gives in
    let is = All-turn deref_pair (λ e. get nat_cmp c.args.self.now.slots e.0 ≡ Some e.1)
    _ _ _ _ _ _ _ gives.6 gives.0 c.loop-slot.yielded_by c.in-Some.is c.next.ensures.steps in
    clock-at c.args.self.now _ _ is c.requires.clocks

pub loop-slot-preserved : goal.loop-slot-preserved
loop-slot-preserved c =
    let gives = c.into_iter-slot-iterator.ensures.into_iter_gives in
    let is = All-turn deref_pair (λ e. get nat_cmp c.args.self.now.slots e.0 ≡ Some e.1)
    _ _ _ _ _ _ _ gives.6 gives.0 c.loop-slot.yielded_by c.in-Some.is c.next.ensures.steps in
    let step : c.loop-slot.slot-iterator
    ≡ (c.in-Some.slot.now, c.in-Some.clock.now) ∷ c.next.new.self =
    search rules in
    let items = c.in_ok-push.ensures.items in
    let before = c.loop-slot.usages.items in
    let u = c.usage.result in
    let e = c.usage.ensures in
    let clock = c.in-Some.clock.now in
    let cs = c.args.self.now in
    record {
      used = subst (AllByRecursion (IsTimed cs)) (sym items)
          (used-more cs before u clock (ap (get nat_cmp cs.slots) e.slot ∙ is) e.busy e.paused e.sum
          c.loop-slot.invariant.used);
      slots = ap (λ us. map (λ (v : SlotUsage). v.slot) us ++ keys_of c.next.new.self) items
          ∙ slots-more before u (keys_of c.next.new.self) (keys_of cs.slots.entries)
          (ap (λ k. map (λ (v : SlotUsage). v.slot) before ++ k ∷ keys_of c.next.new.self) e.slot
          ∙ ap (λ es. map (λ (v : SlotUsage). v.slot) before ++ keys_of es) (sym step)
          ∙ c.loop-slot.invariant.slots);
    }

pub returns : goal.returns
returns c =
    let none : c.loop-slot.slot-iterator ≡ [] = search rules in
    let items = c.new.ensures in
    let slots = sym (append-nil (map (λ (v : SlotUsage). v.slot) c.loop-slot.usages.items))
    ∙ ap (λ es. map (λ (v : SlotUsage). v.slot) c.loop-slot.usages.items ++ keys_of es) (sym none)
    ∙ c.loop-slot.invariant.slots in
    let all_slots = ap (map (λ (v : SlotUsage). v.slot)) items ∙ slots in
    record {
      length = refl;
      used =
          subst (AllByRecursion (IsTimed c.args.self.now)) (sym items) c.loop-slot.invariant.used;
      slots = all_slots;
      rise = subst (IsStrictlySortedBy nat_cmp) (sym all_slots) c.len-ordered.ensures.ordered;
    }
