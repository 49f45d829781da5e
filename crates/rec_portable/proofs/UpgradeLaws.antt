-- What is upgraded again.
use Rattle.std.proofs.Common.{◌≡◌, ℕ, ◌+◌, ◌<◌, ◌≤◌, ◌^◌, length, List, [], ◌∷◌}
use Rattle.std.proofs.Common.{Some, None, refl, sym, ap, subst, ◌∙◌, arith}
use Rattle.std.specs.List.{AllByRecursion}
use Rattle.rec_container.proofs.Lengths.{content_bytes-below}
use Rattle.rec_container.proofs.Spelling.{IsContainer-spell}
use Rattle.rec_container.proofs.Unique.{one_reading_spec}
use Rattle.rec_container.specs.Container.{AreFrom, Entry, IsContainer, content_of, spell}
use Rattle.rec_format.specs.declared.head.SessionHead.{SessionHead}
use Rattle.rec_format.specs.HeadForms.{IsHead}
use Rattle.rec_codec.proofs.LogLaws.{log_events_back}
use Rattle.rec_codec.specs.Event.{IsLogged, LiveEvent, RecordedEvent, log_events}
use Rattle.rec_codec.specs.Lines.{lines}
use Rattle.rec_store.proofs.PartsOf.{read_from, the_same}
use Rattle.rec_store.proofs.ReadLaws.{bundle_reads_logged}
use Rattle.rec_store.specs.Bundle.{events_recorded, manifest_text, run_bundle}
use Rattle.rec_store.specs.Bundle.{run_entries, run_log, run_outputs, run_store}
use Rattle.rec_store.specs.Clashes.{clash}
use Rattle.rec_store.specs.Entries.{bundle_entries, log_name, manifest_name, store_name}
use Rattle.rec_store.specs.Reading.{IsReading, RunRecord, record_of_parts, recorded}
use Rattle.rec_store.specs.RunParts.{HasParts, RunParts, parts_of, recorded_parts, settled, written}
use Rattle.rec_portable.proofs.AcceptedParts.{record_of_bundle}

-- a bundle has one list of parts at most
module _ (bytes : List ℕ) (p q : RunParts) (hp : HasParts bytes p) (hq : HasParts bytes q) where
  same_entries : bundle_entries hp.manifest hp.log hp.store
      ≡ bundle_entries hq.manifest hq.log hq.store
  same_entries = one_reading_spec bytes _ _ hp.bundled hq.bundled

  under : (name x y : List ℕ)
      → content_of (bundle_entries hp.manifest hp.log hp.store) name ≡ Some x
      → content_of (bundle_entries hq.manifest hq.log hq.store) name ≡ Some y → x ≡ y
  under name x y hx hy =
      the_same x y (sym hx ∙ ap (λ (es : List Entry). content_of es name) same_entries ∙ hy)

  pub one_parts : p ≡ q
  one_parts =
      let manifest = under manifest_name hp.manifest hq.manifest refl refl in
      let log = under log_name hp.log hq.log refl refl in
      let store = under store_name hp.store hq.store refl refl in
      let entries = one_reading_spec hq.store hp.entries hq.entries
      (subst (λ (b : List ℕ). IsContainer b hp.entries) store hp.stored) hq.stored in
      the_same p q (sym hp.read ∙ ap (λ m. parts_of m hp.log hp.entries) manifest
      ∙ ap (λ l. parts_of hq.manifest l hp.entries) log ∙ ap (parts_of hq.manifest hq.log) entries
      ∙ hq.read)

-- what was upgraded is written again as it is
pub again : ((bytes : List ℕ) (p : RunParts) → HasParts bytes p → length (written p) < 2 ^ 64
    → HasParts (written p) (settled p))
    → (bytes : List ℕ) (p q : RunParts) → HasParts bytes p → length (written p) < 2 ^ 64
    → HasParts (written p) q → written q ≡ written p
again read_has bytes p q hp small hq =
    ap written (one_parts (written p) q (settled p) hq (read_has bytes p hp small))

-- ---- what was recorded

-- contents in a container are no longer than it
module _ (a b c : List ℕ) (small : length (spell (bundle_entries a b c)) < 2 ^ 64) where
  short_contents : length a + (length b + length c) < 2 ^ 64
  short_contents =
      let below = content_bytes-below (bundle_entries a b c) in omega (arith, below, small)

  -- what has the names of a bundle, and no more bytes, is one
  names_of_bundle : (x y z : List ℕ) → AreFrom [] (bundle_entries x y z)
      → AreFrom [] (bundle_entries a b c)
  names_of_bundle x y z from =
      let short = short_contents in (
        record { name = from.0.name; content = omega (arith, short) },
        refl,
        (
          record { name = from.2.0.name; content = omega (arith, short) },
          refl,
          (record { name = from.2.2.0.name; content = omega (arith, short) }, refl, tt),
        ),
      )

module _ (number : List ℕ → ℕ) (m : ℕ) (head : SessionHead) (events : List LiveEvent)
    (is : IsHead head) (logged : AllByRecursion IsLogged (events_recorded number m events))
    (agree : clash [] (run_outputs number m events) ≡ None)
    (small : length (run_bundle number m head events) < 2 ^ 64)
    (one_record : (bytes : List ℕ) (r s : RunRecord) → IsReading bytes r → IsReading bytes s
    → r ≡ s)
    (recorded_written : run_bundle number m head events
    ≡ written (recorded_parts number m head events)) where
  abbrev parts : RunParts
  parts = recorded_parts number m head events

  abbrev parts_with : RunRecord → List RecordedEvent → RunParts
  parts_with r es = record {
    format_version = r.format_version;
    run = r.run;
    cargo_metadata = r.cargo_metadata;
    test_list = r.test_list;
    record_opts = r.record_opts;
    build_scope = r.build_scope;
    rerun_info = r.rerun_info;
    events = es;
    outputs = r.outputs;
  }

  reads : IsReading (run_bundle number m head events) (recorded number m head events)
  reads = bundle_reads_logged number m head events is logged agree small

  bundled : IsContainer (run_bundle number m head events) (run_entries number m head events)
  bundled =
      let text = manifest_text number m head events in
      let store = spell (run_store number m head events) in
      IsContainer-spell (run_entries number m head events)
      (names_of_bundle text (run_log number m events) store small _ _ _ reads.bundled.entries)

  -- what was recorded has the parts of its run alone
  one_recorded : (q : RunParts) → HasParts (run_bundle number m head events) q → q ≡ parts
  one_recorded q has =
      let bytes = run_bundle number m head events in
      let entries =
      one_reading_spec bytes _ (run_entries number m head events) has.bundled bundled in
      let log : has.log ≡ run_log number m events =
      the_same _ _ (ap (λ (es : List Entry). content_of es log_name) entries) in
      let read = (read_from has.manifest has.log has.entries q has.read).events in
      let back = log_events_back (events_recorded number m events) logged in
      let events_are : q.events ≡ events_recorded number m events =
      the_same _ _ (sym read ∙ ap (λ (l : List ℕ). log_events (lines l)) log ∙ back) in
      let record_is : record_of_parts has.entries q ≡ recorded number m head events =
      one_record bytes _ _ (record_of_bundle bytes q has) reads in
      ap (λ (r : RunRecord). parts_with r q.events) record_is
      ∙ ap (parts_with (recorded number m head events)) events_are

  pub recorded_again : (q : RunParts) → HasParts (run_bundle number m head events) q
      → written q ≡ run_bundle number m head events
  recorded_again q has = ap written (one_recorded q has) ∙ sym recorded_written
