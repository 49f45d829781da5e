-- How tests stand in maps, after one of them changes, and after a set of them is taken down.
use Rattle.std.proofs.Common.{◌≡◌, Bool, true, false, cond, ◌&&◌, ◌||◌, List}
use Rattle.std.proofs.Common.{Option, Some, None, String, Global, string_bytes}
use Rattle.std.proofs.Common.{string_cmp, refl, sym, ◌∙◌, ap, option_map}
use Rattle.std.proofs.lemmas.Map.Text.{btree_map_updates_text}
use Rattle.std.proofs.lemmas.Slice.Eq.{bytes_eq-Decides}
use Rattle.std.specs.BTreeMap.{BTreeMap, UpdatesBy, get_by_text}
use Rattle.std.specs.Prelude.{ℕ, bytes_eq, if◌then◌else◌, not, is_some}
use Rattle.rec_events.proofs.TestOrder.{test_eq-true}
use Rattle.rec_events.specs.declared.instances.OwnedTestInstanceId.{OwnedTestInstanceId}
use Rattle.rec_events.specs.Tests.{test_eq}
use Rattle.rec_format.specs.declared.rerun.RerunInfo.{RerunInfo}
use Rattle.rec_format.specs.declared.suites.RerunTestSuiteInfo.{RerunTestSuiteInfo}
use Rattle.rec_rerun.specs.declared.standings.Standing.TheVariants.{Known, Started}
use Rattle.rec_rerun.specs.declared.standings.Standing.{Standing}
use Rattle.rec_rerun.specs.Selection.{HasTaken, IsSelection, is_passing, is_recorded, standing_in}
use Rattle.rec_rerun.specs.Standings.{LogEvent, Puts, Tests, at, ended, in_binary}
use Rattle.rec_rerun.specs.Suites.{AreSuitesOf, has_outstanding, has_passing, is_so, stands}

-- the tests of one binary are changed, and among them one test
pub restood : (old new : Tests) (test : OwnedTestInstanceId)
    (w : Option (BTreeMap (String Global) Standing))
    → ((name : List ℕ)
    → get_by_text new name ≡ cond (bytes_eq test.binary_id name) w (get_by_text old name))
    → (f : Option Standing → Option Standing)
    → ((name : List ℕ) → in_binary w name
    ≡ cond (bytes_eq test.test_name name) (f (in_binary (get_by_text old test.binary_id) name))
    (in_binary (get_by_text old test.binary_id) name))
    → (t : OwnedTestInstanceId) → at new t ≡ (if test_eq test t then f (at old t) else at old t)
restood old new test w puts f changed t =
    ap (λ o. in_binary o t.test_name) (puts t.binary_id)
    ∙ go (bytes_eq test.binary_id t.binary_id) refl
  where
    go : (b : Bool) → bytes_eq test.binary_id t.binary_id ≡ b
        → in_binary (cond b w (get_by_text old t.binary_id)) t.test_name
        ≡ (if b && bytes_eq test.test_name t.test_name then f (at old t) else at old t)
    go true e =
        changed t.test_name
        ∙ ap (λ id.
        cond (bytes_eq test.test_name t.test_name) (f (in_binary (get_by_text old id) t.test_name))
        (in_binary (get_by_text old id) t.test_name))
        ((bytes_eq-Decides test.binary_id t.binary_id).0 e)
    go false e = refl

-- a set of tests with one more, all of which are known alike
pub noted : {A : Type 0} (here rest : Bool) (known new old : A)
    → new ≡ (if here then known else old)
    → (if rest then known else new) ≡ (if here || rest then known else old)
noted here true known new old is = by here
  where
    by : (b : Bool) → known ≡ (if b || true then known else old)
    by true = refl
    by false = refl
noted here false known new old is = is ∙ by here
  where
    by : (b : Bool) → (if b then known else old) ≡ (if b || false then known else old)
    by true = refl
    by false = refl

-- the outstanding tests are taken down, and then the passing ones
pub both_noted : (passing outstanding : Bool) (last mid : Option Standing)
    → last ≡ (if passing then Some (Known true) else mid)
    → mid ≡ (if outstanding then Some (Known false) else None)
    → last
    ≡ option_map Known (if passing then Some true else (if outstanding then Some false else None))
both_noted true outstanding last mid h k = h
both_noted false true last mid h k = h ∙ k
both_noted false false last mid h k = h ∙ k

-- ---- the selection

others : (o : Option Standing) → stands false o ≡ (is_some o && not (stands true o))
others None = refl
others (Some (Known p)) = refl
others (Some (Started p)) = refl

both_sets : (o : Option Standing)
    → (stands true o || (is_some o && not (stands true o))) ≡ is_some o
both_sets None = refl
both_sets (Some (Known true)) = refl
both_sets (Some (Known false)) = refl
both_sets (Some (Started true)) = refl
both_sets (Some (Started false)) = refl

never_so : (p : Bool) → (is_so true p && is_so false p) ≡ false
never_so true = refl
never_so false = refl

never_stands_both : (o : Option Standing) → (stands true o && stands false o) ≡ false
never_stands_both None = refl
never_stands_both (Some (Known p)) = never_so p
never_stands_both (Some (Started p)) = never_so p

module _ (tests : Tests) (suites : List RerunTestSuiteInfo) (are : AreSuitesOf tests suites) where
  pub apart : (t : OwnedTestInstanceId) → (has_passing suites t && has_outstanding suites t) ≡ false
  apart t =
      ap (λ b. b && has_outstanding suites t) (are.held true t)
      ∙ ap (λ b. stands true (at tests t) && b) (are.held false t) ∙ never_stands_both (at tests t)

  module _ (parent : Option RerunInfo) (events : List LogEvent)
      (has : HasTaken parent events tests) where
    pub selected : IsSelection events parent suites
    selected = record {
      rise = are.rise;
      full = are.full;
      passing = λ t. are.held true t ∙ ap (stands true) (has t);
      outstanding =
          λ t. are.held false t ∙ ap (stands false) (has t) ∙ others (standing_in events parent t);
    }

    pub recorded : (t : OwnedTestInstanceId)
        → (has_passing suites t || has_outstanding suites t) ≡ is_recorded events parent t
    recorded t =
        ap (λ b. b || has_outstanding suites t) (selected.passing t)
        ∙ ap (λ b. is_passing events parent t || b) (selected.outstanding t)
        ∙ both_sets (standing_in events parent t)

-- ---- a name put into a binary's tests

pub put_name : (before after : BTreeMap (String Global) Standing) (key : String Global)
    (name : List ℕ) (s : Standing)
    → string_bytes key ≡ name
    → UpdatesBy string_cmp (string_cmp key) before after (Some s) → (n : List ℕ)
    → in_binary (Some after) n ≡ cond (bytes_eq name n) (Some s) (in_binary (Some before) n)
put_name before after key name s is h n =
    btree_map_updates_text (string_bytes key) before after (Some s) h n
    ∙ ap (λ k. cond (bytes_eq k n) (Some s) (get_by_text before n)) is

-- ---- an end of a test

-- it changes nothing where the log hasn't started the test
pub not_started : (tests : Tests) (test : OwnedTestInstanceId) (passed : Bool)
    → ended passed (at tests test) ≡ at tests test
    → (t : OwnedTestInstanceId)
    → at tests t ≡ (if test_eq test t then ended passed (at tests t) else at tests t)
not_started tests test passed same t = by (test_eq test t) refl
  where
    by : (b : Bool) → test_eq test t ≡ b
        → at tests t ≡ (if b then ended passed (at tests t) else at tests t)
    by true e =
        sym (ap (λ s. ended passed (at tests s)) (sym (test_eq-true test t e)) ∙ same
        ∙ ap (at tests) (test_eq-true test t e))
    by false e = refl

-- otherwise the test stands as it ends
pub was_started : (tests new : Tests) (test : OwnedTestInstanceId) (passed : Bool)
    → ended passed (at tests test) ≡ Some (Started passed) → Puts tests test (Started passed) new
    → (t : OwnedTestInstanceId)
    → at new t ≡ (if test_eq test t then ended passed (at tests t) else at tests t)
was_started tests new test passed is put t = put t ∙ by (test_eq test t) refl
  where
    by : (b : Bool) → test_eq test t ≡ b
        → (if b then Some (Started passed) else at tests t)
        ≡ (if b then ended passed (at tests t) else at tests t)
    by true e = sym is ∙ ap (λ s. ended passed (at tests s)) (test_eq-true test t e)
    by false e = refl
