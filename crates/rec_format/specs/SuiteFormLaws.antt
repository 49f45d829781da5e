-- Test suites read back, and are writable.
use Rattle.std.proofs.Common.{ap, sym, ◌∙◌, append_assoc, Less, Greater, is_some, Ordering, Equal}
use Rattle.std.proofs.lemmas.Map.Text.{is_eq-slice_cmp}
use Rattle.std.proofs.lemmas.Slice.Eq.{bytes_eq-Decides}
use Rattle.std.specs.Cmp.Lexicographic.{slice_cmp, nat_list_cmp_total}
use Rattle.std.specs.List.Sorted.{IsStrictlySortedBy}
use Rattle.std.specs.List.{AllByRecursion}
use Rattle.std.specs.Ordering.{nat_cmp, ordering_reverse, is_eq, match_ordering}
use Rattle.std.specs.Prelude.{◌≡◌, ℕ, List, [], ◌∷◌, ◌++◌, map, Some, None}
use Rattle.std.specs.Prelude.{false, refl, Option, codes, option_and_then}
use Rattle.std.specs.Str.{bytes_eq}
use Rattle.serde_json.specs.Data.{Items, no_items, item}
use Rattle.serde_json.specs.Find.{as_array}
use Rattle.serde_json.specs.View.{items_of}
use Rattle.rec_events.specs.Names.{with_name}
use Rattle.rec_forms.specs.GivesWellFormed.{Holds, GivesWellFormed}
use Rattle.rec_forms.specs.Members.{get_member-members_of}
use Rattle.rec_forms.specs.NameLaws.{names_back, names_writable, names_well_formed}
use Rattle.rec_forms.specs.Names.{names_form}
use Rattle.rec_forms.specs.NumberLaws.{text_back, text_well_formed}
use Rattle.rec_forms.specs.RiseLaws.{match_holds, Rise-with_name}
use Rattle.rec_forms.specs.Shape.{text_of}
use Rattle.rec_forms.specs.WellFormedLaws.{anything, and_then_holds, choice_holds}
use Rattle.rec_forms.specs.WellFormedLaws.{object_then, required_then}
use Rattle.rec_forms.specs.Writable.{IsWritable, struct_writable, string_writable, list_writable}
use Rattle.rec_format.specs.declared.suites.RerunTestSuiteInfo.{RerunTestSuiteInfo}
use Rattle.rec_format.specs.SuiteForms.{suite_value, suite_form, IsSuite, suites_value}
use Rattle.rec_format.specs.SuiteForms.{joined_by, suites_from, suites_form, AreSuites}
use Rattle.rec_format.specs.Suites.{put_suite, suite_of, SuitesRise}

pub suite_back : (s : RerunTestSuiteInfo) → IsSuite s → suite_form (suite_value s) ≡ Some s
unfolding suite_form
suite_back s h = simp (
  get_member-members_of,
  text_back _ h.binary_id,
  names_back _ h.passing,
  names_back _ h.outstanding,
)

pub suite_writable : (s : RerunTestSuiteInfo) → IsSuite s → IsWritable 2 (suite_value s)
suite_writable s h =
    struct_writable _ refl (
      string_writable s.binary_id h.binary_id,
      (names_writable s.passing h.passing, (names_writable s.outstanding h.outstanding, tt)),
    )

-- ---- what goes last

-- among suites that rise, each before this one has a smaller id
smaller_before : (first : RerunTestSuiteInfo) (done : List RerunTestSuiteInfo)
    (s : RerunTestSuiteInfo) (rest : List RerunTestSuiteInfo)
    → AllByRecursion (λ id. slice_cmp nat_cmp first.binary_id id ≡ Less)
    (map (λ suite. suite.binary_id) (done ++ s ∷ rest))
    → slice_cmp nat_cmp first.binary_id s.binary_id ≡ Less
smaller_before first [] s rest h = h.0
smaller_before first (d ∷ ds) s rest h = smaller_before first ds s rest h.1

above_first : (first : RerunTestSuiteInfo) (done : List RerunTestSuiteInfo) (s : RerunTestSuiteInfo)
    (rest : List RerunTestSuiteInfo)
    → SuitesRise ((first ∷ done) ++ s ∷ rest)
    → slice_cmp nat_cmp s.binary_id first.binary_id ≡ Greater
unfolding IsStrictlySortedBy
above_first first done s rest h =
    nat_list_cmp_total.antisymm s.binary_id first.binary_id
    ∙ ap ordering_reverse (smaller_before first done s rest h.0)

rise_after : (first : RerunTestSuiteInfo) (suites : List RerunTestSuiteInfo)
    → SuitesRise (first ∷ suites) → SuitesRise suites
unfolding IsStrictlySortedBy
rise_after first suites h = h.1

put_suite-last : (done : List RerunTestSuiteInfo) (s : RerunTestSuiteInfo)
    (rest : List RerunTestSuiteInfo)
    → SuitesRise (done ++ s ∷ rest)
    → put_suite s done ≡ done ++ s ∷ []
put_suite-last [] s rest h = refl
put_suite-last (first ∷ done) s rest h = rw (
  above_first first done s rest h,
  put_suite-last done s rest (rise_after first (done ++ s ∷ rest) h),
)

differs : (first : RerunTestSuiteInfo) (done : List RerunTestSuiteInfo) (s : RerunTestSuiteInfo)
    (rest : List RerunTestSuiteInfo)
    → SuitesRise ((first ∷ done) ++ s ∷ rest) → bytes_eq s.binary_id first.binary_id ≡ false
differs first done s rest h =
    sym (is_eq-slice_cmp s.binary_id first.binary_id) ∙ ap is_eq (above_first first done s rest h)

suite_of-last : (done : List RerunTestSuiteInfo) (s : RerunTestSuiteInfo)
    (rest : List RerunTestSuiteInfo)
    → SuitesRise (done ++ s ∷ rest)
    → suite_of s.binary_id done ≡ None
suite_of-last [] s rest h = refl
suite_of-last (first ∷ done) s rest h =
    rw
    (differs first done s rest h, suite_of-last done s rest (rise_after first (done ++ s ∷ rest) h))

joined_by-last : (done : List RerunTestSuiteInfo) (s : RerunTestSuiteInfo)
    (rest : List RerunTestSuiteInfo)
    → SuitesRise (done ++ s ∷ rest)
    → joined_by done s ≡ Some (done ++ s ∷ [])
joined_by-last done s rest h = rw (suite_of-last done s rest h, put_suite-last done s rest h)

-- ---- all of them

append_none : (suites : List RerunTestSuiteInfo) → suites ++ [] ≡ suites
append_none [] = refl
append_none (s ∷ ss) = ap (λ more. s ∷ more) (append_none ss)

each_back : (rest done : List RerunTestSuiteInfo) → SuitesRise (done ++ rest)
    → AllByRecursion IsSuite rest
    → suites_from done (items_of (map suite_value rest)) ≡ Some (done ++ rest)
each_back [] done h all = rw (append_none done)
each_back (s ∷ rest) done h all =
    let next = each_back rest (done ++ s ∷ []) (rw (append_assoc done (s ∷ []) rest) h) all.1 in
    rw (suite_back s all.0, joined_by-last done s rest h, next, append_assoc done (s ∷ []) rest)

pub suites_back : (suites : List RerunTestSuiteInfo) → AreSuites suites
    → suites_form (suites_value suites) ≡ Some suites
unfolding suites_form
suites_back suites h = each_back suites [] h.rise h.each

pub suites_writable : (suites : List RerunTestSuiteInfo) → AreSuites suites
    → IsWritable 3 (suites_value suites)
suites_writable suites h = list_writable suite_value suite_writable suites h.each

-- ---- what is read is well-formed

pub suite_well_formed : GivesWellFormed IsSuite suite_form
unfolding suite_form
suite_well_formed = record {
  each = λ d.
      object_then d _ (λ ms.
      required_then text_of (codes "binary_id") ms _ text_well_formed (λ binary_id binary_id_is.
      required_then names_form (codes "passing") ms _ names_well_formed (λ passing passing_is.
      required_then names_form (codes "outstanding") ms _ names_well_formed
      (λ outstanding outstanding_is.
      record {
        is =
            record { binary_id = binary_id_is; passing = passing_is; outstanding = outstanding_is };
      }))));
}

-- ---- a suite among others

suite_known_in : (s : RerunTestSuiteInfo) (suites : List RerunTestSuiteInfo) → IsSuite s
    → AllByRecursion IsSuite suites → AllByRecursion IsSuite (put_suite s suites)
suite_known_in s [] h all = (h, tt)
suite_known_in s (first ∷ more) h all =
    match_holds (AllByRecursion IsSuite) (slice_cmp nat_cmp s.binary_id first.binary_id) _ _ _
    (h, all) (h, all.1) (all.0, suite_known_in s more h all.1)

abbrev ids : List RerunTestSuiteInfo → List (List ℕ)
ids suites = map (λ suite. suite.binary_id) suites

-- the ids of what a comparison chooses are what it chooses of the ids
ids-match : (o : Ordering) (a b c : List RerunTestSuiteInfo) (x y z : List (List ℕ)) → ids a ≡ x
    → (o ≡ Equal → ids b ≡ y) → ids c ≡ z
    → ids (match_ordering o a b c) ≡ match_ordering o x y z
ids-match Less a b c x y z e f g = e
ids-match Equal a b c x y z e f g = f refl
ids-match Greater a b c x y z e f g = g

is_same : (s first : List ℕ) → slice_cmp nat_cmp s first ≡ Equal → s ≡ first
is_same s first e = (bytes_eq-Decides s first).0 (sym (is_eq-slice_cmp s first) ∙ ap is_eq e)

-- a suite is put among the suites as its id is among their ids
ids-put_suite : (s : RerunTestSuiteInfo) (suites : List RerunTestSuiteInfo)
    → ids (put_suite s suites) ≡ with_name (ids suites) s.binary_id
ids-put_suite s [] = refl
ids-put_suite s (first ∷ more) =
    ids-match (slice_cmp nat_cmp s.binary_id first.binary_id) _ _ _ _ _ _ refl
    (λ e. ap (λ id. id ∷ ids more) (is_same s.binary_id first.binary_id e))
    (ap (λ names. first.binary_id ∷ names) (ids-put_suite s more))

joined_well_formed : (suites : List RerunTestSuiteInfo) (s : RerunTestSuiteInfo) → IsSuite s
    → AreSuites suites → Holds AreSuites (joined_by suites s)
joined_well_formed suites s h are =
    choice_holds (λ (o : Option (List RerunTestSuiteInfo)). Holds AreSuites o)
    (is_some (suite_of s.binary_id suites)) None (Some (put_suite s suites))
    (λ _. record { is = tt })
    (λ _. record {
      is = record {
        rise = rw (ids-put_suite s suites) (Rise-with_name (ids suites) s.binary_id are.rise);
        each = suite_known_in s suites h are.each;
      };
    })

suites_in_well_formed : (ds : Items) (suites : List RerunTestSuiteInfo) → AreSuites suites
    → Holds AreSuites (suites_from suites ds)
suites_in_well_formed no_items suites are = record { is = are }
suites_in_well_formed (item d ds) suites are =
    and_then_holds (λ s. option_and_then (λ more. suites_from more ds) (joined_by suites s))
    (suite_form d) (suite_well_formed.each d) (λ s h.
    and_then_holds (λ more. suites_from more ds) (joined_by suites s)
    (joined_well_formed suites s h are) (λ more is. suites_in_well_formed ds more is))

pub suites_well_formed : GivesWellFormed AreSuites suites_form
unfolding suites_form IsStrictlySortedBy
suites_well_formed = record {
  each =
      λ d. and_then_holds (suites_from []) (as_array d) (anything (as_array d))
      (λ ds _. suites_in_well_formed ds [] (record { rise = tt; each = tt }));
}
