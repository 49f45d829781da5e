-- What is found in members that grow at their end.
use Rattle.std.proofs.Common.{◌≡◌, ℕ, List, [], ◌∷◌, ◌++◌, Ordering, Less}
use Rattle.std.proofs.Common.{Equal, Greater, Some, ap, refl, ◌∙◌, Bor}
use Rattle.std.specs.BTreeMap.{insert_entry}
use Rattle.std.specs.Cmp.Lexicographic.{slice_cmp}
use Rattle.std.specs.Ordering.{match_ordering, nat_cmp}
use Rattle.serde_json.proofs.Views.{get_member-put, get_member-put_other}
use Rattle.serde_json.specs.Data.{put}
use Rattle.serde_json.specs.Find.{get_member}
use Rattle.rec_json.proofs.Found.{Entry, members_view-one_more}
use Rattle.rec_json.specs.declared.node.Node.{Node}
use Rattle.rec_json.specs.Nodes.{members_view, sorted_view, view}

pub last_found : (es : List Entry) (k : Bor (List ℕ)) (v : Node) (key : List ℕ) → k.now ≡ key
    → get_member key (members_view (es ++ (k, v) ∷ [])) ≡ Some (view v)
last_found es k v key same =
    ap (get_member key) (members_view-one_more es k v)
    ∙ rw same (get_member-put key (view v) (members_view es))

pub last_passed : (es : List Entry) (k : Bor (List ℕ)) (v : Node) (key : List ℕ) → (key ≡ k.now → ⊥)
    → get_member key (members_view (es ++ (k, v) ∷ [])) ≡ get_member key (members_view es)
last_passed es k v key other =
    ap (get_member key) (members_view-one_more es k v)
    ∙ get_member-put_other key k.now (view v) (members_view es) other

-- ---- in the order of the keys

abbrev pub Lent : Type 0
Lent = Bor (List ℕ) × Bor Node

abbrev pub compare : Bor (List ℕ) → Bor (List ℕ) → Ordering
compare a b = slice_cmp nat_cmp a.now b.now

sorted_view-match_ordering : (o : Ordering) (a b c : List Lent)
    → sorted_view (match_ordering o a b c)
    ≡ match_ordering o (sorted_view a) (sorted_view b) (sorted_view c)
sorted_view-match_ordering Less a b c = refl
sorted_view-match_ordering Equal a b c = refl
sorted_view-match_ordering Greater a b c = refl

pub sorted_view-insert_entry : (es : List Lent) (k : Bor (List ℕ)) (v : Bor Node)
    → sorted_view (insert_entry compare es k v) ≡ put k.now (view v.now) (sorted_view es)
sorted_view-insert_entry [] k v = refl
sorted_view-insert_entry (e ∷ es) k v =
    sorted_view-match_ordering (compare k e.0) _ _ _ ∙ rw (sorted_view-insert_entry es k v) refl
