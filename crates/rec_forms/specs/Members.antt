-- What is found in an object that was made of fields.
use Rattle.std.proofs.Common.{◌≡◌, ℕ, List, [], ◌∷◌, Option, Some, None, Bool, true}
use Rattle.std.proofs.Common.{false, true≢false, cond, bytes_eq, refl, sym, ◌∙◌, ap}
use Rattle.std.proofs.lemmas.Slice.Eq.{bytes_eq-Decides}
use Rattle.serde_json.proofs.Views.{get_member-put, get_member-put_other}
use Rattle.serde_json.specs.Data.{Data, Members, no_members}
use Rattle.serde_json.specs.Find.{get_member}
use Rattle.rec_json.specs.Fields.{later}
use Rattle.rec_forms.specs.Shape.{Field, with_member, with_members, members_of}

-- the last of the fields at this key
abbrev pub sought : Option Data → List ℕ → List Field → Option Data
sought found key [] = found
sought found key (f ∷ fs) = sought (cond (bytes_eq key f.0) (later found f.1) found) key fs

later-none : (found : Option Data) → later found None ≡ found
later-none None = refl
later-none (Some d) = refl

later-some : (found : Option Data) (d : Data) → later found (Some d) ≡ Some d
later-some None d = refl
later-some (Some e) d = refl

get_member-with_at : (b : Bool) (key k : List ℕ) (o : Option Data) (ms : Members)
    → bytes_eq key k ≡ b
    → get_member key (with_member k o ms) ≡ cond b (later (get_member key ms) o) (get_member key ms)
get_member-with_at true key k None ms is = sym (later-none (get_member key ms))
get_member-with_at true key k (Some d) ms is =
    let same : key ≡ k = (bytes_eq-Decides key k).0 is in
    rw (same, later-some (get_member k ms) d) (get_member-put k d ms)
get_member-with_at false key k None ms is = refl
get_member-with_at false key k (Some d) ms is =
    get_member-put_other key k d ms
    (λ same. true≢false (sym ((bytes_eq-Decides key k).1 same) ∙ is))

get_member-with_members : (key : List ℕ) (fs : List Field) (ms : Members)
    → get_member key (with_members ms fs) ≡ sought (get_member key ms) key fs
get_member-with_members key [] ms = refl
get_member-with_members key (f ∷ fs) ms =
    get_member-with_members key fs (with_member f.0 f.1 ms)
    ∙ ap (λ o. sought o key fs) (get_member-with_at _ key f.0 f.1 ms refl)

pub get_member-members_of : (key : List ℕ) (fs : List Field)
    → get_member key (members_of fs) ≡ sought None key fs
unfolding members_of
get_member-members_of key fs = get_member-with_members key fs no_members
