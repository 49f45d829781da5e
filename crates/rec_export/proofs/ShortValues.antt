-- No string of a value is longer than the text that the value was read from.
use Rattle.std.proofs.Common.{ℕ, zero, suc, ◌≤◌, List, [], ◌∷◌, length, Option}
use Rattle.std.proofs.Common.{Some, None, IfSome, option_map, option_and_then}
use Rattle.std.specs.Cmp.Lexicographic.{slice_cmp}
use Rattle.std.specs.declared.cmp.Ordering.TheVariants.{Less, Equal, Greater}
use Rattle.std.specs.declared.cmp.Ordering.{Ordering}
use Rattle.std.specs.Ordering.{nat_cmp, match_ordering}
use Rattle.json.specs.Json as json
use Rattle.json.specs.Json.{Json, Items, Members, Parse, parse_map, after_end_array, read_key}
use Rattle.json.specs.Json.{items_step, members_step, items, members, value_with, value, if_last}
use Rattle.json.specs.Lex.{tokens}
use Rattle.json.specs.Token.{Token, begin_object, end_object, begin_array}
use Rattle.json.specs.Token.{end_array, key, string, number, boolean, null, bad}
use Rattle.serde_json.specs.Data as parts
use Rattle.serde_json.specs.Data.{Data, Num, put}
use Rattle.serde_json.specs.Find.{get_member}
use Rattle.serde_json.specs.Read.{number_of, of_json, of_items, of_members, max_depth, read}
use Rattle.rec_export.proofs.ShortTokens.{AreShortTokens, tokens_short}

module _ (n : ℕ) where
  -- ---- by the grammar

  abbrev mutual
    HasShort : Json → Type 0
    HasShort json.null = Unit {0}
    HasShort (json.boolean b) = Unit {0}
    HasShort (json.number s) = Unit {0}
    HasShort (json.string s) = length s ≤ n
    HasShort (json.array js) = ItemsHaveShort js
    HasShort (json.object ms) = MembersHaveShort ms

    ItemsHaveShort : Items → Type 0
    ItemsHaveShort json.no_items = Unit {0}
    ItemsHaveShort (json.item j js) = HasShort j × ItemsHaveShort js

    MembersHaveShort : Members → Type 0
    MembersHaveShort json.no_members = Unit {0}
    MembersHaveShort (json.member k j ms) = HasShort j × MembersHaveShort ms

  -- what is parsed, and what is left
  abbrev Gives : {A : Type 0} → (A → Type 0) → Option (A × List Token) → Type 0
  Gives P o = IfSome o (λ p. P p.0 × AreShortTokens n p.1)

  abbrev Keeps : {A : Type 0} → (A → Type 0) → Parse A → Type 0
  Keeps P parse = (ts : List Token) → AreShortTokens n ts → Gives P (parse ts)

  mapped : {A B : Type 0} (P : A → Type 0) (Q : B → Type 0) (f : A → B) → ((a : A) → P a → Q (f a))
      → (o : Option (A × List Token)) → Gives P o → Gives Q (parse_map f o)
  mapped P Q f each None h = tt
  mapped P Q f each (Some p) h = (each p.0 h.0, h.1)

  and_more : {B : Type 0} (Q : B → Type 0) (f : Json → B → B)
      → ((j : Json) (b : B) → HasShort j → Q b → Q (f j b)) → (parse : Parse B) → Keeps Q parse
      → (o : Option (Json × List Token)) → Gives HasShort o
      → Gives Q (option_and_then (λ q. parse_map (f q.0) (parse q.1)) o)
  and_more Q f each parse keeps None h = tt
  and_more Q f each parse keeps (Some q) h =
      mapped Q Q (f q.0) (λ b. each q.0 b h.0) _ (keeps q.1 h.1)

  closing : (ts : List Token) → AreShortTokens n ts → IfSome (after_end_array ts) (AreShortTokens n)
  closing [] h = tt
  closing (begin_object ∷ ts) h = tt
  closing (end_object ∷ ts) h = tt
  closing (begin_array ∷ ts) h = tt
  closing (end_array ∷ ts) h = h.1
  closing (key s ∷ ts) h = tt
  closing (string s ∷ ts) h = tt
  closing (number s ∷ ts) h = tt
  closing (boolean b ∷ ts) h = tt
  closing (null ∷ ts) h = tt
  closing (bad ∷ ts) h = tt

  naming : Keeps (λ (k : Option (List ℕ)). Unit {0}) read_key
  naming [] h = tt
  naming (begin_object ∷ ts) h = tt
  naming (end_object ∷ ts) h = (tt, h.1)
  naming (begin_array ∷ ts) h = tt
  naming (end_array ∷ ts) h = tt
  naming (key s ∷ ts) h = (tt, h.1)
  naming (string s ∷ ts) h = tt
  naming (number s ∷ ts) h = tt
  naming (boolean b ∷ ts) h = tt
  naming (null ∷ ts) h = tt
  naming (bad ∷ ts) h = tt

  module _ (parse : Parse Json) (keeps : Keeps HasShort parse) where
    item_turn : (later : Parse Items) → Keeps ItemsHaveShort later → (ts : List Token)
        → AreShortTokens n ts → (o : Option (List Token)) → IfSome o (AreShortTokens n)
        → Gives ItemsHaveShort (items_step parse later ts o)
    item_turn later again ts h (Some r) q = (tt, q)
    item_turn later again ts h None q =
        and_more ItemsHaveShort json.item (λ j js x y. (x, y)) later again (parse ts) (keeps ts h)

    items_keep : (k : ℕ) → Keeps ItemsHaveShort (items parse k)
    unfolding items
    items_keep zero ts h = tt
    items_keep (suc k) ts h =
        item_turn (items parse k) (items_keep k) ts h (after_end_array ts) (closing ts h)

    member_turn : (later : Parse Members) → Keeps MembersHaveShort later
        → (o : Option (Option (List ℕ) × List Token)) → Gives (λ (k : Option (List ℕ)). Unit {0}) o
        → Gives MembersHaveShort (option_and_then (λ q. members_step parse later q.0 q.1) o)
    member_turn later again None h = tt
    member_turn later again (Some (None, ts)) h = (tt, h.1)
    member_turn later again (Some (Some k, ts)) h =
        and_more MembersHaveShort (json.member k) (λ j ms x y. (x, y)) later again (parse ts)
        (keeps ts h.1)

    members_keep : (k : ℕ) → Keeps MembersHaveShort (members parse k)
    unfolding members
    members_keep zero ts h = tt
    members_keep (suc k) ts h =
        member_turn (members parse k) (members_keep k) (read_key ts) (naming ts h)

  with_keeps : (a : Parse Items) (o : Parse Members) → Keeps ItemsHaveShort a
      → Keeps MembersHaveShort o → Keeps HasShort (value_with a o)
  with_keeps a o p q [] h = tt
  with_keeps a o p q (begin_object ∷ ts) h =
      mapped MembersHaveShort HasShort json.object (λ ms x. x) _ (q ts h.1)
  with_keeps a o p q (end_object ∷ ts) h = tt
  with_keeps a o p q (begin_array ∷ ts) h =
      mapped ItemsHaveShort HasShort json.array (λ js x. x) _ (p ts h.1)
  with_keeps a o p q (end_array ∷ ts) h = tt
  with_keeps a o p q (key s ∷ ts) h = tt
  with_keeps a o p q (string s ∷ ts) h = h
  with_keeps a o p q (number s ∷ ts) h = h
  with_keeps a o p q (boolean b ∷ ts) h = h
  with_keeps a o p q (null ∷ ts) h = h
  with_keeps a o p q (bad ∷ ts) h = tt

  value_keeps : (depth : ℕ) → Keeps HasShort (value depth)
  unfolding value
  value_keeps zero = with_keeps (λ ts. None) (λ ts. None) (λ ts h. tt) (λ ts h. tt)
  value_keeps (suc d) =
      with_keeps (λ ts. items (value d) (length ts) ts) (λ ts. members (value d) (length ts) ts)
      (λ ts. items_keep (value d) (value_keeps d) (length ts) ts)
      (λ ts. members_keep (value d) (value_keeps d) (length ts) ts)

  last : (o : Option (Json × List Token)) → Gives HasShort o
      → IfSome (option_and_then (λ p. if_last p.0 p.1) o) HasShort
  last None h = tt
  last (Some (j, [])) h = h.0
  last (Some (j, t ∷ ts)) h = tt

  -- ---- as values

  abbrev mutual
    pub IsShort : Data → Type 0
    IsShort parts.null = Unit {0}
    IsShort (parts.boolean b) = Unit {0}
    IsShort (parts.number k) = Unit {0}
    IsShort (parts.string s) = length s ≤ n
    IsShort (parts.array ds) = AreShortItems ds
    IsShort (parts.object ms) = AreShortMembers ms

    pub AreShortItems : parts.Items → Type 0
    AreShortItems parts.no_items = Unit {0}
    AreShortItems (parts.item d ds) = IsShort d × AreShortItems ds

    pub AreShortMembers : parts.Members → Type 0
    AreShortMembers parts.no_members = Unit {0}
    AreShortMembers (parts.member k d ms) = IsShort d × AreShortMembers ms

  number_short : (o : Option Num) → IfSome (option_map parts.number o) IsShort
  number_short None = tt
  number_short (Some k) = tt

  under : {A : Type 0} (P : A → Type 0) (f : A → Data) → ((a : A) → P a → IsShort (f a))
      → (o : Option A) → IfSome o P → IfSome (option_map f o) IsShort
  under P f each None h = tt
  under P f each (Some a) h = each a h

  and_items : (o : Option Data) (p : Option parts.Items) → IfSome o IsShort → IfSome p AreShortItems
      → IfSome (option_and_then (λ d. option_map (parts.item d) p) o) AreShortItems
  and_items None p h k = tt
  and_items (Some d) None h k = tt
  and_items (Some d) (Some ds) h k = (h, k)

  and_then : {A B : Type 0} (P : A → Type 0) (Q : B → Type 0) (f : A → Option B)
      → ((a : A) → P a → IfSome (f a) Q) → (o : Option A) → IfSome o P
      → IfSome (option_and_then f o) Q
  and_then P Q f each None h = tt
  and_then P Q f each (Some a) h = each a h

  by_order : (o : Ordering) (a b c : parts.Members) → AreShortMembers a → AreShortMembers b
      → AreShortMembers c → AreShortMembers (match_ordering o a b c)
  by_order Less a b c x y z = x
  by_order Equal a b c x y z = y
  by_order Greater a b c x y z = z

  put_short : (k : List ℕ) (d : Data) (ms : parts.Members) → IsShort d → AreShortMembers ms
      → AreShortMembers (put k d ms)
  put_short k d parts.no_members h hs = (h, tt)
  put_short k d (parts.member l e ms) h hs =
      by_order (slice_cmp nat_cmp k l) (parts.member k d (parts.member l e ms))
      (parts.member l d ms) (parts.member l e (put k d ms)) (h, hs) (h, hs.1)
      (hs.0, put_short k d ms h hs.1)

  mutual
    json_short : (j : Json) → HasShort j → IfSome (of_json j) IsShort
    json_short json.null h = tt
    json_short (json.boolean b) h = tt
    json_short (json.number s) h = number_short (number_of s)
    json_short (json.string s) h = h
    json_short (json.array js) h =
        under AreShortItems parts.array (λ ds are. are) (of_items js) (items_short js h)
    json_short (json.object ms) h =
        under AreShortMembers parts.object (λ ms are. are) (of_members ms parts.no_members)
        (members_short ms parts.no_members h tt)

    items_short : (js : Items) → ItemsHaveShort js → IfSome (of_items js) AreShortItems
    items_short json.no_items h = tt
    items_short (json.item j js) h =
        and_items (of_json j) (of_items js) (json_short j h.0) (items_short js h.1)

    members_short : (ms : Members) (found : parts.Members) → MembersHaveShort ms
        → AreShortMembers found → IfSome (of_members ms found) AreShortMembers
    members_short json.no_members found h are = are
    members_short (json.member k j ms) found h are =
        and_then IsShort AreShortMembers (λ d. of_members ms (put k d found))
        (λ d is. members_short ms (put k d found) h.1 (put_short k d found is are)) (of_json j)
        (json_short j h.0)

  other_member : (o : Ordering) (later : Option Data) (d : Data) → IfSome later IsShort → IsShort d
      → IfSome (match_ordering o later (Some d) later) IsShort
  other_member Less later d h is = h
  other_member Equal later d h is = is
  other_member Greater later d h is = h

  pub member_short : (k : List ℕ) (ms : parts.Members) → AreShortMembers ms
      → IfSome (get_member k ms) IsShort
  member_short k parts.no_members h = tt
  member_short k (parts.member l d ms) h =
      other_member (slice_cmp nat_cmp k l) (get_member k ms) d (member_short k ms h.1) h.0

pub read_short : (text : List ℕ) → IfSome (read text) (IsShort (length text))
read_short text =
    let n = length text in
    and_then n (HasShort n) (IsShort n) of_json (json_short n) _
    (last n _ (value_keeps n max_depth (tokens text) (tokens_short text)))
