-- What the grammar reads at a token, an item or a member, as data.
use Rattle.std.proofs.Common.{◌≡◌, ℕ, zero, suc, ◌-◌, ◌<◌, ◌≤◌, List, [], ◌∷◌, length, Option}
use Rattle.std.proofs.Common.{Some, None, option_map, option_and_then, refl, ap, ◌∙◌, arith}
use Rattle.json.proofs.Grammar.{items_end, members_end, members_no_key}
use Rattle.json.proofs.Grammar.{value-begin_array, value-begin_object, value_is}
use Rattle.json.specs.declared.token.Token.TheVariants as read
use Rattle.json.specs.declared.token.Token.{Token as ReadToken}
use Rattle.json.specs.Json as json
use Rattle.json.specs.Json.{Parse, after_end_array, items, items_step}
use Rattle.json.specs.Json.{members, members_step, parse_map, read_key, value}
use Rattle.json.specs.Reads.{token_of}
use Rattle.json.specs.Token.{Token}
use Rattle.serde_json.specs.Data.{Data, Members, array, item, no_items, no_members, object, put}
use Rattle.serde_json.specs.Read.{converted, of_items, of_json, of_members}
use Rattle.rec_json.specs.Scalars.{scalar_of}

abbrev pub Left : Type 0 → Type 0
Left A = Option (A × List Token)

-- the members, put into those that are there
abbrev pub into : Members → json.Members → Option Members
into old ms = of_members ms old

-- ---- the parts of a conversion

-- what is read goes on from the rest
abbrev pub go_on : {A B : Type 0} → (A → List Token → Left B) → Left A → Left B
go_on f o = option_and_then (λ p. f p.0 p.1) o

map_twice : {A B : Type 0} (f : A → B) (r : List Token) (x : Option A)
    → option_map {U = B × List Token} (λ b. (b, r)) (option_map f x)
    ≡ parse_map f (option_map (λ a. (a, r)) x)
map_twice f r None = refl
map_twice f r (Some a) = refl

pub converted-array : (o : Left json.Items)
    → converted of_json (parse_map json.array o) ≡ parse_map array (converted of_items o)
converted-array None = refl
converted-array (Some p) = map_twice array p.1 (of_items p.0)

pub converted-object : (o : Left json.Members)
    → converted of_json (parse_map json.object o) ≡ parse_map object (converted (into no_members) o)
converted-object None = refl
converted-object (Some p) = map_twice object p.1 (of_members p.0 no_members)

-- ---- a token

pub at_array : (depth : ℕ) (ts : List Token) → 0 < depth
    → converted of_json (value depth (Token.begin_array ∷ ts))
    ≡ parse_map array (converted of_items (items (value (depth - 1)) (length ts) ts))
at_array depth ts some =
    ap (converted of_json) (value-begin_array depth ts some)
    ∙ converted-array (items (value (depth - 1)) (length ts) ts)

pub at_object : (depth : ℕ) (ts : List Token) → 0 < depth
    → converted of_json (value depth (Token.begin_object ∷ ts))
    ≡ parse_map object (converted (into no_members) (members (value (depth - 1)) (length ts) ts))
at_object depth ts some =
    ap (converted of_json) (value-begin_object depth ts some)
    ∙ converted-object (members (value (depth - 1)) (length ts) ts)

pub array_too_deep : (depth : ℕ) (ts : List Token) → depth ≡ 0
    → converted of_json (value depth (Token.begin_array ∷ ts)) ≡ None
unfolding value
array_too_deep depth ts none = rw none refl

pub object_too_deep : (depth : ℕ) (ts : List Token) → depth ≡ 0
    → converted of_json (value depth (Token.begin_object ∷ ts)) ≡ None
unfolding value
object_too_deep depth ts none = rw none refl

pub nothing_left : (depth : ℕ) → converted of_json (value depth []) ≡ None
nothing_left depth = ap (converted of_json) (value_is depth [])

pub at_scalar : (depth : ℕ) (t : ReadToken) (ts : List Token) → (t ≡ read.BeginArray → ⊥)
    → (t ≡ read.BeginObject → ⊥)
    → converted of_json (value depth (token_of t ∷ ts))
    ≡ option_map (λ d. (d, ts)) (scalar_of (token_of t))
at_scalar depth read.BeginObject ts no_array no_object = absurd (no_object refl)
at_scalar depth read.EndObject ts no_array no_object = ap (converted of_json) (value_is depth _)
at_scalar depth read.BeginArray ts no_array no_object = absurd (no_array refl)
at_scalar depth read.EndArray ts no_array no_object = ap (converted of_json) (value_is depth _)
at_scalar depth (read.Key s) ts no_array no_object = ap (converted of_json) (value_is depth _)
at_scalar depth (read.String s) ts no_array no_object = ap (converted of_json) (value_is depth _)
at_scalar depth (read.Number s) ts no_array no_object = ap (converted of_json) (value_is depth _)
at_scalar depth (read.Bool b) ts no_array no_object = ap (converted of_json) (value_is depth _)
at_scalar depth read.Null ts no_array no_object = ap (converted of_json) (value_is depth _)
at_scalar depth read.Bad ts no_array no_object = ap (converted of_json) (value_is depth _)

-- ---- lists

item_converted : (j : json.Json) (x : Option Data) → of_json j ≡ x → (o : Left json.Items)
    → converted of_items (parse_map (json.item j) o)
    ≡ option_and_then (λ d. parse_map (item d) (converted of_items o)) x
item_converted j None is None = refl
item_converted j (Some d) is None = refl
item_converted j None is (Some p) = rw is refl
item_converted j (Some d) is (Some p) = rw is (map_twice (item d) p.1 (of_items p.0))

at_rest : {A B : Type 0} (r : List Token) (f : A → List Token → Left B) (x : Option A)
    → option_and_then (λ a. f a r) x ≡ go_on f (option_map (λ a. (a, r)) x)
at_rest r f None = refl
at_rest r f (Some a) = refl

module _ (p : Parse json.Json) where
  first_item : (more : Parse json.Items) (o : Left json.Json)
      → converted of_items (option_and_then (λ q. parse_map (json.item q.0) (more q.1)) o)
      ≡ go_on (λ d r. parse_map (item d) (converted of_items (more r))) (converted of_json o)
  first_item more None = refl
  first_item more (Some q) =
      item_converted q.0 (of_json q.0) refl (more q.1)
      ∙ at_rest q.1 (λ d r. parse_map (item d) (converted of_items (more r))) (of_json q.0)

  -- the first item, and then the others from what is left
  pub one_item : (n : ℕ) (ts r : List Token) (d : Data) → 0 < n → after_end_array ts ≡ None
      → converted of_json (p ts) ≡ Some (d, r)
      → converted of_items (items p n ts)
      ≡ parse_map (item d) (converted of_items (items p (n - 1) r))
  unfolding items
  one_item zero ts r d some going first = absurd (omega arith)
  one_item (suc n) ts r d some going first =
      let less : n ≡ suc n - 1 = omega arith in
      ap (λ o. converted of_items (items_step p (items p n) ts o)) going
      ∙ first_item (items p n) (p ts)
      ∙ ap (go_on (λ e s. parse_map (item e) (converted of_items (items p n s)))) first
      ∙ ap (λ m. parse_map (item d) (converted of_items (items p m r))) less

  pub no_item : (n : ℕ) (ts : List Token) → after_end_array ts ≡ None
      → converted of_json (p ts) ≡ None → converted of_items (items p n ts) ≡ None
  unfolding items
  no_item zero ts going none = refl
  no_item (suc n) ts going none =
      ap (λ o. converted of_items (items_step p (items p n) ts o)) going
      ∙ first_item (items p n) (p ts)
      ∙ ap (go_on (λ d r. parse_map (item d) (converted of_items (items p n r)))) none

  pub items_closed : (n : ℕ) (ts r : List Token) → length ts ≤ n → after_end_array ts ≡ Some r
      → converted of_items (items p n ts) ≡ Some (no_items, r)
  items_closed n ts r enough end = ap (converted of_items) (items_end p n ts r enough end)

-- ---- objects

member_converted : (k : List ℕ) (j : json.Json) (old : Members) (x : Option Data) → of_json j ≡ x
    → (o : Left json.Members)
    → converted (into old) (parse_map (json.member k j) o)
    ≡ option_and_then (λ d. converted (into (put k d old)) o) x
member_converted k j old None is None = refl
member_converted k j old (Some d) is None = refl
member_converted k j old None is (Some p) = rw is refl
member_converted k j old (Some d) is (Some p) = rw is refl

module _ (p : Parse json.Json) (old : Members) where
  first_member : (k : List ℕ) (more : Parse json.Members) (o : Left json.Json)
      → converted (into old) (option_and_then (λ q. parse_map (json.member k q.0) (more q.1)) o)
      ≡ go_on (λ d r. converted (into (put k d old)) (more r)) (converted of_json o)
  first_member k more None = refl
  first_member k more (Some q) =
      member_converted k q.0 old (of_json q.0) refl (more q.1)
      ∙ at_rest q.1 (λ d r. converted (into (put k d old)) (more r)) (of_json q.0)

  -- the first member is put in, and then the others from what is left
  pub one_member : (n : ℕ) (k : List ℕ) (ts s r : List Token) (d : Data) → 0 < n
      → read_key ts ≡ Some (Some k, s) → converted of_json (p s) ≡ Some (d, r)
      → converted (into old) (members p n ts) ≡ converted (into (put k d old)) (members p (n - 1) r)
  unfolding members
  one_member zero k ts s r d some key first = absurd (omega arith)
  one_member (suc n) k ts s r d some key first =
      let less : n ≡ suc n - 1 = omega arith in
      ap (λ o. converted (into old) (option_and_then (λ q. members_step p (members p n) q.0 q.1) o))
      key
      ∙ first_member k (members p n) (p s)
      ∙ ap (go_on (λ e u. converted (into (put k e old)) (members p n u))) first
      ∙ ap (λ m. converted (into (put k d old)) (members p m r)) less

  pub no_member : (n : ℕ) (k : List ℕ) (ts s : List Token) → read_key ts ≡ Some (Some k, s)
      → converted of_json (p s) ≡ None → converted (into old) (members p n ts) ≡ None
  unfolding members
  no_member zero k ts s key none = refl
  no_member (suc n) k ts s key none =
      ap (λ o. converted (into old) (option_and_then (λ q. members_step p (members p n) q.0 q.1) o))
      key
      ∙ first_member k (members p n) (p s)
      ∙ ap (go_on (λ d r. converted (into (put k d old)) (members p n r))) none

  pub no_key : (n : ℕ) (ts : List Token) → read_key ts ≡ None
      → converted (into old) (members p n ts) ≡ None
  no_key n ts none = ap (converted (into old)) (members_no_key p n ts none)

  pub members_closed : (n : ℕ) (ts r : List Token) → length ts ≤ n → read_key ts ≡ Some (None, r)
      → converted (into old) (members p n ts) ≡ Some (old, r)
  members_closed n ts r enough end = ap (converted (into old)) (members_end p n ts r enough end)
