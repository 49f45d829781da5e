-- Nodes that were found, one after another.
use Rattle.std.proofs.Common.{◌≡◌, ℕ, List, [], ◌∷◌, ◌++◌, Some, None}
use Rattle.std.proofs.Common.{map, refl, ap, Bor, Global, Vec, rules}
use Rattle.json.specs.Json.{parse_map}
use Rattle.json.specs.Token.{Token}
use Rattle.serde_json.specs.Data.{Items, Members, array, item, no_items, no_members, object, put}
use Rattle.rec_json.proofs.ReadSteps.{Left}
use Rattle.rec_json.specs.declared.node.Node.{Array, Node, Object, the_lemmas}
use Rattle.rec_json.specs.Nodes.{items_view, members_view, put_all, view}

abbrev pub Entry : Type 0
Entry = Bor (List ℕ) × Node

pub view-Array : (v : Vec Node Global) → view (Array v) ≡ array (items_view v.items)
view-Array v = search (rules, the_lemmas)

pub view-Object : (v : Vec Entry Global) → view (Object v) ≡ object (members_view v.items)
view-Object v = search (rules, the_lemmas)

-- ---- lists

-- these items before others
abbrev pub before : List Node → Items → Items
before [] rest = rest
before (v ∷ vs) rest = item (view v) (before vs rest)

abbrev pub after : List Node → Left Items → Left Items
after vs o = parse_map (before vs) o

before-one_more : (vs : List Node) (v : Node) (rest : Items)
    → before vs (item (view v) rest) ≡ before (vs ++ v ∷ []) rest
before-one_more [] v rest = refl
before-one_more (w ∷ vs) v rest = ap (item (view w)) (before-one_more vs v rest)

pub after-one_more : (vs : List Node) (v : Node) (o : Left Items)
    → after vs (parse_map (item (view v)) o) ≡ after (vs ++ v ∷ []) o
after-one_more vs v None = refl
after-one_more vs v (Some p) = ap (λ ds. Some (ds, p.1)) (before-one_more vs v p.0)

pub after-none : (o : Left Items) → o ≡ after [] o
after-none None = refl
after-none (Some p) = refl

before-nothing : (vs : List Node) → before vs no_items ≡ items_view vs
before-nothing [] = refl
before-nothing (v ∷ vs) = ap (item (view v)) (before-nothing vs)

pub after-nothing : (vs : List Node) (r : List Token)
    → after vs (Some (no_items, r)) ≡ Some (items_view vs, r)
after-nothing vs r = ap (λ ds. Some (ds, r)) (before-nothing vs)

-- ---- objects

put_all-one_more : (ms : Members) (es : List Entry) (k : Bor (List ℕ)) (v : Node)
    → put_all ms (map (λ e. (e.0, view e.1)) (es ++ (k, v) ∷ []))
    ≡ put k.now (view v) (put_all ms (map (λ e. (e.0, view e.1)) es))
put_all-one_more ms [] k v = refl
put_all-one_more ms (e ∷ es) k v = put_all-one_more (put e.0.now (view e.1) ms) es k v

pub members_view-one_more : (es : List Entry) (k : Bor (List ℕ)) (v : Node)
    → members_view (es ++ (k, v) ∷ []) ≡ put k.now (view v) (members_view es)
members_view-one_more es k v = put_all-one_more no_members es k v
