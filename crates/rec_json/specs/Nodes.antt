-- The data that a node stands for.
use Rattle.std.specs.Borrow.{Bor}
use Rattle.std.specs.Prelude.{ℕ, List, [], ◌∷◌, map}
use Rattle.serde_json.specs.Data.{Data, null, boolean, number, string, array}
use Rattle.serde_json.specs.Data.{object, Items, Members, member, no_members, put}
use Rattle.serde_json.specs.View.{items_of, number_view}
use Rattle.rec_json.specs.declared.node.Node.TheOpen.{Node-F}
use Rattle.rec_json.specs.declared.node.Node.{Node, fold-Node}

-- the members with these put in one after another, so that of equal keys the last counts
abbrev pub put_all : Members → List (Bor (List ℕ) × Data) → Members
put_all ms [] = ms
put_all ms (p ∷ ps) = put_all (put p.0.now p.1 ms) ps

-- one level, with each node inside already seen as its data
abbrev pub view_step : Node-F Data → Data
view_step Node-F.Null = null
view_step (Node-F.Bool b) = boolean b
view_step (Node-F.Number n) = number (number_view n)
view_step (Node-F.String s) = string s.now
view_step (Node-F.Array v) = array (items_of v.items)
view_step (Node-F.Object v) = object (put_all no_members v.items)

abbrev pub view : Node → Data
view = fold-Node Data view_step

abbrev pub items_view : List Node → Items
items_view ns = items_of (map view ns)

abbrev pub members_view : List (Bor (List ℕ) × Node) → Members
members_view ms = put_all no_members (map (λ m. (m.0, view m.1)) ms)

-- members that stand in the order of their keys already, each key once
abbrev pub sorted_view : List (Bor (List ℕ) × Bor Node) → Members
sorted_view [] = no_members
sorted_view (m ∷ ms) = member m.0.now (view m.1.now) (sorted_view ms)
