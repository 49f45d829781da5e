-- What is kept of the setup scripts of a history from an event on, while its events are gone
-- through from the last to the first.
use Rattle.std.specs.BTreeMap.{get}
use Rattle.std.specs.Ordering.{nat_cmp}
use Rattle.std.specs.Prelude.{◌≡◌, ◌==◌, ℕ, List, [], ◌∷◌, ◌++◌, reverse, Some}
use Rattle.std.specs.Prelude.{if◌then◌else◌}
use Rattle.rec_view.specs.declared.scripts.ScriptAct.{ScriptAct}
use Rattle.rec_view.specs.declared.scripts.Scripts.{Scripts}
use Rattle.rec_view.specs.Ends.{first_from}
use Rattle.rec_view.specs.Scripts.{cuts_script, scripts_from}

-- the scripts that start from i on, the last one first, and where each index is cut first
pub record HasScripts (i : ℕ) (acts : List ScriptAct) (s : Scripts) : Type 0 where
  pub views : s.views.items ≡ reverse (scripts_from i acts)
  pub cuts : (index : ℕ) → get nat_cmp s.cuts index ≡ first_from (cuts_script index) i acts

-- a script of an index starts at i
pub record OpensScript (i index : ℕ) (old new : Scripts) : Type 0 where
  pub views : new.views.items
      ≡ old.views.items ++ record { from = i; to = get nat_cmp old.cuts index } ∷ []
  pub cuts : new.cuts ≡ old.cuts

-- what is open of an index is cut at i
pub record CutsScript (i index : ℕ) (old new : Scripts) : Type 0 where
  pub views : new.views ≡ old.views
  pub cuts : (n : ℕ) → get nat_cmp new.cuts n
      ≡ (if index == n then Some i else get nat_cmp old.cuts n)
