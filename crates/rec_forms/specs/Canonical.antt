-- The values that a JSON text gives back: texts and keys are UTF-8, numbers are in range, and the
-- keys of an object ascend.
use Rattle.std.specs.Prelude.{ℕ, ◌<◌, ◌^◌, pos, negsuc, List, [], ◌∷◌, ⊤}
use Rattle.serde_json.specs.Data.{Num, unsigned, negative, float, Data, null}
use Rattle.serde_json.specs.Data.{boolean, number, string, array, object, Items}
use Rattle.serde_json.specs.Data.{no_items, item, Members, no_members, member}
use Rattle.rec_events.specs.Names.{IsText, AreTexts, Rise}

-- an integer of 64 bits; only what is below 0 is written as negative
abbrev pub IsInRange : Num → Type 0
IsInRange (unsigned n) = n < 2 ^ 64
IsInRange (negative (pos n)) = ⊥
IsInRange (negative (negsuc n)) = n < 2 ^ 63
IsInRange (float x) = ⊤

abbrev pub member_keys : Members → List (List ℕ)
member_keys no_members = []
member_keys (member k d ms) = k ∷ member_keys ms

abbrev mutual
  pub IsCanonical : Data → Type 0
  IsCanonical null = ⊤
  IsCanonical (boolean b) = ⊤
  IsCanonical (number n) = IsInRange n
  IsCanonical (string s) = IsText s
  IsCanonical (array ds) = AreCanonical ds
  IsCanonical (object ms) =
      AreTexts (member_keys ms) × Rise (member_keys ms) × ValuesAreCanonical ms

  pub AreCanonical : Items → Type 0
  AreCanonical no_items = ⊤
  AreCanonical (item d ds) = IsCanonical d × AreCanonical ds

  pub ValuesAreCanonical : Members → Type 0
  ValuesAreCanonical no_members = ⊤
  ValuesAreCanonical (member k d ms) = IsCanonical d × ValuesAreCanonical ms
