-- A variant, told apart by whether its value is a text or an object.
use Rattle.std.proofs.Common.{◌≡◌, ℕ, List, [], Option, Some, None, option_and_then, refl}
use Rattle.serde_json.specs.Data.{Data, null, boolean, number, string, array, object, Members}
use Rattle.serde_json.specs.Find.{as_object, as_str}
use Rattle.rec_forms.specs.Shape.{cased, named, variant}

-- where no variant is a name alone
pub variant_cased : {T : Type 0} (cases : List (List ℕ × (Data → Option T))) (d : Data)
    → variant [] cases d ≡ option_and_then (cased cases) (as_object d)
variant_cased cases null = refl
variant_cased cases (boolean b) = refl
variant_cased cases (number n) = refl
variant_cased cases (string s) = refl
variant_cased cases (array ds) = refl
variant_cased cases (object ms) = refl

abbrev pub named_or_cased : {T : Type 0} → List (List ℕ × T) → List (List ℕ × (Data → Option T))
    → Option (List ℕ) → Option Members → Option T
named_or_cased units cases None o = option_and_then (cased cases) o
named_or_cased units cases (Some s) o = named units s

pub variant_named_or_cased : {T : Type 0} (units : List (List ℕ × T))
    (cases : List (List ℕ × (Data → Option T))) (d : Data)
    → variant units cases d ≡ named_or_cased units cases (as_str d) (as_object d)
variant_named_or_cased units cases null = refl
variant_named_or_cased units cases (boolean b) = refl
variant_named_or_cased units cases (number n) = refl
variant_named_or_cased units cases (string s) = refl
variant_named_or_cased units cases (array ds) = refl
variant_named_or_cased units cases (object ms) = refl
