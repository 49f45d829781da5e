-- What is written of an object, field by field.
use Rattle.std.specs.Prelude.{◌≡◌, Bool, false, List}
use Rattle.json.specs.Token.{Token}
use Rattle.rec_json.specs.Fields.{Field}
use Rattle.rec_json.specs.Tokens.{with_fields}

-- Where memory has not run out after these fields, it had not before them; then they are written,
-- and what they are made of is well-formed.
pub record Writes (failed : Bool) (old : List Token) (fails : Bool) (new : List Token)
    (fs : List Field) (Known : Type 0) : Type 0 where
  pub goes : fails ≡ false → failed ≡ false
  pub written : fails ≡ false → new ≡ with_fields old fs
  pub known : fails ≡ false → Known
