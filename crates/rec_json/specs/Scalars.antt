-- The value that a token alone is.
use Rattle.std.specs.Prelude.{Option, Some, None, option_map}
use Rattle.json.specs.Token.{Token}
use Rattle.serde_json.specs.Data.{Data, null, boolean, number, string}
use Rattle.serde_json.specs.Read.{number_of}

abbrev pub scalar_of : Token → Option Data
scalar_of Token.begin_object = None
scalar_of Token.end_object = None
scalar_of Token.begin_array = None
scalar_of Token.end_array = None
scalar_of (Token.key s) = None
scalar_of (Token.string s) = Some (string s)
scalar_of (Token.number s) = option_map number (number_of s)
scalar_of (Token.boolean b) = Some (boolean b)
scalar_of Token.null = Some null
scalar_of Token.bad = None
