-- No string among the tokens of a text is longer than the text.
use Rattle.std.proofs.Common.{ℕ, ◌+◌, ◌≤◌, Bool, true, false, cond, ◌&&◌, ◌==◌, nat_lt, List}
use Rattle.std.proofs.Common.{[], ◌∷◌, length, Option, Some, None, option_and_then, arith}
use Rattle.std.proofs.lemmas.List.{length-append}
use Rattle.std.specs.Char.{encode_utf8}
use Rattle.json.specs.Lex.{Lexeme, token, comma, colon, Class, quote, backslash}
use Rattle.json.specs.Lex.{operator, space, other, class, operator_lexeme, string_token}
use Rattle.json.specs.Lex.{Mode, between, in_word, in_string, in_escape, lex_byte, lex}
use Rattle.json.specs.Lex.{Place, fresh, after_value, after_comma, after_key, begins_colon}
use Rattle.json.specs.Lex.{may_begin, may_close, if_allowed, place_token, punctuate, tokens}
use Rattle.json.specs.Text.{code_unit, short_escape, is_high_surrogate}
use Rattle.json.specs.Text.{is_low_surrogate, surrogate_pair, Within, plain}
use Rattle.json.specs.Text.{after_backslash, after_u, after_high, prepend, content}
use Rattle.json.specs.Token.{Token, begin_object, end_object, begin_array}
use Rattle.json.specs.Token.{end_array, key, string, number, boolean, null, bad}
use Rattle.json.specs.Word.{after_number, number_before, ends_word, head, word}
use Rattle.rec_export.proofs.ShortTexts.{AtMost, longer}

-- ---- the content of a string

either : (n : ℕ) (b : Bool) (o p : Option (List ℕ)) → AtMost n o → AtMost n p
    → AtMost n (cond b o p)
either n true o p h k = h
either n false o p h k = k

then : (n : ℕ) (f : ℕ → Option (List ℕ)) (o : Option ℕ) → ((u : ℕ) → AtMost n (f u))
    → AtMost n (option_and_then f o)
then n f None h = tt
then n f (Some u) h = h u

prepended : (n m : ℕ) (a : List ℕ) (o : Option (List ℕ)) → AtMost m o → length a + m ≤ n
    → AtMost n (prepend a o)
prepended n m a None h le = tt
prepended n m a (Some s) h le = omega (arith, h, le, length-append a s)

encoded : (u : ℕ) → length (encode_utf8 u) ≤ 4
unfolding encode_utf8
encoded u = grind arith

content_short : (w : Within) (xs : List ℕ) → AtMost (length xs) (content w xs)
unfolding content
content_short plain [] = tt
content_short plain (x ∷ xs) =
    let n = length (x ∷ xs) in
    either n (x == 34) (Some []) _ (omega arith) (either n (x == 92) _ _
    (longer n (length xs) _ (content_short after_backslash xs) (omega arith))
    (either n (nat_lt x 32) None _ tt
    (prepended n (length xs) (x ∷ []) _ (content_short plain xs) (omega arith))))
content_short after_backslash [] = tt
content_short after_backslash (x ∷ xs) =
    let n = length (x ∷ xs) in
    either n (x == 117) _ _ (longer n (length xs) _ (content_short after_u xs) (omega arith))
    (then n _ (short_escape x)
    (λ c. prepended n (length xs) (c ∷ []) _ (content_short plain xs) (omega arith)))
content_short after_u [] = tt
content_short after_u (a ∷ []) = tt
content_short after_u (a ∷ b ∷ []) = tt
content_short after_u (a ∷ b ∷ c ∷ []) = tt
content_short after_u (a ∷ b ∷ c ∷ d ∷ xs) =
    let n = length (a ∷ b ∷ c ∷ d ∷ xs) in
    then n _ (code_unit a b c d) (λ u. either n (is_high_surrogate u) _ _
    (longer n (length xs) _ (content_short (after_high u) xs) (omega arith))
    (either n (is_low_surrogate u) None _ tt (prepended n (length xs) (encode_utf8 u) _
    (content_short plain xs) (omega (arith, encoded u)))))
content_short (after_high h) [] = tt
content_short (after_high h) (s ∷ []) = tt
content_short (after_high h) (s ∷ u ∷ []) = tt
content_short (after_high h) (s ∷ u ∷ a ∷ []) = tt
content_short (after_high h) (s ∷ u ∷ a ∷ b ∷ []) = tt
content_short (after_high h) (s ∷ u ∷ a ∷ b ∷ c ∷ []) = tt
content_short (after_high h) (s ∷ u ∷ a ∷ b ∷ c ∷ d ∷ xs) =
    let n = length (s ∷ u ∷ a ∷ b ∷ c ∷ d ∷ xs) in
    either n ((s == 92) && (u == 117)) _ None
    (then n _ (code_unit a b c d) (λ l. either n (is_low_surrogate l) _ None
    (prepended n (length xs) (encode_utf8 (surrogate_pair h l)) _ (content_short plain xs)
    (omega (arith, encoded (surrogate_pair h l)))) tt)) tt

-- ---- tokens

module _ (n : ℕ) where
  abbrev pub IsShortToken : Token → Type 0
  IsShortToken begin_object = Unit {0}
  IsShortToken end_object = Unit {0}
  IsShortToken begin_array = Unit {0}
  IsShortToken end_array = Unit {0}
  IsShortToken (key s) = Unit {0}
  IsShortToken (string s) = length s ≤ n
  IsShortToken (number s) = Unit {0}
  IsShortToken (boolean b) = Unit {0}
  IsShortToken null = Unit {0}
  IsShortToken bad = Unit {0}

  abbrev pub AreShortTokens : List Token → Type 0
  AreShortTokens [] = Unit {0}
  AreShortTokens (t ∷ ts) = IsShortToken t × AreShortTokens ts

  one_of : (b : Bool) (t u : Token) → IsShortToken t → IsShortToken u → IsShortToken (cond b t u)
  one_of true t u h k = h
  one_of false t u h k = k

  number_short : (t : List ℕ) (o : Option (List ℕ)) → IsShortToken (number_before t o)
  number_short t None = tt
  number_short t (Some r) = one_of (ends_word r) _ bad tt tt

  word_short : (t : List ℕ) → IsShortToken (word t)
  unfolding word
  word_short t =
      one_of (head t == 116) _ _ (one_of _ (boolean true) bad tt tt)
      (one_of (head t == 102) _ _ (one_of _ (boolean false) bad tt tt)
      (one_of (head t == 110) _ _ (one_of _ null bad tt tt) (number_short t (after_number t))))

  string_short : (o : Option (List ℕ)) → AtMost n o → IsShortToken (string_token o)
  string_short None h = tt
  string_short (Some s) h = h

  -- ---- lexemes

  abbrev IsShortLexeme : Lexeme → Type 0
  IsShortLexeme (token t) = IsShortToken t
  IsShortLexeme comma = Unit {0}
  IsShortLexeme colon = Unit {0}

  abbrev AreShortLexemes : List Lexeme → Type 0
  AreShortLexemes [] = Unit {0}
  AreShortLexemes (l ∷ ls) = IsShortLexeme l × AreShortLexemes ls

  one_lexeme : (b : Bool) (l k : Lexeme) → IsShortLexeme l → IsShortLexeme k
      → IsShortLexeme (cond b l k)
  one_lexeme true l k p q = p
  one_lexeme false l k p q = q

  operator_short : (x : ℕ) → IsShortLexeme (operator_lexeme x)
  operator_short x =
      one_lexeme (x == 123) (token begin_object) _ tt
      (one_lexeme (x == 125) (token end_object) _ tt (one_lexeme (x == 91) (token begin_array) _ tt
      (one_lexeme (x == 93) (token end_array) _ tt (one_lexeme (x == 44) comma colon tt tt))))

  byte_short : (m : Mode) (c : Class) (x : ℕ) (xs : List ℕ) (k : Mode → List Lexeme)
      → AtMost n (content plain xs) → ((m : Mode) → AreShortLexemes (k m))
      → AreShortLexemes (lex_byte m c x xs k)
  byte_short between quote x xs k s h = (string_short (content plain xs) s, h in_string)
  byte_short between backslash x xs k s h = (tt, h in_word)
  byte_short between operator x xs k s h = (operator_short x, h between)
  byte_short between space x xs k s h = h between
  byte_short between other x xs k s h = (word_short (x ∷ xs), h in_word)
  byte_short in_word quote x xs k s h = h in_word
  byte_short in_word backslash x xs k s h = h in_word
  byte_short in_word operator x xs k s h = (operator_short x, h between)
  byte_short in_word space x xs k s h = h between
  byte_short in_word other x xs k s h = h in_word
  byte_short in_string quote x xs k s h = h between
  byte_short in_string backslash x xs k s h = h in_escape
  byte_short in_string operator x xs k s h = h in_string
  byte_short in_string space x xs k s h = h in_string
  byte_short in_string other x xs k s h = h in_string
  byte_short in_escape c x xs k s h = h in_string

  lexemes_short : (xs : List ℕ) (m : Mode) → length xs ≤ n → AreShortLexemes (lex m xs)
  unfolding lex
  lexemes_short [] m le = tt
  lexemes_short (x ∷ xs) m le =
      byte_short m (class x) x xs (λ k. lex k xs)
      (longer n (length xs) (content plain xs) (content_short plain xs) (omega (arith, le)))
      (λ k. lexemes_short xs k (omega (arith, le)))

  -- ---- commas and colons

  allowed : (b : Bool) (t : Token) (k : Place → List Token) (next : Place) → IsShortToken t
      → AreShortTokens (k next) → AreShortTokens (if_allowed b t k next)
  allowed true t k next h later = (h, later)
  allowed false t k next h later = (tt, tt)

  placed : (p : Place) (t : Token) (b : Bool) (k : Place → List Token) → IsShortToken t
      → ((next : Place) → AreShortTokens (k next)) → AreShortTokens (place_token p t b k)
  placed p begin_object b k h later = allowed (may_begin p) begin_object k fresh h (later fresh)
  placed p end_object b k h later =
      allowed (may_close p) end_object k after_value h (later after_value)
  placed p begin_array b k h later = allowed (may_begin p) begin_array k fresh h (later fresh)
  placed p end_array b k h later =
      allowed (may_close p) end_array k after_value h (later after_value)
  placed p (key s) b k h later = (tt, tt)
  placed p (string s) true k h later =
      allowed (may_begin p) (key s) k after_key tt (later after_key)
  placed p (string s) false k h later =
      allowed (may_begin p) (string s) k after_value h (later after_value)
  placed p (number s) b k h later =
      allowed (may_begin p) (number s) k after_value h (later after_value)
  placed p (boolean v) b k h later =
      allowed (may_begin p) (boolean v) k after_value h (later after_value)
  placed p null b k h later = allowed (may_begin p) null k after_value h (later after_value)
  placed p bad b k h later = (tt, tt)

  punctuated : (ls : List Lexeme) → AreShortLexemes ls → (p : Place)
      → AreShortTokens (punctuate p ls)
  unfolding punctuate
  punctuated [] h fresh = tt
  punctuated [] h after_value = tt
  punctuated [] h after_comma = (tt, tt)
  punctuated [] h after_key = (tt, tt)
  punctuated (token t ∷ ls) h p =
      placed p t (begins_colon ls) (λ next. punctuate next ls) h.0 (punctuated ls h.1)
  punctuated (comma ∷ ls) h fresh = (tt, tt)
  punctuated (comma ∷ ls) h after_value = punctuated ls h.1 after_comma
  punctuated (comma ∷ ls) h after_comma = (tt, tt)
  punctuated (comma ∷ ls) h after_key = (tt, tt)
  punctuated (colon ∷ ls) h fresh = (tt, tt)
  punctuated (colon ∷ ls) h after_value = (tt, tt)
  punctuated (colon ∷ ls) h after_comma = (tt, tt)
  punctuated (colon ∷ ls) h after_key = punctuated ls h.1 fresh

pub tokens_short : (text : List ℕ) → AreShortTokens (length text) (tokens text)
tokens_short text =
    punctuated (length text) (lex between text)
    (lexemes_short (length text) text between (omega arith)) fresh
