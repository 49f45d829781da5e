-- How options are read, one after the other.
use Rattle.std.proofs.Common.{◌≡◌, ℕ, ◌+◌, List, ◌∷◌, Some, Ok, refl, sym, ap, ◌∙◌}
use Rattle.std.specs.declared.alloc.Global.{Global}
use Rattle.std.specs.Prelude.{String, string_bytes}
use Rattle.rec_words.specs.declared.options.CommandName.{CommandName}
use Rattle.rec_words.specs.declared.options.OptionName.{OptionName}
use Rattle.rec_words.specs.declared.options.OptionValues.{OptionValues}
use Rattle.rec_words.specs.Options.{values_from, new_option, option_named, with_value}
use Rattle.rec_words.specs.Words.{texts}

module _ (command : CommandName) (values more : OptionValues) (at : ℕ) (name : OptionName) where
  -- after an option and its value, the other words give the rest
  values_from-option : (word text : List ℕ) (words : List (List ℕ))
      → new_option command values at (option_named word) ≡ Ok name
      → with_value values name text ≡ Some more
      → values_from command values at (word ∷ text ∷ words)
      ≡ values_from command more (at + 2) words
  values_from-option word text words new read = rw (new, read) refl

  pub values_from-read : (rest others after : List (String Global)) (word value : String Global)
      (word_text value_text : List ℕ)
      → rest ≡ word ∷ others → others ≡ value ∷ after → word_text ≡ string_bytes word
      → value_text ≡ string_bytes value
      → new_option command values at (option_named word_text) ≡ Ok name
      → with_value values name value_text ≡ Some more
      → values_from command more (at + 2) (texts after) ≡ values_from command values at (texts rest)
  values_from-read rest others after word value word_text value_text first second word_is value_is
      new read =
      let named =
      ap (λ text. new_option command values at (option_named text)) (sym word_is) ∙ new in
      let valued = ap (with_value values name) (sym value_is) ∙ read in
      let words = first ∙ ap (λ l. word ∷ l) second in
      sym (ap (λ l. values_from command values at (texts l)) words
      ∙ values_from-option (string_bytes word) (string_bytes value) (texts after) named valued)
