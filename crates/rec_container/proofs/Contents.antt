-- The content under a name, as entries are added.
use Rattle.std.proofs.Common.{◌≡◌, ℕ, Bool, true, false, cond, List, []}
use Rattle.std.proofs.Common.{◌∷◌, ◌++◌, Option, Some, None, refl, ap, ◌∙◌}
use Rattle.std.proofs.lemmas.Slice.Eq.{bytes_eq-Decides}
use Rattle.std.specs.Str.{bytes_eq}
use Rattle.rec_container.specs.Container.{Entry, content_of}
use Rattle.rec_container.specs.Writing.{entry_named}

kept : (b : Bool) (content found : List ℕ) (old new : Option (List ℕ))
    → (old ≡ Some found → new ≡ Some found) → cond b (Some content) old ≡ Some found
    → cond b (Some content) new ≡ Some found
kept true content found old new next h = h
kept false content found old new next h = next h

-- it stays
pub content_of-found : (es fs : List Entry) (name content : List ℕ)
    → content_of es name ≡ Some content → content_of (es ++ fs) name ≡ Some content
content_of-found [] fs name content h = absurd cc
content_of-found (e ∷ es) fs name content h =
    kept (bytes_eq name e.name) e.content content _ _ (content_of-found es fs name content) h

skipped : (b : Bool) (content : List ℕ) (old new last : Option (List ℕ)) → (old ≡ None → new ≡ last)
    → cond b (Some content) old ≡ None → cond b (Some content) new ≡ last
skipped true content old new last next h = absurd cc
skipped false content old new last next h = next h

-- a name that isn't there may come later
pub content_of-missing : (es fs : List Entry) (name : List ℕ) → content_of es name ≡ None
    → content_of (es ++ fs) name ≡ content_of fs name
content_of-missing [] fs name h = refl
content_of-missing (e ∷ es) fs name h =
    skipped (bytes_eq name e.name) e.content _ _ (content_of fs name)
    (content_of-missing es fs name) h

-- as it does with the entry of this name
pub content_of-push : (es : List Entry) (name content : List ℕ) → content_of es name ≡ None
    → content_of (es ++ entry_named name content ∷ []) name ≡ Some content
content_of-push es name content h =
    content_of-missing es (entry_named name content ∷ []) name h
    ∙ ap (λ b. cond b (Some content) None) ((bytes_eq-Decides name name).1 refl)
