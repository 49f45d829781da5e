use Rattle.std.proofs.Common.{◌≡◌, ℕ, List, Bool, true, false, Option, Some, None}
use Rattle.std.proofs.Common.{if◌then◌else◌, option_and_then, refl, sym, subst, ap, ◌∙◌}
use Rattle.std.proofs.lemmas.Str.{is_utf8-from_IsUtf8, IsUtf8-from_is_utf8}
use Rattle.std.specs.Str.{is_utf8}
use Rattle.serde_json.specs.Data.{Data}
use Rattle.serde_json.specs.Read.{read}
use Rattle.rec_json.specs.Nodes.{view}
use Rattle.rec_forms.proofs.text_form.read_text.Goals as goal
use Rattle.rec_forms.specs.Gives.{Gives}
use Rattle.rec_forms.specs.TextForm.{bytes_form}

none_unless : {T : Type 0} (b : Bool) (o : Option T) → (b ≡ true → ⊥)
    → (if b then o else None) ≡ None
none_unless true o h = absurd (h refl)
none_unless false o h = refl

module _ {T : Type 0} (form : Data → Option T) (bytes : List ℕ) where
  no_text : (is_utf8 bytes ≡ true → ⊥) → bytes_form form bytes ≡ None
  no_text h = ap (option_and_then form) (none_unless (is_utf8 bytes) (read bytes) h)

  of_text : (text : List ℕ) (d : Data) → text ≡ bytes → is_utf8 bytes ≡ true → read text ≡ Some d
      → bytes_form form bytes ≡ form d
  of_text text d same utf8 is = rw (utf8, sym (ap read same) ∙ is) refl

pub returns-in_default-clause-read : goal.returns-in_default-clause-read
returns-in_default-clause-read g c =
    no_text g.T.Form.form_of c.args.bytes.now
    (λ e. c.in_default.ensures.cases.0 (IsUtf8-from_is_utf8 _ e))

pub returns-clause-read : goal.returns-clause-read
returns-clause-read g c =
    let utf8 = is_utf8-from_IsUtf8 _ c.in-Ok.ensures.cases.1 in
    let is = of_text g.T.Form.form_of c.args.bytes.now c.in-Ok.text.now (view c.in_ok-node.node)
    c.in-Ok.ensures.cases.0 utf8 c.in_ok-node.ensures in
    subst (Gives c.from_node.result) (sym is) c.from_node.ensures.read_node
