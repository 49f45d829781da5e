use Rattle.std.proofs.Common.{◌≡◌, ◌≢◌, ℕ, List, Bool, true, false, if◌then◌else◌}
use Rattle.std.proofs.Common.{Some, codes, refl, sym, ap, ◌∙◌, string_bytes}
use Rattle.std.proofs.lemmas.Slice.Eq.{bytes_eq-Decides}
use Rattle.std.proofs.lemmas.Str.{is_utf8-from_IsUtf8, IsUtf8-string_bytes}
use Rattle.std.specs.Str.{bytes_eq, is_utf8}
use Rattle.serde_json.specs.Data.{Data}
use Rattle.serde_json.specs.Find.{as_str}
use Rattle.rec_json.specs.Nodes.{view}
use Rattle.rec_events.specs.declared.groups.TestGroup.TheVariants.{Global, Custom}
use Rattle.rec_forms.proofs.groups.TestGroupForm.from_node.Goals as goal
use Rattle.rec_forms.specs.Groups.{test_group_form}

custom : (b : Bool) (s : List ℕ) → (b ≡ true → s ≡ codes "@global") → s ≢ codes "@global"
    → (if b then Global else Custom s) ≡ Custom s
custom true s same other = absurd (other (same refl))
custom false s same other = refl

global : (b : Bool) (s : List ℕ) → (s ≡ codes "@global" → b ≡ true) → (s ≢ codes "@global" → ⊥)
    → (if b then Global else Custom s) ≡ Global
global true s same not_other = refl
global false s same not_other = absurd (not_other (λ e. cc (same e)))

module _ (v : Data) (s : List ℕ) (is : as_str v ≡ Some s) (text : is_utf8 s ≡ true) where
  read_custom : s ≢ codes "@global" → test_group_form v ≡ Some (Custom s)
  unfolding test_group_form
  read_custom other = rw (
    is,
    text,
    custom (bytes_eq s (codes "@global")) s (bytes_eq-Decides s (codes "@global")).0 other,
  )

  read_global : (s ≢ codes "@global" → ⊥) → test_group_form v ≡ Some Global
  unfolding test_group_form
  read_global not_other = rw (
    is,
    text,
    global (bytes_eq s (codes "@global")) s (bytes_eq-Decides s (codes "@global")).1 not_other,
  )

pub returns-in-Some-custom : goal.returns-in-Some-custom
returns-in-Some-custom c =
    let name = string_bytes c.in_ok-name.name in
    let is = sym c.in-Some.ensures ∙ ap Some (sym c.in_ok-name.ensures.ok) in
    let text = is_utf8-from_IsUtf8 name (IsUtf8-string_bytes c.in_ok-name.name) in
    let group = c.in-Some-custom.ensures in
    record {
      read_node =
          read_custom (view c.args.node.now) name is text (group.some.0 refl)
          ∙ ap Some (sym group.value);
    }

pub returns-in-None : goal.returns-in-None
returns-in-None c =
    let name = string_bytes c.in_ok-name.name in
    let is = sym c.in-Some.ensures ∙ ap Some (sym c.in_ok-name.ensures.ok) in
    let text = is_utf8-from_IsUtf8 name (IsUtf8-string_bytes c.in_ok-name.name) in
    record {
      read_node =
          read_global (view c.args.node.now) name is text
          (λ other. cc (c.in-None.ensures.some.1 other));
    }
