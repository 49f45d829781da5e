-- Fields that are written one after the other.
use Rattle.std.proofs.Common.{◌≡◌, refl, ap, ◌∙◌}
use Rattle.std.specs.Prelude.{ℕ, List, [], ◌∷◌, ◌++◌, Bool, false, Some}
use Rattle.json.specs.Token.{Token, begin_object, key}
use Rattle.rec_json.specs.Fields.{Field, in_order, struct}
use Rattle.rec_json.specs.Tokens.{value_tokens, with_field, with_fields}
use Rattle.rec_forms.specs.ObjectWriting.{Writes}

-- fields after fields
pub with_both : (fs gs : List Field) (ts : List Token)
    → with_fields (with_fields ts fs) gs ≡ with_fields ts (fs ++ gs)
with_both [] gs ts = refl
with_both (f ∷ fs) gs ts = with_both fs gs (with_field f.0 f.1 ts)

module _ {a b : Bool} {x y : List Token} {fs : List Field} {K : Type 0} where
  -- some fields after others
  infixr 40 ◌▸◌
  pub ◌▸◌ : {c : Bool} {z : List Token} {gs : List Field} {L : Type 0} → Writes a x b y fs K
      → Writes b y c z gs L → Writes a x c z (fs ++ gs) (K × L)
  ◌▸◌ {gs = gs} first second = record {
    goes = λ ok. first.goes (second.goes ok);
    written =
        λ ok. second.written ok ∙ ap (λ ts. with_fields ts gs) (first.written (second.goes ok))
        ∙ with_both fs gs x;
    known = λ ok. (first.known (second.goes ok), second.known ok);
  }

  -- what is known of fields says this
  pub saying : {L : Type 0} → (K → L) → Writes a x b y fs K → Writes a x b y fs L
  saying says w = record { goes = w.goes; written = w.written; known = λ ok. says (w.known ok) }

  -- the fields of an object were written after it was opened
  pub all_written : {before : List Token} → (a ≡ false → x ≡ before) → Writes a x b y fs K
      → b ≡ false → y ≡ with_fields before fs
  all_written begun w ok = w.written ok ∙ ap (λ ts. with_fields ts fs) (begun (w.goes ok))

  -- an object was written in a field
  pub object_written : {failed closed : Bool} {old new : List Token} {k : List ℕ} {P : Type 0}
      (gs : List Field)
      → (a ≡ false → failed ≡ false) → (a ≡ false → x ≡ (old ++ key k ∷ []) ++ begin_object ∷ [])
      → (closed ≡ false → b ≡ false)
      → ((before : List Token) (fields : List Field)
      → (b ≡ false → y ≡ with_fields (before ++ begin_object ∷ []) (in_order fields))
      → closed ≡ false → new ≡ before ++ value_tokens (struct fields))
      → in_order gs ≡ fs → (K → P) → Writes a x b y fs K
      → Writes failed old closed new ((k, Some (struct gs)) ∷ []) P
  object_written {old = old} {k = k} gs sound opened upto closes same says w = record {
    goes = λ ok. sound (w.goes (upto ok));
    written = λ ok. closes (old ++ key k ∷ []) gs (λ sure. rw same (all_written opened w sure)) ok;
    known = λ ok. says (w.known (upto ok));
  }
