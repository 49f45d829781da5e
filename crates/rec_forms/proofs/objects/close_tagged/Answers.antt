use Rattle.std.specs.Prelude.{[], ◌∷◌, ◌++◌}
use Rattle.json.specs.Token.{begin_object, key}
use Rattle.rec_json.specs.Fields.{struct}
use Rattle.rec_forms.proofs.objects.close_tagged.Goals as goal

pub returns : goal.returns
returns c = λ before tag fs is.
    c.in_ok-end_tagged.ensures before tag (struct fs)
    (c.in_ok-end_struct.ensures ((before ++ begin_object ∷ []) ++ key tag ∷ []) fs is)
