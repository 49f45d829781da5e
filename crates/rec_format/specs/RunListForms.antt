-- The values and forms of a run list.
use Rattle.std.specs.List.{AllByRecursion}
use Rattle.std.specs.Prelude.{[], ◌∷◌, Option, Some, IfSome, codes}
use Rattle.serde_json.specs.Data.{Data}
use Rattle.serde_json.specs.Find.{as_object}
use Rattle.rec_forms.specs.Lists.{list_value, list_form}
use Rattle.rec_forms.specs.Numbers.{u32_form}
use Rattle.rec_forms.specs.Shape.{◌>>=◌, natural, field, optional}
use Rattle.rec_forms.specs.Shape.{struct, required, maybe, defaulted}
use Rattle.rec_forms.specs.Times.{stamp_value, stamp_form, IsStamp}
use Rattle.rec_format.specs.declared.run_list.RecordedRunList.{RecordedRunList}
use Rattle.rec_format.specs.RunForms.{run_value, run_form, IsRun}
use Rattle.rec_format.specs.VersionForms.{IsNumber}

abbrev pub run_list_value : RecordedRunList → Data
run_list_value l = struct (
    field (codes "format-version") (natural l.format_version)
    ∷ optional (codes "last-pruned-at") stamp_value l.last_pruned_at
    ∷ field (codes "runs") (list_value run_value l.runs)
    ∷ [])

-- a list without runs may leave them out
unfoldable pub run_list_form : Data → Option RecordedRunList
run_list_form d = do
  ms ← as_object d
  format_version ← required u32_form (codes "format-version") ms
  last_pruned_at ← maybe stamp_form (codes "last-pruned-at") ms
  runs ← defaulted [] (list_form run_form) (codes "runs") ms
  Some (record { format_version = format_version; last_pruned_at = last_pruned_at; runs = runs })

pub record IsRunList (l : RecordedRunList) : Type 0 where
  pub format_version : IsNumber l.format_version
  pub last_pruned_at : IfSome l.last_pruned_at IsStamp
  pub runs : AllByRecursion IsRun l.runs
