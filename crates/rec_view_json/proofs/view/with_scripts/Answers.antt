use Rattle.std.proofs.Common.{[], ◌∷◌, ◌∙◌, Some, IfOk, ap, codes, subst, sym}
use Rattle.std.specs.List.{AllByRecursion}
use Rattle.std.specs.Prelude.{⊤}
use Rattle.rec_forms.specs.Lists.{list_value}
use Rattle.rec_forms.specs.ObjectWriting.{Writes}
use Rattle.rec_view.specs.declared.scripts.ScriptView.{ScriptView}
use Rattle.rec_view_json.proofs.Fitting.{scripts_fit}
use Rattle.rec_view_json.proofs.view.with_scripts.Goals as goal
use Rattle.rec_view_json.specs.Fitting.{Fits}
use Rattle.rec_view_json.specs.Views.{script_value}

pub with_list-requires : goal.with_list-requires
with_list-requires c =
    let events = c.args.events.now in
    let gaps = c.args.gaps.now in
    let instants = c.args.instants.now in
    subst (AllByRecursion (λ (s : ScriptView). Fits events gaps instants s.from s.to))
    (sym (c.as_slice.ensures ∙ c.requires.scripts))
    (scripts_fit events gaps instants c.requires.gaps c.requires.instants)

pub returns : goal.returns
returns c =
    subst
    (λ d. IfOk c.with_list.result (λ w. Writes c.args.object c.args.text.now w c.with_list.new.text
    ((codes "scripts", Some d) ∷ []) ⊤))
    (ap (list_value (script_value c.args.events.now)) (c.as_slice.ensures ∙ c.requires.scripts))
    c.with_list.ensures
