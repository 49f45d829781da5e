use Rattle.std.proofs.Common.{◌∙◌, Bool, List, String, is_some, string_bytes, sym, ap, refl}
use Rattle.std.specs.Global.{Global}
use Rattle.std.specs.List.{list_all}
use Rattle.rec_container.specs.Container.{content_of}
use Rattle.rec_salvage.proofs.GatheredLines.{strings_there}
use Rattle.rec_salvage.proofs.gathering.Gathered.add_event.Goals as goal

pub returns-then-not-has_all : goal.returns-then-not-has_all
returns-then-not-has_all c =
    let es = c.args.prefix.now.entries in
    let all : List (String Global)
    → Bool = list_all (λ k. is_some (content_of es (string_bytes k))) in (
      sym c.if-not-has_all.true ∙ c.has_all.ensures ∙ ap all c.deref.ensures.value
          ∙ strings_there es c.args.paths.items,
      λ h. refl,
      λ h. absurd cc,
    )

pub returns : goal.returns
returns c =
    let es = c.args.prefix.now.entries in
    let all : List (String Global)
    → Bool = list_all (λ k. is_some (content_of es (string_bytes k))) in (
      sym c.if-not-has_all.false ∙ c.has_all.ensures ∙ ap all c.deref.ensures.value
          ∙ strings_there es c.args.paths.items,
      λ h. absurd cc,
      λ h. record { count = refl; adds = c.in_ok-add_paths.ensures },
    )
