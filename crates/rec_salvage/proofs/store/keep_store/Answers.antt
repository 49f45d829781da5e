use Rattle.std.proofs.Common.{◌≡◌, ◌-◌, ◌∙◌, ap, arith, length, map}
use Rattle.std.proofs.lemmas.Result.{IfOk-weaker}
use Rattle.rec_container.specs.NamedContents.{entry_of}
use Rattle.rec_salvage.proofs.store.keep_store.Goals as goal
use Rattle.rec_salvage.proofs.StoreSteps.{both_added, contents_short, count_added, store_is}
use Rattle.rec_salvage.specs.Keeping.{entries_in}

pub spell_store-store-requires : goal.spell_store-store-requires
spell_store-store-requires c =
    let es = c.args.prefix.now.entries in
    contents_short es c.args.gathered.now.paths c.deref.result.now c.requires
    (ap (map entry_of) c.deref.ensures.value ∙ both_added _ _ _ _ _ c.new-contents.ensures.items
    c.in_ok-add_metadata.ensures c.in_ok-add_named.ensures)

pub returns : goal.returns
returns c =
    let es = c.args.prefix.now.entries in
    let g = c.args.gathered.now in
    let is = ap (map entry_of) c.deref.ensures.value ∙ both_added _ _ _ _ _
    c.new-contents.ensures.items c.in_ok-add_metadata.ensures c.in_ok-add_named.ensures in
    let counted = count_added _ _ _ _ _ c.new-contents.ensures.items c.in_ok-add_metadata.ensures
    c.in_ok-add_named.ensures in
    let count : c.len.result - c.len-metadata.result ≡ length (entries_in g.paths es) =
    omega (arith, counted, c.len.ensures, c.len-metadata.ensures) in
    IfOk-weaker c.spell_store-store.result _ _ (λ s made events h. store_is es events g h
    c.deref.result.now (c.len.result - c.len-metadata.result) s is count made)
    c.spell_store-store.ensures
