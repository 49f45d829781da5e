use Rattle.std.proofs.Common.{ℕ, List, ap, ◌∙◌, ◌++◌, ◌∷◌, []}
use Rattle.rec_reading.proofs.info.info_text.Goals as goal
use Rattle.rec_reading.proofs.ManifestListed.{info_made}

pub returns : goal.returns
returns c = λ es is.
    let bundle = c.args.bundle.now in
    info_made bundle.limit bundle.bytes c.manifest.result.now c.manifest.ensures.judged es is
    c.push.new.self.items
    (c.in_ok-push.ensures.items ∙ ap (λ (l : List ℕ). l ++ 10 ∷ []) c.in_ok-text.ensures.text)
