use Rattle.std.proofs.Common.{rules, ◌≡◌, ◌∷◌, ◌++◌, string_bytes, ap, sym, ◌∙◌}
use Rattle.rec_events.proofs.text_map.TextMapTryClone.try_clone.Goals as goal
use Rattle.rec_events.specs.PairLaws.{put_next}
use Rattle.rec_events.specs.Pairs.{pairs, put_pair}

pub loop-key-preserved : goal.loop-key-preserved
loop-key-preserved g c =
    let here = c.loop-key in
    let rest = pairs c.next.new.self in
    let key = string_bytes c.in-Some.key.now in
    let value = c.in-Some.value.now in
    let step : pairs here.key-iterator ≡ (key, value) ∷ rest = search rules in
    let put : c.put_copy.new.map ≡ put_pair key value here.copy = c.in_ok-put_copy.ensures in (
      ap (λ l. l ++ rest) put
          ∙ put_next here.copy key value rest c.args.self.now
          (ap (λ l. here.copy ++ l) (sym step) ∙ here.invariant.0) here.invariant.1,
      here.invariant.1,
    )
