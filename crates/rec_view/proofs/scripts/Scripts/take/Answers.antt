use Rattle.std.proofs.Common.{◌∷◌, subst, sym}
use Rattle.std.proofs.lemmas.Result.{on_ok_weaker}
use Rattle.rec_view.proofs.scripts.Scripts.take.Goals as goal
use Rattle.rec_view.proofs.ScriptsWalked.{walked_ends, walked_silent, walked_starts}
use Rattle.rec_view.specs.ScriptsWalked.{HasScripts}

pub returns-in_ok-open-in-Starts : goal.returns-in_ok-open-in-Starts
returns-in_ok-open-in-Starts c = record {
  ok = on_ok_weaker c.cut.result (λ cuts after has.
      subst (λ act. HasScripts c.args.at (act ∷ after) c.cut.new.self) (sym c.in-Starts.is)
      (walked_starts c.args.at after c.in-Starts.index c.args.self.now c.open.new.self
      c.cut.new.self has c.in_ok-open-in-Starts.ensures.ok cuts))
      c.cut.ensures.ok;
}

pub returns-in-Ends : goal.returns-in-Ends
returns-in-Ends c = record {
  ok = on_ok_weaker c.cut-in-Ends.result (λ cuts after has.
      subst (λ act. HasScripts c.args.at (act ∷ after) c.cut-in-Ends.new.self) (sym c.in-Ends.is)
      (walked_ends c.args.at after c.in-Ends.index c.args.self.now c.cut-in-Ends.new.self has cuts))
      c.cut-in-Ends.ensures.ok;
}

pub returns-in-Silent : goal.returns-in-Silent
returns-in-Silent c = record {
  ok = λ after has.
      subst (λ act. HasScripts c.args.at (act ∷ after) c.args.self.now) (sym c.in-Silent.is)
      (walked_silent c.args.at after c.args.self.now has);
}
