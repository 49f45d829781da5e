use Rattle.rec_trace.proofs.builder.Handing.hand_on.Goals as goal

pub returns-in-Ok-clause-handed : goal.returns-in-Ok-clause-handed
returns-in-Ok-clause-handed g c =
    λ before p. (c.accept.ensures before p, c.in-Ok.ensures.all)

pub returns-in-Err-clause-handed : goal.returns-in-Err-clause-handed
returns-in-Err-clause-handed g c =
    λ before p. (c.let_go.ensures before p, c.in-Err.ensures.part)
