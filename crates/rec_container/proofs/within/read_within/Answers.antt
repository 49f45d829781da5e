use Rattle.std.proofs.Common.{rules, ◌≡◌, ◌≤◌, ◌++◌, ◌+◌, length, take, ◌∙◌, ap}
use Rattle.std.proofs.Common.{arith, length-append, length-take, refl, subst, sym}
use Rattle.std.proofs.KnownBytes.{Consumes-kept, Consumes-trans}
use Rattle.std.specs.Io.KnownBytes.{Consumes}
use Rattle.rec_container.proofs.Results.{err_is}
use Rattle.rec_container.proofs.within.read_within.Goals as goal
use Rattle.rec_container.specs.Causes.{Rose}
use Rattle.rec_container.specs.declared.within.ReadError.TheVariants.{OutOfMemory}

pub returns-in_err-extend_from_slice-in-Ok-clause-err :
    goal.returns-in_err-extend_from_slice-in-Ok-clause-err
returns-in_err-extend_from_slice-in-Ok-clause-err g c =
    let given = take c.in-Ok.count c.read.new.buf in
    let got = c.pieces.bytes.items in
    let fits : length got + c.in-Ok.count ≤ c.args.limit + 1 = search rules in
    let long : length (got ++ given) ≡ length got + c.in-Ok.count = omega (
      arith,
      length-append got given,
      length-take c.in-Ok.count c.read.new.buf,
      c.in-Ok.ensures.bound,
    ) in
    err_is c.from_residual.result OutOfMemory _ c.from_residual.ensures.1 (
      c.in-Ok.ensures.faultless ∙ c.pieces.invariant.faultless,
      (
        length got + c.in-Ok.count,
        fits,
        (
          got ++ given,
          Consumes-trans _ _ _ got given c.pieces.invariant.gave c.in-Ok.ensures.bytes.0,
          long,
        ),
      ),
    )

pub returns-in-Err-clause-err : goal.returns-in-Err-clause-err
returns-in-Err-clause-err g c =
    let i = c.pieces.invariant in
    let got = c.pieces.bytes.items in
    let fits : length got ≤ c.args.limit = omega (arith, c.pieces.bytes.ok.0) in (
      subst (λ n. Rose n (g.S.Source.faults c.read.new.self))
          i.faultless c.in-Err.ensures.cause.failed,
      (length got, fits, (got, Consumes-kept _ _ _ got i.gave c.in-Err.ensures.bytes, refl)),
    )

pub pieces-preserved : goal.pieces-preserved
pieces-preserved g c =
    let given = take c.in-Ok.count c.read.new.buf in
    let got = c.pieces.bytes.items in
    let fits : length got + c.in-Ok.count ≤ c.args.limit + 1 = search rules in
    let long : length (got ++ given) ≡ length got + c.in-Ok.count = omega (
      arith,
      length-append got given,
      length-take c.in-Ok.count c.read.new.buf,
      c.in-Ok.ensures.bound,
    ) in
    let items : c.extend_from_slice.new.self.items ≡ got ++ given =
    c.in_ok-extend_from_slice-in-Ok.ensures.items in
    let longer : length c.extend_from_slice.new.self.items ≡ length got + c.in-Ok.count =
    ap length items ∙ long in
    record {
      gave =
          subst (Consumes (g.S.Source.left c.args.source.now) (g.S.Source.left c.read.new.self))
          (sym items)
          (Consumes-trans _ _ _ got given c.pieces.invariant.gave c.in-Ok.ensures.bytes.0);
      faultless = c.in-Ok.ensures.faultless ∙ c.pieces.invariant.faultless;
      within = omega (arith, longer, fits, c.extend_from_slice.new.self.ok.0);
    }

pub returns-clause-err : goal.returns-clause-err
returns-clause-err g c =
    let i = c.pieces.invariant in
    let got = c.pieces.bytes.items in
    let full : length got ≡ c.args.limit + 1 = omega (arith, c.pieces.bytes.ok.0) in
    (refl, i.faultless, (got, i.gave, full))
