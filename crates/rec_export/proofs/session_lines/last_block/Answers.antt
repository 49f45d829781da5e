use Rattle.std.proofs.Common.{◌<◌, length, arith}
use Rattle.std.proofs.lemmas.Bool.Decides.{nat_tests}
use Rattle.rec_export.proofs.LineBlocks.{begins_last_block, found_before}
use Rattle.rec_export.proofs.session_lines.last_block.Goals as goal

pub returns : goal.returns
returns c =
    let text = c.args.text.now in
    let at = c.in_ok-newline.newline in
    let newline = c.in_ok-newline.ensures in
    let inside : c.in_ok-end.end < length text = let e = c.in_ok-end.ensures in
    grind (arith, nat_tests) in
    let found = found_before text c.in_ok-end.end at inside newline.0.high newline.1 in
    begins_last_block text at found.0 found.1
