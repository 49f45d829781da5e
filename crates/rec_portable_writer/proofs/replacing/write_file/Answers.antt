use Rattle.std.proofs.Common.{rules}
use Rattle.rec_portable_writer.proofs.Replacements.{put_more}
use Rattle.rec_portable_writer.proofs.replacing.write_file.Goals as goal

pub pieces-preserved : goal.pieces-preserved
pieces-preserved g c =
    let files = g.D.Disk.files in
    record {
      put =
          put_more (files c.args.disk.now) (files c.pieces.disk) (files c.append.new.self)
          c.args.path.now c.args.bytes.now c.pieces.at c.in_ok-count.count c.pieces.invariant.within
          c.pieces.invariant.put (search rules);
      later = search rules;
      within = search rules;
    }
